-- Truncated and fitted texts of cells are safe, on one line and closed, if their tail is.
use Rattle.std.proofs.Common.{◌≡◌, ℕ, ◌-◌, ◌==◌, Bool, true, false, not, ◌||◌, List, [], ◌∷◌, ◌++◌, length, nat_le, if◌then◌else◌, IsTrue, refl, sym, ◌∙◌, ap, subst, arith, append-nil}
use Rattle.std.specs.Str.{IsUtf8, IsCharBoundary, chars}
use Rattle.std.proofs.lemmas.Bool.{cond_both, and_parts, and_from}
use Rattle.std.proofs.lemmas.Str.{IsUtf8-nil, IsCharBoundary-start, chars-IsAscii}
use Rattle.ansi_items.specs.Plain.{plain, marks, marks_up_to, has_escape}
use Rattle.ansi_items.proofs.Utf8Lemmas.{IsUtf8-plain}
use Rattle.ansi_style.specs.Rendition.{plain_style}
use Rattle.ansi_style.specs.Styled.{residue, style_of}
use Rattle.ansi_slice.specs.Cut.{interleaved}
use Rattle.ansi_safe.specs.Cells.{cell, is_cell}
use Rattle.ansi_safe.specs.Links.{link_of, IsClosed, link_end}
use Rattle.ansi_safe.specs.Safe.{is_safe, is_printing, is_printable_byte}
use Rattle.ansi_safe.specs.declared.policy.Links.TheVariants.{Keep}
use Rattle.ansi_safe.proofs.CellTextLemmas.{IsUtf8-cell, whole-cell, cell-stays}
use Rattle.std.proofs.lemmas.Bool.Decides.{nat_tests}
use Rattle.ansi_items.specs.Pieces.{Piece, Text, pieces_of}
use Rattle.ansi_items.proofs.PlainLemmas.{one_text, pieces_of-bare}
use Rattle.ansi_style.specs.Written.{close}
use Rattle.ansi_safe.proofs.FrontLemmas.{printable-ascii}
use Rattle.ansi_safe.proofs.SafeLemmas.{allowed-bare}
use Rattle.ansi_cells.proofs.ClosedLemmas.{marks-bare}
use Rattle.ansi_cells.proofs.OneLineLemmas.{Prints, printing_are_allowed, Prints-slice, Prints-cell, IsClean, clean-nil, clean-append, clean-cell, clean-closed, clean-interleaved, clean-pen_close, safe-cell, clean-safe, clean-one_line}
use Rattle.std.specs.List.{list_all}
use Rattle.ansi_cells.specs.declared.shown.Alignment.{Alignment}
use Rattle.ansi_cells.specs.declared.sides.Side.{Side}
use Rattle.ansi_clusters.specs.Columns.{columns}
use Rattle.ansi_cells.specs.Fitted.{fitted}
use Rattle.ansi_cells.specs.Shown.{has_tail, truncated_width, truncated_end, truncated, closing, closed_cell}
use Rattle.ansi_cells.specs.Slices.{sliced_up_to}
use Rattle.ansi_cells.specs.Sides.{fitting_tail, beside_tail, before_tail, is_cut_at_end, cut_before_end, truncated_at}
use Rattle.ansi_cells.proofs.CleanShownLemmas.{clean-padded, clean-sliced_cell}
use Rattle.ansi_cells.proofs.IndentLawLemmas.{IsShut, shut-append, shut-cell}
use Rattle.ansi_cells.proofs.LinkedLawLemmas.{truncated-whole, truncated-closed, padded-whole}
use Rattle.ansi_cells.specs.OneLine.{is_one_line}
use Rattle.ansi_cells.proofs.ShownLawLemmas.{end_boundary}
use Rattle.ansi_cells.proofs.SliceLawLemmas.{sliced-whole, sliced-closed}
use Rattle.ansi_cells.proofs.StyledLawLemmas.{truncated-residue, padded-is_closed}

-- a text is safe, on one line, whole and closed
pub record IsShown (t : List ℕ) : Type 0 where
  pub clean : IsClean t
  pub shut : IsShut t

-- as clauses say it, of a text that is one

pub shown-safe : {u t : List ℕ} → IsShown t → u ≡ t → IsTrue (is_safe Keep u)
shown-safe shown is = subst (λ v. IsTrue (is_safe Keep v)) (sym is) (clean-safe shown.clean)

pub shown-one_line : {u t : List ℕ} → IsShown t → u ≡ t → IsTrue (is_one_line u)
shown-one_line shown is = subst (λ v. IsTrue (is_one_line v)) (sym is) (clean-one_line shown.clean)

pub shown-closed : {u t : List ℕ} → IsShown t → u ≡ t → IsClosed u
shown-closed shown is = subst IsClosed (sym is) shown.shut.closed

either_tail : (P : List ℕ → Type 0) (b : Bool) (x : List ℕ) → P x → P [] → P (if b then x else [])
either_tail P true x is none = is
either_tail P false x is none = none

pub shut-nil : IsShut []
shut-nil = record { whole = refl; closed = record { style = refl; link = refl } }

pub shown-append : (u v : List ℕ) → IsShown u → IsShown v → IsShown (u ++ v)
shown-append u v first second = record { clean = clean-append first.clean second.clean; shut = shut-append u v first.shut second.shut }

pub shown-cell : (t : List ℕ) → IsUtf8 t → IsShown (closed_cell t)
shown-cell t utf8 = record { clean = clean-closed (cell t) (clean-cell t utf8); shut = shut-cell t utf8 }

-- a truncated text

module _ (t : List ℕ) (utf8 : IsUtf8 t) (width : ℕ) (tail : List ℕ) (is : IsShown tail) where
  abbrev u : List ℕ
  u = cell t

  abbrev end : ℕ
  end = truncated_end u width tail

  boundary : IsCharBoundary (plain u) end
  boundary = end_boundary (plain u) [] (IsUtf8-plain u (IsUtf8-cell t utf8)) IsUtf8-nil (truncated_width u width tail)

  front : IsClean (interleaved (plain u) 0 end (marks_up_to end (marks u)))
  front =
      let zero_boundary = IsCharBoundary-start (plain u) (IsUtf8-plain u (IsUtf8-cell t utf8)) in
      clean-interleaved u (λ p. nat_le p end) 0 end (IsUtf8-cell t utf8) (safe-cell t utf8) zero_boundary boundary (Prints-slice (plain u) 0 end (Prints-cell t utf8) zero_boundary boundary)

  truncated-clean : IsClean (truncated u width tail)
  unfolding truncated
  truncated-clean = clean-append front (clean-append (clean-pen_close u end) (either_tail IsClean (has_tail u width tail) tail is.clean clean-nil))

  truncated-shut : IsShut (truncated u width tail)
  truncated-shut =
      let whole = whole-cell t utf8 in
      let b = has_tail u width tail in
      record {
        whole = truncated-whole u width tail whole is.shut.whole;
        closed = record {
          style = truncated-residue u width tail whole is.shut.whole ∙ cond_both b (residue tail) plain_style (λ r. r ≡ plain_style) (λ yes. is.shut.closed.style) (λ no. refl);
          link = truncated-closed u width tail whole is.shut.whole ∙ cond_both b (link_of (marks tail)) [] (λ l. l ≡ []) (λ yes. is.shut.closed.link) (λ no. refl);
        };
      }

  pub shown-truncated : IsShown (truncated u width tail)
  shown-truncated = record { clean = truncated-clean; shut = truncated-shut }

  -- and padded

  pub shown-fitted : (alignment : Alignment) → IsShown (fitted u width alignment tail)
  shown-fitted alignment =
      let cut = truncated u width tail in
      record {
        clean = clean-padded cut width alignment truncated-clean;
        shut = record { whole = padded-whole cut width alignment truncated-shut.whole; closed = padded-is_closed cut width alignment truncated-shut.whole };
      }

  -- at a side

  shown-slice : (a b : ℕ) → IsShown (sliced_up_to u a b)
  shown-slice a b = record {
    clean = clean-sliced_cell t a b utf8;
    shut = record { whole = sliced-whole u a b (IsUtf8-cell t utf8) (whole-cell t utf8); closed = sliced-closed u a b (IsUtf8-cell t utf8) (whole-cell t utf8) };
  }

  shown-before_end : (side : Side) → IsShown (cut_before_end side u width tail)
  shown-before_end side =
      let room = beside_tail width tail in
      let first = before_tail side room in
      let all = columns (plain u) in
      let between : IsShown (fitting_tail width tail) = either_tail IsShown (nat_le (columns (plain tail)) width) tail is (record { clean = clean-nil; shut = shut-nil }) in
      shown-append _ _ (shown-append _ _ (shown-slice 0 first) between) (shown-slice (all - (room - first)) all)

  pub shown-truncated_at : (side : Side) → IsShown (truncated_at side u width tail)
  unfolding truncated_at
  shown-truncated_at side = cond_both (is_cut_at_end side u width) (truncated u width tail) (cut_before_end side u width tail) IsShown (λ at_end. shown-truncated) (λ before. shown-before_end side)

-- ---- a text that prints is a cell, closed

-- its pieces are one text
bare-all : (test : Piece → Bool) (t : List ℕ) → has_escape t ≡ false → test (Text t) ≡ true → list_all test (pieces_of t) ≡ true
bare-all test t bare is = ap (list_all test) (pieces_of-bare t bare) ∙ by t is
  where
    by : (x : List ℕ) → test (Text x) ≡ true → list_all test (one_text x) ≡ true
    by [] is = refl
    by (b ∷ x) is = and_from _ _ is refl

printing-on_line : (c : ℕ) → is_printing c ≡ true → not (c == 9 || (c == 10 || c == 13)) ≡ true
printing-on_line c is = grind (arith, nat_tests)

pub all-on_line : (cs : List ℕ) → list_all is_printing cs ≡ true → list_all (λ c. not (c == 9 || (c == 10 || c == 13))) cs ≡ true
all-on_line [] all = refl
all-on_line (c ∷ cs) all =
    let both = and_parts (is_printing c) (list_all is_printing cs) all in
    and_from _ _ (printing-on_line c both.0) (all-on_line cs both.1)

pub closing-bare : (t : List ℕ) → has_escape t ≡ false → closing t ≡ []
closing-bare t bare = ap (λ ms. link_end (link_of (marks_up_to (length (plain t)) ms)) ++ close (style_of (marks_up_to (length (plain t)) ms))) (marks-bare t bare)

pub closed_cell-printing : (t : List ℕ) → Prints t → closed_cell t ≡ t
closed_cell-printing t is =
    let allowed = printing_are_allowed (chars t) is.all in
    let bare = allowed-bare t is.utf8 allowed in
    let stays : is_cell t ≡ true = bare-all _ t bare (and_from _ _ allowed (all-on_line (chars t) is.all)) in
    ap (λ u. u ++ closing u) (cell-stays t is.utf8 stays) ∙ ap (λ e. t ++ e) (closing-bare t bare) ∙ append-nil t

printable-printing : (b : ℕ) → is_printable_byte b ≡ true → is_printing b ≡ true
printable-printing b is = grind (arith, nat_tests)

printable_are_printing : (x : List ℕ) → list_all is_printable_byte x ≡ true → list_all is_printing x ≡ true
printable_are_printing [] all = refl
printable_are_printing (b ∷ x) all =
    let both = and_parts (is_printable_byte b) (list_all is_printable_byte x) all in
    and_from _ _ (printable-printing b both.0) (printable_are_printing x both.1)

-- printable ASCII prints
pub Prints-printable : (x : List ℕ) → IsUtf8 x → list_all is_printable_byte x ≡ true → Prints x
Prints-printable x utf8 all = record { utf8 = utf8; all = ap (list_all is_printing) (chars-IsAscii x (printable-ascii x all)) ∙ printable_are_printing x all }

-- and so does U+2026
pub Prints-ellipsis : Prints (0xE2 ∷ 0x80 ∷ 0xA6 ∷ [])
unfolding lib.Utf8.encode chars
Prints-ellipsis = record { utf8 = (0x2026 ∷ [], (refl, refl)); all = refl }

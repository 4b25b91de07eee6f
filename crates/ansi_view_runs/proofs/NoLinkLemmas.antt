-- What changes make of a text without a link has none.
use Rattle.std.proofs.Common.{◌≡◌, ℕ, ◌+◌, ◌-◌, ◌==◌, Bool, true, false, ◌&&◌, List, [], ◌∷◌, ◌++◌, length, map, flat_map, fold, filter, chars, slice_range, nat_le, nat_lt, encode_utf8_all, Option, Some, None, is_some, unwrap_or, zero, suc, if◌then◌else◌, IsTrue, refl, sym, ◌∙◌, ap, ap₂, subst, append-nil}
use Rattle.std.specs.List.{AllByRecursion, list_all}
use Rattle.std.specs.Prelude.{◌≢◌, bytes_eq, ⊤}
use Rattle.std.specs.Str.{IsUtf8}
use Rattle.std.proofs.lemmas.Bool.{cond_both, and_parts, and_from}
use Rattle.std.proofs.lemmas.Grind.{flat_map-append}
use Rattle.std.proofs.lemmas.List.Folds.{list_all-append}
use Rattle.ansi_items.specs.Bytes.{is_plain_byte}
use Rattle.ansi_items.specs.Sequences.{is_sgr}
use Rattle.ansi_items.specs.Pieces.{Piece, Text, Sequence, LoneEscape, spelling, pieces_of, after_text, merged}
use Rattle.ansi_items.specs.Plain.{Mark, plain, plain_bytes, marks_of, marks, marks_up_to, is_whole}
use Rattle.ansi_items.proofs.JoinLemmas.{spelled, AllStandAnywhere, stand-append, pieces_of-spelled, is_whole-spelled, pieces_stand}
use Rattle.ansi_items.proofs.PlainLemmas.{all_plain_bytes, has_escape-bare, has_escape-plain, one_text, pieces_of-bare}
use Rattle.ansi_style.specs.declared.state.rendition.Rendition.{Rendition}
use Rattle.ansi_style.specs.Rendition.{IsStyle, plain_style}
use Rattle.ansi_style.specs.Reading.{after_marks}
use Rattle.ansi_style.specs.Styled.{style_at}
use Rattle.ansi_style.specs.Written.{start, start_codes, close, close_codes}
use Rattle.ansi_style.proofs.ColorLemmas.{is_code_byte, sgr_parameters-written}
use Rattle.ansi_style.proofs.MarkLemmas.{mark_further_on, marks_of-text, marks_of-mark}
use Rattle.ansi_style.proofs.ReadBackLemmas.{start_codes_are, close_codes_are, code_pieces, spelled-code_pieces, code_pieces_stand}
use Rattle.ansi_style.proofs.StyleLemmas.{IsStyle-style_at, IsStyle-apply_all, IsStyle-plain_style}
use Rattle.ansi_slice.specs.Cut.{interleaved}
use Rattle.ansi_slice.proofs.ShownLemmas.{at_places, interleaved_pieces, spelled-one_text, spelled-interleaved_pieces, interleaved_pieces_stand}
use Rattle.ansi_split.specs.Parts.{marks_past}
use Rattle.ansi_split.proofs.PartSliceLemmas.{own_places, marks_past-places, at_places-at_places}
use Rattle.ansi_safe.specs.declared.policy.Links.TheVariants.{Keep}
use Rattle.ansi_safe.specs.Cells.{cell, paragraph, placed, piece_in, run_in}
use Rattle.ansi_safe.specs.Links.{link_after_all, link_at, link_end, opens_link, pen_close}
use Rattle.ansi_safe.specs.Safe.{may_stay, is_safe}
use Rattle.ansi_safe.proofs.CellLemmas.{plain-placed}
use Rattle.ansi_safe.proofs.LinkLemmas.{link_of-fold, is_link-sgr}
use Rattle.ansi_safe.proofs.SafeLemmas.{AreGood, good_stand}
use Rattle.ansi_cells.specs.declared.shown.Alignment.{Alignment}
use Rattle.ansi_cells.specs.declared.sides.Side.{Side}
use Rattle.ansi_clusters.specs.Columns.{columns}
use Rattle.ansi_columns.specs.Edits as columns
use Rattle.ansi_cells.specs.Tabs.{since_stop, run_expanded, expanded}
use Rattle.ansi_clusters.specs.Lines.{lines, blanks}
use Rattle.ansi_cells.specs.Shown.{has_tail, truncated_end, truncated, missing, before_text, padded, closing, closed_cell}
use Rattle.ansi_cells.specs.Sides.{beside_tail, before_tail, is_cut_at_end, cut_before_end, truncated_at}
use Rattle.ansi_cells.specs.Slices.{has_no_column, bytes_from, bytes_up_to, blanks_before, blanks_after, opened_at, pen_open, slice_opening, slice_middle, slice_closing, sliced_up_to}
use Rattle.ansi_cells.specs.Wrapped.{CarriedPart, pen_end, line_over, lines_over, lent_lines, wrapped}
use Rattle.ansi_cells.proofs.OneLineLemmas.{safe_are_good}
use Rattle.ansi_view_runs.specs.Edits.{Change, OnColumns, Wrapped, changed}
use Rattle.ansi_view_runs.proofs.ExpandedLemmas.{expanded_pieces, expanded-good, spelled-expanded}

-- ---- texts whose sequences are all SGRs

abbrev pub only_sgr : Piece → Bool
only_sgr (Text w) = true
only_sgr (Sequence w) = is_sgr w
only_sgr LoneEscape = false

pub record HasNoLink (t : List ℕ) : Type 0 where
  pub pieces : List Piece
  pub stand : AllStandAnywhere pieces
  pub sgrs : list_all only_sgr pieces ≡ true
  pub spell : spelled pieces ≡ t

pub no_link-nil : HasNoLink []
no_link-nil = record { pieces = []; stand = tt; sgrs = refl; spell = refl }

pub no_link-append : {t u : List ℕ} → HasNoLink t → HasNoLink u → HasNoLink (t ++ u)
no_link-append {t} {u} a b = record {
  pieces = a.pieces ++ b.pieces;
  stand = stand-append a.pieces b.pieces a.stand b.stand;
  sgrs = list_all-append only_sgr a.pieces b.pieces ∙ and_from _ _ a.sgrs b.sgrs;
  spell = flat_map-append spelling a.pieces b.pieces ∙ ap₂ ◌++◌ a.spell b.spell;
}

either_text : (b : Bool) (x y : List ℕ) → HasNoLink x → HasNoLink y → HasNoLink (if b then x else y)
either_text true x y p q = p
either_text false x y p q = q

-- plain bytes
bare_pieces : (w : List ℕ) → list_all is_plain_byte w ≡ true → AllStandAnywhere (one_text w)
bare_pieces [] all = tt
bare_pieces (b ∷ w) all = (((λ e. cc e), all), tt)

bare_sgrs : (w : List ℕ) → list_all only_sgr (one_text w) ≡ true
bare_sgrs [] = refl
bare_sgrs (b ∷ w) = refl

pub no_link-bare : (w : List ℕ) → list_all is_plain_byte w ≡ true → HasNoLink w
no_link-bare w all = record { pieces = one_text w; stand = bare_pieces w all; sgrs = bare_sgrs w; spell = spelled-one_text w }

no_link-blanks : (n : ℕ) → HasNoLink (blanks n)
no_link-blanks n = no_link-bare (blanks n) (by n)
  where
    by : (n : ℕ) → list_all is_plain_byte (blanks n) ≡ true
    by zero = refl
    by (suc n) = by n

-- codes
codes_sgrs : (xs : List (List ℕ)) → list_all (list_all is_code_byte) xs ≡ true → list_all only_sgr (code_pieces xs) ≡ true
codes_sgrs [] all = refl
codes_sgrs (x ∷ xs) all =
    let both = and_parts (list_all is_code_byte x) (list_all (list_all is_code_byte) xs) all in
    and_from _ _ (ap is_some (sgr_parameters-written x both.0)) (codes_sgrs xs both.1)

no_link-start : (s : Rendition) → IsStyle s → HasNoLink (start s)
no_link-start s is =
    (let are = start_codes_are s is in record { pieces = code_pieces (start_codes s); stand = code_pieces_stand (start_codes s) are; sgrs = codes_sgrs (start_codes s) are.each; spell = spelled-code_pieces (start_codes s) })

pub no_link-close : (s : Rendition) → HasNoLink (close s)
no_link-close s =
    (let are = close_codes_are s in record { pieces = code_pieces (close_codes s); stand = code_pieces_stand (close_codes s) are; sgrs = codes_sgrs (close_codes s) are.each; spell = spelled-code_pieces (close_codes s) })

-- the pieces that the text has
sgrs-after_text : (w : List ℕ) (ps : List Piece) → list_all only_sgr ps ≡ true → list_all only_sgr (after_text w ps) ≡ true
sgrs-after_text w [] all = refl
sgrs-after_text w (Text v ∷ ps) all = all
sgrs-after_text w (Sequence v ∷ ps) all = all
sgrs-after_text w (LoneEscape ∷ ps) all = all

sgrs-merged : (ps : List Piece) → list_all only_sgr ps ≡ true → list_all only_sgr (merged ps) ≡ true
sgrs-merged [] all = refl
sgrs-merged (Text w ∷ ps) all = sgrs-after_text w (merged ps) (sgrs-merged ps all)
sgrs-merged (Sequence w ∷ ps) all = (let both = and_parts (is_sgr w) (list_all only_sgr ps) all in and_from _ _ both.0 (sgrs-merged ps both.1))
sgrs-merged (LoneEscape ∷ ps) all = absurd (cc all)

module _ (t : List ℕ) (none : HasNoLink t) where
  pub own-sgrs : list_all only_sgr (pieces_of t) ≡ true
  own-sgrs = subst (λ u. list_all only_sgr (pieces_of u) ≡ true) none.spell (ap (list_all only_sgr) (pieces_of-spelled none.pieces none.stand) ∙ sgrs-merged none.pieces none.sgrs)

  own-stand : AllStandAnywhere (pieces_of t)
  own-stand = pieces_stand t (subst (λ u. IsTrue (is_whole u)) none.spell (is_whole-spelled none.pieces none.stand))

-- ---- no link is open anywhere

abbrev AreSgrs : List Mark → Type 0
AreSgrs ms = AllByRecursion (λ (m : Mark). is_sgr m.bytes ≡ true) ms

sgrs-further : (n : ℕ) (ms : List Mark) → AreSgrs ms → AreSgrs (map (mark_further_on n) ms)
sgrs-further n [] all = tt
sgrs-further n (m ∷ ms) all = (all.0, sgrs-further n ms all.1)

sgrs-filter : (test : Mark → Bool) (ms : List Mark) → AreSgrs ms → AreSgrs (filter test ms)
sgrs-filter test [] all = tt
sgrs-filter test (m ∷ ms) all = cond_both (test m) (m ∷ filter test ms) (filter test ms) AreSgrs (λ yes. (all.0, sgrs-filter test ms all.1)) (λ no. sgrs-filter test ms all.1)

marks-sgrs : (ps : List Piece) → list_all only_sgr ps ≡ true → AreSgrs (marks_of ps)
marks-sgrs [] all = tt
marks-sgrs (Text w ∷ ps) all = subst AreSgrs (sym (marks_of-text w ps)) (sgrs-further (length w) (marks_of ps) (marks-sgrs ps all))
marks-sgrs (Sequence w ∷ ps) all =
    (let both = and_parts (is_sgr w) (list_all only_sgr ps) all in subst AreSgrs (sym (marks_of-mark (Sequence w) ps refl)) (both.0, marks-sgrs ps both.1))
marks-sgrs (LoneEscape ∷ ps) all = absurd (cc all)

link-none : (ms : List Mark) → AreSgrs ms → link_after_all [] ms ≡ []
link-none [] all = refl
link-none (m ∷ ms) all = ap (λ b. link_after_all (if b then (if opens_link m.bytes then m.bytes else []) else []) ms) (is_link-sgr m.bytes all.0) ∙ link-none ms all.1

module _ (t : List ℕ) (none : HasNoLink t) where
  places-none : (test : ℕ → Bool) → link_after_all [] (at_places test (marks t)) ≡ []
  places-none test = link-none (at_places test (marks t)) (sgrs-filter (λ (m : Mark). test m.place) (marks t) (marks-sgrs (pieces_of t) (own-sgrs t none)))

  link_at-none : (i : ℕ) → link_at t i ≡ []
  link_at-none i = link_of-fold (marks_up_to i (marks t)) ∙ places-none (λ p. nat_le p i)

  no_link-pen_close : (i : ℕ) → HasNoLink (pen_close t i)
  no_link-pen_close i = subst (λ link. HasNoLink (link_end link ++ close (style_at t i))) (sym (link_at-none i)) (no_link-close (style_at t i))

  pub no_link-closed : HasNoLink (t ++ closing t)
  no_link-closed = no_link-append none (no_link-pen_close (length (plain t)))

  sgrs-interleaved : (ps : List Piece) (test : ℕ → Bool) (a b : ℕ) → list_all only_sgr ps ≡ true → list_all only_sgr (interleaved_pieces test a b ps) ≡ true
  sgrs-interleaved [] test a b all = refl
  sgrs-interleaved (Text w ∷ ps) test a b all =
      list_all-append only_sgr (one_text (slice_range w a b)) _ ∙ and_from _ _ (bare_sgrs (slice_range w a b)) (sgrs-interleaved ps (λ p. test (length w + p)) (a - length w) (b - length w) all)
  sgrs-interleaved (Sequence w ∷ ps) test a b all =
      let both = and_parts (is_sgr w) (list_all only_sgr ps) all in
      let more = sgrs-interleaved ps test a b both.1 in
      cond_both (test 0) (Sequence w ∷ []) [] (λ qs. list_all only_sgr (qs ++ interleaved_pieces test a b ps) ≡ true) (λ yes. and_from _ _ both.0 more) (λ no. more)
  sgrs-interleaved (LoneEscape ∷ ps) test a b all = absurd (cc all)

  no_link-interleaved : (test : ℕ → Bool) (a b : ℕ) → HasNoLink (interleaved (plain t) a b (at_places test (marks t)))
  no_link-interleaved test a b = record {
    pieces = interleaved_pieces test a b (pieces_of t);
    stand = interleaved_pieces_stand (pieces_of t) test a b (own-stand t none);
    sgrs = sgrs-interleaved (pieces_of t) test a b (own-sgrs t none);
    spell = spelled-interleaved_pieces (pieces_of t) test a b;
  }

-- ---- the text of a cell and of a paragraph

-- a run in a place has no escape, since it is the plain text of a text
placed-bare : (place : _) (w : List ℕ) → w ≢ [] → list_all is_plain_byte w ≡ true → IsUtf8 w → list_all is_plain_byte (piece_in place (Text w)) ≡ true
placed-bare place [] filled all utf8 = absurd (filled refl)
placed-bare place (b ∷ w) filled all utf8 =
    let one : pieces_of (b ∷ w) ≡ Text (b ∷ w) ∷ [] = pieces_of-bare (b ∷ w) (has_escape-bare (b ∷ w) all) in
    let text : plain (placed place (b ∷ w)) ≡ piece_in place (Text (b ∷ w)) = plain-placed place (b ∷ w) utf8 ∙ ap (λ (ps : List Piece). encode_utf8_all (flat_map (λ (p : Piece). run_in place (chars (plain_bytes p))) ps)) one ∙ ap encode_utf8_all (append-nil (run_in place (chars (b ∷ w)))) in
    subst (λ v. list_all is_plain_byte v ≡ true) text (all_plain_bytes (plain (placed place (b ∷ w))) (has_escape-plain (placed place (b ∷ w))))

pieces-placed : (place : _) (ps : List Piece) → AreGood Keep ps → list_all only_sgr ps ≡ true → HasNoLink (flat_map (piece_in place) ps)
pieces-placed place [] good all = no_link-nil
pieces-placed place (Text w ∷ ps) good all = no_link-append (no_link-bare (piece_in place (Text w)) (placed-bare place w good.0.0 good.0.1 good.0.2)) (pieces-placed place ps good.1 all)
pieces-placed place (Sequence w ∷ ps) good all =
    let both = and_parts (is_sgr w) (list_all only_sgr ps) all in
    let here : HasNoLink w = record { pieces = Sequence w ∷ []; stand = (good.0.0, tt); sgrs = and_from (is_sgr w) true both.0 refl; spell = append-nil w } in
    no_link-append (either_text (may_stay Keep (Sequence w)) w [] here no_link-nil) (pieces-placed place ps good.1 both.1)
pieces-placed place (LoneEscape ∷ ps) good all = absurd good.0

-- a safe text without a link
pub record IsBare (t : List ℕ) : Type 0 where
  pub utf8 : IsUtf8 t
  pub safe : is_safe Keep t ≡ true
  pub none : HasNoLink t

no_link-placed : (place : _) (t : List ℕ) → IsBare t → HasNoLink (placed place t)
no_link-placed place t is = pieces-placed place (pieces_of t) (safe_are_good t is.utf8 is.safe) (own-sgrs t is.none)

no_link-cell : (t : List ℕ) → IsBare t → HasNoLink (cell t)
no_link-cell t is = search (no_link-placed, is)

no_link-paragraph : (t : List ℕ) → IsBare t → HasNoLink (paragraph t)
no_link-paragraph t is = search (no_link-placed, is)

pub no_link-closed_cell : (t : List ℕ) → IsBare t → HasNoLink (closed_cell t)
no_link-closed_cell t is = no_link-closed (cell t) (no_link-cell t is)

-- ---- padded, sliced and truncated texts

no_link-padded : (t : List ℕ) (width : ℕ) (alignment : Alignment) → HasNoLink t → HasNoLink (padded t width alignment)
unfolding padded
no_link-padded t width alignment none =
    let before = before_text alignment (missing t width) in
    no_link-append (no_link-append (no_link-blanks before) (no_link-closed t none)) (no_link-blanks (missing t width - before))

module _ (t : List ℕ) (none : HasNoLink t) where
  no_link-pen_open : (place : Option ℕ) → HasNoLink (pen_open t place)
  no_link-pen_open None = no_link-nil
  no_link-pen_open (Some i) = no_link-append (no_link-start (style_at t i) (IsStyle-style_at t i)) (subst HasNoLink (sym (link_at-none t none i)) no_link-nil)

  no_link-sliced : (a b : ℕ) → HasNoLink (sliced_up_to t a b)
  unfolding sliced_up_to
  no_link-sliced a b =
      let x = plain t in
      let to = bytes_up_to x b in
      let middle : HasNoLink (slice_middle t a b) =
      subst (λ ms. HasNoLink (interleaved x (bytes_from x a) to ms)) (sym (marks_past-places (opened_at x a) to (marks t))) (no_link-interleaved t none (own_places (opened_at x a) to) (bytes_from x a) to) in
      either_text (has_no_column x a b) [] (slice_opening t a b ++ slice_middle t a b ++ slice_closing t a b) no_link-nil
      (no_link-append (no_link-append (no_link-append (no_link-pen_open (opened_at x a)) (no_link-blanks (blanks_before x a b))) middle) (no_link-append (no_link-blanks (blanks_after x a b)) (no_link-pen_close t none to)))

  module _ (width : ℕ) (tail : List ℕ) (tail_none : HasNoLink tail) where
    no_link-truncated : HasNoLink (truncated t width tail)
    unfolding truncated
    no_link-truncated =
        let end = truncated_end t width tail in
        no_link-append (no_link-interleaved t none (λ p. nat_le p end) 0 end) (no_link-append (no_link-pen_close t none end) (either_text (has_tail t width tail) tail [] tail_none no_link-nil))

    no_link-before_end : (side : Side) → HasNoLink (cut_before_end side t width tail)
    no_link-before_end side =
        let room = beside_tail width tail in
        let first = before_tail side room in
        let all = columns (plain t) in
        no_link-append (no_link-append (no_link-sliced 0 first) (either_text (nat_le (columns (plain tail)) width) tail [] tail_none no_link-nil)) (no_link-sliced (all - (room - first)) all)

    no_link-truncated_at : (side : Side) → HasNoLink (truncated_at side t width tail)
    unfolding truncated_at
    no_link-truncated_at side = either_text (is_cut_at_end side t width) (truncated t width tail) (cut_before_end side t width tail) no_link-truncated (no_link-before_end side)

-- ---- the lines of a wrapped text

abbrev pub NoneHasLink : List (List ℕ) → Type 0
NoneHasLink ts = AllByRecursion HasNoLink ts

module _ (t : List ℕ) (none : HasNoLink t) where
  line-none : (style : Rendition) (test : ℕ → Bool) (i : ℕ × ℕ) → IsStyle style → HasNoLink (line_over style [] (plain t) (at_places test (marks t)) i).bytes
  unfolding line_over
  line-none style test i is_style =
      let own = at_places test (marks t) in
      let end : HasNoLink (pen_end (link_after_all [] own) (after_marks style own)) = subst (λ link. HasNoLink (pen_end link (after_marks style own))) (sym (places-none t none test)) (no_link-close (after_marks style own)) in
      let text = interleaved (plain t) i.0 i.1 own in
      either_text (i.0 == i.1 && length own == 0) [] (start style ++ [] ++ text ++ pen_end (link_after_all [] own) (after_marks style own)) no_link-nil
      (no_link-append (no_link-append (no_link-append (no_link-start style is_style) no_link-nil) (no_link-interleaved t none test i.0 i.1)) end)

  lines-none : (style : Rendition) (link : List ℕ) (ms : List Mark) (test : ℕ → Bool) (is : List (ℕ × ℕ)) → link ≡ [] → ms ≡ at_places test (marks t) → IsStyle style
      → AllByRecursion (λ (l : CarriedPart). HasNoLink l.bytes) (lines_over style link (plain t) ms is)
  unfolding lines_over
  lines-none style link ms test [] closed are is_style = tt
  lines-none style link ms test (i ∷ is) closed are is_style =
      let own = if length is == 0 then ms else marks_up_to i.1 ms in
      let up_to : marks_up_to i.1 ms ≡ at_places (λ p. test p && nat_le p i.1) (marks t) = ap (marks_up_to i.1) are ∙ at_places-at_places (λ p. nat_le p i.1) test (marks t) in
      let past : marks_past (Some i.1) ms ≡ at_places (λ p. test p && nat_lt i.1 p) (marks t) = ap (marks_past (Some i.1)) are ∙ at_places-at_places (λ p. nat_lt i.1 p) test (marks t) in
      let own_are : (f : ℕ → Bool) × (own ≡ at_places f (marks t)) =
      cond_both (length is == 0) ms (marks_up_to i.1 ms) (λ ms. (f : ℕ → Bool) × (ms ≡ at_places f (marks t))) (λ last. (test, are)) (λ more. ((λ p. test p && nat_le p i.1), up_to)) in
      let after : link_after_all link own ≡ [] = ap₂ link_after_all closed own_are.1 ∙ places-none t none own_are.0 in (
        subst (λ link. HasNoLink (line_over style link (plain t) own i).bytes) (sym closed) (subst (λ ms. HasNoLink (line_over style [] (plain t) ms i).bytes) (sym own_are.1) (line-none style own_are.0 i is_style)),
        lines-none (after_marks style own) (link_after_all link own) (marks_past (Some i.1) ms) (λ p. test p && nat_lt i.1 p) is after past (IsStyle-apply_all style (map (λ (m : Mark). m.bytes) own) is_style),
      )

lent-none : (lent : Bool) (ls : List CarriedPart) → AllByRecursion (λ (l : CarriedPart). HasNoLink l.bytes) ls → NoneHasLink (map (λ (l : CarriedPart). l.bytes) (lent_lines lent ls))
lent-none lent [] all = tt
lent-none lent (l ∷ ls) all = (all.0, lent-none lent ls all.1)

marks_every : (ms : List Mark) → ms ≡ at_places (λ p. true) ms
marks_every [] = refl
marks_every (m ∷ ms) = ap (λ ks. m ∷ ks) (marks_every ms)

no_link-wrapped : (t : List ℕ) (width : ℕ) → IsBare t → NoneHasLink (map (λ (l : CarriedPart). l.bytes) (wrapped t width))
no_link-wrapped t width is_bare =
    let p = paragraph t in
    let is = lines width (plain p) in
    lent-none (bytes_eq p t) (lines_over plain_style [] (plain p) (marks p) is) (lines-none p (no_link-paragraph t is_bare) plain_style [] (marks p) (λ p. true) is refl (marks_every (marks p)) IsStyle-plain_style)

-- ---- expanded texts

sgrs-expanded : (stop : ℕ) (x : List ℕ) (ps : List Piece) → list_all only_sgr ps ≡ true → list_all only_sgr (expanded_pieces stop x ps) ≡ true
sgrs-expanded stop x [] all = refl
sgrs-expanded stop x (Text w ∷ ps) all =
    let v = run_expanded stop x w in
    let qs = expanded_pieces stop (fold since_stop x w) ps in
    list_all-append only_sgr (one_text v) qs ∙ and_from (list_all only_sgr (one_text v)) (list_all only_sgr qs) (bare_sgrs v) (sgrs-expanded stop (fold since_stop x w) ps all)
sgrs-expanded stop x (Sequence w ∷ ps) all =
    (let both = and_parts (is_sgr w) (list_all only_sgr ps) all in and_from (is_sgr w) (list_all only_sgr (expanded_pieces stop x ps)) both.0 (sgrs-expanded stop x ps both.1))
sgrs-expanded stop x (LoneEscape ∷ ps) all = absurd (cc all)

no_link-expanded : (stop : ℕ) (t : List ℕ) → IsBare t → HasNoLink (expanded stop t)
no_link-expanded stop t is = record {
  pieces = expanded_pieces stop [] (pieces_of t);
  stand = good_stand Keep (expanded_pieces stop [] (pieces_of t)) (expanded-good stop [] (pieces_of t) (safe_are_good t is.utf8 is.safe));
  sgrs = sgrs-expanded stop [] (pieces_of t) (own-sgrs t is.none);
  spell = spelled-expanded stop [] (pieces_of t);
}

-- ---- so what a change makes of a text has no link, if its tail has none

abbrev pub TailHasNoLink : Change → Type 0
TailHasNoLink (OnColumns (columns.Truncated side width tail)) = HasNoLink (closed_cell tail)
TailHasNoLink (OnColumns (columns.Fitted width alignment tail)) = HasNoLink (closed_cell tail)
TailHasNoLink change = ⊤

pub no_link-changed : (change : Change) (t : List ℕ) → TailHasNoLink change → IsBare t → NoneHasLink (changed change t)
no_link-changed (OnColumns (columns.Expanded stop)) t tail is = (no_link-expanded stop t is, tt)
no_link-changed (OnColumns (columns.Sliced start end)) t tail is = (no_link-sliced (cell t) (no_link-cell t is) start (unwrap_or end (columns (plain (cell t)))), tt)
no_link-changed (OnColumns (columns.Truncated side width cut)) t tail is = (no_link-truncated_at (cell t) (no_link-cell t is) width (closed_cell cut) tail side, tt)
no_link-changed (OnColumns (columns.Padded width alignment)) t tail is = (no_link-padded (cell t) width alignment (no_link-cell t is), tt)
no_link-changed (OnColumns (columns.Fitted width alignment cut)) t tail is =
    (no_link-padded (truncated (cell t) width (closed_cell cut)) width alignment (no_link-truncated (cell t) (no_link-cell t is) width (closed_cell cut) tail), tt)
no_link-changed (Wrapped width) t tail is = no_link-wrapped t width is

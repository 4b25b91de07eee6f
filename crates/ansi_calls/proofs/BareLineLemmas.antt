-- A text of printable ASCII that fits into a line and doesn't end with a blank: it is the only line of its wrap.
use Rattle.std.proofs.Common.{◌≡◌, ◌≢◌, ℕ, ◌-◌, ◌<◌, ◌≤◌, ◌==◌, Bool, true, not, ◌&&◌, List, [], ◌∷◌, ◌++◌, length, map, chars, max, refl, sym, ◌∙◌, ap, arith, append-nil}
use Rattle.std.specs.List.{list_all}
use Rattle.std.specs.Str.{IsUtf8}
use Rattle.std.proofs.lemmas.Bool.{and_parts, and_from, or_left}
use Rattle.std.proofs.lemmas.Bool.Decides.{nat_tests}
use Rattle.std.proofs.lemmas.Str.{chars-IsAscii}
use Rattle.ansi_items.specs.Bytes.{is_plain_byte}
use Rattle.ansi_items.specs.Pieces.{Piece, Text, pieces_of}
use Rattle.ansi_items.specs.Plain.{plain, marks}
use Rattle.ansi_style.specs.Rendition.{plain_style}
use Rattle.ansi_style.specs.Written.{close}
use Rattle.ansi_items.proofs.PlainLemmas.{pieces_of-bare, has_escape-bare}
use Rattle.ansi_safe.specs.Cells.{paragraph}
use Rattle.ansi_safe.specs.Safe.{is_printable_byte, is_printing, is_allowed, all_allowed}
use Rattle.ansi_safe.proofs.CellLemmas.{placed-stays}
use Rattle.ansi_safe.proofs.FrontLemmas.{printable-ascii}
use Rattle.ansi_clusters.specs.Columns.{clusters}
use Rattle.ansi_clusters.specs.Lines.{lines_from}
use Rattle.ansi_cells.specs.PlainCells.{IsPlainCell, last_byte}
use Rattle.ansi_cells.specs.Wrapped.{CarriedPart, lines_over}
use Rattle.ansi_clusters.proofs.AsciiLemmas.{printable-prints}
use Rattle.ansi_wraps.proofs.LentLemmas.{wrapped-itself}
use Rattle.ansi_wraps.proofs.OnlyLineLemmas.{only-line, only-bytes}
use Rattle.ansi_cells.proofs.PlainCellLemmas.{plain-bare}
use Rattle.ansi_calls.specs.Columns.{wrapped_lines}

-- each character is allowed, is no TAB, and no ESC
one-stays : (c : ℕ) (after : List ℕ) → is_printable_byte c ≡ true → (is_allowed c after ≡ true) × (not (c == 9) ≡ true) × (is_plain_byte c ≡ true)
one-stays c after printable = (or_left (is_printing c) _ (printable-prints c printable), grind (arith, nat_tests), grind (arith, nat_tests))

all-stay : (cs : List ℕ) → list_all is_printable_byte cs ≡ true → (all_allowed cs ≡ true) × (list_all (λ c. not (c == 9)) cs ≡ true) × (list_all is_plain_byte cs ≡ true)
all-stay [] all = (refl, refl, refl)
all-stay (c ∷ cs) all =
    let both = and_parts (is_printable_byte c) (list_all is_printable_byte cs) all in
    let here = one-stays c cs both.0 in
    let rest = all-stay cs both.1 in
    (and_from _ _ here.0 rest.0, and_from _ _ here.1 rest.1, and_from _ _ here.2 rest.2)

module _ (b : ℕ) (w : List ℕ) (width : ℕ) (utf8 : IsUtf8 (b ∷ w)) (fits : length (b ∷ w) ≤ width) (all : list_all is_printable_byte (b ∷ w) ≡ true) where
  abbrev t : List ℕ
  t = b ∷ w

  pieces : pieces_of t ≡ Text t ∷ []
  pieces = pieces_of-bare t (has_escape-bare t (all-stay t all).2)

  of_pieces : (test : Piece → Bool) → test (Text t) ≡ true → list_all test (pieces_of t) ≡ true
  of_pieces test one = ap (list_all test) pieces ∙ and_from _ _ one refl

  one_run : (all_allowed (chars t) && list_all (λ c. not (c == 9)) (chars t)) ≡ true
  one_run =
      let each = all-stay t all in
      ap (λ cs. all_allowed cs && list_all (λ c. not (c == 9)) cs) (chars-IsAscii t (printable-ascii t all)) ∙ and_from _ _ each.0 each.1

  stays : paragraph t ≡ t
  stays = search (placed-stays, utf8, of_pieces, one_run)

  is : IsPlainCell t width (width - length t) plain_style (last_byte t)
  is = plain-bare t utf8 (omega arith) all (omega (arith, fits)) refl refl

  only : last_byte t ≢ 0x20 → wrapped_lines t width ≡ t ∷ []
  only solid =
      let some : max width 1 ≡ width = omega (arith, fits) in
      ap (map (λ (l : CarriedPart). l.bytes)) (wrapped-itself t width stays ∙ ap (λ n. lines_over plain_style [] (plain t) (marks t) (lines_from n 0 0 0 0 (clusters (plain t)))) some ∙ only-line is solid)
      ∙ ap (λ u. u ∷ []) (only-bytes t is.text.link_is) ∙ ap (λ s. (t ++ close s) ∷ []) (sym is.text.style_is) ∙ ap (λ u. u ∷ []) (append-nil t)

pub only-bare : (t : List ℕ) (width : ℕ) → IsUtf8 t → 0 < length t → length t ≤ width → list_all is_printable_byte t ≡ true → last_byte t ≢ 0x20 → wrapped_lines t width ≡ t ∷ []
only-bare [] width utf8 some fits all solid = absurd (omega (arith, some))
only-bare (b ∷ w) width utf8 some fits all solid = only b w width utf8 fits all solid

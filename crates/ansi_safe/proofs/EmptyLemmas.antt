-- Texts of which nothing is left in a cell.
use Rattle.std.proofs.Common.{◌≡◌, ℕ, Bool, true, false, not, ◌&&◌, ◌||◌, ◌==◌, List, [], ◌∷◌, ◌++◌, length, flat_map, chars, encode_utf8, encode_utf8_all, if◌then◌else◌, refl, ◌∙◌, ap, ap₂, arith, length-append}
use Rattle.std.specs.List.{list_all}
use Rattle.std.specs.Str.{byte}
use Rattle.std.proofs.lemmas.Bool.Decides.{nat_tests}
use Rattle.std.proofs.lemmas.Str.{encodes-append, length-encode, len_utf8_bounds}
use Rattle.ansi_items.specs.Pieces.{Piece, Text, Sequence, pieces_of}
use Rattle.ansi_safe.specs.declared.cells.Place.TheVariants.{Cell}
use Rattle.ansi_safe.specs.declared.policy.Links.TheVariants.{Keep}
use Rattle.ansi_safe.specs.Safe.{is_printing, may_stay}
use Rattle.ansi_safe.specs.Cells.{piece_in, cell, cell_char, is_dropped, is_left_out}
use Rattle.ansi_safe.proofs.CellLemmas.{run_in-chars}

-- two lists are empty if both are
empty-append : {A : Type 0} (x y : List A) → (length (x ++ y) == 0) ≡ (length x == 0) && (length y == 0)
empty-append [] y = refl
empty-append (a ∷ x) y = grind (arith, nat_tests)

-- a text is left out if each of its pieces is
empty-pieces : (ps : List Piece) → (length (flat_map (piece_in Cell) ps) == 0) ≡ list_all is_left_out ps
empty-pieces [] = refl
empty-pieces (p ∷ ps) = empty-append (piece_in Cell p) (flat_map (piece_in Cell) ps) ∙ ap (λ b. is_left_out p && b) (empty-pieces ps)

pub empty-cell : (t : List ℕ) → (length (cell t) == 0) ≡ list_all is_left_out (pieces_of t)
empty-cell t = empty-pieces (pieces_of t)

some-encoded : (c : ℕ) → (length (encode_utf8_all (c ∷ [])) == 0) ≡ false
some-encoded c = grind (arith, nat_tests, length-encode c, (len_utf8_bounds c).0, length-append (encode_utf8 c) [])

empty-char : (c : ℕ) → (length (encode_utf8_all (cell_char c)) == 0) ≡ is_dropped c
empty-char c = by (is_printing c) (c == byte "\t" || c == byte "\n")
  where
    by : (p w : Bool) → (length (encode_utf8_all (if p then c ∷ [] else if w then byte " " ∷ [] else [])) == 0) ≡ not (p || w)
    by true w = some-encoded c
    by false true = some-encoded (byte " ")
    by false false = refl

empty-chars : (cs : List ℕ) → (length (encode_utf8_all (flat_map cell_char cs)) == 0) ≡ list_all is_dropped cs
empty-chars [] = refl
empty-chars (c ∷ cs) =
    ap (λ x. length x == 0) (encodes-append (cell_char c) (flat_map cell_char cs)) ∙ empty-append (encode_utf8_all (cell_char c)) (encode_utf8_all (flat_map cell_char cs))
    ∙ ap₂ (λ x y. x && y) (empty-char c) (empty-chars cs)

-- a run is left out if each of its characters is
pub empty-run : (w : List ℕ) → is_left_out (Text w) ≡ list_all is_dropped (chars w)
empty-run w = ap (λ cs. length (encode_utf8_all cs) == 0) (run_in-chars (chars w)) ∙ empty-chars (chars w)

-- a sequence is left out if it may not stay
pub empty-sequence : (w : List ℕ) → is_left_out (Sequence w) ≡ not (may_stay Keep (Sequence w))
empty-sequence [] = refl
empty-sequence (b ∷ w) = by (may_stay Keep (Sequence (b ∷ w)))
  where
    by : (s : Bool) → (length (if s then b ∷ w else []) == 0) ≡ not s
    by true = grind (arith, nat_tests)
    by false = refl

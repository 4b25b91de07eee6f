-- The lines of what lines show, as positions of the plain text.
use Rattle.std.proofs.Common.{◌≡◌, ℕ, ◌+◌, ◌-◌, ◌≤◌, ◌==◌, Bool, true, false, List, [], ◌∷◌, ◌++◌, length, flat_map, encode_utf8, encode_utf8_all, All, if◌then◌else◌, refl, sym, ◌∙◌, ap, subst, arith, length-append}
use lib.Utf8.{scalars}
use Rattle.std.proofs.lemmas.Bool.Decides.{nat_tests}
use Rattle.std.specs.Str.{chars, IsUtf8, IsCharBoundary}
use Rattle.std.proofs.lemmas.Bool.{and_from, and_parts, le-leb}
use Rattle.std.proofs.lemmas.List.Elements.{All-map, All-weaker}
use Rattle.std.proofs.lemmas.Str.{encodes-append, encodes-chars, scalars-chars, IsCharBoundary-at_seam}
use Rattle.ansi_clusters.specs.Columns.{line_char, lined, least_place}
use Rattle.ansi_clusters.specs.Lines.{IsLine, IsGoodLine, lines, place_line, shown_lines}
use Rattle.ansi_clusters.specs.FirstFit.{AreShownLines}
use Rattle.ansi_clusters.proofs.ColumnLemmas.{bytes_of-append}
use Rattle.ansi_clusters.specs.declared.views.View.TheVariants.{Lined}
use Rattle.ansi_clusters.proofs.ViewLemmas.{seen-bytes, line_chars-scalar}
use Rattle.ansi_clusters.proofs.LineLawLemmas.{lines_are}
use Rattle.ansi_clusters.proofs.FirstFitLemmas.{lines-first_fit}
use Rattle.ansi_search.proofs.PositionLemmas.{boundary_is_good}

-- first fit has these lines
pub shown_lines-first_fit : (width : ℕ) (x : List ℕ) (ls : List (ℕ × ℕ)) → ls ≡ shown_lines width x → AreShownLines width x ls
shown_lines-first_fit width x ls same = record {
  shown = lines width (lined x);
  first_fit = lines-first_fit width (lined x);
  each = lines_are (lined x) width;
  places = same;
}

-- lines show no more bytes than there are, and those are characters
pub lined-length : (x : List ℕ) → IsUtf8 x → length (lined x) ≤ length x
lined-length x utf8 = omega (arith, seen-bytes Lined (chars x), ap length (encodes-chars x utf8))

pub lined-utf8 : (x : List ℕ) → IsUtf8 x → IsUtf8 (lined x)
lined-utf8 x utf8 = (flat_map line_char (chars x), (line_chars-scalar (chars x) (scalars-chars x utf8), refl))

-- ---- a place is between characters

-- characters are split there
record IsSplitAt (cs : List ℕ) (n : ℕ) : Type 0 where
  front : List ℕ
  rest : List ℕ
  all : cs ≡ front ++ rest
  size : n ≡ length (encode_utf8_all front)

least-split : (see : ℕ → List ℕ) (n : ℕ) (cs : List ℕ) → IsSplitAt cs (least_place see n cs)
least-split see n [] = record { front = []; rest = []; all = refl; size = refl }
least-split see n (c ∷ cs) = by (n == 0) (least-split see (n - length (encode_utf8_all (see c))) cs)
  where
    by : (none : Bool) → IsSplitAt cs (least_place see (n - length (encode_utf8_all (see c))) cs) → IsSplitAt (c ∷ cs) (if none then 0 else length (encode_utf8 c) + least_place see (n - length (encode_utf8_all (see c))) cs)
    by true later = record { front = []; rest = c ∷ cs; all = refl; size = refl }
    by false later = record {
      front = c ∷ later.front;
      rest = later.rest;
      all = ap (λ ds. c ∷ ds) later.all;
      size = omega (arith, later.size, length-append (encode_utf8 c) (encode_utf8_all later.front));
    }

least-boundary : (see : ℕ → List ℕ) (n : ℕ) (x : List ℕ) → IsUtf8 x → IsCharBoundary x (least_place see n (chars x))
least-boundary see n x utf8 =
    let at = least-split see n (chars x) in
    let split : x ≡ encode_utf8_all at.front ++ encode_utf8_all at.rest = sym (encodes-chars x utf8) ∙ ap encode_utf8_all at.all ∙ encodes-append at.front at.rest in
    let rest_utf8 : IsUtf8 (encode_utf8_all at.rest) = (at.rest, (scalars-rest at.front at.rest (ap scalars (sym at.all) ∙ scalars-chars x utf8), refl)) in
    subst (IsCharBoundary x) (sym at.size) (IsCharBoundary-at_seam x (encode_utf8_all at.front) (encode_utf8_all at.rest) split rest_utf8)
  where
    scalars-rest : (front rest : List ℕ) → scalars (front ++ rest) ≡ true → scalars rest ≡ true
    scalars-rest [] rest all = all
    scalars-rest (c ∷ front) rest all = scalars-rest front rest (and_parts _ _ all).1

-- a later one is further on
least-ordered : (see : ℕ → List ℕ) (n m : ℕ) (cs : List ℕ) → n ≤ m → least_place see n cs ≤ least_place see m cs
least-ordered see n m [] ordered = omega arith
least-ordered see n m (c ∷ cs) ordered =
    let k = length (encode_utf8_all (see c)) in
    by (n == 0) (m == 0) refl refl (least-ordered see (n - k) (m - k) cs (omega (arith, ordered)))
  where
    by : (a b : Bool) → (n == 0) ≡ a → (m == 0) ≡ b → least_place see (n - length (encode_utf8_all (see c))) cs ≤ least_place see (m - length (encode_utf8_all (see c))) cs
        → (if a then 0 else length (encode_utf8 c) + least_place see (n - length (encode_utf8_all (see c))) cs) ≤ (if b then 0 else length (encode_utf8 c) + least_place see (m - length (encode_utf8_all (see c))) cs)
    by true b first second later = omega arith
    by false true first second later = absurd (grind (arith, nat_tests, first, second, ordered))
    by false false first second later = omega (arith, later)

-- it may be cut from the text
pub shown_lines_are_good : (x : List ℕ) (width : ℕ) → IsUtf8 x → All (IsGoodLine x) (shown_lines width x)
shown_lines_are_good x width utf8 = All-map (IsGoodLine x) (place_line x) (lines width (lined x)) (All-weaker (IsLine (lined x) width) (λ line. IsGoodLine x (place_line x line)) good (lines width (lined x)) (lines_are (lined x) width))
  where
    good : (line : ℕ × ℕ) → IsLine (lined x) width line → IsGoodLine x (place_line x line)
    good line is =
        let a = (place_line x line).0 in
        let b = (place_line x line).1 in
        let ordered : line.0 ≤ line.1 = omega (arith, is.start, is.end, bytes_of-append is.before is.shown) in
        and_from _ _ (le-leb a b (least-ordered line_char line.0 line.1 (chars x) ordered))
        (and_from _ _ (boundary_is_good x a (least-boundary line_char line.0 x utf8)) (boundary_is_good x b (least-boundary line_char line.1 x utf8)))

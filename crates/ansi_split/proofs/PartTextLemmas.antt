-- How many parts there are; and that the plain texts of all parts of a whole text are the slices between the matches.
use Rattle.ansi_split.proofs.Common.{◌≡◌, ◌≢◌, ℕ, suc, ◌+◌, ◌≤◌, List, [], ◌∷◌, ◌++◌, map, length, filter_map, Option, Some, None, refl, sym, ◌∙◌, ap, ap₂, subst, arith, IsTrue, slice_range, slice_get, length-append, nat_le, if◌then◌else◌, cons_option, range_with_len, length-filter, count_by-le-length, encode_utf8, IsUtf8, chars, plain, is_whole, StyledByte, styled, unstyled, is_match, match_places, without_overlaps, parts, end_before, part_over, part, all_parts, AreSplit, slices_over, slice_range-map, unstyled-styled, IsUtf8-plain, CarriedPart, parts_from, plain_style}
use Rattle.std.specs.Prelude.{option_map}
use Rattle.std.proofs.lemmas.List.FromFn.{length-range_with_len}
use Rattle.std.proofs.lemmas.Slice.Zip.{length-zip}
use Rattle.ansi_split.proofs.IntervalLemmas.{ComesAfter, parts_come_after, end_before_index, end_before_index-suc, end_before_index-none}
use Rattle.ansi_split.proofs.PartSliceLemmas.{part_over_is}
use Rattle.ansi_split.proofs.StdSplitLemmas.{parts_are_split}
use Rattle.ansi_split.proofs.CharacterLemmas.{slices_over-parts-empty}

-- At most two more than bytes.

length-without_overlaps : (n e : ℕ) (ms : List ℕ) → length (without_overlaps n e ms) ≤ length ms
length-without_overlaps n e [] = omega arith
length-without_overlaps n e (m ∷ ms) = grind (arith, length-without_overlaps n (if nat_le e m then m + n else e) ms)

pub length-parts : (x p : List ℕ) → length (parts x p) ≤ length x + 2
length-parts x p =
    let taken = without_overlaps (length p) 0 (match_places x p) in
    omega (
      arith,
      length-zip (0 ∷ map (λ m. m + length p) taken) (taken ++ length x ∷ []),
      length-append taken (length x ∷ []),
      length-without_overlaps (length p) 0 (match_places x p),
      length-filter (is_match x p) (range_with_len 0 (length x + 1)),
      count_by-le-length (is_match x p) (range_with_len 0 (length x + 1)),
      length-range_with_len 0 (length x + 1),
    )

-- The plain text of a part.

plain-part_over : (t : List ℕ) (before : Option ℕ) (i : ℕ × ℕ) → IsTrue (is_whole t) → ComesAfter before i → plain (part_over t before i) ≡ slice_range (plain t) i.0 i.1
plain-part_over t before i whole after =
    sym (unstyled-styled (part_over t before i)) ∙ ap unstyled (part_over_is t before i whole after).styled_bytes
    ∙ sym (slice_range-map (λ (b : StyledByte). b.byte) (styled t) i.0 i.1) ∙ ap (λ x. slice_range x i.0 i.1) (unstyled-styled t)

-- The parts of all indices are those over the intervals, in turn.

abbrev pub parts_over : List ℕ → Option ℕ → List (ℕ × ℕ) → List (List ℕ)
parts_over t before is = map (λ (q : CarriedPart). q.bytes) (parts_from plain_style t before is)

-- if h gives the part of each index, from a on
filter_map-parts : (t : List ℕ) (h : ℕ → Option (List ℕ)) (before : Option ℕ) (is : List (ℕ × ℕ)) (a : ℕ)
    → ((j : ℕ) → h (a + j) ≡ option_map (part_over t (end_before_index before is j)) (slice_get is j)) → filter_map h (range_with_len a (length is)) ≡ parts_over t before is
filter_map-parts t h before [] a gives = refl
filter_map-parts t h before (i ∷ is) a gives =
    let same : a ≡ a + 0 = omega arith in
    let next : (j : ℕ) → a + 1 + j ≡ a + suc j = λ j. omega arith in
    ap₂ (λ o us. cons_option o us) (ap h same ∙ gives 0)
    (filter_map-parts t h (Some i.1) is (a + 1)
    (λ j. ap h (next j) ∙ gives (suc j) ∙ ap (λ b. option_map (part_over t b) (slice_get is j)) (end_before_index-suc before i is j)))

pub all_parts-over : (t p : List ℕ) → all_parts t p ≡ parts_over t None (parts (plain t) p)
all_parts-over t p =
    let is = parts (plain t) p in
    let first : (j : ℕ) → 0 + j ≡ j = λ j. omega arith in
    filter_map-parts t (part t p) None is 0
    (λ j. ap (part t p) (first j) ∙ ap (λ b. option_map (part_over t b) (slice_get is j)) (sym (end_before_index-none is j)))

length-parts_over : (t : List ℕ) (before : Option ℕ) (is : List (ℕ × ℕ)) → length (parts_over t before is) ≡ length is
length-parts_over t before [] = refl
length-parts_over t before (i ∷ is) = ap suc (length-parts_over t (Some i.1) is)

pub length-all_parts : (t p : List ℕ) → length (all_parts t p) ≡ length (parts (plain t) p)
length-all_parts t p = ap length (all_parts-over t p) ∙ length-parts_over t None (parts (plain t) p)

-- if g reads each part as v does its interval

map-parts_over : {Z : Type 0} (t : List ℕ) (g : List ℕ → Z) (v : ℕ × ℕ → Z) (before : Option ℕ) (is : List (ℕ × ℕ))
    → ((k : ℕ) (i : ℕ × ℕ) → slice_get is k ≡ Some i → g (part_over t (end_before_index before is k) i) ≡ v i) → map g (parts_over t before is) ≡ map v is
map-parts_over t g v before [] reads = refl
map-parts_over t g v before (i ∷ is) reads =
    ap₂ (λ y ys. y ∷ ys) (reads 0 i refl)
    (map-parts_over t g v (Some i.1) is (λ k j found. ap (λ b. g (part_over t b j)) (sym (end_before_index-suc before i is k)) ∙ reads (suc k) j found))

pub map-all_parts : {Z : Type 0} (t p : List ℕ) (g : List ℕ → Z) (v : ℕ × ℕ → Z)
    → ((k : ℕ) (i : ℕ × ℕ) → slice_get (parts (plain t) p) k ≡ Some i → g (part_over t (end_before (parts (plain t) p) k) i) ≡ v i)
    → map g (all_parts t p) ≡ map v (parts (plain t) p)
map-all_parts t p g v reads = grind (arith, all_parts-over, end_before_index-none, map-parts_over)

pub plain-all_parts : (t p : List ℕ) → IsTrue (is_whole t) → map plain (all_parts t p) ≡ slices_over (plain t) (parts (plain t) p)
plain-all_parts t p whole =
    map-all_parts t p plain (λ i. slice_range (plain t) i.0 i.1)
    (λ k i found. plain-part_over t (end_before (parts (plain t) p) k) i whole (parts_come_after (plain t) p k i found))

-- So they are what std's `split` gives, and at the empty pattern the characters.

pub plain_parts_are_split : (t p : List ℕ) → IsUtf8 t → IsUtf8 p → IsTrue (is_whole t) → p ≢ [] → AreSplit p (plain t) (map plain (all_parts t p))
plain_parts_are_split t p utf8 utf8_p whole some =
    subst (AreSplit p (plain t)) (sym (plain-all_parts t p whole)) (parts_are_split (plain t) p (IsUtf8-plain t utf8) utf8_p some)

pub plain-all_parts-empty : (t : List ℕ) → IsUtf8 t → IsTrue (is_whole t) → map plain (all_parts t []) ≡ [] ∷ (map encode_utf8 (chars (plain t)) ++ [] ∷ [])
plain-all_parts-empty t utf8 whole = plain-all_parts t [] whole ∙ slices_over-parts-empty (plain t) (IsUtf8-plain t utf8)

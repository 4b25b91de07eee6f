-- The parts for the empty pattern are the characters of a text, between two empty parts.
use Rattle.ansi_split.proofs.Common.{◌≡◌, ◌≢◌, ℕ, zero, suc, ◌+◌, ◌-◌, ◌%◌, ◌≤◌, Bool, true, false, List, [], ◌∷◌, ◌++◌, take, drop, length, map, filter, zip, nat_le, refl, sym, ◌∙◌, ap, ap₂, subst, arith, slice_index, slice_range, length-append, and-true, and_parts, and_from, and_right, cond-true, cond-false, le-leb, not_from_true, drop-drop, get_or-drop, filter-append, filter_agree, encodes-chars, scalars-chars, IsCharBoundary-from_drop, IsCharBoundary-start, IsCharBoundary-end, take-append_seam, drop-append_seam, encode_utf8, range_with_len, list_all, IsUtf8, IsCharBoundary, chars, encode_utf8_all, all_scalars, is_char_boundary, is_continuation_byte, no_character_goes_on, is_match, without_overlaps, parts, AreInTurn, slices_over, char_boundary_is}
use Rattle.ansi_split.proofs.BetweenLemmas.{filled_parts_in_turn}

-- the bytes of a character after the first go on with it
record IsCharBytes (w : List ℕ) : Type 0 where
  first : ℕ
  more : List ℕ
  spelled : w ≡ first ∷ more
  go_on : list_all is_continuation_byte more ≡ true

next_goes_on : (n : ℕ) → is_continuation_byte (128 + n % 64) ≡ true
next_goes_on n = and_from (nat_le 128 (128 + n % 64)) (nat_le (128 + n % 64) 191) (le-leb 128 (128 + n % 64) (omega arith)) (le-leb (128 + n % 64) 191 (omega arith))

char_bytes : (c : ℕ) → IsCharBytes (encode_utf8 c)
unfolding encode_utf8
char_bytes c = grind (arith, and_from, next_goes_on)

-- The boundaries of a text are where its characters begin, and its end.

abbrev boundaries_of : List ℕ → List ℕ
boundaries_of x = filter (is_char_boundary x) (range_with_len 0 (length x + 1))

-- no character begins at bytes that go on
no_boundaries : (x v rest : List ℕ) (k : ℕ) → drop k x ≡ v ++ rest → list_all is_continuation_byte v ≡ true → filter (is_char_boundary x) (range_with_len k (length v)) ≡ []
no_boundaries x [] rest k at all = refl
no_boundaries x (b ∷ v) rest k at all =
    let both = and_parts (is_continuation_byte b) (list_all is_continuation_byte v) all in
    let same : k + 0 ≡ k = omega arith in
    let here : slice_index x k ≡ b = ap (slice_index x) (sym same) ∙ sym (get_or-drop k x 0 0) ∙ ap (λ u. slice_index u 0) at in
    let inside : is_char_boundary x k ≡ false
    = and_right (nat_le k (length x)) (no_character_goes_on x k) (not_from_true (is_continuation_byte (slice_index x k)) (ap is_continuation_byte here ∙ both.0)) in
    let next : drop (k + 1) x ≡ v ++ rest = sym (drop-drop 1 k x) ∙ ap (drop 1) at in
    cond-false (is_char_boundary x k) _ _ inside ∙ no_boundaries x v rest (k + 1) next both.1

range-append : (k m n : ℕ) → range_with_len k (m + n) ≡ range_with_len k m ++ range_with_len (k + m) n
range-append k zero n = grind arith
range-append k (suc m) n =
    let size : suc m + n ≡ suc (m + n) = omega arith in
    let place : k + 1 + m ≡ k + suc m = omega arith in
    ap (range_with_len k) size ∙ ap (λ js. k ∷ js) (range-append (k + 1) m n ∙ ap (λ j. range_with_len (k + 1) m ++ range_with_len j n) place)

-- where characters begin that are left from the place k on, and where the last ends
abbrev character_starts : ℕ → List ℕ → List ℕ
character_starts k [] = k ∷ []
character_starts k (c ∷ cs) = k ∷ character_starts (k + length (encode_utf8 c)) cs

boundaries_from : (x cs : List ℕ) (k : ℕ) → all_scalars cs ≡ true → drop k x ≡ encode_utf8_all cs → k + length (encode_utf8_all cs) ≡ length x
    → filter (is_char_boundary x) (range_with_len k (length (encode_utf8_all cs) + 1)) ≡ character_starts k cs
boundaries_from x [] k scalars at end =
    let last : k ≡ length x = omega (arith, end) in
    cond-true (is_char_boundary x k) (k ∷ []) [] ((char_boundary_is x k).1 (subst (IsCharBoundary x) (sym last) (IsCharBoundary-end x)))
boundaries_from x (c ∷ cs) k scalars at end =
    let both = and_parts _ (all_scalars cs) scalars in
    let bytes = char_bytes c in
    let later = encode_utf8_all cs in
    let m = length bytes.more in
    let n = length later + 1 in
    let size : length (encode_utf8 c) ≡ suc m = ap length bytes.spelled in
    let total : length (encode_utf8 c ++ later) ≡ length (encode_utf8 c) + length later = length-append (encode_utf8 c) later in
    let count : length (encode_utf8 c ++ later) + 1 ≡ suc (m + n) = omega (arith, size, total) in
    let test = is_char_boundary x in
    let boundary : test k ≡ true = (char_boundary_is x k).1 (IsCharBoundary-from_drop x k (omega (arith, end)) (c ∷ cs, (scalars, sym at))) in
    let spelled : drop k x ≡ bytes.first ∷ (bytes.more ++ later) = at ∙ ap (λ w. w ++ later) bytes.spelled in
    let next : drop (k + 1) x ≡ bytes.more ++ later = sym (drop-drop 1 k x) ∙ ap (drop 1) spelled in
    let place : k + 1 + m ≡ k + length (encode_utf8 c) = omega (arith, size) in
    let after : drop (k + length (encode_utf8 c)) x ≡ later = sym (drop-drop (length (encode_utf8 c)) k x) ∙ ap (drop (length (encode_utf8 c))) at ∙ drop-append_seam (encode_utf8 c) later in
    ap (λ j. filter test (range_with_len k j)) count
    ∙ cond-true (test k) _ _ boundary
    ∙ ap (λ js. k ∷ js)
    (ap (filter test) (range-append (k + 1) m n) ∙ filter-append test (range_with_len (k + 1) m) (range_with_len (k + 1 + m) n)
    ∙ ap₂ (λ xs ys. xs ++ ys) (no_boundaries x bytes.more later (k + 1) next bytes.go_on)
    (ap (λ j. filter test (range_with_len j n)) place ∙ boundaries_from x cs (k + length (encode_utf8 c)) both.1 after (omega (arith, end, total))))

-- The empty pattern occurs at every boundary, and each of its matches is taken.

all_taken : (f : ℕ → Bool) (n k e : ℕ) → e ≤ k → without_overlaps 0 e (filter f (range_with_len k n)) ≡ filter f (range_with_len k n)
all_taken f zero k e from = refl
all_taken f (suc n) k e from = grind (arith, le-leb, all_taken f n (k + 1) (k + 0) (omega arith), all_taken f n (k + 1) e (omega (arith, from)))

-- the intervals before, between and after these places
abbrev intervals_around : List ℕ → ℕ → List ℕ → List (ℕ × ℕ)
intervals_around x e ks = zip (e ∷ map (λ m. m + 0) ks) (ks ++ length x ∷ [])

parts-empty : (x : List ℕ) → IsUtf8 x → parts x [] ≡ intervals_around x 0 (character_starts 0 (chars x))
parts-empty x utf8 =
    let cs = chars x in
    let spelled : encode_utf8_all cs ≡ x = encodes-chars x utf8 in
    let end : 0 + length (encode_utf8_all cs) ≡ length x = omega (arith, ap length spelled) in
    ap (intervals_around x 0)
    (ap (without_overlaps 0 0) (filter_agree (is_match x []) (is_char_boundary x) (λ i. and-true (is_char_boundary x i)) (range_with_len 0 (length x + 1)))
    ∙ all_taken (is_char_boundary x) (length x + 1) 0 0 (omega arith)
    ∙ ap (λ n. filter (is_char_boundary x) (range_with_len 0 (n + 1))) (sym (ap length spelled))
    ∙ boundaries_from x cs 0 (scalars-chars x utf8) (sym spelled) end)

slices_over-starts : (x cs : List ℕ) (k e : ℕ) → drop k x ≡ encode_utf8_all cs → k + length (encode_utf8_all cs) ≡ length x
    → slices_over x (intervals_around x e (character_starts k cs)) ≡ slice_range x e k ∷ (map encode_utf8 cs ++ [] ∷ [])
slices_over-starts x [] k e at end = grind arith
slices_over-starts x (c ∷ cs) k e at end =
    let later = encode_utf8_all cs in
    let n = length (encode_utf8 c) in
    let total : length (encode_utf8 c ++ later) ≡ n + length later = length-append (encode_utf8 c) later in
    let after : drop (k + n) x ≡ later = sym (drop-drop n k x) ∙ ap (drop n) at ∙ drop-append_seam (encode_utf8 c) later in
    let from : k + 0 ≡ k = omega arith in
    let size : k + n - (k + 0) ≡ n = omega arith in
    let char : slice_range x (k + 0) (k + n) ≡ encode_utf8 c = ap₂ take size (ap (λ n. drop n x) from ∙ at) ∙ take-append_seam (encode_utf8 c) later in
    ap (λ ys. slice_range x e k ∷ ys)
    (slices_over-starts x cs (k + n) (k + 0) after (omega (arith, end, total)) ∙ ap (λ y. y ∷ (map encode_utf8 cs ++ [] ∷ [])) char)

pub slices_over-parts-empty : (x : List ℕ) → IsUtf8 x → slices_over x (parts x []) ≡ [] ∷ (map encode_utf8 (chars x) ++ [] ∷ [])
slices_over-parts-empty x utf8 = grind (arith, encodes-chars, parts-empty, slices_over-starts)

-- They are in the text, in order.

starts_in_turn : (x cs : List ℕ) (k d e : ℕ) → all_scalars cs ≡ true → drop k x ≡ encode_utf8_all cs → k + length (encode_utf8_all cs) ≡ length x → d ≤ e → e ≤ k → IsCharBoundary x e
    → AreInTurn x d (intervals_around x e (character_starts k cs))
starts_in_turn x [] k d e scalars at end before from boundary = grind (arith, IsCharBoundary-end, IsCharBoundary-from_drop)
starts_in_turn x (c ∷ cs) k d e scalars at end before from boundary =
    let later = encode_utf8_all cs in
    let n = length (encode_utf8 c) in
    let total : length (encode_utf8 c ++ later) ≡ n + length later = length-append (encode_utf8 c) later in
    let after : drop (k + n) x ≡ later = sym (drop-drop n k x) ∙ ap (drop n) at ∙ drop-append_seam (encode_utf8 c) later in
    let here : IsCharBoundary x k = IsCharBoundary-from_drop x k (omega (arith, end)) (c ∷ cs, (scalars, sym at)) in
    let same : k ≡ k + 0 = omega arith in (
      before,
      from,
      boundary,
      here,
      starts_in_turn x cs (k + n) k (k + 0) (and_parts _ (all_scalars cs) scalars).1 after (omega (arith, end, total)) (omega arith) (omega arith) (subst (IsCharBoundary x) same here),
    )

empty_parts_in_turn : (x : List ℕ) → IsUtf8 x → AreInTurn x 0 (parts x [])
empty_parts_in_turn x utf8 = grind (arith, IsCharBoundary-start, encodes-chars, parts-empty, scalars-chars, starts_in_turn)

-- whatever the pattern
pub parts_in_turn : (x p : List ℕ) → IsUtf8 x → IsUtf8 p → AreInTurn x 0 (parts x p)
parts_in_turn x [] utf8 utf8_p = empty_parts_in_turn x utf8
parts_in_turn x (b ∷ p) utf8 utf8_p = (let some : (b ∷ p) ≢ [] = λ e. cc in filled_parts_in_turn x (b ∷ p) utf8 utf8_p some)

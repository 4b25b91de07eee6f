-- What is left of a text without the white space at its ends is the slice over an interval.
use Rattle.ansi_slice.proofs.Common.{◌≡◌, ℕ, ◌+◌, ◌-◌, ◌≤◌, true, List, [], ◌∷◌, ◌++◌, take, drop, length, refl, sym, ◌∙◌, ap, ap₂, subst, arith, slice_range, length-append, append_assoc, cond_both, and_parts, encodes-append, chars-encodes, IsCharBoundary-at_seam, take-append_seam, drop-append_seam, IsUtf8, IsCharBoundary, chars, trim_start, trim_end, trim, skip_leading_whitespace, drop_trailing_whitespace, encode_utf8_all, all_scalars, is_whitespace, trim_interval}
use Rattle.ansi_search.proofs.WhiteSpaceLemmas.{drop_trailing_whitespace-splits}

-- The characters that are taken off are at the front.

skip_leading_whitespace-splits : (cs : List ℕ) → (front : List ℕ) × (cs ≡ front ++ skip_leading_whitespace cs)
skip_leading_whitespace-splits [] = ([], refl)
skip_leading_whitespace-splits (c ∷ cs) =
    let later = skip_leading_whitespace-splits cs in
    cond_both (is_whitespace c) (skip_leading_whitespace cs) (c ∷ cs) (λ rest. (front : List ℕ) × (c ∷ cs ≡ front ++ rest))
    (λ white. (c ∷ later.0, ap (λ v. c ∷ v) later.1))
    (λ other. ([], refl))

all_scalars-after : (cs ds : List ℕ) → all_scalars (cs ++ ds) ≡ true → all_scalars ds ≡ true
all_scalars-after [] ds all = all
all_scalars-after (c ∷ cs) ds all = all_scalars-after cs ds (and_parts _ _ all).1

-- a text is what a trim takes off its front, what is left, and what it takes off its end
record IsTrimmed (x : List ℕ) : Type 0 where
  front : List ℕ
  back : List ℕ
  started : x ≡ front ++ trim_start x
  ended : trim_start x ≡ trim x ++ back
  start_is_utf8 : IsUtf8 (trim_start x)
  back_is_utf8 : IsUtf8 back

is_trimmed : (x : List ℕ) → IsUtf8 x → IsTrimmed x
unfolding trim_start trim_end
is_trimmed x utf8 =
    let cs = utf8.0 in
    let read : chars x ≡ cs = ap chars (sym utf8.1.1) ∙ chars-encodes cs utf8.1.0 in
    let left = skip_leading_whitespace cs in
    let skip = skip_leading_whitespace-splits cs in
    let start : trim_start x ≡ encode_utf8_all left = ap (λ ds. encode_utf8_all (skip_leading_whitespace ds)) read in
    let left_scalars = all_scalars-after skip.0 left (sym (ap all_scalars skip.1) ∙ utf8.1.0) in
    let inner = drop_trailing_whitespace left in
    let drops = drop_trailing_whitespace-splits left in
    let end : trim x ≡ encode_utf8_all inner = ap (λ ds. encode_utf8_all (drop_trailing_whitespace ds)) (ap chars start ∙ chars-encodes left left_scalars) in
    let back_scalars = all_scalars-after inner drops.0 (sym (ap all_scalars drops.1) ∙ left_scalars) in
    record {
      front = encode_utf8_all skip.0;
      back = encode_utf8_all drops.0;
      started = sym utf8.1.1 ∙ ap encode_utf8_all skip.1 ∙ encodes-append skip.0 left ∙ ap (λ v. encode_utf8_all skip.0 ++ v) (sym start);
      ended = start ∙ ap encode_utf8_all drops.1 ∙ encodes-append inner drops.0 ∙ ap (λ v. v ++ encode_utf8_all drops.0) (sym end);
      start_is_utf8 = (left, (left_scalars, sym start));
      back_is_utf8 = (drops.0, (back_scalars, refl));
    }

pub length-trim_start : (x : List ℕ) → IsUtf8 x → length (trim_start x) ≤ length x
length-trim_start x utf8 = (let is = is_trimmed x utf8 in omega (arith, ap length is.started, length-append is.front (trim_start x)))

-- the interval begins after what is taken off the front
trim_interval-start : (x : List ℕ) (is : IsTrimmed x) → (trim_interval x).0 ≡ length is.front
trim_interval-start x is = omega (arith, ap length is.started, length-append is.front (trim_start x))

-- what is left of the text from there on
pub drop-trim_interval : (x : List ℕ) → IsUtf8 x → drop (trim_interval x).0 x ≡ trim_start x
drop-trim_interval x utf8 =
    let is = is_trimmed x utf8 in
    ap (λ n. drop n x) (trim_interval-start x is) ∙ ap (drop (length is.front)) is.started ∙ drop-append_seam is.front (trim_start x)

-- the slice over the interval is std's trim
pub slice_range-trim_interval : (x : List ℕ) → IsUtf8 x → slice_range x (trim_interval x).0 (trim_interval x).1 ≡ trim x
slice_range-trim_interval x utf8 =
    let is = is_trimmed x utf8 in
    let from = (trim_interval x).0 in
    let count : from + length (trim x) - from ≡ length (trim x) = omega arith in
    ap₂ take count (drop-trim_interval x utf8) ∙ ap (take (length (trim x))) is.ended ∙ take-append_seam (trim x) is.back

-- The interval begins and ends at characters.

trim_begins : (x : List ℕ) → IsUtf8 x → IsCharBoundary x (trim_interval x).0
trim_begins x utf8 =
    let is = is_trimmed x utf8 in
    subst (IsCharBoundary x) (sym (trim_interval-start x is)) (IsCharBoundary-at_seam x is.front (trim_start x) is.started is.start_is_utf8)

trim_ends : (x : List ℕ) → IsUtf8 x → IsCharBoundary x (trim_interval x).1
trim_ends x utf8 =
    let is = is_trimmed x utf8 in
    let seam : x ≡ (is.front ++ trim x) ++ is.back
    = is.started ∙ ap (λ v. is.front ++ v) is.ended ∙ sym (append_assoc is.front (trim x) is.back) in
    let end : length (is.front ++ trim x) ≡ (trim_interval x).1 = length-append is.front (trim x) ∙ ap (λ n. n + length (trim x)) (sym (trim_interval-start x is)) in
    subst (IsCharBoundary x) end (IsCharBoundary-at_seam x (is.front ++ trim x) is.back seam is.back_is_utf8)

pub trim_interval_boundaries : (x : List ℕ) → IsUtf8 x → IsCharBoundary x (trim_interval x).0 × IsCharBoundary x (trim_interval x).1
trim_interval_boundaries x utf8 = (trim_begins x utf8, trim_ends x utf8)

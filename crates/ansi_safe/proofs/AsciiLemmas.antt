-- Words of bytes whose high bits aren't set.
use Rattle.std.proofs.Common.{◌≡◌, ◌↔◌, IsTrue, Bool, true, refl, ℕ, zero, suc, ◌+◌, ◌-◌, ◌*◌, ◌<◌, ◌≤◌, List, ◌++◌, length, take, drop, take-add, take-append-drop, length-take, get_or, bit_and, sym, ap, ◌∙◌, subst, inl, inr, arith, w8, w32, w64, Fits}
use Rattle.std.specs.Int.{w128}
use Rattle.std.specs.Str.{IsAscii, IsUtf8}
use Rattle.simdutf8.proofs.StepsLemmas.{IsUtf8-after_ascii, IsUtf8-append_ascii}
use Rattle.std.proofs.lemmas.Bool.{cases_lt}
use Rattle.std.proofs.lemmas.List.{get_or-take, get_or_past, length-drop, drop-drop}
use Rattle.std.proofs.lemmas.Simd.{get_or-chunk}
use Rattle.std.proofs.lemmas.Str.{IsAscii-append, IsUtf8-from_ascii}
use Rattle.std.proofs.lemmas.Nat.{and_block}
use Rattle.std.proofs.lemmas.Nat.Bits.{and_pow}
use Rattle.std.specs.Int.{from_le_bytes}
use Rattle.std.specs.Slice.Scan.{digits_from}

-- where no high bit of a word is set, each byte is ASCII
no_high_bit : (byte : ℕ → ℕ) → ((i : ℕ) → byte i < 256) → (n k : ℕ) → bit_and (digits_from byte k n) (digits_from (λ _. 128) k n) ≡ 0
    → (i : ℕ) → k ≤ i → i < k + n → byte i < 128
no_high_bit byte small zero k none i from to = absurd (omega arith)
no_high_bit byte small (suc n) k none i from to =
    let r = digits_from byte (suc k) n in
    let s = digits_from (λ _. 128) (suc k) n in
    let word : byte k + 256 * r ≡ r * 256 + byte k = omega arith in
    let bits : 128 + 256 * s ≡ s * 256 + 128 = omega arith in
    let both : bit_and (byte k + 256 * r) (128 + 256 * s) ≡ bit_and r s * 256 + bit_and (byte k) 128 = (λ j. bit_and (word j) (bits j)) ∙ and_block 8 r s (byte k) 128 (small k) (omega arith) in
    let here : byte k < 128 = omega (arith, and_pow (byte k) 7, small k) in
    elim (cases_lt k i) [ inl l ↦ no_high_bit byte small n (suc k) (omega arith) i (omega arith) (omega arith) | inr g ↦ subst (λ j. byte j < 128) (omega arith) here ]

-- the bytes of a front of the text fit
front-fits : (n : ℕ) (bs : List ℕ) → ((i : ℕ) → Fits w8 (get_or bs i 0)) → (i : ℕ) → get_or (take n bs) i 0 < 256
front-fits n bs fit i = elim (cases_lt i n) [ inl l ↦ omega (arith, get_or-take n bs i 0 l, (fit i).fits) | inr g ↦ omega (arith, get_or_past (take n bs) i 0, length-take {A = ℕ}) ]

-- where no high bit of its first n bytes is set, they are ASCII
no_high_bit-ascii : (n : ℕ) (bs : List ℕ) → ((i : ℕ) → Fits w8 (get_or bs i 0)) → bit_and (digits_from (λ i. get_or (take n bs) i 0) 0 n) (digits_from (λ _. 128) 0 n) ≡ 0 → IsAscii (take n bs)
no_high_bit-ascii n bs fit none i = elim (cases_lt i n) [
  | inl l ↦ no_high_bit (λ j. get_or (take n bs) j 0) (front-fits n bs fit) n 0 none i (omega arith) (omega arith)
  | inr g ↦ omega (arith, get_or_past (take n bs) i 0, length-take {A = ℕ})
]

pub ascii_4 : (bs : List ℕ) → ((i : ℕ) → Fits w8 (get_or bs i 0)) → bit_and (from_le_bytes w32 (take 4 bs)) 0x8080_8080 ≡ 0 → IsAscii (take 4 bs)
ascii_4 bs fit none =
    let word : digits_from (λ k. get_or (take 4 bs) k 0) 0 4 ≡ from_le_bytes w32 (take 4 bs) = omega arith in
    no_high_bit-ascii 4 bs fit (ap (λ w. bit_and w 0x8080_8080) word ∙ none)

pub ascii_8 : (bs : List ℕ) → ((i : ℕ) → Fits w8 (get_or bs i 0)) → bit_and (from_le_bytes w64 (take 8 bs)) 0x8080_8080_8080_8080 ≡ 0 → IsAscii (take 8 bs)
ascii_8 bs fit none =
    let word : digits_from (λ k. get_or (take 8 bs) k 0) 0 8 ≡ from_le_bytes w64 (take 8 bs) = omega arith in
    no_high_bit-ascii 8 bs fit (ap (λ w. bit_and w 0x8080_8080_8080_8080) word ∙ none)

pub ascii_16 : (bs : List ℕ) → ((i : ℕ) → Fits w8 (get_or bs i 0)) → bit_and (from_le_bytes w128 (take 16 bs)) 0x8080_8080_8080_8080_8080_8080_8080_8080 ≡ 0 → IsAscii (take 16 bs)
ascii_16 bs fit none =
    let word : digits_from (λ k. get_or (take 16 bs) k 0) 0 16 ≡ from_le_bytes w128 (take 16 bs) = omega arith in
    no_high_bit-ascii 16 bs fit (ap (λ w. bit_and w 0x8080_8080_8080_8080_8080_8080_8080_8080) word ∙ none)

-- the bytes up to `at`, and n from m on, are all
pub ascii_covered : (at m n : ℕ) (bs : List ℕ) → IsAscii (take at bs) → IsAscii (take n (drop m bs)) → m ≤ at → length bs ≤ m + n → IsAscii bs
ascii_covered at m n bs front back from to i = elim (cases_lt i at) [
  | inl l ↦ omega (arith, front i, get_or-take at bs i 0 l)
  | inr g ↦ elim (cases_lt i (length bs)) [
    | inl l ↦ (let is : get_or (take n (drop m bs)) (i - m) 0 ≡ get_or bs (m + (i - m)) 0 = get_or-chunk m n bs (i - m) 0 (omega arith) in
        let here : m + (i - m) ≡ i = omega arith in
        omega (arith, back (i - m), is, ap (λ k. get_or bs k 0) here))
    | inr h ↦ omega (arith, get_or_past bs i 0 h)
  ]
]

-- n more bytes
pub ascii_more : (at n : ℕ) (bs : List ℕ) → IsAscii (take at bs) → IsAscii (take n (drop at bs)) → IsAscii (take (at + n) bs)
ascii_more at n bs front more = subst IsAscii (sym (take-add at n bs)) (IsAscii-append _ _ front more)

-- what follows ASCII decides if all are UTF-8
pub utf8_by_rest : (n : ℕ) (bs : List ℕ) (b : Bool) → IsAscii (take n bs) → IsTrue b ↔ IsUtf8 (drop n bs) → IsTrue b ↔ IsUtf8 bs
utf8_by_rest n bs b front rest =
    let all = rw take-append-drop at (IsUtf8-after_ascii (take n bs) (drop n bs) front) in
    (λ is. all.1 (rest.0 is), λ utf8. rest.1 (all.0 utf8))

-- so does what precedes ASCII: the last n of the bytes before `end` are left out
pub utf8_before_ascii : (n end : ℕ) (bs : List ℕ) → n ≤ end → IsUtf8 (take end bs) ↔ IsUtf8 bs → IsAscii (take n (drop (end - n) bs)) → IsUtf8 (take (end - n) bs) ↔ IsUtf8 bs
utf8_before_ascii n end bs room decides last =
    let at : end - n + n ≡ end = omega arith in
    let joined : take end bs ≡ take (end - n) bs ++ take n (drop (end - n) bs) = ap (λ k. take k bs) (sym at) ∙ take-add (end - n) n bs in
    let front = rw (← joined) at (IsUtf8-append_ascii (take (end - n) bs) (take n (drop (end - n) bs)) last) in
    (λ utf8. decides.0 (front.1 utf8), λ utf8. front.0 (decides.1 utf8))

pub utf8_if_ascii : (bs : List ℕ) (b : Bool) → b ≡ true → IsAscii bs → IsTrue b ↔ IsUtf8 bs
utf8_if_ascii bs b is ascii = (λ _. IsUtf8-from_ascii bs ascii, λ _. subst IsTrue (sym is) refl)

-- all bytes before these are ASCII
pub record IsAsciiSoFar (bs rest : List ℕ) : Type 0 where
  pub within : length rest ≤ length bs
  pub is : rest ≡ drop (length bs - length rest) bs
  pub front : IsAscii (take (length bs - length rest) bs)

pub so_far-more : (n : ℕ) (bs rest next : List ℕ) → IsAsciiSoFar bs rest → n ≤ length rest → IsAscii (take n rest) → next ≡ drop n rest → IsAsciiSoFar bs next
so_far-more n bs rest next so_far room more next_is =
    let at = length bs - length rest in
    let size : length next ≡ length rest - n = ap length next_is ∙ length-drop n rest in
    let on : at + n ≡ length bs - length next = omega (arith, size, so_far.within) in
    record {
      within = omega (arith, size, so_far.within);
      is = next_is ∙ ap (drop n) so_far.is ∙ drop-drop n at bs ∙ ap (λ k. drop k bs) on;
      front = subst (λ k. IsAscii (take k bs)) on (ascii_more at n bs so_far.front (subst (λ u. IsAscii (take n u)) so_far.is more));
    }

pub so_far-decides : (bs rest : List ℕ) (b : Bool) → IsAsciiSoFar bs rest → IsTrue b ↔ IsUtf8 rest → IsTrue b ↔ IsUtf8 bs
so_far-decides bs rest b so_far decides = utf8_by_rest (length bs - length rest) bs b so_far.front (subst (λ u. IsTrue b ↔ IsUtf8 u) so_far.is decides)

-- the last n bytes are ASCII too
pub so_far-end : (n : ℕ) (bs rest : List ℕ) (b : Bool) → IsAsciiSoFar bs rest → length rest ≤ n → n ≤ length bs → b ≡ true → IsAscii (take n (drop (length bs - n) bs)) → IsTrue b ↔ IsUtf8 bs
so_far-end n bs rest b so_far left room is back = utf8_if_ascii bs b is (ascii_covered (length bs - length rest) (length bs - n) n bs so_far.front back (omega arith) (omega arith))

-- bytes of which the first n and the last n, which meet, are ASCII
pub utf8_by_ends : (n : ℕ) (bs : List ℕ) → n ≤ length bs → length bs ≤ n + n → IsAscii (take n bs) → IsAscii (take n (drop (length bs - n) bs)) → IsUtf8 bs
utf8_by_ends n bs room most front back = IsUtf8-from_ascii bs (ascii_covered n (length bs - n) n bs front back (omega arith) (omega arith))

-- The front of a list of bytes up to one that isn't in a set.
use Rattle.std.proofs.Common.{◌≡◌, ℕ, ◌+◌, ◌<◌, ◌≤◌, ◌^◌, ◌%◌, Bool, true, false, List, [], ◌∷◌, take, drop, length, get_or, map, cond, sym, ◌∙◌, ap, ap₂, arith, not, ◌||◌, ◌&&◌, ◌==◌, nat_le, min, zero, suc, refl, w8, Fits}
use Rattle.std.proofs.Math.Nat.{min-zero, zero-min}
use Rattle.std.specs.List.{All, list_all, prefix_len}
use Rattle.std.proofs.lemmas.List.Elements.{All-nil, All-cons}
use Rattle.std.specs.Str.{IsUtf8, IsCharBoundary, IsAscii}
use Rattle.std.proofs.lemmas.Bool.{agree_below, agree_below_at, and_parts, ne_eqb, eq-eqb}
use Rattle.std.proofs.lemmas.Bool.Decides.{nat_tests}
use Rattle.std.proofs.lemmas.List.{length-map, length-take-le, length-drop, take-append-drop, get_or-take}
use Rattle.std.proofs.lemmas.List.Folds.{prefix_len-append}
use Rattle.std.proofs.lemmas.List.Sums.{prefix_len-le-length, prefix_len_stops}
use Rattle.std.proofs.lemmas.Simd.{map-map, mask_l-mod, leading_from_mask_l, trailing_mask_l}
use Rattle.std.proofs.lemmas.Str.Ascii.{IsAscii-from_all}
use lib.Count.{count_trailing_zeros}
use lib.Lanes.{mask_l, top}
use Rattle.ansi_safe.specs.Safe.{is_printable_byte, is_ordinary_byte}

-- The ordinary characters that a text begins with.

pub boundary-ordinary : (white : Bool) (t : List ℕ) → IsUtf8 t → IsCharBoundary t (prefix_len (is_ordinary_byte white) t)
boundary-ordinary white t utf8 = (prefix_len-le-length (is_ordinary_byte white) t, λ inside high. by (get_or t (prefix_len (is_ordinary_byte white) t) 0) high (prefix_len_stops (is_ordinary_byte white) t 0 inside))
  where
    by : (b : ℕ) → 128 ≤ b → is_ordinary_byte white b ≡ false → 192 ≤ b
    by b high stops = grind (arith, nat_tests)

pub printable-ascii : (w : List ℕ) → list_all is_printable_byte w ≡ true → IsAscii w
printable-ascii w all = IsAscii-from_all w (small w all)
  where
    small : (w : List ℕ) → list_all is_printable_byte w ≡ true → All (λ b. b < 128) w
    small [] all = All-nil (λ b. b < 128)
    small (b ∷ w) all =
        let both = and_parts (is_printable_byte b) (list_all is_printable_byte w) all in
        let here : b < 128 = grind (arith, nat_tests) in
        All-cons (λ b. b < 128) b w here (small w both.1)

-- A block of 16 bytes, and what follows.

-- a front that ends in the first n elements
ends_in_front : (p : ℕ → Bool) (n : ℕ) (xs : List ℕ) → n ≤ length xs → prefix_len p (take n xs) < n → prefix_len p (take n xs) ≡ prefix_len p xs
ends_in_front p n xs room short =
    let front = take n xs in
    sym (ap (prefix_len p) (sym (take-append-drop n xs)) ∙ prefix_len-append p front (drop n xs)
    ∙ ap (λ b. cond b (length front + prefix_len p (drop n xs)) (prefix_len p front)) (ne_eqb _ _ (λ (e : prefix_len p front ≡ length front). omega (arith, e, length-take-le n xs room))))

-- one that has all of them
goes_on : (p : ℕ → Bool) (n : ℕ) (xs : List ℕ) → n ≤ length xs → prefix_len p (take n xs) ≡ n → n + prefix_len p (drop n xs) ≡ prefix_len p xs
goes_on p n xs room all =
    let front = take n xs in
    let len : length front ≡ n = length-take-le n xs room in
    sym (ap (prefix_len p) (sym (take-append-drop n xs)) ∙ prefix_len-append p front (drop n xs)
    ∙ ap (λ b. cond b (length front + prefix_len p (drop n xs)) (prefix_len p front)) (eq-eqb _ _ (all ∙ sym len)) ∙ ap (λ k. k + prefix_len p (drop n xs)) len)

-- the front of the first n elements
pub prefix_len-take : (p : ℕ → Bool) (n : ℕ) (xs : List ℕ) → prefix_len p (take n xs) ≡ min (prefix_len p xs) n
prefix_len-take p zero xs = sym (min-zero (prefix_len p xs))
prefix_len-take p (suc n) [] = sym (zero-min (suc n))
prefix_len-take p (suc n) (x ∷ xs) = by (p x) (prefix_len-take p n xs)
  where
    by : (b : Bool) → prefix_len p (take n xs) ≡ min (prefix_len p xs) n → cond b (1 + prefix_len p (take n xs)) 0 ≡ min (cond b (1 + prefix_len p xs) 0) (suc n)
    by true more = omega (arith, more)
    by false more = sym (zero-min (suc n))

-- a front that has at least the first n elements
known-on : (p : ℕ → Bool) (n : ℕ) (xs : List ℕ) → n ≤ prefix_len p xs → n + prefix_len p (drop n xs) ≡ prefix_len p xs
known-on p n xs known = goes_on p n xs (omega (arith, known, prefix_len-le-length p xs)) (omega (arith, prefix_len-take p n xs, known))

-- a block of n elements, before which all are in the front: the front ends in the block
pub ends-in_block : (p : ℕ → Bool) (n : ℕ) (t : List ℕ) (start len : ℕ) → start + n ≤ length t → start ≤ prefix_len p t → len ≡ prefix_len p (take n (drop start t)) → len < n → start + len ≡ prefix_len p t
ends-in_block p n t start len room known is short =
    omega (arith, is, known-on p start t known, ends_in_front p n (drop start t) (omega (arith, room, length-drop start t)) (omega (arith, is)))

-- or it has all of the block
pub has-block : (p : ℕ → Bool) (n : ℕ) (t : List ℕ) (start len : ℕ) → start + n ≤ length t → start ≤ prefix_len p t → len ≡ prefix_len p (take n (drop start t)) → n ≤ len → start + n ≤ prefix_len p t
has-block p n t start len room known is all =
    omega (arith, is, known-on p start t known, prefix_len-take p n (drop start t))

-- The front of a block, by the lanes of its bytes: the highest bit of a lane is set if its byte isn't in the set.

same_run : (p q : ℕ → Bool) (xs : List ℕ) → ((k : ℕ) → k < length xs → p (get_or xs k 0) ≡ q (get_or xs k 0)) → prefix_len p xs ≡ prefix_len q xs
same_run p q [] h = refl
same_run p q (x ∷ xs) h = ap₂ (λ b n. cond b (1 + n) 0) (h 0 (omega arith)) (same_run p q xs (λ k inside. h (suc k) (omega arith)))

module _ (n : ℕ) (few : n ≤ 64) (lane : ℕ → ℕ) (p : ℕ → Bool) (agrees : agree_below (λ x. not (top 7 (lane x))) p 256 ≡ true) (bytes : List ℕ) (room : n ≤ length bytes) (fits : (k : ℕ) → Fits w8 (get_or bytes k 0)) where
  abbrev v : List ℕ
  v = take n bytes

  abbrev is_other : ℕ → Bool
  is_other x = top 7 (lane x)

  long : length v ≡ n
  long = length-take-le n bytes room

  same : prefix_len (λ x. not (is_other x)) v ≡ prefix_len p v
  same = same_run (λ x. not (is_other x)) p v
      (λ k inside. agree_below_at (λ x. not (is_other x)) p 256 (get_or v k 0) agrees (omega (arith, (fits k).fits, get_or-take n bytes k 0 (omega (arith, long)))))

  mask-is : (lanes : List ℕ) → lanes ≡ map lane v → mask_l (map (top 7) lanes) % 2 ^ 64 ≡ mask_l (map is_other v)
  mask-is lanes are =
      ap (λ l. mask_l (map (top 7) l) % 2 ^ 64) are ∙ ap (λ l. mask_l l % 2 ^ 64) (map-map (top 7) lane v)
      ∙ mask_l-mod (map is_other v) 64 (omega (arith, length-map v is_other, long, few))

  pub no_other : (lanes : List ℕ) → lanes ≡ map lane v → mask_l (map (top 7) lanes) % 2 ^ 64 ≡ 0 → n ≡ prefix_len p v
  no_other lanes are none = sym long ∙ sym (leading_from_mask_l is_other v (sym (mask-is lanes are) ∙ none)) ∙ same

  pub first_other : (lanes : List ℕ) → lanes ≡ map lane v → (mask_l (map (top 7) lanes) % 2 ^ 64 ≡ 0 → ⊥) → count_trailing_zeros 64 (mask_l (map (top 7) lanes) % 2 ^ 64) ≡ prefix_len p v
  first_other lanes are other = ap (count_trailing_zeros 64) (mask-is lanes are) ∙ trailing_mask_l is_other 64 v (omega (arith, long, few)) (omega (arith, mask-is lanes are, other)) ∙ same

-- bytes that are all in a set are all in a larger one
run-wider : (p q : ℕ → Bool) → ((x : ℕ) → p x ≡ true → q x ≡ true) → (xs : List ℕ) → prefix_len p xs ≡ length xs → prefix_len q xs ≡ length xs
run-wider p q wider [] all = refl
run-wider p q wider (x ∷ xs) all = by (p x) refl all (run-wider p q wider xs)
  where
    by : (b : Bool) → p x ≡ b → cond b (1 + prefix_len p xs) 0 ≡ suc (length xs) → (prefix_len p xs ≡ length xs → prefix_len q xs ≡ length xs) → prefix_len q (x ∷ xs) ≡ suc (length xs)
    by false other all more = absurd (omega (arith, all))
    by true is all more =
        let later : prefix_len p xs ≡ length xs = omega (arith, all) in
        let next : 1 + prefix_len q xs ≡ suc (length xs) = omega (arith, more later) in
        ap (λ b. cond b (1 + prefix_len q xs) 0) (wider x is) ∙ next

-- a printable byte is an ordinary one
pub printable-ordinary : (white : Bool) (xs : List ℕ) → prefix_len is_printable_byte xs ≡ length xs → prefix_len (is_ordinary_byte white) xs ≡ length xs
printable-ordinary white = run-wider is_printable_byte (is_ordinary_byte white) (λ x is. ap (λ b. b || ((white && (x == 9 || x == 10)) || (nat_le 0x80 x && not (x == 0xC2 || x == 0xE2)))) is)

-- a byte of lines: printable ASCII and LF
abbrev pub is_line_byte : ℕ → Bool
is_line_byte b = is_printable_byte b || b == 10

-- it is an ordinary one, with TAB and LF
pub line-ordinary : (xs : List ℕ) → prefix_len is_line_byte xs ≡ length xs → prefix_len (is_ordinary_byte true) xs ≡ length xs
line-ordinary = run-wider is_line_byte (is_ordinary_byte true) wider
  where
    wider : (x : ℕ) → is_line_byte x ≡ true → is_ordinary_byte true x ≡ true
    wider x is = grind (arith, nat_tests)

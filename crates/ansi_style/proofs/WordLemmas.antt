-- The word that holds attributes and a font: the attributes are its lower 24 bits, the font's code is above them.
use Rattle.ansi_style.proofs.Common.{◌≡◌, ◌∙◌, ◌<◌, ◌-◌, ◌*◌, ◌^◌, ◌==◌, ℕ, ap, arith, bit_and, bit_or, has, if◌then◌else◌, Some, None, and_le_r, bit_at, bit_at-lt, bit_at_and}
use Rattle.std.specs.Prelude.{◌/◌, ◌%◌}
use Rattle.ansi_style.specs.Numbers.{font_of_word}
use Rattle.ansi_style.proofs.BitsLemmas.{has-same_bit}
use Rattle.std.proofs.lemmas.Nat.{and_shr, or_shr, and_mask, or_comm, or_shifted}
use Rattle.std.proofs.lemmas.Nat.Bits.{bit_at_cat_low, bit_at_ones}

of_code : (n m : ℕ) → n / 2 ^ 24 % 2 ^ 8 ≡ m / 2 ^ 24 % 2 ^ 8 → font_of_word n ≡ font_of_word m
of_code n m same = ap (λ code. if code == 0 then None else Some code) same

-- the font stays if attributes are set
pub font-or : (n m : ℕ) → m < 2 ^ 24 → font_of_word (bit_or n m) ≡ font_of_word n
font-or n m below =
    let none : m / 2 ^ 24 ≡ 0 = omega (arith, below) in
    of_code (bit_or n m) n (ap (λ code. code % 2 ^ 8) (or_shr n m 24 ∙ ap (bit_or (n / 2 ^ 24)) none ∙ or_comm (n / 2 ^ 24) 0))

-- and if some are cleared
pub font-without : (n m : ℕ) → m < 2 ^ 24 → font_of_word (bit_and n (2 ^ 32 - 1 - m)) ≡ font_of_word n
font-without n m below =
    let all : (2 ^ 32 - 1 - m) / 2 ^ 24 ≡ 255 = omega (arith, below) in
    of_code (bit_and n (2 ^ 32 - 1 - m)) n (omega (arith, and_shr n (2 ^ 32 - 1 - m) 24 ∙ ap (bit_and (n / 2 ^ 24)) all ∙ and_mask (n / 2 ^ 24) 8))

-- the attributes stay below another font
pub has-below_font : (n code k : ℕ) → code < 2 ^ 8 → k < 24 → has (bit_or (code * 2 ^ 24 % 2 ^ 32) (bit_and n (2 ^ 24 - 1))) k ≡ has n k
has-below_font n code k byte within =
    let own = bit_and n (2 ^ 24 - 1) in
    let fits : code * 2 ^ 24 % 2 ^ 32 ≡ code * 2 ^ 24 = omega (arith, byte) in
    let below : own < 2 ^ 24 = omega (arith, and_le_r n (2 ^ 24 - 1)) in
    has-same_bit (bit_or (code * 2 ^ 24 % 2 ^ 32) own) n k
    (ap (λ high. bit_at (bit_or high own) k) fits ∙ ap (λ word. bit_at word k) (or_shifted code 24 own below) ∙ bit_at_cat_low code 24 own k within
    ∙ bit_at_and n (2 ^ 24 - 1) k ∙ omega (arith, bit_at_ones 24 k within, bit_at-lt n k))

-- The decimal spelling of a byte, by how many digits it has.
use Rattle.std.proofs.lemmas.Bool.{le-ltb}
use Rattle.std.proofs.lemmas.Slice.Eq.{bytes_eq-Decides}
use Rattle.std.specs.Prelude.{◌/◌, ◌%◌}
use Rattle.ansi_style.proofs.Common.{◌≡◌, ◌<◌, ◌≤◌, ◌+◌, ℕ, List, [], ◌∷◌, true, refl, nat_lt, if◌then◌else◌, bytes_eq, decimal, digits, arith, agree_below_at, lt-ltb}

abbrev one : ℕ → List ℕ
one n = (48 + n % 10) ∷ []

abbrev two : ℕ → List ℕ
two n = (48 + n / 10) ∷ one n

abbrev three : ℕ → List ℕ
three n = (48 + n / 100) ∷ (48 + n / 10 % 10) ∷ one n

abbrev byte_digits : ℕ → List ℕ
byte_digits n = if nat_lt n 10 then one n else (if nat_lt n 100 then two n else three n)

decimal_byte : (n : ℕ) → n < 256 → byte_digits n ≡ decimal n
unfolding digits
decimal_byte n below = (bytes_eq-Decides (byte_digits n) (decimal n)).0
    (agree_below_at (λ n. bytes_eq (byte_digits n) (decimal n)) (λ n. true) 256 n refl below)

pub one_digit : (n : ℕ) → n < 10 → one n ≡ decimal n
one_digit n below = rw (lt-ltb n 10 below) at (decimal_byte n (omega (arith, below)))

pub two_digits : (n : ℕ) → 10 ≤ n → n < 100 → two n ≡ decimal n
two_digits n least below = rw (le-ltb n 10 least, lt-ltb n 100 below) at (decimal_byte n (omega (arith, below)))

pub three_digits : (n : ℕ) → 100 ≤ n → n < 256 → three n ≡ decimal n
three_digits n least below = rw (le-ltb n 10 (omega (arith, least)), le-ltb n 100 least) at (decimal_byte n below)

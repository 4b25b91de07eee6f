-- How long what is made of a text is.
use Rattle.std.proofs.Common.{◌≡◌, ℕ, ◌+◌, ◌*◌, ◌≤◌, Bool, true, false, ◌==◌, List, [], ◌∷◌, flat_map, length, nat_lt, codes, chars, encode_utf8, encode_utf8_all, if◌then◌else◌, refl, ap, subst, arith, length-append}
use Rattle.std.proofs.Math.Nat.{mul-add}
use Rattle.std.specs.Char.{len_utf8}
use Rattle.std.specs.Str.{IsUtf8}
use Rattle.std.proofs.lemmas.Bool.Decides.{nat_tests}
use Rattle.std.proofs.lemmas.Str.{encodes-append, encodes-chars, encodes-IsAscii, length-encode, len_utf8_bounds}
use Rattle.ansi_items.specs.Pieces.{Piece, Text, Sequence, LoneEscape, spelling, ArePieces, pieces_of}
use Rattle.ansi_items.proofs.PieceLemmas.{pieces_are}
use Rattle.ansi_style.specs.Styled.{style_after}
use Rattle.ansi_style.specs.Written.{longest_close}
use Rattle.ansi_items.specs.Plain.{marks}
use Rattle.ansi_safe.specs.declared.policy.Policy.{Policy}
use Rattle.ansi_safe.specs.declared.policy.Rest.{Rest}
use Rattle.ansi_safe.specs.declared.policy.Rest.TheVariants.{Drop, Show}
use Rattle.ansi_safe.specs.Links.{link_of, ending, longest_link_end}
use Rattle.ansi_safe.specs.Safe.{is_printing, is_allowed, may_stay}
use Rattle.ansi_safe.specs.Sanitized.{numbered, shown, instead, made_of_run, made_of, becomes, cleaned, sanitized, growth}
use Rattle.ansi_safe.proofs.EndingLemmas.{length-closing}
use Rattle.ansi_safe.proofs.FrontLemmas.{printable-ascii}
use Rattle.ansi_safe.proofs.SafeLemmas.{piece_and_rest}
use Rattle.ansi_safe.proofs.AllowedLemmas.{numbered-ascii, caret-ascii, not_printing-small}

-- nothing shrinks
grows : (rest : Rest) (n : ℕ) → n ≤ growth rest * n
grows Drop n = omega arith
grows Show n = omega arith

-- Character by character.

length-numbered : (c : ℕ) → is_printing c ≡ false → length (encode_utf8_all (numbered c)) ≡ 8
length-numbered c other = ap length (encodes-IsAscii (numbered c) (printable-ascii (numbered c) (numbered-ascii c (not_printing-small c other))))

length-caret : (c : ℕ) → nat_lt c 0x20 ≡ true → length (encode_utf8_all (94 ∷ (c + 0x40) ∷ [])) ≡ 2
length-caret c small = ap length (encodes-IsAscii (94 ∷ (c + 0x40) ∷ []) (printable-ascii (94 ∷ (c + 0x40) ∷ []) (caret-ascii c small)))

two_bytes : (c : ℕ) → nat_lt c 0x20 ≡ false → (c == 0x7F) ≡ false → is_printing c ≡ false → 2 ≤ length (encode_utf8 c)
two_bytes c a b d =
    let high : 0x80 ≤ c = grind (arith, nat_tests) in
    omega (arith, length-encode c, long c high)
  where
    long : (c : ℕ) → 0x80 ≤ c → 2 ≤ len_utf8 c
    long c high = grind (arith, nat_tests)

length-shown : (c : ℕ) → length (encode_utf8_all (shown c)) ≤ 4 * length (encode_utf8 c)
length-shown c = by_caret (nat_lt c 0x20) refl
  where
    some : 1 ≤ length (encode_utf8 c)
    some = omega (arith, length-encode c, (len_utf8_bounds c).0)

    by_printing : (b : Bool) → nat_lt c 0x20 ≡ false → (c == 0x7F) ≡ false → is_printing c ≡ b → length (encode_utf8_all (if b then c ∷ [] else numbered c)) ≤ 4 * length (encode_utf8 c)
    by_printing true not_low not_delete printing = omega (arith, length-append (encode_utf8 c) [])
    by_printing false not_low not_delete other = omega (arith, length-numbered c other, two_bytes c not_low not_delete other)

    by_delete : (b : Bool) → nat_lt c 0x20 ≡ false → (c == 0x7F) ≡ b → length (encode_utf8_all (if b then codes "^?" else if is_printing c then c ∷ [] else numbered c)) ≤ 4 * length (encode_utf8 c)
    by_delete true not_low is = omega (arith, some, ap length (encodes-IsAscii (codes "^?") (printable-ascii (codes "^?") refl)))
    by_delete false not_low other = by_printing (is_printing c) not_low other refl

    by_caret : (b : Bool) → nat_lt c 0x20 ≡ b → length (encode_utf8_all (if b then 94 ∷ (c + 0x40) ∷ [] else if c == 0x7F then codes "^?" else if is_printing c then c ∷ [] else numbered c)) ≤ 4 * length (encode_utf8 c)
    by_caret true small = omega (arith, some, length-caret c small)
    by_caret false other = by_delete (c == 0x7F) other refl

length-instead : (rest : Rest) (c : ℕ) → length (encode_utf8_all (instead rest c)) ≤ growth rest * length (encode_utf8 c)
length-instead Drop c = omega arith
length-instead Show c = length-shown c

length-instead_of_all : (rest : Rest) (cs : List ℕ) → length (encode_utf8_all (flat_map (instead rest) cs)) ≤ growth rest * length (encode_utf8_all cs)
length-instead_of_all rest [] = omega arith
length-instead_of_all rest (c ∷ cs) =
    omega (
      arith,
      ap length (encodes-append (instead rest c) (flat_map (instead rest) cs)),
      length-append (encode_utf8_all (instead rest c)) (encode_utf8_all (flat_map (instead rest) cs)),
      length-append (encode_utf8 c) (encode_utf8_all cs),
      mul-add (growth rest) (length (encode_utf8 c)) (length (encode_utf8_all cs)),
      ap (λ n. growth rest * n) (length-append (encode_utf8 c) (encode_utf8_all cs)),
      length-instead rest c,
      length-instead_of_all rest cs,
    )

length-made_of_run : (rest : Rest) (cs : List ℕ) → length (encode_utf8_all (made_of_run rest cs)) ≤ growth rest * length (encode_utf8_all cs)
length-made_of_run rest [] = omega arith
length-made_of_run rest (c ∷ cs) =
    let here = if is_allowed c cs then c ∷ [] else instead rest c in
    omega (
      arith,
      ap length (encodes-append here (made_of_run rest cs)),
      length-append (encode_utf8_all here) (encode_utf8_all (made_of_run rest cs)),
      mul-add (growth rest) (length (encode_utf8 c)) (length (encode_utf8_all cs)),
      ap (λ n. growth rest * n) (length-append (encode_utf8 c) (encode_utf8_all cs)),
      by (is_allowed c cs),
      length-made_of_run rest cs,
    )
  where
    by : (b : Bool) → length (encode_utf8_all (if b then c ∷ [] else instead rest c)) ≤ growth rest * length (encode_utf8 c)
    by true = omega (arith, length-append (encode_utf8 c) [], grows rest (length (encode_utf8 c)))
    by false = length-instead rest c

-- Piece by piece.

length-made_of : (rest : Rest) (p : Piece) → IsUtf8 (spelling p) → length (encode_utf8_all (made_of rest p)) ≤ growth rest * length (spelling p)
length-made_of rest (Text w) utf8 = omega (arith, length-made_of_run rest (chars w), ap (λ v. growth rest * length v) (encodes-chars w utf8))
length-made_of rest (Sequence w) utf8 = omega (arith, length-instead_of_all rest (chars w), ap (λ v. growth rest * length v) (encodes-chars w utf8))
length-made_of rest LoneEscape utf8 =
    omega (arith, length-instead_of_all rest (chars (spelling LoneEscape)), ap (λ v. growth rest * length v) (encodes-chars (spelling LoneEscape) utf8))

length-becomes : (policy : Policy) (p : Piece) → IsUtf8 (spelling p) → length (becomes policy p) ≤ growth policy.rest * length (spelling p)
length-becomes policy p utf8 = by (may_stay policy.links p)
  where
    by : (b : Bool) → length (if b then spelling p else encode_utf8_all (made_of policy.rest p)) ≤ growth policy.rest * length (spelling p)
    by true = grows policy.rest (length (spelling p))
    by false = length-made_of policy.rest p utf8

length-all_become : (policy : Policy) (t : List ℕ) (ps : List Piece) → ArePieces t ps → IsUtf8 t → length (flat_map (becomes policy) ps) ≤ growth policy.rest * length t
length-all_become policy t [] are utf8 = omega arith
length-all_become policy t (p ∷ ps) are utf8 =
    let both = piece_and_rest p are.0 are.2 (subst IsUtf8 are.1 utf8) in
    let g = growth policy.rest in
    omega (
      arith,
      length-append (becomes policy p) (flat_map (becomes policy) ps),
      ap (λ v. g * length v) are.1,
      ap (λ n. g * n) (length-append (spelling p) are.0),
      mul-add g (length (spelling p)) (length are.0),
      length-becomes policy p both.0,
      length-all_become policy are.0 ps are.3 both.1,
    )

pub length-sanitized : (policy : Policy) (t : List ℕ) → IsUtf8 t → length (sanitized policy t) ≤ growth policy.rest * length t + longest_link_end + longest_close
length-sanitized policy t utf8 =
    let u = cleaned policy t in
    omega (arith, length-append u (ending u), length-all_become policy t (pieces_of t) (pieces_are t) utf8, length-closing (link_of (marks u)) (style_after u))

use Rattle.std.proofs.Common.{◌≡◌, ℕ, true, not, List, [], ◌∷◌, take, length, map, refl, sym, ap, ◌∙◌, w8, arith}
use Rattle.std.proofs.lemmas.Bool.{agree_below}
use Rattle.std.proofs.lemmas.List.{length-take-le}
use Rattle.std.proofs.lemmas.Simd.{zip2_of_maps, map-map}
use lib.Lanes.{top, zip2}
use lib.ListN.{replicate}
use mir.Syntax.{mask, lt, unsigned, wrap_sub, bit_or, bit_not}
use borrow.Rule.Simd.Lanes.{act1, act2}
use borrow.Table.Row.{s_int}
use Rattle.ansi_clusters.specs.Letters.{is_letter_byte}
use Rattle.ansi_safe.proofs.FrontLemmas.{no_other, first_other}
use Rattle.ansi_clusters.proofs.letters.letters_len_of_16.Goals as goal

-- The lane of a byte.

abbrev minus : ℕ → ℕ → ℕ
minus = act2 wrap_sub (s_int w8) (s_int w8) (s_int w8)

abbrev either : ℕ → ℕ → ℕ
either = act2 bit_or (s_int w8) (s_int w8) (s_int w8)

abbrev none : ℕ → ℕ
none = act1 bit_not (s_int w8) (s_int w8)

abbrev below : ℕ → ℕ → ℕ
below = act2 (mask (lt unsigned)) (s_int w8) (s_int w8) (s_int w8)

-- the byte is one of `count` bytes from `first` on
abbrev among : ℕ → ℕ → ℕ → ℕ
among first count x = below (minus x first) count

abbrev lane : ℕ → ℕ
lane x = none (either (either (either (among 0x20 0x5F x) (among 0x80 0x40 x)) (among 0xC3 9 x)) (among 0xCE 4 x))

agrees : agree_below (λ x. not (top 7 (lane x))) is_letter_byte 256 ≡ true
agrees = refl

-- The lanes of a block are those of its bytes.

each : (v : List ℕ) → v ≡ map (λ x. x) v
each [] = refl
each (x ∷ v) = ap (λ u. x ∷ u) (each v)

splat : (v : List ℕ) (n y : ℕ) → length v ≡ n → replicate n y ≡ map (λ x. y) v
splat v n y long = ap (λ k. replicate k y) (sym long) ∙ filled v
  where
    filled : (v : List ℕ) → replicate (length v) y ≡ map (λ x. y) v
    filled [] = refl
    filled (x ∷ v) = ap (λ u. y ∷ u) (filled v)

abbrev all_among : ℕ → ℕ → List ℕ → List ℕ
all_among first count v = zip2 below (zip2 minus v (replicate 16 first)) (replicate 16 count)

abbrev lanes : List ℕ → List ℕ
lanes v = map none (zip2 either (zip2 either (zip2 either (all_among 0x20 0x5F v) (all_among 0x80 0x40 v)) (all_among 0xC3 9 v)) (all_among 0xCE 4 v))

module _ (v : List ℕ) (long : length v ≡ 16) where
  among-is : (first count : ℕ) → all_among first count v ≡ map (among first count) v
  among-is first count = zip2_of_maps below (λ x. minus x first) (λ x. count) v (zip2_of_maps minus (λ x. x) (λ x. first) v (each v) (splat v 16 first long)) (splat v 16 count long)

  lanes-are : lanes v ≡ map lane v
  lanes-are =
      let two = zip2_of_maps either (among 0x20 0x5F) (among 0x80 0x40) v (among-is 0x20 0x5F) (among-is 0x80 0x40) in
      let three = zip2_of_maps either (λ x. either (among 0x20 0x5F x) (among 0x80 0x40 x)) (among 0xC3 9) v two (among-is 0xC3 9) in
      let four = zip2_of_maps either (λ x. either (either (among 0x20 0x5F x) (among 0x80 0x40 x)) (among 0xC3 9 x)) (among 0xCE 4) v three (among-is 0xCE 4) in
      ap (map none) four ∙ map-map none (λ x. either (either (either (among 0x20 0x5F x) (among 0x80 0x40 x)) (among 0xC3 9 x)) (among 0xCE 4 x)) v

pub returns-then-others-eq0 : goal.returns-then-others-eq0
returns-then-others-eq0 c =
    let v = take 16 c.args.bytes.now in
    no_other 16 (omega arith) lane is_letter_byte agrees c.args.bytes.now c.requires c.type_inv.bytes (lanes v) (lanes-are v (length-take-le 16 c.args.bytes.now c.requires)) c.if-others-eq0.true

pub returns : goal.returns
returns c =
    let v = take 16 c.args.bytes.now in
    first_other 16 (omega arith) lane is_letter_byte agrees c.args.bytes.now c.requires c.type_inv.bytes (lanes v) (lanes-are v (length-take-le 16 c.args.bytes.now c.requires)) c.if-others-eq0.false

use Rattle.std.proofs.Common.{◌≡◌, ℕ, ◌+◌, ◌-◌, ◌%◌, List, take, length, map, refl, ap, ◌∙◌, cond, leb, arith}
use Rattle.std.proofs.lemmas.List.{length-map, length-take-le}
use Rattle.std.proofs.lemmas.Simd.{zip2_splat, zip2_splat_left, map-map}
use lib.Lanes.{zip2}
use lib.ListN.{replicate}
use Rattle.ansi_safe.specs.Safe.{is_printable_byte}
use Rattle.ansi_safe.proofs.FrontLemmas.{no_other, first_other}
use Rattle.ansi_safe.proofs.front.printable_len_of_16.Goals as goal

abbrev minus : ℕ → ℕ → ℕ
minus a b = (a + (256 - b)) % 256

abbrev at_most : ℕ → ℕ → ℕ
at_most a b = cond (leb a b) 255 0

-- the lane of a byte
abbrev lane : ℕ → ℕ
lane x = at_most 0x5F (minus x 0x20)

abbrev lanes : List ℕ → List ℕ
lanes v = zip2 at_most (replicate 16 0x5F) (zip2 minus v (replicate 16 0x20))

lanes-are : (v : List ℕ) → length v ≡ 16 → lanes v ≡ map lane v
lanes-are v long =
    ap (zip2 at_most (replicate 16 0x5F)) (zip2_splat minus v 16 0x20 long)
    ∙ zip2_splat_left at_most 0x5F 16 (map (λ x. minus x 0x20) v) (length-map v (λ x. minus x 0x20) ∙ long) ∙ map-map (at_most 0x5F) (λ x. minus x 0x20) v

pub returns-then-others-eq0 : goal.returns-then-others-eq0
returns-then-others-eq0 c =
    let v = take 16 c.args.bytes.now in
    no_other 16 (omega arith) lane is_printable_byte refl c.args.bytes.now c.requires c.type_inv.bytes (lanes v) (lanes-are v (length-take-le 16 c.args.bytes.now c.requires)) c.if-others-eq0.true

pub returns : goal.returns
returns c =
    let v = take 16 c.args.bytes.now in
    first_other 16 (omega arith) lane is_printable_byte refl c.args.bytes.now c.requires c.type_inv.bytes (lanes v) (lanes-are v (length-take-le 16 c.args.bytes.now c.requires)) c.if-others-eq0.false

use Rattle.std.proofs.Common.{◌≡◌, ℕ, List, take, length, map, refl, sym, ◌∙◌, w8, arith}
use Rattle.std.proofs.lemmas.List.{length-take-le}
use Rattle.std.proofs.lemmas.Bool.{eqb-true}
use Rattle.std.proofs.lemmas.Simd.{zip2_splat, zip2_of_maps, splat_is_map}
use lib.Lanes.{zip2}
use lib.ListN.{replicate}
use mir.Syntax.{mask, lt, ne, unsigned, wrap_add, bit_and}
use borrow.Rule.Simd.Lanes.{act2}
use borrow.Table.Row.{s_int}
use Rattle.ansi_safe.proofs.FrontLemmas.{no_other, is_line_byte, line-ordinary}
use Rattle.ansi_safe.proofs.front.are_lines.Goals as goal

-- The lane of a byte.

abbrev plus : ℕ → ℕ → ℕ
plus = act2 wrap_add (s_int w8) (s_int w8) (s_int w8)

abbrev both : ℕ → ℕ → ℕ
both = act2 bit_and (s_int w8) (s_int w8) (s_int w8)

abbrev below : ℕ → ℕ → ℕ
below = act2 (mask (lt unsigned)) (s_int w8) (s_int w8) (s_int w8)

abbrev other_than : ℕ → ℕ → ℕ
other_than = act2 (mask ne) (s_int w8) (s_int w8) (s_int w8)

abbrev lane : ℕ → ℕ
lane x = both (below (plus x 0x81) 0xA1) (other_than (plus x 0x81) 0x8B)

-- The lanes of a block are those of its bytes.

abbrev lanes : List ℕ → List ℕ
lanes v =
    let moved = zip2 plus v (replicate 64 0x81) in
    zip2 both (zip2 below moved (replicate 64 0xA1)) (zip2 other_than moved (replicate 64 0x8B))

lanes-are : (v : List ℕ) → length v ≡ 64 → lanes v ≡ map lane v
lanes-are v long =
    let moved = zip2_splat plus v 64 0x81 long in
    zip2_of_maps both (λ x. below (plus x 0x81) 0xA1) (λ x. other_than (plus x 0x81) 0x8B) v
    (zip2_of_maps below (λ x. plus x 0x81) (λ x. 0xA1) v moved (splat_is_map v 64 0xA1 long))
    (zip2_of_maps other_than (λ x. plus x 0x81) (λ x. 0x8B) v moved (splat_is_map v 64 0x8B long))

-- no byte is another one
pub returns : goal.returns
returns c = λ none.
    let v = take 64 c.args.bytes.now in
    let long : length v ≡ 64 = length-take-le 64 c.args.bytes.now c.requires in
    let all : 64 ≡ _ = no_other 64 (omega arith) lane is_line_byte refl c.args.bytes.now c.requires c.type_inv.bytes (lanes v) (lanes-are v long) (eqb-true _ 0 none) in
    line-ordinary v (sym all ∙ sym long) ∙ long

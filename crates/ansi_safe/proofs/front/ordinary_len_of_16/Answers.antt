use Rattle.std.proofs.Common.{◌≡◌, ℕ, ◌*◌, Bool, true, false, not, List, [], ◌∷◌, take, length, map, refl, sym, ap, ◌∙◌, w8, arith}
use Rattle.std.proofs.lemmas.Bool.{agree_below}
use Rattle.std.proofs.lemmas.List.{length-take-le}
use Rattle.std.proofs.lemmas.Simd.{zip2_of_maps, map-map}
use lib.Lanes.{top, zip2}
use lib.ListN.{replicate}
use mir.Syntax.{mask, lt, le, eq, unsigned, wrap_sub, bit_or, bit_not}
use mir.Val.{bool_byte}
use borrow.Rule.Simd.Lanes.{act1, act2}
use borrow.Table.Row.{s_int}
use Rattle.ansi_safe.specs.Safe.{is_ordinary_byte}
use Rattle.ansi_safe.proofs.FrontLemmas.{no_other, first_other}
use Rattle.ansi_safe.proofs.front.ordinary_len_of_16.Goals as goal

-- The lane of a byte.

abbrev minus : ℕ → ℕ → ℕ
minus = act2 wrap_sub (s_int w8) (s_int w8) (s_int w8)

abbrev either : ℕ → ℕ → ℕ
either = act2 bit_or (s_int w8) (s_int w8) (s_int w8)

abbrev none : ℕ → ℕ
none = act1 bit_not (s_int w8) (s_int w8)

abbrev below : ℕ → ℕ → ℕ
below = act2 (mask (lt unsigned)) (s_int w8) (s_int w8) (s_int w8)

abbrev at_most : ℕ → ℕ → ℕ
at_most = act2 (mask (le unsigned)) (s_int w8) (s_int w8) (s_int w8)

abbrev same_as : ℕ → ℕ → ℕ
same_as = act2 (mask eq) (s_int w8) (s_int w8) (s_int w8)

abbrev lane : Bool → ℕ → ℕ
lane white x = either (none (either (either (below (minus x 0x20) 0x5F) (below (minus x 9) (2 * bool_byte white))) (at_most 0x80 x))) (same_as (either x 0x20) 0xE2)

agrees : (white : Bool) → agree_below (λ x. not (top 7 (lane white x))) (is_ordinary_byte white) 256 ≡ true
agrees true = refl
agrees false = refl

-- The lanes of a block are those of its bytes.

each : (v : List ℕ) → v ≡ map (λ x. x) v
each [] = refl
each (x ∷ v) = ap (λ u. x ∷ u) (each v)

splat : (v : List ℕ) (n y : ℕ) → length v ≡ n → replicate n y ≡ map (λ x. y) v
splat v n y long = ap (λ k. replicate k y) (sym long) ∙ filled v
  where
    filled : (v : List ℕ) → replicate (length v) y ≡ map (λ x. y) v
    filled [] = refl
    filled (x ∷ v) = ap (λ u. y ∷ u) (filled v)

abbrev all : ℕ → List ℕ
all y = replicate 16 y

abbrev lanes : Bool → List ℕ → List ℕ
lanes white v = zip2 either (map none (zip2 either (zip2 either (zip2 below (zip2 minus v (all 0x20)) (all 0x5F)) (zip2 below (zip2 minus v (all 9)) (all (2 * bool_byte white)))) (zip2 at_most (all 0x80) v))) (zip2 same_as (zip2 either v (all 0x20)) (all 0xE2))

lanes-are : (white : Bool) (v : List ℕ) → length v ≡ 16 → lanes white v ≡ map (lane white) v
lanes-are white v long =
    let s = λ (y : ℕ). splat v 16 y long in
    let printable = zip2_of_maps below (λ x. minus x 0x20) (λ x. 0x5F) v (zip2_of_maps minus (λ x. x) (λ x. 0x20) v (each v) (s 0x20)) (s 0x5F) in
    let white_is = zip2_of_maps below (λ x. minus x 9) (λ x. 2 * bool_byte white) v (zip2_of_maps minus (λ x. x) (λ x. 9) v (each v) (s 9)) (s (2 * bool_byte white)) in
    let high = zip2_of_maps at_most (λ x. 0x80) (λ x. x) v (s 0x80) (each v) in
    let lead = zip2_of_maps same_as (λ x. either x 0x20) (λ x. 0xE2) v (zip2_of_maps either (λ x. x) (λ x. 0x20) v (each v) (s 0x20)) (s 0xE2) in
    let ascii = zip2_of_maps either (λ x. below (minus x 0x20) 0x5F) (λ x. below (minus x 9) (2 * bool_byte white)) v printable white_is in
    let passes = zip2_of_maps either (λ x. either (below (minus x 0x20) 0x5F) (below (minus x 9) (2 * bool_byte white))) (λ x. at_most 0x80 x) v ascii high in
    let fails = ap (map none) passes ∙ map-map none (λ x. either (either (below (minus x 0x20) 0x5F) (below (minus x 9) (2 * bool_byte white))) (at_most 0x80 x)) v in
    zip2_of_maps either (λ x. none (either (either (below (minus x 0x20) 0x5F) (below (minus x 9) (2 * bool_byte white))) (at_most 0x80 x))) (λ x. same_as (either x 0x20) 0xE2) v fails lead

pub returns-then-others-eq0 : goal.returns-then-others-eq0
returns-then-others-eq0 c =
    let white = c.args.white in
    let v = take 16 c.args.bytes.now in
    no_other 16 (omega arith) (lane white) (is_ordinary_byte white) (agrees white) c.args.bytes.now c.requires c.type_inv.bytes (lanes white v) (lanes-are white v (length-take-le 16 c.args.bytes.now c.requires)) c.if-others-eq0.true

pub returns : goal.returns
returns c =
    let white = c.args.white in
    let v = take 16 c.args.bytes.now in
    first_other 16 (omega arith) (lane white) (is_ordinary_byte white) (agrees white) c.args.bytes.now c.requires c.type_inv.bytes (lanes white v) (lanes-are white v (length-take-le 16 c.args.bytes.now c.requires)) c.if-others-eq0.false

use Rattle.std.proofs.Common.{◌≡◌, ◌<◌, ◌^◌, ◌%◌, ℕ, true, List, [], ◌∷◌, take, get_or, length, map, count_ones, refl, sym, ap, ◌∙◌, w8, arith}
use Rattle.std.specs.List.{count_by}
use Rattle.std.proofs.lemmas.Bool.{agree_below}
use Rattle.std.proofs.lemmas.List.{length-map, length-take-le, get_or-take}
use Rattle.std.proofs.lemmas.Simd.{zip2_of_maps, map-map, mask_l-mod, ones-mask_l}
use lib.Lanes.{mask_l, top, zip2}
use lib.ListN.{replicate}
use mir.Syntax.{mask, lt, unsigned, wrap_sub}
use borrow.Rule.Simd.Lanes.{act2}
use borrow.Table.Row.{s_int}
use Rattle.ansi_clusters.specs.Letters.{is_first_byte}
use Rattle.ansi_clusters.proofs.LetterLemmas.{count-agree, count-most}
use Rattle.ansi_clusters.proofs.letters.firsts_of_16.Goals as goal

-- The lane of a byte.

abbrev minus : ℕ → ℕ → ℕ
minus = act2 wrap_sub (s_int w8) (s_int w8) (s_int w8)

abbrev below : ℕ → ℕ → ℕ
below = act2 (mask (lt unsigned)) (s_int w8) (s_int w8) (s_int w8)

abbrev lane : ℕ → ℕ
lane x = below (minus x 0xC0) 0xC0

agrees : agree_below (λ x. top 7 (lane x)) is_first_byte 256 ≡ true
agrees = refl

-- The lanes of a block are those of its bytes.

each : (v : List ℕ) → v ≡ map (λ x. x) v
each [] = refl
each (x ∷ v) = ap (λ u. x ∷ u) (each v)

splat : (v : List ℕ) (n y : ℕ) → length v ≡ n → replicate n y ≡ map (λ x. y) v
splat v n y long = ap (λ k. replicate k y) (sym long) ∙ filled v
  where
    filled : (v : List ℕ) → replicate (length v) y ≡ map (λ x. y) v
    filled [] = refl
    filled (x ∷ v) = ap (λ u. y ∷ u) (filled v)

abbrev lanes : List ℕ → List ℕ
lanes v = zip2 below (zip2 minus v (replicate 16 0xC0)) (replicate 16 0xC0)

lanes-are : (v : List ℕ) → length v ≡ 16 → lanes v ≡ map lane v
lanes-are v long = zip2_of_maps below (λ x. minus x 0xC0) (λ x. 0xC0) v (zip2_of_maps minus (λ x. x) (λ x. 0xC0) v (each v) (splat v 16 0xC0 long)) (splat v 16 0xC0 long)

module _ (bytes : List ℕ) (room : length (take 16 bytes) ≡ 16) (fits : (k : ℕ) → get_or bytes k 0 < 256) where
  abbrev v : List ℕ
  v = take 16 bytes

  counted : count_ones (mask_l (map (top 7) (lanes v)) % 2 ^ 64) ≡ count_by is_first_byte v
  counted =
      let is_first = λ (x : ℕ). top 7 (lane x) in
      ap (λ l. count_ones (mask_l (map (top 7) l) % 2 ^ 64)) (lanes-are v room) ∙ ap (λ l. count_ones (mask_l l % 2 ^ 64)) (map-map (top 7) lane v)
      ∙ ap count_ones (mask_l-mod (map is_first v) 64 (omega (arith, length-map v is_first, room))) ∙ ones-mask_l is_first v
      ∙ count-agree is_first is_first_byte agrees v (λ k inside. omega (arith, fits k, get_or-take 16 bytes k 0 (omega (arith, inside, room))))

pub returns-clause-count : goal.returns-clause-count
returns-clause-count c = counted c.args.bytes.now (length-take-le 16 c.args.bytes.now c.requires) (λ k. (c.type_inv.bytes k).fits)

pub returns-clause-most : goal.returns-clause-most
returns-clause-most c =
    let room = length-take-le 16 c.args.bytes.now c.requires in
    omega (arith, counted c.args.bytes.now room (λ k. (c.type_inv.bytes k).fits), count-most is_first_byte (take 16 c.args.bytes.now), room)

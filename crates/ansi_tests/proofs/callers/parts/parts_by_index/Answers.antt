use Rattle.std.proofs.Common.{◌≡◌, ◌∙◌, ℕ, List, length, map, sym, ap}
use Rattle.std.specs.List.{range_with_len}
use Rattle.std.proofs.lemmas.List.FromFn.{length-map-range_with_len}
use Rattle.std.proofs.lemmas.Simd.{map-map}
use Rattle.ansi_str.specs.Splits.{CarriedPart, split_part}
use Rattle.ansi_tests.proofs.callers.parts.parts_by_index.Goals as goal

-- what is read of each of these parts
read_by_index : {Y : Type 0} {left : List CarriedPart} (read : CarriedPart → Y) (f : ℕ → CarriedPart) (n : ℕ) → left ≡ map f (range_with_len 0 n) → map read left ≡ map (λ k. read (f k)) (range_with_len 0 (length left))
read_by_index read f n is =
    ap (map read) is ∙ map-map read f (range_with_len 0 n) ∙ ap (λ m. map (λ k. read (f k)) (range_with_len 0 m)) (sym (ap length is ∙ length-map-range_with_len f 0 n))

pub returns-clause-borrowed : goal.returns-clause-borrowed
returns-clause-borrowed g c = read_by_index (λ (q : CarriedPart). q.borrowed) (split_part c.args.text.now c.args.pat.now) _ c.split_in.ensures.parts

pub returns-clause-shares : goal.returns-clause-shares
returns-clause-shares g c = read_by_index (λ (q : CarriedPart). q.source_len) (split_part c.args.text.now c.args.pat.now) _ c.split_in.ensures.parts

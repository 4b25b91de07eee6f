use Rattle.ansi_search.proofs.Common.{◌≡◌, ◌≢◌, ℕ, ◌+◌, ◌-◌, ◌≤◌, ◌<◌, List, length, ◌∙◌, ap, arith, slice_index, slice_range, eq-eqb, get_or-drop, length-drop, Nowhere, Passes, is_byte}
use Rattle.ansi_search.proofs.SliceLemmas.{slice_range-past}
use Rattle.ansi_search.proofs.search.two_way.next_of.Goals as goal

-- what isn't found from an offset on
differs_if_not_found : (w : List ℕ) (at b d : ℕ) → Nowhere (Passes (is_byte b) (slice_range w at (length w))) 0 d → (i : ℕ) → at ≤ i → i < at + d → slice_index w i ≢ b
differs_if_not_found w at b d nowhere i low high same =
    let sum : at + (i - at) ≡ i = omega (arith, low) in
    let here : slice_index (slice_range w at (length w)) (i - at) ≡ b
    = ap (λ v. slice_index v (i - at)) (slice_range-past w at (length w) (omega arith)) ∙ get_or-drop at w (i - at) 0 ∙ ap (slice_index w) sum ∙ same in
    nowhere (i - at) (omega arith) (omega (arith, low, high)) (eq-eqb _ b here)

pub returns-in-Some-clause-passed : goal.returns-in-Some-clause-passed
returns-in-Some-clause-passed c = differs_if_not_found c.args.bytes.now c.args.from c.args.byte c.in-Some.distance c.in-Some.ensures.0.before

pub returns-in-None-clause-passed : goal.returns-in-None-clause-passed
returns-in-None-clause-passed c i low high =
    let w = c.args.bytes.now in
    let size : length (slice_range w c.args.from (length w)) ≡ length w - c.args.from = ap length (slice_range-past w c.args.from (length w) (omega arith)) ∙ length-drop c.args.from w in
    differs_if_not_found w c.args.from c.args.byte (length (slice_range w c.args.from (length w))) c.in-None.ensures i low (omega (arith, size, low, high))

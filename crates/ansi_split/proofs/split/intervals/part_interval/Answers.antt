use Rattle.ansi_split.proofs.Common.{◌≡◌, ℕ, suc, ◌+◌, ◌-◌, ◌≤◌, List, length, Option, Some, None, MatchOption, refl, ◌∙◌, ap, subst, arith, slice_get, plain, length-plain, IsUtf8-plain, first_match_from, parts, IsCutAtMatch}
use Rattle.ansi_split.specs.declared.split.rest.Rest.{Rest}
use Rattle.ansi_split.proofs.IntervalWalkLemmas.{IsIntervalWalk, interval_walk-begin, interval_walk-next, interval_walk-part, interval_walk-last, interval_walk-none, front-length, interval_is_good}
use Rattle.ansi_split.proofs.split.intervals.part_interval.Goals as goal

-- what is left of a text is cut at its next match, or it has none
abbrev IsCut : List ℕ → List ℕ → ℕ → List ℕ → Option Rest → Type 0
IsCut rest p from front r = MatchOption r ((first_match_from (plain rest) p from ≡ None) × (front ≡ rest)) (λ after. IsCutAtMatch rest p from front after.text.now)

front_within : (rest p : List ℕ) (from : ℕ) (front : List ℕ) (r : Option Rest) → IsCut rest p from front r → length (plain front) ≤ length (plain rest)
front_within rest p from front None none = omega (arith, ap (λ v. length (plain v)) none.1)
front_within rest p from front (Some after) at = (let size = front-length at in omega (arith, size.0, size.1))

-- the part ends at the next match, or with the text
part_is : {t p : List ℕ} {index k place skip from : ℕ} (rest front : List ℕ) (r : Option Rest) → IsIntervalWalk t p index k place skip from rest → k ≡ 0 → IsCut rest p from front r
    → Some (place + skip, place + length (plain front)) ≡ slice_get (parts (plain t) p) index
part_is {t} {p} {index} {k} {place} {skip} {from} rest front None way here none =
    interval_walk-last _ _ (subst (λ i. IsIntervalWalk t p index i place skip from rest) here way) none.0 refl (ap (λ v. place + length (plain v)) none.1)
part_is {t} {p} {index} {k} {place} {skip} {from} rest front (Some after) way here at =
    interval_walk-part _ _ (subst (λ i. IsIntervalWalk t p index i place skip from rest) here way) at refl refl

pub loop-init : goal.loop-init
loop-init c =
    let all : c.args.index ≡ c.args.index - 0 = omega arith in
    rw (c.new-rest.ensures, ← all) (interval_walk-begin c.args.text.now c.args.pat.now c.args.index)

pub overflow_add-place : goal.overflow_add-place
overflow_add-place c =
    let rest = c.loop.rest.text.now in
    let cut = c.cut_at_match-cut in
    omega (arith, c.plain_len-place.ensures, front_within rest c.args.pat.now c.loop.from cut.result.front.now cut.result.rest cut.ensures.rest, c.loop.invariant.count, length-plain c.args.text.now)

pub loop-preserved : goal.loop-preserved
loop-preserved c =
    let p = c.args.pat.now in
    let cut = c.cut_at_match-cut in
    let here : c.args.index - c.loop.counter ≡ suc (c.args.index - (c.loop.counter + 1)) = omega (arith, c.loop-test.true) in
    let at : IsCutAtMatch c.loop.rest.text.now p c.loop.from cut.result.front.now c.in_ok-rest.rest.text.now = rw c.in_ok-rest.was at cut.ensures.rest in
    rw (c.plain_len-place.ensures, c.max-from.ensures)
    (interval_walk-next _ (subst (λ k. IsIntervalWalk c.args.text.now p c.args.index k c.loop.place c.loop.skip c.loop.from c.loop.rest.text.now) here c.loop.invariant) at refl)

pub returns-in_err-rest-clause-interval : goal.returns-in_err-rest-clause-interval
returns-in_err-rest-clause-interval c =
    let p = c.args.pat.now in
    let cut = c.cut_at_match-cut in
    let here : c.args.index - c.loop.counter ≡ suc (c.args.index - (c.loop.counter + 1)) = omega (arith, c.loop-test.true) in
    let none : (first_match_from (plain c.loop.rest.text.now) p c.loop.from ≡ None) × (cut.result.front.now ≡ c.loop.rest.text.now) = rw c.in_err-rest.was at cut.ensures.rest in
    c.from_residual.ensures ∙ interval_walk-none (subst (λ k. IsIntervalWalk c.args.text.now p c.args.index k c.loop.place c.loop.skip c.loop.from c.loop.rest.text.now) here c.loop.invariant) none.0

pub overflow_add-result : goal.overflow_add-result
overflow_add-result c = omega (arith, c.loop.invariant.within, c.loop.invariant.count, length-plain c.args.text.now)

pub overflow_add-result-2 : goal.overflow_add-result-2
overflow_add-result-2 c =
    let rest = c.loop.rest.text.now in
    let cut = c.cut_at_match-cut-2 in
    omega (arith, c.plain_len.ensures, front_within rest c.args.pat.now c.loop.from cut.result.front.now cut.result.rest cut.ensures.rest, c.loop.invariant.count, length-plain c.args.text.now)

pub returns-clause-interval : goal.returns-clause-interval
returns-clause-interval c =
    let cut = c.cut_at_match-cut-2 in
    let here : c.args.index - c.loop.counter ≡ 0 = omega (arith, c.loop-test.false) in
    rw c.plain_len.ensures (part_is c.loop.rest.text.now cut.result.front.now cut.result.rest c.loop.invariant here cut.ensures.rest)

pub returns-clause-good : goal.returns-clause-good
returns-clause-good c = (interval_is_good _ c.args.pat.now c.args.index _ (IsUtf8-plain c.args.text.now c.utf8.text) c.utf8.pat (returns-clause-interval c)).good

pub returns-clause-good_before : goal.returns-clause-good_before
returns-clause-good_before c = (interval_is_good _ c.args.pat.now c.args.index _ (IsUtf8-plain c.args.text.now c.utf8.text) c.utf8.pat (returns-clause-interval c)).before

pub returns-clause-good_after : goal.returns-clause-good_after
returns-clause-good_after c = (interval_is_good _ c.args.pat.now c.args.index _ (IsUtf8-plain c.args.text.now c.utf8.text) c.utf8.pat (returns-clause-interval c)).after

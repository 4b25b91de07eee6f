use Rattle.std.proofs.Common.{◌≡◌, [], ◌-◌, ◌^◌, ◌<◌, ◌≤◌, ◌++◌, length, take, encode_utf8, length-append, refl, sym, ◌∙◌, ap, subst, arith, rules}
use Rattle.std.proofs.lemmas.List.{length-take}
use Rattle.ansi_items.proofs.PlainLemmas.{length-plain}
use Rattle.ansi_clusters.specs.BreakStates.{break_state_of}
use Rattle.ansi_clusters.specs.Letters.{IsPlainFront}
use Rattle.ansi_clusters.specs.Walks.{IsPastClusters}
use Rattle.ansi_clusters.proofs.LetterLemmas.{front-before, past-stretch, slice-front}
use Rattle.ansi_clusters.proofs.SingleWalkLemmas.{walk_past}
use Rattle.ansi_clusters.proofs.walks.Walk.past_plain.Goals as goal

pub on-requires-clause-position : goal.on-requires-clause-position
on-requires-clause-position c =
    let t = c.args.text.now in
    let size : length t < 2 ^ 63 = search rules in
    omega (arith, size, c.requires.walk.1.within, length-plain t, c.range-run.ensures.len, c.range.ensures.len, c.chars-chars.ensures.len, ap length c.in-Some.ensures.steps)

pub overflow_sub-result : goal.overflow_sub-result
overflow_sub-result c =
    let run = c.range-run.result.now in
    let front = c.as_str-front.result.now in
    let is : take c.args.len run ≡ front ++ encode_utf8 c.in-Some.last
    = sym (c.chars-chars.ensures.rest ∙ c.range.ensures.value ∙ slice-front run c.args.len) ∙ c.in-Some.ensures.steps ∙ ap (λ u. u ++ encode_utf8 c.in-Some.last) (sym c.as_str-front.ensures) in
    let before = front-before run c.range-run.utf8 c.in-Some.last front c.as_str-front.utf8 (subst (λ r. IsPlainFront r c.args.len c.args.columns) (sym c.range-run.ensures.value) c.requires.front) is in
    omega (arith, before.2, before.3, c.char_width.ensures.value)

pub returns : goal.returns
returns c view walk =
    let t = c.args.text.now in
    let run = c.range-run.result.now in
    let front = c.as_str-front.result.now in
    let is : take c.args.len run ≡ front ++ encode_utf8 c.in-Some.last
    = sym (c.chars-chars.ensures.rest ∙ c.range.ensures.value ∙ slice-front run c.args.len) ∙ c.in-Some.ensures.steps ∙ ap (λ u. u ++ encode_utf8 c.in-Some.last) (sym c.as_str-front.ensures) in
    let before = front-before run c.range-run.utf8 c.in-Some.last front c.as_str-front.utf8 (subst (λ r. IsPlainFront r c.args.len c.args.columns) (sym c.range-run.ensures.value) c.requires.front) is in
    let within : length front ≤ length run = omega (arith, ap length is, length-append front (encode_utf8 c.in-Some.last), length-take c.args.len run) in
    let past = past-stretch (length front) (break_state_of []) c.utf8.text walk (sym c.range-run.ensures.value) before.4 (omega (arith, c.if-front-eq0.false)) within refl in
    let count : before.1 ≡ c.args.columns - c.char_width.result = omega (arith, before.2, before.3, c.char_width.ensures.value) in
    subst (λ v. IsPastClusters view t c.args.self v (c.args.columns - c.char_width.result)) (sym c.on.ensures) (subst (IsPastClusters view t c.args.self (walk_past c.args.self (length front) (break_state_of []))) count past)

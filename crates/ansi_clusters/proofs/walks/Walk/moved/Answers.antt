use Rattle.std.proofs.Common.{◌≡◌, ◌+◌, ◌^◌, ◌<◌, length, drop, encode_utf8, ◌∙◌, ap, subst, arith, rules}
use Rattle.ansi_items.proofs.PlainLemmas.{length-plain}
use Rattle.ansi_search.specs.Offsets.{offset_of}
use Rattle.ansi_clusters.specs.Walks.{IsRun}
use Rattle.ansi_clusters.proofs.WalkLemmas.{position_within, walk-on, walk-over}
use Rattle.ansi_clusters.proofs.walks.Walk.moved.Goals.{then-offset-run_end, else-offset-run_end}
use Rattle.ansi_clusters.proofs.walks.Walk.moved.Goals as goal

pub overflow_add-result : goal.overflow_add-result
overflow_add-result c =
    let t = c.args.text.now in
    let size : length t < 2 ^ 63 = search rules in
    omega (arith, size, position_within t c.utf8.text c.args.self c.requires.walk.1 c.requires.next.0 c.requires.next.1, length-plain t, c.requires.next.2)

pub returns-clause-walk : goal.returns-clause-walk
returns-clause-walk c view break_state =
    let t = c.args.text.now in
    let w = c.args.self in
    let d = c.requires.next.0 in
    let len : c.args.len ≡ length (encode_utf8 d) = c.requires.next.2 in
    let position = ap (λ n. w.position + n) len in
    elim c.if-offset-run_end.branch [
      | then-offset-run_end v ↦ (
          let rest : v.range_from.result.now ≡ drop (w.offset + length (encode_utf8 d)) t = v.range_from.ensures.value ∙ ap (λ n. drop (w.offset + n) t) len in
          let run = v.first_run-start.ensures in
          walk-over t c.utf8.text w c.requires.walk.1 d c.requires.next.1 view _ v.first_run-start.result.0 v.first_run-start.result.1 position
          (omega (arith, v.offset-is, len)) (omega (arith, v.run_end-is, len)) (run.start ∙ ap (λ x. offset_of x 0) rest)
          (subst (λ x. IsRun x v.first_run-start.result.0 v.first_run-start.result.1) rest run.run) (λ e. run.none e ∙ ap length rest) break_state)
      | else-offset-run_end v ↦ walk-on t c.utf8.text w c.requires.walk.1 d c.requires.next.1 view _ position (omega (arith, v.offset-is, len)) v.run_end-is
          (λ e. absurd (omega (arith, e, v.if-offset-run_end.false, len))) break_state
    ]

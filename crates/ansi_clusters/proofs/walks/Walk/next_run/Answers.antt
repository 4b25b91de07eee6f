use Rattle.std.proofs.Common.{◌≡◌, ◌-◌, ◌^◌, ◌<◌, suc, length, take, drop, refl, ◌∙◌, ap, subst, arith, rules}
use Rattle.std.specs.List.{list_all}
use Rattle.ansi_items.proofs.PlainLemmas.{length-plain}
use Rattle.ansi_search.specs.Offsets.{offset_of}
use Rattle.ansi_clusters.specs.Walks.{IsRun}
use Rattle.ansi_clusters.proofs.AsciiLemmas.{is_printable}
use Rattle.ansi_clusters.proofs.PrintableLemmas.{IsAtNextRun, next-run, past-run, run-within}
use Rattle.ansi_clusters.proofs.walks.Walk.next_run.Goals as goal

pub overflow_add-result : goal.overflow_add-result
overflow_add-result c =
    let t = c.args.text.now in
    let w = c.args.self in
    let size : length t < 2 ^ 63 = search rules in
    let n = w.run_end - w.offset - 1 in
    let more : suc n ≡ w.run_end - w.offset = omega (arith, c.requires.some) in
    let within = run-within c.requires.walk.0 t w n c.utf8.text c.requires.walk.1 (omega (arith, c.requires.some)) (ap (λ k. list_all is_printable (take k (drop w.offset t))) more ∙ c.requires.bytes) in
    omega (arith, size, within, length-plain t)

-- the walk is at the first run after this one
pub returns : goal.returns
returns c =
    let t = c.args.text.now in
    let w = c.args.self in
    let first = c.first_run-start.ensures in
    let rest : c.range_from.result.now ≡ drop w.run_end t = c.range_from.ensures.value in
    let at : IsAtNextRun t w.run_end _ = record {
      start = c.first_run-start.result.0;
      end = c.first_run-start.result.1;
      offset = refl;
      run_end = refl;
      start_is = first.start ∙ ap (λ x. offset_of x 0) rest;
      run = subst (λ x. IsRun x c.first_run-start.result.0 c.first_run-start.result.1) rest first.run;
      none = λ e. first.none e ∙ ap length rest;
      break_state = c.start.ensures;
    } in
    record {
      walk = λ view is. (next-run view t w _ c.utf8.text is c.requires.some c.requires.bytes refl at).0;
      past = past-run t w _ c.utf8.text c.requires.walk.1 c.requires.some c.requires.bytes refl at;
      last = λ view is. (next-run view t w _ c.utf8.text is c.requires.some c.requires.bytes refl at).1;
      position = refl;
      break_state = c.start.ensures;
    }

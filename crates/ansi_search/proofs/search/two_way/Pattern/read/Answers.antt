use Rattle.ansi_search.proofs.Common.{◌≤◌, ◌+◌, length, sym, ◌∙◌, arith, plain, length-plain, IsCut, IsMismatch}
use Rattle.ansi_search.proofs.WindowLemmas.{comes-then, ahead-later, meets-from, meets-last, OccursAt-front_and_rest, apart-both}
use Rattle.ansi_search.proofs.search.two_way.Pattern.read.Goals as goal

pub overflow_add-end : goal.overflow_add-end
overflow_add-end c = omega (arith, c.requires.run.fits, length-plain c.args.text.now, c.well_formed.1.0)

-- another byte than the next one
pub loop-window-preserved-then-run-at : goal.loop-window-preserved-then-run-at
loop-window-preserved-then-run-at c =
    let so_far = c.loop-window.invariant in
    let moved = c.after_mismatch-window.ensures in
    record {
      comes = comes-then so_far.comes.reached moved.comes;
      place = omega (arith, moved.forward, so_far.place);
      ahead = moved.ahead;
    }

-- what follows the cut matches, and what comes before it does
pub returns-then-front_matches : goal.returns-then-front_matches
returns-then-front_matches c = grind (arith, meets-last, OccursAt-front_and_rest)

-- or it doesn't
pub loop-window-preserved : goal.loop-window-preserved
loop-window-preserved c =
    let t = c.args.text.now in
    let p = c.args.self.now.bytes.now in
    let w = c.loop-window.window in
    let cut = c.args.self.now.cut in
    let comes = c.loop-window.invariant.comes in
    let is_cut : IsCut p cut = c.args.self.now.is_cut in
    let last : length p ≤ w.met + 1 = omega (arith, c.if-window-self.false) in
    let meets = meets-last c.args.run.now c.args.here.position comes c.requires.run c.loop-window.invariant.place c.loop-window-test.true c.if-run-at.false last in
    let apart : IsMismatch t p cut.at c.args.window.position (record { position = w.position; low = w.low; met = w.met; point = c.point_before-window.result; next = w.next }) = record {
      reached = comes.reached;
      point = c.point_before-window.ensures;
      meets = meets-from (plain t) p w.position w.low cut.at (length p) comes.low meets;
      fits = omega (arith, last, c.loop-window-test.true, c.requires.run.fits);
      other = apart-both (plain t) p w.position cut.at (omega (arith, is_cut.below)) (sym c.front_matches.ensures ∙ c.if-front_matches.false);
    } in
    record {
      comes = c.after_front-window.ensures.comes t c.args.window.position apart;
      place = omega (arith, c.after_front-window.ensures.forward, c.loop-window.invariant.place, comes.short);
      ahead = ahead-later t p c.args.self.now.rare c.args.here w c.after_front-window.result c.loop-window.invariant.ahead c.after_front-window.ensures.next (omega (arith, c.after_front-window.ensures.past));
    }

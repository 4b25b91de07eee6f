use Rattle.ansi_search.proofs.Common.{◌≡◌, ◌≤◌, ◌+◌, ◌-◌, length, min, slice_index, sym, ◌∙◌, ap, arith, length-plain, StandsNowhere}
use Rattle.ansi_search.proofs.WindowLemmas.{reached-mismatch, passed-in-run, ahead-later, point-later}
use Rattle.ansi_search.proofs.search.two_way.Pattern.after_mismatch.Goals as goal

pub overflow_add-begin : goal.overflow_add-begin
overflow_add-begin c = grind (arith, length-plain)

-- the rare byte would be in an earlier run
pub returns-then-place-here : goal.returns-then-place-here
returns-then-place-here c =
    let w = c.args.window in
    let cut = c.args.self.now.cut in
    let rare = c.args.self.now.rare in
    let upto : rare ≤ cut.at = c.args.self.now.rare_within in
    let comes = c.requires.comes in
    let from : cut.at ≤ w.met = comes.cut in
    let n = w.position + (w.met - cut.at) + 1 in
    let reached = reached-mismatch c.args.run.now c.args.here.position rare n c.args.self.now.is_cut upto comes c.requires.run c.requires.place c.requires.inside c.requires.other (omega arith)
    (omega (arith, upto, from, c.requires.inside)) (λ k low high _. omega (arith, low, high)) in
    record {
      comes = c.window_at.ensures.comes c.args.text.now w.position reached (point-later comes.point (omega arith));
      past = omega (arith, c.window_at.ensures.position);
      forward = omega (arith, c.window_at.ensures.position, c.window_at.ensures.met, from);
      ahead = ahead-later c.args.text.now c.args.self.now.bytes.now rare c.args.here w c.window_at.result c.requires.ahead c.window_at.ensures.next (omega (arith, c.window_at.ensures.position));
    }

-- or in this one
pub returns : goal.returns
returns c =
    let t = c.args.text.now in
    let p = c.args.self.now.bytes.now in
    let w = c.args.window in
    let here = c.args.here in
    let cut = c.args.self.now.cut in
    let rare = c.args.self.now.rare in
    let upto : rare ≤ cut.at = c.args.self.now.rare_within in
    let comes = c.requires.comes in
    let met : cut.at ≤ w.met = comes.cut in
    let m = w.position + (w.met - cut.at) + 1 in
    let from = here.offset + (m + rare - here.position) in
    let next = c.next_of-next.result in
    let end = here.offset + length c.args.run.now in
    let least : c.min.result ≡ min next end = c.min.ensures in
    let n = m + (c.min.result - from) in
    let past : here.position ≤ m + rare = c.if-place-here.false in
    let inside : from ≤ end = omega (arith, upto, met, c.requires.inside, past) in
    let forward : from ≤ next = c.next_of-next.ensures.forward in
    let nowhere : StandsNowhere (slice_index p rare) t from next
    = λ j low high same. c.next_of-next.ensures.passed j low high (ap (λ v. slice_index v j) c.as_bytes.ensures.value ∙ same ∙ sym c.rare_byte.ensures) in
    let fits : n + rare ≤ here.position + length c.args.run.now = omega (arith, least, inside, forward, past) in
    let reached = reached-mismatch c.args.run.now here.position rare n c.args.self.now.is_cut upto comes c.requires.run c.requires.place c.requires.inside c.requires.other (omega arith) fits
    (passed-in-run {here = here} (slice_index p rare) m rare from next n c.requires.run c.requires.bytes past (omega arith) fits (omega (arith, least, forward)) nowhere) in
    let moved = c.window_at-2.ensures in
    record {
      comes = moved.comes t w.position reached (c.last_point-point.ensures t (point-later comes.point (omega arith)) c.requires.here);
      past = omega (arith, moved.position);
      forward = omega (arith, moved.position, moved.met, met);
      ahead = λ j low high. nowhere j (omega (arith, low, moved.position, past)) (omega (arith, high, moved.next));
    }

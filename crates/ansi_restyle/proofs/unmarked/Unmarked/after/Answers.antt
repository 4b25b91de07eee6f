use Rattle.std.proofs.Common.{length, ap, subst, arith}
use Rattle.std.proofs.lemmas.List.{length-drop}
use Rattle.memchr.specs.Find.{OccursAt}
use Rattle.ansi_restyle.proofs.UnmarkedLemmas.{seen-drop}
use Rattle.ansi_restyle.proofs.unmarked.Unmarked.after.Goals as goal

pub invariant_of-result : goal.invariant_of-result
invariant_of-result c =
    let s = c.args.self.now in
    let t = s.rest.text.now in
    let len = length-drop c.args.len t in
    let size = ap length c.requires.rest in
    let kept = seen-drop t s.pat.now c.args.len s.seen c.requires.within s.is_seen in
    record {
      seen_within = omega (arith, c.saturating_sub.ensures, size, len, s.seen_within);
      is_seen = λ k low high at. kept k low (omega (arith, high, c.saturating_sub.ensures)) (subst (λ u. OccursAt u s.pat.now k) c.requires.rest at);
    }

use Rattle.ansi_clusters.proofs.PrintableLemmas.{ends-breaking, ends-single}
use Rattle.ansi_clusters.proofs.walks.Walk.is_before_break.Goals as goal

pub returns-then-is_single : goal.returns-then-is_single
returns-then-is_single c _ view is before b first =
    let single = c.is_single.ensures in
    ends-single view c.args.text.now c.utf8.text c.args.self is c.in-Some.next c.in-Some.ensures (single.single c.if-is_single.true) (single.printing c.if-is_single.true) before b first

pub returns : goal.returns
returns c breaks view is before b first = ends-breaking view c.args.text.now c.utf8.text c.args.self is c.in-Some.next c.in-Some.ensures (c.breaks_after_ascii.ensures breaks) before b first

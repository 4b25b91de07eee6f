use Rattle.std.proofs.Common.{◌<◌, sym, ◌∙◌, subst}
use Rattle.ansi_clusters.specs.Walks.{seen_cluster}
use Rattle.ansi_clusters.proofs.AloneLemmas.{ends-seen, blank-alone, wide-blank, wide-line_end}
use Rattle.ansi_clusters.proofs.lines.ends_or_parts.Goals as goal

pub returns-then-width-gt1-clause-line_end : goal.returns-then-width-gt1-clause-line_end
returns-then-width-gt1-clause-line_end c = sym (wide-line_end _ (subst (λ n. 1 < n) c.requires.width c.if-width-gt1.true))

pub returns-then-width-gt1-clause-blank : goal.returns-then-width-gt1-clause-blank
returns-then-width-gt1-clause-blank c = sym (wide-blank _ (subst (λ n. 1 < n) c.requires.width c.if-width-gt1.true))

pub returns-then-is_given-clause-line_end : goal.returns-then-is_given-clause-line_end
returns-then-is_given-clause-line_end c = rw (c.is_given.ensures.given c.if-is_given.true) c.is_line_end.ensures

pub returns-then-is_given-clause-blank : goal.returns-then-is_given-clause-blank
returns-then-is_given-clause-blank c = rw (c.is_given.ensures.given c.if-is_given.true) c.is_blank.ensures

pub returns-clause-line_end : goal.returns-clause-line_end
returns-clause-line_end c = c.is_alone.ensures.feed ∙ ends-seen c.args.view c.args.text.now c.args.here.now.position c.args.next.now.position (c.is_given.ensures.other c.if-is_given.false)

pub returns-clause-blank : goal.returns-clause-blank
returns-clause-blank c = c.is_alone.ensures.blank ∙ blank-alone (seen_cluster c.args.view c.args.text.now c.args.here.now.position c.args.next.now.position)

pub is_line_end-requires-clause-here : goal.is_line_end-requires-clause-here
is_line_end-requires-clause-here c = rw (c.is_given.ensures.given c.if-is_given.true) at c.requires.here

pub is_line_end-requires-clause-next : goal.is_line_end-requires-clause-next
is_line_end-requires-clause-next c = (rw (c.is_given.ensures.given c.if-is_given.true) at c.requires.next).walk

pub is_blank-requires-clause-here : goal.is_blank-requires-clause-here
is_blank-requires-clause-here c = rw (c.is_given.ensures.given c.if-is_given.true) at c.requires.here

pub is_blank-requires-clause-next : goal.is_blank-requires-clause-next
is_blank-requires-clause-next c = (rw (c.is_given.ensures.given c.if-is_given.true) at c.requires.next).walk

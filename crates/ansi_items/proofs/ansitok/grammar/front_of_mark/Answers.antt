use Rattle.ansi_items.proofs.Common.{◌∙◌, arith}
use Rattle.ansi_items.proofs.MarkLemmas.{mark_control}
use Rattle.ansi_items.proofs.ansitok.grammar.front_of_mark.Goals as goal

pub returns-in-Some-eq91 : goal.returns-in-Some-eq91
returns-in-Some-eq91 c =
    c.unwrap_or.ensures ∙ mark_control c.args.text.now c.args.start c.in-Some-eq91.field-0 c.requires.escape c.in-Some-eq91.ensures.some.0 _ (omega arith) c.control_sequence.ensures.front

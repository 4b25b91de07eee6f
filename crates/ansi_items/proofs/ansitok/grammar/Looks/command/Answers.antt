use Rattle.ansi_items.proofs.BetweenLemmas.{command_ended}
use Rattle.ansi_items.proofs.ansitok.grammar.Looks.command.Goals as goal

pub returns-then-body-bytes-clause-front : goal.returns-then-body-bytes-clause-front
returns-then-body-bytes-clause-front c = command_ended c.args.bytes.now c.args.after.now c.body_len-body.result c.requires.between c.body_len-body.ensures.len c.if-body-bytes.true

use Rattle.ansi_items.proofs.Common.{◌∙◌}
use Rattle.ansi_items.proofs.BetweenLemmas.{bell_found}
use Rattle.ansi_items.proofs.ansitok.grammar.Looks.body_len.Goals as goal

pub returns-clause-len : goal.returns-clause-len
returns-clause-len c = c.unwrap_or-len.ensures ∙ bell_found c.args.bytes.now c.memchr.result c.requires.between c.memchr.ensures

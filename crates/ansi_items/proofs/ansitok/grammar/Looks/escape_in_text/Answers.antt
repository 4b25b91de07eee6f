use Rattle.ansi_items.proofs.Common.{◌+◌, ◌∙◌, ap, take_rest, before_escape}
use Rattle.ansi_items.proofs.EscapeLemmas.{escape_found}
use Rattle.ansi_items.proofs.ansitok.grammar.Looks.escape_in_text.Goals as goal

pub returns-clause-place : goal.returns-clause-place
returns-clause-place c =
    ap (λ n. c.args.from + n) (c.unwrap_or-len.ensures ∙ escape_found _ c.memchr.result c.memchr.ensures ∙ ap before_escape (take_rest c.args.text.now c.args.from))

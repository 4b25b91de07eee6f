use Rattle.ansi_items.proofs.Common.{◌+◌}
use Rattle.ansi_items.proofs.EscapeLemmas.{after_is_next, between_is_plain}
use Rattle.ansi_items.proofs.MarkLemmas.{mark_string}
use Rattle.ansi_items.proofs.ansitok.grammar.Looks.string_front.Goals as goal

pub whole_string-requires-clause-between : goal.whole_string-requires-clause-between
whole_string-requires-clause-between c = between_is_plain c.args.text.now (c.args.start + 2) c.next_escape-escape.result c.next_escape-escape.ensures.place

pub whole_string-requires-clause-after : goal.whole_string-requires-clause-after
whole_string-requires-clause-after c = after_is_next c.args.text.now (c.args.start + 2) c.next_escape-escape.result c.next_escape-escape.ensures.place

pub returns-clause-front : goal.returns-clause-front
returns-clause-front c =
    mark_string c.args.text.now c.args.start c.args.opener c.requires.escape c.requires.opener c.next_escape-escape.result c.next_escape-escape.ensures.place c.requires.opens _ c.whole_string.ensures.front

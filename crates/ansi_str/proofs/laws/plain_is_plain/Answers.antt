use Rattle.ansi_items.proofs.PlainLemmas.{has_escape-plain, plain-plain, is_whole-plain}
use Rattle.ansi_items.proofs.Utf8Lemmas.{IsUtf8-plain}
use Rattle.ansi_str.proofs.laws.plain_is_plain.Goals as goal

pub returns-clause-no_escape : goal.returns-clause-no_escape
returns-clause-no_escape c = has_escape-plain

pub returns-clause-same : goal.returns-clause-same
returns-clause-same c = plain-plain

pub returns-clause-whole : goal.returns-clause-whole
returns-clause-whole c = is_whole-plain

pub returns-clause-utf8 : goal.returns-clause-utf8
returns-clause-utf8 c = IsUtf8-plain

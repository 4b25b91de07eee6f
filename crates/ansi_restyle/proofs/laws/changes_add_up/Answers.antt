use Rattle.std.proofs.Common.{◌∙◌, ap}
use Rattle.ansi_restyle.specs.Restyled.{changed_within}
use Rattle.ansi_restyle.proofs.ChangeLemmas.{changed_byte-twice}
use Rattle.ansi_restyle.proofs.laws.changes_add_up.Goals as goal

pub returns-clause-in_turn : goal.returns-clause-in_turn
returns-clause-in_turn c = λ t v w rs u x first second. second.styled_bytes ∙ ap (changed_within w rs 0) first.styled_bytes

pub returns-clause-concatenated : goal.returns-clause-concatenated
returns-clause-concatenated c = λ first second b is_first is_second. changed_byte-twice first second b is_first is_second

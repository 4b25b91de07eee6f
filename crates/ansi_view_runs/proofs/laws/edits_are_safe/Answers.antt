use Rattle.ansi_view_runs.proofs.ChangeLemmas.{each-safe, each-one_line, all-in_turn}
use Rattle.ansi_view_runs.proofs.laws.edits_are_safe.Goals as goal

pub returns-clause-safe : goal.returns-clause-safe
returns-clause-safe c = each-safe

pub returns-clause-one_line : goal.returns-clause-one_line
returns-clause-one_line c = each-one_line

pub returns-clause-in_turn : goal.returns-clause-in_turn
returns-clause-in_turn c = all-in_turn

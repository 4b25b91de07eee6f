use Rattle.ansi_view_runs.proofs.SafeViewLemmas.{shown-safe, shown-closed, edited-safe}
use Rattle.ansi_view_runs.proofs.laws.shown_lines_are_safe.Goals as goal

pub returns-clause-safe : goal.returns-clause-safe
returns-clause-safe c = shown-safe

pub returns-clause-closed : goal.returns-clause-closed
returns-clause-closed c = shown-closed

pub returns-clause-edited : goal.returns-clause-edited
returns-clause-edited c = edited-safe

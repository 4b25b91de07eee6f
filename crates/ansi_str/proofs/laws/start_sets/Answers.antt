use Rattle.ansi_style.proofs.StartLemmas.{start_sets, start_keeps, start_sets_known, start_keeps_known}
use Rattle.ansi_str.proofs.laws.start_sets.Goals as goal

pub returns-clause-from_plain : goal.returns-clause-from_plain
returns-clause-from_plain c = start_sets

pub returns-clause-from_itself : goal.returns-clause-from_itself
returns-clause-from_itself c = start_keeps

pub returns-clause-from_cleared : goal.returns-clause-from_cleared
returns-clause-from_cleared c = start_sets_known

pub returns-clause-from_known : goal.returns-clause-from_known
returns-clause-from_known c = start_keeps_known

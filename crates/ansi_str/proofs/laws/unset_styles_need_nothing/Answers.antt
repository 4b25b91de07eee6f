use Rattle.ansi_style.proofs.UnsetLemmas.{known-unset, start-unset, close_if_any_clears}
use Rattle.ansi_str.proofs.laws.unset_styles_need_nothing.Goals as goal

pub returns-clause-known : goal.returns-clause-known
returns-clause-known c = known-unset

pub returns-clause-start : goal.returns-clause-start
returns-clause-start c = start-unset

pub returns-clause-cleared : goal.returns-clause-cleared
returns-clause-cleared c = close_if_any_clears

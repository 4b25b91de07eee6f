use Rattle.ansi_str.proofs.Common.{◌-◌, length, arith, plain, kept-all, is_kept, slice_range-trim_interval, trim_interval_boundaries, plain-trimmed, plain-without_prefix, plain-without_suffix}
use Rattle.ansi_str.proofs.laws.trim_is_std.Goals as goal

pub returns-clause-trim : goal.returns-clause-trim
returns-clause-trim c = plain-trimmed

pub returns-clause-prefix : goal.returns-clause-prefix
returns-clause-prefix c = plain-without_prefix

pub returns-clause-suffix : goal.returns-clause-suffix
returns-clause-suffix c = plain-without_suffix

pub returns-clause-interval : goal.returns-clause-interval
returns-clause-interval c = slice_range-trim_interval

pub returns-clause-boundaries : goal.returns-clause-boundaries
returns-clause-boundaries c = trim_interval_boundaries

pub returns-clause-kept : goal.returns-clause-kept
returns-clause-kept c = is_kept

pub returns-clause-empty_prefix : goal.returns-clause-empty_prefix
returns-clause-empty_prefix c = λ t. kept-all t (length (plain t)) (omega arith)

pub returns-clause-empty_suffix : goal.returns-clause-empty_suffix
returns-clause-empty_suffix c = λ t. kept-all t (length (plain t) - 0) (omega arith)

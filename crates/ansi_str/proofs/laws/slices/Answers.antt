use Rattle.ansi_str.proofs.Common.{styled-cut, left_side_is, right_side_is, styled-kept}
use Rattle.ansi_str.proofs.ChangeLemmas.{slice_of-cut, slice_of-left_side, slice_of-right_side, slice_of-without_prefix, slice_of-without_suffix, slice_of-trimmed, slice_of-part}
use Rattle.ansi_str.proofs.laws.slices.Goals as goal

pub returns-clause-cut : goal.returns-clause-cut
returns-clause-cut c = slice_of-cut

pub returns-clause-left : goal.returns-clause-left
returns-clause-left c = slice_of-left_side

pub returns-clause-right : goal.returns-clause-right
returns-clause-right c = slice_of-right_side

pub returns-clause-part : goal.returns-clause-part
returns-clause-part c = slice_of-part

pub returns-clause-any_cut : goal.returns-clause-any_cut
returns-clause-any_cut c = styled-cut

pub returns-clause-any_left : goal.returns-clause-any_left
returns-clause-any_left c = λ t mid whole. (left_side_is t mid whole).styled_bytes

pub returns-clause-any_right : goal.returns-clause-any_right
returns-clause-any_right c = λ t mid whole. (right_side_is t mid whole).styled_bytes

pub returns-clause-prefix : goal.returns-clause-prefix
returns-clause-prefix c = slice_of-without_prefix

pub returns-clause-suffix : goal.returns-clause-suffix
returns-clause-suffix c = slice_of-without_suffix

pub returns-clause-trim : goal.returns-clause-trim
returns-clause-trim c = slice_of-trimmed

pub returns-clause-any_kept : goal.returns-clause-any_kept
returns-clause-any_kept c = styled-kept

use Rattle.ansi_items.proofs.JoinLemmas.{pieces_of-append, is_whole-append}
use Rattle.ansi_str.proofs.Common.{is_whole-cut, residue-cut, left_side_is, right_side_is, is_whole-kept, residue-kept}
use Rattle.ansi_str.proofs.ChangeLemmas.{is_whole-part, residue-part}
use Rattle.ansi_str.proofs.laws.join.Goals as goal

pub returns-clause-pieces : goal.returns-clause-pieces
returns-clause-pieces c = pieces_of-append

pub returns-clause-whole : goal.returns-clause-whole
returns-clause-whole c = is_whole-append

pub returns-clause-whole_cut : goal.returns-clause-whole_cut
returns-clause-whole_cut c = is_whole-cut

pub returns-clause-whole_sides : goal.returns-clause-whole_sides
returns-clause-whole_sides c = λ t mid whole. ((left_side_is t mid whole).whole, (right_side_is t mid whole).whole)

pub returns-clause-whole_part : goal.returns-clause-whole_part
returns-clause-whole_part c = is_whole-part

pub returns-clause-closed_cut : goal.returns-clause-closed_cut
returns-clause-closed_cut c = residue-cut

pub returns-clause-closed_sides : goal.returns-clause-closed_sides
returns-clause-closed_sides c = λ t mid whole. ((left_side_is t mid whole).closed, (right_side_is t mid whole).closed)

pub returns-clause-closed_part : goal.returns-clause-closed_part
returns-clause-closed_part c = residue-part

pub returns-clause-whole_kept : goal.returns-clause-whole_kept
returns-clause-whole_kept c = is_whole-kept

pub returns-clause-residue_kept : goal.returns-clause-residue_kept
returns-clause-residue_kept c = residue-kept

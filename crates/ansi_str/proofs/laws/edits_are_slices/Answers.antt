use Rattle.ansi_str.proofs.ChangeLemmas.{slice_of-styled, plain-edited_by}
use Rattle.ansi_str.proofs.EditLemmas.{edited_is_slice, residue-edited}
use Rattle.ansi_str.proofs.laws.edits_are_slices.Goals as goal

pub returns-clause-one : goal.returns-clause-one
returns-clause-one c = slice_of-styled

pub returns-clause-plain : goal.returns-clause-plain
returns-clause-plain c = plain-edited_by

pub returns-clause-in_turn : goal.returns-clause-in_turn
returns-clause-in_turn c = edited_is_slice

pub returns-clause-residue : goal.returns-clause-residue
returns-clause-residue c = residue-edited

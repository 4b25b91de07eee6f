use Rattle.ansi_str.proofs.Common.{drop, cow_str_bytes, IsBorrowedStr, changes_of}
use Rattle.ansi_str.proofs.EditWalkLemmas.{IsEditedSoFar}
use Rattle.ansi_str.proofs.edits.edit.Given as goal

-- the edits so far are done, and the text that they made is edited by those that are left
abbrev pub invariant-loop-edit : goal.invariant-loop-edit
invariant-loop-edit g l = IsEditedSoFar (changes_of l.initial.edits) l.initial.text (changes_of (drop l.edit-index l.edits)) (IsBorrowedStr l.edited) (cow_str_bytes l.edited)

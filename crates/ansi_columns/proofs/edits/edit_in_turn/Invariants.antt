use Rattle.std.proofs.Common.{◌↔◌, ◌+◌, ◌≤◌, length}
use Rattle.std.specs.Cow.{cow_str_bytes, IsBorrowedStr}
use Rattle.ansi_columns.specs.Edits.{changes_of, AreLent, most_added_in_turn}
use Rattle.ansi_columns.proofs.EditLemmas.{IsEditing}
use Rattle.ansi_columns.proofs.edits.edit_in_turn.Given as goal

-- the edits that are left make of the text so far what all make of the text, lend what all lend, and add at most what all add
abbrev pub invariant-edits : goal.invariant-edits
invariant-edits g l = record {
  editing : IsEditing (changes_of l.edits) (cow_str_bytes l.fn.text) (changes_of l.left) (cow_str_bytes l.edited);
  lent : (IsBorrowedStr l.edited × AreLent (changes_of l.left) (cow_str_bytes l.edited)) ↔ (IsBorrowedStr l.fn.text × AreLent (changes_of l.edits) (cow_str_bytes l.fn.text));
  len : length (cow_str_bytes l.edited) + most_added_in_turn (changes_of l.left) (cow_str_bytes l.edited) ≤ length (cow_str_bytes l.fn.text) + most_added_in_turn (changes_of l.edits) (cow_str_bytes l.fn.text);
}

abbrev pub decreases-edits : goal.decreases-edits
decreases-edits g l = length l.left

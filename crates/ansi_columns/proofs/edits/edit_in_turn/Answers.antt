use Rattle.std.specs.Cow.{cow_str_bytes}
use Rattle.ansi_columns.specs.Edits.{changes_of}
use Rattle.ansi_columns.proofs.EditLemmas.{editing-begun, editing-next, editing-ended, first_left, lent-next, lent-first, len-next, len-ended, ended-shown, ended-screen, lent-ended}
use Rattle.std.proofs.Common.{refl, arith}
use Rattle.std.proofs.lemmas.Bool.{false≢true}
use Rattle.ansi_cells.proofs.TailLemmas.{shown-safe, shown-one_line, shown-closed}
use Rattle.ansi_columns.proofs.edits.edit_in_turn.Goals as goal

-- before the first edit, and after each

pub edits-init : goal.edits-init
edits-init g c = record { editing = editing-begun (changes_of c.args.edits.now) (cow_str_bytes c.args.text); lent = (λ is. is, λ is. is); len = omega arith }

pub edits-preserved : goal.edits-preserved
edits-preserved g c = record {
  editing = editing-next (first_left c.edits.left.now _ c.in-len1-up.len_at_least) c.in_ok-edited.ensures.bytes c.in_ok-edited.ensures.utf8 c.edits.invariant.editing;
  lent = lent-next _ (first_left c.edits.left.now _ c.in-len1-up.len_at_least) c.in_ok-edited.ensures.bytes c.in_ok-edited.ensures.borrowed c.edits.invariant.lent;
  len = len-next (cow_str_bytes c.edits.edited) (first_left c.edits.left.now _ c.in-len1-up.len_at_least) c.in_ok-edited.ensures.bytes c.in_ok-edited.ensures.len c.edits.invariant.len;
}

-- if all lend the text, the next edit does, so it doesn't allocate
pub returns-in_err-edited-clause-takes_no_memory : goal.returns-in_err-edited-clause-takes_no_memory
returns-in_err-edited-clause-takes_no_memory g c = λ all.
    absurd (false≢true (rw c.in_err-edited.was at (c.edit_column.ensures.takes_no_memory (lent-first _ (first_left c.edits.left.now _ c.in-len1-up.len_at_least) c.edits.invariant.lent all))))

-- after the last

pub returns-clause-bytes : goal.returns-clause-bytes
returns-clause-bytes g c = (editing-ended c.edits.left.now c.in_default.len_below c.edits.invariant.editing).bytes

pub returns-clause-row : goal.returns-clause-row
returns-clause-row g c = (editing-ended c.edits.left.now c.in_default.len_below c.edits.invariant.editing).shows

pub returns-clause-borrowed : goal.returns-clause-borrowed
returns-clause-borrowed g c = lent-ended _ c.edits.left.now c.in_default.len_below c.edits.invariant.lent

pub returns-clause-len : goal.returns-clause-len
returns-clause-len g c = len-ended (cow_str_bytes c.edits.edited) c.edits.left.now c.in_default.len_below c.edits.invariant.len

pub returns-clause-safe : goal.returns-clause-safe
returns-clause-safe g c = λ other. shown-safe (ended-shown (changes_of c.args.edits.now) (cow_str_bytes c.args.text) _ (editing-ended c.edits.left.now c.in_default.len_below c.edits.invariant.editing) other) refl

pub returns-clause-one_line : goal.returns-clause-one_line
returns-clause-one_line g c = λ other. shown-one_line (ended-shown (changes_of c.args.edits.now) (cow_str_bytes c.args.text) _ (editing-ended c.edits.left.now c.in_default.len_below c.edits.invariant.editing) other) refl

pub returns-clause-closed : goal.returns-clause-closed
returns-clause-closed g c = λ other. shown-closed (ended-shown (changes_of c.args.edits.now) (cow_str_bytes c.args.text) _ (editing-ended c.edits.left.now c.in_default.len_below c.edits.invariant.editing) other) refl

pub returns-clause-screen : goal.returns-clause-screen
returns-clause-screen g c = λ other. ended-screen (changes_of c.args.edits.now) (cow_str_bytes c.args.text) _ (editing-ended c.edits.left.now c.in_default.len_below c.edits.invariant.editing) other

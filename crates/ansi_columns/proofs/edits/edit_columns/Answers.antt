use Rattle.std.proofs.Common.{◌≡◌, refl, sym, ◌∙◌, subst, arith}
use Rattle.std.proofs.lemmas.Bool.{false≢true}
use Rattle.std.specs.Cow.{cow_str_bytes}
use Rattle.std.proofs.lemmas.Result.{IfOk-weaker}
use Rattle.ansi_columns.specs.Edits.{changes_of, edited, edited_row, IsLentCell}
use Rattle.ansi_cells.specs.Rows.{row_screen}
use Rattle.ansi_cells.specs.Screens.{screen}
use Rattle.ansi_columns.proofs.EditLemmas.{if_ok_both, closed-bytes, closed-shown, closed-screen, only-editing}
use Rattle.ansi_cells.proofs.TailLemmas.{shown-safe, shown-one_line, shown-closed}
use Rattle.ansi_columns.proofs.edits.edit_columns.Goals as goal

-- one edit at least isn't an expansion

pub returns-clause-safe : goal.returns-clause-safe
returns-clause-safe g c = c.in_ok-edited.ensures.safe (sym c.only_expand.ensures ∙ c.if-only_expand.false)

pub returns-clause-one_line : goal.returns-clause-one_line
returns-clause-one_line g c = c.in_ok-edited.ensures.one_line (sym c.only_expand.ensures ∙ c.if-only_expand.false)

pub returns-clause-closed : goal.returns-clause-closed
returns-clause-closed g c = c.in_ok-edited.ensures.closed (sym c.only_expand.ensures ∙ c.if-only_expand.false)

pub returns-clause-screen : goal.returns-clause-screen
returns-clause-screen g c = c.in_ok-edited.ensures.screen (sym c.only_expand.ensures ∙ c.if-only_expand.false)

pub returns-clause-len : goal.returns-clause-len
returns-clause-len g c = omega (arith, c.in_ok-edited.ensures.len)

-- each is one, so the text is closed

pub returns-then-only_expand-clause-bytes : goal.returns-then-only_expand-clause-bytes
returns-then-only_expand-clause-bytes g c =
    let only = sym c.only_expand.ensures ∙ c.if-only_expand.true in
    let editing = only-editing (changes_of c.args.edits.now) c.args.text.now (cow_str_bytes c.in_ok-edited.edited) c.in_ok-edited.ensures.bytes c.in_ok-edited.ensures.row only in
    let r = c.close_cell in
    IfOk-weaker r.result _ (λ s. cow_str_bytes s ≡ edited (changes_of c.args.edits.now) c.args.text.now) (λ s made. closed-bytes (changes_of c.args.edits.now) c.args.text.now (cow_str_bytes c.in_ok-edited.edited) editing only {v = cow_str_bytes s} made) r.ensures.bytes

pub returns-then-only_expand-clause-safe : goal.returns-then-only_expand-clause-safe
returns-then-only_expand-clause-safe g c =
    let only = sym c.only_expand.ensures ∙ c.if-only_expand.true in
    let editing = only-editing (changes_of c.args.edits.now) c.args.text.now (cow_str_bytes c.in_ok-edited.edited) c.in_ok-edited.ensures.bytes c.in_ok-edited.ensures.row only in
    let r = c.close_cell in
    if_ok_both r.result (λ s made utf8. shown-safe (closed-shown (changes_of c.args.edits.now) c.args.text.now _ editing only made utf8) refl) r.ensures.bytes r.ensures.utf8

pub returns-then-only_expand-clause-one_line : goal.returns-then-only_expand-clause-one_line
returns-then-only_expand-clause-one_line g c =
    let only = sym c.only_expand.ensures ∙ c.if-only_expand.true in
    let editing = only-editing (changes_of c.args.edits.now) c.args.text.now (cow_str_bytes c.in_ok-edited.edited) c.in_ok-edited.ensures.bytes c.in_ok-edited.ensures.row only in
    let r = c.close_cell in
    if_ok_both r.result (λ s made utf8. shown-one_line (closed-shown (changes_of c.args.edits.now) c.args.text.now _ editing only made utf8) refl) r.ensures.bytes r.ensures.utf8

pub returns-then-only_expand-clause-closed : goal.returns-then-only_expand-clause-closed
returns-then-only_expand-clause-closed g c =
    let only = sym c.only_expand.ensures ∙ c.if-only_expand.true in
    let editing = only-editing (changes_of c.args.edits.now) c.args.text.now (cow_str_bytes c.in_ok-edited.edited) c.in_ok-edited.ensures.bytes c.in_ok-edited.ensures.row only in
    let r = c.close_cell in
    if_ok_both r.result (λ s made utf8. shown-closed (closed-shown (changes_of c.args.edits.now) c.args.text.now _ editing only made utf8) refl) r.ensures.bytes r.ensures.utf8

pub returns-then-only_expand-clause-screen : goal.returns-then-only_expand-clause-screen
returns-then-only_expand-clause-screen g c =
    let only = sym c.only_expand.ensures ∙ c.if-only_expand.true in
    let editing = only-editing (changes_of c.args.edits.now) c.args.text.now (cow_str_bytes c.in_ok-edited.edited) c.in_ok-edited.ensures.bytes c.in_ok-edited.ensures.row only in
    let r = c.close_cell in
    if_ok_both r.result {R = λ s. screen (cow_str_bytes s) ≡ row_screen (edited_row (changes_of c.args.edits.now) c.args.text.now)}
    (λ s made utf8. closed-screen (changes_of c.args.edits.now) c.args.text.now (cow_str_bytes c.in_ok-edited.edited) editing only {v = cow_str_bytes s} made utf8) r.ensures.bytes r.ensures.utf8

pub returns-then-only_expand-clause-len : goal.returns-then-only_expand-clause-len
returns-then-only_expand-clause-len g c = IfOk-weaker c.close_cell.result _ _ (λ s most. omega (arith, most, c.in_ok-edited.ensures.len)) c.close_cell.ensures.len

-- if the edits lend the text, each step doesn't allocate

pub returns-in_err-edited-clause-takes_no_memory : goal.returns-in_err-edited-clause-takes_no_memory
returns-in_err-edited-clause-takes_no_memory g c = λ all. absurd (false≢true (rw c.in_err-edited.was at (c.edit_in_turn.ensures.takes_no_memory (tt, all.0))))

pub returns-then-only_expand-clause-takes_no_memory : goal.returns-then-only_expand-clause-takes_no_memory
returns-then-only_expand-clause-takes_no_memory g c = λ all.
    let only = sym c.only_expand.ensures ∙ c.if-only_expand.true in
    let made = c.in_ok-edited.ensures in
    c.close_cell.ensures.takes_no_memory (made.borrowed.1 (tt, all.0), subst IsLentCell (sym made.bytes) (all.1 only))

pub returns-then-only_expand-clause-borrowed : goal.returns-then-only_expand-clause-borrowed
returns-then-only_expand-clause-borrowed g c =
    let only = sym c.only_expand.ensures ∙ c.if-only_expand.true in
    let made = c.in_ok-edited.ensures in
    IfOk-weaker c.close_cell.result _ _ (λ s iff. (
      λ b. (let is = iff.0 b in ((made.borrowed.0 is.0).1, λ _. subst IsLentCell made.bytes is.1)),
      λ all. iff.1 (made.borrowed.1 (tt, all.0), subst IsLentCell (sym made.bytes) (all.1 only)),
    )) c.close_cell.ensures.borrowed

use Rattle.std.proofs.Common.{length, ap, arith}
use Rattle.std.proofs.lemmas.Bool.{false≢true}
use Rattle.ansi_wraps.proofs.EditWrapLemmas.{lends-borrowed, lends-owned, edited-bytes, edited-first_fit, edited-lent, edited-owned, edited-safe, edited-one_line, edited-closed, edited-screen}
use Rattle.ansi_columns.proofs.edits.edit_and_wrap.Goals as goal

pub returns-clause-first_fit : goal.returns-clause-first_fit
returns-clause-first_fit g c = edited-first_fit c.args.to.now.width c.args.to.now.first_indent.now c.args.to.now.indent.now c.in_ok-made.ensures.bytes _ c.wrap_edited.ensures.lines

pub returns-clause-bytes : goal.returns-clause-bytes
returns-clause-bytes g c = edited-bytes c.args.to.now.width c.args.to.now.first_indent.now c.args.to.now.indent.now c.in_ok-made.ensures.bytes _ c.wrap_edited.ensures.lines

pub returns-clause-safe : goal.returns-clause-safe
returns-clause-safe g c = edited-safe c.args.to.now.width c.args.to.now.first_indent.now c.args.to.now.indent.now c.in_ok-made.ensures.bytes _ c.wrap_edited.ensures.lines c.wrap_edited.ensures.utf8 c.wrap_edited.ensures.first c.wrap_edited.ensures.later

pub returns-clause-one_line : goal.returns-clause-one_line
returns-clause-one_line g c = edited-one_line c.args.to.now.width c.args.to.now.first_indent.now c.args.to.now.indent.now c.in_ok-made.ensures.bytes _ c.wrap_edited.ensures.lines c.wrap_edited.ensures.utf8 c.wrap_edited.ensures.first c.wrap_edited.ensures.later

pub returns-clause-closed : goal.returns-clause-closed
returns-clause-closed g c = edited-closed c.args.to.now.width c.args.to.now.first_indent.now c.args.to.now.indent.now c.in_ok-made.ensures.bytes _ c.wrap_edited.ensures.lines c.wrap_edited.ensures.utf8 c.wrap_edited.ensures.first c.wrap_edited.ensures.later

pub returns-clause-screen : goal.returns-clause-screen
returns-clause-screen g c = edited-screen c.args.to.now.width c.args.to.now.first_indent.now c.args.to.now.indent.now c.in_ok-made.ensures.bytes _ c.wrap_edited.ensures.lines c.wrap_edited.ensures.utf8 c.wrap_edited.ensures.first c.wrap_edited.ensures.later

pub returns-clause-lent : goal.returns-clause-lent
returns-clause-lent g c = λ are. edited-lent c.args.to.now.width c.args.to.now.first_indent.now c.args.to.now.indent.now c.in_ok-made.ensures.bytes _ c.wrap_edited.ensures.lines (lends-borrowed c.in_ok-made.made (c.in_ok-made.ensures.borrowed.1 (tt, are)))

pub returns-clause-owned : goal.returns-clause-owned
returns-clause-owned g c = λ none. edited-owned c.args.to.now.width c.args.to.now.first_indent.now c.args.to.now.indent.now c.in_ok-made.ensures.bytes _ c.wrap_edited.ensures.lines (lends-owned c.in_ok-made.made (λ is. none (c.in_ok-made.ensures.borrowed.0 is).1))

pub returns-clause-len : goal.returns-clause-len
returns-clause-len g c = omega (arith, c.in_ok-made.ensures.len, ap length c.in_ok-made.ensures.bytes)

pub returns-in_err-made-clause-takes_no_memory : goal.returns-in_err-made-clause-takes_no_memory
returns-in_err-made-clause-takes_no_memory g c = λ are. absurd (false≢true (rw c.in_err-made.was at (c.edit_in_turn.ensures.takes_no_memory (tt, are))))

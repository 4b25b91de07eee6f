use Rattle.std.proofs.Common.{length, sym, ◌∙◌, ap, subst, arith}
use Rattle.std.proofs.lemmas.Bool.{false≢true}
use Rattle.std.proofs.lemmas.Result.{IfOk-weaker}
use Rattle.ansi_safe.specs.Cells.{cell}
use Rattle.ansi_safe.specs.Links.{IsClosed}
use Rattle.ansi_safe.proofs.CellTextLemmas.{length-cell, whole-cell}
use Rattle.ansi_cells.proofs.CleanShownLemmas.{clean-padded_cell}
use Rattle.ansi_cells.proofs.OneLineLemmas.{IsClean, clean-safe, clean-one_line}
use Rattle.ansi_cells.proofs.StyledLawLemmas.{padded-is_closed}
use Rattle.ansi_cells.proofs.RowLemmas.{screen-padded_cell}
use Rattle.ansi_cells.proofs.ShownLemmas.{length-padded}
use Rattle.ansi_cells.proofs.shown.pad.Goals as goal

pub returns-clause-bytes : goal.returns-clause-bytes
returns-clause-bytes g c = IfOk-weaker c.join.result _ _ (λ s is. is ∙ c.in_ok-shown.ensures.bytes) c.join.ensures.bytes

pub returns-clause-safe : goal.returns-clause-safe
returns-clause-safe g c = IfOk-weaker c.join.result _ _ (λ s is. clean-safe (subst IsClean (sym is) (clean-padded_cell c.args.text.now c.args.width c.args.alignment c.utf8.text))) (returns-clause-bytes g c)

pub returns-clause-one_line : goal.returns-clause-one_line
returns-clause-one_line g c = IfOk-weaker c.join.result _ _ (λ s is. clean-one_line (subst IsClean (sym is) (clean-padded_cell c.args.text.now c.args.width c.args.alignment c.utf8.text))) (returns-clause-bytes g c)

pub returns-clause-closed : goal.returns-clause-closed
returns-clause-closed g c = IfOk-weaker c.join.result _ _ (λ s is. subst IsClosed (sym is) (padded-is_closed (cell c.args.text.now) c.args.width c.args.alignment (whole-cell c.args.text.now c.utf8.text))) (returns-clause-bytes g c)

pub returns-clause-screen : goal.returns-clause-screen
returns-clause-screen g c = IfOk-weaker c.join.result _ _ (λ s is. screen-padded_cell c.args.text.now c.utf8.text c.args.width c.args.alignment is) (returns-clause-bytes g c)

pub returns-clause-borrowed : goal.returns-clause-borrowed
returns-clause-borrowed g c =
    let both = c.in_ok-shown.ensures.borrowed in
    IfOk-weaker c.join.result _ _ (λ s iff. (λ b. both.0 (iff.0 b), λ all. iff.1 (both.1 all))) c.join.ensures.borrowed

pub returns-clause-len : goal.returns-clause-len
returns-clause-len g c =
    let t = c.args.text.now in
    IfOk-weaker c.join.result _ _ (λ s is. omega (arith, ap length is, length-padded (cell t) c.args.width c.args.alignment, length-cell t c.utf8.text)) (returns-clause-bytes g c)

pub returns-clause-takes_no_memory : goal.returns-clause-takes_no_memory
returns-clause-takes_no_memory g c = λ all. c.join.ensures.takes_no_memory (c.in_ok-shown.ensures.borrowed.1 all)

pub returns-in_err-shown-clause-takes_no_memory : goal.returns-in_err-shown-clause-takes_no_memory
returns-in_err-shown-clause-takes_no_memory g c = λ all. absurd (false≢true (rw c.in_err-shown.was at (c.pad_shown.ensures.takes_no_memory all.0)))

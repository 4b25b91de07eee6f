use Rattle.std.proofs.Common.{sym, ◌∙◌, arith}
use Rattle.std.proofs.lemmas.Bool.{false≢true}
use Rattle.std.proofs.lemmas.Result.{IfOk-weaker}
use Rattle.ansi_safe.specs.Cells.{cell}
use Rattle.ansi_cells.specs.Shown.{closed_cell}
use Rattle.ansi_cells.proofs.RowLemmas.{screen-truncated_cell}
use Rattle.ansi_cells.proofs.TailForLemmas.{same-cut, truncated-same, ending-same, stays-same, tail-none}
use Rattle.ansi_cells.proofs.TailLemmas.{shown-cell, shown-truncated, shown-safe, shown-one_line, shown-closed}
use Rattle.ansi_cells.proofs.shown.truncate.Goals as goal

-- the tail is a cell, closed

pub returns-clause-bytes : goal.returns-clause-bytes
returns-clause-bytes g c =
    let same = same-cut c.as_str.ensures.value c.in_ok-tail.ensures.bytes in
    IfOk-weaker c.truncate_beside.result _ _ (λ s is. is ∙ truncated-same same) c.truncate_beside.ensures.bytes

pub returns-clause-safe : goal.returns-clause-safe
returns-clause-safe g c =
    let shown = shown-truncated c.args.text.now c.utf8.text c.args.width (closed_cell c.args.tail.now) (shown-cell c.args.tail.now c.utf8.tail) in
    IfOk-weaker c.truncate_beside.result _ _ (λ s is. shown-safe shown is) (returns-clause-bytes g c)

pub returns-clause-one_line : goal.returns-clause-one_line
returns-clause-one_line g c =
    let shown = shown-truncated c.args.text.now c.utf8.text c.args.width (closed_cell c.args.tail.now) (shown-cell c.args.tail.now c.utf8.tail) in
    IfOk-weaker c.truncate_beside.result _ _ (λ s is. shown-one_line shown is) (returns-clause-bytes g c)

pub returns-clause-closed : goal.returns-clause-closed
returns-clause-closed g c =
    let shown = shown-truncated c.args.text.now c.utf8.text c.args.width (closed_cell c.args.tail.now) (shown-cell c.args.tail.now c.utf8.tail) in
    IfOk-weaker c.truncate_beside.result _ _ (λ s is. shown-closed shown is) (returns-clause-bytes g c)

pub returns-clause-screen : goal.returns-clause-screen
returns-clause-screen g c = IfOk-weaker c.truncate_beside.result _ _ (λ s is. screen-truncated_cell c.args.text.now c.utf8.text c.args.tail.now c.utf8.tail c.args.width is) (returns-clause-bytes g c)

pub returns-clause-borrowed : goal.returns-clause-borrowed
returns-clause-borrowed g c =
    let same = same-cut c.as_str.ensures.value c.in_ok-tail.ensures.bytes in
    let stays = stays-same c.args.text.now same in
    let ends = ending-same same in
    IfOk-weaker c.truncate_beside.result _ _ (λ s iff. (λ b. (stays.0 (iff.0 b).0, sym ends ∙ (iff.0 b).1), λ all. iff.1 (stays.1 all.0, ends ∙ all.1))) c.truncate_beside.ensures.borrowed

pub returns-clause-len : goal.returns-clause-len
returns-clause-len g c =
    let same = same-cut {t = cell c.args.text.now} {width = c.args.width} c.as_str.ensures.value c.in_ok-tail.ensures.bytes in
    IfOk-weaker c.truncate_beside.result _ _ (λ s most. omega (arith, most, same.len)) c.truncate_beside.ensures.len

pub returns-clause-takes_no_memory : goal.returns-clause-takes_no_memory
returns-clause-takes_no_memory g c =
    let same = same-cut c.as_str.ensures.value c.in_ok-tail.ensures.bytes in
    λ all. c.truncate_beside.ensures.takes_no_memory ((stays-same c.args.text.now same).1 all.0, ending-same same ∙ all.1)

pub returns-in_err-tail-clause-takes_no_memory : goal.returns-in_err-tail-clause-takes_no_memory
returns-in_err-tail-clause-takes_no_memory g c =
    λ all. absurd (false≢true (rw c.in_err-tail.was at (c.tail_for.ensures.takes_no_memory (tail-none (cell c.args.text.now) (closed_cell c.args.tail.now) c.args.width all.1))))

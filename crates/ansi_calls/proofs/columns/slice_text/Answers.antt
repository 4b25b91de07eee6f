use Rattle.std.proofs.Common.{◌≡◌, ◌&&◌, Some, IsTrue}
use Rattle.std.proofs.lemmas.Bool.{and_parts}
use Rattle.std.proofs.lemmas.Result.{IfOk-weaker}
use Rattle.ansi_cells.specs.Slices.{is_sliced_stretch}
use Rattle.ansi_safe.specs.Cells.{cell, is_cell}
use Rattle.ansi_safe.proofs.CellTextLemmas.{cell-stays}
use Rattle.ansi_text_calls.specs.Answers.{no}
use Rattle.ansi_calls.specs.Columns.{GivesSliced}
use Rattle.ansi_calls.proofs.ShownLemmas.{Gives-slice}
use Rattle.ansi_calls.proofs.columns.slice_text.Goals as goal

-- a stretch of a cell is written without an allocation
pub returns : goal.returns
unfolding GivesSliced
returns g c =
    let t = c.args.text.now in
    let stays : IsTrue (is_cell t && is_sliced_stretch t c.args.start (Some c.args.end)) → (cell t ≡ t) × IsTrue (is_sliced_stretch t c.args.start (Some c.args.end))
    = λ both.
    let parts = and_parts (is_cell t) (is_sliced_stretch t c.args.start (Some c.args.end)) both in
    (cell-stays t c.utf8.text parts.0, parts.1) in
    Gives-slice no _ _ c.slice_shown-slice.result _ _ _ c.slice_shown-slice.ensures.bytes (λ both. c.slice_shown-slice.ensures.takes_no_memory (stays both)) (λ both. IfOk-weaker c.slice_shown-slice.result _ _ (λ s iff. iff.1 (stays both)) c.slice_shown-slice.ensures.borrowed) c.write_slice.ensures

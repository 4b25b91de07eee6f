use Rattle.std.proofs.Common.{◌≡◌, Some, subst, [], length, ◌&&◌, ◌==◌, IsTrue}
use Rattle.std.proofs.lemmas.Bool.{and_parts, eqb-true}
use Rattle.std.proofs.lemmas.List.{nil_from_length}
use Rattle.std.proofs.lemmas.Result.{IfOk-weaker}
use Rattle.ansi_cells.specs.Shown.{missing, closing}
use Rattle.ansi_safe.specs.Cells.{cell, is_cell}
use Rattle.ansi_safe.proofs.CellTextLemmas.{cell-stays}
use Rattle.ansi_text_calls.specs.Answers.{no}
use Rattle.ansi_calls.specs.Columns.{GivesPadded}
use Rattle.ansi_calls.proofs.ShownLemmas.{Gives-shown}
use Rattle.ansi_calls.proofs.columns.pad_text.Goals as goal

-- a cell that lacks no blank and leaves nothing open is written without an allocation
pub returns : goal.returns
unfolding GivesPadded
returns g c =
    let t = c.args.text.now in
    let lack = missing (cell t) c.args.width in
    let stays : IsTrue (is_cell t && (lack == 0 && length (closing (cell t)) == 0)) → (cell t ≡ t) × (lack ≡ 0) × (closing (cell t) ≡ [])
    = λ all.
    let parts = and_parts (is_cell t) (lack == 0 && length (closing (cell t)) == 0) all in
    let both = and_parts (lack == 0) (length (closing (cell t)) == 0) parts.1 in
    (cell-stays t c.utf8.text parts.0, eqb-true _ 0 both.0, nil_from_length _ (eqb-true _ 0 both.1)) in
    subst (λ old. GivesPadded t c.args.width (Some c.args.alignment) c.write_shown.result old c.write_shown.new.buffer) c.in_default.ensures
    (Gives-shown no _ _ c.pad_shown.result _ _ _ c.pad_shown.ensures.bytes (λ all. c.pad_shown.ensures.takes_no_memory (stays all).0) (λ all. IfOk-weaker c.pad_shown.result _ _ (λ s iff. iff.1 (stays all)) c.pad_shown.ensures.borrowed) c.write_shown.ensures)

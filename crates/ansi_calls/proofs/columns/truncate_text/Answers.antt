use Rattle.std.proofs.Common.{◌∙◌, inl, refl, subst}
use Rattle.std.proofs.lemmas.Bool.{false≢true}
use Rattle.std.proofs.lemmas.Result.{IfOk-weaker}
use Rattle.ansi_safe.specs.Cells.{cell}
use Rattle.ansi_cells.proofs.TailForLemmas.{same-cut, truncated-same}
use Rattle.ansi_text_calls.specs.Answers.{no, IsWritten}
use Rattle.ansi_calls.specs.Columns.{GivesTruncated, is_front}
use Rattle.ansi_calls.proofs.ShownLemmas.{Gives-shown, Gives-failed, front-lent, front-tail}
use Rattle.ansi_calls.proofs.columns.truncate_text.Goals as goal

-- a front is written without an allocation
pub returns : goal.returns
unfolding GivesTruncated
returns g c =
    let t = c.args.text.now in
    let width = c.args.width in
    let tail = c.args.tail.now in
    let same = same-cut {t = cell t} {width = width} c.as_str-tail.ensures.value c.in-Ok.ensures.bytes in
    let r = c.truncate_shown in
    let bytes = IfOk-weaker r.result _ _ (λ s is. is ∙ truncated-same same) r.ensures.bytes in
    let lent = front-lent t width tail c.utf8.text same in
    subst (λ old. GivesTruncated t width tail c.write_shown.result old c.write_shown.new.buffer) c.in_default-truncate_at_once.ensures
    (Gives-shown no (is_front t width tail) _ r.result _ _ _ bytes (λ front. r.ensures.takes_no_memory (lent front).0) (λ front. IfOk-weaker r.result _ _ (λ s iff. iff.1 (lent front)) r.ensures.borrowed) c.write_shown.ensures)

-- there is no memory for the tail, so that is written
pub returns-in_default : goal.returns-in_default
unfolding GivesTruncated
returns-in_default g c =
    let t = c.args.text.now in
    let width = c.args.width in
    let tail = c.args.tail.now in
    Gives-failed no (is_front t width tail) _ c.failed.result c.args.buffer.now
    (λ front. absurd (false≢true (rw c.in_default.is at (c.tail_for.ensures.takes_no_memory (front-tail t width tail front)))))
    (c.failed.ensures, refl)

-- it is written at once
pub returns-in-Some : goal.returns-in-Some
unfolding GivesTruncated
returns-in-Some g c =
    let same = same-cut {t = cell c.args.text.now} {width = c.args.width} c.as_str-tail.ensures.value c.in-Ok.ensures.bytes in
    inl (subst (λ u. IsWritten u c.in-Some.answer c.args.buffer.now c.truncate_at_once.new.buffer) (truncated-same same) c.in-Some.ensures)

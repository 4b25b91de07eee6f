use Rattle.std.proofs.Common.{◌≡◌, ℕ, Bool, ◌&&◌, ◌==◌, List, [], length, Some, IsTrue, inl, refl, sym, ◌∙◌, ap, subst}
use Rattle.std.proofs.lemmas.Bool.{and_parts, eqb-true, false≢true}
use Rattle.std.proofs.lemmas.List.{nil_from_length}
use Rattle.std.proofs.lemmas.Result.{IfOk-weaker}
use Rattle.ansi_safe.specs.Cells.{cell}
use Rattle.ansi_cells.specs.Shown.{truncated, missing, closing, padded, closed_cell}
use Rattle.ansi_cells.proofs.TailForLemmas.{same-cut, truncated-same}
use Rattle.ansi_text_calls.specs.Answers.{no, IsWritten}
use Rattle.ansi_calls.specs.Columns.{GivesFitted, is_front}
use Rattle.ansi_calls.proofs.ShownLemmas.{Gives-shown, Gives-failed, front-lent, front-tail}
use Rattle.ansi_calls.proofs.columns.fit_text.Goals as goal

-- a text of the columns asked for, with nothing open
abbrev is_full : List ℕ → ℕ → Bool
is_full u width = missing u width == 0 && length (closing u) == 0

full-parts : (u : List ℕ) (width : ℕ) → IsTrue (is_full u width) → (missing u width ≡ 0) × (closing u ≡ [])
full-parts u width is =
    let both = and_parts (missing u width == 0) (length (closing u) == 0) is in
    (eqb-true _ 0 both.0, nil_from_length _ (eqb-true _ 0 both.1))

-- a front that is full is written without an allocation
pub returns-in_default-fit_at_once : goal.returns-in_default-fit_at_once
unfolding GivesFitted
returns-in_default-fit_at_once g c =
    let t = c.args.text.now in
    let width = c.args.width in
    let tail = c.args.tail.now in
    let cut = truncated (cell t) width (closed_cell tail) in
    let same = same-cut {t = cell t} {width = width} c.as_str-tail.ensures.value c.in-Ok.ensures.bytes in
    let r = c.fit_shown-shown in
    let bytes = IfOk-weaker r.result _ _ (λ s is. is ∙ ap (λ u. padded u width c.in-Some.alignment) (truncated-same same)) r.ensures.bytes in
    let parts = and_parts (is_front t width tail) (is_full cut width) in
    let lent = front-lent t width tail c.utf8.text same in
    let full : List ℕ → Type 0 = λ u. missing u width ≡ 0 in
    let closed : List ℕ → Type 0 = λ u. closing u ≡ [] in
    let whole = full-parts cut width in
    subst (λ a. GivesFitted t width a tail c.write_shown.result c.args.buffer.now c.write_shown.new.buffer) (sym c.in-Some.is ∙ c.alignment_of.ensures)
    (subst (λ old. GivesFitted t width (Some c.in-Some.alignment) tail c.write_shown.result old c.write_shown.new.buffer) c.in_default-fit_at_once.ensures
    (Gives-shown no (is_front t width tail && is_full cut width) _ r.result _ _ _ bytes (λ is. r.ensures.takes_no_memory (lent (parts is).0)) (λ is. IfOk-weaker r.result _ _ (λ s iff. iff.1 ((lent (parts is).0).0, (lent (parts is).0).1, subst full (sym (truncated-same same)) (whole (parts is).1).0, subst closed (sym (truncated-same same)) (whole (parts is).1).1)) r.ensures.borrowed) c.write_shown.ensures))

-- there is no memory for the tail, so that is written
pub returns-in_default : goal.returns-in_default
unfolding GivesFitted
returns-in_default g c =
    let t = c.args.text.now in
    let width = c.args.width in
    let tail = c.args.tail.now in
    let full = is_full (truncated (cell t) width (closed_cell tail)) width in
    subst (λ a. GivesFitted t width a tail c.failed.result c.args.buffer.now c.args.buffer.now) (sym c.in-Some.is ∙ c.alignment_of.ensures)
    (Gives-failed no (is_front t width tail && full) _ c.failed.result c.args.buffer.now
    (λ is. absurd (false≢true (rw c.in_default.is at (c.tail_for.ensures.takes_no_memory (front-tail t width tail (and_parts (is_front t width tail) full is).0)))))
    (c.failed.ensures, refl))

-- it is written at once
pub returns-in-Some-fit_at_once : goal.returns-in-Some-fit_at_once
unfolding GivesFitted
returns-in-Some-fit_at_once g c =
    let same = same-cut {t = cell c.args.text.now} {width = c.args.width} c.as_str-tail.ensures.value c.in-Ok.ensures.bytes in
    let bytes = ap (λ u. padded u c.args.width c.in-Some.alignment) (truncated-same same) in
    subst (λ a. GivesFitted c.args.text.now c.args.width a c.args.tail.now c.in-Some-fit_at_once.answer c.args.buffer.now c.fit_at_once.new.buffer) (sym c.in-Some.is ∙ c.alignment_of.ensures)
    (inl (subst (λ u. IsWritten u c.in-Some-fit_at_once.answer c.args.buffer.now c.fit_at_once.new.buffer) bytes c.in-Some-fit_at_once.ensures))

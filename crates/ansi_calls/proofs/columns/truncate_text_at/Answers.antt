use Rattle.std.proofs.Common.{◌&&◌, inl, refl, sym, ◌∙◌, subst}
use Rattle.std.proofs.lemmas.Bool.{and_parts}
use Rattle.ansi_safe.specs.Cells.{cell}
use Rattle.ansi_cells.specs.Shown.{closed_cell}
use Rattle.ansi_cells.specs.Sides.{is_cut_at_end}
use Rattle.ansi_cells.proofs.TailForLemmas.{same-cut}
use Rattle.ansi_text_calls.specs.Answers.{no}
use Rattle.ansi_text_calls.proofs.Utf8Lemmas.{Gives-text}
use Rattle.ansi_calls.specs.Columns.{GivesTruncatedAt, is_front}
use Rattle.ansi_calls.proofs.ShownLemmas.{front-lent}
use Rattle.ansi_calls.proofs.columns.truncate_text_at.Goals as goal

-- a front that is cut at its end is written without an allocation
pub returns-in-Some : goal.returns-in-Some
unfolding GivesTruncatedAt
returns-in-Some g c =
    let t = c.args.text.now in
    let width = c.args.width in
    let tail = c.args.tail.now in
    let at_end = is_cut_at_end c.in-Some.side (cell t) width in
    let r = c.truncate_with in
    let parts = and_parts (is_front t width tail) at_end in
    let lent = front-lent t width tail c.utf8.text (same-cut {t = cell t} {x = closed_cell tail} {width = width} refl (inl refl)) in
    subst (λ a. GivesTruncatedAt t width tail a c.write_text.result c.args.buffer.now c.write_text.new.buffer) (sym c.in-Some.is ∙ c.side_of.ensures)
    (Gives-text no (is_front t width tail && at_end) _ r.result _ _ _ r.ensures.bytes (λ is. r.ensures.takes_no_memory ((lent (parts is).0).0, (parts is).1, (lent (parts is).0).1)) c.write_text.ensures)

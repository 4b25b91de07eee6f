use Rattle.std.proofs.Common.{length, IsTrue, sym, ◌∙◌, ap, arith}
use Rattle.std.proofs.lemmas.Result.{IfOk-weaker}
use Rattle.std.proofs.lemmas.Bool.{true≢false}
use Rattle.ansi_items.specs.Plain.{plain}
use Rattle.ansi_safe.specs.Cells.{cell}
use Rattle.ansi_safe.proofs.CellTextLemmas.{length-cell}
use Rattle.ansi_clusters.specs.Columns.{columns}
use Rattle.ansi_cells.specs.Sides.{cut_before_end, is_cut_at_end}
use Rattle.ansi_cells.proofs.SidesLemmas.{truncated-at_end, truncated-before_end}
use Rattle.ansi_cells.proofs.sides.truncate_with_beside.Goals as goal

-- the text is cut at its end

pub returns-in_default-clause-bytes : goal.returns-in_default-clause-bytes
returns-in_default-clause-bytes g c =
    let to = c.args.to.now in
    let at_end : IsTrue (is_cut_at_end to.side (cell c.args.text.now) to.width) = rw c.in_default.is at c.columns_cut.ensures in
    IfOk-weaker c.truncate_beside.result _ _ (λ s same. same ∙ sym (truncated-at_end to.side (cell c.args.text.now) to.width to.tail.now at_end)) c.truncate_beside.ensures.bytes

pub returns-in_default-clause-borrowed : goal.returns-in_default-clause-borrowed
returns-in_default-clause-borrowed g c =
    let to = c.args.to.now in
    let at_end : IsTrue (is_cut_at_end to.side (cell c.args.text.now) to.width) = rw c.in_default.is at c.columns_cut.ensures in
    IfOk-weaker c.truncate_beside.result _ _ (λ s iff. (λ b. ((iff.0 b).0, at_end, (iff.0 b).1), λ all. iff.1 (all.0, all.2))) c.truncate_beside.ensures.borrowed

pub returns-in_default-clause-len : goal.returns-in_default-clause-len
returns-in_default-clause-len g c = IfOk-weaker c.truncate_beside.result _ _ (λ s most. omega (arith, most)) c.truncate_beside.ensures.len

pub returns-in_default-clause-takes_no_memory : goal.returns-in_default-clause-takes_no_memory
returns-in_default-clause-takes_no_memory g c = λ all. c.truncate_beside.ensures.takes_no_memory (all.0, all.2)

-- it is cut before its end

pub returns-in_err-cell-clause-takes_no_memory : goal.returns-in_err-cell-clause-takes_no_memory
returns-in_err-cell-clause-takes_no_memory g c = λ all. absurd (true≢false (sym all.1 ∙ c.in-Some.ensures.1))

pub cut_before_end-requires : goal.cut_before_end-requires
cut_before_end-requires g c = c.in-Some.ensures.0 ∙ ap (λ u. columns (plain u)) (sym (c.as_str.ensures.value ∙ c.in_ok-cell.ensures.bytes))

pub returns-clause-bytes : goal.returns-clause-bytes
returns-clause-bytes g c =
    let to = c.args.to.now in
    c.in_ok-cut_before_end.ensures.bytes ∙ ap (λ u. cut_before_end to.side u to.width to.tail.now) (c.as_str.ensures.value ∙ c.in_ok-cell.ensures.bytes)
    ∙ sym (truncated-before_end to.side (cell c.args.text.now) to.width to.tail.now c.in-Some.ensures.1)

pub returns-clause-borrowed : goal.returns-clause-borrowed
returns-clause-borrowed g c = (λ b. absurd b, λ all. absurd (true≢false (sym all.1 ∙ c.in-Some.ensures.1)))

pub returns-clause-len : goal.returns-clause-len
returns-clause-len g c = omega (arith, c.in_ok-cut_before_end.ensures.len, ap length (c.as_str.ensures.value ∙ c.in_ok-cell.ensures.bytes), length-cell c.args.text.now c.utf8.text)

pub returns-in_err-cut_before_end-clause-takes_no_memory : goal.returns-in_err-cut_before_end-clause-takes_no_memory
returns-in_err-cut_before_end-clause-takes_no_memory g c = λ all. absurd (true≢false (sym all.1 ∙ c.in-Some.ensures.1))

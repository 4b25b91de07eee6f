use Rattle.std.proofs.Common.{refl, sym, ◌∙◌}
use Rattle.ansi_cells.proofs.PlainCellLemmas.{plain-padded}
use Rattle.ansi_cells.proofs.ShownLemmas.{ending-closing}
use Rattle.ansi_cells.proofs.shown.pad_shown.Goals as goal

-- the text is plain

pub returns-in-Some-clause-bytes : goal.returns-in-Some-clause-bytes
returns-in-Some-clause-bytes g c = (plain-padded c.args.width c.in-Some.ensures c.saturating_sub.ensures).bytes c.args.alignment

pub returns-in-Some-clause-borrowed : goal.returns-in-Some-clause-borrowed
returns-in-Some-clause-borrowed g c =
    let is = c.in-Some.ensures in
    let padded = plain-padded c.args.width is c.saturating_sub.ensures in
    (λ b. (is.text.stays, sym padded.lack ∙ b.2, sym padded.closes ∙ b.1), λ all. (tt, padded.closes ∙ all.2, padded.lack ∙ all.1))

-- it may be another one

pub pad_cell-requires : goal.pad_cell-requires
pad_cell-requires g c =
    let made = c.in_ok-cell.ensures in
    ending-closing (sym made.bytes) made.style refl made.link_end refl

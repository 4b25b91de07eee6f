use Rattle.std.proofs.Common.{◌≡◌, ◌++◌, [], sym, ◌∙◌, ap, append-nil, arith}
use Rattle.ansi_items.specs.Plain.{plain}
use Rattle.ansi_style.specs.States.{rendition_of}
use Rattle.ansi_style.specs.Written.{close}
use Rattle.std.specs.Cow.{cow_str_bytes}
use Rattle.ansi_clusters.specs.Columns.{columns}
use Rattle.ansi_cells.specs.Shown.{missing, closing}
use Rattle.ansi_cells.proofs.ShownLemmas.{padded-between}
use Rattle.ansi_cells.proofs.shown.pad_cell.Goals as goal

pub returns-clause-bytes : goal.returns-clause-bytes
returns-clause-bytes g c =
    let t = cow_str_bytes c.args.cell in
    let closes = c.args.ending.link_end.now ++ close (rendition_of c.args.ending.style) in
    let lack : c.saturating_sub-missing.result ≡ missing t c.args.width = omega (arith, c.saturating_sub-missing.ensures, c.width.ensures, ap (λ u. columns (plain u)) c.as_str.ensures.value) in
    padded-between t c.args.width c.args.alignment (append-nil (t ++ closes) ∙ ap (λ u. t ++ u) c.requires) lack

pub returns-clause-borrowed : goal.returns-clause-borrowed
returns-clause-borrowed g c =
    let t = cow_str_bytes c.args.cell in
    let closes = c.args.ending.link_end.now ++ close (rendition_of c.args.ending.style) in
    let ended : closes ++ [] ≡ closing t = append-nil closes ∙ c.requires in
    let lack : c.saturating_sub-missing.result ≡ missing t c.args.width = omega (arith, c.saturating_sub-missing.ensures, c.width.ensures, ap (λ u. columns (plain u)) c.as_str.ensures.value) in
    (λ b. (b.0, sym lack ∙ b.2, sym ended ∙ b.1), λ all. (all.0, ended ∙ all.2, lack ∙ all.1))

use Rattle.std.proofs.Common.{◌≡◌, ◌-◌, length, nat_eq, slice_range, sym, ◌∙◌, ap₂}
use Rattle.ansi_search.proofs.SliceLemmas.{length-slice_range}
use Rattle.ansi_clusters.proofs.StepLemmas.{as-least, printable-test}
use Rattle.ansi_cells.proofs.plain_cells.is_printable.Goals as goal

pub returns : goal.returns
returns c =
    let n = c.args.end - c.args.start in
    let w = slice_range c.args.text.now c.args.start c.args.end in
    let size : length w ≡ n = length-slice_range c.args.text.now c.args.start c.args.end c.requires.ordered c.requires.within in
    as-least n c.printable_near.result ∙ ap₂ nat_eq c.printable_near.ensures (sym size) ∙ printable-test w

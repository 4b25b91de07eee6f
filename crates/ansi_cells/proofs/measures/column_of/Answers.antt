use Rattle.std.proofs.Common.{◌≡◌, ◌==◌, true, Some, None, sym, ◌∙◌, ap, take, if◌then◌else◌, arith}
use Rattle.std.proofs.lemmas.Bool.{or_right}
use Rattle.unicode_segmentation.proofs.TextLemmas.{take_split}
use Rattle.ansi_items.specs.Plain.{plain}
use Rattle.ansi_search.specs.Positions.{is_good_position, no_character_goes_on}
use Rattle.ansi_safe.proofs.CellLemmas.{plain-cell}
use Rattle.ansi_clusters.specs.Columns.{columns, shown}
use Rattle.ansi_clusters.proofs.PlaceLemmas.{plain-before}
use Rattle.ansi_cells.proofs.measures.column_of.Goals as goal

-- what is shown of the front that ends at the position
pub returns : goal.returns
returns c =
    let t = c.args.text.now in
    let n = c.args.position in
    let stands = c.in_ok-end.ensures.offset in
    let front = c.range.ensures.value ∙ sym (take_split t 0 c.in_ok-end.end (omega arith)) ∙ ap (λ i. take i t) stands.offset in
    let column = c.width.ensures ∙ ap columns (plain-cell c.range.result.now c.range.utf8 ∙ ap shown (ap plain front ∙ plain-before t n)) in
    let good : is_good_position (plain t) n ≡ true = or_right (n == 0) (no_character_goes_on (plain t) n) stands.good in
    ap Some column ∙ sym (ap (λ b. if b then Some (columns (shown (take n (plain t)))) else None) good)

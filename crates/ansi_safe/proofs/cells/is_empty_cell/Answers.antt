use Rattle.std.proofs.Common.{◌∙◌, sym, ap}
use Rattle.std.specs.List.{list_all}
use Rattle.ansi_items.specs.Scans.{pieces_left}
use Rattle.ansi_safe.specs.Cells.{is_left_out}
use Rattle.ansi_safe.proofs.EmptyLemmas.{empty-cell}
use Rattle.ansi_safe.proofs.cells.is_empty_cell.Goals as goal

pub loop-item-init : goal.loop-item-init
loop-item-init c =
    let begins = c.into_iter-item-iterator.ensures.into_iter_gives ∙ c.new-item-items.ensures.start in
    record {
      text = ap (λ s. s.text) begins;
      decides = empty-cell c.args.text.now ∙ ap (list_all is_left_out) (ap pieces_left (sym begins));
    }

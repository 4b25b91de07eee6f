use Rattle.std.proofs.lemmas.Result.{IfOk-weaker}
use Rattle.std.specs.Cow.{cow_str_bytes}
use Rattle.std.proofs.Common.{◌∙◌}
use Rattle.ansi_cells.proofs.OneLineLemmas.{clean-safe, clean-one_line}
use Rattle.ansi_cells.proofs.SliceCellLemmas.{cell-whole, cell-closed, cell-clean, cell-screen}
use Rattle.ansi_cells.proofs.slices.slice.Goals as goal

pub returns-clause-safe : goal.returns-clause-safe
returns-clause-safe g c = IfOk-weaker c.join.result _ _ (λ s same. clean-safe (cell-clean c.args.text.now c.args.start c.args.end c.utf8.text (cow_str_bytes s) (same ∙ c.in_ok-slice_shown.ensures.bytes))) c.join.ensures.bytes

pub returns-clause-one_line : goal.returns-clause-one_line
returns-clause-one_line g c = IfOk-weaker c.join.result _ _ (λ s same. clean-one_line (cell-clean c.args.text.now c.args.start c.args.end c.utf8.text (cow_str_bytes s) (same ∙ c.in_ok-slice_shown.ensures.bytes))) c.join.ensures.bytes

pub returns-clause-closed : goal.returns-clause-closed
returns-clause-closed g c = IfOk-weaker c.join.result _ _ (λ s same. cell-closed c.args.text.now c.args.start c.args.end c.utf8.text (cow_str_bytes s) (same ∙ c.in_ok-slice_shown.ensures.bytes)) c.join.ensures.bytes

pub returns-clause-screen : goal.returns-clause-screen
returns-clause-screen g c = IfOk-weaker c.join.result _ _ (λ s same. cell-screen c.args.text.now c.args.start c.args.end c.utf8.text (cow_str_bytes s) (same ∙ c.in_ok-slice_shown.ensures.bytes)) c.join.ensures.bytes

pub returns-clause-whole : goal.returns-clause-whole
returns-clause-whole g c = IfOk-weaker c.join.result _ _ (λ s same. cell-whole c.args.text.now c.args.start c.args.end c.utf8.text (cow_str_bytes s) (same ∙ c.in_ok-slice_shown.ensures.bytes)) c.join.ensures.bytes

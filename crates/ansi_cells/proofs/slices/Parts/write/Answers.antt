use Rattle.std.proofs.Common.{sym, ◌∙◌}
use Rattle.ansi_cells.proofs.SliceLemmas.{alone-bytes}
use Rattle.ansi_cells.proofs.slices.Parts.write.Goals as goal

pub returns-then-is_middle_alone-clause-bytes : goal.returns-then-is_middle_alone-clause-bytes
returns-then-is_middle_alone-clause-bytes g c = alone-bytes c.args.self.now c.requires (sym c.is_middle_alone.ensures ∙ c.if-is_middle_alone.true)

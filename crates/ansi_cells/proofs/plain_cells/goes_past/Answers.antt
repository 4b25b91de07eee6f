use Rattle.std.proofs.lemmas.Bool.{ltb-true}
use Rattle.ansi_cells.proofs.plain_cells.goes_past.Goals as goal

pub returns : goal.returns
returns c = λ more. (c.past_ascii.result.1, ltb-true _ _ more, c.past_ascii.result.0, c.past_ascii.ensures.past)

use Rattle.std.proofs.Common.{sym, ◌∙◌}
use Rattle.std.proofs.lemmas.Bool.Decides.{Decides-eqb}
use Rattle.std.proofs.lemmas.Slice.Eq.{slice_eq-Decides}
use Rattle.ansi_cells.proofs.shown.is_ellipsis.Goals as goal

pub returns : goal.returns
returns c = λ yes. sym c.as_bytes.ensures.value ∙ (slice_eq-Decides Decides-eqb _ _ _ c.eq.ensures).0 yes ∙ c.as_bytes-2.ensures.value

use Rattle.std.proofs.Common.{refl}
use Rattle.ansi_cells.specs.Wrapped.{lines_over}
use Rattle.ansi_wraps.proofs.wrap.spans.Spans.finish.Goals as goal

pub returns-clause-lines : goal.returns-clause-lines
unfolding lines_over
returns-clause-lines c = λ t. refl

use Rattle.ansi_search.proofs.Common.{arith, length-take-le}
use Rattle.ansi_search.proofs.SliceLemmas.{slice_range-past}
use Rattle.ansi_search.proofs.WindowLemmas.{front-in-run}
use Rattle.ansi_search.proofs.search.two_way.Pattern.front_matches.Goals as goal

-- all of it is in the run, or not
pub returns-then-place-window : goal.returns-then-place-window
returns-then-place-window c = grind (arith, front-in-run, length-take-le, slice_range-past)

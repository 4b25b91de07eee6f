use Rattle.ansi_slice.proofs.Common.{plain-bare, arith}
use Rattle.ansi_slice.proofs.KeptWalkLemmas.{kept-bare}
use Rattle.ansi_slice.proofs.TrimLemmas.{slice_range-trim_interval}
use Rattle.ansi_slice.proofs.slice.kept.trim_in.Goals as goal

-- a text without ESC is its own plain text, and what is left of it is a slice
pub returns-then-not-has_any-clause-bytes : goal.returns-then-not-has_any-clause-bytes
returns-then-not-has_any-clause-bytes g c = grind (arith, kept-bare, plain-bare, slice_range-trim_interval)

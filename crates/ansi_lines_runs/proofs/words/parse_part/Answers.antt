use Rattle.std.proofs.Common.{rules}
use Rattle.ansi_lines_runs.proofs.words.parse_part.Goals as goal

-- the pattern is the whole text after the index's colon
pub returns : goal.returns
returns c = search rules

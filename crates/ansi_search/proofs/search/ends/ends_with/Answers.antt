use Rattle.std.proofs.Common.{rules}
use Rattle.ansi_search.proofs.search.ends.ends_with.Goals as goal

pub returns : goal.returns
returns c = search rules

use Rattle.ansi_search.proofs.Common.{IsCharBoundary-start}
use Rattle.ansi_search.proofs.search.ends.item_before.Goals as goal

pub returns-clause-boundary : goal.returns-clause-boundary
returns-clause-boundary c = IsCharBoundary-start c.args.text.now c.utf8.text

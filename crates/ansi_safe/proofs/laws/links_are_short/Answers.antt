use Rattle.ansi_safe.proofs.ShortLinkLemmas.{length-link_at, length-link_of}
use Rattle.ansi_safe.proofs.laws.links_are_short.Goals as goal

pub returns-clause-at : goal.returns-clause-at
returns-clause-at c = length-link_at

pub returns-clause-end : goal.returns-clause-end
returns-clause-end c = length-link_of

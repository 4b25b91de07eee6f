use Rattle.ansi_clusters.proofs.PrintableLemmas.{clusters-past}
use Rattle.ansi_clusters.proofs.walks.Walk.past_singles.Goals as goal

pub returns-in-32-to-126-clause-past : goal.returns-in-32-to-126-clause-past
returns-in-32-to-126-clause-past c = clusters-past c.requires c.past_ascii-len.ensures.past

use Rattle.ansi_clusters.proofs.LetterLemmas.{letters-stretch, wide-stretch}
use Rattle.ansi_clusters.proofs.letters.stretch_before_last.Goals as goal

pub returns-in-227-to-233-clause-stretch : goal.returns-in-227-to-233-clause-stretch
returns-in-227-to-233-clause-stretch c some = wide-stretch (c.wide_before_last.ensures.wide some)

pub returns-in_default-clause-stretch : goal.returns-in_default-clause-stretch
returns-in_default-clause-stretch c some = letters-stretch (c.letters_before_last.ensures.letters some) c.letters_before_last.ensures.count

use Rattle.ansi_clusters.proofs.ClusterLawLemmas.{fits-within, fits-greatest, shown-within, shown-greatest, shown-front}
use Rattle.ansi_columns.proofs.laws.what_fits_is_the_longest.Goals as goal

pub returns-clause-within : goal.returns-clause-within
returns-clause-within c = fits-within

pub returns-clause-greatest : goal.returns-clause-greatest
returns-clause-greatest c = fits-greatest

pub returns-clause-shown_within : goal.returns-clause-shown_within
returns-clause-shown_within c = shown-within

pub returns-clause-shown_greatest : goal.returns-clause-shown_greatest
returns-clause-shown_greatest c = shown-greatest

pub returns-clause-shown_front : goal.returns-clause-shown_front
returns-clause-shown_front c = shown-front

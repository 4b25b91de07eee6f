use Rattle.ansi_clusters.proofs.AsciiLemmas.{columns-printable}
use Rattle.ansi_columns.proofs.laws.printable_is_as_wide_as_long.Goals as goal

pub returns : goal.returns
returns c = columns-printable

use Rattle.std.proofs.Common.{◌∙◌, arith, rules, tests}
use Rattle.ansi_clusters.proofs.AsciiLemmas.{IsShownSingle-printable}
use Rattle.ansi_clusters.proofs.SingleLemmas.{IsTrie-singles, trie_value-singles, IsShownSingle-columns}
use Rattle.ansi_clusters.proofs.singles.single_columns.Goals as goal

pub returns-in-32-to-126 : goal.returns-in-32-to-126
returns-in-32-to-126 c = IsShownSingle-printable c.args.c (search (rules, tests))

pub get-requires : goal.get-requires
get-requires c = IsTrie-singles

pub returns-in_default-get : goal.returns-in_default-get
returns-in_default-get c = IsShownSingle-columns c.args.c c.get.result (c.get.ensures ∙ trie_value-singles c.args.c (omega arith)) (omega (arith, c.in_default-get))

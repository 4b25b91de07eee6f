use Rattle.std.proofs.Common.{◌∙◌}
use Rattle.ansi_split.proofs.SplitLemmas.{parts_left-parts}
use Rattle.ansi_split.proofs.walks.walk_in.Goals as goal

-- all parts are left
pub returns-clause-parts : goal.returns-clause-parts
returns-clause-parts c = c.walk.ensures.left ∙ c.new.ensures ∙ parts_left-parts c.args.text.now c.args.pat.now

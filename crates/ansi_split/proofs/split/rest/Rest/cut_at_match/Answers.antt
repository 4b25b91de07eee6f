use Rattle.ansi_split.proofs.Common.{sym, rendition_of}
use Rattle.ansi_split.proofs.RestLemmas.{style-bare}
use Rattle.ansi_split.proofs.split.rest.Rest.cut_at_match.Goals as goal

-- the front is a part of the run
pub returns-in-Ok-clause-style : goal.returns-in-Ok-clause-style
returns-in-Ok-clause-style c = sym (style-bare (rendition_of c.args.style.now) c.in-Ok.front.now c.in-Ok.ensures.1)

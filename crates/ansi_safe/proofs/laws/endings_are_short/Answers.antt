use Rattle.ansi_items.specs.Plain.{marks}
use Rattle.ansi_style.specs.Styled.{style_after}
use Rattle.ansi_safe.specs.Links.{link_of}
use Rattle.ansi_safe.proofs.EndingLemmas.{length-closing}
use Rattle.ansi_safe.proofs.laws.endings_are_short.Goals as goal

pub returns-clause-len : goal.returns-clause-len
returns-clause-len c = λ t. length-closing (link_of (marks t)) (style_after t)

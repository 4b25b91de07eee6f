use Rattle.std.proofs.Common.{◌∙◌, ap}
use Rattle.ansi_items.specs.Plain.{marks}
use Rattle.ansi_style.specs.Reading.{style_after_from}
use Rattle.ansi_safe.specs.Links.{link_after_all}
use Rattle.ansi_safe.proofs.LinkLemmas.{link_after_all-none}
use Rattle.ansi_safe.proofs.links.pen_after.Goals as goal

pub returns-clause-style : goal.returns-clause-style
returns-clause-style c = c.pen_after_from.ensures.style ∙ ap (λ s. style_after_from s c.args.text.now) c.plain_pen.ensures.style

pub returns-clause-link : goal.returns-clause-link
returns-clause-link c = c.pen_after_from.ensures.link ∙ ap (λ l. link_after_all l (marks c.args.text.now)) c.plain_pen.ensures.link ∙ link_after_all-none (marks c.args.text.now)

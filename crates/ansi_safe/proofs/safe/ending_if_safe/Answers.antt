use Rattle.std.proofs.Common.{◌++◌, ◌∙◌, ap, ap₂}
use Rattle.ansi_style.specs.States.{rendition_of}
use Rattle.ansi_style.specs.Written.{close}
use Rattle.ansi_safe.specs.Links.{link_end}
use Rattle.ansi_safe.proofs.safe.ending_if_safe.Goals as goal

pub returns-clause-bytes : goal.returns-clause-bytes
returns-clause-bytes c =
    let pen = c.in_ok-pen_if_safe.ensures in
    ap₂ (λ e s. e ++ close s) (c.ending.ensures.link_end ∙ ap link_end pen.link) (ap rendition_of c.ending.ensures.style ∙ pen.style)

use Rattle.std.proofs.Common.{sym, ◌∙◌}
use Rattle.ansi_style.specs.States.{rendition_of}
use Rattle.ansi_safe.proofs.EndingLemmas.{ending-is_nothing}
use Rattle.ansi_safe.proofs.links.Ending.is_empty.Goals as goal

-- no link is open: the style decides
pub returns-then-is_empty : goal.returns-then-is_empty
returns-then-is_empty c =
    ending-is_nothing c.args.self.now.link_end.now (rendition_of c.args.self.now.style) c.has_close.result (sym c.is_empty.ensures ∙ c.if-is_empty.true) c.has_close.ensures

use Rattle.std.proofs.Common.{sym, ◌∙◌}
use Rattle.ansi_style.specs.States.{rendition_of}
use Rattle.ansi_style.proofs.UnsetLemmas.{start-unset}
use Rattle.ansi_text_calls.proofs.walks.short_start.Goals as goal

pub returns-then-not-has_any : goal.returns-then-not-has_any
returns-then-not-has_any c = c.new.ensures ∙ sym (start-unset (rendition_of c.args.style.now) (sym c.has_any.ensures ∙ c.if-not-has_any.true))

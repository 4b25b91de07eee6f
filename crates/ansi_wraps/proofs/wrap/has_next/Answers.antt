use Rattle.std.proofs.Common.{sym, ◌∙◌, ap}
use Rattle.std.proofs.lemmas.Bool.{false_from_ne_true}
use Rattle.ansi_cells.specs.Wrapped.{lent_lines}
use Rattle.ansi_wraps.specs.WrapStates.{shown_text, is_lent}
use Rattle.ansi_wraps.proofs.LentLemmas.{first-left}
use Rattle.ansi_wraps.proofs.wrap.has_next.Goals as goal

pub returns : goal.returns
returns g c =
    let s = c.lines.inside in
    let shown = shown_text s.text s.failure in
    let lent = lent_lines (is_lent s.text s.failure) in (
      λ none. sym c.lines.view_is ∙ ap lent (c.has_next.ensures.none none shown),
      λ empty. false_from_ne_true _ (λ some.
          let first = first-left shown s.spans (c.has_next.ensures.some some) in
          let filled = sym empty ∙ sym c.lines.view_is ∙ ap lent first.2 in absurd (cc filled)),
    )

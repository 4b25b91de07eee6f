use Rattle.ansi_split.proofs.Common.{◌≡◌, ◌∷◌, inl, inr, sym, ◌∙◌, ap, eqb-true, IsTrue}
use Rattle.ansi_style.specs.Rendition.{has_any}
use Rattle.ansi_style.specs.States.{rendition_of, rendition_of_numbers}
use Rattle.ansi_split.specs.Cursors.{parts_at}
use Rattle.ansi_split.specs.Spans.{span_part}
use Rattle.ansi_split.specs.Walks.{parts_of_walk}
use Rattle.ansi_split.proofs.CursorLemmas.{run_first-bare, run_first-styled, parts_at-is}
use Rattle.ansi_split.proofs.walks.first_run.Goals as goal
use Rattle.ansi_split.proofs.walks.first_run.Goals.{then-is_empty-via-then-is_empty, then-is_empty-via-else-is_empty+then-not-walk}

-- the part has no sequence of its own
pub returns-then-is_empty : goal.returns-then-is_empty
returns-then-is_empty c =
    let w = c.args.walk.now in
    let style = rendition_of_numbers w.carried in
    let at = c.cursor in
    let run = c.in_ok-text.text.now in
    let old_is : parts_at style at.result c.pattern.result.now ≡ parts_of_walk w
    = ap (parts_at style at.result) c.pattern.ensures ∙ parts_at-is style at.result w.rest.now w.pattern.now w.skip w.from at.ensures.finished at.ensures.text at.ensures.skip at.ensures.from in
    let first : parts_of_walk w ≡ span_part style run 0 ∷ parts_at style c.in_ok-text.at w.pattern.now
    = sym old_is ∙ c.in_ok-text.ensures.1 style ∙ ap (λ p. span_part style run 0 ∷ parts_at style c.in_ok-text.at p) c.pattern.ensures in
    run_first-bare style run c.in_ok-text.ensures.0 (elim c.then-is_empty.branch [
      | then-is_empty-via-then-is_empty empty ↦ inl (sym (eqb-true _ 0 (sym c.is_empty.ensures ∙ empty.if-is_empty.true)))
      | then-is_empty-via-else-is_empty+then-not-walk plain ↦ inr (sym c.requires.styled ∙ plain.if-not-walk.true)
    ]) first

pub returns : goal.returns
returns c =
    let w = c.args.walk.now in
    let style = rendition_of_numbers w.carried in
    let at = c.cursor in
    let run = c.in_ok-text.text.now in
    let old_is : parts_at style at.result c.pattern.result.now ≡ parts_of_walk w
    = ap (parts_at style at.result) c.pattern.ensures ∙ parts_at-is style at.result w.rest.now w.pattern.now w.skip w.from at.ensures.finished at.ensures.text at.ensures.skip at.ensures.from in
    let first : parts_of_walk w ≡ span_part style run 0 ∷ parts_at style c.in_ok-text.at w.pattern.now
    = sym old_is ∙ c.in_ok-text.ensures.1 style ∙ ap (λ p. span_part style run 0 ∷ parts_at style c.in_ok-text.at p) c.pattern.ensures in
    let any : IsTrue (has_any (rendition_of c.style.result)) = ap has_any c.style.ensures ∙ sym c.requires.styled ∙ c.if-not-walk.false in
    run_first-styled (rendition_of c.style.result) run c.in_ok-text.ensures.0 (sym c.is_empty.ensures ∙ c.if-is_empty.false) any
    (first ∙ ap (λ r. span_part r run 0 ∷ parts_at style c.in_ok-text.at w.pattern.now) (sym c.style.ensures))

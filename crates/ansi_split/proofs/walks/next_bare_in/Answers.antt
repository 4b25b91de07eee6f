use Rattle.ansi_split.proofs.Common.{◌≡◌, ◌∷◌, inr, sym, ◌∙◌, ap}
use Rattle.ansi_style.specs.States.{rendition_of_numbers}
use Rattle.ansi_split.specs.Cursors.{parts_at}
use Rattle.ansi_split.specs.Spans.{span_part}
use Rattle.ansi_split.specs.Walks.{parts_of_walk}
use Rattle.ansi_split.proofs.CursorLemmas.{run_first-bare, parts_at-is}
use Rattle.ansi_split.proofs.walks.next_bare_in.Goals as goal

-- the cursor has the parts of the walk, before and after
pub returns-clause-next : goal.returns-clause-next
returns-clause-next c =
    let w = c.args.walk.now in
    let style = rendition_of_numbers w.carried in
    let at = c.cursor in
    let run = c.in_ok-bare.bare.now in
    let old_is : parts_at style at.result c.pattern.result.now ≡ parts_of_walk w
    = ap (parts_at style at.result) c.pattern.ensures ∙ parts_at-is style at.result w.rest.now w.pattern.now w.skip w.from at.ensures.finished at.ensures.text at.ensures.skip at.ensures.from in
    let first : parts_of_walk w ≡ span_part style run 0 ∷ parts_at style c.in_ok-bare.at w.pattern.now
    = sym old_is ∙ c.in_ok-bare.ensures.1 style ∙ ap (λ p. span_part style run 0 ∷ parts_at style c.in_ok-bare.at p) c.pattern.ensures in
    run_first-bare style run c.in_ok-bare.ensures.0 (inr c.requires.plain) (first ∙ ap (λ ps. span_part style run 0 ∷ ps) (sym c.go_on.ensures.parts))

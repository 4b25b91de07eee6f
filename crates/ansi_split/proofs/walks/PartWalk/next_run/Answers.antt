use Rattle.ansi_split.proofs.Common.{◌≡◌, [], sym, ◌∙◌, ap, if◌then◌else◌, parts_left}
use Rattle.ansi_style.specs.States.{rendition_of_numbers}
use Rattle.ansi_split.specs.Cursors.{parts_at}
use Rattle.ansi_split.specs.Walks.{parts_of_walk}
use Rattle.ansi_split.proofs.CursorLemmas.{run_next, parts_at-is}
use Rattle.ansi_split.proofs.walks.PartWalk.next_run.Goals as goal

pub returns-clause-parts : goal.returns-clause-parts
returns-clause-parts c =
    let w = c.args.self.now in
    let style = rendition_of_numbers w.carried in
    let at = c.cursor-at in
    let next = c.next_in_run-run in
    let new = next.new.self in
    let old_is : parts_at style at.result c.pattern.result.now ≡ parts_of_walk w
    = ap (parts_at style at.result) c.pattern.ensures ∙ parts_at-is style at.result w.rest.now w.pattern.now w.skip w.from at.ensures.finished at.ensures.text at.ensures.skip at.ensures.from in
    let new_is : parts_at style new c.pattern.result.now ≡ (if new.finished then [] else parts_left style c.as_bytes-self.result.now w.pattern.now new.skip new.from)
    = ap (parts_at style new) c.pattern.ensures
    ∙ ap (λ u. if new.finished then [] else parts_left style u w.pattern.now new.skip new.from) (sym (c.as_bytes-self.ensures.value ∙ c.text.ensures)) in
    run_next style next.result old_is new_is (next.ensures.parts style)

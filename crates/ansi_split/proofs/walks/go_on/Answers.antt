use Rattle.ansi_split.proofs.Common.{[], ◌∙◌, ap, if◌then◌else◌, parts_left}
use Rattle.ansi_style.specs.States.{rendition_of_numbers}
use Rattle.ansi_split.proofs.walks.go_on.Goals as goal

-- the text is the cursor's
pub returns-clause-parts : goal.returns-clause-parts
returns-clause-parts c =
    let w = c.args.walk.now in
    let at = c.args.after.at in
    ap (λ u. if at.finished then [] else parts_left (rendition_of_numbers w.carried) u w.pattern.now at.skip at.from) (c.as_bytes-walk.ensures.value ∙ c.text.ensures)

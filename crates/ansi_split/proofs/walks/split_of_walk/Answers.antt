use Rattle.ansi_split.proofs.Common.{[], ◌∙◌, ap, if◌then◌else◌}
use Rattle.ansi_style.specs.States.{rendition_of_numbers}
use Rattle.ansi_split.proofs.SpanLemmas.{parts_left-again}
use Rattle.ansi_split.proofs.walks.split_of_walk.Goals as goal

-- the next match is the same
pub returns : goal.returns
returns g c =
    let w = c.args.walk.now in
    c.of.ensures ∙ ap (λ ps. if w.finished then [] else ps) (parts_left-again (rendition_of_numbers w.carried) w.rest.now w.pattern.now w.skip w.from c.args.later c.requires.searched.1)

use Rattle.ansi_style.specs.States.{rendition_of_numbers}
use Rattle.ansi_split.specs.Spans.{parts_left}
use Rattle.ansi_split.proofs.CursorLemmas.{finished-parts}
use Rattle.ansi_split.proofs.SpanLemmas.{parts_left-some}
use Rattle.ansi_split.proofs.walks.is_over.Goals as goal

-- a walk that hasn't finished has a part left
pub returns : goal.returns
returns c =
    let w = c.args.walk.now in
    let style = rendition_of_numbers w.carried in
    finished-parts w.finished (parts_left style w.rest.now w.pattern.now w.skip w.from) (parts_left-some style w.rest.now w.pattern.now w.skip w.from)

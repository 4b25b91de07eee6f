use Rattle.ansi_split.proofs.Common.{sym, rendition_of}
use Rattle.ansi_split.proofs.RestLemmas.{style-bare}
use Rattle.ansi_split.proofs.SpanLemmas.{skip_at_front}
use Rattle.ansi_split.proofs.split.spans.PartSpan.of_run.Goals as goal

-- nothing in it changes the style
pub invariant_of-result : goal.invariant_of-result
invariant_of-result c =
    let t = c.args.text.now in
    record { marked = sym c.requires; skip_is_boundary = skip_at_front t c.utf8.text; is_after = sym (style-bare (rendition_of c.args.carried) t c.requires) }

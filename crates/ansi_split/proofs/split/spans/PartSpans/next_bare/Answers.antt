use Rattle.ansi_split.proofs.Common.{refl, sym, ◌∙◌, rendition_of, IsStyle-rendition_of}
use Rattle.ansi_split.proofs.CursorLemmas.{bare_next}
use Rattle.ansi_split.proofs.split.spans.PartSpans.next_bare.Goals as goal

pub returns : goal.returns
returns c =
    let s = c.self.inside in
    let style = rendition_of s.carried in
    let next = c.next_in_run in
    bare_next style next.result c.self.view_is refl (IsStyle-rendition_of s.carried) (sym c.has_any.ensures ∙ c.if-has_any.false) next.ensures.plain (next.ensures.parts style)

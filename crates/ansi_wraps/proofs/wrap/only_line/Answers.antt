use Rattle.std.proofs.Common.{◌++◌, ◌∷◌, [], map, sym, ◌∙◌, ap}
use Rattle.std.specs.Cow.{cow_str_bytes}
use Rattle.ansi_style.specs.States.{rendition_of}
use Rattle.ansi_style.specs.Written.{close}
use Rattle.ansi_cells.specs.Wrapped.{CarriedPart}
use Rattle.ansi_wraps.specs.WrapStates.{shown_text, is_lent, span_lines}
use Rattle.ansi_wraps.proofs.LentLemmas.{lent-map}
use Rattle.ansi_wraps.proofs.wrap.only_line.Goals as goal

pub returns : goal.returns
returns g c =
    let s = c.lines.inside in
    let t = cow_str_bytes s.text in
    ap (map (λ (l : CarriedPart). l.bytes)) (sym c.lines.view_is)
    ∙ lent-map (λ w. w) (is_lent s.text s.failure) (span_lines (shown_text s.text s.failure) s.spans)
    ∙ ap (λ f. map (λ (l : CarriedPart). l.bytes) (span_lines (shown_text s.text f) s.spans)) c.in-None.is
    ∙ c.in_ok-only_style.ensures t c.lines.invariant.spans
    ∙ ap (λ u. (u ++ close (rendition_of c.in_ok-only_style.field-0)) ∷ []) (sym c.as_str.ensures.value)

use Rattle.ansi_style.proofs.Common.{true, refl, sym, ◌∙◌, or_parts, rendition_of}
use Rattle.ansi_style.proofs.WritingLemmas.{wrote_two}
use Rattle.ansi_style.proofs.WrittenLemmas.{start_of_common}
use Rattle.ansi_style.proofs.state.written.write_start.Goals as goal

-- nothing else is set
pub returns-clause-wrote : goal.returns-clause-wrote
unfolding rendition_of
returns-clause-wrote g c = λ ok.
    let unset = or_parts c.has_font.result c.intersects.result c.if-has_font-intersects.false in
    let common = start_of_common c.args.style.now (sym c.has_font.ensures ∙ unset.0) (sym (c.intersects.ensures tt) ∙ unset.1) in
    wrote_two g.W.Sink.took _ _ _ _ _ _ (c.in_ok-write_rows.ensures.wrote (refl {a = true})) (c.write_colors.ensures.wrote ok) (rw (c.intersection.ensures tt) common)

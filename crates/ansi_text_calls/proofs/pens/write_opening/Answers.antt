use Rattle.std.proofs.Common.{◌∙◌, ◌≤◌, length, refl, sym, subst, inl, arith}
use Rattle.ansi_style.specs.States.{rendition_of}
use Rattle.ansi_text_calls.specs.Answers.{IsWritten}
use Rattle.ansi_text_calls.proofs.PenLemmas.{opening-plain}
use Rattle.ansi_text_calls.proofs.pens.write_opening.Goals as goal

-- nothing is open, so nothing is written
pub returns-then-is_plain : goal.returns-then-is_plain
returns-then-is_plain g c =
    let nothing = opening-plain (rendition_of c.args.pen.now.style) c.args.pen.now.link.now (sym c.is_plain.ensures ∙ c.if-is_plain.true) in
    let fits : 0 ≤ length c.args.buffer.now = omega arith in
    inl (subst (λ w. IsWritten w c.done.result c.args.buffer.now c.args.buffer.now) (sym nothing) (inl (fits, c.done.ensures, refl)))

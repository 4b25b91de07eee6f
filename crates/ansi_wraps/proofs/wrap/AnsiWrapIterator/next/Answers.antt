use Rattle.std.proofs.Common.{length, sym, ◌∙◌, ap, arith}
use Rattle.std.specs.Cow.{cow_str_bytes}
use Rattle.ansi_cells.specs.Wrapped.{lent_lines}
use Rattle.ansi_wraps.specs.WrapStates.{shown_text, is_lent}
use Rattle.ansi_wraps.proofs.LentLemmas.{failed-first}
use Rattle.ansi_wraps.proofs.wrap.AnsiWrapIterator.next.Goals as goal

-- there was no memory for the paragraph, so it isn't the text, and no line is a borrow
pub returns-in-Some-clause-steps : goal.returns-in-Some-clause-steps
returns-in-Some-clause-steps g c =
    let s = c.self.inside in
    let first = failed-first s.text s.spans (sym c.take.ensures.value ∙ c.in-Some.is) c.self.invariant in (
      first.0,
      first.1,
      sym c.self.view_is ∙ first.2,
      first.3,
      ap (lent_lines (is_lent s.text c.take.new.self)) (c.finish.ensures.lines (shown_text s.text c.take.new.self)),
    )

pub returns-in-Some-clause-goes : goal.returns-in-Some-clause-goes
returns-in-Some-clause-goes g c =
    let steps = returns-in-Some-clause-steps g c in
    let old = ap length steps.2 in
    let new = ap length steps.4 in
    record { on = λ _. (tt, tt, omega (arith, old, new)); keeps = tt; rests = λ _. tt }

pub invariant_of-self : goal.invariant_of-self
invariant_of-self g c = record { spans = c.finish.ensures.spans (cow_str_bytes c.self.inside.text); some = λ failed. absurd (cc (rw c.take.ensures.after at failed)) }

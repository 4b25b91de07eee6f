use Rattle.std.proofs.Common.{refl, sym, ◌∙◌, ap, ◌&&◌, ◌∷◌}
use Rattle.std.specs.Cow.{cow_str_bytes}
use Rattle.ansi_cells.specs.Wrapped.{lent_lines}
use Rattle.ansi_wraps.specs.WrapStates.{shown_text, is_lent, span_lines}
use Rattle.std.proofs.lemmas.Bool.{and_parts}
use Rattle.ansi_style.proofs.FrontLemmas.{begins_itself}
use Rattle.ansi_wraps.proofs.LentLemmas.{failed-first}
use Rattle.ansi_wraps.proofs.wrap.AnsiWrapPushNext.push_next.Goals as goal

-- there was no memory for the paragraph
pub returns-in-Some : goal.returns-in-Some
returns-in-Some g c =
    let s = c.self.inside in
    let first = failed-first s.text s.spans (sym c.take.ensures.value ∙ c.in-Some.is) c.self.invariant in (
      first.0,
      first.1,
      sym c.self.view_is ∙ first.2,
      ap (lent_lines (is_lent s.text c.take.new.self)) (c.finish.ensures.lines (shown_text s.text c.take.new.self)),
      begins_itself _,
      λ lent. refl,
    )

pub invariant_of-self : goal.invariant_of-self
invariant_of-self g c = record { spans = c.finish.ensures.spans (cow_str_bytes c.self.inside.text); some = λ failed. absurd (cc (rw c.take.ensures.after at failed)) }

pub invariant_of-self-in-Err : goal.invariant_of-self-in-Err
invariant_of-self-in-Err g c = record { spans = c.finish-in-Err.ensures.spans (cow_str_bytes c.self.inside.text); some = λ failed. absurd (cc (rw c.take.ensures.after at failed)) }

-- there was no memory for the line
pub returns-in-Err : goal.returns-in-Err
returns-in-Err g c =
    let s = c.self.inside in
    let lent = is_lent s.text c.take.new.self in
    let l = c.in_ok-next.field-0 in
    let left = span_lines (cow_str_bytes s.text) c.next.new.self in (
      record l { borrowed = lent && l.borrowed },
      lent_lines lent left,
      sym c.self.view_is
          ∙ ap (λ f. lent_lines (is_lent s.text f) (span_lines (shown_text s.text f) s.spans)) (sym c.take.ensures.value ∙ c.in_default.is ∙ sym c.take.ensures.after)
          ∙ ap (lent_lines lent) (
          ap (λ t. span_lines t s.spans) (ap (shown_text s.text) c.take.ensures.after ∙ sym c.as_str.ensures.value)
          ∙ c.in_ok-next.ensures.lines ∙ ap (λ t. l ∷ span_lines t c.next.new.self) c.as_str.ensures.value),
      ap (lent_lines lent) (c.finish-in-Err.ensures.lines (shown_text s.text c.take.new.self)),
      c.push_to.ensures.kept _ (begins_itself _),
      λ stays. c.in-Err.ensures.unchanged (and_parts _ _ stays).1,
    )

use Rattle.std.proofs.Common.{◌≡◌, sym, ap, subst}
use Rattle.std.specs.Cow.{cow_str_bytes}
use Rattle.ansi_cells.specs.Wrapped.{lent_lines, lines_of}
use Rattle.ansi_wraps.specs.WrapStates.{span_lines, shown_text, is_lent, AreSpans}
use Rattle.ansi_wraps.proofs.wrap.AnsiWrap.over.Goals.{in-None, in-Some}
use Rattle.ansi_wraps.proofs.wrap.AnsiWrap.over.Goals as goal

pub invariant_of-result : goal.invariant_of-result
invariant_of-result g c = elim c.match-failure.branch [
  | in-None w ↦ record {
    spans = subst (AreSpans (cow_str_bytes c.args.text)) (sym w.spans-is) (subst (λ t. AreSpans t w.new-spans.result) w.as_str.ensures.value w.new-spans.ensures.spans);
    some = λ failed. absurd (cc (rw w.in-None.is at failed));
  }
  | in-Some w ↦ record {
    spans = subst (AreSpans (cow_str_bytes c.args.text)) (sym w.spans-is) (subst (λ t. AreSpans t w.unread-spans.result) w.as_str-in-Some.ensures.value w.unread-spans.ensures.spans);
    some = λ _. rw w.spans-is w.unread-spans.ensures.some;
  }
]

-- it is the text's own paragraph, or stands for the lines of another one
pub returns : goal.returns
returns g c =
    let text = c.args.text in
    let width = c.args.width in
    elim c.match-failure.branch [
      | in-None w ↦ rw w.spans-is (
          let made = subst (λ t. span_lines t w.new-spans.result ≡ lines_of t width) w.as_str.ensures.value w.new-spans.ensures.lines in
          ap (lent_lines (is_lent text c.args.failure)) (rw w.in-None.is made))
      | in-Some w ↦ rw w.spans-is (ap (lent_lines (is_lent text c.args.failure)) (w.unread-spans.ensures.lines (shown_text text c.args.failure)))
    ]

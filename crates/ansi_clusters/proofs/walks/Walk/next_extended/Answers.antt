use Rattle.std.proofs.Common.{◌≡◌, ◌≢◌, ℕ, ◌+◌, ◌^◌, ◌<◌, Some, [], length, encode_utf8, slice_range, sym, ◌∙◌, ap, ap₂, subst, arith, rules, length-append}
use Rattle.unicode_segmentation.proofs.TextLemmas.{encode_utf8_nonempty}
use Rattle.ansi_items.proofs.PlainLemmas.{length-plain}
use Rattle.ansi_search.proofs.SliceLemmas.{length-slice_range}
use Rattle.ansi_clusters.specs.declared.walks.Walk.{Walk}
use Rattle.ansi_clusters.specs.BreakStates.{added_columns}
use Rattle.ansi_clusters.specs.Walks.{IsNext}
use Rattle.ansi_clusters.proofs.AddedLemmas.{IsStateAdded, added-is, added-few, state-single-is, state-added}
use Rattle.ansi_clusters.proofs.AddedWalkLemmas.{IsExtendedTo, extended-first, extended-more, extended-stops, extended-letter}
use Rattle.ansi_clusters.proofs.SingleWalkLemmas.{walk_past}
use Rattle.ansi_clusters.proofs.WalkLemmas.{rest_at}
use Rattle.ansi_clusters.proofs.WidthLemmas.{width-alone-bound}
use Rattle.ansi_clusters.proofs.walks.Walk.next_extended.Goals as goal

pub added-init : goal.added-init
added-init c =
    let shown = c.in_ok-columns.ensures in
    let t = c.args.text.now in
    let w = c.args.self in
    let first : IsNext t w c.in_ok-first.first = record { rest = c.next.new.self.rest.now; bytes = sym (c.chars-chars.ensures.rest ∙ c.range.ensures.value) ∙ c.in_ok-first.ensures.steps.0 } in
    let size = c.len_utf8-len.ensures.len in
    let walk = c.requires.1 in
    let rest_is : slice_range t (w.offset + c.len_utf8-len.result) w.run_end ≡ first.rest = ap (λ n. slice_range t (w.offset + n) w.run_end) size ∙ rest_at t c.utf8.text w walk c.in_ok-first.first first in
    record {
      first = c.in_ok-first.first;
      extended = λ view here some.
          subst (λ n. IsExtendedTo view t w (walk_past w n c.after_single-break_state.result) c.in_ok-first.first c.in_ok-columns.columns) (sym size)
          (subst (IsExtendedTo view t w (walk_past w (length (encode_utf8 c.in_ok-first.first)) c.after_single-break_state.result) c.in_ok-first.first) (sym shown.columns_are)
          (extended-first view t c.utf8.text w here c.in_ok-first.first first.rest c.after_single-break_state.result first.bytes some shown.printing
          (state-single-is c.after_single-break_state.result c.in_ok-first.first shown.single (c.after_single-break_state.ensures [])) c.after_single-break_state.ensures));
      solid = c.if-first-eq32.false;
      printing = shown.printing;
      rest = rest_is;
      size = omega (arith, size, ap length first.bytes, length-append (encode_utf8 c.in_ok-first.first) first.rest, length-slice_range t w.offset w.run_end walk.run.ordered walk.run.end_boundary.0);
      some = shown.some;
      bound = omega (arith, shown.columns_are, width-alone-bound c.in_ok-first.first, size);
    }

pub overflow_add-later : goal.overflow_add-later
overflow_add-later c =
    let w = c.args.self in
    let inv = c.added.invariant in
    let size : length c.args.text.now < 2 ^ 63 = search rules in
    omega (arith, size, inv.size, c.requires.1.within, c.requires.1.run.end_boundary.0, length-plain c.args.text.now)

pub overflow_add-later-in_default-added_columns : goal.overflow_add-later-in_default-added_columns
overflow_add-later-in_default-added_columns c =
    let inv = c.added.invariant in
    let size : length c.args.text.now < 2 ^ 63 = search rules in
    omega (arith, size, inv.size, c.requires.1.run.ordered, c.requires.1.run.end_boundary.0)

pub returns-in_default-added_columns : goal.returns-in_default-added_columns
returns-in_default-added_columns c view walk =
    let t = c.args.text.now in
    let w = c.args.self in
    let inv = c.added.invariant in
    let v = walk_past w c.added.len c.added.break_state in
    let steps = c.in-Some.ensures.steps.0 in
    let next : IsNext t v c.in-Some.next = record { rest = c.next-in-added.new.self.rest.now; bytes = inv.rest ∙ steps } in
    let some : c.added.chars.rest.now ≢ [] = λ none. (let one = encode_utf8_nonempty c.in-Some.next in absurd (omega (arith, one, ap length (sym none ∙ steps), length-append (encode_utf8 c.in-Some.next) c.next-in-added.new.self.rest.now))) in
    let single = c.is_single.ensures in
    let to = inv.extended view walk some in
    let past = extended-stops view t c.utf8.text w walk inv.first v c.added.columns to c.in-Some.next next (single.single c.if-not-is_single.false) (single.printing c.if-not-is_single.false) (omega (arith, inv.bound)) in
    extended-letter to past inv.printing inv.solid

pub overflow_add-len : goal.overflow_add-len
overflow_add-len c =
    let inv = c.added.invariant in
    let steps = c.in-Some.ensures.steps.0 in
    let size : length c.args.text.now < 2 ^ 63 = search rules in
    omega (arith, size, inv.size, c.requires.1.run.end_boundary.0, c.len_utf8-len-in-Some.ensures.upper_bound)

pub overflow_add-columns : goal.overflow_add-columns
overflow_add-columns c =
    let inv = c.added.invariant in
    let size : length c.args.text.now < 2 ^ 63 = search rules in
    let few = added-few c.in-Some.next c.in-Some-added_columns.more (sym c.in-Some-added_columns.ensures) in
    omega (arith, size, inv.size, inv.bound, few, c.requires.1.run.end_boundary.0)

pub added-preserved : goal.added-preserved
added-preserved c =
    let t = c.args.text.now in
    let w = c.args.self in
    let inv = c.added.invariant in
    let v = walk_past w c.added.len c.added.break_state in
    let d = c.in-Some.next in
    let rest = c.next-in-added.new.self.rest.now in
    let steps = c.in-Some.ensures.steps.0 in
    let next : IsNext t v d = record { rest = rest; bytes = inv.rest ∙ steps } in
    let len = c.len_utf8-len-in-Some.ensures in
    let more = c.in-Some-added_columns.more in
    let adds : added_columns d ≡ Some more = sym c.in-Some-added_columns.ensures in
    let state = c.after_added-break_state in
    let some : c.added.chars.rest.now ≢ [] = λ none. (let one = encode_utf8_nonempty d in absurd (omega (arith, one, ap length (sym none ∙ steps), length-append (encode_utf8 d) rest))) in
    let offset : w.offset + (c.added.len + c.len_utf8-len-in-Some.result) ≡ w.offset + c.added.len + length (encode_utf8 d) = omega (arith, len.len) in
    let position : w.position + c.added.len + length (encode_utf8 d) ≡ w.position + (c.added.len + c.len_utf8-len-in-Some.result) = omega (arith, len.len) in
    let at : ℕ → ℕ → Walk = λ p o. record { position = p; offset = o; run_end = w.run_end; break_state = state.result } in
    let is = added-is d more adds in
    record {
      first = inv.first;
      extended = λ view walk left.
          let to = inv.extended view walk some in
          let longer = extended-more view t c.utf8.text w walk inv.first v c.added.columns to d more rest state.result next.bytes left adds is state.ensures (subst IsStateAdded (sym state.ensures) (state-added d more is)) in
          subst (λ u. IsExtendedTo view t w u inv.first (c.added.columns + more)) (ap₂ at position (sym offset)) longer;
      solid = inv.solid;
      printing = inv.printing;
      rest = ap (λ n. slice_range t n w.run_end) offset ∙ rest_at t c.utf8.text v (inv.extended c.requires.0 c.requires.1 some).walk d next;
      size = omega (arith, inv.size, len.len, ap length steps, length-append (encode_utf8 d) rest);
      some = omega (arith, inv.some);
      bound = omega (arith, inv.bound, added-few d more adds, len.lower_bound);
    }

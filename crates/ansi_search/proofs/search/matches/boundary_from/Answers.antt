use Rattle.ansi_search.proofs.Common.{◌≡◌, ◌++◌, ◌∷◌, ◌+◌, ◌-◌, ◌≤◌, Some, None, drop, length, refl, sym, ◌∙◌, ap, arith, drop_at, drop-drop, length-append, length-drop, Text, plain, plain_of, pieces_left, kind_is_text, gives_text, []}
use Rattle.ansi_search.proofs.MatchLemmas.{first_match_in, no_match_in, first_empty, empty_at_end, none_at_end}
use Rattle.ansi_search.proofs.search.matches.boundary_from.Goals as goal

-- a character begins in the run
pub returns-in-Some-first_in_run : goal.returns-in-Some-first_in_run
returns-in-Some-first_in_run c =
    let x = plain c.args.text.now in
    let w = c.range-run.result.now in
    let y = plain_of (pieces_left c.next.new.self) in
    let left : pieces_left c.loop-item.item-iterator ≡ Text w ∷ pieces_left c.next.new.self = gives_text c.in-Some.ensures.steps c.loop-item.invariant.text c.range-run.ensures.value (kind_is_text c.if-eq.ensures) in
    let is : drop c.loop-item.place x ≡ w ++ y = sym c.loop-item.invariant.left ∙ ap plain_of left in
    let inside : length w ≤ length (w ++ y) = omega (arith, length-append w y) in
    first_match_in x [] (w ++ y) c.args.from c.loop-item.place (length w) c.in-Some-first_in_run.start c.loop-item.invariant.within is inside
    c.loop-item.invariant.none (first_empty w y (c.args.from - c.loop-item.place) (Some c.in-Some-first_in_run.start) (rw (← c.saturating_sub.ensures) (c.in-Some-first_in_run.ensures)))

-- none does
pub loop-item-preserved-then-eq : goal.loop-item-preserved-then-eq
loop-item-preserved-then-eq c =
    let x = plain c.args.text.now in
    let w = c.range-run.result.now in
    let y = plain_of (pieces_left c.next.new.self) in
    let place = c.loop-item.place in
    let steps = c.in-Some.ensures.steps in
    let left : pieces_left c.loop-item.item-iterator ≡ Text w ∷ pieces_left c.next.new.self = gives_text steps c.loop-item.invariant.text c.range-run.ensures.value (kind_is_text c.if-eq.ensures) in
    let is : drop place x ≡ w ++ y = sym c.loop-item.invariant.left ∙ ap plain_of left in
    let size : length x - place ≡ length (w ++ y) = sym (length-drop place x) ∙ ap length is in
    let all : length (w ++ y) ≡ length w + length y = length-append w y in
    let within : place ≤ length x = c.loop-item.invariant.within in
    record {
      text = steps.text ∙ c.loop-item.invariant.text;
      left = sym (drop_at w y (length w) refl) ∙ ap (drop (length w)) (sym is) ∙ drop-drop (length w) place x;
      within = omega (arith, size, all, within);
      bounded = omega (arith, c.loop-item.invariant.bounded, steps.start, steps.end, c.range-run.ensures.len);
      none = no_match_in x [] (w ++ y) c.args.from place (length w) within is c.loop-item.invariant.none (first_empty w y (c.args.from - place) None (rw (← c.saturating_sub.ensures) c.in_default.ensures));
    }

-- the end is a boundary
pub returns-then-from-place : goal.returns-then-from-place
returns-then-from-place c =
    let x = plain c.args.text.now in
    let place = c.loop-item.place in
    let rest : drop place x ≡ [] = sym c.loop-item.invariant.left ∙ ap plain_of c.in-None.ensures.steps.2 in
    let end : place ≡ length x = omega (arith, ap length rest, length-drop place x, c.loop-item.invariant.within) in
    empty_at_end x [] c.args.from place end refl c.if-from-place.true c.loop-item.invariant.none

-- `from` lies past it
pub returns-else-from-place : goal.returns-else-from-place
returns-else-from-place c =
    let x = plain c.args.text.now in
    let place = c.loop-item.place in
    let rest : drop place x ≡ [] = sym c.loop-item.invariant.left ∙ ap plain_of c.in-None.ensures.steps.2 in
    let end : place ≡ length x = omega (arith, ap length rest, length-drop place x, c.loop-item.invariant.within) in
    none_at_end x [] c.args.from place end (λ _. c.if-from-place.false) c.loop-item.invariant.none

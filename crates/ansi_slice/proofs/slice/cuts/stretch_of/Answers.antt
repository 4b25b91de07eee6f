use Rattle.ansi_slice.proofs.Common.{◌+◌, ◌-◌, sym, ◌∙◌, ap, arith, kind_is_text, apply-no_sgr}
use Rattle.ansi_search.proofs.OffsetLemmas.{over_text, over_mark, kind_differs, offset_walk-last}
use Rattle.ansi_slice.proofs.StretchLemmas.{start-here, start-stays, stretch-text, stretch-mark, stretch-last}
use Rattle.ansi_slice.proofs.slice.cuts.stretch_of.Goals.{then-place-start+then-start-place, else-place-start, else-place-start-via-then-place-start+else-start-place, else-place-start-via-else-place-start}
use Rattle.ansi_slice.proofs.slice.cuts.stretch_of.Goals as goal

-- the end is in a text

pub returns-then-end-place-clause-stretch : goal.returns-then-end-place-clause-stretch
returns-then-end-place-clause-stretch c =
    let gives = c.in-Some.ensures.steps in
    let over = over_text gives c.loop-item.invariant.text c.range-piece.ensures.value (kind_is_text c.if-eq.ensures) in
    let way = c.loop-item.invariant.way in
    let at = ap (λ n. n + (c.args.end - c.loop-item.place)) gives.start in
    elim c.if-place-start.branch [
      | then-place-start+then-start-place w ↦
          stretch-last way over c.requires c.if-end-place.true
          (start-here way over w.if-place-start.true w.if-start-place.true gives.start w.from-is (w.marks-is ∙ w.then_some-marks.ensures)) at
      | else-place-start w ↦ elim w.else-place-start.branch [
        | else-place-start-via-then-place-start+else-start-place v ↦ stretch-last way over c.requires c.if-end-place.true (start-stays way (λ _. v.if-start-place.false) w.from-is w.marks-is) at
        | else-place-start-via-else-place-start v ↦
            stretch-last way over c.requires c.if-end-place.true (start-stays way (λ h. absurd (omega (arith, h, v.if-place-start.false))) w.from-is w.marks-is) at
      ]
    ]

pub returns-then-end-place-clause-style : goal.returns-then-end-place-clause-style
returns-then-end-place-clause-style c =
    let over = over_text c.in-Some.ensures.steps c.loop-item.invariant.text c.range-piece.ensures.value (kind_is_text c.if-eq.ensures) in
    (offset_walk-last c.loop-item.invariant.way.end over c.if-end-place.true).1

-- over a text
pub loop-item-preserved-then-eq : goal.loop-item-preserved-then-eq
loop-item-preserved-then-eq c =
    let gives = c.in-Some.ensures.steps in
    let over = over_text gives c.loop-item.invariant.text c.range-piece.ensures.value (kind_is_text c.if-eq.ensures) in
    let way = c.loop-item.invariant.way in
    record {
      text = gives.text ∙ c.loop-item.invariant.text;
      way = elim c.if-place-start.branch [
        | then-place-start+then-start-place w ↦
            stretch-text way over c.if-end-place.false
            (start-here way over w.if-place-start.true w.if-start-place.true gives.start w.from-is (w.marks-is ∙ w.then_some-marks.ensures))
        | else-place-start w ↦ elim w.else-place-start.branch [
          | else-place-start-via-then-place-start+else-start-place v ↦ stretch-text way over c.if-end-place.false (start-stays way (λ _. v.if-start-place.false) w.from-is w.marks-is)
          | else-place-start-via-else-place-start v ↦
              stretch-text way over c.if-end-place.false (start-stays way (λ h. absurd (omega (arith, h, v.if-place-start.false))) w.from-is w.marks-is)
        ]
      ];
    }

-- over an SGR
pub loop-item-preserved-then-eq-2 : goal.loop-item-preserved-then-eq-2
loop-item-preserved-then-eq-2 c =
    let gives = c.in-Some.ensures.steps in
    let over = over_mark gives c.loop-item.invariant.text c.range-piece.ensures.value (kind_differs c.if-eq.ensures) in
    record {
      text = gives.text ∙ c.loop-item.invariant.text;
      way = stretch-mark c.loop-item.invariant.way over c.apply.ensures;
    }

-- over another sequence, or a lone escape
pub loop-item-preserved : goal.loop-item-preserved
loop-item-preserved c =
    let w = c.range-piece.result.now in
    let gives = c.in-Some.ensures.steps in
    let over = over_mark gives c.loop-item.invariant.text c.range-piece.ensures.value (kind_differs c.if-eq.ensures) in
    record {
      text = gives.text ∙ c.loop-item.invariant.text;
      way = stretch-mark c.loop-item.invariant.way over (sym (apply-no_sgr _ w (over.first.no_sgr (kind_differs c.if-eq-2.ensures))));
    }

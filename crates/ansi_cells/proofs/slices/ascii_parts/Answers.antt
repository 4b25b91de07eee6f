use Rattle.std.proofs.Common.{◌≡◌, ◌<◌, ◌+◌, ◌⊎◌, inr, length, sym, ◌∙◌, ap, arith, rules}
use Rattle.std.specs.List.{list_all}
use Rattle.ansi_items.specs.declared.ansitok.Kind.TheVariants.{Sgr}
use Rattle.ansi_items.proofs.StepLemmas.{kind_is_text}
use Rattle.ansi_style.specs.States.{rendition_of}
use Rattle.ansi_search.proofs.OffsetLemmas.{over_text, over_mark, kind_differs}
use Rattle.ansi_safe.proofs.LinkLemmas.{is_kind}
use Rattle.ansi_safe.specs.declared.links.Pen.{Pen}
use Rattle.ansi_cells.specs.Slices.{is_ascii_piece}
use Rattle.ansi_cells.proofs.AsciiSliceLemmas.{IsOpened, IsAsciiCell, ascii-cell, ascii-known, ascii-stays, stays-past, slice-begin, run-fits, run-end, found-here, found-stays, slice-text, closed-here, inside-here, slice-mark, closed-end, pen-sgr, pen-other, slice-ordered, slice-boundary, ascii-parts, ascii-none}
use Rattle.ansi_cells.proofs.slices.ascii_parts.Goals.{then-is_in_run, else-is_in_run, else-not-is_cell-via-then-not-is_cell+else-not-items_stay, else-not-is_cell-via-else-not-is_cell}
use Rattle.ansi_cells.proofs.slices.ascii_parts.Goals as goal

pub loop-step-init : goal.loop-step-init
loop-step-init c =
    let begins : c.into_iter-step-iterator.result ≡ record { text = c.args.text.now; offset = 0 } = c.into_iter-step-iterator.ensures.into_iter_gives ∙ c.new-step-items.ensures in
    record { text = ap (λ s. s.text) begins; so_far = rw (begins, c.plain_pen-opened.ensures.style, c.plain_pen-opened.ensures.link, c.plain_style-style.ensures) (slice-begin c.args.text.now c.args.start c.args.end); decides = search rules; link_is_text = search rules }

pub is_in_run-requires : goal.is_in_run-requires
is_in_run-requires c =
    let over = over_text c.in-Some.ensures.steps.gives c.loop-step.invariant.text c.range-piece.ensures.value (kind_is_text c.if-eq.ensures) in
    omega (arith, run-fits c.loop-step.invariant.so_far over)

-- at the run of the last edge

pub range-stretch-requires-clause-start_le_end : goal.range-stretch-requires-clause-start_le_end
range-stretch-requires-clause-start_le_end c =
    let inv = c.loop-step.invariant in
    let gives = c.in-Some.ensures.steps.gives in
    let over = over_text gives inv.text c.range-piece.ensures.value (kind_is_text c.if-eq.ensures) in
    let found : (c.args.start ≡ 0) ⊎ (c.args.start < c.loop-step.place + length c.range-piece.result.now) → IsOpened c.args.text.now c.args.start c.if-is_in_run.from (rendition_of c.if-is_in_run.opened.style) c.if-is_in_run.opened.link.now
    = elim c.if-is_in_run.branch [
      | then-is_in_run w ↦ rw (w.from-is, w.opened-is) (found-here inv.so_far over (sym c.is_in_run.ensures ∙ w.if-is_in_run.true) gives.start)
      | else-is_in_run w ↦ rw (w.from-is, w.opened-is) (found-stays inv.so_far over (sym c.is_in_run.ensures ∙ w.if-is_in_run.false))
    ] in
    let ordered : c.args.start < c.args.end = omega (arith, c.if-end-start.false) in
    let inside = inside-here inv.so_far over ordered c.if-end-place.true in
    let closes = closed-here inv.so_far over c.if-end-place.true gives.start in
    let decides = stays-past inv.decides gives inv.text (sym c.item_stays.ensures ∙ c.if-not-item_stays.false) in
    let is_cell : IsAsciiCell c.args.text.now = elim c.else-not-is_cell.branch [
      | else-not-is_cell-via-then-not-is_cell+else-not-items_stay w ↦ ascii-cell c.requires.ascii decides gives inv.text w.range_from.ensures.value (sym w.items_stay.ensures ∙ w.if-not-items_stay.false)
      | else-not-is_cell-via-else-not-is_cell w ↦ ascii-known c.requires.ascii (c.requires.cell w.if-not-is_cell.false)
    ] in
    slice-ordered is_cell ordered inside.0 (found (inr inside.1)) closes

pub range-stretch-requires-clause-start_boundary : goal.range-stretch-requires-clause-start_boundary
range-stretch-requires-clause-start_boundary c =
    let inv = c.loop-step.invariant in
    let gives = c.in-Some.ensures.steps.gives in
    let over = over_text gives inv.text c.range-piece.ensures.value (kind_is_text c.if-eq.ensures) in
    let found : (c.args.start ≡ 0) ⊎ (c.args.start < c.loop-step.place + length c.range-piece.result.now) → IsOpened c.args.text.now c.args.start c.if-is_in_run.from (rendition_of c.if-is_in_run.opened.style) c.if-is_in_run.opened.link.now
    = elim c.if-is_in_run.branch [
      | then-is_in_run w ↦ rw (w.from-is, w.opened-is) (found-here inv.so_far over (sym c.is_in_run.ensures ∙ w.if-is_in_run.true) gives.start)
      | else-is_in_run w ↦ rw (w.from-is, w.opened-is) (found-stays inv.so_far over (sym c.is_in_run.ensures ∙ w.if-is_in_run.false))
    ] in
    let ordered : c.args.start < c.args.end = omega (arith, c.if-end-start.false) in
    let inside = inside-here inv.so_far over ordered c.if-end-place.true in
    let closes = closed-here inv.so_far over c.if-end-place.true gives.start in
    let decides = stays-past inv.decides gives inv.text (sym c.item_stays.ensures ∙ c.if-not-item_stays.false) in
    let is_cell : IsAsciiCell c.args.text.now = elim c.else-not-is_cell.branch [
      | else-not-is_cell-via-then-not-is_cell+else-not-items_stay w ↦ ascii-cell c.requires.ascii decides gives inv.text w.range_from.ensures.value (sym w.items_stay.ensures ∙ w.if-not-items_stay.false)
      | else-not-is_cell-via-else-not-is_cell w ↦ ascii-known c.requires.ascii (c.requires.cell w.if-not-is_cell.false)
    ] in
    λ _. slice-boundary is_cell ordered inside.0 (found (inr inside.1)) closes (omega (arith, run-end inv.so_far over c.if-end-place.true gives.start))

pub returns-then-end-place : goal.returns-then-end-place
returns-then-end-place c =
    let inv = c.loop-step.invariant in
    let gives = c.in-Some.ensures.steps.gives in
    let over = over_text gives inv.text c.range-piece.ensures.value (kind_is_text c.if-eq.ensures) in
    let found : (c.args.start ≡ 0) ⊎ (c.args.start < c.loop-step.place + length c.range-piece.result.now) → IsOpened c.args.text.now c.args.start c.if-is_in_run.from (rendition_of c.if-is_in_run.opened.style) c.if-is_in_run.opened.link.now
    = elim c.if-is_in_run.branch [
      | then-is_in_run w ↦ rw (w.from-is, w.opened-is) (found-here inv.so_far over (sym c.is_in_run.ensures ∙ w.if-is_in_run.true) gives.start)
      | else-is_in_run w ↦ rw (w.from-is, w.opened-is) (found-stays inv.so_far over (sym c.is_in_run.ensures ∙ w.if-is_in_run.false))
    ] in
    let ordered : c.args.start < c.args.end = omega (arith, c.if-end-start.false) in
    let inside = inside-here inv.so_far over ordered c.if-end-place.true in
    let closes = closed-here inv.so_far over c.if-end-place.true gives.start in
    let decides = stays-past inv.decides gives inv.text (sym c.item_stays.ensures ∙ c.if-not-item_stays.false) in
    let is_cell : IsAsciiCell c.args.text.now = elim c.else-not-is_cell.branch [
      | else-not-is_cell-via-then-not-is_cell+else-not-items_stay w ↦ ascii-cell c.requires.ascii decides gives inv.text w.range_from.ensures.value (sym w.items_stay.ensures ∙ w.if-not-items_stay.false)
      | else-not-is_cell-via-else-not-is_cell w ↦ ascii-known c.requires.ascii (c.requires.cell w.if-not-is_cell.false)
    ] in (
      ascii-stays c.args.text.now c.utf8.text is_cell.stay,
      ascii-parts is_cell ordered inside.0 (found (inr inside.1)) closes c.stretch.result
          (ap (λ (p : Pen). rendition_of p.style) c.stretch.ensures.opened) (ap (λ (p : Pen). p.link.now) c.stretch.ensures.opened) (ap (λ (p : Pen). rendition_of p.style) c.stretch.ensures.closed) (ap (λ (p : Pen). p.link.now) c.stretch.ensures.closed)
          (c.stretch.ensures.text ∙ c.range-stretch.ensures.value) c.stretch.ensures.whole.0 c.stretch.ensures.whole.1 c.stretch.ensures.whole.2,
    )

-- over a run
pub loop-step-preserved-then-eq : goal.loop-step-preserved-then-eq
loop-step-preserved-then-eq c =
    let inv = c.loop-step.invariant in
    let gives = c.in-Some.ensures.steps.gives in
    let over = over_text gives inv.text c.range-piece.ensures.value (kind_is_text c.if-eq.ensures) in
    let found : (c.args.start ≡ 0) ⊎ (c.args.start < c.loop-step.place + length c.range-piece.result.now) → IsOpened c.args.text.now c.args.start c.if-is_in_run.from (rendition_of c.if-is_in_run.opened.style) c.if-is_in_run.opened.link.now
    = elim c.if-is_in_run.branch [
      | then-is_in_run w ↦ rw (w.from-is, w.opened-is) (found-here inv.so_far over (sym c.is_in_run.ensures ∙ w.if-is_in_run.true) gives.start)
      | else-is_in_run w ↦ rw (w.from-is, w.opened-is) (found-stays inv.so_far over (sym c.is_in_run.ensures ∙ w.if-is_in_run.false))
    ] in
    record {
      text = gives.text ∙ inv.text;
      so_far = slice-text inv.so_far over (omega (arith, c.if-end-place.false)) found;
      decides = stays-past inv.decides gives inv.text (sym c.item_stays.ensures ∙ c.if-not-item_stays.false);
      link_is_text = inv.link_is_text;
    }

-- over an SGR
pub loop-step-preserved-then-eq-2 : goal.loop-step-preserved-then-eq-2
loop-step-preserved-then-eq-2 c =
    let inv = c.loop-step.invariant in
    let gives = c.in-Some.ensures.steps.gives in
    let over = over_mark gives inv.text c.range-piece.ensures.value (kind_differs c.if-eq.ensures) in
    record {
      text = gives.text ∙ inv.text;
      so_far = slice-mark inv.so_far over (pen-sgr inv.so_far.pen over.first (is_kind Sgr c.if-eq-2.ensures) c.apply.ensures);
      decides = stays-past inv.decides gives inv.text (sym c.item_stays.ensures ∙ c.if-not-item_stays.false);
      link_is_text = inv.link_is_text;
    }

-- over another sequence
pub loop-step-preserved : goal.loop-step-preserved
loop-step-preserved c =
    let inv = c.loop-step.invariant in
    let gives = c.in-Some.ensures.steps.gives in
    let over = over_mark gives inv.text c.range-piece.ensures.value (kind_differs c.if-eq.ensures) in
    record {
      text = gives.text ∙ inv.text;
      so_far = slice-mark inv.so_far over (pen-other inv.so_far.pen over.first (kind_differs c.if-eq-2.ensures) c.link_after-link.ensures);
      decides = stays-past inv.decides gives inv.text (sym c.item_stays.ensures ∙ c.if-not-item_stays.false);
      link_is_text = search rules;
    }

-- at the end

pub returns-then-place-start : goal.returns-then-place-start
returns-then-place-start c =
    let inv = c.loop-step.invariant in
    let none = c.in-None.ensures.steps.2 in
    let is_cell : IsAsciiCell c.args.text.now = record { ascii = c.requires.ascii; stay = inv.decides ∙ ap (list_all is_ascii_piece) none } in
    (ascii-stays c.args.text.now c.utf8.text is_cell.stay, ascii-none c.args.end is_cell (omega (arith, c.if-place-start.true, (closed-end inv.so_far none).0)))

pub range-stretch-requires-2-clause-start_le_end : goal.range-stretch-requires-2-clause-start_le_end
range-stretch-requires-2-clause-start_le_end c =
    let so_far = c.loop-step.invariant.so_far in
    let none = c.in-None.ensures.steps.2 in
    let is_cell : IsAsciiCell c.args.text.now = record { ascii = c.requires.ascii; stay = c.loop-step.invariant.decides ∙ ap (list_all is_ascii_piece) none } in
    let end = closed-end so_far none in
    let inside : c.args.start < c.loop-step.place = omega (arith, c.if-place-start.false) in
    slice-ordered is_cell (omega (arith, c.if-end-start.false)) (omega (arith, inside, end.0)) (so_far.found (inr inside)) end.1

pub range-stretch-requires-2-clause-start_boundary : goal.range-stretch-requires-2-clause-start_boundary
range-stretch-requires-2-clause-start_boundary c =
    let so_far = c.loop-step.invariant.so_far in
    let none = c.in-None.ensures.steps.2 in
    let is_cell : IsAsciiCell c.args.text.now = record { ascii = c.requires.ascii; stay = c.loop-step.invariant.decides ∙ ap (list_all is_ascii_piece) none } in
    let end = closed-end so_far none in
    let inside : c.args.start < c.loop-step.place = omega (arith, c.if-place-start.false) in
    λ _. slice-boundary is_cell (omega (arith, c.if-end-start.false)) (omega (arith, inside, end.0)) (so_far.found (inr inside)) end.1 (omega arith)

pub returns : goal.returns
returns c =
    let so_far = c.loop-step.invariant.so_far in
    let none = c.in-None.ensures.steps.2 in
    let is_cell : IsAsciiCell c.args.text.now = record { ascii = c.requires.ascii; stay = c.loop-step.invariant.decides ∙ ap (list_all is_ascii_piece) none } in
    let end = closed-end so_far none in
    let inside : c.args.start < c.loop-step.place = omega (arith, c.if-place-start.false) in (
      ascii-stays c.args.text.now c.utf8.text is_cell.stay,
      ascii-parts is_cell (omega (arith, c.if-end-start.false)) (omega (arith, inside, end.0)) (so_far.found (inr inside)) end.1 c.stretch-2.result
          (ap (λ (p : Pen). rendition_of p.style) c.stretch-2.ensures.opened) (ap (λ (p : Pen). p.link.now) c.stretch-2.ensures.opened) (ap (λ (p : Pen). rendition_of p.style) c.stretch-2.ensures.closed) (ap (λ (p : Pen). p.link.now) c.stretch-2.ensures.closed)
          (c.stretch-2.ensures.text ∙ c.range-stretch-2.ensures.value) c.stretch-2.ensures.whole.0 c.stretch-2.ensures.whole.1 c.stretch-2.ensures.whole.2,
    )

use Rattle.std.proofs.Common.{◌≡◌, ◌+◌, ◌-◌, ◌^◌, ◌<◌, ◌≤◌, true, length, take, slice_index, slice_range, refl, sym, ◌∙◌, ap, subst, arith, rules}
use Rattle.std.specs.List.{list_all}
use Rattle.std.specs.Str.{IsUtf8}
use Rattle.std.proofs.lemmas.Bool.{not-false}
use Rattle.std.proofs.lemmas.List.{length-take-le, take_all}
use Rattle.std.proofs.lemmas.Str.{IsUtf8-take}
use Rattle.ansi_items.specs.declared.ansitok.Kind.TheVariants.{Sgr}
use Rattle.ansi_items.specs.Plain.{plain}
use Rattle.ansi_items.specs.Scans.{pieces_left}
use Rattle.ansi_items.proofs.StepLemmas.{kind_is_text}
use Rattle.ansi_style.specs.Rendition.{plain_style}
use Rattle.ansi_search.proofs.OffsetLemmas.{item_range, over_text, over_mark}
use Rattle.ansi_search.proofs.SliceLemmas.{length-slice_range}
use Rattle.ansi_safe.proofs.LinkLemmas.{is_kind}
use Rattle.ansi_style.specs.States.{rendition_of}
use Rattle.ansi_cells.specs.PlainCells.{IsPlainCell}
use Rattle.ansi_clusters.specs.Letters.{IsPlainFront}
use Rattle.ansi_clusters.specs.Steps.{IsStepOf}
use Rattle.ansi_clusters.proofs.AsciiLemmas.{is_printable}
use Rattle.ansi_cells.proofs.PlainCellLemmas.{IsPlainSoFar, plain-begin, plain-end, plain-run, plain-sgr, plain-within, printable-run, run-within, so_far-at}
use Rattle.ansi_cells.proofs.PlainFrontLemmas.{at-run}
use Rattle.ansi_cells.proofs.plain_cells.plain_runs.Goals as goal

pub range-piece-requires : goal.range-piece-requires
range-piece-requires c = item_range c.in-Some.ensures.steps.gives c.loop-step.invariant.text

pub loop-step-init : goal.loop-step-init
loop-step-init c =
    let t = c.range-near.result.now in
    let width = c.args.width in
    let start = c.into_iter-step-iterator.result in
    let begins : start ≡ record { text = t; offset = 0 } = c.into_iter-step-iterator.ensures.into_iter_gives ∙ c.new-step-items.ensures in
    let none : width + 0 ≡ width = omega arith in
    let nothing : 0 + (width - (width + 0)) ≡ 0 = omega arith in
    record {
      text = ap (λ s. s.text) begins;
      so_far = so_far-at (sym none) (sym nothing) (subst (λ s. IsPlainSoFar t width width s 0 0 start.offset (pieces_left start)) (sym c.plain_style-style.ensures)
          (subst (λ s. IsPlainSoFar t width width plain_style 0 0 s.offset (pieces_left s)) (sym begins) (plain-begin t width)));
      less = omega arith;
    }

-- over an SGR
pub loop-step-preserved-then-eq : goal.loop-step-preserved-then-eq
loop-step-preserved-then-eq c =
    let gives = c.in-Some.ensures.steps.gives in
    let inv = c.loop-step.invariant in
    let kind = is_kind Sgr c.if-eq.ensures in
    record { text = gives.text ∙ inv.text; so_far = plain-sgr inv.so_far (over_mark gives inv.text c.range-piece.ensures.value (λ e. cc)) kind c.apply.ensures; less = inv.less }

-- over a run of printable ASCII
pub loop-step-preserved-then-step-most : goal.loop-step-preserved-then-step-most
loop-step-preserved-then-step-most c =
    let gives = c.in-Some.ensures.steps.gives in
    let inv = c.loop-step.invariant in
    let piece = c.range-piece.result.now in
    let over = over_text gives inv.text c.range-piece.ensures.value (kind_is_text (sym (not-false _ (sym c.if-ne.ensures)))) in
    let is_step = subst (λ u. IsStepOf u c.in-Some.step) inv.text c.in-Some.ensures.steps.is_step in
    let all : list_all is_printable piece ≡ true = ap (list_all is_printable) c.range-piece.ensures.value ∙ sym (c.is_printable.ensures _ is_step) ∙ c.if-is_printable.true in
    record {
      text = gives.text ∙ inv.text;
      so_far = plain-run inv.so_far over c.range-piece.utf8 (printable-run piece c.range-piece.utf8 all) (omega (arith, c.if-piece-left.true)) (omega (arith, inv.less, c.if-piece-left.true)) (omega (arith, over.count, gives.start, gives.end, gives.forward))
          (ap (λ b. slice_index b (length piece - 1)) c.as_bytes.ensures.value);
      less = omega (arith, inv.less);
    }

-- at another run, which may go on after the part

pub overflow_add-len : goal.overflow_add-len
overflow_add-len c =
    let size : length c.range-near.result.now < 2 ^ 63 = search rules in
    omega (arith, size, plain-within c.loop-step.invariant.so_far)

pub returns-in_default : goal.returns-in_default
returns-in_default c =
    let t = c.args.text.now in
    let n = c.floor_char_boundary.result in
    let count : n - 0 ≡ n = omega arith in
    let near : c.range-near.result.now ≡ take n t = c.range-near.ensures.value ∙ ap (λ m. take m t) count in
    let inv = c.loop-step.invariant in
    at-run n _ c.utf8.text c.floor_char_boundary.ensures.boundary near inv.so_far c.in-Some.ensures.steps.gives inv.text (kind_is_text (sym (not-false _ (sym c.if-ne.ensures)))) c.at_run-run.ensures

-- over it

pub overflow_add-others : goal.overflow_add-others
overflow_add-others c =
    let size : length c.range-near.result.now < 2 ^ 63 = search rules in
    let over = over_text c.in-Some.ensures.steps.gives c.loop-step.invariant.text c.range-piece.ensures.value (kind_is_text (sym (not-false _ (sym c.if-ne.ensures)))) in
    omega (arith, size, run-within c.loop-step.invariant.so_far over)

pub loop-step-preserved : goal.loop-step-preserved
loop-step-preserved c =
    let near = c.range-near.result.now in
    let gives = c.in-Some.ensures.steps.gives in
    let inv = c.loop-step.invariant in
    let item = c.in-Some.step.item in
    let piece = c.range-piece.result.now in
    let all = c.loop-step.left + c.loop-step.others.spare in
    let columns = c.in-Some-columns_of_others.columns in
    let spare = c.in-Some-columns_of_others.spare in
    let range = item_range gives inv.text in
    let is : piece ≡ slice_range near item.start item.end = c.range-piece.ensures.value in
    let size : length piece ≡ item.end - item.start = ap length is ∙ length-slice_range near item.start item.end (omega (arith, range)) (omega (arith, range)) in
    let over = over_text gives inv.text is (kind_is_text (sym (not-false _ (sym c.if-ne.ensures)))) in
    let run : IsPlainFront piece (length piece) columns
    = subst (λ n. IsPlainFront piece n columns) (sym size) (subst (λ u. IsPlainFront u (item.end - item.start) columns) (sym is) c.in-Some-columns_of_others.ensures.run) in
    let room : columns + spare ≤ all = omega (arith, c.in-Some-columns_of_others.ensures.most) in
    record {
      text = gives.text ∙ inv.text;
      so_far = so_far-at (omega (arith, room)) (omega (arith, room)) (plain-run {next = all - columns} inv.so_far over c.range-piece.utf8 run (omega (arith, room)) refl (omega (arith, over.count, gives.start, gives.end, gives.forward))
          (ap (λ b. slice_index b (length piece - 1)) c.as_bytes-in-loop-step.ensures.value));
      less = omega (arith, room);
    }

-- the part is the text

pub overflow_add-result : goal.overflow_add-result
overflow_add-result c =
    let size : length c.range-near.result.now < 2 ^ 63 = search rules in
    omega (arith, size, plain-within c.loop-step.invariant.so_far)

pub returns : goal.returns
returns c =
    let t = c.args.text.now in
    let n = c.floor_char_boundary.result in
    let count : n - 0 ≡ n = omega arith in
    let near : c.range-near.result.now ≡ take n t = c.range-near.ensures.value ∙ ap (λ m. take m t) count in
    let boundary = c.floor_char_boundary.ensures.boundary in
    let size : length c.range-near.result.now ≡ n = ap length near ∙ length-take-le n t boundary.0 in
    let whole : t ≡ c.range-near.result.now = sym (near ∙ take_all n t (omega (arith, size, c.if-near-text-3.false))) in
    let utf8 = subst IsUtf8 (sym near) (IsUtf8-take t n c.utf8.text boundary) in
    let made = plain-end utf8 c.loop-step.invariant.so_far c.in-None.ensures.steps.2 in
    record {
      is_cell = subst (λ u. IsPlainCell u c.args.width (c.loop-step.left + c.loop-step.others.spare) (rendition_of c.loop-step.style) c.loop-step.last) (sym whole) made.0;
      len = made.1 ∙ ap (λ u. length (plain u)) (sym whole);
    }

use Rattle.std.proofs.Common.{◌≡◌, ◌-◌, ◌<◌, ◌^◌, not, length, slice_range, refl, sym, ◌∙◌, ap, subst, arith, rules}
use Rattle.std.proofs.lemmas.Bool.{not-false}
use denote.Enum.Bare.{sameb}
use Rattle.ansi_items.specs.contracts.ansitok.Kind.{the_type}
use Rattle.ansi_items.specs.declared.ansitok.Kind.TheVariants.{Text as TextKind}
use Rattle.ansi_items.specs.Scans.{pieces_left}
use Rattle.ansi_items.proofs.PlainLemmas.{length-plain}
use Rattle.ansi_items.proofs.StepLemmas.{kind_is_text}
use Rattle.ansi_search.proofs.OffsetLemmas.{item_range, over_text, over_mark}
use Rattle.ansi_search.proofs.SliceLemmas.{length-slice_range}
use Rattle.ansi_clusters.specs.declared.views.View.TheVariants.{Given}
use Rattle.ansi_clusters.specs.Letters.{IsPlainFront}
use Rattle.ansi_clusters.specs.Walks.{IsCountedTo, walk_at_run}
use Rattle.ansi_clusters.proofs.ColumnLemmas.{counted-begin}
use Rattle.ansi_clusters.proofs.PrintableLemmas.{counted-clusters}
use Rattle.ansi_cells.proofs.PlainTextLemmas.{ArePlainSoFar, plain-begin, plain-run, plain-mark, plain-within, plain-columns, run-utf8, walk-plain, counted-ending, counted-run, counted-first}
use Rattle.ansi_cells.proofs.widths.plain_runs.Goals.{else-len-eq0-via-then-len-eq0+then-position-gt0+else-not-ends_ascii, else-len-eq0-via-then-len-eq0+else-position-gt0, else-len-eq0-via-else-len-eq0}
use Rattle.ansi_cells.proofs.widths.plain_runs.Goals as goal

pub loop-step-init : goal.loop-step-init
loop-step-init c =
    let t = c.args.text.now in
    let start = c.into_iter-step-iterator.result in
    let begins : start ≡ record { text = t; offset = 0 } = c.into_iter-step-iterator.ensures.into_iter_gives ∙ c.new-step-items.ensures in
    record {
      text = ap (λ s. s.text) begins;
      so_far = subst (λ s. ArePlainSoFar t 0 0 s.offset (pieces_left s)) (sym begins) (plain-begin t);
    }

-- over a sequence or a lone escape
pub loop-step-preserved-then-ne : goal.loop-step-preserved-then-ne
loop-step-preserved-then-ne c =
    let gives = c.in-Some.ensures.steps.gives in
    let inv = c.loop-step.invariant in
    record {
      text = gives.text ∙ inv.text;
      so_far = plain-mark inv.so_far (over_mark gives inv.text refl (λ e. (let same = c.if-ne.ensures ∙ ap (λ k. not (sameb the_type k TextKind)) e in cc)));
    }

-- over a run
pub loop-step-preserved : goal.loop-step-preserved
loop-step-preserved c =
    let t = c.args.text.now in
    let gives = c.in-Some.ensures.steps.gives in
    let inv = c.loop-step.invariant in
    let item = c.in-Some.step.item in
    let kind : item.kind ≡ TextKind = kind_is_text (sym (not-false _ (sym c.if-ne.ensures))) in
    let range = item_range gives inv.text in
    let front : IsPlainFront (slice_range t item.start item.end) c.plain_part-len.result.0 c.plain_part-len.result.1 = c.plain_part-len.ensures in
    let size : length (slice_range t item.start item.end) ≡ item.end - item.start = length-slice_range t item.start item.end (omega (arith, range)) (omega (arith, range)) in
    let whole : c.plain_part-len.result.0 ≡ length (slice_range t item.start item.end) = omega (arith, front.boundary.0, size, c.if-len-step.false) in
    record {
      text = gives.text ∙ inv.text;
      so_far = plain-run inv.so_far (over_text gives inv.text refl kind) (run-utf8 (walk_at_run c.loop-step.position item.start item.end) c.utf8.text inv.so_far gives inv.text kind refl) front whole refl refl;
    }

pub overflow_add-position : goal.overflow_add-position
overflow_add-position c =
    let t = c.args.text.now in
    let size : length t < 2 ^ 63 = search rules in
    omega (arith, size, plain-within (loop-step-preserved c).so_far)

pub overflow_add-columns : goal.overflow_add-columns
overflow_add-columns c =
    let t = c.args.text.now in
    let size : length t < 2 ^ 63 = search rules in
    omega (arith, size, plain-within (loop-step-preserved c).so_far)

-- at a run with another character

pub ends_ascii-requires : goal.ends_ascii-requires
ends_ascii-requires c =
    let inv = c.loop-step.invariant in
    (Given, walk-plain _ c.utf8.text inv.so_far c.in-Some.ensures.steps.gives inv.text (kind_is_text (sym (not-false _ (sym c.if-ne.ensures)))) c.at_run-run.ensures Given)

pub returns-then-not-ends_ascii : goal.returns-then-not-ends_ascii
returns-then-not-ends_ascii c =
    let t = c.args.text.now in
    record { is_walk = c.start.ensures.seen; counted = λ view. subst (λ n. IsCountedTo view t n 0) (sym c.start.ensures.position) (counted-begin view t c.utf8.text) }

pub past_plain-more-requires-clause-walk : goal.past_plain-more-requires-clause-walk
past_plain-more-requires-clause-walk c =
    let inv = c.loop-step.invariant in
    (Given, walk-plain _ c.utf8.text inv.so_far c.in-Some.ensures.steps.gives inv.text (kind_is_text (sym (not-false _ (sym c.if-ne.ensures)))) c.at_run-run.ensures Given)

pub returns-then-len-step-2 : goal.returns-then-len-step-2
returns-then-len-step-2 c =
    let inv = c.loop-step.invariant in
    let gives = c.in-Some.ensures.steps.gives in
    let kind = kind_is_text (sym (not-false _ (sym c.if-ne.ensures))) in
    elim c.else-len-eq0.branch [
      | else-len-eq0-via-then-len-eq0+then-position-gt0+else-not-ends_ascii w ↦ counted-ending _ c.utf8.text inv.so_far gives inv.text kind c.at_run-run.ensures (w.ends_ascii.ensures w.if-not-ends_ascii.false)
      | else-len-eq0-via-then-len-eq0+else-position-gt0 w ↦ counted-first _ c.utf8.text inv.so_far gives inv.text kind c.at_run-run.ensures (omega (arith, w.if-position-gt0.false)) (omega (arith, w.if-position-gt0.false, plain-within inv.so_far))
      | else-len-eq0-via-else-len-eq0 w ↦ counted-run _ c.utf8.text inv.so_far gives inv.text kind c.at_run-run.ensures c.plain_part-len.ensures (omega (arith, w.if-len-eq0.false))
    ]

pub returns-then-len-step : goal.returns-then-len-step
returns-then-len-step c =
    let inv = c.loop-step.invariant in
    let kind = kind_is_text (sym (not-false _ (sym c.if-ne.ensures))) in
    let here = counted-run _ c.utf8.text inv.so_far c.in-Some.ensures.steps.gives inv.text kind c.at_run-run.ensures c.plain_part-len.ensures (omega (arith, c.if-len-step-2.false)) in
    record {
      is_walk = λ view. (c.past_plain-more.ensures view (here.is_walk view)).walk;
      counted = λ view. counted-clusters (c.past_plain-more.ensures view (here.is_walk view)) (here.counted view);
    }

pub overflow_add-result : goal.overflow_add-result
overflow_add-result c =
    let t = c.args.text.now in
    let size : length t < 2 ^ 63 = search rules in
    let later = returns-then-len-step c in
    omega (arith, size, length-plain t, (later.counted Given).bound, (later.is_walk Given).within)

pub returns : goal.returns
returns c view = plain-columns view c.utf8.text c.loop-step.invariant.so_far c.in-None.ensures.steps.2

use Rattle.std.proofs.Common.{◌≡◌, ◌-◌, ◌^◌, ◌<◌, length, slice_range, sym, ◌∙◌, ap, subst, arith, rules}
use Rattle.ansi_search.proofs.SliceLemmas.{length-slice_range}
use Rattle.ansi_clusters.specs.Letters.{IsPlainFront}
use Rattle.ansi_clusters.proofs.StepLemmas.{step-within}
use Rattle.ansi_clusters.proofs.LetterLemmas.{front-bound, front-more, front-printable}
use Rattle.ansi_cells.proofs.PlainTextLemmas.{slice-boundary, slice-rest, slice-utf8}
use Rattle.ansi_cells.proofs.plain_cells.plain_part.Goals as goal

pub returns-then-ascii-end : goal.returns-then-ascii-end
returns-then-ascii-end c =
    let run = c.args.run in
    let is = c.requires in
    front-printable (slice_range c.args.text.now run.item.start run.item.end) (slice-utf8 c.args.text.now run.item.start run.item.end c.utf8.text is.ordered is.start is.end) run.printable is.printable

-- a byte follows

pub overflow_add-start : goal.overflow_add-start
overflow_add-start c =
    let size : length c.args.text.now < 2 ^ 63 = search rules in
    omega (arith, size, step-within c.args.text.now c.args.run c.requires, c.requires.end.0)

pub bounds-as_bytes-start : goal.bounds-as_bytes-start
bounds-as_bytes-start c =
    omega (arith, step-within c.args.text.now c.args.run c.requires, c.requires.ordered, c.requires.end.0, c.if-ascii-end.false, ap length c.as_bytes.ensures.value)

-- a character that isn't ASCII follows

pub range-requires-clause-start_le_end : goal.range-requires-clause-start_le_end
range-requires-clause-start_le_end c = step-within c.args.text.now c.args.run c.requires

pub range-requires-clause-start_boundary : goal.range-requires-clause-start_boundary
range-requires-clause-start_boundary c _ =
    let run = c.args.run in
    let is = c.requires in
    let front = front-printable (slice_range c.args.text.now run.item.start run.item.end) (slice-utf8 c.args.text.now run.item.start run.item.end c.utf8.text is.ordered is.start is.end) run.printable is.printable in
    slice-boundary c.args.text.now run.item.start run.item.end run.printable c.utf8.text is.ordered is.start is.end front.boundary

pub returns : goal.returns
returns c =
    let t = c.args.text.now in
    let run = c.args.run in
    let is = c.requires in
    let w = slice_range t run.item.start run.item.end in
    let utf8 = slice-utf8 t run.item.start run.item.end c.utf8.text is.ordered is.start is.end in
    let more = subst (λ r. IsPlainFront r c.plain_front-len.result.0 c.plain_front-len.result.1) (c.range.ensures.value ∙ sym (slice-rest t run.item.start run.item.end run.printable)) c.plain_front-len.ensures in
    front-more w utf8 (front-printable w utf8 run.printable is.printable) more

pub overflow_add-result-2 : goal.overflow_add-result-2
overflow_add-result-2 c =
    let t = c.args.text.now in
    let run = c.args.run in
    let is = c.requires in
    let size : length t < 2 ^ 63 = search rules in
    let w = slice_range t run.item.start run.item.end in
    let whole = returns c in
    let len : length w ≡ run.item.end - run.item.start = length-slice_range t run.item.start run.item.end is.ordered is.end.0 in
    omega (arith, size, len, is.end.0, whole.boundary.0, front-bound w (slice-utf8 t run.item.start run.item.end c.utf8.text is.ordered is.start is.end) whole)

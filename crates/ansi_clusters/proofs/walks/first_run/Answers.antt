use Rattle.std.proofs.Common.{◌≡◌, ◌+◌, ◌-◌, true, take, drop, slice_index, subst, sym, ◌∙◌, ap, arith}
use Rattle.std.specs.List.{list_all}
use Rattle.std.specs.Str.{IsCharBoundary}
use Rattle.std.proofs.lemmas.Str.{IsCharBoundary-start, IsCharBoundary-from_rest}
use Rattle.ansi_items.specs.Bytes.{is_plain_byte}
use Rattle.ansi_clusters.proofs.NearLemmas.{first-past}
use Rattle.ansi_clusters.proofs.walks.first_run.Goals as goal

pub marks-init : goal.marks-init
marks-init c = record { boundary = IsCharBoundary-start c.args.text.now c.utf8.text; first = omega arith }

pub marks-preserved : goal.marks-preserved
marks-preserved c = record { boundary = c.mark_at-start.ensures.end_boundary; first = omega (arith, first-past c.mark_at-start.ensures (ap (λ x. slice_index x c.marks.start) (sym c.as_bytes-bytes.ensures.value) ∙ c.if-bytes-start-eq-ESC.true), c.marks.invariant.first) }

pub returns-clause-run : goal.returns-clause-run
returns-clause-run c =
    let t = c.args.text.now in
    let start = c.marks.start in
    let here = c.marks.invariant.boundary in
    let near = c.near_run_len.ensures in
    let count : start + c.near_run_len.result - start ≡ c.near_run_len.result = omega arith in
    record {
      ordered = omega arith;
      start_boundary = here;
      end_boundary = IsCharBoundary-from_rest t start c.near_run_len.result here.0 (subst (λ x. IsCharBoundary x c.near_run_len.result) c.range_from.ensures.value near.boundary);
      bytes = ap (λ n. list_all is_plain_byte (take n (drop start t))) count ∙ subst (λ x. list_all is_plain_byte (take c.near_run_len.result x) ≡ true) c.range_from.ensures.value near.bytes;
    }

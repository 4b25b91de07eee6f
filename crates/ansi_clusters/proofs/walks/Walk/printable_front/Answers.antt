use Rattle.std.proofs.Common.{◌≡◌, ◌≤◌, true, length, take, drop, ◌∙◌, ap, subst, arith}
use Rattle.std.specs.List.{list_all}
use Rattle.ansi_search.proofs.SliceLemmas.{length-slice_range}
use Rattle.ansi_clusters.proofs.AsciiLemmas.{is_printable}
use Rattle.ansi_clusters.proofs.PrintableLemmas.{found-bytes, slice_range-take}
use Rattle.ansi_clusters.proofs.walks.Walk.printable_front.Goals as goal

pub returns : goal.returns
returns c =
    let a = c.args.self.offset in
    let b = c.args.self.run_end in
    let run = c.requires.1.run in
    let x = c.as_bytes.result.now in
    let end : b ≤ length x = omega (arith, run.end_boundary.0, ap length c.as_bytes.ensures.value) in
    let found = found-bytes x a b c.min.result c.printable_len.result (omega (arith, length-slice_range x a b run.ordered end)) end run.ordered c.printable_len.ensures in
    let all = subst (λ x. list_all is_printable (take c.printable_len.result (drop a x)) ≡ true) c.as_bytes.ensures.value found.2 in
    record {
      most = omega (arith, found.0);
      front = record { within = omega (arith, found.1, run.ordered); bytes = ap (list_all is_printable) (slice_range-take c.args.text.now a c.printable_len.result) ∙ all };
    }

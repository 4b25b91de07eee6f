use Rattle.std.proofs.Common.{◌≡◌, ◌+◌, ◌-◌, ◌++◌, length, slice_range, encode_utf8, sym, ◌∙◌, ap, subst, arith, length-append}
use Rattle.std.specs.Str.{IsCharBoundary}
use Rattle.unicode_segmentation.proofs.TextLemmas.{IsCharAt-first}
use Rattle.ansi_search.proofs.SliceLemmas.{length-slice_range}
use Rattle.ansi_clusters.proofs.from_end.split_first_char.Goals as goal

pub range_from-requires : goal.range_from-requires
range_from-requires c =
    let t = c.args.text.now in
    let start = c.first_run-start.result.0 in
    let end = c.first_run-start.result.1 in
    let run = c.first_run-start.ensures.run in
    let first = c.in-Some.first in
    let rest = c.next.new.self.rest.now in
    let bytes : slice_range t start end ≡ encode_utf8 first ++ rest = sym (c.chars.ensures.rest ∙ c.range.ensures.value) ∙ c.in-Some.ensures.steps.0 in
    let at = IsCharAt-first t c.utf8.text start end first rest run.ordered run.start_boundary run.end_boundary bytes in
    let size : end - length rest ≡ start + c.len_utf8.result
    = omega (arith, c.len_utf8.ensures.len, run.ordered, length-slice_range t start end run.ordered run.end_boundary.0, ap length bytes, length-append (encode_utf8 first) rest) in
    λ _. subst (IsCharBoundary t) size at.end_boundary

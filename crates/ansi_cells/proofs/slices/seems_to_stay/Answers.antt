use Rattle.std.proofs.Common.{arith}
use Rattle.std.proofs.lemmas.List.Sums.{prefix_len-le-length}
use Rattle.ansi_clusters.proofs.AsciiLemmas.{is_printable}
use Rattle.ansi_cells.proofs.slices.seems_to_stay.Goals as goal

pub slice_bounds-begins_staying-count : goal.slice_bounds-begins_staying-count
slice_bounds-begins_staying-count c = omega (arith, c.printable_len-front.ensures, prefix_len-le-length is_printable c.as_bytes-bytes.result.now)

pub slice_bounds-begins_staying-start : goal.slice_bounds-begins_staying-start
slice_bounds-begins_staying-start c = omega (arith, c.printable_len-front.ensures, prefix_len-le-length is_printable c.as_bytes-bytes.result.now)

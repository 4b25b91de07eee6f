use Rattle.std.proofs.Common.{◌≡◌, ◌-◌, ◌++◌, length, nat_le, string_bytes, ◌∙◌, ap, arith, length-append}
use Rattle.ansi_items.specs.Plain.{plain}
use Rattle.ansi_clusters.specs.Columns.{columns}
use Rattle.ansi_cells.specs.Sides.{beside_tail}
use Rattle.ansi_cells.specs.Slices.{slice_blanks, sliced_up_to}
use Rattle.ansi_cells.proofs.ShownLemmas.{length-either}
use Rattle.ansi_cells.proofs.SidesLemmas.{cut-written, front-blanks, back-blanks}
use Rattle.ansi_cells.proofs.sides.cut_before_end.Goals as goal

pub returns-clause-bytes : goal.returns-clause-bytes
returns-clause-bytes g c =
    let t = c.args.text.now in
    let between = c.fitting_tail-tail.ensures in
    let room : c.saturating_sub-room.result ≡ beside_tail c.args.to.now.width c.args.to.now.tail.now = omega (arith, c.saturating_sub-room.ensures, c.tail_width.ensures, ap (λ u. columns (plain u)) between) in
    let first = c.before_tail-first.result in
    let from : c.saturating_sub.result ≡ c.args.all - (c.saturating_sub-room.result - first) = c.saturating_sub.ensures in
    cut-written c.args.to.now.side t c.args.to.now.width c.args.to.now.tail.now between room c.before_tail-first.ensures.count c.requires
    (c.in_ok-push_slice-2.ensures.bytes
    ∙ ap (λ u. u ++ sliced_up_to t c.saturating_sub.result c.args.all) (c.in_ok-push_str.ensures.bytes ∙ ap (λ u. u ++ c.fitting_tail-tail.result.now) (c.in_ok-push_slice.ensures.bytes ∙ ap (λ u. u ++ sliced_up_to t 0 first) c.new-out.ensures.bytes))
    ∙ ap (λ n. (sliced_up_to t 0 first ++ c.fitting_tail-tail.result.now) ++ sliced_up_to t n c.args.all) from)

pub returns-clause-len : goal.returns-clause-len
returns-clause-len g c =
    let x = plain c.args.text.now in
    let tail = c.args.to.now.tail.now in
    omega (
      arith,
      c.in_ok-push_slice-2.ensures.len,
      ap length c.in_ok-push_str.ensures.bytes,
      length-append (string_bytes c.push_slice.new.out) c.fitting_tail-tail.result.now,
      c.in_ok-push_slice.ensures.len,
      ap length c.new-out.ensures.bytes,
      ap length c.fitting_tail-tail.ensures,
      length-either (nat_le (columns (plain tail)) c.args.to.now.width) tail,
      front-blanks x c.before_tail-first.result,
      ap (λ n. slice_blanks x n c.args.all) c.saturating_sub.ensures,
      back-blanks x (c.saturating_sub-room.result - c.before_tail-first.result) c.args.all c.requires,
      c.before_tail-first.ensures.within,
      c.saturating_sub-room.ensures,
    )

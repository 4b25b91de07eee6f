use Rattle.std.proofs.Common.{◌≡◌, ◌-◌, ◌≤◌, ◌∙◌, ap, arith, drop, take}
use Rattle.std.specs.List.{prefix_len}
use Rattle.ansi_safe.proofs.FrontLemmas.{prefix_len-take}
use Rattle.ansi_clusters.proofs.AsciiLemmas.{is_printable}
use Rattle.ansi_cells.proofs.plain_cells.printable_near.Goals as goal

pub returns : goal.returns
returns c =
    let start = c.args.start in
    let n = c.args.end - start in
    let m = c.min-near.result - start in
    let x = drop start c.args.text.now in
    let inside : n ≤ m = omega (arith, c.min-near.ensures, c.saturating_add.ensures, c.requires.within) in
    let front : c.printable_len.result ≡ prefix_len is_printable (take m x)
    = c.printable_len.ensures ∙ ap (λ bytes. prefix_len is_printable (take m (drop start bytes))) c.as_bytes.ensures.value in
    omega (arith, front, inside, prefix_len-take is_printable m x, prefix_len-take is_printable n x)

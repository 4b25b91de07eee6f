use Rattle.std.proofs.Common.{sym, ◌∙◌, ap, arith}
use Rattle.std.specs.List.{list_all}
use Rattle.ansi_clusters.proofs.AsciiLemmas.{is_printable}
use Rattle.ansi_clusters.proofs.PrintableLemmas.{printable-shorter, slice_range-take}
use Rattle.ansi_clusters.proofs.walks.Walk.before_ascii.Goals as goal

pub returns-else-len-run-clause-ahead : goal.returns-else-len-run-clause-ahead
returns-else-len-run-clause-ahead c some =
    let front = c.requires.front in
    let all = ap (list_all is_printable) (sym (slice_range-take c.args.text.now c.args.self.offset c.args.len)) ∙ front.bytes in
    printable-shorter c.args.len _ c.requires.walk.1 (omega (arith, front.within)) all (omega (arith, some))

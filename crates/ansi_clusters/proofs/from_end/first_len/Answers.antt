use Rattle.std.proofs.Common.{length, subst, ap, arith}
use Rattle.ansi_items.specs.Scans.{Scan, GivesItem, piece_of, pieces_left}
use Rattle.ansi_search.proofs.SliceLemmas.{length-slice_range}
use Rattle.ansi_clusters.proofs.from_end.first_len.Goals as goal

pub returns-in-Some-clause-first : goal.returns-in-Some-clause-first
returns-in-Some-clause-first c =
    let t = c.args.text.now in
    let item = c.in-Some.item in
    let gives = subst (λ (s : Scan). GivesItem s item c.next.new.self) c.new.ensures.start c.in-Some.ensures.steps in
    let size = length-slice_range t item.start item.end (omega (arith, gives.forward)) gives.end_boundary.0 in
    (piece_of t item, pieces_left c.next.new.self, gives.piece, omega (arith, gives.start, size, ap length gives.bytes))

pub returns-in-Some-clause-some : goal.returns-in-Some-clause-some
returns-in-Some-clause-some c = omega (arith, c.in-Some.ensures.steps.forward)

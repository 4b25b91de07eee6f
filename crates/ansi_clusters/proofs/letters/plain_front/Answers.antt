use Rattle.std.proofs.Common.{◌^◌, ◌<◌, length, subst, arith, rules}
use Rattle.ansi_clusters.specs.Letters.{IsPlainFront}
use Rattle.ansi_clusters.proofs.LetterLemmas.{front-bound, front-more, front-none}
use Rattle.ansi_clusters.proofs.letters.plain_front.Goals as goal

pub parts-init : goal.parts-init
parts-init c = front-none c.args.run.now c.utf8.run

pub parts-preserved : goal.parts-preserved
parts-preserved c = front-more c.args.run.now c.utf8.run c.parts.invariant (subst (λ rest. IsPlainFront rest c.plain_part-len.result.0 c.plain_part-len.result.1) c.range_from.ensures.value c.plain_part-len.ensures)

pub overflow_add-columns : goal.overflow_add-columns
overflow_add-columns c =
    let t = c.args.run.now in
    let size : length t < 2 ^ 63 = search rules in
    let later = parts-preserved c in
    omega (arith, size, front-bound t c.utf8.run later, later.boundary.0)

use Rattle.std.proofs.Common.{arith}
use Rattle.std.proofs.lemmas.List.{take_rest}
use Rattle.ansi_clusters.specs.Letters.{is_first_byte}
use Rattle.ansi_clusters.proofs.LetterLemmas.{count-parts}
use Rattle.ansi_clusters.proofs.letters.letter_count.Goals as goal

pub loop-at-preserved : goal.loop-at-preserved
loop-at-preserved c =
    let inv = c.loop-at.invariant in
    let here = rw take_rest at c.firsts_of_16-count.ensures.count in
    record {
      within = omega (arith, inv.within, c.loop-at-test.true);
      sum = omega (arith, inv.sum, here, count-parts is_first_byte 16 c.loop-at.at c.as_bytes-bytes.result.now);
      most = omega (arith, inv.most, c.firsts_of_16-count.ensures.most);
    }

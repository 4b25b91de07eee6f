use Rattle.std.proofs.Common.{arith}
use Rattle.std.proofs.lemmas.List.{take_rest}
use Rattle.std.proofs.lemmas.List.Sums.{prefix_len-le-length}
use Rattle.ansi_safe.proofs.FrontLemmas.{ends-in_block, has-block}
use Rattle.ansi_clusters.specs.Letters.{is_letter_byte}
use Rattle.ansi_clusters.proofs.letters.letters_len.Goals as goal

-- a byte of this block isn't one of a letter
pub returns-then-front-lt16 : goal.returns-then-front-lt16
returns-then-front-lt16 c =
    let is = rw take_rest at c.letters_len_of_16-front.ensures in
    ends-in_block is_letter_byte 16 c.args.bytes.now c.min-start.result _ (omega arith) (omega (arith, c.loop-at.invariant)) is c.if-front-lt16.true

pub loop-at-preserved : goal.loop-at-preserved
loop-at-preserved c =
    let is = rw take_rest at c.letters_len_of_16-front.ensures in
    has-block is_letter_byte 16 c.args.bytes.now c.min-start.result _ (omega arith) (omega (arith, c.loop-at.invariant)) is c.if-front-lt16.false

pub returns : goal.returns
returns c = omega (arith, c.loop-at.invariant, prefix_len-le-length is_letter_byte c.args.bytes.now)

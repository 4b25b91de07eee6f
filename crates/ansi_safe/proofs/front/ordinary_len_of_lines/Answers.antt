use Rattle.std.proofs.Common.{true, sym, arith}
use Rattle.std.proofs.lemmas.List.{take_rest}
use Rattle.std.proofs.lemmas.List.Sums.{prefix_len-le-length}
use Rattle.ansi_safe.specs.Safe.{is_ordinary_byte}
use Rattle.ansi_safe.proofs.FrontLemmas.{ends-in_block, has-block}
use Rattle.ansi_safe.proofs.front.ordinary_len_of_lines.Goals as goal

-- a byte of the first 16 isn't ordinary
pub returns-then-front-lt16 : goal.returns-then-front-lt16
returns-then-front-lt16 c =
    let is = ends-in_block (is_ordinary_byte true) 16 c.args.bytes.now 0 _ (omega arith) (omega arith) c.front_len_of_16-front.ensures c.if-front-lt16.true in
    omega (arith, is)

pub loop-known-init : goal.loop-known-init
loop-known-init c = has-block (is_ordinary_byte true) 16 c.args.bytes.now 0 _ (omega arith) (omega arith) c.front_len_of_16-front.ensures c.if-front-lt16.false

pub overflow_sub-bytes : goal.overflow_sub-bytes
overflow_sub-bytes c = omega (arith, c.loop-known.invariant, prefix_len-le-length (is_ordinary_byte true) c.args.bytes.now)

-- all 64 bytes are ordinary
pub loop-known-preserved : goal.loop-known-preserved
loop-known-preserved c =
    let all = rw take_rest at (c.are_lines.ensures c.if-are_lines.true) in
    has-block (is_ordinary_byte true) 64 c.args.bytes.now c.loop-known.known 64 (omega arith) (omega (arith, c.loop-known.invariant)) (sym all) (omega arith)

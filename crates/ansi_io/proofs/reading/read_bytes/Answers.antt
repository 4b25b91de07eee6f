use Rattle.std.proofs.Common.{◌∙◌, arith, inl, inr}
use Rattle.ansi_io.proofs.Known.{all_read}
use Rattle.ansi_io.proofs.reading.read_bytes.Goals as goal

-- at the end no byte is left, and the bytes read are at most the limit
pub returns-in_default-clause-read : goal.returns-in_default-clause-read
returns-in_default-clause-read g c = (
  all_read _ _ _ c.loop-turn.invariant.taken (rw c.in_default.is at c.in_ok-count.ensures.end),
  omega arith,
  c.in_ok-count.ensures.unfailed ∙ c.loop-turn.invariant.unfailed,
)

-- each turn makes one read
pub returns-in_err-count-clause-most_reads : goal.returns-in_err-count-clause-most_reads
returns-in_err-count-clause-most_reads g c = omega arith

pub returns-in_default-clause-most_reads : goal.returns-in_default-clause-most_reads
returns-in_default-clause-most_reads g c = omega arith

pub returns-in_err-extend_from_slice-clause-most_reads : goal.returns-in_err-extend_from_slice-clause-most_reads
returns-in_err-extend_from_slice-clause-most_reads g c = omega arith

pub returns-then-len-gt-MAX_BYTES-clause-most_reads : goal.returns-then-len-gt-MAX_BYTES-clause-most_reads
returns-then-len-gt-MAX_BYTES-clause-most_reads g c = omega arith

pub returns-clause-most_reads : goal.returns-clause-most_reads
returns-clause-most_reads g c = omega arith

-- the most turns were made, so one read was interrupted
pub returns-clause-stopped : goal.returns-clause-stopped
returns-clause-stopped g c = inr (inr (record {
  was_interrupted = elim c.loop-turn.invariant.turns [ inl all ↦ absurd (omega arith) | inr was ↦ was ];
  most_reads = omega arith;
}))

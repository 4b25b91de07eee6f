use Rattle.std.proofs.Common.{◌+◌, ◌≤◌, length}
use Rattle.std.specs.List.{sum_by}
use Rattle.ansi_str.specs.Splits.{CarriedPart}
use Rattle.ansi_str.specs.Written.{longest_start_and_close}
use Rattle.ansi_tests.proofs.callers.buffers.show_parts.Given as goal

-- the parts that are left have no more bytes of the text than it has, and the buffer stays as long
abbrev pub invariant-loop-part : goal.invariant-loop-part
invariant-loop-part l = record {
  within : sum_by (λ (p : CarriedPart). p.source_len) l.part-iterator ≤ length l.fn.text;
  room : length l.fn.text + longest_start_and_close ≤ length l.buffer;
  short : l.longest ≤ length l.fn.text + longest_start_and_close;
}

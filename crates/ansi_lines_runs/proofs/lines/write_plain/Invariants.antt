use Rattle.std.proofs.Common.{◌≡◌}
use Rattle.std.specs.Io.KnownBytes.{append_known}
use Rattle.ansi_str.specs.Plain.{plain, plain_of}
use Rattle.ansi_str.specs.Scans.{pieces_left}
use Rattle.ansi_lines_runs.proofs.lines.write_plain.Given as goal

-- the bytes written so far, and then the plain text of the rest, are the plain text of all
abbrev pub invariant-loop-item : goal.invariant-loop-item
invariant-loop-item g l =
    let sink = g.W.Sink in
    record {
      text : l.item-iterator.text ≡ l.line;
      written : append_known (sink.taken l.output) (plain_of (pieces_left l.item-iterator)) ≡ append_known (sink.taken l.fn.output) (plain l.line);
      flushes : sink.flushes l.output ≡ sink.flushes l.fn.output;
      unfailed : sink.failed l.output ≡ sink.failed l.fn.output;
    }

use Rattle.std.proofs.Common.{◌≡◌, ◌≤◌, ◌+◌, length, string_bytes}
use Rattle.ansi_io.specs.Devices.{count_after}
use Rattle.ansi_view_runs.specs.SafeJobs.{work_of}
use Rattle.ansi_view_runs.specs.Lines.{max_piece, HasNoLineFeed}
use Rattle.ansi_view_runs.specs.Runs.{HasViewed, KeepsFlags}
use Rattle.ansi_view_runs.specs.declared.runs.TheConstants.{ROOM}
use Rattle.ansi_view_runs.proofs.runs.view_all.Given as goal

-- what the bytes read so far decide is written, and the rest is held
abbrev pub invariant-loop-turn : goal.invariant-loop-turn
invariant-loop-turn g l =
    let source = g.S.Source in
    let sink = g.W.Sink in
    record {
      viewed : HasViewed (work_of l.job) (string_bytes l.held.opening) l.held.rest.items (source.left l.fn.input) (source.left l.input) (sink.taken l.fn.output) (sink.taken l.output);
      no_line_feed : HasNoLineFeed l.held.rest.items;
      fits : length l.held.rest.items ≤ max_piece;
      unfailed : source.failed l.input ≡ source.failed l.fn.input;
      flags : KeepsFlags (sink.failed l.fn.output) (sink.failed l.output) (sink.closed l.fn.output) (sink.closed l.output);
      reads : count_after (source.reads l.fn.input) l._turn ≤ source.reads l.input;
      flushes : sink.flushes l.output ≤ sink.flushes l.fn.output + l._turn;
      room : length l.room ≡ ROOM;
    }

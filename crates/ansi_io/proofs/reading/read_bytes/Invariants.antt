use Rattle.std.proofs.Common.{◌≡◌, ◌≤◌, ◌+◌, ◌⊎◌, true, length}
use Rattle.std.specs.Io.KnownBytes.{prepend_known}
use Rattle.ansi_io.specs.Devices.{count_after}
use Rattle.ansi_io.specs.declared.reading.TheConstants.{MAX_BYTES, ROOM}
use Rattle.ansi_io.proofs.reading.read_bytes.Given as goal

-- the bytes read come before the bytes left; each turn read a byte, or some read was interrupted
abbrev pub invariant-loop-turn : goal.invariant-loop-turn
invariant-loop-turn g l =
    let source = g.S.Source in
    record {
      taken : source.left l.fn.input ≡ prepend_known l.read.items (source.left l.input);
      short : length l.read.items ≤ MAX_BYTES;
      unfailed : source.failed l.input ≡ source.failed l.fn.input;
      turns : (l._turn ≤ length l.read.items) ⊎ (source.interrupted l.input ≡ true);
      reads_below : source.reads l.input ≤ source.reads l.fn.input + l._turn;
      reads_above : count_after (source.reads l.fn.input) l._turn ≤ source.reads l.input;
      room : length l.room ≡ ROOM;
    }

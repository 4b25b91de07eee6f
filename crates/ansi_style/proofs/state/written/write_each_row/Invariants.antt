use Rattle.std.specs.Fmt.{WritesInCalls}
use Rattle.ansi_style.proofs.Common.{[], flat_map, take, if◌then◌else◌, has_one}
use Rattle.ansi_style.specs.Writing.{Keeps}
use Rattle.ansi_style.proofs.state.written.write_each_row.Given as goal

-- the rows so far are written
abbrev pub invariant-loop-attributes : goal.invariant-loop-attributes
invariant-loop-attributes g l = record {
  wrote : WritesInCalls g.W.Sink.took l.initial.out (flat_map (λ row. if has_one l.set.0 row.0.0 then row.1.now else []) (take l.attributes-index l.rows)) l.out;
  kept : Keeps g.W.Sink.begins l.initial.out l.out;
}

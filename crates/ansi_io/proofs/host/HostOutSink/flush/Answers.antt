use Rattle.std.proofs.Common.{ap, ◌∙◌}
use Rattle.ansi_io.specs.Hosts.{writer_of}
use Rattle.ansi_io.proofs.Known.{keeps-alike, on_ok-known}
use Rattle.ansi_io.proofs.host.HostOutSink.flush.Goals as goal

-- the writer keeps what it has taken
pub returns-clause-taken : goal.returns-clause-taken
returns-clause-taken g c = on_ok-known _ (ap (λ device. g.W.Write.contents (writer_of device)) c.report.ensures.device
    ∙ keeps-alike _ _ (g.met.W.SteadyWrite.tell_alike _ _) c.flush-flushed.ensures.bytes)

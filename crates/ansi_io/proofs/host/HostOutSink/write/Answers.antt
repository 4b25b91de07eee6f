use Rattle.std.proofs.Common.{ap, ◌∙◌}
use Rattle.ansi_io.specs.Hosts.{writer_of}
use Rattle.ansi_io.proofs.Known.{appends-alike, on_ok-reported}
use Rattle.ansi_io.proofs.host.HostOutSink.write.Goals as goal

-- the writer has taken all of the bytes
pub returns-clause-taken : goal.returns-clause-taken
returns-clause-taken g c = on_ok-reported (λ grew. ap (λ device. g.W.Write.contents (writer_of device)) c.report.ensures.device
    ∙ appends-alike _ _ c.args.bytes.now (g.met.W.SteadyWrite.tell_alike _ _) grew) _ c.report.ensures.result c.write_all-written.ensures.bytes

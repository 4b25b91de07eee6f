use Rattle.std.proofs.lemmas.Str.{IsUtf8-from_ascii}
use Rattle.ansi_style.proofs.WritingLemmas.{wrote_if_took}
use Rattle.ansi_style.proofs.state.written.write_ascii.Goals as goal

pub from_utf8_unchecked-requires : goal.from_utf8_unchecked-requires
from_utf8_unchecked-requires g c = IsUtf8-from_ascii c.args.bytes.now c.requires

pub returns-clause-wrote : goal.returns-clause-wrote
returns-clause-wrote g c = wrote_if_took g.W.Sink.took _ _ _ c.write.result (rw c.from_utf8_unchecked.ensures at c.write.ensures.took)

use Rattle.ansi_style.proofs.WritingLemmas.{counted, holds_if_written}
use Rattle.ansi_style.proofs.styles.ByteCount.add_start.Goals as goal

-- each write is counted
pub returns : goal.returns
returns c = holds_if_written c.write_start.result _ c.or.result _ c.or.ensures (λ ok. counted _ _ _ (c.write_start.ensures.wrote ok))

use Rattle.std.proofs.Common.{inl}
use Rattle.ansi_calls.proofs.columns.truncate.Goals as goal

-- both texts are UTF-8
pub returns : goal.returns
returns g c = inl (c.in-Ok.ensures.1, inl (c.in-Ok-tail_of.ensures.1, rw c.in-Ok.ensures.0 at (rw c.in-Ok-tail_of.ensures.0 at c.truncate_text.ensures)))

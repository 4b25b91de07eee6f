use Rattle.std.proofs.Common.{rules}
use Rattle.ansi_safe.proofs.links.link_after.Goals as goal

-- an empty address ends the link
pub returns-in-Some : goal.returns-in-Some
returns-in-Some c = search rules

use Rattle.std.proofs.Common.{rules}
use Rattle.ansi_io.proofs.devices.ReadFaultFromErrorKind.from.Goals as goal

-- an error of any other kind is a failure
pub returns-in_default : goal.returns-in_default
returns-in_default c = search rules

use Rattle.std.proofs.Common.{rules}
use Rattle.ansi_style.proofs.style.color.color_of_code.Goals as goal

-- these codes are in the table
pub returns-in-35 : goal.returns-in-35
returns-in-35 c = search rules

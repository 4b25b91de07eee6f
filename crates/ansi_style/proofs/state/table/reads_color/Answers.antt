use Rattle.ansi_style.proofs.Common.{arith, nat_tests}
use Rattle.ansi_style.proofs.CodeLemmas.{perform-changed}
use Rattle.ansi_style.proofs.state.table.reads_color.Goals as goal

pub returns-in_default-clause-leaves : goal.returns-in_default-clause-leaves
returns-in_default-clause-leaves c = λ no s fields. perform-changed c.args.code s fields (omega arith) (λ is. grind (arith, nat_tests, is))

use Rattle.ansi_slice.proofs.Common.{sym, ◌∙◌, arith, plain-bare}
use Rattle.std.proofs.lemmas.Grind.{common_steps}
use Rattle.ansi_slice.proofs.slice.strip_in.Goals as goal

-- a text without ESC is its own plain text

pub returns-then-not-has_any-clause-bytes : goal.returns-then-not-has_any-clause-bytes
returns-then-not-has_any-clause-bytes g c = sym (plain-bare c.args.text.now (sym c.has_any.ensures ∙ c.if-not-has_any.true))

-- what is pushed is the plain text
pub returns-clause-bytes : goal.returns-clause-bytes
returns-clause-bytes g c = grind (arith, common_steps)

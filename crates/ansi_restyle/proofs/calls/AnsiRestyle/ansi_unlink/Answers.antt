use Rattle.std.proofs.Common.{subst, IfOk, IsTrue}
use Rattle.std.specs.Cow.{cow_str_bytes}
use Rattle.ansi_safe.specs.declared.policy.Links.{Links}
use Rattle.ansi_safe.specs.Safe.{is_safe}
use Rattle.ansi_restyle.proofs.calls.AnsiRestyle.ansi_unlink.Goals as goal

pub returns-clause-safe : goal.returns-clause-safe
returns-clause-safe g c = subst (λ t. (links other : Links) → IsTrue (is_safe links t) → IfOk c.unlink_in.result (λ u. IsTrue (is_safe other (cow_str_bytes u)))) c.as_text.ensures c.unlink_in.ensures.safe

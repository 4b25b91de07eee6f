use Rattle.std.proofs.Common.{◌&&◌, subst, IfOk, IfSome, IsTrue, IsFalse}
use Rattle.std.specs.Cow.{cow_str_bytes}
use Rattle.ansi_items.specs.Plain.{plain}
use Rattle.ansi_safe.specs.declared.policy.Links.{Links}
use Rattle.ansi_safe.specs.Safe.{is_safe}
use Rattle.ansi_restyle.specs.Ranges.{parts_line_end}
use Rattle.ansi_restyle.proofs.calls.AnsiRestyle.ansi_insert.Goals as goal

pub returns-clause-safe : goal.returns-clause-safe
returns-clause-safe g c = subst (λ t. (links : Links) → IsTrue (is_safe links t && is_safe links c.args.with.now) → IsFalse (parts_line_end (plain t) c.args.position)
    → IfOk c.insert_in.result (λ o. IfSome o (λ u. IsTrue (is_safe links (cow_str_bytes u))))) c.as_text.ensures c.insert_in.ensures.safe

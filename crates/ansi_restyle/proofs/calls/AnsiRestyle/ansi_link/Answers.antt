use Rattle.std.proofs.Common.{[], ◌∷◌, subst, IfOk, IfSome, IsTrue}
use Rattle.std.specs.Cow.{cow_str_bytes}
use Rattle.ansi_items.specs.Plain.{plain}
use Rattle.ansi_safe.specs.declared.policy.Links.{Links}
use Rattle.ansi_safe.specs.declared.policy.Links.TheVariants.{Keep}
use Rattle.ansi_safe.specs.Safe.{is_safe}
use Rattle.ansi_restyle.specs.Ranges.{keep_line_ends}
use Rattle.ansi_restyle.proofs.calls.AnsiRestyle.ansi_link.Goals as goal

pub returns-clause-safe : goal.returns-clause-safe
returns-clause-safe g c = subst (λ t. (links : Links) → IsTrue (is_safe links t) → IsTrue (keep_line_ends (plain t) (c.args.range ∷ []))
    → IfOk c.link_in.result (λ o. IfSome o (λ u. IsTrue (is_safe Keep (cow_str_bytes u))))) c.as_text.ensures c.link_in.ensures.safe

use Rattle.std.proofs.Common.{◌+◌, ◌-◌, ◌≤◌, ◌&&◌, length, subst, IfOk, IfSome, IsTrue}
use Rattle.std.specs.Prelude.{sum_by}
use Rattle.std.specs.Cow.{cow_str_bytes}
use Rattle.ansi_items.specs.Plain.{plain}
use Rattle.ansi_safe.specs.declared.policy.Links.{Links}
use Rattle.ansi_safe.specs.Links.{link_at}
use Rattle.ansi_safe.specs.Safe.{is_safe}
use Rattle.ansi_restyle.specs.Ranges.{begin_outside_line_ends}
use Rattle.ansi_restyle.specs.ReplacedEach.{Swap, swaps_of, ranges_of, are_safe}
use Rattle.ansi_restyle.proofs.calls.AnsiRestyle.ansi_replace_each.Goals as goal

pub returns-clause-len : goal.returns-clause-len
returns-clause-len g c = subst (λ t. IfOk c.replace_each_in.result (λ o. IfSome o (λ u. length (cow_str_bytes u) ≤ length t + sum_by (λ (e : Swap). length e.text + length (link_at t (e.range.0 - 1)) + 258) (swaps_of c.args.edits.now))))
    c.as_text.ensures c.replace_each_in.ensures.len

pub returns-clause-safe : goal.returns-clause-safe
returns-clause-safe g c = subst (λ t. (links : Links) → IsTrue (is_safe links t && are_safe links (swaps_of c.args.edits.now)) → IsTrue (begin_outside_line_ends (plain t) (ranges_of (swaps_of c.args.edits.now)))
    → IfOk c.replace_each_in.result (λ o. IfSome o (λ u. IsTrue (is_safe links (cow_str_bytes u))))) c.as_text.ensures c.replace_each_in.ensures.safe

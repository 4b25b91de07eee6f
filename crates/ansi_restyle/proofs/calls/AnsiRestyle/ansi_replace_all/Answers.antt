use Rattle.std.proofs.Common.{ℕ, ◌+◌, ◌-◌, ◌≤◌, ◌&&◌, length, subst, IfOk, IsTrue}
use Rattle.std.specs.Prelude.{sum_by}
use Rattle.std.specs.Cow.{cow_str_bytes}
use Rattle.ansi_items.specs.Plain.{plain}
use Rattle.ansi_safe.specs.declared.policy.Links.{Links}
use Rattle.ansi_safe.specs.Links.{link_at}
use Rattle.ansi_safe.specs.Safe.{is_safe}
use Rattle.ansi_restyle.specs.Matches.{matches}
use Rattle.ansi_restyle.specs.Ranges.{begin_outside_line_ends}
use Rattle.ansi_restyle.proofs.calls.AnsiRestyle.ansi_replace_all.Goals as goal

pub returns-clause-len : goal.returns-clause-len
returns-clause-len g c = subst (λ t. IfOk c.replace_all_in.result (λ u. length (cow_str_bytes u) ≤ length t + sum_by (λ (r : ℕ × ℕ). length c.args.with.now + length (link_at t (r.0 - 1)) + 258) (matches (plain t) c.args.pat.now)))
    c.as_text.ensures c.replace_all_in.ensures.len

pub returns-clause-safe : goal.returns-clause-safe
returns-clause-safe g c = subst (λ t. (links : Links) → IsTrue (is_safe links t && is_safe links c.args.with.now) → IsTrue (begin_outside_line_ends (plain t) (matches (plain t) c.args.pat.now))
    → IfOk c.replace_all_in.result (λ u. IsTrue (is_safe links (cow_str_bytes u)))) c.as_text.ensures c.replace_all_in.ensures.safe

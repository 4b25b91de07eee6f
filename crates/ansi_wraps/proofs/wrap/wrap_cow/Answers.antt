use Rattle.std.proofs.Common.{◌≡◌, sym, ◌∙◌, subst}
use Rattle.std.specs.Cow.{cow_str_bytes}
use Rattle.ansi_cells.specs.Wrapped.{lent_lines, wrapped}
use Rattle.ansi_wraps.specs.WrapStates.{lends}
use Rattle.ansi_wraps.proofs.LentLemmas.{lent-true}
use Rattle.ansi_wraps.proofs.wrap.wrap_cow.Goals as goal

pub returns-in-Borrowed-clause-lines : goal.returns-in-Borrowed-clause-lines
returns-in-Borrowed-clause-lines g c =
    subst (λ t. c.wrap.result ≡ lent_lines (lends t) (wrapped (cow_str_bytes t) c.args.width)) (sym c.in-Borrowed.is)
    (c.wrap.ensures.lines ∙ sym (lent-true (wrapped c.in-Borrowed.text.now c.args.width)))

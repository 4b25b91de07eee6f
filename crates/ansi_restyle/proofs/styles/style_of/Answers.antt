use Rattle.std.proofs.Common.{sym, ◌∙◌, subst, IsTrue}
use Rattle.ansi_items.specs.Sequences.{is_sgr}
use Rattle.ansi_restyle.proofs.OtherLemmas.{change_is_sgr}
use Rattle.ansi_restyle.proofs.styles.style_of.Goals as goal

-- what is written for a change is an SGR

pub apply-requires : goal.apply-requires
apply-requires g c =
    subst (λ u. IsTrue (is_sgr u)) (sym (c.as_str.ensures.value ∙ c.in_ok-sequence.ensures)) (change_is_sgr c.args.codes.now (sym c.is_change.ensures ∙ c.if-not-is_change.false))

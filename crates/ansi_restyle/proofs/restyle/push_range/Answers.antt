use Rattle.std.proofs.Common.{sym, subst, IsTrue}
use Rattle.ansi_items.specs.Plain.{plain}
use Rattle.ansi_search.specs.Positions.{no_character_goes_on}
use Rattle.ansi_restyle.specs.Rests.{IsDivided}
use Rattle.ansi_restyle.proofs.MatchLemmas.{some_if_good}
use Rattle.ansi_restyle.proofs.restyle.push_range.Goals as goal

pub unwrap-at_start-requires : goal.unwrap-at_start-requires
unwrap-at_start-requires g c = some_if_good c.split_at.result _ _ c.split_at.ensures.divided c.requires.start

pub unwrap-at_end-requires : goal.unwrap-at_end-requires
unwrap-at_end-requires g c =
    let at_start = c.unwrap-at_start.result in
    let divided : IsDivided c.args.left.now.text.now c.args.start at_start.front.now at_start.rest.text.now = rw c.unwrap-at_start.ensures at c.split_at.ensures.divided in
    some_if_good c.split_at-2.result _ _ c.split_at-2.ensures.divided
    (subst (λ t. IsTrue (no_character_goes_on (plain t) c.args.len)) (sym divided.rest_is) c.requires.end)

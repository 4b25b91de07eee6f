use Rattle.std.proofs.Common.{◌-◌, ap, ◌∙◌}
use Rattle.ansi_items.specs.Plain.{plain}
use Rattle.ansi_search.specs.Positions.{no_character_goes_on}
use Rattle.ansi_restyle.proofs.ReplacedEachLemmas.{good_before, left_at_place}
use Rattle.ansi_restyle.proofs.replace_each.Replacing.put.Goals as goal

pub push_without_front-requires : goal.push_without_front-requires
push_without_front-requires g c =
    let s = c.args.self.now in
    ap (λ u. no_character_goes_on (plain u) s.len) c.split_at_place.ensures.front ∙ good_before s.rest.text.now s.len (c.args.range.0 - s.place) c.requires.good c.requires.len

pub returns-clause-left : goal.returns-clause-left
returns-clause-left g c =
    let s = c.args.self.now in
    ap plain c.split_at_place.ensures.rest ∙ left_at_place s.rest.text.now (c.args.range.0 - s.place) c.requires.good

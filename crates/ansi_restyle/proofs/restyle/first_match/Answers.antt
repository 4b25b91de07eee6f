use Rattle.std.proofs.Common.{sym}
use Rattle.ansi_items.specs.Plain.{plain}
use Rattle.ansi_restyle.proofs.MatchLemmas.{match_begins_good, some_if_good}
use Rattle.ansi_restyle.proofs.restyle.first_match.Goals as goal

-- the search finds none
pub returns-in_err-place : goal.returns-in_err-place
returns-in_err-place c = rw c.from_residual.ensures (sym c.in_err-place.ensures)

-- a match begins at a good position
pub unwrap-at-requires : goal.unwrap-at-requires
unwrap-at-requires c =
    some_if_good c.split_at.result _ _ c.split_at.ensures.divided (rw c.new.ensures (match_begins_good (plain c.args.text.now) c.args.pat.now 0 c.in_ok-place.place (sym c.in_ok-place.ensures)))

use Rattle.ansi_search.proofs.search.matches.find_several.Goals as goal

-- the finder looks for the pattern
pub returns-in_default : goal.returns-in_default
returns-in_default c = rw c.new-finder.ensures at c.find-found.ensures

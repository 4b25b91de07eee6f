use Rattle.std.proofs.Common.{◌≡◌, ◌≤◌, ◌++◌, ℕ, List, length, drop, map}
use Rattle.ansi_items.specs.Plain.{plain}
use Rattle.ansi_restyle.specs.Matches.{matches}
use Rattle.ansi_text_calls.specs.Restyles.{range_entry}
use Rattle.ansi_text_calls.proofs.restyles.copy_matches.Given as goal

-- the matches so far are counted, and written if there is room for them, and those that are left make up all matches with them
abbrev pub invariant-loop-range : goal.invariant-loop-range
invariant-loop-range l = record {
  can : (goal.iterator-loop-range).can_next l.range-iterator;
  finite : (goal.iterator-loop-range).is_finite l.range-iterator;
  copied : (done : List (ℕ × ℕ)) × (done ++ l.range-iterator ≡ matches (plain l.text) l.pat) × (l.count ≡ length done)
      × (length done ≤ length l.fn.entries → l.entries ≡ map range_entry done ++ drop (length (map range_entry done)) l.fn.entries);
}

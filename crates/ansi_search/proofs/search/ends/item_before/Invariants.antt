use Rattle.ansi_search.proofs.Common.{◌≤◌}
use Rattle.ansi_search.proofs.search.ends.item_before.Given as goal

-- the bytes that aren't read yet are among the first `end`
abbrev pub invariant-loop-escape : goal.invariant-loop-escape
invariant-loop-escape l = l.unread ≤ l.end

abbrev pub decreases-loop-escape : goal.decreases-loop-escape
decreases-loop-escape l = l.unread

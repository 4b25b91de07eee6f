use Rattle.ansi_search.proofs.Common.{◌≤◌, ◌+◌, ◌-◌, length, ◌*◌, IsWindow, LacksRareByte}
use Rattle.ansi_search.proofs.search.two_way.Pattern.read.Given as goal

-- the search has come up to the window
abbrev pub invariant-loop-window : goal.invariant-loop-window
invariant-loop-window l = record {
  comes : IsWindow l.text l.self.bytes.now l.self.cut.at l.initial.window.position l.window;
  place : l.here.position ≤ l.window.position + l.window.met;
  ahead : LacksRareByte l.text l.self.bytes.now l.self.rare l.here l.window;
}

-- one more place of the run is read, or the window moves on
abbrev pub decreases-loop-window : goal.decreases-loop-window
decreases-loop-window l = 2 * l.end + length l.self.bytes.now - (l.window.position + (l.window.position + l.window.met))

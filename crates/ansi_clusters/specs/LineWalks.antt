-- What is left of the lines of a wrapped text, as plain data.
use Rattle.std.specs.Prelude.{ℕ, List, Option, None, Some, IfSome, IsUtf8, if◌then◌else◌}
use Rattle.ucd_breaks.specs.GraphemeClusterBreak.{grapheme_cluster_break_from_number}
use Rattle.ansi_clusters.specs.declared.break_state.BreakState.{BreakState}
use Rattle.ansi_clusters.specs.declared.line_walks.BreakNumbers.{BreakNumbers}
use Rattle.ansi_clusters.specs.declared.line_walks.LineWalk.{LineWalk}
use Rattle.ansi_clusters.specs.declared.walks.Walk.{Walk}
use Rattle.ansi_clusters.specs.declared.views.View.TheVariants.{Lined}
use Rattle.ansi_clusters.specs.Lines.{seen_lines_left}
use Rattle.ansi_clusters.specs.Walks.{IsTightWalk}

-- the state that the numbers encode
abbrev pub break_state_of_numbers : BreakNumbers → BreakState
break_state_of_numbers n = record {
  last = grapheme_cluster_break_from_number n.last;
  is_linked = n.is_linked;
  is_pictograph = n.is_pictograph;
  is_joined = n.is_joined;
  is_half_flag = n.is_half_flag;
}

-- the place where the next line begins, if there is one
abbrev pub walk_of : LineWalk → Option Walk
walk_of w = if w.has_next then Some (record { position = w.position; offset = w.offset; run_end = w.run_end; break_state = break_state_of_numbers w.break_state }) else None

-- the lines that a walk has left
abbrev pub lines_of_walk : LineWalk → List (ℕ × ℕ)
lines_of_walk w = seen_lines_left Lined w.text.now w.width (walk_of w)

-- a walk as the library leaves it: its bytes are a text, and the next line begins at a place of a walk over that
pub record IsLineWalk (w : LineWalk) : Type 0 where
  pub text : IsUtf8 w.text.now
  pub next : IfSome (walk_of w) (IsTightWalk Lined w.text.now)

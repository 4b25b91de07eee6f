-- The parts that a cursor has left.
use Rattle.std.specs.Prelude.{ℕ, List, [], if◌then◌else◌}
use Rattle.ansi_style.specs.declared.state.rendition.Rendition.{Rendition}
use Rattle.ansi_split.specs.Splits.{CarriedPart}
use Rattle.ansi_split.specs.Spans.{parts_left}
use Rattle.ansi_split.specs.declared.split.cursors.Cursor.{Cursor}

-- the parts between the matches of p, with the style c before them
abbrev pub parts_at : Rendition → Cursor → List ℕ → List CarriedPart
parts_at c at p = if at.finished then [] else parts_left c at.rest.text.now p at.skip at.from

-- What is left of a text that is split, as plain data.
use Rattle.std.specs.Prelude.{◌≡◌, ◌≤◌, ℕ, List, [], take, Option, IsTrue, IsFalse, IsUtf8, if◌then◌else◌}
use Rattle.std.specs.Option.{option_map}
use Rattle.std.specs.Str.{IsCharBoundary}
use Rattle.ansi_items.specs.Plain.{plain, has_escape}
use Rattle.ansi_search.specs.Positions.{is_char_boundary}
use Rattle.ansi_search.specs.Matches.{first_match_from}
use Rattle.ansi_style.specs.declared.state.rendition.Rendition.{Rendition}
use Rattle.ansi_style.specs.Rendition.{has_any}
use Rattle.ansi_style.specs.States.{rendition_of, rendition_of_numbers}
use Rattle.ansi_split.specs.Splits.{CarriedPart}
use Rattle.ansi_split.specs.Spans.{parts_left}
use Rattle.ansi_split.specs.Cursors.{parts_at}
use Rattle.ansi_split.specs.declared.walks.Around.{Around}
use Rattle.ansi_split.specs.declared.walks.PartWalk.{PartWalk}
use Rattle.ansi_split.specs.declared.walks.AfterRun.{AfterRun}

-- the styles before and after a stretch, if it has any
abbrev pub renditions_around : Option Around → Option (Rendition × Rendition)
renditions_around around = option_map (λ (a : Around). (rendition_of a.before, rendition_of a.after)) around

-- the parts that a walk has left
abbrev pub parts_of_walk : PartWalk → List CarriedPart
parts_of_walk w = if w.finished then [] else parts_left (rendition_of_numbers w.carried) w.rest.now w.pattern.now w.skip w.from

-- the parts that it has left after a part that ends in its plain run
abbrev pub parts_after : PartWalk → AfterRun → List CarriedPart
parts_after w after = parts_at (rendition_of_numbers w.carried) after.at w.pattern.now

-- a walk as a split leaves it: its bytes are texts, with a plain run at the front, its places are between characters, and it says whether a style is carried
pub record IsPartWalk (w : PartWalk) : Type 0 where
  pub text : IsUtf8 w.rest.now
  pub pattern : IsUtf8 w.pattern.now
  pub run_ends : IsCharBoundary w.rest.now w.run_len
  pub run_is_plain : IsFalse (has_escape (take w.run_len w.rest.now))
  pub skip_ends : IsTrue (is_char_boundary (plain w.rest.now) w.skip)
  pub skip_before : w.skip ≤ w.from
  pub styled : w.is_styled ≡ has_any (rendition_of_numbers w.carried)

-- the next match of a walk is still to be searched for from the place `later` on
abbrev pub IsSearchedUpTo : PartWalk → ℕ → Type 0
IsSearchedUpTo w later = (w.from ≤ later) × (first_match_from (plain w.rest.now) w.pattern.now later ≡ first_match_from (plain w.rest.now) w.pattern.now w.from)

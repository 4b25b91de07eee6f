-- The steps in which a text is read: its items, as a scanner gives them, and how many bytes of printable ASCII each begins with.
use Rattle.std.specs.Prelude.{◌≡◌, ℕ, ◌≤◌, List, Option, Some, None, slice_range}
use Rattle.std.specs.List.{prefix_len}
use Rattle.std.specs.Str.{IsCharBoundary}
use Rattle.ansi_items.specs.Scans.{Scan, GivesItem, Scans}
use Rattle.ansi_safe.specs.Safe.{is_printable_byte}
use Rattle.ansi_clusters.specs.declared.steps.Step.{Step}

-- a step of the text t: where its item is, and how many bytes of printable ASCII that begins with
pub record IsStepOf (t : List ℕ) (step : Step) : Type 0 where
  pub ordered : step.item.start ≤ step.item.end
  pub start : IsCharBoundary t step.item.start
  pub end : IsCharBoundary t step.item.end
  pub printable : step.printable ≡ prefix_len is_printable_byte (slice_range t step.item.start step.item.end)

-- a reader gave a step: the item that comes next
pub record GivesStep (old : Scan) (step : Step) (new : Scan) : Type 0 where
  pub gives : GivesItem old step.item new
  pub is_step : IsStepOf old.text step

-- one call of `next`: a step, or None at the end of the text
abbrev pub Reads : Scan → Option Step → Scan → Type 0
Reads old None new = Scans old None new
Reads old (Some step) new = GivesStep old step new

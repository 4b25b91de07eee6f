use Rattle.std.proofs.Common.{◌≡◌, ◌+◌, ◌-◌, length, drop}
use Rattle.std.specs.Str.{IsCharBoundary}
use Rattle.ansi_search.specs.Offsets.{offset_of}
use Rattle.ansi_clusters.proofs.walks.first_run.Given as goal

-- only marks have been passed, so the first run is the first of what is left
abbrev pub invariant-marks : goal.invariant-marks
invariant-marks l = record {
  boundary : IsCharBoundary l.text l.start;
  first : l.start + offset_of (drop l.start l.text) 0 ≡ offset_of l.text 0;
}

abbrev pub decreases-marks : goal.decreases-marks
decreases-marks l = length l.text - l.start

use Rattle.std.proofs.Common.{◌++◌, drop, string_bytes}
use Rattle.ansi_items.specs.Plain.{plain}
use Rattle.ansi_style.specs.States.{rendition_of}
use Rattle.ansi_restyle.specs.Restyled.{restyled}
use Rattle.ansi_restyle.proofs.TurnLemmas.{IsRestyledSoFar}
use Rattle.ansi_restyle.proofs.restyle.push_restyled.Given as goal

abbrev pub invariant-loop-start : goal.invariant-loop-start
invariant-loop-start g l =
    IsRestyledSoFar (plain l.text) (string_bytes l.initial.out ++ restyled l.text l.change l.ranges) (string_bytes l.out) l.change (rendition_of l.style) l.place l.rest.text.now (drop l.start-index l.ranges)

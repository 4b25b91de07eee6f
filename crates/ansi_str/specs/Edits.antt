-- Edits as the definitions see them.
use Rattle.std.specs.Prelude.{List, map}
use Rattle.ansi_str.specs.declared.edits.kinds.Edit.{Edit}
use Rattle.ansi_str.specs.declared.edits.kinds.Edit.TheVariants.{Cut, Left, Right, Part, Prefix, Suffix, Trim}
use Rattle.ansi_str.specs.Changes.{Change, CutRange, LeftOf, RightOf, PartOf, WithoutPrefix, WithoutSuffix, Trimmed}

-- an edit is a change, in whatever memory its pattern is
abbrev pub change_of : Edit → Change
change_of (Cut start end) = CutRange start end
change_of (Left mid) = LeftOf mid
change_of (Right mid) = RightOf mid
change_of (Part pat index) = PartOf pat.now index
change_of (Prefix pat) = WithoutPrefix pat.now
change_of (Suffix pat) = WithoutSuffix pat.now
change_of Trim = Trimmed

-- edits in turn are changes in turn
abbrev pub changes_of : List Edit → List Change
changes_of edits = map change_of edits

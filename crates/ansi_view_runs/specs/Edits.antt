-- What edits by columns, and wraps, make of a text.
use Rattle.std.specs.Prelude.{ℕ, Bool, false, List, [], ◌∷◌, map, fold, ⊤, IsTrue}
use Rattle.std.specs.List.{flat_map}
use Rattle.ansi_safe.specs.declared.policy.Links.{Links}
use Rattle.ansi_safe.specs.Safe.{is_safe}
use Rattle.ansi_columns.specs.Edits as columns
use Rattle.ansi_cells.specs.Shown.{closed_cell}
use Rattle.ansi_cells.specs.Wrapped.{wrapped}
use Rattle.ansi_view_runs.specs.declared.edits.LineEdit.{LineEdit}
use Rattle.ansi_view_runs.specs.declared.edits.LineEdit.TheVariants as edit

-- a change by columns makes one text of one, and a wrap makes lines of it
pub data Change : Type 0 where
  OnColumns : columns.Change → Change
  Wrapped : ℕ → Change

-- an edit of the code is a change
abbrev pub change_of : LineEdit → Change
change_of (edit.Columns e) = OnColumns (columns.change_of e)
change_of (edit.Wrap width) = Wrapped width

-- edits in turn are changes in turn
abbrev pub changes_of : List LineEdit → List Change
changes_of edits = map change_of edits

-- the tail of a change is UTF-8, as that of a word is
abbrev pub HasUtf8Tail : Change → Type 0
HasUtf8Tail (OnColumns change) = columns.HasUtf8Tail change
HasUtf8Tail (Wrapped width) = ⊤

-- the tail of a change; one that has none has an empty one
abbrev pub tail_of : Change → List ℕ
tail_of (OnColumns (columns.Truncated side width tail)) = tail
tail_of (OnColumns (columns.Fitted width alignment tail)) = tail
tail_of change = []

-- a change with this tail in place of its own, if it has one
abbrev pub with_tail : List ℕ → Change → Change
with_tail tail (OnColumns (columns.Truncated side width other)) = OnColumns (columns.Truncated side width tail)
with_tail tail (OnColumns (columns.Fitted width alignment other)) = OnColumns (columns.Fitted width alignment tail)
with_tail tail change = change

-- changes with these tails, one for each
abbrev pub with_tails : List (List ℕ) → List Change → List Change
with_tails tails [] = []
with_tails [] (change ∷ changes) = []
with_tails (tail ∷ tails) (change ∷ changes) = with_tail tail change ∷ with_tails tails changes

-- what is shown of the tail of a change is allowed by what a policy makes of links
abbrev pub HasTailBy : Links → Change → Type 0
HasTailBy links (OnColumns (columns.Truncated side width tail)) = IsTrue (is_safe links (closed_cell tail))
HasTailBy links (OnColumns (columns.Fitted width alignment tail)) = IsTrue (is_safe links (closed_cell tail))
HasTailBy links change = ⊤

-- TABs become blanks, and line ends stay; any other change makes texts on one line
abbrev pub is_expansion : Change → Bool
is_expansion (OnColumns change) = columns.is_expansion change
is_expansion (Wrapped width) = false

-- what a change makes of a text: the lines of a wrap, or else one text (`ansi_columns`)
abbrev pub changed : Change → List ℕ → List (List ℕ)
changed (OnColumns change) t = columns.changed change t ∷ []
changed (Wrapped width) t = map (λ l. l.bytes) (wrapped t width)

-- what changes make of a text in turn: each is made of each text that the one before made (own)
abbrev pub changed_in_turn : List Change → List ℕ → List (List ℕ)
changed_in_turn changes t = fold (λ ts change. flat_map (changed change) ts) (t ∷ []) changes

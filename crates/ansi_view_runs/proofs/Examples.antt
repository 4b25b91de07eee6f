-- What the definitions say of small inputs.
use Rattle.std.proofs.Common.{◌≡◌, [], ◌∷◌, true, false, Some, None, refl}
use Rattle.std.specs.Prelude.{codes}
use Rattle.ansi_safe.specs.declared.policy.Links.TheVariants.{Keep, Remove}
use Rattle.ansi_safe.specs.declared.policy.Rest.TheVariants.{Drop, Show}
use Rattle.ansi_cells.specs.declared.shown.Alignment.TheVariants.{Left}
use Rattle.ansi_cells.specs.declared.sides.Side.TheVariants.{End}
use Rattle.ansi_columns.specs.Edits.{Expanded, Sliced, Truncated, Padded}
use Rattle.ansi_view_runs.specs.Edits.{OnColumns, Wrapped}
use Rattle.ansi_view_runs.specs.Lines.{lines}
use Rattle.ansi_view_runs.specs.Views.{viewed, opening_after}
use Rattle.ansi_view_runs.specs.Words.{bad_word, work_named, view_asked}

-- a carriage return directly before a line feed is part of the line end, and another one isn't
pub lines-three : lines (codes "a\rb\r\n\nc")
    ≡ record { text = codes "a\rb"; end = codes "\r\n" } ∷ record { text = []; end = codes "\n" } ∷ record { text = codes "c"; end = [] } ∷ []
unfolding lines
lines-three = refl

-- a last carriage return ends no line
pub lines-carriage_return : lines (codes "\r\r\n\r") ≡ record { text = codes "\r"; end = codes "\r\n" } ∷ record { text = codes "\r"; end = [] } ∷ []
unfolding lines
lines-carriage_return = refl

-- no bytes have no lines
pub lines-empty : lines [] ≡ []
unfolding lines
lines-empty = refl

-- a line with nothing but its end is just that, and what is open stays open
pub viewed-empty : viewed (view_asked []) (codes "\u{1b}[31m") (record { text = []; end = codes "\r\n" }) ≡ codes "\r\n"
viewed-empty = refl

pub opening-empty : opening_after (view_asked []).view (codes "\u{1b}[31m") (record { text = []; end = codes "\n" }) ≡ codes "\u{1b}[31m"
opening-empty = refl

-- the words, in any order
pub view_asked-all : view_asked (codes "plain" ∷ codes "links" ∷ codes "show" ∷ []) ≡ record { view = record { policy = record { rest = Show; links = Keep }; plain = true }; changes = [] }
view_asked-all = refl

pub view_asked-none : view_asked [] ≡ record { view = record { policy = record { rest = Drop; links = Remove }; plain = false }; changes = [] }
view_asked-none = refl

-- words on columns, in their order, among others; a tail may have colons
pub work_named-changes : work_named (codes "truncate:80:.:" ∷ codes "plain" ∷ codes "slice:007:" ∷ codes "truncate:5" ∷ codes "slice:1:2" ∷ codes "wrap:0" ∷ codes "pad:3" ∷ codes "expand:8" ∷ [])
    ≡ record {
      view = record { policy = record { rest = Drop; links = Remove }; plain = true };
      changes = OnColumns (Truncated End 80 (codes ".:")) ∷ OnColumns (Sliced 7 None) ∷ OnColumns (Truncated End 5 []) ∷ OnColumns (Sliced 1 (Some 2)) ∷ Wrapped 0 ∷ OnColumns (Padded 3 Left) ∷ OnColumns (Expanded 8) ∷ [];
    }
work_named-changes = refl

-- the first bad word
pub bad_word-second : bad_word (codes "show" ∷ codes "Show" ∷ codes "x" ∷ []) ≡ Some (codes "Show")
bad_word-second = refl

pub bad_word-change : bad_word (codes "pad:1" ∷ codes "slice::1" ∷ []) ≡ Some (codes "slice::1")
bad_word-change = refl

pub bad_word-none : bad_word (codes "show" ∷ codes "show" ∷ []) ≡ None
bad_word-none = refl

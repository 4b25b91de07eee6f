-- Texts with blanks in place of their TABs.
use Rattle.std.specs.Prelude.{ℕ, ◌-◌, ◌%◌, ◌==◌, ◌||◌, Bool, List, [], ◌∷◌, ◌++◌, fold, count_by, if◌then◌else◌}
use Rattle.std.specs.List.{list_any}
use Rattle.std.specs.Str.{byte}
use Rattle.ansi_items.specs.Pieces.{Piece, Text, spelling, pieces_of}
use Rattle.ansi_items.specs.Plain.{plain, plain_bytes}
use Rattle.ansi_safe.specs.Cells.{cell}
use Rattle.ansi_clusters.specs.Columns.{columns}
use Rattle.ansi_clusters.specs.Lines.{blanks}

-- a piece has a TAB in its plain bytes
abbrev pub piece_has_tab : Piece → Bool
piece_has_tab p = list_any (λ b. b == byte "\t") (plain_bytes p)

-- the plain text of t has a TAB
abbrev pub has_tab : List ℕ → Bool
has_tab t = list_any piece_has_tab (pieces_of t)

-- how many TABs the plain text of t has
abbrev pub tabs : List ℕ → ℕ
tabs t = count_by (λ b. b == byte "\t") (plain t)

-- columns are counted anew after a TAB, which ends at a multiple of `stop`, and after a line feed
abbrev pub is_stop : ℕ → Bool
is_stop b = b == byte "\t" || b == byte "\n"

-- the plain text since the last TAB or line feed, if it is x before the byte b
abbrev pub since_stop : List ℕ → ℕ → List ℕ
since_stop x b = if is_stop b then [] else x ++ b ∷ []

-- the columns from the column n to the next multiple of `stop`, of which there is none if `stop` is 0
abbrev pub to_next : ℕ → ℕ → ℕ
to_next stop n = if stop == 0 then 0 else stop - n % stop

-- what the byte b becomes, if the plain text since the last TAB or line feed is x: a TAB becomes the blanks to the next multiple, and any other byte stays (own)
abbrev pub byte_expanded : ℕ → List ℕ → ℕ → List ℕ
byte_expanded stop x b = if b == byte "\t" then blanks (to_next stop (columns (plain (cell x)))) else b ∷ []

-- the same of each byte of a run
abbrev pub run_expanded : ℕ → List ℕ → List ℕ → List ℕ
run_expanded stop x [] = []
run_expanded stop x (b ∷ w) = byte_expanded stop x b ++ run_expanded stop (since_stop x b) w

-- the same of pieces: what is no run stays
abbrev pub pieces_expanded : ℕ → List ℕ → List Piece → List ℕ
pieces_expanded stop x [] = []
pieces_expanded stop x (Text w ∷ ps) = run_expanded stop x w ++ pieces_expanded stop (fold since_stop x w) ps
pieces_expanded stop x (p ∷ ps) = spelling p ++ pieces_expanded stop x ps

-- the text t with its TABs expanded (own)
abbrev pub expanded : ℕ → List ℕ → List ℕ
expanded stop t = pieces_expanded stop [] (pieces_of t)

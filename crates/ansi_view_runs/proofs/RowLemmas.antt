-- What changes make of a text shows what they make of its row.
use Rattle.std.proofs.Common.{◌≡◌, ℕ, ◌==◌, true, false, not, ◌||◌, List, [], ◌∷◌, ◌++◌, map, flat_map, fold, refl, sym, ◌∙◌, ap, ap₂, subst, arith}
use Rattle.std.specs.List.{AllByRecursion, list_all}
use Rattle.std.specs.Prelude.{chars}
use Rattle.std.specs.Str.{IsUtf8, byte}
use Rattle.std.proofs.lemmas.Bool.{and_from, and_parts}
use Rattle.std.proofs.lemmas.Bool.Decides.{nat_tests}
use Rattle.std.proofs.lemmas.List.{map-append}
use Rattle.std.proofs.lemmas.List.Elements.{recursion_from_All}
use Rattle.ansi_items.specs.Pieces.{Piece, Text, Sequence, LoneEscape, pieces_of}
use Rattle.ansi_safe.specs.Cells.{cell, paragraph, placed, stays_in, piece_stays}
use Rattle.ansi_safe.specs.Safe.{all_allowed}
use Rattle.ansi_safe.proofs.CellLemmas.{placed-stays, placed_stays}
use Rattle.ansi_columns.specs.Edits as columns
use Rattle.ansi_clusters.specs.Lines as wrap
use Rattle.ansi_cells.specs.Rows.{Row, row, cell_row, row_range, row_screen}
use Rattle.ansi_cells.specs.Screens.{screen}
use Rattle.ansi_cells.specs.Wrapped.{CarriedPart, wrapped}
use Rattle.ansi_wraps.proofs.CleanLineLemmas.{CleanLine, clean-wrapped}
use Rattle.ansi_columns.proofs.EditLemmas.{clean-stays, expanded-shown, cell_row-shown, shown-changed, row-changed}
use Rattle.ansi_cells.proofs.IndentLawLemmas.{ShutLine, wrapped_are_shut}
use Rattle.ansi_cells.proofs.OneLineLemmas.{safe-paragraph}
use Rattle.ansi_cells.proofs.RowLemmas.{bytes-row, screen-row, row-lines}
use Rattle.ansi_columns.proofs.SequenceLemmas.{good-utf8}
use Rattle.ansi_cells.proofs.TailLemmas.{IsShown}
use Rattle.ansi_view_runs.specs.Edits.{Change, OnColumns, Wrapped, HasUtf8Tail, changed}
use Rattle.ansi_view_runs.specs.Promise.{changed_rows}

-- ---- a text of a cell, closed, is its own cell and paragraph, and has no TAB

utf8-shown : (t : List ℕ) → IsShown t → IsUtf8 t
utf8-shown t shown = subst IsUtf8 shown.clean.spell (good-utf8 shown.clean.pieces shown.clean.good)

cell-shown : (t : List ℕ) → IsShown t → cell t ≡ t
cell-shown t shown = clean-stays t (utf8-shown t shown) shown.clean

-- what stays in a place stays in another one, in which each character stays that stays in the first
module _ (cell_place paragraph_place : _) (further : (c : ℕ) → stays_in cell_place c ≡ true → stays_in paragraph_place c ≡ true) where
  all_stay-further : (cs : List ℕ) → list_all (stays_in cell_place) cs ≡ true → list_all (stays_in paragraph_place) cs ≡ true
  all_stay-further [] all = refl
  all_stay-further (c ∷ cs) all =
      let both = and_parts (stays_in cell_place c) (list_all (stays_in cell_place) cs) all in
      and_from _ _ (further c both.0) (all_stay-further cs both.1)

  piece-further : (p : Piece) → piece_stays cell_place p ≡ true → piece_stays paragraph_place p ≡ true
  piece-further (Text w) is =
      let both = and_parts (all_allowed (chars w)) (list_all (stays_in cell_place) (chars w)) is in
      and_from _ _ both.0 (all_stay-further (chars w) both.1)
  piece-further (Sequence w) is = is
  piece-further LoneEscape is = is

  pieces-further : (ps : List Piece) → list_all (piece_stays cell_place) ps ≡ true → list_all (piece_stays paragraph_place) ps ≡ true
  pieces-further [] all = refl
  pieces-further (p ∷ ps) all =
      let both = and_parts (piece_stays cell_place p) (list_all (piece_stays cell_place) ps) all in
      and_from _ _ (piece-further p both.0) (pieces-further ps both.1)

stays-further : (c : ℕ) → not (c == byte "\t" || (c == byte "\n" || c == byte "\r")) ≡ true → not (c == byte "\t") ≡ true
stays-further c is = grind (arith, nat_tests)

stays-also : (first second : _) (t : List ℕ) → ((c : ℕ) → stays_in first c ≡ true → stays_in second c ≡ true) → IsUtf8 t → placed first t ≡ t → placed second t ≡ t
stays-also first second t further utf8 stays = placed-stays second t utf8 (pieces-further first second further (pieces_of t) (placed_stays first t utf8 stays))

paragraph-shown : (t : List ℕ) → IsShown t → paragraph t ≡ t
paragraph-shown t shown =
    let utf8 = utf8-shown t shown in
    let cell_stays = cell-shown t shown in
    search (stays-also, stays-further, utf8, cell_stays)

-- ---- a change of a text by columns shows what it makes of the row of its cell, and a wrap of the row of its paragraph

abbrev pub AreShown : List (List ℕ) → Type 0
AreShown ts = AllByRecursion IsShown ts

bytes-lines : (ls : List CarriedPart) → AllByRecursion CleanLine ls → AllByRecursion ShutLine ls → AreShown (map (λ (l : CarriedPart). l.bytes) ls)
bytes-lines [] clean shut = tt
bytes-lines (l ∷ ls) clean shut = (record { clean = clean.0; shut = shut.0 }, bytes-lines ls clean.1 shut.1)

shown-wrapped : (width : ℕ) (t : List ℕ) → IsUtf8 t → AreShown (changed (Wrapped width) t)
shown-wrapped width t utf8 =
    let ls = wrapped t width in
    bytes-lines ls (recursion_from_All CleanLine ls (clean-wrapped t width utf8)) (recursion_from_All ShutLine ls (wrapped_are_shut t width (safe-paragraph t utf8)))

rows-lines : (ls : List CarriedPart) → map row (map (λ (l : CarriedPart). l.bytes) ls) ≡ map (λ (l : CarriedPart). row l.bytes) ls
rows-lines [] = refl
rows-lines (l ∷ ls) = ap (λ rs. row l.bytes ∷ rs) (rows-lines ls)

rows-wrapped : (width : ℕ) (t : List ℕ) → IsUtf8 t → map row (changed (Wrapped width) t) ≡ changed_rows (Wrapped width) (row (paragraph t))
rows-wrapped width t utf8 =
    rows-lines (wrapped t width) ∙ row-lines t width (safe-paragraph t utf8)
    ∙ ap (λ x. map (λ (i : ℕ × ℕ). row_range i.0 i.1 (row (paragraph t))) (wrap.lines width x)) (sym (bytes-row (paragraph t)))

-- ---- so do changes in turn

pub record AreMade (ts : List (List ℕ)) (rs : List Row) : Type 0 where
  pub shown : AreShown ts
  pub rows : map row ts ≡ rs

pub made-columns : (change : columns.Change) (t : List ℕ) → columns.HasUtf8Tail change → IsUtf8 t → columns.is_expansion change ≡ false → AreMade (changed (OnColumns change) t) (changed_rows (OnColumns change) (cell_row t))
made-columns change t tail utf8 other = record { shown = (shown-changed t utf8 change tail other, tt); rows = ap (λ r. r ∷ []) (row-changed t utf8 change tail other) }

pub made-wrapped : (width : ℕ) (t : List ℕ) → IsUtf8 t → AreMade (changed (Wrapped width) t) (changed_rows (Wrapped width) (row (paragraph t)))
made-wrapped width t utf8 = record { shown = shown-wrapped width t utf8; rows = rows-wrapped width t utf8 }

-- of a text of a cell, closed
made-other : (change : columns.Change) (t : List ℕ) → columns.HasUtf8Tail change → IsShown t → columns.is_expansion change ≡ false → AreMade (changed (OnColumns change) t) (changed_rows (OnColumns change) (row t))
made-other change t tail shown other =
    subst (λ r. AreMade (changed (OnColumns change) t) (changed_rows (OnColumns change) r)) (cell_row-shown t shown) (made-columns change t tail (utf8-shown t shown) other)

made-again : (change : Change) (t : List ℕ) → HasUtf8Tail change → IsShown t → AreMade (changed change t) (changed_rows change (row t))
made-again (Wrapped width) t tail shown = subst (λ p. AreMade (changed (Wrapped width) t) (changed_rows (Wrapped width) (row p))) (paragraph-shown t shown) (made-wrapped width t (utf8-shown t shown))
made-again (OnColumns (columns.Expanded stop)) t tail shown =
    (let same = expanded-shown stop t shown in record { shown = (subst IsShown (sym same) shown, tt); rows = ap (λ u. row u ∷ []) same })
made-again (OnColumns (columns.Sliced start end)) t tail shown = made-other (columns.Sliced start end) t tail shown refl
made-again (OnColumns (columns.Truncated side width cut)) t tail shown = made-other (columns.Truncated side width cut) t tail shown refl
made-again (OnColumns (columns.Padded width alignment)) t tail shown = made-other (columns.Padded width alignment) t tail shown refl
made-again (OnColumns (columns.Fitted width alignment cut)) t tail shown = made-other (columns.Fitted width alignment cut) t tail shown refl

shown-append : (ts us : List (List ℕ)) → AreShown ts → AreShown us → AreShown (ts ++ us)
shown-append [] us first second = second
shown-append (t ∷ ts) us first second = (first.0, shown-append ts us first.1 second)

made-each : (change : Change) (ts : List (List ℕ)) → HasUtf8Tail change → AreShown ts → AreMade (flat_map (changed change) ts) (flat_map (changed_rows change) (map row ts))
made-each change [] tail are = record { shown = tt; rows = refl }
made-each change (t ∷ ts) tail are =
    let here = made-again change t tail are.0 in
    let more = made-each change ts tail are.1 in
    record {
      shown = shown-append (changed change t) (flat_map (changed change) ts) here.shown more.shown;
      rows = map-append row (changed change t) (flat_map (changed change) ts) ∙ ap₂ ◌++◌ here.rows more.rows;
    }

pub made-fold : (changes : List Change) (ts : List (List ℕ)) (rs : List Row) → AllByRecursion HasUtf8Tail changes → AreMade ts rs
    → AreMade (fold (λ ts change. flat_map (changed change) ts) ts changes) (fold (λ rs change. flat_map (changed_rows change) rs) rs changes)
made-fold [] ts rs tails are = are
made-fold (change ∷ changes) ts rs tails are =
    let each = made-each change ts tails.0 are.shown in
    made-fold changes (flat_map (changed change) ts) (flat_map (changed_rows change) rs) tails.1 (record { shown = each.shown; rows = each.rows ∙ ap (flat_map (changed_rows change)) are.rows })

pub screens-rows : (ts : List (List ℕ)) → map screen ts ≡ map row_screen (map row ts)
screens-rows [] = refl
screens-rows (t ∷ ts) = ap₂ (λ c cs. c ∷ cs) (screen-row t) (screens-rows ts)

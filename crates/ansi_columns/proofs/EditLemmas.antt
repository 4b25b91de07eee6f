-- What edits by columns make of a text in turn, and what that shows.
use Rattle.std.proofs.Common.{◌≡◌, ℕ, ◌+◌, ◌<◌, ◌≤◌, ◌⊎◌, inl, inr, Bool, true, false, not, ◌-◌, ◌↔◌, ◌==◌, ◌&&◌, ◌||◌, List, [], ◌∷◌, length, get_or, take, drop, Result, Ok, Err, IfOk, chars, unwrap_or, IsTrue, refl, sym, ◌∙◌, ap, subst, arith, if◌then◌else◌}
use Rattle.std.specs.List.{list_all, list_any}
use Rattle.std.specs.Str.{IsUtf8, byte}
use Rattle.std.proofs.lemmas.Bool.{and_from, and_parts, or_from, false≢true}
use Rattle.std.proofs.lemmas.Bool.Decides.{nat_tests}
use Rattle.std.proofs.lemmas.List.{nil_from_length, take_all}
use Rattle.std.proofs.lemmas.List.Folds.{list_all-append}
use Rattle.ansi_items.specs.Pieces.{Piece, Text, Sequence, LoneEscape, pieces_of}
use Rattle.ansi_items.specs.Plain.{plain, plain_of, is_whole}
use Rattle.ansi_items.proofs.JoinLemmas.{pieces_of-spelled}
use Rattle.ansi_safe.specs.declared.policy.Links.TheVariants.{Keep}
use Rattle.ansi_safe.specs.Cells.{cell, is_cell}
use Rattle.ansi_safe.specs.Safe.{may_stay}
use Rattle.ansi_safe.proofs.CellLemmas.{plain_of-merged}
use Rattle.ansi_safe.proofs.CellTextLemmas.{cell-stays, IsUtf8-cell, whole-cell}
use Rattle.ansi_safe.proofs.SafeLemmas.{AreGood, good_stand}
use Rattle.ansi_columns.specs.declared.edits.ColumnEdit.{ColumnEdit}
use Rattle.ansi_clusters.specs.Columns.{columns}
use Rattle.ansi_columns.specs.Edits.{Change, change_of, changes_of, IsLent, AreLent, Expanded, Sliced, Truncated, Padded, Fitted, HasUtf8Tail, is_expansion, changed, changed_in_turn, only_expand, edited, most_added, most_added_in_turn, changed_row, row_in_turn, edited_row}
use Rattle.ansi_cells.specs.Rows.{row, cell_row, row_screen, truncated_row_at, fitted_row}
use Rattle.ansi_cells.specs.Screens.{screen}
use Rattle.ansi_cells.specs.Shown.{closed_cell}
use Rattle.ansi_cells.specs.Tabs.{piece_has_tab, expanded}
use Rattle.ansi_cells.proofs.CleanShownLemmas.{clean-padded_cell, clean-sliced_cell}
use Rattle.ansi_cells.proofs.IndentLawLemmas.{shut-cell}
use Rattle.ansi_cells.proofs.LinkedLawLemmas.{padded-whole}
use Rattle.ansi_cells.proofs.OneLineLemmas.{Prints, Prints-parts, printing_are_allowed, IsClean, clean-safe, clean-one_line, safe_are_good}
use Rattle.ansi_cells.proofs.RowLemmas.{screen-row, row-padded, row-fitted, row-sliced, row-truncated_at, row-closed_cell}
use Rattle.ansi_columns.proofs.SequenceLemmas.{good-utf8}
use Rattle.ansi_cells.proofs.SliceLawLemmas.{sliced-whole, sliced-closed}
use Rattle.ansi_cells.proofs.StyledLawLemmas.{padded-is_closed}
use Rattle.ansi_cells.proofs.TabLemmas.{expanded-no_tab}
use Rattle.ansi_cells.proofs.TailLemmas.{IsShown, shown-cell, shown-truncated_at, shown-fitted, all-on_line}

-- ---- a text that is safe and on one line stays in a cell

pieces-stay : (test : Piece → Bool) → ((w : List ℕ) → Prints w → test (Text w) ≡ true) → ((w : List ℕ) → may_stay Keep (Sequence w) ≡ true → test (Sequence w) ≡ true) → (ps : List Piece) → AreGood Keep ps → Prints (plain_of ps) → list_all test ps ≡ true
pieces-stay test texts sequences [] good is = refl
pieces-stay test texts sequences (Text w ∷ ps) good is =
    let both = Prints-parts w (plain_of ps) good.0.2 is in
    and_from _ _ (texts w both.0) (pieces-stay test texts sequences ps good.1 both.1)
pieces-stay test texts sequences (Sequence w ∷ ps) good is = and_from _ _ (sequences w good.0.1) (pieces-stay test texts sequences ps good.1 is)
pieces-stay test texts sequences (LoneEscape ∷ ps) good is = absurd good.0

clean-prints : {t : List ℕ} → IsClean t → Prints (plain t)
clean-prints is = subst (λ u. Prints (plain u)) is.spell (subst Prints (sym (ap plain_of (pieces_of-spelled is.pieces (good_stand Keep is.pieces is.good)) ∙ plain_of-merged is.pieces)) is.prints)

pub clean-stays : (t : List ℕ) → IsUtf8 t → IsClean t → cell t ≡ t
clean-stays t utf8 is =
    let stays : is_cell t ≡ true = pieces-stay _ (λ w prints. and_from _ _ (printing_are_allowed (chars w) prints.all) (all-on_line (chars w) prints.all)) (λ w may. may) (pieces_of t) (safe_are_good t utf8 (clean-safe is)) (clean-prints is) in
    cell-stays t utf8 stays

-- and has no TAB

abbrev on_line : ℕ → Bool
on_line b = not (b == byte "\t" || b == byte "\n" || b == byte "\r")

no_tab : (b : ℕ) → on_line b ≡ true → (b == byte "\t") ≡ false
no_tab b is = grind (arith, nat_tests)

none-in : (w : List ℕ) → list_all on_line w ≡ true → list_any (λ b. b == byte "\t") w ≡ false
none-in [] all = refl
none-in (b ∷ w) all = (let both = and_parts (on_line b) (list_all on_line w) all in or_from _ _ (no_tab b both.0) (none-in w both.1))

pieces-without_tab : (ps : List Piece) → list_all on_line (plain_of ps) ≡ true → list_any piece_has_tab ps ≡ false
pieces-without_tab [] all = refl
pieces-without_tab (Text w ∷ ps) all =
    let both = and_parts (list_all on_line w) (list_all on_line (plain_of ps)) (sym (list_all-append on_line w (plain_of ps)) ∙ all) in
    or_from _ _ (none-in w both.0) (pieces-without_tab ps both.1)
pieces-without_tab (Sequence w ∷ ps) all = pieces-without_tab ps all
pieces-without_tab (LoneEscape ∷ ps) all = pieces-without_tab ps all

pub expanded-shown : (stop : ℕ) (t : List ℕ) → IsShown t → expanded stop t ≡ t
expanded-shown stop t shown = expanded-no_tab stop t (pieces-without_tab (pieces_of t) (clean-one_line shown.clean))

shown-utf8 : (t : List ℕ) → IsShown t → IsUtf8 t
shown-utf8 t shown = subst IsUtf8 shown.clean.spell (good-utf8 shown.clean.pieces shown.clean.good)

-- what is shown of it is its row
pub cell_row-shown : (t : List ℕ) → IsShown t → cell_row t ≡ row t
cell_row-shown t shown = ap row (clean-stays t (shown-utf8 t shown) shown.clean)

-- so changes change that alone
row-in_turn : (changes : List Change) (t : List ℕ) → IsShown t → edited_row changes t ≡ row_in_turn changes (cell_row t)
row-in_turn [] t shown = refl
row-in_turn (Expanded stop ∷ changes) t shown = ap (edited_row changes) (expanded-shown stop t shown) ∙ row-in_turn changes t shown
row-in_turn (Sliced start end ∷ changes) t shown = refl
row-in_turn (Truncated side width tail ∷ changes) t shown = refl
row-in_turn (Padded width alignment ∷ changes) t shown = refl
row-in_turn (Fitted width alignment tail ∷ changes) t shown = refl

-- ---- an edit that isn't an expansion makes a text of a cell, closed, and shows what it makes of the row

module _ (u : List ℕ) (utf8 : IsUtf8 u) where
  cell_utf8 : IsUtf8 (cell u)
  cell_utf8 = IsUtf8-cell u utf8

  whole : IsTrue (is_whole (cell u))
  whole = whole-cell u utf8

  pub shown-changed : (change : Change) → HasUtf8Tail change → is_expansion change ≡ false → IsShown (changed change u)
  shown-changed (Expanded stop) tail_utf8 other = absurd (cc other)
  shown-changed (Sliced start end) tail_utf8 other =
      let b = unwrap_or end (columns (plain (cell u))) in
      record { clean = clean-sliced_cell u start b utf8; shut = record { whole = sliced-whole (cell u) start b cell_utf8 whole; closed = sliced-closed (cell u) start b cell_utf8 whole } }
  shown-changed (Truncated side width tail) tail_utf8 other = shown-truncated_at u utf8 width (closed_cell tail) (shown-cell tail tail_utf8) side
  shown-changed (Padded width alignment) tail_utf8 other =
      record { clean = clean-padded_cell u width alignment utf8; shut = record { whole = padded-whole (cell u) width alignment whole; closed = padded-is_closed (cell u) width alignment whole } }
  shown-changed (Fitted width alignment tail) tail_utf8 other = shown-fitted u utf8 width (closed_cell tail) (shown-cell tail tail_utf8) alignment

  pub row-changed : (change : Change) → HasUtf8Tail change → is_expansion change ≡ false → row (changed change u) ≡ changed_row change (cell_row u)
  row-changed (Expanded stop) tail_utf8 other = absurd (cc other)
  row-changed (Sliced start end) tail_utf8 other = row-sliced (cell u) start end cell_utf8 whole
  row-changed (Truncated side width tail) tail_utf8 other =
      row-truncated_at (cell u) width (closed_cell tail) cell_utf8 whole (shut-cell tail tail_utf8) side ∙ ap (λ r. truncated_row_at side width r (cell_row u)) (row-closed_cell tail tail_utf8)
  row-changed (Padded width alignment) tail_utf8 other = row-padded (cell u) width alignment whole
  row-changed (Fitted width alignment tail) tail_utf8 other =
      row-fitted (cell u) width alignment (closed_cell tail) cell_utf8 whole (shut-cell tail tail_utf8).whole ∙ ap (λ r. fitted_row width alignment r (cell_row u)) (row-closed_cell tail tail_utf8)

-- ---- edits in turn

-- the changes that are left make of the text u what all make of the text t, and show what those show; u is a text of a cell, closed, after any change but an expansion
pub record IsEditing (changes : List Change) (t : List ℕ) (left : List Change) (u : List ℕ) : Type 0 where
  pub bytes : changed_in_turn left u ≡ changed_in_turn changes t
  pub shows : edited_row left u ≡ edited_row changes t
  pub kind : (IsShown u × (only_expand changes ≡ false)) ⊎ (only_expand left ≡ only_expand changes)

pub editing-begun : (changes : List Change) (t : List ℕ) → IsEditing changes t changes t
editing-begun changes t = record { bytes = refl; shows = refl; kind = inr refl }

module _ (changes : List Change) (t : List ℕ) (left : List Change) (u : List ℕ) where
  abbrev Kind : List Change → List ℕ → Type 0
  Kind left u = (IsShown u × (only_expand changes ≡ false)) ⊎ (only_expand left ≡ only_expand changes)

  -- after an expansion
  after-expansion : (stop : ℕ) → IsEditing changes t (Expanded stop ∷ left) u → IsEditing changes t left (expanded stop u)
  after-expansion stop editing = record { bytes = editing.bytes; shows = editing.shows; kind = by editing.kind }
    where
      by : Kind (Expanded stop ∷ left) u → Kind left (expanded stop u)
      by (inl shown) = inl (subst IsShown (sym (expanded-shown stop u shown.0)) shown.0, shown.1)
      by (inr same) = inr same

  module _ (utf8 : IsUtf8 u) where
    -- after another change
    after-other : (change : Change) → HasUtf8Tail change → is_expansion change ≡ false → edited_row (change ∷ left) u ≡ row_in_turn left (changed_row change (cell_row u)) → IsEditing changes t (change ∷ left) u → IsEditing changes t left (changed change u)
    after-other change tail_utf8 other begins editing =
        let shown = shown-changed u utf8 change tail_utf8 other in
        record {
          bytes = editing.bytes;
          shows = row-in_turn left (changed change u) shown ∙ ap (row_in_turn left) (cell_row-shown (changed change u) shown ∙ row-changed u utf8 change tail_utf8 other) ∙ sym begins ∙ editing.shows;
          kind = inl (shown, not_only editing.kind);
        }
      where
        not_only : Kind (change ∷ left) u → only_expand changes ≡ false
        not_only (inl shown) = shown.1
        not_only (inr same) = sym same ∙ ap (λ b. b && only_expand left) other

    pub editing-step : (change : Change) → HasUtf8Tail change → IsEditing changes t (change ∷ left) u → IsEditing changes t left (changed change u)
    editing-step (Expanded stop) tail_utf8 editing = after-expansion stop editing
    editing-step (Sliced start end) tail_utf8 editing = after-other (Sliced start end) tail_utf8 refl refl editing
    editing-step (Truncated side width tail) tail_utf8 editing = after-other (Truncated side width tail) tail_utf8 refl refl editing
    editing-step (Padded width alignment) tail_utf8 editing = after-other (Padded width alignment) tail_utf8 refl refl editing
    editing-step (Fitted width alignment tail) tail_utf8 editing = after-other (Fitted width alignment tail) tail_utf8 refl refl editing

-- the first of the edits and the others, as the code splits them
pub first_left : (left : List ColumnEdit) (or_else : ColumnEdit) → 1 ≤ length left → left ≡ get_or left 0 or_else ∷ take (length left - 1) (drop 1 left)
first_left [] or_else some = absurd (omega (arith, some))
first_left (next ∷ more) or_else some = ap (λ es. next ∷ es) (sym (take_all (length (next ∷ more) - 1) more (omega arith)))

-- as the code does it: the next edit makes v of u
pub editing-next : {changes : List Change} {t u v : List ℕ} {left more : List ColumnEdit} {next : ColumnEdit} → left ≡ next ∷ more → v ≡ changed (change_of next) u → IsUtf8 u × HasUtf8Tail (change_of next)
    → IsEditing changes t (changes_of left) u → IsEditing changes t (changes_of more) v
editing-next {changes} {t} {u} {v} {left} {more} {next} split made utf8 editing =
    subst (IsEditing changes t (changes_of more)) (sym made)
    (editing-step changes t (changes_of more) u utf8.0 (change_of next) utf8.1 (subst (λ es. IsEditing changes t (changes_of es) u) split editing))

first : {A B : Type 0} → A × B → A
first both = both.0

second : {A B : Type 0} → A × B → B
second both = both.1

-- and what is lent
pub lent-next : {all b c : Type 0} (u : List ℕ) {v : List ℕ} {left more : List ColumnEdit} {next : ColumnEdit} → left ≡ next ∷ more → v ≡ changed (change_of next) u → c ↔ (b × IsLent (change_of next) u)
    → (b × AreLent (changes_of left) u) ↔ all → (c × AreLent (changes_of more) v) ↔ all
lent-next {all} {b} {c} u {v} {left} {more} {next} split made lends so_far =
    let before = subst (λ es. (b × AreLent (changes_of es) u) ↔ all) split so_far in (
      λ now. (let is = lends.0 (first now) in before.0 (first is, (second is, subst (AreLent (changes_of more)) made (second now)))),
      λ is. (let parts = before.1 is in let lent = second parts in (lends.1 (first parts, first lent), subst (AreLent (changes_of more)) (sym made) (second lent))),
    )

-- what is lent by all is lent by the next one
pub lent-first : {all b : Type 0} (u : List ℕ) {left more : List ColumnEdit} {next : ColumnEdit} → left ≡ next ∷ more → (b × AreLent (changes_of left) u) ↔ all → all → b × IsLent (change_of next) u
lent-first {all} {b} u split so_far is =
    let parts = (subst (λ es. (b × AreLent (changes_of es) u) ↔ all) split so_far).1 is in
    (first parts, first (second parts))

-- and how long it is at most
pub len-next : {n : ℕ} (u : List ℕ) {v : List ℕ} {left more : List ColumnEdit} {next : ColumnEdit} → left ≡ next ∷ more → v ≡ changed (change_of next) u → length v ≤ length u + most_added (change_of next) u
    → length u + most_added_in_turn (changes_of left) u ≤ n → length v + most_added_in_turn (changes_of more) v ≤ n
len-next u {v} {left} {more} {next} split made most so_far =
    omega (arith, most, so_far, ap (λ es. most_added_in_turn (changes_of es) u) split, ap (most_added_in_turn (changes_of more)) made)

-- ---- no change is left

-- as the code tests it
none_left : (left : List ColumnEdit) → length left < 1 → left ≡ []
none_left left short = nil_from_length left (omega (arith, short))

pub editing-ended : {changes : List Change} {t u : List ℕ} (left : List ColumnEdit) → length left < 1 → IsEditing changes t (changes_of left) u → IsEditing changes t [] u
editing-ended {changes} {t} {u} left short editing = subst (λ es. IsEditing changes t (changes_of es) u) (none_left left short) editing

-- two clauses on a result make a third
pub if_ok_both : {X Y : Type 0} (r : Result X Y) {P Q R : X → Type 0} → ((x : X) → P x → Q x → R x) → IfOk r P → IfOk r Q → IfOk r R
if_ok_both (Ok x) both p q = both x p q
if_ok_both (Err y) both p q = tt

module _ (changes : List Change) (t u : List ℕ) (editing : IsEditing changes t [] u) where
  -- one wasn't an expansion
  module _ (other : only_expand changes ≡ false) where
    pub ended-shown : IsShown u
    ended-shown = by editing.kind
      where
        by : ((IsShown u × (only_expand changes ≡ false)) ⊎ (only_expand [] ≡ only_expand changes)) → IsShown u
        by (inl shown) = shown.0
        by (inr same) = absurd (false≢true (sym (same ∙ other)))

    pub ended-screen : screen u ≡ row_screen (edited_row changes t)
    ended-screen = screen-row u ∙ ap row_screen (sym (cell_row-shown u ended-shown) ∙ editing.shows)

  -- each was one, and then the text is closed
  module _ (only : only_expand changes ≡ true) {v : List ℕ} (closes : v ≡ closed_cell u) where
    pub closed-bytes : v ≡ edited changes t
    closed-bytes = closes ∙ ap closed_cell editing.bytes ∙ sym (ap (λ b. if b then closed_cell (changed_in_turn changes t) else changed_in_turn changes t) only)

    module _ (utf8 : IsUtf8 u) where
      pub closed-shown : IsShown v
      closed-shown = subst IsShown (sym closes) (shown-cell u utf8)

      pub closed-screen : screen v ≡ row_screen (edited_row changes t)
      closed-screen = screen-row v ∙ ap row_screen (ap row closes ∙ row-closed_cell u utf8 ∙ editing.shows)

-- after expansions alone
pub only-editing : (changes : List Change) (t u : List ℕ) → u ≡ changed_in_turn changes t → cell_row u ≡ edited_row changes t → only_expand changes ≡ true → IsEditing changes t [] u
only-editing changes t u bytes row only = record { bytes = bytes; shows = row; kind = inr (sym only) }

-- no edit is left to be made
pub lent-ended : {b all : Type 0} (u : List ℕ) (left : List ColumnEdit) → length left < 1 → ((b × AreLent (changes_of left) u) ↔ all) → b ↔ all
lent-ended u [] short lent = (λ is. lent.0 (is, tt), λ is. (lent.1 is).0)
lent-ended u (e ∷ es) short lent = absurd (omega (arith, short))

pub len-ended : {n : ℕ} (u : List ℕ) (left : List ColumnEdit) → length left < 1 → length u + most_added_in_turn (changes_of left) u ≤ n → length u ≤ n
len-ended u [] short most = omega (arith, most)
len-ended u (e ∷ es) short most = absurd (omega (arith, short))

-- The rows of what the calls make of texts: what they make of rows.
use Rattle.std.proofs.Common.{◌≡◌, ℕ, ◌+◌, ◌-◌, ◌≤◌, Bool, true, false, not, ◌&&◌, List, [], ◌∷◌, ◌++◌, All, length, map, take, drop, slice_range, nat_le, Option, unwrap_or, if◌then◌else◌, IsTrue, inl, inr, refl, sym, ◌∙◌, ap, ap₂, arith, append-nil}
use Rattle.std.specs.Str.{IsUtf8}
use Rattle.std.proofs.lemmas.Bool.{cases_lt, cases_Bool, leb-true}
use Rattle.std.proofs.lemmas.List.{take_all, take-append-drop}
use Rattle.std.proofs.lemmas.List.Elements.{All-head, All-tail}
use Rattle.std.proofs.lemmas.List.Sums.{sum_by-append}
use Rattle.ansi_items.specs.Plain.{plain, is_whole}
use Rattle.ansi_items.proofs.Utf8Lemmas.{IsUtf8-plain}
use Rattle.ansi_style.specs.Rendition.{plain_style}
use Rattle.ansi_style.specs.Styled.{StyledByte, styled}
use Rattle.ansi_style.proofs.StyledLemmas.{unstyled-styled, styled-pieces}
use Rattle.ansi_safe.specs.Cells.{cell, paragraph}
use Rattle.ansi_safe.specs.Safe.{is_safe}
use Rattle.ansi_safe.specs.declared.policy.Links.TheVariants.{Keep}
use Rattle.ansi_safe.proofs.CellTextLemmas.{IsUtf8-cell, whole-cell}
use Rattle.ansi_cells.specs.declared.shown.Alignment.{Alignment}
use Rattle.ansi_cells.specs.declared.shown.Alignment.TheVariants.{Left}
use Rattle.ansi_cells.specs.declared.sides.Side.{Side}
use Rattle.ansi_cells.specs.declared.sides.Side.TheVariants.{End, Start, Middle}
use Rattle.ansi_cells.specs.Addresses.{LinkedByte, linked}
use Rattle.ansi_clusters.specs.Columns.{clusters, cluster_width, columns, columns_of, bytes_of, fitting_end}
use Rattle.ansi_cells.specs.Fitted.{fitted}
use Rattle.ansi_cells.specs.Indents.{shown_indent, text_width, indented, wrapped_with}
use Rattle.ansi_clusters.specs.Lines.{lines}
use Rattle.ansi_cells.specs.Rows.{Row, row, cell_row, row_bytes, row_width, row_screen, no_row, joined, row_range, row_up_to, blank_row, blanks_like, fitting_row, truncated_row, padded_row, fitted_row, row_columns, sliced_row, fitting_tail_row, cut_row, truncated_row_at, line_rows, indented_rows, indented_screens}
use Rattle.ansi_cells.specs.Screens.{screen}
use Rattle.ansi_cells.specs.Shown.{closing, truncated, before_text, padded, closed_cell}
use Rattle.ansi_cells.specs.Sides.{fitting_tail, beside_tail, before_tail, cut_before_end, truncated_at}
use Rattle.ansi_cells.specs.Slices.{has_no_column, column_place, bytes_from, bytes_up_to, blanks_before, blanks_after, sliced_up_to, sliced}
use Rattle.ansi_cells.specs.Wrapped.{CarriedPart, wrapped}
use Rattle.ansi_cells.proofs.IndentLemmas.{padded-closed_alone}
use Rattle.ansi_cells.proofs.IndentLawLemmas.{IsShut, linked-shut, shut-append, shut-cell, wrapped_are_shut}
use Rattle.ansi_cells.proofs.LinkedLawLemmas.{IsLinked-append, IsLinked-text, linked-pieces, truncated-linked, truncated-whole, padded-linked}
use Rattle.ansi_cells.proofs.ScreenLemmas.{length-styled, length-linked}
use Rattle.ansi_cells.proofs.ShownLawLemmas.{bytes_of-clusters, fitting_end-is}
use Rattle.ansi_cells.proofs.SliceLawLemmas.{sliced-whole, sliced-closed}
use Rattle.ansi_cells.proofs.SliceLemmas.{sliced-nothing}
use Rattle.ansi_cells.proofs.SliceScreenLemmas.{row-some}
use Rattle.ansi_cells.proofs.StyledLawLemmas.{IsStyled, IsStyled-append, IsStyled-text, truncated-styled, padded-styled}
use Rattle.ansi_cells.proofs.OneLineLemmas.{safe-paragraph}
use Rattle.ansi_cells.proofs.TailLemmas.{shut-nil}
use Rattle.ansi_cells.proofs.WrapLawLemmas.{wrapped-styled, wrapped-linked}
use Rattle.ansi_cells.proofs.WrapScreenLemmas.{screen-by, zipped}

-- the bytes of the row of a text are its plain text
pub bytes-row : (t : List ℕ) → row_bytes (row t) ≡ plain t
bytes-row t = unstyled-styled t

pub screen-row : (t : List ℕ) → screen t ≡ row_screen (row t)
screen-row t = screen-by t

abbrev row_of : List StyledByte → List LinkedByte → Row
row_of ss ls = record { styled = ss; linked = ls }

rows : {ss ss' : List StyledByte} {ls ls' : List LinkedByte} → ss ≡ ss' → ls ≡ ls' → row_of ss ls ≡ row_of ss' ls'
rows same alike = ap₂ row_of same alike

-- ---- texts one after another, the first of them closed

styled-shut : (t : List ℕ) → IsShut t → IsStyled plain_style t (styled t) plain_style
styled-shut t shut = (let is = IsStyled-text t shut.whole in record { whole = is.whole; bytes = is.bytes; after = is.after ∙ shut.closed.style })

pub row-append : (u v : List ℕ) → IsShut u → IsTrue (is_whole v) → row (u ++ v) ≡ joined (row u) (row v)
row-append u v shut whole =
    rows (styled-pieces (u ++ v) ∙ (IsStyled-append (styled-shut u shut) (IsStyled-text v whole)).bytes)
    (linked-pieces (u ++ v) ∙ (IsLinked-append (linked-shut u shut) (IsLinked-text v whole)).bytes)

-- ---- a truncated text

-- all of it fits
end-all : (x : List ℕ) (width : ℕ) → IsUtf8 x → columns x ≤ width → length x ≤ fitting_end width (clusters x)
end-all x width utf8 fits =
    let is = fitting_end-is x width in
    elim (cases_lt is.count (length (clusters x))) [
      | inl less ↦ absurd (omega (arith, is.greatest less, fits, ap columns_of (take-append-drop (is.count + 1) (clusters x)), sum_by-append cluster_width (take (is.count + 1) (clusters x)) (drop (is.count + 1) (clusters x))))
      | inr all ↦ omega (arith, is.boundary, ap bytes_of (take_all is.count (clusters x) all), bytes_of-clusters x utf8)
    ]

module _ (t : List ℕ) (width : ℕ) (tail : List ℕ) (utf8 : IsUtf8 t) (whole : IsTrue (is_whole t)) where
  by_case : (fits narrow : Bool) → (fits ≡ true → columns (plain t) ≤ width) → (let end = fitting_end (if not fits && narrow then width - columns (plain tail) else width) (clusters (plain t)) in
      joined (row_up_to end (row t)) (record { styled = if not fits && narrow then styled tail else []; linked = if not fits && narrow then linked tail else [] })
      ≡ (if fits then row t
      else if narrow then joined (row_up_to (fitting_end (width - columns (plain tail)) (clusters (plain t))) (row t)) (row tail)
      else row_up_to (fitting_end width (clusters (plain t))) (row t)))
  by_case true narrow fit =
      let all = end-all (plain t) width (IsUtf8-plain t utf8) (fit refl) in
      let end = fitting_end width (clusters (plain t)) in
      rows (append-nil (take end (styled t)) ∙ take_all end (styled t) (omega (arith, all, length-styled t)))
      (append-nil (take end (linked t)) ∙ take_all end (linked t) (omega (arith, all, length-linked t)))
  by_case false true fit = refl
  by_case false false fit =
      let end = fitting_end width (clusters (plain t)) in
      rows (append-nil (take end (styled t))) (append-nil (take end (linked t)))

  pub row-truncated : IsTrue (is_whole tail) → row (truncated t width tail) ≡ truncated_row width (row tail) (row t)
  unfolding truncated_row
  row-truncated tail_whole =
      rows (truncated-styled t width tail whole tail_whole) (truncated-linked t width tail whole tail_whole)
      ∙ by_case (nat_le (columns (plain t)) width) (nat_le (columns (plain tail)) width) (leb-true (columns (plain t)) width)
      ∙ ap₂ (λ x y. if nat_le (columns x) width then row t
      else if nat_le (columns y) width then joined (row_up_to (fitting_end (width - columns y) (clusters x)) (row t)) (row tail)
      else row_up_to (fitting_end width (clusters x)) (row t))
      (sym (bytes-row t)) (sym (bytes-row tail))

-- ---- a padded and a fitted text

pub row-padded : (t : List ℕ) (width : ℕ) (alignment : Alignment) → IsTrue (is_whole t) → row (padded t width alignment) ≡ padded_row width alignment (row t)
unfolding padded_row
row-padded t width alignment whole =
    rows (padded-styled t width alignment whole) (padded-linked t width alignment whole)
    ∙ ap (λ x. (let n = width - columns x in joined (joined (blank_row (before_text alignment n)) (row t)) (blank_row (n - before_text alignment n)))) (sym (bytes-row t))

pub row-fitted : (t : List ℕ) (width : ℕ) (alignment : Alignment) (tail : List ℕ) → IsUtf8 t → IsTrue (is_whole t) → IsTrue (is_whole tail) → row (fitted t width alignment tail) ≡ fitted_row width alignment (row tail) (row t)
row-fitted t width alignment tail utf8 whole tail_whole =
    row-padded (truncated t width tail) width alignment (truncated-whole t width tail whole tail_whole)
    ∙ ap (padded_row width alignment) (row-truncated t width tail utf8 whole tail_whole)

-- what closes a text has no text
pub row-closed : (t : List ℕ) → IsTrue (is_whole t) → row (t ++ closing t) ≡ row t
unfolding padded_row
row-closed t whole =
    let none : 0 - row_width (row t) - 0 ≡ 0 = omega arith in
    ap row (sym (padded-closed_alone t)) ∙ row-padded t 0 Left whole
    ∙ ap (λ n. joined (joined (blank_row 0) (row t)) (blank_row n)) none ∙ rows (append-nil (styled t)) (append-nil (linked t))

pub row-closed_cell : (t : List ℕ) → IsUtf8 t → row (closed_cell t) ≡ cell_row t
row-closed_cell t utf8 = row-closed (cell t) (whole-cell t utf8)

-- ---- columns of a text

pub row-columns : (t : List ℕ) (a b : ℕ) → IsUtf8 t → IsTrue (is_whole t) → row (sliced_up_to t a b) ≡ row_columns a b (row t)
unfolding row_columns
row-columns t a b utf8 whole = by_case ∙ ap columns_in (sym (bytes-row t))
  where
    some_columns : List ℕ → Row
    some_columns x = joined (blanks_like (blanks_before x a b) (column_place x a) (row t)) (joined (row_range (bytes_from x a) (bytes_up_to x b) (row t)) (blanks_like (blanks_after x a b) (bytes_up_to x b) (row t)))

    columns_in : List ℕ → Row
    columns_in x = if has_no_column x a b then no_row else some_columns x

    by_case : row (sliced_up_to t a b) ≡ columns_in (plain t)
    by_case = elim (cases_Bool (has_no_column (plain t) a b)) [
      | inl none ↦ ap row (sym (sliced-nothing t a b none)) ∙ sym (ap (λ c. if c then no_row else some_columns (plain t)) none)
      | inr some ↦ row-some t a b utf8 whole some ∙ sym (ap (λ c. if c then no_row else some_columns (plain t)) some)
    ]

pub row-sliced : (t : List ℕ) (a : ℕ) (end : Option ℕ) → IsUtf8 t → IsTrue (is_whole t) → row (sliced t a end) ≡ sliced_row a end (row t)
row-sliced t a end utf8 whole =
    row-columns t a (unwrap_or end (columns (plain t))) utf8 whole ∙ ap (λ x. row_columns a (unwrap_or end (columns x)) (row t)) (sym (bytes-row t))

-- ---- a text truncated at a side

module _ (t : List ℕ) (width : ℕ) (tail : List ℕ) (utf8 : IsUtf8 t) (whole : IsTrue (is_whole t)) (shut : IsShut tail) where
  between-row : row (fitting_tail width tail) ≡ fitting_tail_row width (row tail)
  between-row = either (nat_le (columns (plain tail)) width) ∙ ap (λ x. if nat_le (columns x) width then row tail else no_row) (sym (bytes-row tail))
    where
      either : (b : Bool) → row (if b then tail else []) ≡ (if b then row tail else no_row)
      either true = refl
      either false = refl

  between-shut : IsShut (fitting_tail width tail)
  between-shut = either (nat_le (columns (plain tail)) width)
    where
      either : (b : Bool) → IsShut (if b then tail else [])
      either true = shut
      either false = shut-nil

  slice-shut : (a b : ℕ) → IsShut (sliced_up_to t a b)
  slice-shut a b = record { whole = sliced-whole t a b utf8 whole; closed = sliced-closed t a b utf8 whole }

  -- what is left of it around a text
  abbrev around : Side → Row → ℕ → List ℕ → Row
  around side between taken x =
      let room = width - taken in
      let first = before_tail side room in
      joined (joined (row_columns 0 first (row t)) between) (row_columns (columns x - (room - first)) (columns x) (row t))

  row-cut : (side : Side) → row (cut_before_end side t width tail) ≡ cut_row side width (row tail) (row t)
  row-cut side =
      let between = fitting_tail width tail in
      let room = beside_tail width tail in
      let first = before_tail side room in
      let all = columns (plain t) in
      let front = sliced_up_to t 0 first in
      let back = sliced_up_to t (all - (room - first)) all in
      row-append (front ++ between) back (shut-append front between (slice-shut 0 first) between-shut) (slice-shut (all - (room - first)) all).whole
      ∙ ap₂ joined (row-append front between (slice-shut 0 first) between-shut.whole ∙ ap (λ r. joined r (row between)) (row-columns t 0 first utf8 whole)) (row-columns t (all - (room - first)) all utf8 whole)
      ∙ ap₂ (λ y x. around side (row between) (columns y) x) (sym (bytes-row between)) (sym (bytes-row t))
      ∙ ap (λ r. around side r (row_width r) (row_bytes (row t))) between-row

  row-whole : nat_le (columns (plain t)) width ≡ true → row (truncated t width tail) ≡ row t
  unfolding truncated_row
  row-whole fits =
      row-truncated t width tail utf8 whole shut.whole
      ∙ ap (λ b. if b then row t else if nat_le (row_width (row tail)) width then joined (fitting_row (width - row_width (row tail)) (row t)) (row tail) else fitting_row width (row t))
      (ap (λ x. nat_le (columns x) width) (bytes-row t) ∙ fits)

  before_end : (side : Side) → row (if nat_le (columns (plain t)) width then truncated t width tail else cut_before_end side t width tail) ≡ (if nat_le (row_width (row t)) width then row t else cut_row side width (row tail) (row t))
  before_end side = by_fit ∙ ap (λ x. if nat_le (columns x) width then row t else cut_row side width (row tail) (row t)) (sym (bytes-row t))
    where
      by_fit : row (if nat_le (columns (plain t)) width then truncated t width tail else cut_before_end side t width tail) ≡ (if nat_le (columns (plain t)) width then row t else cut_row side width (row tail) (row t))
      by_fit = elim (cases_Bool (nat_le (columns (plain t)) width)) [
        | inl fits ↦ ap (λ b. row (if b then truncated t width tail else cut_before_end side t width tail)) fits ∙ row-whole fits ∙ sym (ap (λ b. if b then row t else cut_row side width (row tail) (row t)) fits)
        | inr wide ↦ ap (λ b. row (if b then truncated t width tail else cut_before_end side t width tail)) wide ∙ row-cut side ∙ sym (ap (λ b. if b then row t else cut_row side width (row tail) (row t)) wide)
      ]

  pub row-truncated_at : (side : Side) → row (truncated_at side t width tail) ≡ truncated_row_at side width (row tail) (row t)
  unfolding truncated_at truncated_row_at
  row-truncated_at End = row-truncated t width tail utf8 whole shut.whole
  row-truncated_at Start = before_end Start
  row-truncated_at Middle = before_end Middle

-- ---- lines

pub row-lines : (t : List ℕ) (width : ℕ) → IsTrue (is_safe Keep (paragraph t)) → map (λ (l : CarriedPart). row l.bytes) (wrapped t width) ≡ line_rows width (paragraph t)
row-lines t width safe =
    let p = paragraph t in
    zipped row_of (λ (l : CarriedPart). styled l.bytes) (λ (l : CarriedPart). linked l.bytes) (λ (i : ℕ × ℕ). slice_range (styled p) i.0 i.1) (λ (i : ℕ × ℕ). slice_range (linked p) i.0 i.1)
    (wrapped t width) (lines width (plain p)) (wrapped-styled t width safe) (wrapped-linked t width safe)

row-indented : (first later : List ℕ) (ls : List CarriedPart) → IsShut (shown_indent first) → IsShut (shown_indent later) → All (λ (l : CarriedPart). IsShut l.bytes) ls
    → map (λ (l : CarriedPart). row l.bytes) (indented first later ls) ≡ indented_rows (row (closed_cell first)) (row (closed_cell later)) (map (λ (l : CarriedPart). row l.bytes) ls)
row-indented first later [] begun others all = refl
row-indented first later (l ∷ ls) begun others all =
    let is : IsShut l.bytes = All-head (λ (l : CarriedPart). IsShut l.bytes) l ls all in
    ap₂ (λ r rs. r ∷ rs) (row-append (shown_indent first) l.bytes begun is.whole) (row-indented later later ls others others (All-tail (λ (l : CarriedPart). IsShut l.bytes) l ls all))

screens-rows : (ls : List CarriedPart) → map (λ (l : CarriedPart). screen l.bytes) ls ≡ map row_screen (map (λ (l : CarriedPart). row l.bytes) ls)
screens-rows [] = refl
screens-rows (l ∷ ls) = ap₂ (λ c cs. c ∷ cs) (screen-row l.bytes) (screens-rows ls)

-- what lines after indents show
pub screens-wrapped_with : (t first later : List ℕ) (width : ℕ) → IsUtf8 t → IsUtf8 first → IsUtf8 later → map (λ (l : CarriedPart). screen l.bytes) (wrapped_with t width first later) ≡ indented_screens t width first later
screens-wrapped_with t first later width utf8 first_utf8 later_utf8 =
    let room = text_width width first later in
    let safe = safe-paragraph t utf8 in
    screens-rows (wrapped_with t width first later)
    ∙ ap (map row_screen) (
    row-indented first later (wrapped t room) (shut-cell first first_utf8) (shut-cell later later_utf8) (wrapped_are_shut t room safe)
    ∙ ap (indented_rows (row (closed_cell first)) (row (closed_cell later))) (row-lines t room safe)
    ∙ ap₂ (λ f l. indented_rows f l (line_rows room (paragraph t))) (row-closed_cell first first_utf8) (row-closed_cell later later_utf8))

-- ---- as clauses say it of texts of cells

module _ (t : List ℕ) (utf8 : IsUtf8 t) where
  pub screen-padded_cell : {u : List ℕ} (width : ℕ) (alignment : Alignment) → u ≡ padded (cell t) width alignment → screen u ≡ row_screen (padded_row width alignment (cell_row t))
  screen-padded_cell {u} width alignment is = screen-row u ∙ ap row_screen (ap row is ∙ row-padded (cell t) width alignment (whole-cell t utf8))

  module _ (tail : List ℕ) (tail_utf8 : IsUtf8 tail) where
    tail_shut : IsShut (closed_cell tail)
    tail_shut = shut-cell tail tail_utf8

    pub screen-truncated_cell : {u : List ℕ} (width : ℕ) → u ≡ truncated (cell t) width (closed_cell tail) → screen u ≡ row_screen (truncated_row width (cell_row tail) (cell_row t))
    screen-truncated_cell {u} width is = screen-row u ∙ ap row_screen (ap row is ∙ row-truncated (cell t) width (closed_cell tail) (IsUtf8-cell t utf8) (whole-cell t utf8) tail_shut.whole ∙ ap (λ r. truncated_row width r (cell_row t)) (row-closed_cell tail tail_utf8))

    pub screen-truncated_cell_at : {u : List ℕ} (width : ℕ) (side : Side) → u ≡ truncated_at side (cell t) width (closed_cell tail) → screen u ≡ row_screen (truncated_row_at side width (cell_row tail) (cell_row t))
    screen-truncated_cell_at {u} width side is = screen-row u ∙ ap row_screen (ap row is ∙ row-truncated_at (cell t) width (closed_cell tail) (IsUtf8-cell t utf8) (whole-cell t utf8) tail_shut side ∙ ap (λ r. truncated_row_at side width r (cell_row t)) (row-closed_cell tail tail_utf8))

    pub screen-fitted_cell : {u : List ℕ} (width : ℕ) (alignment : Alignment) → u ≡ fitted (cell t) width alignment (closed_cell tail) → screen u ≡ row_screen (fitted_row width alignment (cell_row tail) (cell_row t))
    screen-fitted_cell {u} width alignment is = screen-row u ∙ ap row_screen (ap row is ∙ row-fitted (cell t) width alignment (closed_cell tail) (IsUtf8-cell t utf8) (whole-cell t utf8) tail_shut.whole ∙ ap (λ r. fitted_row width alignment r (cell_row t)) (row-closed_cell tail tail_utf8))

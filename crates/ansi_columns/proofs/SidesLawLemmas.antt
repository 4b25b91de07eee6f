-- The width of a text truncated at a side: it has at most the columns that are asked for.
use Rattle.std.proofs.Common.{◌≡◌, ℕ, ◌+◌, ◌-◌, ◌≤◌, max, inl, inr, Bool, true, false, ◌&&◌, List, [], ◌∷◌, ◌++◌, length, drop, slice_range, nat_le, nat_lt, if◌then◌else◌, IsTrue, refl, sym, ◌∙◌, ap, arith, length-append}
use Rattle.std.specs.List.{list_all}
use Rattle.std.specs.Str.{IsUtf8}
use Rattle.std.proofs.lemmas.Bool.{cases_Bool, cases_lt, and_from, leb-true}
use Rattle.std.proofs.lemmas.List.Folds.{list_all-append}
use Rattle.ansi_items.specs.Plain.{plain, is_whole}
use Rattle.ansi_items.proofs.JoinLemmas.{is_whole-append}
use Rattle.ansi_search.proofs.SliceLemmas.{list_all-parts}
use Rattle.ansi_style.specs.Styled.{styled}
use Rattle.ansi_cells.specs.Addresses.{linked}
use Rattle.ansi_cells.specs.declared.sides.Side.{Side}
use Rattle.ansi_cells.specs.declared.sides.Side.TheVariants.{End, Start, Middle}
use Rattle.ansi_clusters.specs.Columns.{clusters, columns}
use Rattle.ansi_cells.specs.Screens.{Column, screen, blank_for, shown_in, shown_from}
use Rattle.ansi_cells.specs.Shown.{truncated}
use Rattle.ansi_clusters.specs.Lines.{blanks}
use Rattle.ansi_cells.specs.Sides.{fitting_tail, beside_tail, before_tail, is_cut_at_end, cut_before_end, truncated_at}
use Rattle.ansi_cells.specs.Slices.{has_no_column, bytes_from, bytes_up_to, blanks_before, blanks_after, sliced_up_to}
use Rattle.ansi_clusters.proofs.AsciiLemmas.{is_printable, columns-printable}
use Rattle.ansi_cells.proofs.KeptLemmas.{plain-append}
use Rattle.ansi_cells.proofs.ScreenLemmas.{length-screen_of, shown_in-early, shown_in-late}
use Rattle.ansi_cells.proofs.ShownLawLemmas.{blanks_are_printable, truncated-columns}
use Rattle.ansi_cells.proofs.SliceLawLemmas.{sliced-whole}
use Rattle.ansi_cells.proofs.SliceLemmas.{sliced-nothing}
use Rattle.ansi_cells.proofs.SliceScreenLemmas.{plain_is, slice-screen}

-- ---- a slice has no more columns than are asked for

one : (a b i : ℕ) (c : Column) → length (shown_in a b i c) ≤ 1
one a b i c = either (nat_le a i && nat_lt i b)
  where
    either : (shows : Bool) → length (if shows then (if nat_le (a + c.index) i && nat_le (i + c.width) (b + c.index) then c else blank_for c) ∷ [] else []) ≤ 1
    either true = omega arith
    either false = omega arith

length-shown : (a b i : ℕ) (cs : List Column) → length (shown_from a b i cs) ≤ b - max a i
length-shown a b i [] = omega arith
length-shown a b i (c ∷ cs) =
    let both = length-append (shown_in a b i c) (shown_from a b (i + 1) cs) in
    let rest = length-shown a b (i + 1) cs in
    elim (cases_lt i a) [
      | inl early ↦ omega (arith, early, both, rest, ap length (shown_in-early a b i c early))
      | inr from ↦ elim (cases_lt i b) [
        | inl inside ↦ omega (arith, from, inside, both, rest, one a b i c)
        | inr late ↦ omega (arith, from, late, both, rest, ap length (shown_in-late a b i c late))
      ]
    ]

module _ (t : List ℕ) (a b : ℕ) (utf8 : IsUtf8 t) (whole : IsTrue (is_whole t)) where
  sliced-columns : columns (plain (sliced_up_to t a b)) ≤ b - a
  sliced-columns =
      let u = sliced_up_to t a b in
      omega (arith, ap length (slice-screen t a b utf8 whole), length-screen_of (clusters (plain u)) (styled u) (linked u), length-shown a b 0 (screen t))

  -- a slice of printable ASCII is printable ASCII

  module _ (printable : list_all is_printable (plain t) ≡ true) where
    abbrev text : List ℕ
    text = slice_range (plain t) (bytes_from (plain t) a) (bytes_up_to (plain t) b)

    text_printable : list_all is_printable text ≡ true
    text_printable =
        (list_all-parts is_printable (bytes_up_to (plain t) b - bytes_from (plain t) a) (drop (bytes_from (plain t) a) (plain t))
        (list_all-parts is_printable (bytes_from (plain t) a) (plain t) printable).1).0

    abbrev after : List ℕ
    after = text ++ blanks (blanks_after (plain t) a b)

    after_printable : list_all is_printable after ≡ true
    after_printable = list_all-append is_printable text (blanks (blanks_after (plain t) a b)) ∙ and_from _ _ text_printable (blanks_are_printable (blanks_after (plain t) a b))

    all_printable : list_all is_printable (blanks (blanks_before (plain t) a b) ++ after) ≡ true
    all_printable = list_all-append is_printable (blanks (blanks_before (plain t) a b)) after ∙ and_from _ _ (blanks_are_printable (blanks_before (plain t) a b)) after_printable

    sliced-printable : list_all is_printable (plain (sliced_up_to t a b)) ≡ true
    sliced-printable = elim (cases_Bool (has_no_column (plain t) a b)) [
      | inl none ↦ ap (λ u. list_all is_printable (plain u)) (sym (sliced-nothing t a b none))
      | inr some ↦ ap (list_all is_printable) (plain_is t a b utf8 whole some) ∙ all_printable
    ]

    sliced-length : length (plain (sliced_up_to t a b)) ≤ b - a
    sliced-length = omega (arith, sliced-columns, columns-printable (plain (sliced_up_to t a b)) sliced-printable)

-- ---- the two slices and the tail between them

module _ (width : ℕ) (tail : List ℕ) where
  tail-whole : IsTrue (is_whole tail) → IsTrue (is_whole (fitting_tail width tail))
  tail-whole whole = either (nat_le (columns (plain tail)) width)
    where
      either : (b : Bool) → IsTrue (is_whole (if b then tail else []))
      either true = whole
      either false = refl

  tail-printable : list_all is_printable (plain tail) ≡ true → list_all is_printable (plain (fitting_tail width tail)) ≡ true
  tail-printable printable = either (nat_le (columns (plain tail)) width)
    where
      either : (b : Bool) → list_all is_printable (plain (if b then tail else [])) ≡ true
      either true = printable
      either false = refl

  tail-narrow : list_all is_printable (plain tail) ≡ true → columns (plain (fitting_tail width tail)) ≤ width
  tail-narrow printable = elim (cases_Bool (nat_le (columns (plain tail)) width)) [
    | inl fits ↦ omega (arith, leb-true (columns (plain tail)) width fits, ap (λ b. columns (plain (if b then tail else []))) fits)
    | inr wide ↦ omega (arith, ap (λ b. columns (plain (if b then tail else []))) wide, columns-printable [] refl)
  ]

before_tail-within : (side : Side) (n : ℕ) → before_tail side n ≤ n
before_tail-within End n = omega arith
before_tail-within Start n = omega arith
before_tail-within Middle n = omega arith

module _ (side : Side) (t : List ℕ) (width : ℕ) (tail : List ℕ) (utf8 : IsUtf8 t) (whole : IsTrue (is_whole t)) (tail_whole : IsTrue (is_whole tail))
    (printable : list_all is_printable (plain t) ≡ true) (tail_printable : list_all is_printable (plain tail) ≡ true) where
  cut-narrow : columns (plain (cut_before_end side t width tail)) ≤ width
  cut-narrow =
      let all = columns (plain t) in
      let between = fitting_tail width tail in
      let room = beside_tail width tail in
      let first = before_tail side room in
      let front = sliced_up_to t 0 first in
      let back = sliced_up_to t (all - (room - first)) all in
      let between_whole = tail-whole width tail tail_whole in
      let front_whole = sliced-whole t 0 first utf8 whole in
      let back_whole = sliced-whole t (all - (room - first)) all utf8 whole in
      let between_printable = tail-printable width tail tail_printable in
      let front_printable = sliced-printable t 0 first utf8 whole printable in
      let back_printable = sliced-printable t (all - (room - first)) all utf8 whole printable in
      let is : plain ((front ++ between) ++ back) ≡ (plain front ++ plain between) ++ plain back
      = plain-append (front ++ between) back (is_whole-append front between front_whole between_whole) back_whole ∙ ap (λ u. u ++ plain back) (plain-append front between front_whole between_whole) in
      let joined : list_all is_printable ((plain front ++ plain between) ++ plain back) ≡ true
      = list_all-append is_printable (plain front ++ plain between) (plain back) ∙ and_from _ _ (list_all-append is_printable (plain front) (plain between) ∙ and_from _ _ front_printable between_printable) back_printable in
      omega (
        arith,
        ap columns is,
        columns-printable ((plain front ++ plain between) ++ plain back) joined,
        length-append (plain front ++ plain between) (plain back),
        length-append (plain front) (plain between),
        sliced-length t 0 first utf8 whole printable,
        sliced-length t (all - (room - first)) all utf8 whole printable,
        columns-printable (plain between) between_printable,
        tail-narrow width tail tail_printable,
        before_tail-within side room,
      )

  pub truncated_at-narrow : columns (plain (truncated_at side t width tail)) ≤ width
  unfolding truncated_at
  truncated_at-narrow = elim (cases_Bool (is_cut_at_end side t width)) [
    | inl at_end ↦ omega (
      arith,
      ap (λ b. columns (plain (if b then truncated t width tail else cut_before_end side t width tail))) at_end,
      truncated-columns t width tail printable tail_printable whole tail_whole,
    )
    | inr before ↦ omega (arith, ap (λ b. columns (plain (if b then truncated t width tail else cut_before_end side t width tail))) before, cut-narrow)
  ]

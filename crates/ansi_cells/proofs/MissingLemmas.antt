-- The columns that a truncated text lacks, if a cluster ends before its tail.
use Rattle.std.proofs.Common.{◌≡◌, ◌≢◌, ℕ, ◌+◌, inl, inr, Bool, true, false, List, [], ◌∷◌, ◌++◌, take, reverse, chars, encode_utf8_all, flat_map, if◌then◌else◌, IfSome, IsTrue, refl, sym, ◌∙◌, ap, subst, arith, append-nil, append_assoc}
use Rattle.std.specs.Bool.{then_some}
use Rattle.std.specs.List.{list_all}
use Rattle.std.specs.Str.{IsUtf8}
use Rattle.std.proofs.lemmas.Bool.{cases_Bool}
use Rattle.std.proofs.lemmas.List.{reverse-append, reverse-reverse}
use Rattle.std.proofs.lemmas.List.Sums.{sum_by-append}
use Rattle.std.proofs.lemmas.Str.{chars-append, chars-encodes, scalars-chars, IsUtf8-take}
use Rattle.unicode_segmentation.specs.Grapheme.{is_grapheme_break}
use Rattle.unicode_segmentation.specs.Segments.{prepend}
use Rattle.ansi_items.specs.Bytes.{is_plain_byte}
use Rattle.ansi_items.specs.Plain.{plain, is_whole}
use Rattle.ansi_items.proofs.Utf8Lemmas.{IsUtf8-plain}
use Rattle.ansi_items.proofs.PlainLemmas.{has_escape-bare, plain-bare}
use Rattle.ansi_safe.specs.Cells.{cell, cell_char}
use Rattle.ansi_safe.proofs.CellLemmas.{cell_chars-allowed}
use Rattle.ansi_safe.proofs.CellTextLemmas.{whole-cell}
use Rattle.ansi_clusters.specs.declared.views.View.TheVariants.{Shown}
use Rattle.ansi_clusters.specs.declared.walks.Walk.{Walk}
use Rattle.ansi_clusters.specs.BreakStates.{break_state_of}
use Rattle.ansi_clusters.specs.Columns.{columns, columns_of, cluster_width}
use Rattle.ansi_cells.specs.Shown.{has_tail, truncated_width, truncated_end, truncated, missing, closing}
use Rattle.ansi_clusters.specs.Views.{seen_len, seen_text}
use Rattle.ansi_clusters.specs.Walks.{clusters_after, IsWalkIn, SeesUpTo}
use Rattle.ansi_cells.proofs.BreakLawLemmas.{clusters-alone}
use Rattle.ansi_cells.proofs.ClosedLemmas.{closed_cut, closing-cut, plain-cut}
use Rattle.ansi_clusters.proofs.ClusterLemmas.{clusters-none}
use Rattle.ansi_clusters.proofs.ClusterLawLemmas.{reversed_before, next-alone, breaks-last, cluster-joins, cluster-alone, clusters-some, shown-taken}
use Rattle.ansi_clusters.proofs.FitLemmas.{fitting_end-fits}
use Rattle.ansi_clusters.proofs.WalkLemmas.{walk_boundary}

-- ---- two texts in a row, where a cluster ends between them

clusters-apart : (before cs ds : List ℕ) → (cs ≢ [] → is_grapheme_break true (reversed_before before cs) ds ≡ true) → clusters_after before (cs ++ ds) ≡ clusters_after before cs ++ clusters_after (reversed_before before cs) ds
clusters-apart before [] ds apart = ap (λ ks. ks ++ clusters_after before ds) (sym (clusters-none before))
clusters-apart before (c ∷ []) ds apart =
    cluster-alone before c ds (apart (λ none. cc))
    ∙ ap (λ ks. ks ++ clusters_after (c ∷ before) ds) (sym (cluster-alone before c [] (breaks-last c before) ∙ ap (λ ks. (c ∷ []) ∷ ks) (clusters-none (c ∷ before))))
clusters-apart before (c ∷ d ∷ cs) ds apart =
    let more = clusters-apart (c ∷ before) (d ∷ cs) ds (λ some. apart (λ none. cc)) in
    let last = clusters_after (reversed_before before (c ∷ d ∷ cs)) ds in
    elim (cases_Bool (is_grapheme_break true (c ∷ before) (d ∷ cs))) [
      | inl breaks ↦ cluster-alone before c (d ∷ cs ++ ds) (next-alone c before d (cs ++ ds) cs ∙ breaks)
          ∙ ap (λ ks. (c ∷ []) ∷ ks) more ∙ ap (λ ks. ks ++ last) (sym (cluster-alone before c (d ∷ cs) breaks))
      | inr joins ↦ (
          let head = clusters-some (c ∷ before) d cs in
          cluster-joins before c (d ∷ cs ++ ds) (next-alone c before d (cs ++ ds) cs ∙ joins)
          ∙ ap (prepend (c ∷ [])) (more ∙ ap (λ ks. ks ++ last) head.2)
          ∙ ap (λ ks. prepend (c ∷ []) ks ++ last) (sym head.2)
          ∙ ap (λ ks. ks ++ last) (sym (cluster-joins before c (d ∷ cs) joins)))
    ]

pub reversed-is : (before cs : List ℕ) → reversed_before before cs ≡ reverse cs ++ before
reversed-is before [] = refl
reversed-is before (c ∷ cs) =
    reversed-is (c ∷ before) cs ∙ sym (append_assoc (reverse cs) (c ∷ []) before) ∙ ap (λ u. u ++ before) (sym (reverse-append (c ∷ []) cs))

-- clusters after such a place are those of the second text alone
clusters-after : (cs ds : List ℕ) → (cs ≢ [] → is_grapheme_break true (reversed_before [] cs) ds ≡ true) → clusters_after (reversed_before [] cs) ds ≡ clusters_after [] ds
clusters-after [] ds apart = refl
clusters-after (c ∷ cs) ds apart = clusters-alone (reversed_before [] (c ∷ cs)) ds (apart (λ none. cc))

columns-apart : (x y : List ℕ) → IsUtf8 x → (chars x ≢ [] → is_grapheme_break true (reverse (chars x)) (chars y) ≡ true) → columns (x ++ y) ≡ columns x + columns y
columns-apart x y utf8 apart =
    let cs = chars x in
    let is : reversed_before [] cs ≡ reverse cs = reversed-is [] cs ∙ append-nil (reverse cs) in
    let breaks : cs ≢ [] → is_grapheme_break true (reversed_before [] cs) (chars y) ≡ true = λ some. ap (λ u. is_grapheme_break true u (chars y)) is ∙ apart some in
    ap columns_of (ap (clusters_after []) (chars-append x y utf8) ∙ clusters-apart [] cs (chars y) breaks ∙ ap (λ ks. clusters_after [] cs ++ ks) (clusters-after cs (chars y) breaks))
    ∙ sum_by-append cluster_width (clusters_after [] cs) (clusters_after [] (chars y))

-- a value that is known only if a test holds
pub known_if : (P : ℕ → Type 0) (b : Bool) (n : ℕ) → (b ≡ true → P n) → IfSome (then_some b n) P
known_if P true n holds = holds refl
known_if P false n holds = tt

-- ---- a truncated text with a tail without sequences

truncated-cut : (t : List ℕ) (width : ℕ) (tail last : List ℕ) → last ≡ (if has_tail t width tail then tail else []) → closed_cut t (truncated_end t width tail) last ≡ truncated t width tail
unfolding truncated
truncated-cut t width tail last is = ap (λ u. closed_cut t (truncated_end t width tail) u) is

-- the columns that a truncated text lacks are n, and nothing is open at its end
abbrev pub IsLack : List ℕ → ℕ → List ℕ → ℕ → Type 0
IsLack t width tail n = (n ≡ missing (truncated t width tail) width) × (closing (truncated t width tail) ≡ [])

pub lack-of : (t : List ℕ) (width : ℕ) (tail last : List ℕ) (left : ℕ) → IsTrue (is_whole t) → last ≡ (if has_tail t width tail then tail else []) → list_all is_plain_byte last ≡ true
    → columns (take (truncated_end t width tail) (plain t) ++ last) + left ≡ width → IsLack t width tail left
lack-of t width tail last left whole is bare sum =
    let end = truncated_end t width tail in
    subst (λ u. (left ≡ missing u width) × (closing u ≡ [])) (truncated-cut t width tail last is)
    (omega (arith, sum, ap columns (plain-cut t end last whole bare)), closing-cut t end last whole bare)

module _ (t : List ℕ) (utf8 : IsUtf8 t) (width : ℕ) (tail : List ℕ) (w : Walk) (walk : IsWalkIn Shown t w) (sees : SeesUpTo Shown t (truncated_width (cell t) width tail) w.position) (left : ℕ) where
  abbrev pub seen_columns : ℕ
  seen_columns = columns (take (seen_len Shown t w.position) (seen_text Shown t))

  end-is : seen_len Shown t w.position ≡ truncated_end (cell t) width tail
  end-is = fitting_end-fits sees.fits

  -- no tail is written
  pub lack-alone : seen_columns + left ≡ width → [] ≡ (if has_tail (cell t) width tail then tail else []) → IsLack (cell t) width tail left
  lack-alone sum none =
      lack-of (cell t) width tail [] left (whole-cell t utf8) none refl
      (subst (λ e. columns (take e (plain (cell t)) ++ []) + left ≡ width) end-is (subst (λ x. columns x + left ≡ width) (sym (append-nil _)) sum))

  -- what is written has no sequences, and a cluster ends before it
  pub lack-beside : (last : List ℕ) → seen_columns + left + columns (plain last) ≡ width → last ≡ (if has_tail (cell t) width tail then tail else []) → list_all is_plain_byte last ≡ true
      → ((before : List ℕ) → before ≢ [] → w.break_state ≡ break_state_of before → is_grapheme_break true before (chars last) ≡ true) → IsLack (cell t) width tail left
  lack-beside last sum written bare breaks =
      let x = take (seen_len Shown t w.position) (plain (cell t)) in
      let front = take w.position (plain t) in
      let cs = flat_map cell_char (chars front) in
      let front_is : x ≡ encode_utf8_all cs = shown-taken t w.position utf8 (walk_boundary t utf8 w walk) in
      let scalar = (cell_chars-allowed (chars front) (scalars-chars front (IsUtf8-take (plain t) w.position (IsUtf8-plain t utf8) (walk_boundary t utf8 w walk)))).scalar in
      let x_utf8 : IsUtf8 x = (cs, (scalar, sym front_is)) in
      let seen : chars x ≡ cs = ap chars front_is ∙ chars-encodes cs scalar in
      let some : chars x ≢ [] → reverse cs ≢ [] = λ filled none. filled (seen ∙ sym (reverse-reverse cs) ∙ ap reverse none) in
      let sum_is = columns-apart x last x_utf8 (λ filled. ap (λ u. is_grapheme_break true (reverse u) (chars last)) seen ∙ breaks (reverse cs) (some filled) walk.break_state) in
      let last_is = ap columns (plain-bare last (has_escape-bare last bare)) in
      lack-of (cell t) width tail last left (whole-cell t utf8) written bare
      (subst (λ e. columns (take e (plain (cell t)) ++ last) + left ≡ width) end-is (omega (arith, sum, sum_is, last_is)))

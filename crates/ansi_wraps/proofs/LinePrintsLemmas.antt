-- The lines of a paragraph print: none has a TAB or a line end.
use Rattle.std.proofs.Common.{◌≡◌, ℕ, ◌+◌, inl, inr, ◌⊎◌, ◌==◌, Bool, true, false, not, ◌&&◌, ◌||◌, List, [], ◌∷◌, ◌++◌, length, slice_range, slice_index, chars, encode_utf8_all, refl, sym, ◌∙◌, ap, ap₂, subst, arith, append_assoc}
use Rattle.std.specs.List.{AllByRecursion, list_all, concat}
use Rattle.std.specs.Str.{byte, bytes_eq, IsUtf8, IsCharBoundary}
use Rattle.std.proofs.lemmas.Bool.{cases_Bool, and_parts, and_from, eqb-true}
use Rattle.std.proofs.lemmas.List.Folds.{list_all-append}
use Rattle.std.proofs.lemmas.Slice.Eq.{bytes_eq-Decides}
use Rattle.std.proofs.lemmas.Str.{IsUtf8-between, chars-append, chars-nil, chars_from_encodes, encodes-append, encodes-chars}
use Rattle.ucd_breaks.proofs.Computing.{ucd_breaks}
use Rattle.ucd_breaks.specs.GraphemeClusterBreak.{grapheme_cluster_break}
use Rattle.unicode_segmentation.specs.Grapheme.{is_grapheme_break}
use Rattle.unicode_segmentation.specs.Segments.{prepend}
use Rattle.ansi_items.specs.Pieces.{Piece, Text, Sequence, LoneEscape, pieces_of}
use Rattle.ansi_items.specs.Plain.{plain_of, plain}
use Rattle.ansi_items.proofs.Utf8Lemmas.{IsUtf8-plain}
use Rattle.ansi_safe.specs.declared.policy.Links.TheVariants.{Keep}
use Rattle.ansi_safe.specs.Cells.{paragraph}
use Rattle.ansi_safe.specs.Safe.{is_printing, is_allowed, all_allowed}
use Rattle.ansi_safe.proofs.AllowedLemmas.{all_allowed-append}
use Rattle.ansi_safe.proofs.CellLemmas.{placed-stays_in}
use Rattle.ansi_safe.proofs.CellTextLemmas.{IsUtf8-paragraph}
use Rattle.ansi_safe.proofs.SafeLemmas.{AreGood}
use Rattle.ansi_clusters.specs.Lines.{is_line_end, lines}
use Rattle.ansi_clusters.specs.Walks.{clusters_after}
use Rattle.ansi_cells.proofs.BreakLawLemmas.{is_control}
use Rattle.ansi_clusters.proofs.ClusterLawLemmas.{breaks-last, cluster-alone, cluster-joins, clusters_after-bytes}
use Rattle.ansi_clusters.proofs.ClusterLemmas.{clusters-none}
use Rattle.ansi_clusters.proofs.ColumnLemmas.{bytes_of-append}
use Rattle.ansi_wraps.proofs.LeftOutLawLemmas.{text_of, text_of-append, slice_between}
use Rattle.ansi_clusters.proofs.LineLawLemmas.{boundary_between, IsLineAlone, lines_are_alone}
use Rattle.ansi_cells.proofs.OneLineLemmas.{Prints, safe_are_good, safe-paragraph}
use Rattle.ansi_cells.proofs.SeamLemmas.{clusters-head, pair, feed-control, return-control}

-- ---- the characters of a paragraph: each is allowed where it is, and none is a TAB

abbrev is_no_tab : ℕ → Bool
is_no_tab c = not (c == byte "\t")

good-allowed : (ps : List Piece) → AreGood Keep ps → all_allowed (chars (plain_of ps)) ≡ true
good-allowed [] good = ap all_allowed chars-nil
good-allowed (Text w ∷ ps) good = ap all_allowed (chars-append w (plain_of ps) good.0.2) ∙ all_allowed-append (chars w) (chars (plain_of ps)) good.0.3 (good-allowed ps good.1)
good-allowed (Sequence w ∷ ps) good = good-allowed ps good.1
good-allowed (LoneEscape ∷ ps) good = absurd good.0

-- ---- each cluster of such characters is a line end, or its characters print

abbrev MayBeOnLine : List ℕ → Type 0
MayBeOnLine k = (is_line_end k ≡ true) ⊎ (list_all is_printing k ≡ true)

abbrev AreOnLines : List (List ℕ) → Type 0
AreOnLines ks = AllByRecursion MayBeOnLine ks

line_feed : is_line_end (0x0A ∷ []) ≡ true
unfolding is_line_end
line_feed = refl

return_and_feed : is_line_end (0x0D ∷ 0x0A ∷ []) ≡ true
unfolding is_line_end
return_and_feed = refl

line_end_is : (k : List ℕ) → is_line_end k ≡ true → (k ≡ 0x0A ∷ []) ⊎ (k ≡ 0x0D ∷ 0x0A ∷ [])
unfolding is_line_end
line_end_is k is = by (bytes_eq k (0x0A ∷ [])) (bytes_eq k (0x0D ∷ 0x0A ∷ [])) refl refl is
  where
    by : (a b : Bool) → bytes_eq k (0x0A ∷ []) ≡ a → bytes_eq k (0x0D ∷ 0x0A ∷ []) ≡ b → (a || b) ≡ true → (k ≡ 0x0A ∷ []) ⊎ (k ≡ 0x0D ∷ 0x0A ∷ [])
    by true b one two is = inl ((bytes_eq-Decides k (0x0A ∷ [])).0 one)
    by false true one two is = inr ((bytes_eq-Decides k (0x0D ∷ 0x0A ∷ [])).0 two)
    by false false one two is = absurd (cc)

-- a carriage return and a line feed are joined (GB3)
return_joins : (before cs : List ℕ) → is_grapheme_break true (0x0D ∷ before) (0x0A ∷ cs) ≡ false
unfolding is_grapheme_break ucd_breaks
return_joins before cs = refl

-- a character that is allowed and no TAB prints, is a line feed, or is a carriage return before one
data IsAllowed (c : ℕ) (cs : List ℕ) : Type 0 where
  prints : is_printing c ≡ true → IsAllowed c cs
  feed : c ≡ 0x0A → IsAllowed c cs
  return : c ≡ 0x0D → slice_index cs 0 ≡ 0x0A → IsAllowed c cs

allowed-is : (c : ℕ) (cs : List ℕ) → is_allowed c cs ≡ true → is_no_tab c ≡ true → IsAllowed c cs
allowed-is c cs here no_tab = by (is_printing c) (c == 9) (c == 10) (c == 13) (slice_index cs 0 == 10) refl refl refl refl refl here no_tab
  where
    by : (p t n r f : Bool) → is_printing c ≡ p → (c == 9) ≡ t → (c == 10) ≡ n → (c == 13) ≡ r → (slice_index cs 0 == 10) ≡ f → (p || (t || (n || (r && f)))) ≡ true → not t ≡ true → IsAllowed c cs
    by true t n r f is tab new back next here no_tab = prints is
    by false true n r f is tab new back next here no_tab = absurd (cc no_tab)
    by false false true r f is tab new back next here no_tab = feed (eqb-true c 10 new)
    by false false false true true is tab new back next here no_tab = return (eqb-true c 13 back) (eqb-true (slice_index cs 0) 10 next)
    by false false false true false is tab new back next here no_tab = absurd (cc here)
    by false false false false f is tab new back next here no_tab = absurd (cc here)

-- one character alone
alone : (before : List ℕ) (c : ℕ) (cs : List ℕ) → is_grapheme_break true (c ∷ before) cs ≡ true → IsAllowed c cs → MayBeOnLine (c ∷ [])
alone before c cs breaks (prints is) = inr (and_from _ _ is refl)
alone before c cs breaks (feed is) = inl (subst (λ d. is_line_end (d ∷ []) ≡ true) (sym is) line_feed)
alone before c [] breaks (return is next) = absurd (omega (arith, next))
alone before c (d ∷ cs) breaks (return is next) = absurd (let never = sym (ap₂ (λ u v. is_grapheme_break true (u ∷ before) (v ∷ cs)) is next ∙ return_joins before cs) ∙ breaks in cc)

-- one that is joined with a cluster
grown : (c d : ℕ) (k cs : List ℕ) → MayBeOnLine (d ∷ k) → IsAllowed c cs → ((c ≡ 0x0D) × (d ≡ 0x0A)) ⊎ ((is_control (grapheme_cluster_break c) ≡ false) × (is_control (grapheme_cluster_break d) ≡ false)) → MayBeOnLine (c ∷ d ∷ k)
grown c d k cs rest here (inl both) = inl (subst (λ u. is_line_end u ≡ true) (sym (ap₂ (λ u v. u ∷ v) both.0 (after rest))) return_and_feed)
  where
    heads : {u v : ℕ} {us vs : List ℕ} → u ∷ us ≡ v ∷ vs → u ≡ v
    heads e = cc

    feed_prints : is_printing 0x0A ≡ true → ⊥
    feed_prints e = cc e

    after : MayBeOnLine (d ∷ k) → d ∷ k ≡ 0x0A ∷ []
    after (inl ends) = elim (line_end_is (d ∷ k) ends) [
      | inl one ↦ one
      | inr two ↦ absurd (let e = sym both.1 ∙ heads two in omega (arith, e))
    ]
    after (inr all) = absurd (feed_prints (subst (λ u. is_printing u ≡ true) both.1 (and_parts _ _ all).0))
grown c d k cs rest here (inr none) = inr (and_from _ _ (first here) (others rest))
  where
    heads : {u v : ℕ} {us vs : List ℕ} → u ∷ us ≡ v ∷ vs → u ≡ v
    heads e = cc

    no_feed : (u : ℕ) → u ≡ 0x0A → is_control (grapheme_cluster_break u) ≡ false → ⊥
    no_feed u is clear = (let never = sym feed-control ∙ sym (ap (λ v. is_control (grapheme_cluster_break v)) is) ∙ clear in cc never)

    no_return : (u : ℕ) → u ≡ 0x0D → is_control (grapheme_cluster_break u) ≡ false → ⊥
    no_return u is clear = (let never = sym return-control ∙ sym (ap (λ v. is_control (grapheme_cluster_break v)) is) ∙ clear in cc never)

    first : IsAllowed c cs → is_printing c ≡ true
    first (prints is) = is
    first (feed is) = absurd (no_feed c is none.0)
    first (return is next) = absurd (no_return c is none.0)

    others : MayBeOnLine (d ∷ k) → list_all is_printing (d ∷ k) ≡ true
    others (inl ends) = elim (line_end_is (d ∷ k) ends) [
      | inl one ↦ absurd (no_feed d (heads one) none.1)
      | inr two ↦ absurd (no_return d (heads two) none.1)
    ]
    others (inr all) = all

are_on_lines : (before cs : List ℕ) → all_allowed cs ≡ true → list_all is_no_tab cs ≡ true → AreOnLines (clusters_after before cs)
are_on_lines before [] allowed no_tab = subst AreOnLines (sym (clusters-none before)) tt
are_on_lines before (c ∷ []) allowed no_tab =
    let here = allowed-is c [] (and_parts _ _ allowed).0 (and_parts _ _ no_tab).0 in
    subst AreOnLines (sym (cluster-alone before c [] (breaks-last c before) ∙ ap (λ ks. (c ∷ []) ∷ ks) (clusters-none (c ∷ before)))) (alone before c [] (breaks-last c before) here, tt)
are_on_lines before (c ∷ d ∷ ds) allowed no_tab =
    let first = and_parts (is_allowed c (d ∷ ds)) (all_allowed (d ∷ ds)) allowed in
    let second = and_parts (is_no_tab c) (list_all is_no_tab (d ∷ ds)) no_tab in
    let here = allowed-is c (d ∷ ds) first.0 second.0 in
    let more = are_on_lines (c ∷ before) (d ∷ ds) first.1 second.1 in
    elim (cases_Bool (is_grapheme_break true (c ∷ before) (d ∷ ds))) [
      | inl breaks ↦ subst AreOnLines (sym (cluster-alone before c (d ∷ ds) breaks)) (alone before c (d ∷ ds) breaks here, more)
      | inr joins ↦ (
          let head = clusters-head (c ∷ before) d ds in
          let rest : AreOnLines ((d ∷ head.0) ∷ head.1) = subst AreOnLines head.2 more in
          subst AreOnLines (sym (cluster-joins before c (d ∷ ds) joins ∙ ap (prepend (c ∷ [])) head.2)) (grown c d head.0 (d ∷ ds) rest.0 here (pair c before d ds joins), rest.1))
    ]

-- ---- so the lines print

clusters-printing : (ks : List (List ℕ)) → AreOnLines ks → list_all (λ k. not (is_line_end k)) ks ≡ true → list_all is_printing (concat ks) ≡ true
clusters-printing [] all none = refl
clusters-printing (k ∷ ks) all none =
    let both = and_parts (not (is_line_end k)) (list_all (λ k. not (is_line_end k)) ks) none in
    list_all-append is_printing k (concat ks) ∙ and_from _ _ (here all.0 both.0) (clusters-printing ks all.1 both.1)
  where
    here : MayBeOnLine k → not (is_line_end k) ≡ true → list_all is_printing k ≡ true
    here (inl ends) other = absurd (let never = sym (ap not ends) ∙ other in cc never)
    here (inr all) other = all

part-all : (P : List ℕ → Type 0) (before part after : List (List ℕ)) → AllByRecursion P (before ++ part ++ after) → AllByRecursion P part
part-all P before part after all = front part after (rest before (part ++ after) (subst (AllByRecursion P) (append_assoc before part after) all))
  where
    front : (ks ls : List (List ℕ)) → AllByRecursion P (ks ++ ls) → AllByRecursion P ks
    front [] ls all = tt
    front (k ∷ ks) ls all = (all.0, front ks ls all.1)

    rest : (ks ls : List (List ℕ)) → AllByRecursion P (ks ++ ls) → AllByRecursion P ls
    rest [] ls all = all
    rest (k ∷ ks) ls all = rest ks ls all.1

-- the stretch of a text over an interval, and where it may be cut
pub record IsPrinted (x : List ℕ) (i : ℕ × ℕ) : Type 0 where
  pub from : IsCharBoundary x i.0
  pub to : IsCharBoundary x i.1
  pub prints : Prints (slice_range x i.0 i.1)

text_of_clusters : (ks : List (List ℕ)) → encode_utf8_all (concat ks) ≡ text_of ks
text_of_clusters [] = refl
text_of_clusters (k ∷ ks) = encodes-append k (concat ks) ∙ ap (λ u. encode_utf8_all k ++ u) (text_of_clusters ks)

module _ (x : List ℕ) (utf8 : IsUtf8 x) (allowed : all_allowed (chars x) ≡ true) (no_tab : list_all is_no_tab (chars x) ≡ true) (width : ℕ) where
  line-printed : (i : ℕ × ℕ) → IsLineAlone x width i → IsPrinted x i
  line-printed i (is, none) =
      let before = is.before in
      let shown = is.shown in
      let from : IsCharBoundary x i.0 = subst (IsCharBoundary x) (sym is.start) (boundary_between x utf8 before (shown ++ is.after) (is.all ∙ append_assoc before shown is.after)) in
      let to : IsCharBoundary x i.1 = subst (IsCharBoundary x) (sym is.end) (boundary_between x utf8 (before ++ shown) is.after is.all) in
      let whole : x ≡ (text_of before ++ text_of shown) ++ text_of is.after
      = sym (clusters_after-bytes [] (chars x) ∙ encodes-chars x utf8) ∙ ap text_of is.all ∙ text_of-append (before ++ shown) is.after ∙ ap (λ u. u ++ text_of is.after) (text_of-append before shown) in
      let size : i.1 ≡ i.0 + length (text_of shown) = omega (arith, is.start, is.end, bytes_of-append before shown) in
      let text : slice_range x i.0 i.1 ≡ text_of shown = slice_between x (text_of before) (text_of shown) (text_of is.after) i.0 i.1 whole is.start size in
      let part : IsUtf8 (slice_range x i.0 i.1) = IsUtf8-between x i.0 i.1 utf8 (omega (arith, size)) from to in
      let each : list_all is_printing (concat shown) ≡ true = clusters-printing shown (part-all MayBeOnLine before shown is.after (subst AreOnLines is.all (are_on_lines [] (chars x) allowed no_tab))) none in
      record { from = from; to = to; prints = record { utf8 = part; all = ap (list_all is_printing) (sym (chars_from_encodes (concat shown) (slice_range x i.0 i.1) part (text_of_clusters shown ∙ sym text))) ∙ each } }

  lines-printed : (is : List (ℕ × ℕ)) → AllByRecursion (IsLineAlone x width) is → AllByRecursion (IsPrinted x) is
  lines-printed [] all = tt
  lines-printed (i ∷ is) all = (line-printed i all.0, lines-printed is all.1)

  pub are_printed : AllByRecursion (IsPrinted x) (lines width x)
  are_printed = lines-printed (lines width x) (lines_are_alone x width)

no_tab-paragraph : (t : List ℕ) → IsUtf8 t → list_all is_no_tab (chars (plain (paragraph t))) ≡ true
no_tab-paragraph t utf8 = search (placed-stays_in, utf8)

pub paragraph_is_printed : (t : List ℕ) (width : ℕ) → IsUtf8 t → AllByRecursion (IsPrinted (plain (paragraph t))) (lines width (plain (paragraph t)))
paragraph_is_printed t width utf8 =
    let p = paragraph t in
    let text = IsUtf8-paragraph t utf8 in
    are_printed (plain p) (IsUtf8-plain p text) (good-allowed (pieces_of p) (safe_are_good p text (safe-paragraph t utf8))) (no_tab-paragraph t utf8) width

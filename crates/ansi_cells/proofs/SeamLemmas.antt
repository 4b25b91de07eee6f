-- Blanks in place of a cluster of two or more columns: a cluster ends beside them, as it did beside that cluster.
use Rattle.std.proofs.Common.{◌≡◌, ◌≢◌, ℕ, zero, suc, ◌≤◌, ◌⊎◌, inl, inr, Bool, true, false, not, ◌&&◌, ◌||◌, ◌==◌, List, [], ◌∷◌, ◌++◌, length, take, drop, map, replicate, unwrap_or, refl, sym, ◌∙◌, ap, ap₂, subst, eqb-true, arith, append-nil, append_assoc, take_at, drop_at}
use Rattle.std.specs.List.{list_all, concat}
use Rattle.std.proofs.lemmas.Bool.{cases_Bool, and_parts, and_from}
use Rattle.ucd_table.proofs.RangedFacts.{points_ok, Stepped-at_points}
use Rattle.ucd_table.proofs.Stepped.{zip_stepped}
use Rattle.ucd_table.proofs.Facts.{Stepped-everywhere}
use Rattle.ucd_breaks.specs.GraphemeClusterBreak.{grapheme_cluster_break}
use Rattle.ucd_breaks.specs.declared.GraphemeClusterBreak.{GraphemeClusterBreak}
use Rattle.ucd_breaks.specs.declared.GraphemeClusterBreak.TheVariants.{Control, Cr, Extend, Lf, Other, Prepend, SpacingMark, Zwj}
use Rattle.ucd_breaks.proofs.Computing.{ucd_breaks}
use Rattle.ucd_breaks.proofs.GraphemeClusterBreakLemmas.{grapheme_cluster_break_stepped}
use Rattle.ucd_derived.specs.IndicConjunctBreak.{indic_conjunct_break}
use Rattle.ucd_derived.proofs.Computing.{ucd_derived}
use Rattle.ucd_emoji.specs.Binary.{is_extended_pictographic}
use Rattle.ucd_emoji.proofs.Computing.{ucd_emoji}
use Rattle.unicode_segmentation.specs.Grapheme.{is_grapheme_break, break_by_pair, is_zwj, is_regional, is_consonant, joins_conjunct, joins_emoji, joins_flag, ends_in_linker, ends_in_half_flag, ends_in_pictograph}
use Rattle.unicode_segmentation.specs.Segments.{prepend}
use Rattle.unicode_width.specs.declared.kind.Kind.{Kind}
use Rattle.unicode_width.specs.declared.kind.Kind.TheVariants as kinds
use Rattle.unicode_width.specs.Kind.{kind}
use Rattle.unicode_width.specs.Width.{char_width, alone, of_kind, str_width}
use Rattle.unicode_width.proofs.Computing.{unicode_width}
use Rattle.unicode_width.proofs.KindLemmas.{kind_stepped}
use Rattle.ansi_clusters.specs.Walks.{clusters_after}
use Rattle.ansi_clusters.proofs.WidthLemmas.{width-alone}
use Rattle.ansi_clusters.proofs.ClusterLemmas.{clusters-none}
use Rattle.ansi_clusters.proofs.ClusterLawLemmas.{cluster-joins, cluster-alone, next-alone, breaks-last, reversed_before, IsClusterFront, IsClusterFront-all}
use Rattle.ansi_cells.proofs.BreakLawLemmas.{is_control, true_if_implied, clusters-alone}

-- ---- a control has at most one column

-- a kind of at most one column
abbrev is_thin : Kind → Bool
is_thin kinds.Zero = true
is_thin kinds.Narrow = true
is_thin kinds.Ambiguous = true
is_thin _ = false

control-thin : (c : ℕ) → (not (is_control (grapheme_cluster_break c)) || is_thin (kind c)) ≡ true
unfolding ucd_breaks unicode_width
control-thin c =
    let both = zip_stepped (λ v k. not (is_control v) || is_thin k) grapheme_cluster_break kind grapheme_cluster_break_stepped kind_stepped in
    Stepped-everywhere _ both refl c

thin-width : (c : ℕ) (k : Kind) → is_thin k ≡ true → (of_kind false c k).0 ≤ 1
thin-width c kinds.Zero is = omega arith
thin-width c kinds.Narrow is = omega arith
thin-width c kinds.Ambiguous is = omega arith
thin-width c _ is = absurd (cc)

pub control-width : (c : ℕ) → is_control (grapheme_cluster_break c) ≡ true → unwrap_or (char_width false c) 1 ≤ 1
unfolding char_width alone
control-width c is = grind (arith, thin-width c (kind c) (true_if_implied _ _ (control-thin c) is))

-- ---- what the tables say

abbrev not_cr : GraphemeClusterBreak → Bool
not_cr Cr = false
not_cr _ = true

abbrev not_lf : GraphemeClusterBreak → Bool
not_lf Lf = false
not_lf _ = true

cr-is : (c : ℕ) → not_cr (grapheme_cluster_break c) ≡ false → c ≡ 0x0D
unfolding ucd_breaks points_ok
cr-is c is = eqb-true _ _ (Stepped-at_points grapheme_cluster_break grapheme_cluster_break_stepped not_cr (λ d v. d == 0x0D) refl c is)

lf-is : (c : ℕ) → not_lf (grapheme_cluster_break c) ≡ false → c ≡ 0x0A
unfolding ucd_breaks points_ok
lf-is c is = eqb-true _ _ (Stepped-at_points grapheme_cluster_break grapheme_cluster_break_stepped not_lf (λ d v. d == 0x0A) refl c is)

none-width : str_width false [] ≡ 0
unfolding str_width
none-width = refl

return_feed-width : str_width false (0x0D ∷ 0x0A ∷ []) ≡ 1
unfolding unicode_width
return_feed-width = refl

-- ---- clusters spell their characters

concat-prepend : (part : List ℕ) (ks : List (List ℕ)) → concat (prepend part ks) ≡ part ++ concat ks
concat-prepend part [] = refl
concat-prepend part (k ∷ ks) = append_assoc part k (concat ks)

pub concat-clusters : (before cs : List ℕ) → concat (clusters_after before cs) ≡ cs
concat-clusters before [] = ap concat (clusters-none before)
concat-clusters before (c ∷ cs) = elim (cases_Bool (is_grapheme_break true (c ∷ before) cs)) [
  | inl breaks ↦ ap concat (cluster-alone before c cs breaks) ∙ ap (λ u. c ∷ u) (concat-clusters (c ∷ before) cs)
  | inr joins ↦ ap concat (cluster-joins before c cs joins) ∙ concat-prepend (c ∷ []) (clusters_after (c ∷ before) cs) ∙ ap (λ u. c ∷ u) (concat-clusters (c ∷ before) cs)
]

-- ---- a cluster is one character, a line end, or characters without controls

abbrev pub no_control : List ℕ → Bool
no_control cs = list_all (λ c. not (is_control (grapheme_cluster_break c))) cs

pub data IsPlainCluster (k : List ℕ) : Type 0 where
  one : (c : ℕ) → k ≡ c ∷ [] → IsPlainCluster k
  line_end : k ≡ 0x0D ∷ 0x0A ∷ [] → IsPlainCluster k
  others : no_control k ≡ true → IsPlainCluster k

control-breaks : (u : GraphemeClusterBreak) (b : Bool) → unwrap_or (break_by_pair true u Control) b ≡ true
control-breaks Control b = refl
control-breaks _ b = refl

cr-breaks : (u : GraphemeClusterBreak) (b : Bool) → unwrap_or (break_by_pair true u Cr) b ≡ true
cr-breaks Control b = refl
cr-breaks _ b = refl

lf-breaks : (u : GraphemeClusterBreak) → is_control u ≡ false → (b : Bool) → unwrap_or (break_by_pair true u Lf) b ≡ true
lf-breaks Control clear b = absurd (cc)
lf-breaks Cr clear b = absurd (cc)
lf-breaks Lf clear b = absurd (cc)
lf-breaks _ clear b = refl

left-control : (w : GraphemeClusterBreak) (b : Bool) → unwrap_or (break_by_pair true Control w) b ≡ true
left-control Control b = refl
left-control _ b = refl

left-lf : (w : GraphemeClusterBreak) (b : Bool) → unwrap_or (break_by_pair true Lf w) b ≡ true
left-lf Control b = refl
left-lf _ b = refl

controls : (u w : GraphemeClusterBreak) (b : Bool) → is_control u ≡ true → unwrap_or (break_by_pair true u w) b ≡ false → (not_cr u ≡ false) × (not_lf w ≡ false)
controls Control w b control joins = absurd (let never = sym (left-control w b) ∙ joins in cc)
controls Lf w b control joins = absurd (let never = sym (left-lf w b) ∙ joins in cc)
controls Cr Lf b control joins = (refl, refl)
controls Cr _ b control joins = absurd (cc)
controls _ w b control joins = absurd (cc)

-- two characters of one cluster: a line end, or two that are no controls
no_break_by_pair : (v w : GraphemeClusterBreak) (b : Bool) → unwrap_or (break_by_pair true v w) b ≡ false → ((not_cr v ≡ false) × (not_lf w ≡ false)) ⊎ ((is_control v ≡ false) × (is_control w ≡ false))
no_break_by_pair v w b joins = by_left v joins
  where
    by_right : (u : GraphemeClusterBreak) → is_control u ≡ false → unwrap_or (break_by_pair true u w) b ≡ false → is_control w ≡ false
    by_right u clear joins = elim (cases_Bool (is_control w)) [
      | inl control ↦ absurd (let never = sym (always u w clear control) ∙ joins in cc)
      | inr none ↦ none
    ]
      where
        always : (u w : GraphemeClusterBreak) → is_control u ≡ false → is_control w ≡ true → unwrap_or (break_by_pair true u w) b ≡ true
        always u Control clear control = control-breaks u b
        always u Cr clear control = cr-breaks u b
        always u Lf clear control = lf-breaks u clear b
        always u _ clear control = absurd (cc)

    by_left : (u : GraphemeClusterBreak) → unwrap_or (break_by_pair true u w) b ≡ false → ((not_cr u ≡ false) × (not_lf w ≡ false)) ⊎ ((is_control u ≡ false) × (is_control w ≡ false))
    by_left u joins = elim (cases_Bool (is_control u)) [
      | inl control ↦ inl (controls u w b control joins)
      | inr none ↦ inr (none, by_right u none joins)
    ]

-- ---- the rule at a place, by its two characters

abbrev third : List ℕ → ℕ → Bool
third before next = not ((true && joins_conjunct before next) || joins_emoji before next || joins_flag before next)

break-is : (c : ℕ) (before : List ℕ) (d : ℕ) (cs : List ℕ) → is_grapheme_break true (c ∷ before) (d ∷ cs) ≡ unwrap_or (break_by_pair true (grapheme_cluster_break c) (grapheme_cluster_break d)) (third (c ∷ before) d)
unfolding is_grapheme_break
break-is c before d cs = refl

pub pair : (c : ℕ) (before : List ℕ) (d : ℕ) (cs : List ℕ) → is_grapheme_break true (c ∷ before) (d ∷ cs) ≡ false
    → ((c ≡ 0x0D) × (d ≡ 0x0A)) ⊎ ((is_control (grapheme_cluster_break c) ≡ false) × (is_control (grapheme_cluster_break d) ≡ false))
pair c before d cs joins = elim (no_break_by_pair (grapheme_cluster_break c) (grapheme_cluster_break d) (third (c ∷ before) d) (sym (break-is c before d cs) ∙ joins)) [
  | inl both ↦ inl (cr-is c both.0, lf-is d both.1)
  | inr both ↦ inr both
]

head_is : {c d : ℕ} {cs ds : List ℕ} → c ∷ cs ≡ d ∷ ds → c ≡ d
head_is e = cc

tail_is : {c d : ℕ} {cs ds : List ℕ} → c ∷ cs ≡ d ∷ ds → cs ≡ ds
tail_is e = cc

not_false : (b : Bool) → b ≡ false → not b ≡ true
not_false b e = ap not e

not_true : (b : Bool) → not b ≡ true → b ≡ false
not_true true e = absurd (cc)
not_true false e = refl

pub feed-control : is_control (grapheme_cluster_break 0x0A) ≡ true
unfolding ucd_breaks
feed-control = refl

pub return-control : is_control (grapheme_cluster_break 0x0D) ≡ true
unfolding ucd_breaks
return-control = refl

-- a cluster that begins with d, with a character c in front that is joined with it
grown : (c d : ℕ) (k : List ℕ) → IsPlainCluster (d ∷ k) → ((c ≡ 0x0D) × (d ≡ 0x0A)) ⊎ ((is_control (grapheme_cluster_break c) ≡ false) × (is_control (grapheme_cluster_break d) ≡ false)) → IsPlainCluster (c ∷ d ∷ k)
grown c d k (one e is) (inl both) = line_end (ap₂ (λ u v. u ∷ v ∷ k) both.0 both.1 ∙ ap (λ u. 0x0D ∷ 0x0A ∷ u) (tail_is is))
grown c d k (line_end is) (inl both) = absurd (let e = sym both.1 ∙ head_is is in omega (arith, e))
grown c d k (others clear) (inl both) = absurd (let never = sym (not_true _ (and_parts _ _ clear).0) ∙ ap (λ u. is_control (grapheme_cluster_break u)) both.1 ∙ feed-control in cc)
grown c d k (one e is) (inr both) = others (and_from _ _ (not_false _ both.0) (and_from _ _ (not_false _ both.1) (ap no_control (tail_is is))))
grown c d k (line_end is) (inr both) = absurd (let never = sym both.1 ∙ ap (λ u. is_control (grapheme_cluster_break u)) (head_is is) ∙ return-control in cc)
grown c d k (others clear) (inr both) = others (and_from _ _ (not_false _ both.0) clear)

abbrev pub ArePlain : List (List ℕ) → Type 0
ArePlain [] = Unit
ArePlain (k ∷ ks) = IsPlainCluster k × ArePlain ks

pub clusters-head : (before : List ℕ) (c : ℕ) (cs : List ℕ) → (k : List ℕ) × (ks : List (List ℕ)) × (clusters_after before (c ∷ cs) ≡ (c ∷ k) ∷ ks)
clusters-head before c cs = elim (cases_Bool (is_grapheme_break true (c ∷ before) cs)) [
  | inl breaks ↦ ([], clusters_after (c ∷ before) cs, cluster-alone before c cs breaks)
  | inr joins ↦ front (clusters_after (c ∷ before) cs) (cluster-joins before c cs joins)
]
  where
    front : (ks : List (List ℕ)) {all : List (List ℕ)} → all ≡ prepend (c ∷ []) ks → (k : List ℕ) × (rest : List (List ℕ)) × (all ≡ (c ∷ k) ∷ rest)
    front [] e = ([], [], e)
    front (k ∷ ks) e = (k, ks, e)

pub are_plain : (before cs : List ℕ) → ArePlain (clusters_after before cs)
are_plain before [] = subst ArePlain (sym (clusters-none before)) tt
are_plain before (c ∷ []) = subst ArePlain (sym (cluster-alone before c [] (breaks-last c before) ∙ ap (λ ks. (c ∷ []) ∷ ks) (clusters-none (c ∷ before)))) (one c refl, tt)
are_plain before (c ∷ d ∷ ds) = elim (cases_Bool (is_grapheme_break true (c ∷ before) (d ∷ ds))) [
  | inl breaks ↦ subst ArePlain (sym (cluster-alone before c (d ∷ ds) breaks)) (one c refl, are_plain (c ∷ before) (d ∷ ds))
  | inr joins ↦ (
      let head = clusters-head (c ∷ before) d ds in
      let rest : ArePlain ((d ∷ head.0) ∷ head.1) = subst ArePlain head.2 (are_plain (c ∷ before) (d ∷ ds)) in
      subst ArePlain (sym (cluster-joins before c (d ∷ ds) joins ∙ ap (prepend (c ∷ [])) head.2)) (grown c d head.0 rest.0 (pair c before d ds joins), rest.1))
]

are_plain-at : (ks : List (List ℕ)) (k : List ℕ) (ms : List (List ℕ)) → ArePlain (ks ++ k ∷ ms) → IsPlainCluster k
are_plain-at [] k ms all = all.0
are_plain-at (l ∷ ks) k ms all = are_plain-at ks k ms all.1

-- a cluster of two or more columns has no control
wide-clear : (k : List ℕ) → 2 ≤ str_width false k → IsPlainCluster k → no_control k ≡ true
wide-clear k wide (one c is) = elim (cases_Bool (is_control (grapheme_cluster_break c))) [
  | inl control ↦ absurd (omega (arith, wide, ap (str_width false) is, sym (width-alone c), control-width c control))
  | inr clear ↦ ap no_control is ∙ and_from _ _ (not_false _ clear) refl
]
wide-clear k wide (line_end is) = absurd (omega (arith, wide, ap (str_width false) is, return_feed-width))
wide-clear k wide (others clear) = clear

-- ---- what joins a blank

abbrev pub glues : GraphemeClusterBreak → Bool
glues Extend = true
glues Zwj = true
glues SpacingMark = true
glues _ = false

abbrev pub is_prepend : GraphemeClusterBreak → Bool
is_prepend Prepend = true
is_prepend _ = false

glue-extend : (l : GraphemeClusterBreak) (b : Bool) → is_control l ≡ false → unwrap_or (break_by_pair true l Extend) b ≡ false
glue-extend Control b clear = absurd (cc)
glue-extend Cr b clear = absurd (cc)
glue-extend Lf b clear = absurd (cc)
glue-extend _ b clear = refl

glue-zwj : (l : GraphemeClusterBreak) (b : Bool) → is_control l ≡ false → unwrap_or (break_by_pair true l Zwj) b ≡ false
glue-zwj Control b clear = absurd (cc)
glue-zwj Cr b clear = absurd (cc)
glue-zwj Lf b clear = absurd (cc)
glue-zwj _ b clear = refl

glue-spacingmark : (l : GraphemeClusterBreak) (b : Bool) → is_control l ≡ false → unwrap_or (break_by_pair true l SpacingMark) b ≡ false
glue-spacingmark Control b clear = absurd (cc)
glue-spacingmark Cr b clear = absurd (cc)
glue-spacingmark Lf b clear = absurd (cc)
glue-spacingmark _ b clear = refl

no_glue : (l v : GraphemeClusterBreak) (b : Bool) → is_control l ≡ false → unwrap_or (break_by_pair true l v) b ≡ true → glues v ≡ false
no_glue l Extend b clear breaks = absurd (let never = sym (glue-extend l b clear) ∙ breaks in cc)
no_glue l Zwj b clear breaks = absurd (let never = sym (glue-zwj l b clear) ∙ breaks in cc)
no_glue l SpacingMark b clear breaks = absurd (let never = sym (glue-spacingmark l b clear) ∙ breaks in cc)
no_glue l _ b clear breaks = refl

prepend-joins : (v : GraphemeClusterBreak) (b : Bool) → is_control v ≡ false → unwrap_or (break_by_pair true Prepend v) b ≡ false
prepend-joins Control b clear = absurd (cc)
prepend-joins Cr b clear = absurd (cc)
prepend-joins Lf b clear = absurd (cc)
prepend-joins _ b clear = refl

no_prepend : (l v : GraphemeClusterBreak) (b : Bool) → is_control v ≡ false → unwrap_or (break_by_pair true l v) b ≡ true → is_prepend l ≡ false
no_prepend Prepend v b clear breaks = absurd (let never = sym (prepend-joins v b clear) ∙ breaks in cc)
no_prepend _ v b clear breaks = refl

other-left : (v : GraphemeClusterBreak) → glues v ≡ false → unwrap_or (break_by_pair true Other v) true ≡ true
other-left Extend clear = absurd (cc)
other-left SpacingMark clear = absurd (cc)
other-left Zwj clear = absurd (cc)
other-left _ clear = refl

other-right : (v : GraphemeClusterBreak) → is_prepend v ≡ false → unwrap_or (break_by_pair true v Other) true ≡ true
other-right Prepend clear = absurd (cc)
other-right _ clear = refl

blank-value : grapheme_cluster_break 0x20 ≡ Other
unfolding ucd_breaks
blank-value = refl

third-left : (before : List ℕ) (d : ℕ) → third (0x20 ∷ before) d ≡ true
unfolding ucd_breaks ucd_derived ucd_emoji ends_in_linker ends_in_half_flag
third-left before d = refl

and_false : (a : Bool) → (a && false) ≡ false
and_false true = refl
and_false false = refl

blank-no_consonant : is_consonant (indic_conjunct_break 0x20) ≡ false
unfolding ucd_derived
blank-no_consonant = refl

blank-no_pictograph : is_extended_pictographic 0x20 ≡ false
unfolding ucd_emoji
blank-no_pictograph = refl

blank-no_regional : is_regional (grapheme_cluster_break 0x20) ≡ false
unfolding ucd_breaks
blank-no_regional = refl

third-right : (c : ℕ) (before : List ℕ) → third (c ∷ before) 0x20 ≡ true
third-right c before =
    let linker = ends_in_linker (map indic_conjunct_break (c ∷ before)) in
    let half = ends_in_half_flag (c ∷ before) in
    let pictograph = is_zwj (grapheme_cluster_break c) && ends_in_pictograph before in
    ap not (ap₂ (λ u v. u || v)
    (ap₂ (λ u v. u || v) (ap (λ b. linker && b) blank-no_consonant ∙ and_false linker) (ap (λ b. pictograph && b) blank-no_pictograph ∙ and_false pictograph))
    (ap (λ b. half && b) blank-no_regional ∙ and_false half))

abbrev pub Starts : List ℕ → Type 0
Starts [] = Unit
Starts (f ∷ fs) = glues (grapheme_cluster_break f) ≡ false

abbrev pub Ends : List ℕ → Type 0
Ends [] = Unit
Ends (c ∷ []) = is_prepend (grapheme_cluster_break c) ≡ false
Ends (c ∷ d ∷ ds) = Ends (d ∷ ds)

after_blank : (before cs : List ℕ) → Starts cs → is_grapheme_break true (0x20 ∷ before) cs ≡ true
after_blank before [] starts = breaks-last 0x20 before
after_blank before (f ∷ fs) starts =
    break-is 0x20 before f fs
    ∙ ap₂ (λ (v : GraphemeClusterBreak) b. unwrap_or (break_by_pair true v (grapheme_cluster_break f)) b) blank-value (third-left before f)
    ∙ other-left (grapheme_cluster_break f) starts

before_blank : (c : ℕ) (before cs : List ℕ) → is_prepend (grapheme_cluster_break c) ≡ false → is_grapheme_break true (c ∷ before) (0x20 ∷ cs) ≡ true
before_blank c before cs ends =
    break-is c before 0x20 cs
    ∙ ap₂ (λ (v : GraphemeClusterBreak) b. unwrap_or (break_by_pair true (grapheme_cluster_break c) v) b) blank-value (third-right c before)
    ∙ other-right (grapheme_cluster_break c) ends

-- ---- clusters with blanks before and after them

abbrev pub blank : List ℕ
blank = 0x20 ∷ []

Starts-blanks : (p : ℕ) (cs : List ℕ) → Starts cs → Starts (replicate p 0x20 ++ cs)
Starts-blanks zero cs starts = starts
Starts-blanks (suc p) cs starts = ap glues blank-value

Starts-more : (cs : List ℕ) (q : ℕ) → Starts cs → Starts (cs ++ replicate q 0x20)
Starts-more [] zero starts = tt
Starts-more [] (suc q) starts = ap glues blank-value
Starts-more (c ∷ cs) q starts = starts

blanks-first : (p : ℕ) (before cs : List ℕ) → is_grapheme_break true before cs ≡ true → Starts cs → clusters_after before (replicate p 0x20 ++ cs) ≡ replicate p blank ++ clusters_after [] cs
blanks-first zero before cs breaks starts = clusters-alone before cs breaks
blanks-first (suc p) before cs breaks starts =
    cluster-alone before 0x20 (replicate p 0x20 ++ cs) (after_blank before (replicate p 0x20 ++ cs) (Starts-blanks p cs starts))
    ∙ ap (λ ks. blank ∷ ks) (blanks-first p (0x20 ∷ before) cs (after_blank before cs starts) starts)

break-end : (before : List ℕ) → is_grapheme_break true before [] ≡ true
unfolding is_grapheme_break
break-end [] = refl
break-end (c ∷ before) = breaks-last c before

break-begin : (cs : List ℕ) → is_grapheme_break true [] cs ≡ true
unfolding is_grapheme_break
break-begin cs = refl

pub blanks-alone : (q : ℕ) (before : List ℕ) → clusters_after before (replicate q 0x20) ≡ replicate q blank
blanks-alone q before =
    ap (clusters_after before) (sym (append-nil (replicate q 0x20))) ∙ blanks-first q before [] (break-end before) tt
    ∙ ap (λ ks. replicate q blank ++ ks) (clusters-none []) ∙ append-nil (replicate q blank)

prepend-more : (part : List ℕ) (k : List ℕ) (ks ls : List (List ℕ)) → prepend part ((k ∷ ks) ++ ls) ≡ prepend part (k ∷ ks) ++ ls
prepend-more part k ks ls = refl

blanks-last : (q : ℕ) (before cs : List ℕ) → Ends cs → clusters_after before (cs ++ replicate q 0x20) ≡ clusters_after before cs ++ replicate q blank
blanks-last zero before cs ends = ap (clusters_after before) (append-nil cs) ∙ sym (append-nil (clusters_after before cs))
blanks-last (suc q) before [] ends = blanks-alone (suc q) before ∙ ap (λ ks. ks ++ replicate (suc q) blank) (sym (clusters-none before))
blanks-last (suc q) before (c ∷ []) ends =
    cluster-alone before c (replicate (suc q) 0x20) (before_blank c before (replicate q 0x20) ends)
    ∙ ap (λ ks. (c ∷ []) ∷ ks) (blanks-alone (suc q) (c ∷ before))
    ∙ ap (λ ks. ks ++ replicate (suc q) blank) (sym (cluster-alone before c [] (breaks-last c before) ∙ ap (λ ks. (c ∷ []) ∷ ks) (clusters-none (c ∷ before))))
blanks-last (suc q) before (c ∷ d ∷ ds) ends =
    let more = blanks-last (suc q) (c ∷ before) (d ∷ ds) ends in
    elim (cases_Bool (is_grapheme_break true (c ∷ before) (d ∷ ds))) [
      | inl breaks ↦ cluster-alone before c (d ∷ ds ++ replicate (suc q) 0x20) (next-alone c before d (ds ++ replicate (suc q) 0x20) ds ∙ breaks)
          ∙ ap (λ ks. (c ∷ []) ∷ ks) more ∙ ap (λ ks. ks ++ replicate (suc q) blank) (sym (cluster-alone before c (d ∷ ds) breaks))
      | inr joins ↦ (
          let head = clusters-head (c ∷ before) d ds in
          cluster-joins before c (d ∷ ds ++ replicate (suc q) 0x20) (next-alone c before d (ds ++ replicate (suc q) 0x20) ds ∙ joins)
          ∙ ap (prepend (c ∷ [])) (more ∙ ap (λ ks. ks ++ replicate (suc q) blank) head.2)
          ∙ ap (λ ks. prepend (c ∷ []) ks ++ replicate (suc q) blank) (sym head.2)
          ∙ ap (λ ks. ks ++ replicate (suc q) blank) (sym (cluster-joins before c (d ∷ ds) joins)))
    ]

-- blanks around characters that begin and end so
pub clusters-among_blanks : (p q : ℕ) (cs : List ℕ) → (p ≡ 0) ⊎ Starts cs → (q ≡ 0) ⊎ Ends cs → clusters_after [] (replicate p 0x20 ++ (cs ++ replicate q 0x20)) ≡ replicate p blank ++ (clusters_after [] cs ++ replicate q blank)
clusters-among_blanks p q cs first last = before first ∙ ap (λ ks. replicate p blank ++ ks) (after last)
  where
    after : (q ≡ 0) ⊎ Ends cs → clusters_after [] (cs ++ replicate q 0x20) ≡ clusters_after [] cs ++ replicate q blank
    after (inl none) = subst (λ n. clusters_after [] (cs ++ replicate n 0x20) ≡ clusters_after [] cs ++ replicate n blank) (sym none) (ap (clusters_after []) (append-nil cs) ∙ sym (append-nil (clusters_after [] cs)))
    after (inr ends) = blanks-last q [] cs ends

    before : (p ≡ 0) ⊎ Starts cs → clusters_after [] (replicate p 0x20 ++ (cs ++ replicate q 0x20)) ≡ replicate p blank ++ clusters_after [] (cs ++ replicate q 0x20)
    before (inl none) = subst (λ n. clusters_after [] (replicate n 0x20 ++ (cs ++ replicate q 0x20)) ≡ replicate n blank ++ clusters_after [] (cs ++ replicate q 0x20)) (sym none) refl
    before (inr starts) = blanks-first p [] (cs ++ replicate q 0x20) (break-begin _) (Starts-more cs q starts)

-- ---- what is next to a cluster of two or more columns

-- a list is empty or has a last element
abbrev HasLast : List ℕ → Type 0
HasLast cs = (front : List ℕ) × (c : ℕ) × (cs ≡ front ++ c ∷ [])

last_or_none : (cs : List ℕ) → (cs ≡ []) ⊎ HasLast cs
last_or_none [] = inl refl
last_or_none (c ∷ cs) = elim (last_or_none cs) [
  | inl none ↦ inr ([], c, ap (λ u. c ∷ u) none)
  | inr some ↦ inr (c ∷ some.0, some.1, ap (λ u. c ∷ u) some.2)
]

reversed-last : (before u : List ℕ) (c : ℕ) → reversed_before before (u ++ c ∷ []) ≡ c ∷ reversed_before before u
reversed-last before [] c = refl
reversed-last before (d ∷ u) c = reversed-last (d ∷ before) u c

Ends-last : (u : List ℕ) (c : ℕ) → is_prepend (grapheme_cluster_break c) ≡ false → Ends (u ++ c ∷ [])
Ends-last [] c ends = ends
Ends-last (d ∷ []) c ends = ends
Ends-last (d ∷ e ∷ u) c ends = Ends-last (e ∷ u) c ends

Ends-part : (u v : List ℕ) → Ends (u ++ v) → Ends v
Ends-part [] v ends = ends
Ends-part (c ∷ []) [] ends = tt
Ends-part (c ∷ []) (d ∷ v) ends = ends
Ends-part (c ∷ d ∷ u) v ends = Ends-part (d ∷ u) v ends

pub Starts-part : (u v : List ℕ) → Starts (u ++ v) → Starts u
Starts-part [] v starts = tt
Starts-part (c ∷ u) v starts = starts

no_control-last : (u : List ℕ) (c : ℕ) → no_control (u ++ c ∷ []) ≡ true → is_control (grapheme_cluster_break c) ≡ false
no_control-last [] c clear = not_true _ (and_parts _ _ clear).0
no_control-last (d ∷ u) c clear = no_control-last u c (and_parts _ _ clear).1

pub concat-append : (ks ls : List (List ℕ)) → concat (ks ++ ls) ≡ concat ks ++ concat ls
concat-append [] ls = refl
concat-append (k ∷ ks) ls = ap (λ u. k ++ u) (concat-append ks ls) ∙ sym (append_assoc k (concat ks) (concat ls))

-- a break between clusters, as the front of their characters and the others
module _ (cs : List ℕ) (ks ls : List (List ℕ)) (all : clusters_after [] cs ≡ ks ++ ls) where
  abbrev front_is : IsClusterFront [] cs (length ks)
  front_is = IsClusterFront-all [] cs (length ks)

  front-concat : front_is.front ≡ concat ks
  front-concat =
      sym (concat-clusters [] front_is.front) ∙ ap concat (front_is.first ∙ ap (take (length ks)) all ∙ take_at ks ls (length ks) refl)

  rest-concat : front_is.rest ≡ concat ls
  rest-concat =
      sym (concat-clusters (reversed_before [] front_is.front) front_is.rest)
      ∙ ap concat (front_is.others ∙ ap (drop (length ks)) all ∙ drop_at ks ls (length ks) refl)

  breaks-between : (concat ks ≡ []) ⊎ (is_grapheme_break true (reversed_before [] (concat ks)) (concat ls) ≡ true)
  breaks-between = elim front_is.breaks [
    | inl none ↦ inl (sym front-concat ∙ none)
    | inr breaks ↦ inr (ap₂ (λ u v. is_grapheme_break true (reversed_before [] u) v) (sym front-concat) (sym rest-concat) ∙ breaks)
  ]

wide-some : (k : List ℕ) → 2 ≤ str_width false k → k ≢ []
wide-some k wide none = (let zero_is = ap (str_width false) none ∙ none-width in omega (arith, wide, zero_is))

-- the characters after such a cluster don't begin with one that joins a blank
pub Starts-after : (cs : List ℕ) (ks : List (List ℕ)) (k : List ℕ) (ls : List (List ℕ)) → clusters_after [] cs ≡ (ks ++ k ∷ []) ++ ls → 2 ≤ str_width false k → Starts (concat ls)
Starts-after cs ks k ls all wide = elim (last_or_none k) [
  | inl none ↦ absurd (wide-some k wide none)
  | inr some ↦
      let clear = wide-clear k wide (are_plain-at ks k ls (subst ArePlain (all ∙ append_assoc ks (k ∷ []) ls) (are_plain [] cs))) in
      let last = no_control-last some.0 some.1 (ap no_control (sym some.2) ∙ clear) in
      let spelled : concat (ks ++ k ∷ []) ≡ (concat ks ++ some.0) ++ some.1 ∷ []
      = concat-append ks (k ∷ []) ∙ ap (λ u. concat ks ++ u) (append-nil k ∙ some.2) ∙ sym (append_assoc (concat ks) some.0 (some.1 ∷ [])) in
      after_last (concat ks ++ some.0) some.1 (concat ls) last (elim (breaks-between cs (ks ++ k ∷ []) ls all) [
        | inl none ↦ absurd (ends_not (concat ks ++ some.0) some.1 (sym spelled ∙ none))
        | inr breaks ↦ ap (λ u. is_grapheme_break true u (concat ls)) (sym (ap (reversed_before []) spelled ∙ reversed-last [] (concat ks ++ some.0) some.1)) ∙ breaks
      ])
]
  where
    ends_not : (u : List ℕ) (c : ℕ) → u ++ c ∷ [] ≢ []
    ends_not [] c none = cc
    ends_not (d ∷ u) c none = cc

    after_last : (u : List ℕ) (c : ℕ) (rest : List ℕ) → is_control (grapheme_cluster_break c) ≡ false → is_grapheme_break true (c ∷ reversed_before [] u) rest ≡ true → Starts rest
    after_last u c [] clear breaks = tt
    after_last u c (f ∷ fs) clear breaks =
        no_glue (grapheme_cluster_break c) (grapheme_cluster_break f) (third (c ∷ reversed_before [] u) f) clear (sym (break-is c (reversed_before [] u) f fs) ∙ breaks)

-- the characters before such a cluster don't end with one that joins a blank
pub Ends-before : (cs : List ℕ) (ks : List (List ℕ)) (k : List ℕ) (ls : List (List ℕ)) → clusters_after [] cs ≡ ks ++ k ∷ ls → 2 ≤ str_width false k → Ends (concat ks)
Ends-before cs ks k ls all wide = by_first k wide (wide-clear k wide (are_plain-at ks k ls (subst ArePlain all (are_plain [] cs)))) (breaks-between cs ks (k ∷ ls) all)
  where
    by_first : (k : List ℕ) → 2 ≤ str_width false k → no_control k ≡ true → (concat ks ≡ []) ⊎ (is_grapheme_break true (reversed_before [] (concat ks)) (k ++ concat ls) ≡ true) → Ends (concat ks)
    by_first [] wide clear at = absurd (wide-some [] wide refl)
    by_first (f ∷ fs) wide clear (inl none) = subst Ends (sym none) tt
    by_first (f ∷ fs) wide clear (inr breaks) = elim (last_or_none (concat ks)) [
      | inl none ↦ subst Ends (sym none) tt
      | inr some ↦
          let before = reversed_before [] some.0 in
          let rule : is_grapheme_break true (some.1 ∷ before) (f ∷ fs ++ concat ls) ≡ true
          = ap (λ u. is_grapheme_break true u (f ∷ fs ++ concat ls)) (sym (ap (reversed_before []) some.2 ∙ reversed-last [] some.0 some.1)) ∙ breaks in
          subst Ends (sym some.2) (Ends-last some.0 some.1
          (no_prepend (grapheme_cluster_break some.1) (grapheme_cluster_break f) (third (some.1 ∷ before) f) (not_true _ (and_parts _ _ clear).0) (sym (break-is some.1 before f (fs ++ concat ls)) ∙ rule)))
    ]

pub Ends-before_part : (cs : List ℕ) (ks ms : List (List ℕ)) (k : List ℕ) (ls : List (List ℕ)) → clusters_after [] cs ≡ (ks ++ ms) ++ k ∷ ls → 2 ≤ str_width false k → Ends (concat ms)
Ends-before_part cs ks ms k ls all wide = Ends-part (concat ks) (concat ms) (subst Ends (concat-append ks ms) (Ends-before cs (ks ++ ms) k ls all wide))

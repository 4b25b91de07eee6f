-- After a break, a text has the clusters that it has alone.
use Rattle.std.proofs.Common.{◌≡◌, ℕ, ◌+◌, ◌⊎◌, inl, inr, Bool, true, false, not, ◌&&◌, ◌||◌, List, [], ◌∷◌, ◌++◌, length, map, take, drop, unwrap_or, refl, sym, ◌∙◌, ap, ap₂, take_at, drop_at, take-append-drop, if◌then◌else◌}
use Rattle.std.specs.Str.{chars, IsUtf8}
use Rattle.std.proofs.lemmas.Bool.{and_parts}
use Rattle.std.proofs.lemmas.List.Sums.{sum_by-append}
use Rattle.std.proofs.lemmas.Str.{chars-append, IsUtf8-append}
use Rattle.ucd_table.proofs.Stepped.{zip_stepped}
use Rattle.ucd_table.proofs.Facts.{Stepped-everywhere}
use Rattle.ucd_breaks.specs.GraphemeClusterBreak.{grapheme_cluster_break}
use Rattle.ucd_breaks.specs.declared.GraphemeClusterBreak.{GraphemeClusterBreak}
use Rattle.ucd_breaks.specs.declared.GraphemeClusterBreak.TheVariants.{Control, Cr, Extend, L, Lf, Lv, Lvt, Other, Prepend, RegionalIndicator, SpacingMark, T, V, Zwj}
use Rattle.ucd_breaks.proofs.Computing.{ucd_breaks}
use Rattle.ucd_breaks.proofs.GraphemeClusterBreakLemmas.{grapheme_cluster_break_stepped}
use Rattle.ucd_derived.specs.IndicConjunctBreak.{indic_conjunct_break}
use Rattle.ucd_derived.specs.declared.IndicConjunctBreak.{IndicConjunctBreak}
use Rattle.ucd_derived.specs.declared.IndicConjunctBreak.TheVariants as InCb
use Rattle.ucd_derived.proofs.Computing.{ucd_derived}
use Rattle.ucd_derived.proofs.IndicConjunctBreakLemmas.{indic_conjunct_break_stepped}
use Rattle.ucd_emoji.specs.Binary.{is_extended_pictographic}
use Rattle.ucd_emoji.proofs.BinaryLemmas.{is_extended_pictographic_stepped}
use Rattle.ucd_emoji.proofs.Computing.{ucd_emoji}
use Rattle.unicode_segmentation.specs.Grapheme.{break_by_pair, is_extend, is_regional, is_zwj, is_grapheme_break, ends_in_linker, ends_in_pictograph, ends_in_half_flag}
use Rattle.unicode_segmentation.specs.Segments.{prepend}
use Rattle.ansi_clusters.specs.Columns.{clusters, cluster_width, columns_of, columns, bytes_of, IsClusterBoundary}
use Rattle.ansi_clusters.specs.BreakStates.{links, break_state_of}
use Rattle.ansi_clusters.specs.Walks.{clusters_after}
use Rattle.ansi_clusters.specs.declared.break_state.BreakState.{BreakState}
use Rattle.ansi_clusters.proofs.BreakLemmas.{break_state-push, joins, is_grapheme_break-decided}
use Rattle.ansi_clusters.proofs.ClusterLemmas.{cluster-begins, clusters-none}
use Rattle.ansi_clusters.proofs.ClusterLawLemmas.{reversed_before, breaks-last, IsClusterFront, front_is, front-chars}

-- the values that end a cluster, whatever follows but a line feed (GB4)
abbrev pub is_control : GraphemeClusterBreak → Bool
is_control Control = true
is_control Cr = true
is_control Lf = true
is_control _ = false

-- those that never begin one, but after a control (GB9)
abbrev extends : GraphemeClusterBreak → Bool
extends v = is_extend v || is_zwj v

-- the values that a linker, and what extends it, may end with
abbrev is_linking : IndicConjunctBreak → Bool
is_linking InCb.Linker = true
is_linking InCb.Extend = true
is_linking _ = false

abbrev looks_back : IndicConjunctBreak → Bool
looks_back InCb.Extend = true
looks_back _ = false

-- ---- what the tables say of every character

conjunct_break-by_value : (c : ℕ) → ((not (is_control (grapheme_cluster_break c)) || not (is_linking (indic_conjunct_break c))) && (not (looks_back (indic_conjunct_break c)) || extends (grapheme_cluster_break c))) ≡ true
unfolding ucd_breaks ucd_derived
conjunct_break-by_value c =
    let both = zip_stepped (λ v i. (not (is_control v) || not (is_linking i)) && (not (looks_back i) || extends v)) grapheme_cluster_break indic_conjunct_break grapheme_cluster_break_stepped indic_conjunct_break_stepped in
    Stepped-everywhere _ both refl c

control-no_pictograph : (c : ℕ) → (not (is_control (grapheme_cluster_break c)) || not (is_extended_pictographic c)) ≡ true
unfolding ucd_breaks ucd_emoji
control-no_pictograph c =
    let both = zip_stepped (λ v p. not (is_control v) || not p) grapheme_cluster_break is_extended_pictographic grapheme_cluster_break_stepped is_extended_pictographic_stepped in
    Stepped-everywhere _ both refl c

pub true_if_implied : (a b : Bool) → (not a || b) ≡ true → a ≡ true → b ≡ true
true_if_implied true b e is = e
true_if_implied false b e is = absurd (cc)

false_if_not_both : (a b : Bool) → (not a || not b) ≡ true → a ≡ true → b ≡ false
false_if_not_both true true e is = absurd (cc)
false_if_not_both true false e is = refl
false_if_not_both false b e is = absurd (cc)

-- ---- what the rules say of every value

control-no_other : (v : GraphemeClusterBreak) → is_control v ≡ true → (is_extend v ≡ false) × (is_regional v ≡ false)
control-no_other Control is = (refl, refl)
control-no_other Cr is = (refl, refl)
control-no_other Lf is = (refl, refl)
control-no_other _ is = absurd (cc)

break_by_pair-extend : (l : GraphemeClusterBreak) (b : Bool) → unwrap_or (break_by_pair true l Extend) b ≡ is_control l
break_by_pair-extend Control b = refl
break_by_pair-extend Cr b = refl
break_by_pair-extend Extend b = refl
break_by_pair-extend L b = refl
break_by_pair-extend Lf b = refl
break_by_pair-extend Lv b = refl
break_by_pair-extend Lvt b = refl
break_by_pair-extend Other b = refl
break_by_pair-extend Prepend b = refl
break_by_pair-extend RegionalIndicator b = refl
break_by_pair-extend SpacingMark b = refl
break_by_pair-extend T b = refl
break_by_pair-extend V b = refl
break_by_pair-extend Zwj b = refl

break_by_pair-zwj : (l : GraphemeClusterBreak) (b : Bool) → unwrap_or (break_by_pair true l Zwj) b ≡ is_control l
break_by_pair-zwj Control b = refl
break_by_pair-zwj Cr b = refl
break_by_pair-zwj Extend b = refl
break_by_pair-zwj L b = refl
break_by_pair-zwj Lf b = refl
break_by_pair-zwj Lv b = refl
break_by_pair-zwj Lvt b = refl
break_by_pair-zwj Other b = refl
break_by_pair-zwj Prepend b = refl
break_by_pair-zwj RegionalIndicator b = refl
break_by_pair-zwj SpacingMark b = refl
break_by_pair-zwj T b = refl
break_by_pair-zwj V b = refl
break_by_pair-zwj Zwj b = refl

extend-breaks : (l v : GraphemeClusterBreak) (b : Bool) → extends v ≡ true → unwrap_or (break_by_pair true l v) b ≡ true → is_control l ≡ true
extend-breaks l Extend b is breaks = sym (break_by_pair-extend l b) ∙ breaks
extend-breaks l Zwj b is breaks = sym (break_by_pair-zwj l b) ∙ breaks
extend-breaks l _ b is breaks = absurd (cc)

break_by_pair-regional : (l : GraphemeClusterBreak) (b : Bool) → unwrap_or (break_by_pair true l RegionalIndicator) b ≡ true → (is_control l ≡ true) ⊎ (b ≡ true)
break_by_pair-regional Control b breaks = inl refl
break_by_pair-regional Cr b breaks = inl refl
break_by_pair-regional Lf b breaks = inl refl
break_by_pair-regional Prepend b breaks = absurd (cc)
break_by_pair-regional _ b breaks = inr breaks

regional-breaks : (l v : GraphemeClusterBreak) (b : Bool) → is_regional v ≡ true → unwrap_or (break_by_pair true l v) b ≡ true → (is_control l ≡ true) ⊎ (b ≡ true)
regional-breaks l RegionalIndicator b is breaks = break_by_pair-regional l b breaks
regional-breaks l _ b is breaks = absurd (cc)

-- ---- after a control the summary is that of no characters

ends_in_linker-unlinked : (i : IndicConjunctBreak) (is : List IndicConjunctBreak) → is_linking i ≡ false → ends_in_linker (i ∷ is) ≡ false
unfolding ends_in_linker
ends_in_linker-unlinked InCb.Consonant is not_linking = refl
ends_in_linker-unlinked InCb.Extend is not_linking = absurd (cc)
ends_in_linker-unlinked InCb.Linker is not_linking = absurd (cc)
ends_in_linker-unlinked InCb.None is not_linking = refl

-- of the characters before such a place the summary keeps only the last one
record IsForgotten (s : BreakState) : Type 0 where
  linked : s.is_linked ≡ false
  pictograph : s.is_pictograph ≡ false
  half_flag : s.is_half_flag ≡ false

IsForgotten-after_control : (c : ℕ) (before : List ℕ) → is_control (grapheme_cluster_break c) ≡ true → IsForgotten (break_state_of (c ∷ before))
unfolding ends_in_pictograph ends_in_half_flag
IsForgotten-after_control c before control =
    let v = grapheme_cluster_break c in
    let none = control-no_other v control in
    record {
      linked = ends_in_linker-unlinked (indic_conjunct_break c) (map indic_conjunct_break before) (false_if_not_both _ _ (and_parts _ _ (conjunct_break-by_value c)).0 control);
      pictograph = ap (λ b. b || (is_extend v && ends_in_pictograph before)) (false_if_not_both _ _ (control-no_pictograph c) control) ∙ ap (λ b. b && ends_in_pictograph before) none.0;
      half_flag = ap (λ b. b && not (ends_in_half_flag before)) none.1;
    }

abbrev state_after : ℕ → BreakState → BreakState
state_after c s = record {
  last = grapheme_cluster_break c;
  is_linked = links (indic_conjunct_break c) s.is_linked;
  is_pictograph = is_extended_pictographic c || (is_extend (grapheme_cluster_break c) && s.is_pictograph);
  is_joined = is_zwj (grapheme_cluster_break c) && s.is_pictograph;
  is_half_flag = is_regional (grapheme_cluster_break c) && not s.is_half_flag;
}

step-is : (c : ℕ) (before : List ℕ) → state_after c (break_state_of before) ≡ break_state_of (c ∷ before)
step-is c before = break_state-push c (break_state_of before) before refl (grapheme_cluster_break c) _ _ _ _ refl refl refl refl refl

links-alone : (i : IndicConjunctBreak) (k : Bool) → (looks_back i ≡ true → k ≡ false) → links i k ≡ links i false
links-alone InCb.Consonant k none = refl
links-alone InCb.Extend k none = none refl
links-alone InCb.Linker k none = refl
links-alone InCb.None k none = refl

and-alike : (a b d : Bool) → (a ≡ true → b ≡ d) → (a && b) ≡ (a && d)
and-alike true b d same = same refl
and-alike false b d same = refl

step-alike : (c : ℕ) (s r : BreakState) → links (indic_conjunct_break c) s.is_linked ≡ links (indic_conjunct_break c) r.is_linked
    → (is_extend (grapheme_cluster_break c) && s.is_pictograph) ≡ (is_extend (grapheme_cluster_break c) && r.is_pictograph)
    → (is_zwj (grapheme_cluster_break c) && s.is_pictograph) ≡ (is_zwj (grapheme_cluster_break c) && r.is_pictograph)
    → (is_regional (grapheme_cluster_break c) && not s.is_half_flag) ≡ (is_regional (grapheme_cluster_break c) && not r.is_half_flag) → state_after c s ≡ state_after c r
step-alike c s r linked pictograph joined half = cc

not_joined : (a h r : Bool) → not (a || (h && r)) ≡ true → r ≡ true → h ≡ false
not_joined true h r e is = absurd (cc)
not_joined false true true e is = absurd (cc)
not_joined false true false e is = absurd (cc)
not_joined false false r e is = refl

extend-or : (a b : Bool) → a ≡ true → (a || b) ≡ true
extend-or true b e = refl
extend-or false b e = absurd (cc)

zwj-or : (a b : Bool) → b ≡ true → (a || b) ≡ true
zwj-or true b e = refl
zwj-or false b e = e

-- after the first character past a break, as after that character alone
break_state-alone : (last : ℕ) (before : List ℕ) (c : ℕ) (cs : List ℕ) → is_grapheme_break true (last ∷ before) (c ∷ cs) ≡ true → break_state_of (c ∷ last ∷ before) ≡ break_state_of (c ∷ [])
unfolding ends_in_linker ends_in_pictograph ends_in_half_flag
break_state-alone last before c cs breaks =
    let s = break_state_of (last ∷ before) in
    let v = grapheme_cluster_break c in
    let i = indic_conjunct_break c in
    let rule : unwrap_or (break_by_pair true s.last v) (not (joins s v c)) ≡ true = is_grapheme_break-decided s (last ∷ before) c cs (λ none. cc) refl v refl _ refl ∙ breaks in
    let after_control : extends v ≡ true → IsForgotten s = λ e. IsForgotten-after_control last before (extend-breaks s.last v _ e rule) in
    let half : is_regional v ≡ true → s.is_half_flag ≡ false = λ e. elim (regional-breaks s.last v _ e rule) [
      | inl control ↦ (IsForgotten-after_control last before control).half_flag
      | inr apart ↦ not_joined _ s.is_half_flag (is_regional v) apart e
    ] in
    sym (step-is c (last ∷ before))
    ∙ step-alike c s (break_state_of [])
    (links-alone i s.is_linked (λ e. (after_control (true_if_implied _ _ (and_parts _ _ (conjunct_break-by_value c)).1 e)).linked))
    (and-alike (is_extend v) s.is_pictograph false (λ e. (after_control (extend-or _ _ e)).pictograph))
    (and-alike (is_zwj v) s.is_pictograph false (λ e. (after_control (zwj-or _ _ e)).pictograph))
    (and-alike (is_regional v) (not s.is_half_flag) true (λ e. ap not (half e)))
    ∙ step-is c []

-- ---- the clusters of a text depend only on the summary of the characters before it

same-break : (c : ℕ) (before others cs : List ℕ) → break_state_of (c ∷ before) ≡ break_state_of (c ∷ others) → is_grapheme_break true (c ∷ before) cs ≡ is_grapheme_break true (c ∷ others) cs
same-break c before others [] same = breaks-last c before ∙ sym (breaks-last c others)
same-break c before others (d ∷ cs) same =
    let v = grapheme_cluster_break d in
    sym (is_grapheme_break-decided (break_state_of (c ∷ others)) (c ∷ before) d cs (λ none. cc) (sym same) v refl _ refl)
    ∙ is_grapheme_break-decided (break_state_of (c ∷ others)) (c ∷ others) d cs (λ none. cc) refl v refl _ refl

same_first : (c : ℕ) (before others cs : List ℕ) → break_state_of (c ∷ before) ≡ break_state_of (c ∷ others) → clusters_after (c ∷ before) cs ≡ clusters_after (c ∷ others) cs
    → clusters_after before (c ∷ cs) ≡ clusters_after others (c ∷ cs)
same_first c before others cs same rest =
    cluster-begins before c cs
    ∙ ap₂ (λ b ks. if b then (c ∷ []) ∷ ks else prepend (c ∷ []) ks) (same-break c before others cs same) rest
    ∙ sym (cluster-begins others c cs)

same_clusters : (c : ℕ) (before others cs : List ℕ) → break_state_of (c ∷ before) ≡ break_state_of (c ∷ others) → clusters_after before (c ∷ cs) ≡ clusters_after others (c ∷ cs)
same_clusters c before others [] same = same_first c before others [] same (clusters-none (c ∷ before) ∙ sym (clusters-none (c ∷ others)))
same_clusters c before others (d ∷ cs) same =
    same_first c before others (d ∷ cs) same
    (same_clusters d (c ∷ before) (c ∷ others) cs (sym (step-is d (c ∷ before)) ∙ ap (state_after d) same ∙ step-is d (c ∷ others)))

pub clusters-alone : (before cs : List ℕ) → is_grapheme_break true before cs ≡ true → clusters_after before cs ≡ clusters_after [] cs
clusters-alone [] cs breaks = refl
clusters-alone (last ∷ before) [] breaks = clusters-none (last ∷ before) ∙ sym (clusters-none [])
clusters-alone (last ∷ before) (c ∷ cs) breaks = same_clusters c (last ∷ before) [] cs (break_state-alone last before c cs breaks)

-- ---- two texts in a row

module _ (x y : List ℕ) (left : IsUtf8 x) (right : IsUtf8 y) (at : IsClusterBoundary (x ++ y) (length x)) where
  both : IsUtf8 (x ++ y)
  both = IsUtf8-append x y left right

  abbrev first : IsClusterFront [] (chars (x ++ y)) at.0
  first = front_is (x ++ y) both at.0

  x_is : take (bytes_of (take at.0 (clusters (x ++ y)))) (x ++ y) ≡ x
  x_is = ap (λ n. take n (x ++ y)) (sym at.1) ∙ take_at x y (length x) refl

  front_chars : first.front ≡ chars x
  front_chars = front-chars (x ++ y) both at.0 ∙ ap chars x_is

  rest_chars : first.rest ≡ chars y
  rest_chars =
      sym (drop_at first.front first.rest (length first.front) refl) ∙ ap (drop (length first.front)) (sym first.all)
      ∙ ap₂ drop (ap length front_chars) (chars-append x y left) ∙ drop_at (chars x) (chars y) (length (chars x)) refl

  apart : (front rest : List ℕ) → (front ≡ []) ⊎ (is_grapheme_break true (reversed_before [] front) rest ≡ true) → clusters_after (reversed_before [] front) rest ≡ clusters_after [] rest
  apart front rest (inl none) = ap (λ u. clusters_after (reversed_before [] u) rest) none
  apart front rest (inr breaks) = clusters-alone (reversed_before [] front) rest breaks

  pub clusters-add_up : clusters (x ++ y) ≡ clusters x ++ clusters y
  clusters-add_up =
      sym (take-append-drop at.0 (clusters (x ++ y)))
      ∙ ap₂ ◌++◌ (sym first.first ∙ ap (clusters_after []) front_chars)
      (sym first.others ∙ apart first.front first.rest first.breaks ∙ ap (clusters_after []) rest_chars)

  pub columns-add_up : columns (x ++ y) ≡ columns x + columns y
  columns-add_up = ap columns_of clusters-add_up ∙ sum_by-append cluster_width (clusters x) (clusters y)

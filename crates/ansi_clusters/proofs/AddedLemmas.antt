-- Characters that add a known number of columns to a cluster that they extend.
use Rattle.std.proofs.Common.{◌≡◌, ◌≢◌, ℕ, ◌+◌, ◌<◌, ◌≤◌, ◌⊎◌, inl, inr, ◌&&◌, ◌||◌, ◌==◌, Bool, true, false, not, Option, Some, None, IfSome, unwrap_or, List, [], ◌∷◌, ◌++◌, refl, sym, ap, ap₂, subst, ◌∙◌, arith}
use Rattle.std.proofs.lemmas.Bool.{and_parts, eqb-true, not-true}
use Rattle.std.proofs.lemmas.Bool.Decides.{nat_tests}
use Rattle.ucd_table.specs.Rows.{Range, in_ranges}
use Rattle.ucd_table.proofs.StepsLemmas.{rises_from}
use Rattle.ucd_table.proofs.Stepped.{Stepped, zip_stepped, of_ranges}
use Rattle.ucd_table.proofs.Facts.{Stepped-everywhere}
use Rattle.ucd_table.proofs.Computing.{tables}
use Rattle.ucd_breaks.specs.GraphemeClusterBreak.{grapheme_cluster_break, grapheme_cluster_break_number}
use Rattle.ucd_breaks.specs.declared.GraphemeClusterBreak.{GraphemeClusterBreak}
use Rattle.ucd_breaks.specs.declared.GraphemeClusterBreak.TheVariants.{Extend, SpacingMark}
use Rattle.ucd_breaks.proofs.Computing.{ucd_breaks}
use Rattle.ucd_breaks.proofs.GraphemeClusterBreakLemmas.{grapheme_cluster_break_stepped, grapheme_cluster_break_number_injective}
use Rattle.ucd_derived.specs.IndicConjunctBreak.{indic_conjunct_break}
use Rattle.ucd_derived.specs.declared.IndicConjunctBreak.{IndicConjunctBreak}
use Rattle.ucd_derived.specs.declared.IndicConjunctBreak.TheVariants as InCb
use Rattle.ucd_derived.proofs.Computing.{ucd_derived}
use Rattle.ucd_derived.proofs.IndicConjunctBreakLemmas.{indic_conjunct_break_stepped}
use Rattle.ucd_emoji.specs.Binary.{is_extended_pictographic}
use Rattle.ucd_emoji.proofs.BinaryLemmas.{is_extended_pictographic_stepped}
use Rattle.ucd_emoji.proofs.Computing.{ucd_emoji}
use Rattle.unicode_segmentation.specs.Grapheme.{is_grapheme_break, break_by_pair, is_extend, is_zwj, is_regional}
use Rattle.unicode_width.specs.declared.kind.Kind.{Kind}
use Rattle.unicode_width.specs.declared.kind.Kind.TheVariants as kinds
use Rattle.unicode_width.specs.declared.state.State.{State}
use Rattle.unicode_width.specs.Kind.{kind}
use Rattle.unicode_width.specs.Width.{plain, of_kind, alone, step, past_emoji, read_before, str_width}
use Rattle.unicode_width.proofs.KindLemmas.{kind_stepped}
use Rattle.ansi_safe.specs.Safe.{is_printing}
use Rattle.ansi_clusters.specs.declared.break_state.BreakState.{BreakState}
use Rattle.ansi_clusters.specs.BreakStates.{break_state_of, state_of, links, added_columns, IsWithAdded, IsSingle, IsSingleValue}
use Rattle.ansi_clusters.specs.Columns.{cluster_width}
use Rattle.ansi_clusters.proofs.BreakLemmas.{break_state-push, is_grapheme_break-decided}
use Rattle.ansi_clusters.proofs.SingleLemmas.{break_state-single, single_value-each, single-pair}

-- ---- what the tables say of them

abbrev is_zero : Kind → Bool
is_zero kinds.Zero = true
is_zero _ = false

abbrev is_linker : IndicConjunctBreak → Bool
is_linker InCb.Linker = true
is_linker _ = false

abbrev is_extend_value : GraphemeClusterBreak → Bool
is_extend_value g = grapheme_cluster_break_number g == grapheme_cluster_break_number Extend

-- those without a column
abbrev zero_ranges : List Range
zero_ranges = (0x300, 0x337) ∷ (0x339, 0x36F) ∷ (0xE31, 0xE31) ∷ (0xE34, 0xE3A) ∷ (0xE47, 0xE4E) ∷ []

abbrev is_zero_extend : ℕ → Bool
is_zero_extend c = (is_zero (kind c) && is_extend_value (grapheme_cluster_break c)) && (not (is_linker (indic_conjunct_break c)) && not (is_extended_pictographic c))

unfoldable zero_extend_stepped : Stepped is_zero_extend
unfolding tables
zero_extend_stepped =
    zip_stepped ◌&&◌ (λ c. is_zero (kind c) && is_extend_value (grapheme_cluster_break c)) (λ c. not (is_linker (indic_conjunct_break c)) && not (is_extended_pictographic c))
    (zip_stepped (λ k g. is_zero k && is_extend_value g) kind grapheme_cluster_break kind_stepped grapheme_cluster_break_stepped)
    (zip_stepped (λ i p. not (is_linker i) && not p) indic_conjunct_break is_extended_pictographic indic_conjunct_break_stepped is_extended_pictographic_stepped)

zero_extends : (c : ℕ) → (not (in_ranges zero_ranges c) || is_zero_extend c) ≡ true
unfolding tables zero_extend_stepped grapheme_cluster_break_stepped indic_conjunct_break_stepped is_extended_pictographic_stepped kind_stepped in_ranges rises_from
zero_extends = Stepped-everywhere _ (zip_stepped (λ r z. not r || z) (in_ranges zero_ranges) is_zero_extend (of_ranges zero_ranges refl) zero_extend_stepped) refl

sara_am-kind : kind 0xE33 ≡ kinds.Narrow
unfolding tables kind_stepped
sara_am-kind = refl

sara_am-value : grapheme_cluster_break 0xE33 ≡ SpacingMark
unfolding ucd_breaks
sara_am-value = refl

sara_am-conjunct : indic_conjunct_break 0xE33 ≡ InCb.None
unfolding ucd_derived
sara_am-conjunct = refl

sara_am-pictograph : is_extended_pictographic 0xE33 ≡ false
unfolding ucd_emoji
sara_am-pictograph = refl

-- one of those without a column, or U+0E33
added-cases : (c k : ℕ) → added_columns c ≡ Some k → ((in_ranges zero_ranges c ≡ true) × (k ≡ 0)) ⊎ ((c ≡ 0xE33) × (k ≡ 1))
unfolding in_ranges
added-cases c k is = grind (arith, nat_tests, is)

zero-kind : (c : ℕ) (k : Kind) → is_zero k ≡ true → of_kind false c k ≡ (0, plain)
zero-kind c kinds.Zero is = refl
zero-kind c kinds.Narrow is = absurd (cc is)
zero-kind c kinds.Wide is = absurd (cc is)
zero-kind c kinds.Ambiguous is = absurd (cc is)
zero-kind c kinds.Alef is = absurd (cc is)
zero-kind c kinds.KhmerLetter is = absurd (cc is)
zero-kind c kinds.TifinaghConsonant is = absurd (cc is)
zero-kind c kinds.LisuTone is = absurd (cc is)
zero-kind c kinds.RegionalIndicator is = absurd (cc is)
zero-kind c kinds.EmojiModifier is = absurd (cc is)
zero-kind c kinds.Emoji is = absurd (cc is)
zero-kind c kinds.Single is = absurd (cc is)

extend-value : (g : GraphemeClusterBreak) → is_extend_value g ≡ true → g ≡ Extend
extend-value g is = grapheme_cluster_break_number_injective g Extend (eqb-true _ _ is)

links-none : (i : IndicConjunctBreak) → not (is_linker i) ≡ true → links i false ≡ false
links-none InCb.None is = refl
links-none InCb.Consonant is = refl
links-none InCb.Extend is = refl
links-none InCb.Linker is = absurd (cc is)

-- what a character means for the rules on clusters and for widths, if it adds k columns
pub record IsAdded (c k : ℕ) : Type 0 where
  pub width : of_kind false c (kind c) ≡ (k, plain)
  pub value : (grapheme_cluster_break c ≡ Extend) ⊎ (grapheme_cluster_break c ≡ SpacingMark)
  pub unlinked : links (indic_conjunct_break c) false ≡ false
  pub pictograph : is_extended_pictographic c ≡ false
  pub high : 0xA0 < c
  pub printing : is_printing c ≡ true

added-above : (c k : ℕ) → added_columns c ≡ Some k → 0xA0 < c
added-above c k is = grind (arith, nat_tests, is)

pub added-few : (c k : ℕ) → added_columns c ≡ Some k → k ≤ 1
added-few c k is = grind (arith, nat_tests, is)

added-printing : (c k : ℕ) → added_columns c ≡ Some k → is_printing c ≡ true
added-printing c k is = grind (arith, nat_tests, is)

pub added-is : (c k : ℕ) → added_columns c ≡ Some k → IsAdded c k
added-is c k is = elim (added-cases c k is) [
  | inl zero ↦ (
      let all : is_zero_extend c ≡ true = rw zero.0 at (zero_extends c) in
      let parts = and_parts _ _ all in
      let first = and_parts _ _ parts.0 in
      let second = and_parts _ _ parts.1 in
      record {
        width = zero-kind c (kind c) first.0 ∙ ap (λ n. (n, plain)) (sym zero.1);
        value = inl (extend-value _ first.1);
        unlinked = links-none _ second.0;
        pictograph = not-true _ second.1;
        high = added-above c k is;
        printing = added-printing c k is;
      })
  | inr sara_am ↦ record {
    width = ap (λ d. of_kind false d (kind d)) sara_am.0 ∙ ap (of_kind false 0xE33) sara_am-kind ∙ ap (λ n. (n, plain)) (sym sara_am.1);
    value = inr (ap grapheme_cluster_break sara_am.0 ∙ sara_am-value);
    unlinked = ap (λ d. links (indic_conjunct_break d) false) sara_am.0 ∙ ap (λ i. links i false) sara_am-conjunct;
    pictograph = ap is_extended_pictographic sara_am.0 ∙ sara_am-pictograph;
    high = added-above c k is;
    printing = added-printing c k is;
  }
]

-- their values
pub added-value-sara_am : (c : ℕ) → c ≡ 0xE33 → grapheme_cluster_break c ≡ SpacingMark
added-value-sara_am c is = ap grapheme_cluster_break is ∙ sara_am-value

pub added-value-other : (c k : ℕ) → added_columns c ≡ Some k → c ≢ 0xE33 → grapheme_cluster_break c ≡ Extend
added-value-other c k is other = elim (added-cases c k is) [
  | inl zero ↦ extend-value _ (and_parts _ _ (and_parts _ _ (rw zero.0 at (zero_extends c))).0).1
  | inr sara_am ↦ absurd (other sara_am.0)
]

-- ---- the columns of a cluster with them

-- characters that add n columns together
abbrev AreAdded : List ℕ → ℕ → Type 0
AreAdded [] n = n ≡ 0
AreAdded (c ∷ cs) n = (k : ℕ) × (more : ℕ) × (added_columns c ≡ Some k) × AreAdded cs more × (n ≡ k + more)

added-push : (cs : List ℕ) (n c k : ℕ) → AreAdded cs n → added_columns c ≡ Some k → AreAdded (cs ++ c ∷ []) (n + k)
added-push [] n c k none is = (k, 0, is, refl, (let total : n + k ≡ k + 0 = omega (arith, none) in total))
added-push (d ∷ cs) n c k all is = (all.0, all.1 + k, all.2, added-push cs all.1 c k all.3 is, (let total : n + k ≡ all.0 + (all.1 + k) = omega (arith, all.4) in total))

-- before a text that leaves nothing to join, a character adds its own columns
step-high : (c n : ℕ) → 0xA0 < c → step false c (n, plain) ≡ (n + (alone false c).0, (alone false c).1)
unfolding step past_emoji
step-high c n high = grind (arith, nat_tests)

step-added : (c k n : ℕ) → IsAdded c k → step false c (n, plain) ≡ (k + n, plain)
unfolding alone
step-added c k n is =
    let sum : n + k ≡ k + n = omega arith in
    step-high c n is.high ∙ ap (λ (r : ℕ × State). (n + r.0, r.1)) is.width ∙ ap (λ m. (m, plain)) sum

read-added : (cs : List ℕ) (n : ℕ) → AreAdded cs n → read_before false cs (0, plain) ≡ (n, plain)
read-added [] n none = ap (λ m. (m, plain)) (sym none)
read-added (c ∷ cs) n all = ap (step false c) (read-added cs all.1 all.3) ∙ step-added c all.0 all.1 (added-is c all.0 all.2) ∙ ap (λ m. (m, plain)) (sym all.4)

step-first : (c n : ℕ) → (step false c (n, plain)).0 ≡ n + (step false c (0, plain)).0
unfolding step past_emoji
step-first c n = grind (arith, nat_tests)

width-added : (c : ℕ) (cs : List ℕ) (n : ℕ) → AreAdded cs n → cluster_width (c ∷ cs) ≡ cluster_width (c ∷ []) + n
unfolding str_width
width-added c cs n all = (let r = read-added cs n all in let sum = step-first c n in omega (arith, ap (λ (s : ℕ × State). (step false c s).0) r, sum))

-- the cluster is c and such characters, and has this number of columns
pub record IsExtendedBy (cluster : List ℕ) (c columns : ℕ) : Type 0 where
  pub added : List ℕ
  pub more : ℕ
  pub is : cluster ≡ c ∷ added
  pub adds : AreAdded added more
  pub columns_are : columns ≡ cluster_width (c ∷ []) + more

pub extended-one : (cluster : List ℕ) (c columns : ℕ) → cluster ≡ c ∷ [] → columns ≡ cluster_width (c ∷ []) → IsExtendedBy cluster c columns
extended-one cluster c columns is columns_are = record { added = []; more = 0; is = is; adds = refl; columns_are = (let sum : columns ≡ cluster_width (c ∷ []) + 0 = omega (arith, columns_are) in sum) }

pub extended-push : (cluster longer : List ℕ) (c columns d k : ℕ) → IsExtendedBy cluster c columns → longer ≡ cluster ++ d ∷ [] → added_columns d ≡ Some k → IsExtendedBy longer c (columns + k)
extended-push cluster longer c columns d k so_far pushed adds = record {
  added = so_far.added ++ d ∷ [];
  more = so_far.more + k;
  is = pushed ∙ ap (λ cs. cs ++ d ∷ []) so_far.is;
  adds = added-push so_far.added so_far.more d k so_far.adds adds;
  columns_are = (let sum : columns + k ≡ cluster_width (c ∷ []) + (so_far.more + k) = omega (arith, so_far.columns_are) in sum);
}

pub extended-width : (cluster : List ℕ) (c columns : ℕ) → IsExtendedBy cluster c columns → columns ≡ cluster_width cluster
extended-width cluster c columns so_far = so_far.columns_are ∙ sym (width-added c so_far.added so_far.more so_far.adds) ∙ ap cluster_width (sym so_far.is)

-- if its columns are known
abbrev pub AreKnown : Option ℕ → List ℕ → ℕ → ℕ → Type 0
AreKnown columns cluster c most = IfSome columns (λ n. IsExtendedBy cluster c n × (n ≤ most))

pub known-push : (columns sum : Option ℕ) (cluster longer : List ℕ) (c d least most : ℕ) → AreKnown columns cluster c least → IfSome sum (IsWithAdded columns d) → longer ≡ cluster ++ d ∷ [] → least < most → AreKnown sum longer c most
known-push columns None cluster longer c d least most known with pushed less = tt
known-push columns (Some m) cluster longer c d least most known (n, more, is, adds, total) pushed less =
    let so_far = subst (λ o. AreKnown o cluster c least) is known in
    let few = added-few d more adds in
    (subst (IsExtendedBy longer c) (sym total) (extended-push cluster longer c n d more so_far.0 pushed adds), omega (arith, so_far.1, total, few, less))

pub known-less : (columns : Option ℕ) (cluster : List ℕ) (c most limit : ℕ) → AreKnown columns cluster c most → most + 1 < limit → IfSome columns (λ n. n + 1 < limit)
known-less None cluster c most limit known less = tt
known-less (Some n) cluster c most limit known less = omega (arith, known.1, less)

-- ---- where the cluster ends

-- the state after a single character and such characters
pub record IsStateAdded (state : BreakState) : Type 0 where
  pub value : GraphemeClusterBreak
  pub is : state ≡ state_of value
  pub joins : (c k : ℕ) → IsAdded c k → break_by_pair true value (grapheme_cluster_break c) ≡ Some false
  pub parts : (d : ℕ) → IsSingle d → unwrap_or (break_by_pair true value (grapheme_cluster_break d)) true ≡ true

-- after a single one
single-joins : (v : GraphemeClusterBreak) → IsSingleValue v → (break_by_pair true v Extend ≡ Some false) × (break_by_pair true v SpacingMark ≡ Some false)
single-joins = single_value-each (λ v. (break_by_pair true v Extend ≡ Some false) × (break_by_pair true v SpacingMark ≡ Some false)) (refl, refl) (refl, refl) (refl, refl)

by_value : (v : GraphemeClusterBreak) → (break_by_pair true v Extend ≡ Some false) × (break_by_pair true v SpacingMark ≡ Some false) → (c k : ℕ) → IsAdded c k → break_by_pair true v (grapheme_cluster_break c) ≡ Some false
by_value v both c k is = elim is.value [
  | inl e ↦ ap (break_by_pair true v) e ∙ both.0
  | inr e ↦ ap (break_by_pair true v) e ∙ both.1
]

pub state-single-is : (state : BreakState) (c : ℕ) → IsSingle c → state ≡ break_state_of (c ∷ []) → IsStateAdded state
state-single-is state c single is = record {
  value = grapheme_cluster_break c;
  is = is ∙ sym (break_state-single c [] (grapheme_cluster_break c) single refl);
  joins = by_value _ (single-joins _ single.break);
  parts = λ d next. single-pair _ _ single.break next.break;
}

-- after one more
single-after : (v : GraphemeClusterBreak) → IsSingleValue v → (unwrap_or (break_by_pair true Extend v) true ≡ true) × (unwrap_or (break_by_pair true SpacingMark v) true ≡ true)
single-after = single_value-each (λ v. (unwrap_or (break_by_pair true Extend v) true ≡ true) × (unwrap_or (break_by_pair true SpacingMark v) true ≡ true)) (refl, refl) (refl, refl) (refl, refl)

pub state-added : (c k : ℕ) → IsAdded c k → IsStateAdded (state_of (grapheme_cluster_break c))
state-added c k is = elim is.value [
  | inl e ↦ record { value = Extend; is = ap state_of e; joins = by_value Extend (refl, refl); parts = λ d next. (single-after _ next.break).0 }
  | inr e ↦ record { value = SpacingMark; is = ap state_of e; joins = by_value SpacingMark (refl, refl); parts = λ d next. (single-after _ next.break).1 }
]

-- the cluster goes on
pub joins-added : (state : BreakState) (before : List ℕ) (c k : ℕ) (after : List ℕ) → before ≢ [] → IsStateAdded state → state ≡ break_state_of before → IsAdded c k → is_grapheme_break true before (c ∷ after) ≡ false
joins-added state before c k after some added is next =
    sym (is_grapheme_break-decided (state_of added.value) before c after some (sym added.is ∙ is) (grapheme_cluster_break c) refl (Some false) (added.joins c k next))

pub push-added : (state : BreakState) (before : List ℕ) (c k : ℕ) → IsStateAdded state → state ≡ break_state_of before → IsAdded c k → state_of (grapheme_cluster_break c) ≡ break_state_of (c ∷ before)
push-added state before c k added is next = elim next.value [
  | inl e ↦ pushed Extend e refl refl refl
  | inr e ↦ pushed SpacingMark e refl refl refl
]
  where
    pushed : (v : GraphemeClusterBreak) → grapheme_cluster_break c ≡ v → (is_extend v && false) ≡ false → (is_zwj v && false) ≡ false → (is_regional v && true) ≡ false → state_of (grapheme_cluster_break c) ≡ break_state_of (c ∷ before)
    pushed v e extend zwj regional = ap state_of e ∙ break_state-push c (state_of added.value) before (sym added.is ∙ is) v false false false false (sym e) (sym next.unlinked) (ap₂ (λ p x. p || x) (sym next.pictograph) (sym extend)) (sym zwj) (sym regional)

-- the cluster ends
pub breaks-added : (state : BreakState) (before : List ℕ) (d : ℕ) (after : List ℕ) → before ≢ [] → IsStateAdded state → state ≡ break_state_of before → IsSingle d → is_grapheme_break true before (d ∷ after) ≡ true
breaks-added state before d after some added is single =
    sym (is_grapheme_break-decided (state_of added.value) before d after some (sym added.is ∙ is) (grapheme_cluster_break d) refl (break_by_pair true added.value (grapheme_cluster_break d)) refl)
    ∙ added.parts d single

-- Printable ASCII in the tables of the rules on clusters, and its columns.
use Rattle.std.proofs.Common.{◌≡◌, ◌≢◌, ℕ, ◌+◌, ◌<◌, Bool, true, false, not, ◌&&◌, ◌||◌, ◌==◌, List, [], ◌∷◌, length, unwrap_or, IsTrue, eqb-true, inl, refl, sym, ap, ◌∙◌, arith}
use Rattle.std.specs.Int.{is_in_range}
use Rattle.std.specs.List.{All, list_all}
use Rattle.std.proofs.lemmas.Bool.{and_parts}
use Rattle.std.proofs.lemmas.Bool.Decides.{nat_tests}
use Rattle.std.proofs.lemmas.List.Elements.{All-nil, All-cons}
use Rattle.std.proofs.lemmas.List.Sums.{sum_by-cons}
use Rattle.std.proofs.lemmas.Str.Ascii.{IsAscii-from_all}
use Rattle.std.proofs.lemmas.Str.{chars-IsAscii}
use Rattle.ucd_table.proofs.Facts.{Stepped-below}
use Rattle.ucd_breaks.specs.GraphemeClusterBreak.{grapheme_cluster_break, grapheme_cluster_break_number}
use Rattle.ucd_breaks.specs.declared.GraphemeClusterBreak.TheVariants.{Other}
use Rattle.ucd_breaks.proofs.Computing.{ucd_breaks}
use Rattle.ucd_breaks.proofs.GraphemeClusterBreakLemmas.{grapheme_cluster_break_stepped, grapheme_cluster_break_number_injective}
use Rattle.ucd_derived.specs.IndicConjunctBreak.{indic_conjunct_break, indic_conjunct_break_number}
use Rattle.ucd_derived.specs.declared.IndicConjunctBreak.{IndicConjunctBreak}
use Rattle.ucd_derived.specs.declared.IndicConjunctBreak.TheVariants as InCb
use Rattle.ucd_derived.proofs.Computing.{ucd_derived}
use Rattle.ucd_derived.proofs.IndicConjunctBreakLemmas.{indic_conjunct_break_stepped, indic_conjunct_break_number_injective}
use Rattle.ucd_emoji.specs.Binary.{is_extended_pictographic}
use Rattle.ucd_emoji.proofs.BinaryLemmas.{is_extended_pictographic_stepped}
use Rattle.ucd_emoji.proofs.Computing.{ucd_emoji}
use Rattle.unicode_segmentation.specs.Grapheme.{is_grapheme_break, break_by_pair, is_consonant, ends_in_linker, ends_in_pictograph, ends_in_half_flag}
use Rattle.unicode_width.proofs.Rules.{str_width-printable}
use Rattle.ansi_clusters.specs.Columns.{cluster_width, columns_of, columns}
use Rattle.ansi_safe.specs.Safe.{is_printing}
use Rattle.ansi_clusters.specs.BreakStates.{break_state_of, IsSingle, IsShownSingle}
use Rattle.ansi_clusters.specs.Walks.{clusters_after}
use Rattle.ansi_clusters.specs.declared.break_state.BreakState.{BreakState}
use Rattle.ansi_clusters.proofs.ClusterLemmas.{cluster-begins, cluster-ends, cluster-last, clusters-none}
use Rattle.ucd_breaks.specs.declared.GraphemeClusterBreak.{GraphemeClusterBreak}
use Rattle.ansi_clusters.proofs.BreakLemmas.{joins, is_grapheme_break-decided}
use Rattle.ansi_clusters.proofs.SingleLemmas.{break_state-single, breaks-single}

abbrev pub is_printable : ℕ → Bool
is_printable = is_in_range 0x20 0x7E

pub printable-below_7F : (c : ℕ) → is_printable c ≡ true → c < 0x7F
printable-below_7F c printable = grind (arith, nat_tests)

pub grapheme_cluster_break-printable : (c : ℕ) → is_printable c ≡ true → Other ≡ grapheme_cluster_break c
unfolding ucd_breaks
grapheme_cluster_break-printable c printable =
    let test = Stepped-below grapheme_cluster_break grapheme_cluster_break_stepped (λ x v. not (is_printable x) || (grapheme_cluster_break_number Other == grapheme_cluster_break_number v)) 0x7F refl c (printable-below_7F c printable) in
    grapheme_cluster_break_number_injective _ _ (eqb-true _ _ (rw printable at test))

indic_conjunct_break-printable : (c : ℕ) → is_printable c ≡ true → InCb.None ≡ indic_conjunct_break c
unfolding ucd_derived
indic_conjunct_break-printable c printable =
    indic_conjunct_break_number_injective _ _ (eqb-true _ _
    (Stepped-below indic_conjunct_break indic_conjunct_break_stepped (λ x v. indic_conjunct_break_number InCb.None == indic_conjunct_break_number v) 0x7F refl c (printable-below_7F c printable)))

not-false : (b : Bool) → not b ≡ true → false ≡ b
not-false true e = cc
not-false false e = refl

is_extended_pictographic-printable : (c : ℕ) → is_printable c ≡ true → false ≡ is_extended_pictographic c
unfolding ucd_emoji
is_extended_pictographic-printable c printable = not-false _ (Stepped-below is_extended_pictographic is_extended_pictographic_stepped (λ x v. not v) 0x7F refl c (printable-below_7F c printable))

pub IsSingle-printable : (c : ℕ) → is_printable c ≡ true → IsSingle c
IsSingle-printable c printable = record {
  break = inl (sym (grapheme_cluster_break-printable c printable));
  conjunct = inl (sym (indic_conjunct_break-printable c printable));
  pictograph = sym (is_extended_pictographic-printable c printable);
}

-- after it, as after nothing
pub break_state-printable : (c : ℕ) (before : List ℕ) → is_printable c ≡ true → break_state_of [] ≡ break_state_of (c ∷ before)
unfolding ends_in_linker ends_in_pictograph ends_in_half_flag
break_state-printable c before printable = break_state-single c before Other (IsSingle-printable c printable) (grapheme_cluster_break-printable c printable)

no_join : (a b d : Bool) → (((a && false) || (b && false)) || (d && false)) ≡ false
no_join true true true = refl
no_join true true false = refl
no_join true false true = refl
no_join true false false = refl
no_join false true true = refl
no_join false true false = refl
no_join false false true = refl
no_join false false false = refl

-- before it, the value of the character there decides alone
pub ends-printable : (s : BreakState) (before : List ℕ) (next : ℕ) (after : List ℕ) → before ≢ [] → s ≡ break_state_of before → is_printable next ≡ true
    → unwrap_or (break_by_pair true s.last Other) true ≡ is_grapheme_break true before (next ∷ after)
ends-printable s before next after some is printable =
    let joins_none : joins s Other next ≡ false =
    ap (λ (v : IndicConjunctBreak). ((s.is_linked && is_consonant v) || (s.is_joined && is_extended_pictographic next)) || (s.is_half_flag && false)) (sym (indic_conjunct_break-printable next printable))
    ∙ ap (λ b. ((s.is_linked && false) || (s.is_joined && b)) || (s.is_half_flag && false)) (sym (is_extended_pictographic-printable next printable))
    ∙ no_join s.is_linked s.is_joined s.is_half_flag in
    ap (λ b. unwrap_or (break_by_pair true s.last Other) (not b)) (sym joins_none)
    ∙ is_grapheme_break-decided s before next after some is Other (grapheme_cluster_break-printable next printable) (break_by_pair true s.last Other) refl

-- ---- a text of printable ASCII

pub width-single : (c : ℕ) → is_printable c ≡ true → cluster_width (c ∷ []) ≡ 1
width-single c printable = str_width-printable false (c ∷ []) (rw printable refl)

pub printable-prints : (c : ℕ) → is_printable c ≡ true → is_printing c ≡ true
printable-prints c printable = grind (arith, nat_tests)

pub IsShownSingle-printable : (c : ℕ) → is_printable c ≡ true → IsShownSingle c 1
IsShownSingle-printable c printable = record {
  single = IsSingle-printable c printable;
  printing = printable-prints c printable;
  some = omega arith;
  columns_are = sym (width-single c printable);
}

pub breaks-between : (before : List ℕ) (c d : ℕ) (cs : List ℕ) → is_printable c ≡ true → is_printable d ≡ true → is_grapheme_break true (c ∷ before) (d ∷ cs) ≡ true
breaks-between before c d cs first second = breaks-single before c d cs (IsSingle-printable c first) (IsSingle-printable d second)

values_break : (d : ℕ) → d < 0x80 → unwrap_or (break_by_pair true Other (grapheme_cluster_break d)) true ≡ true
unfolding ucd_breaks
values_break d ascii = Stepped-below grapheme_cluster_break grapheme_cluster_break_stepped (λ x v. unwrap_or (break_by_pair true Other v) true) 0x80 refl d ascii

nothing_joins : (v : GraphemeClusterBreak) (d : ℕ) → joins (break_state_of []) v d ≡ false
unfolding ends_in_linker ends_in_pictograph ends_in_half_flag
nothing_joins v d = refl

-- a cluster ends after it if ASCII follows
pub breaks-before_ascii : (before : List ℕ) (c d : ℕ) (cs : List ℕ) → is_printable c ≡ true → d < 0x80 → is_grapheme_break true (c ∷ before) (d ∷ cs) ≡ true
breaks-before_ascii before c d cs printable ascii =
    let v = grapheme_cluster_break d in
    sym (is_grapheme_break-decided (break_state_of (c ∷ before)) (c ∷ before) d cs (λ none. cc) refl v refl (break_by_pair true (break_state_of (c ∷ before)).last v) refl)
    ∙ ap (λ (s : BreakState). unwrap_or (break_by_pair true s.last v) (not (joins s v d))) (sym (break_state-printable c before printable))
    ∙ ap (λ b. unwrap_or (break_by_pair true Other v) (not b)) (nothing_joins v d) ∙ values_break d ascii

columns-from : (before cs : List ℕ) → list_all is_printable cs ≡ true → columns_of (clusters_after before cs) ≡ length cs
columns-from before [] all = ap columns_of (clusters-none before)
columns-from before (c ∷ []) all =
    ap columns_of (cluster-begins before c [] ∙ cluster-last (c ∷ []) (c ∷ before) (λ none. cc))
    ∙ sum_by-cons cluster_width (c ∷ []) [] ∙ ap (λ n. n + 0) (width-single c (and_parts _ _ all).0)
columns-from before (c ∷ d ∷ cs) all =
    let first = (and_parts _ _ all).0 in
    let rest = (and_parts _ _ all).1 in
    let split : columns_of (clusters_after before (c ∷ d ∷ cs)) ≡ cluster_width (c ∷ []) + columns_of (clusters_after (c ∷ before) (d ∷ cs)) =
    ap columns_of (cluster-begins before c (d ∷ cs) ∙ cluster-ends (c ∷ []) (c ∷ before) (d ∷ cs) (breaks-between before c d cs first (and_parts _ _ rest).0))
    ∙ sum_by-cons cluster_width (c ∷ []) (clusters_after (c ∷ before) (d ∷ cs)) in
    omega (arith, split, width-single c first, columns-from (c ∷ before) (d ∷ cs) rest)

pub All-printable_is_ascii : (x : List ℕ) → list_all is_printable x ≡ true → All (λ b. b < 128) x
All-printable_is_ascii [] all = All-nil _
All-printable_is_ascii (b ∷ x) all = All-cons (λ b. b < 128) b x (omega (arith, printable-below_7F b (and_parts _ _ all).0)) (All-printable_is_ascii x (and_parts _ _ all).1)

pub columns-printable : (x : List ℕ) → IsTrue (list_all is_printable x) → columns x ≡ length x
columns-printable x all = ap (λ cs. columns_of (clusters_after [] cs)) (chars-IsAscii x (IsAscii-from_all x (All-printable_is_ascii x all))) ∙ columns-from [] x all

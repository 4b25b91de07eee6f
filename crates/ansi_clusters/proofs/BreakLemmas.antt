-- The rules on clusters, by the summary of the characters before a place.
use Rattle.std.proofs.Common.{◌≡◌, ◌≢◌, ℕ, Bool, true, false, not, ◌&&◌, ◌||◌, List, [], ◌∷◌, map, Option, unwrap_or, refl, sym, ap, ap₂, ◌∙◌}
use Rattle.std.proofs.lemmas.Bool.{or_left, and_left}
use Rattle.ucd_breaks.specs.GraphemeClusterBreak.{grapheme_cluster_break}
use Rattle.ucd_breaks.specs.declared.GraphemeClusterBreak.{GraphemeClusterBreak}
use Rattle.ucd_derived.specs.IndicConjunctBreak.{indic_conjunct_break}
use Rattle.ucd_derived.specs.declared.IndicConjunctBreak.{IndicConjunctBreak}
use Rattle.ucd_derived.specs.declared.IndicConjunctBreak.TheVariants as InCb
use Rattle.ucd_emoji.specs.Binary.{is_extended_pictographic}
use Rattle.unicode_segmentation.specs.Grapheme.{break_by_pair, is_consonant, is_extend, is_regional, is_zwj, is_grapheme_break, ends_in_linker, ends_in_pictograph, ends_in_half_flag}
use Rattle.ansi_clusters.specs.declared.break_state.BreakState.{BreakState}
use Rattle.ansi_clusters.specs.BreakStates.{last_of, links, break_state_of}

pub linked-push : (v : IndicConjunctBreak) (vs : List IndicConjunctBreak) → links v (ends_in_linker vs) ≡ ends_in_linker (v ∷ vs)
unfolding ends_in_linker
linked-push InCb.Consonant vs = refl
linked-push InCb.Extend vs = refl
linked-push InCb.Linker vs = refl
linked-push InCb.None vs = refl

-- a test that stops at the first part that decides it

pub or-then : (r a b : Bool) → r ≡ true → a ≡ true → r ≡ (a || b)
or-then r a b is left = is ∙ sym (or_left a b left)

pub or-else : (r a b : Bool) → r ≡ b → a ≡ false → r ≡ (a || b)
or-else r a b is left = is ∙ sym (ap (λ v. v || b) left)

pub and-then : (r a b : Bool) → r ≡ b → a ≡ true → r ≡ (a && b)
and-then r a b is left = is ∙ sym (ap (λ v. v && b) left)

pub and-else : (r a b : Bool) → r ≡ false → a ≡ false → r ≡ (a && b)
and-else r a b is left = is ∙ sym (and_left a b left)

BreakState-equal : {l m : GraphemeClusterBreak} {k p j h k' p' j' h' : Bool} → l ≡ m → k ≡ k' → p ≡ p' → j ≡ j' → h ≡ h'
    → ◌≡◌ {A = BreakState} record { last = l; is_linked = k; is_pictograph = p; is_joined = j; is_half_flag = h } record { last = m; is_linked = k'; is_pictograph = p'; is_joined = j'; is_half_flag = h' }
BreakState-equal last linked pictograph joined half = cc

-- what is kept after one more character
pub break_state-push : (c : ℕ) (s : BreakState) (before : List ℕ) → s ≡ break_state_of before → (v : GraphemeClusterBreak) (k p j h : Bool) → v ≡ grapheme_cluster_break c
    → k ≡ links (indic_conjunct_break c) s.is_linked → p ≡ (is_extended_pictographic c || (is_extend v && s.is_pictograph)) → j ≡ (is_zwj v && s.is_pictograph) → h ≡ (is_regional v && not s.is_half_flag)
    → ◌≡◌ {A = BreakState} record { last = v; is_linked = k; is_pictograph = p; is_joined = j; is_half_flag = h } (break_state_of (c ∷ before))
unfolding ends_in_pictograph ends_in_half_flag
break_state-push c s before is v k p j h last linked pictograph joined half =
    BreakState-equal last
    (linked ∙ ap (λ (u : BreakState). links (indic_conjunct_break c) u.is_linked) is ∙ linked-push (indic_conjunct_break c) (map indic_conjunct_break before))
    (pictograph ∙ ap₂ (λ (w : GraphemeClusterBreak) (u : BreakState). is_extended_pictographic c || (is_extend w && u.is_pictograph)) last is)
    (joined ∙ ap₂ (λ (w : GraphemeClusterBreak) (u : BreakState). is_zwj w && u.is_pictograph) last is)
    (half ∙ ap₂ (λ (w : GraphemeClusterBreak) (u : BreakState). is_regional w && not u.is_half_flag) last is)

-- what the code joins, if the two neighbors don't decide
abbrev pub joins : BreakState → GraphemeClusterBreak → ℕ → Bool
joins s v next =
    ((s.is_linked && is_consonant (indic_conjunct_break next)) || (s.is_joined && is_extended_pictographic next))
    || (s.is_half_flag && is_regional v)

is_grapheme_break-by_state : (before : List ℕ) (next : ℕ) (after : List ℕ) → before ≢ []
    → unwrap_or (break_by_pair true (last_of before) (grapheme_cluster_break next)) (not (joins (break_state_of before) (grapheme_cluster_break next) next)) ≡ is_grapheme_break true before (next ∷ after)
unfolding is_grapheme_break ends_in_linker
is_grapheme_break-by_state [] next after some = absurd (some refl)
is_grapheme_break-by_state (c ∷ before) next after some = refl

-- the two neighbors decide, or they don't
pub is_grapheme_break-decided : (s : BreakState) (before : List ℕ) (next : ℕ) (after : List ℕ) → before ≢ [] → s ≡ break_state_of before → (v : GraphemeClusterBreak) → v ≡ grapheme_cluster_break next
    → (o : Option Bool) → break_by_pair true s.last v ≡ o → unwrap_or o (not (joins s v next)) ≡ is_grapheme_break true before (next ∷ after)
is_grapheme_break-decided s before next after some is v value o by_pair =
    ap (λ (p : Option Bool). unwrap_or p (not (joins s v next))) (sym by_pair)
    ∙ ap₂ (λ (u : BreakState) (w : GraphemeClusterBreak). unwrap_or (break_by_pair true u.last w) (not (joins u w next))) is value
    ∙ is_grapheme_break-by_state before next after some

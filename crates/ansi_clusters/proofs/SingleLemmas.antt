-- Characters that are clusters by themselves beside each other, and the table of them: it has each one below U+10000 that is shown as it is, with its columns.
use Rattle.std.proofs.Common.{◌≡◌, ℕ, ◌<◌, ◌≤◌, ◌==◌, eqb-true, Bool, true, false, not, ◌&&◌, ◌||◌, nat_le, List, [], ◌∷◌, inl, inr, unwrap_or, refl, sym, ap, ap₂, subst, ◌∙◌, arith, if◌then◌else◌}
use Rattle.std.specs.Int.{is_in_range}
use Rattle.std.proofs.lemmas.Bool.{and_parts, cases_lt, leb-true}
use Rattle.std.proofs.lemmas.Bool.Decides.{nat_tests}
use Rattle.ucd_table.specs.Rows.{Range, in_ranges}
use Rattle.ucd_table.specs.Trie.{IsTrie, trie_value, block_value}
use Rattle.ucd_table.proofs.StepsLemmas.{rises_from}
use Rattle.ucd_table.proofs.Stepped.{Stepped, zip_stepped, of_ranges, runs_of}
use Rattle.ucd_table.proofs.TrieCheck.{trie_ok, trie_ok-IsTrie, trie_value-Stepped}
use Rattle.ucd_table.proofs.Facts.{Stepped-below, Stepped-everywhere}
use Rattle.ucd_table.proofs.Computing.{tables}
use Rattle.ucd_breaks.specs.GraphemeClusterBreak.{grapheme_cluster_break}
use Rattle.ucd_breaks.specs.declared.GraphemeClusterBreak.{GraphemeClusterBreak}
use Rattle.ucd_breaks.specs.declared.GraphemeClusterBreak.TheVariants.{Control, Cr, Extend, L, Lf, Lv, Lvt, Prepend, RegionalIndicator, SpacingMark, T, V, Other, Zwj}
use Rattle.ucd_breaks.proofs.Computing.{ucd_breaks}
use Rattle.ucd_breaks.proofs.GraphemeClusterBreakLemmas.{grapheme_cluster_break_stepped}
use Rattle.ucd_derived.specs.IndicConjunctBreak.{indic_conjunct_break}
use Rattle.ucd_derived.specs.declared.IndicConjunctBreak.{IndicConjunctBreak}
use Rattle.ucd_derived.specs.declared.IndicConjunctBreak.TheVariants as InCb
use Rattle.ucd_derived.proofs.Computing.{ucd_derived}
use Rattle.ucd_derived.proofs.IndicConjunctBreakLemmas.{indic_conjunct_break_stepped}
use Rattle.ucd_emoji.specs.Binary.{is_extended_pictographic}
use Rattle.ucd_emoji.proofs.BinaryLemmas.{is_extended_pictographic_stepped}
use Rattle.ucd_emoji.proofs.Computing.{ucd_emoji}
use Rattle.unicode_segmentation.specs.Grapheme.{is_grapheme_break, break_by_pair, is_extend, is_zwj, is_regional, ends_in_linker, ends_in_pictograph, ends_in_half_flag}
use Rattle.unicode_width.specs.declared.kind.Kind.{Kind}
use Rattle.unicode_width.specs.declared.kind.Kind.TheVariants as kinds
use Rattle.unicode_width.specs.Kind.{kind}
use Rattle.unicode_width.specs.Width.{single, of_kind, alone, step, past_emoji, str_width}
use Rattle.unicode_width.proofs.KindLemmas.{kind_stepped}
use Rattle.ansi_safe.specs.Safe.{is_printing}
use Rattle.ansi_clusters.specs.declared.break_state.BreakState.{BreakState}
use Rattle.ansi_clusters.specs.declared.singles.TheConstants.{BLOCKS, WORDS, REST}
use Rattle.ansi_clusters.specs.Letters.{is_letter, is_wide}
use Rattle.ansi_clusters.specs.BreakStates.{links, break_state_of, state_of, is_other, IsSingle, IsSingleValue, IsSingleConjunct, IsShownSingle}
use Rattle.ansi_clusters.proofs.BreakLemmas.{break_state-push, is_grapheme_break-decided}

-- ---- the table

not_true : (b : Bool) → not b ≡ true → b ≡ false
not_true true e = cc
not_true false e = refl

abbrev is_single_value : GraphemeClusterBreak → Bool
is_single_value Other = true
is_single_value Lv = true
is_single_value Lvt = true
is_single_value _ = false

abbrev is_single_conjunct : IndicConjunctBreak → Bool
is_single_conjunct InCb.None = true
is_single_conjunct InCb.Consonant = true
is_single_conjunct _ = false

-- the columns of a character of this kind, except for those with a rule of their own, and 0 for kinds that aren't in the table
abbrev columns_of_kind : Bool → Kind → ℕ
columns_of_kind one kinds.Narrow = 1
columns_of_kind one kinds.Ambiguous = 1
columns_of_kind one kinds.Alef = 1
columns_of_kind one kinds.KhmerLetter = 1
columns_of_kind one kinds.TifinaghConsonant = 1
columns_of_kind one kinds.LisuTone = 1
columns_of_kind one kinds.Wide = 2
columns_of_kind one kinds.Single = if one then 1 else 0
columns_of_kind one _ = 0

-- those with a rule of their own that have one column
abbrev one_ranges : List Range
one_ranges = (0x05DC, 0x05DC) ∷ (0x1A10, 0x1A10) ∷ (0xFB3C, 0xFB3C) ∷ []

-- the printing ones below U+10000
abbrev printing_ranges : List Range
printing_ranges = (0x20, 0x7E) ∷ (0xA0, 0x2029) ∷ (0x202F, 0x2065) ∷ (0x206A, 0xFFFF) ∷ []

abbrev is_kept : ℕ → Bool
is_kept c = (is_single_value (grapheme_cluster_break c) && is_single_conjunct (indic_conjunct_break c)) && (not (is_extended_pictographic c) && in_ranges printing_ranges c)

abbrev columns_if : Bool → ℕ → ℕ
columns_if kept n = if kept then n else 0

abbrev columns : ℕ → ℕ
columns c = columns_if (is_kept c) (columns_of_kind (in_ranges one_ranges c) (kind c))

unfoldable kept_stepped : Stepped is_kept
unfolding tables
kept_stepped =
    zip_stepped ◌&&◌ (λ c. is_single_value (grapheme_cluster_break c) && is_single_conjunct (indic_conjunct_break c)) (λ c. not (is_extended_pictographic c) && in_ranges printing_ranges c)
    (zip_stepped (λ g i. is_single_value g && is_single_conjunct i) grapheme_cluster_break indic_conjunct_break grapheme_cluster_break_stepped indic_conjunct_break_stepped)
    (zip_stepped (λ p r. not p && r) is_extended_pictographic (in_ranges printing_ranges) is_extended_pictographic_stepped (of_ranges printing_ranges refl))

unfoldable columns_stepped : Stepped columns
unfolding tables kept_stepped
columns_stepped =
    zip_stepped columns_if is_kept (λ c. columns_of_kind (in_ranges one_ranges c) (kind c)) kept_stepped
    (zip_stepped columns_of_kind (in_ranges one_ranges) kind (of_ranges one_ranges refl) kind_stepped)

table_ok : trie_ok 2 2 3 BLOCKS WORDS REST (runs_of (λ c. columns c) columns_stepped) ≡ true
unfolding tables columns_stepped grapheme_cluster_break_stepped indic_conjunct_break_stepped is_extended_pictographic_stepped kind_stepped
table_ok = refl

pub IsTrie-singles : IsTrie 2 2 BLOCKS WORDS
IsTrie-singles = trie_ok-IsTrie 2 2 3 BLOCKS WORDS REST _ table_ok

pub trie_value-singles : (c : ℕ) → c < 0x11_0000 → trie_value 2 2 BLOCKS WORDS REST c ≡ columns c
trie_value-singles = trie_value-Stepped 2 2 3 BLOCKS WORDS REST (λ c. columns c) columns_stepped table_ok

-- ---- what the table says

single_value : (g : GraphemeClusterBreak) → is_single_value g ≡ true → IsSingleValue g
single_value Other is = inl refl
single_value Lv is = inr (inl refl)
single_value Lvt is = inr (inr refl)
single_value Control is = cc
single_value Cr is = cc
single_value Extend is = cc
single_value L is = cc
single_value Lf is = cc
single_value Prepend is = cc
single_value RegionalIndicator is = cc
single_value SpacingMark is = cc
single_value T is = cc
single_value V is = cc
single_value Zwj is = cc

single_conjunct : (i : IndicConjunctBreak) → is_single_conjunct i ≡ true → IsSingleConjunct i
single_conjunct InCb.None is = inl refl
single_conjunct InCb.Consonant is = inr refl
single_conjunct InCb.Extend is = cc
single_conjunct InCb.Linker is = cc

kept-true : (kept : Bool) (n : ℕ) → 0 < columns_if kept n → (kept ≡ true) × (columns_if kept n ≡ n)
kept-true true n some = (refl, refl)
kept-true false n some = absurd (omega (arith, some))

printing-inside : (c : ℕ) → in_ranges printing_ranges c ≡ true → is_printing c ≡ true
unfolding in_ranges
printing-inside c inside = grind (arith, nat_tests)

-- a character of one of these kinds, except for those with a rule of their own
kind-columns : (c : ℕ) (one : Bool) (k : Kind) → (one ≡ true → (single false c).0 ≡ 1) → 0 < columns_of_kind one k → columns_of_kind one k ≡ (of_kind false c k).0
kind-columns c one kinds.Narrow own some = refl
kind-columns c one kinds.Ambiguous own some = refl
kind-columns c one kinds.Alef own some = refl
kind-columns c one kinds.KhmerLetter own some = refl
kind-columns c one kinds.TifinaghConsonant own some = refl
kind-columns c one kinds.LisuTone own some = refl
kind-columns c one kinds.Wide own some = refl
kind-columns c true kinds.Single own some = sym (own refl)
kind-columns c false kinds.Single own some = absurd (omega (arith, some))
kind-columns c one kinds.Zero own some = absurd (omega (arith, some))
kind-columns c one kinds.RegionalIndicator own some = absurd (omega (arith, some))
kind-columns c one kinds.EmojiModifier own some = absurd (omega (arith, some))
kind-columns c one kinds.Emoji own some = absurd (omega (arith, some))

own-columns : (c : ℕ) → in_ranges one_ranges c ≡ true → (single false c).0 ≡ 1
unfolding in_ranges
own-columns c inside = grind (arith, nat_tests)

low-columns : (c : ℕ) → c < 0xA1 → columns c ≤ 1
unfolding tables columns_stepped grapheme_cluster_break_stepped indic_conjunct_break_stepped is_extended_pictographic_stepped kind_stepped
low-columns c low = leb-true _ _ (Stepped-below columns columns_stepped (λ c n. nat_le n 1) 0xA1 refl c low)

low-width : (c : ℕ) → c < 0xA1 → str_width false (c ∷ []) ≡ 1
unfolding str_width step past_emoji
low-width c low = grind (arith, nat_tests)

high-width : (c : ℕ) → 0xA0 < c → str_width false (c ∷ []) ≡ (of_kind false c (kind c)).0
unfolding str_width step past_emoji alone
high-width c high = grind (arith, nat_tests)

columns-width : (c : ℕ) → 0 < columns c → columns c ≡ str_width false (c ∷ [])
columns-width c some =
    let kept = kept-true (is_kept c) _ some in
    elim (cases_lt c 0xA1) [
      | inl low ↦ omega (arith, some, low-columns c low, low-width c low)
      | inr high ↦ kept.1 ∙ kind-columns c _ (kind c) (own-columns c) (subst (λ n. 0 < n) kept.1 some) ∙ sym (high-width c (omega (arith, high)))
    ]

pub IsShownSingle-columns : (c n : ℕ) → n ≡ columns c → 0 < n → IsShownSingle c n
IsShownSingle-columns c n is some =
    let more = subst (λ m. 0 < m) is some in
    let kept = (kept-true (is_kept c) _ more).0 in
    let parts = and_parts _ _ kept in
    let values = and_parts _ _ parts.0 in
    let shown = and_parts _ _ parts.1 in
    record {
      single = record { break = single_value _ values.0; conjunct = single_conjunct _ values.1; pictograph = not_true _ shown.0 };
      printing = printing-inside c shown.1;
      some = some;
      columns_are = is ∙ columns-width c more;
    }

-- ---- Hangul syllables

abbrev syllable_ranges : List Range
syllable_ranges = (0xAC00, 0xD7A3) ∷ []

abbrev is_syllable_value : GraphemeClusterBreak → Bool
is_syllable_value Lv = true
is_syllable_value Lvt = true
is_syllable_value _ = false

only_syllables : (c : ℕ) → (in_ranges syllable_ranges c || not (is_syllable_value (grapheme_cluster_break c))) ≡ true
unfolding ucd_breaks in_ranges rises_from
only_syllables = Stepped-everywhere _ (zip_stepped (λ r g. r || not (is_syllable_value g)) (in_ranges syllable_ranges) grapheme_cluster_break (of_ranges syllable_ranges refl) grapheme_cluster_break_stepped) refl

syllable-outside : (c : ℕ) → is_in_range 0xAC00 0xD7A3 c ≡ false → in_ranges syllable_ranges c ≡ false
unfolding in_ranges
syllable-outside c outside = ap (λ b. b || false) outside

-- ---- letters of two bytes, and printable ASCII

abbrev letter_ranges : List Range
letter_ranges = (0x20, 0x7E) ∷ (0xC0, 0x2FF) ∷ (0x380, 0x47F) ∷ []

letters_have_one : (c : ℕ) → (not (in_ranges letter_ranges c) || columns c == 1) ≡ true
unfolding tables columns_stepped grapheme_cluster_break_stepped indic_conjunct_break_stepped is_extended_pictographic_stepped kind_stepped in_ranges rises_from
letters_have_one = Stepped-everywhere _ (zip_stepped (λ r n. not r || n == 1) (in_ranges letter_ranges) columns (of_ranges letter_ranges refl) columns_stepped) refl

letter-inside : (c : ℕ) → is_letter c ≡ true → in_ranges letter_ranges c ≡ true
unfolding in_ranges
letter-inside c is = grind (arith, nat_tests)

pub IsShownSingle-letter : (c : ℕ) → is_letter c ≡ true → IsShownSingle c 1
IsShownSingle-letter c is =
    let one : (columns c == 1) ≡ true = rw (letter-inside c is) at (letters_have_one c) in
    IsShownSingle-columns c 1 (sym (eqb-true (columns c) 1 one)) (omega arith)

pub letter-elsewhere : (c : ℕ) → is_letter c ≡ true → is_in_range 0xAC00 0xD7A3 c ≡ false
letter-elsewhere c is = grind (arith, nat_tests)

-- ---- kana and ideographs

abbrev wide_ranges : List Range
wide_ranges = (0x3001, 0x3029) ∷ (0x3041, 0x3096) ∷ (0x30A0, 0x30FF) ∷ (0x3400, 0x9FFF) ∷ []

wide_have_two : (c : ℕ) → (not (in_ranges wide_ranges c) || columns c == 2) ≡ true
unfolding tables columns_stepped grapheme_cluster_break_stepped indic_conjunct_break_stepped is_extended_pictographic_stepped kind_stepped in_ranges rises_from
wide_have_two = Stepped-everywhere _ (zip_stepped (λ r n. not r || n == 2) (in_ranges wide_ranges) columns (of_ranges wide_ranges refl) columns_stepped) refl

wide-inside : (c : ℕ) → is_wide c ≡ true → in_ranges wide_ranges c ≡ true
unfolding in_ranges
wide-inside c is = grind (arith, nat_tests)

pub IsShownSingle-wide : (c : ℕ) → is_wide c ≡ true → IsShownSingle c 2
IsShownSingle-wide c is =
    let two : (columns c == 2) ≡ true = rw (wide-inside c is) at (wide_have_two c) in
    IsShownSingle-columns c 2 (sym (eqb-true (columns c) 2 two)) (omega arith)

pub wide-elsewhere : (c : ℕ) → is_wide c ≡ true → is_in_range 0xAC00 0xD7A3 c ≡ false
wide-elsewhere c is = grind (arith, nat_tests)

-- U+2026, an ellipsis, has one column

value-ellipsis : trie_value 2 2 BLOCKS WORDS REST 0x2026 ≡ 1
unfolding tables trie_value block_value
value-ellipsis = refl

pub IsShownSingle-ellipsis : IsShownSingle 0x2026 1
IsShownSingle-ellipsis = IsShownSingle-columns 0x2026 1 (sym value-ellipsis ∙ trie_value-singles 0x2026 (omega arith)) (omega arith)

-- no rule names the value of any other single character
pub single-elsewhere : (c : ℕ) → IsSingleValue (grapheme_cluster_break c) → is_in_range 0xAC00 0xD7A3 c ≡ false → Other ≡ grapheme_cluster_break c
single-elsewhere c is outside =
    let none : not (is_syllable_value (grapheme_cluster_break c)) ≡ true = rw (syllable-outside c outside) at (only_syllables c) in
    elim is [
      | inl e ↦ sym e
      | inr named ↦ elim named [
        | inl e ↦ absurd (let no : true ≡ false = sym none ∙ ap (λ g. not (is_syllable_value g)) e in cc no)
        | inr e ↦ absurd (let no : true ≡ false = sym none ∙ ap (λ g. not (is_syllable_value g)) e in cc no)
      ]
    ]

-- ---- characters that no rule joins to each other

-- what holds of each such value holds of any
pub single_value-each : (P : GraphemeClusterBreak → Type 0) → P Other → P Lv → P Lvt → (v : GraphemeClusterBreak) → IsSingleValue v → P v
single_value-each P other lv lvt v is = elim is [
  | inl e ↦ subst P (sym e) other
  | inr named ↦ elim named [
    | inl e ↦ subst P (sym e) lv
    | inr e ↦ subst P (sym e) lvt
  ]
]

single-joins_none : (v : GraphemeClusterBreak) → IsSingleValue v → (is_extend v ≡ false) × (is_zwj v ≡ false) × (is_regional v ≡ false)
single-joins_none =
    single_value-each (λ v. (is_extend v ≡ false) × (is_zwj v ≡ false) × (is_regional v ≡ false)) (refl, refl, refl) (refl, refl, refl) (refl, refl, refl)

conjunct-links : (i : IndicConjunctBreak) (is_linked : Bool) → IsSingleConjunct i → links i is_linked ≡ false
conjunct-links i is_linked is = elim is [
  | inl e ↦ ap (λ v. links v is_linked) e
  | inr e ↦ ap (λ v. links v is_linked) e
]

-- after it, only its value is looked back at
pub break_state-single : (c : ℕ) (before : List ℕ) (v : GraphemeClusterBreak) → IsSingle c → v ≡ grapheme_cluster_break c → state_of v ≡ break_state_of (c ∷ before)
unfolding ends_in_linker ends_in_pictograph ends_in_half_flag
break_state-single c before v single value =
    let s = break_state_of before in
    let none = single-joins_none v (subst IsSingleValue (sym value) single.break) in
    break_state-push c s before refl v false false false false value
    (sym (conjunct-links _ s.is_linked single.conjunct))
    (ap₂ (λ p e. p || (e && s.is_pictograph)) (sym single.pictograph) (sym none.0))
    (ap (λ z. z && s.is_pictograph) (sym none.1)) (ap (λ r. r && not s.is_half_flag) (sym none.2))

-- a cluster ends between two of these values
pub single-pair : (v w : GraphemeClusterBreak) → IsSingleValue v → IsSingleValue w → unwrap_or (break_by_pair true v w) true ≡ true
single-pair v w first second =
    let IsBreak : GraphemeClusterBreak → GraphemeClusterBreak → Type 0 = λ a b. unwrap_or (break_by_pair true a b) true ≡ true in
    single_value-each (λ a. IsBreak a w)
    (single_value-each (IsBreak Other) refl refl refl w second)
    (single_value-each (IsBreak Lv) refl refl refl w second)
    (single_value-each (IsBreak Lvt) refl refl refl w second)
    v first

-- a cluster ends between two of them
pub breaks-single : (before : List ℕ) (c d : ℕ) (cs : List ℕ) → IsSingle c → IsSingle d → is_grapheme_break true (c ∷ before) (d ∷ cs) ≡ true
breaks-single before c d cs first second =
    let v = grapheme_cluster_break c in
    let w = grapheme_cluster_break d in
    sym (is_grapheme_break-decided (state_of v) (c ∷ before) d cs (λ none. cc) (break_state-single c before v first refl) w refl (break_by_pair true v w) refl)
    ∙ single-pair v w first.break second.break

-- after a line feed
pub break_state-line_feed : (before : List ℕ) → ◌≡◌ {A = BreakState} record { last = Lf; is_linked = false; is_pictograph = false; is_joined = false; is_half_flag = false } (break_state_of (0x0A ∷ before))
unfolding ucd_breaks ucd_derived ucd_emoji
break_state-line_feed before = break_state-push 0x0A (break_state_of before) before refl Lf false false false false refl refl refl refl refl

-- no other value has a pictograph
abbrev only_other : GraphemeClusterBreak → Bool → Bool
only_other g p = is_other g || not p

all_other : (c : ℕ) → only_other (grapheme_cluster_break c) (is_extended_pictographic c) ≡ true
unfolding ucd_breaks ucd_emoji
all_other = Stepped-everywhere _ (zip_stepped only_other grapheme_cluster_break is_extended_pictographic grapheme_cluster_break_stepped is_extended_pictographic_stepped) refl

pub pictograph-other : (c : ℕ) (v : GraphemeClusterBreak) → v ≡ grapheme_cluster_break c → is_other v ≡ false → false ≡ is_extended_pictographic c
pictograph-other c v value other =
    let p = is_extended_pictographic c in
    sym (not_true p (ap (λ b. b || not p) (sym other) ∙ ap (λ g. only_other g p) value ∙ all_other c))

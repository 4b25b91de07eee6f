-- A summary of the characters before a place, as much as the rules on clusters look back at. No public contract cites it.
use Rattle.std.specs.Prelude.{◌≡◌, ◌⊎◌, ℕ, ◌+◌, ◌<◌, ◌==◌, Bool, true, false, ◌&&◌, ◌||◌, List, [], ◌∷◌, map, Option, Some, None, IsTrue, if◌then◌else◌}
use Rattle.std.specs.Int.{is_in_range}
use Rattle.ucd_breaks.specs.GraphemeClusterBreak.{grapheme_cluster_break}
use Rattle.ucd_breaks.specs.declared.GraphemeClusterBreak.{GraphemeClusterBreak}
use Rattle.ucd_breaks.specs.declared.GraphemeClusterBreak.TheVariants.{Lv, Lvt, Other}
use Rattle.ucd_derived.specs.IndicConjunctBreak.{indic_conjunct_break}
use Rattle.ucd_derived.specs.declared.IndicConjunctBreak.{IndicConjunctBreak}
use Rattle.ucd_derived.specs.declared.IndicConjunctBreak.TheVariants as InCb
use Rattle.ucd_emoji.specs.Binary.{is_extended_pictographic}
use Rattle.unicode_segmentation.specs.Grapheme.{ends_in_linker, ends_in_pictograph, ends_in_half_flag, is_zwj}
use Rattle.ansi_safe.specs.Safe.{is_printing}
use Rattle.ansi_clusters.specs.Columns.{cluster_width}
use Rattle.ansi_clusters.specs.declared.break_state.BreakState.{BreakState}

-- the value of the last character before the place, which the list has first
abbrev pub last_of : List ℕ → GraphemeClusterBreak
last_of [] = Other
last_of (c ∷ before) = grapheme_cluster_break c

-- the value of most characters, which no rule on values names
abbrev pub is_other : GraphemeClusterBreak → Bool
is_other Other = true
is_other _ = false

-- whether a linker and the characters that extend it end with a character of this value, by whether they end before it
abbrev pub links : IndicConjunctBreak → Bool → Bool
links InCb.Linker is_linked = true
links InCb.Extend is_linked = is_linked
links _ is_linked = false

-- the text before the place ends in a pictograph, what extends it, and a joiner (GB11)
abbrev pub ends_in_joiner : List ℕ → Bool
ends_in_joiner [] = false
ends_in_joiner (c ∷ before) = is_zwj (grapheme_cluster_break c) && ends_in_pictograph before

-- the summary that the rules look back at
abbrev pub break_state_of : List ℕ → BreakState
break_state_of before = record {
  last = last_of before;
  is_linked = ends_in_linker (map indic_conjunct_break before);
  is_pictograph = ends_in_pictograph before;
  is_joined = ends_in_joiner before;
  is_half_flag = ends_in_half_flag before;
}

-- no rule on clusters joins a character of this value to another one of such a value
abbrev pub IsSingleValue : GraphemeClusterBreak → Type 0
IsSingleValue v = (v ≡ Other) ⊎ ((v ≡ Lv) ⊎ (v ≡ Lvt))

-- no linker, nor what may come after one in a conjunct (GB9c)
abbrev pub IsSingleConjunct : IndicConjunctBreak → Type 0
IsSingleConjunct v = (v ≡ InCb.None) ⊎ (v ≡ InCb.Consonant)

-- no rule on clusters joins the character to another such one
pub record IsSingle (c : ℕ) : Type 0 where
  pub break : IsSingleValue (grapheme_cluster_break c)
  pub conjunct : IsSingleConjunct (indic_conjunct_break c)
  pub pictograph : is_extended_pictographic c ≡ false

-- such a character, which is shown as it is, in this number of columns
pub record IsShownSingle (c columns : ℕ) : Type 0 where
  pub single : IsSingle c
  pub printing : IsTrue (is_printing c)
  pub some : 0 < columns
  pub columns_are : columns ≡ cluster_width (c ∷ [])

-- the summary if only the value of the last character is looked back at
abbrev pub state_of : GraphemeClusterBreak → BreakState
state_of v = record { last = v; is_linked = false; is_pictograph = false; is_joined = false; is_half_flag = false }

-- the columns that a character adds to a cluster that it extends, if they don't depend on the others: none if it is an accent of Latin or Greek, but for U+0338, which may strike out a sign, or a Thai vowel or tone above or below a letter; one if it is U+0E33, a Thai vowel (unicode-width)
abbrev pub added_columns : ℕ → Option ℕ
added_columns c =
    if is_in_range 0x300 0x337 c || (is_in_range 0x339 0x36F c || ((c == 0xE31) || (is_in_range 0xE34 0xE3A c || is_in_range 0xE47 0xE4E c))) then Some 0
    else if c == 0xE33 then Some 1
    else None

-- the columns of a cluster with one character more, if they are known
abbrev pub IsWithAdded : Option ℕ → ℕ → ℕ → Type 0
IsWithAdded columns c sum = (n : ℕ) × (more : ℕ) × (columns ≡ Some n) × (added_columns c ≡ Some more) × (sum ≡ n + more)

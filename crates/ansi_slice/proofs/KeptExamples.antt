-- Worked examples of texts without a prefix, without a suffix and without the white space at their ends, each by computation.
use Rattle.ansi_slice.proofs.Common.{◌≡◌, refl, codes, [], ◌∷◌, List, ℕ, true, false, nat_eq, encode_utf8, starts_with, ends_with, chars, trim_start, trim_end, plain, kept, without_prefix, without_suffix, trim_interval, trimmed}
use Rattle.ansi_items.proofs.Tables.{MakesRows, utf8}

-- A prefix and a suffix are met across sequences, which stay at their places.

prefixes : MakesRows (λ (x : List ℕ × List ℕ). without_prefix x.0 x.1) (
    ((codes "ab\u{1b}[31mcd\u{1b}[39m", codes "abc"), codes "\u{1b}[31md\u{1b}[39m")
    ∷ ((codes "ab\u{1b}[31mcd\u{1b}[39m", codes "abcd"), codes "\u{1b}[31m\u{1b}[39m")
    ∷ ((codes "\u{1b}[41m\u{1b}[30mqwe:TEXT\u{1b}[39m \u{1b}[34mQWE\u{1b}[39m\u{1b}[49m", codes "qwe:TEXT QW"), codes "\u{1b}[41m\u{1b}[30m\u{1b}[39m\u{1b}[34mE\u{1b}[39m\u{1b}[49m")
    ∷ [])
unfolding kept
prefixes = refl

suffixes : MakesRows (λ (x : List ℕ × List ℕ). without_suffix x.0 x.1) (
    ((codes "ab\u{1b}[31mcd\u{1b}[39mef", codes "bcdef"), codes "a\u{1b}[31m\u{1b}[39m")
    ∷ ((codes "\u{1b}[31mfoo:bar\u{1b}[0m", codes "bar"), codes "\u{1b}[31mfoo:\u{1b}[0m")
    ∷ [])
unfolding kept
suffixes = refl

-- Whether they are there, the plain text says.

plain_texts_start_with : MakesRows (λ (x : List ℕ × List ℕ). starts_with nat_eq (plain x.0) x.1) (
    ((codes "\u{1b}[30mTEXT\u{1b}[39m", codes "TEXT+"), false)
    ∷ ((codes "\u{1b}[1ma", codes "\u{1b}"), false)
    ∷ [])
plain_texts_start_with = refl

plain_texts_end_with : MakesRows (ends_with nat_eq (plain (codes "a\u{1b}[1mb\u{1b}[0mab"))) ((codes "bab", true) ∷ (codes "aab", false) ∷ [])
plain_texts_end_with = refl

-- White space is met across sequences, and is that of Unicode.

trimmed_texts : MakesRows trimmed (
    (codes "\u{1b}[31m a \u{1b}[39m ", codes "\u{1b}[31ma\u{1b}[39m")
    ∷ (codes " \u{1b}[1m ", codes "\u{1b}[1m")
    ∷ (codes "\u{1b}[41;30m  TEXT\u{1b}[39m \u{1b}[34m123  \u{1b}[39;49m", codes "\u{1b}[41;30mTEXT\u{1b}[39m \u{1b}[34m123\u{1b}[39;49m")
    ∷ (utf8 "\u{85}a\u{3000}", codes "a")
    ∷ [])
unfolding kept trim_start trim_end chars encode_utf8
trimmed_texts = refl

interval_of_blanks_alone : trim_interval (codes "  ") ≡ (2, 2)
unfolding trim_start trim_end chars encode_utf8
interval_of_blanks_alone = refl

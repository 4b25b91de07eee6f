-- Worked examples of cuts, each by computation.
use Rattle.ansi_slice.proofs.Common.{refl, codes, [], ◌∷◌, List, Option, Some, None, ℕ, true, false, encode_utf8, plain, is_good_range, past_inclusive, cut}
use Rattle.ansi_items.proofs.Tables.{MakesRows, utf8}

cuts : MakesRows (λ (x : List ℕ × ℕ × Option ℕ). cut x.0 x.1 x.2) (
    -- sequences up to the end are kept, at their places, and the style there is closed
    ((codes "\u{1b}[30mTEXT\u{1b}[39m", 1, Some 3), codes "\u{1b}[30mEX\u{1b}[39m")
    ∷ ((codes "\u{1b}[31;40mTEXT\u{1b}[0m", 0, Some 0), codes "\u{1b}[31;40m\u{1b}[39m\u{1b}[49m")
    ∷ ((codes "\u{1b}[41m\u{1b}[30msomething\u{1b}[39m \u{1b}[34m123123\u{1b}[39m\u{1b}[49m", 9, Some 12), codes "\u{1b}[41m\u{1b}[30m\u{1b}[39m \u{1b}[34m12\u{1b}[39m\u{1b}[49m")
    ∷ ((codes "zxc_\u{1b}[31;40mTEXT\u{1b}[0m_qwe", 5, Some 10), codes "\u{1b}[31;40mEXT\u{1b}[0m_q")
    ∷ ((codes "zxc_\u{1b}[31;40mTEXT\u{1b}[0m_qwe", 12, None), codes "\u{1b}[31;40m\u{1b}[0m")
    ∷ ((codes "\u{1b}[31m", 0, None), codes "\u{1b}[31m\u{1b}[39m")
    -- what is closed
    ∷ ((codes "\u{1b}[99ma,b", 0, Some 1), codes "\u{1b}[99ma\u{1b}[0m")
    ∷ ((codes "\u{1b}[0mab", 0, Some 1), codes "\u{1b}[0ma")
    ∷ ((codes "\u{1b}[20mab\u{1b}[23mc", 0, Some 3), codes "\u{1b}[20mab\u{1b}[23mc")
    ∷ (
      (codes "\u{1b}[0;99;11;1;3;4;5;7;8;9;31;41;26;51;53;60;58;5;1;73mx", 0, Some 0),
      codes "\u{1b}[0;99;11;1;3;4;5;7;8;9;31;41;26;51;53;60;58;5;1;73m\u{1b}[0m\u{1b}[10m\u{1b}[22m\u{1b}[23m\u{1b}[24m\u{1b}[25m\u{1b}[27m\u{1b}[28m\u{1b}[29m\u{1b}[39m\u{1b}[49m\u{1b}[50m\u{1b}[54m\u{1b}[55m\u{1b}[65m\u{1b}[59m\u{1b}[75m\u{1b}[0m",
    )
    -- lone escapes are kept as sequences are, and may then begin one
    ∷ ((utf8 "\u{1b}é[m", 2, None), codes "\u{1b}[m")
    -- texts without ESC
    ∷ ((codes "TEXT", 1, Some 3), codes "EX")
    ∷ ((codes "TEXT", 10, Some 50), [])
    ∷ (([], 0, None), [])
    -- characters of several bytes
    ∷ ((utf8 "\u{1b}[31m🗻 on the 🌏\u{1b}[39m", 0, Some 7), utf8 "\u{1b}[31m🗻 on\u{1b}[39m")
    ∷ [])
unfolding encode_utf8 cut
cuts = refl

good_ranges : MakesRows (λ (x : List ℕ × ℕ × Option ℕ). is_good_range (plain x.0) x.1 x.2) (
    ((utf8 "\u{1b}[31m🗻 on the 🌏\u{1b}[39m", 0, Some 13), false)
    ∷ ((utf8 "\u{1b}[31m🗻 on the 🌏\u{1b}[39m", 1, None), false)
    ∷ ((utf8 "\u{1b}[31m🗻 on the 🌏\u{1b}[39m", 0xFFFFFFFFFFFFFFFF, None), true)
    ∷ ((codes "TEXT", 9, Some 8), false)
    ∷ ((codes "TEXT", 10, Some 50), true)
    ∷ [])
unfolding encode_utf8 cut
good_ranges = refl

inclusive_ends : MakesRows past_inclusive ((5, Some 6) ∷ (0xFFFFFFFFFFFFFFFF, None) ∷ [])
unfolding cut
inclusive_ends = refl

-- Worked examples of the two sides of a text, and of whole texts, each by computation.
use Rattle.ansi_slice.proofs.Common.{refl, codes, [], ◌∷◌, List, ℕ, false, encode_utf8, digits, is_whole, left_side, right_side}
use Rattle.ansi_items.proofs.Tables.{MakesRows, utf8}

-- both sides of a text at a position
sides : MakesRows {B = List ℕ × List ℕ} (λ (x : List ℕ × ℕ). (left_side x.0 x.1, right_side x.0 x.1)) (
    -- texts without ESC
    ((codes "ab", 1), (codes "a", codes "b"))
    ∷ ((codes "ab", 9), (codes "ab", []))
    -- each side is dressed in the style of its text
    ∷ ((codes "\u{1b}[30mTEXT\u{1b}[39m", 2), (codes "\u{1b}[30mTE\u{1b}[39m", codes "\u{1b}[30mXT\u{1b}[39m"))
    ∷ ((codes "\u{1b}[30mTEXT\u{1b}[39m", 100), (codes "\u{1b}[30mTEXT\u{1b}[39m", []))
    ∷ ((codes "\u{1b}[30mTEXT\u{1b}[39m", 0), ([], codes "\u{1b}[30mTEXT\u{1b}[39m"))
    ∷ ((codes "\u{1b}[30mTEXT\u{1b}[39m", 4), (codes "\u{1b}[30mTEXT\u{1b}[39m", []))
    ∷ ((codes "\u{1b}[12mTEXT\u{1b}[10m", 2), (codes "\u{1b}[12mTE\u{1b}[10m", codes "\u{1b}[12mXT\u{1b}[10m"))
    ∷ (
      (codes "\u{1b}[48;2;023;011;100m\u{1b}[31mHello\u{1b}[39m\u{1b}[49m \u{1b}[32;43mWorld\u{1b}[0m", 6),
      (codes "\u{1b}[31m\u{1b}[48;2;23;11;100mHello\u{1b}[39m\u{1b}[49m ", codes "\u{1b}[32m\u{1b}[43mWorld\u{1b}[39m\u{1b}[49m"),
    )
    ∷ (
      (codes "\u{1b}[41;30msomething\u{1b}[39m \u{1b}[34m123123\u{1b}[39;49m", 0),
      ([], codes "\u{1b}[30m\u{1b}[41msomething\u{1b}[39m\u{1b}[49m\u{1b}[41m \u{1b}[49m\u{1b}[34m\u{1b}[41m123123\u{1b}[39m\u{1b}[49m"),
    )
    -- what is closed
    ∷ ((codes "\u{1b}[99mab", 1), (codes "a\u{1b}[0m", codes "b\u{1b}[0m"))
    ∷ ((codes "\u{1b}[0mab", 1), (codes "a", codes "b"))
    -- other sequences and lone escapes at the position go left
    ∷ ((codes "a\u{1b}]0;t\u{7}b", 1), (codes "a\u{1b}]0;t\u{7}", codes "b"))
    ∷ ((codes "\u{1b}[>4;2mx", 0), (codes "\u{1b}[>4;2m", codes "x"))
    ∷ ((utf8 "é\u{1b}", 2), (utf8 "é\u{1b}", []))
    ∷ [])
unfolding digits encode_utf8 left_side right_side
sides = refl

-- an ESC before a wide character, and one at the end
whole_texts : MakesRows is_whole ((utf8 "\u{1b}é[m", false) ∷ (utf8 "é\u{1b}", false) ∷ [])
unfolding encode_utf8
whole_texts = refl

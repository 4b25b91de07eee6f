-- Worked examples of searches and of boundaries, each by computation.
use Rattle.ansi_search.proofs.Common.{refl, codes, [], ◌∷◌, Some, None, ℕ, List, true, false, encode_utf8, plain, is_char_boundary, first_match_from}
use Rattle.ansi_items.proofs.Tables.{MakesRows, utf8}

-- the first match of a pattern from a position on
first_matches : MakesRows (λ (x : List ℕ × List ℕ × ℕ). first_match_from (plain x.0) x.1 x.2) (
    ((codes "a\u{1b}[1mb\u{1b}[0mc", codes "abc", 0), Some 0)
    ∷ ((codes "a\u{1b}[1mb\u{1b}[0mc", codes "bc", 0), Some 1)
    ∷ ((codes "a\u{1b}[1mb\u{1b}[0mc", codes "cb", 0), None)
    ∷ ((codes "aa\u{1b}[1mab", codes "aab", 0), Some 1)
    ∷ ((codes "ab\u{1b}[1mab\u{1b}[0mabc", codes "ababc", 0), Some 2)
    ∷ ((codes "\u{1b}[1ma", codes "\u{1b}[1m", 0), None)
    ∷ ((codes "ab\u{1b}[1mab", codes "ab", 2), Some 2)
    ∷ ((codes "ab\u{1b}[1mab", codes "ab", 3), None)
    ∷ [])
first_matches = refl

-- an empty pattern occurs at each character boundary
empty_matches : MakesRows (λ (x : List ℕ × ℕ). first_match_from (plain x.0) [] x.1) (
    (([], 0), Some 0)
    ∷ ((utf8 "\u{1b}[1mé", 1), Some 2)
    ∷ ((utf8 "\u{1b}[1mé", 3), None)
    ∷ [])
unfolding encode_utf8
empty_matches = refl

char_boundaries : MakesRows (is_char_boundary (plain (utf8 "\u{1b}[1mé"))) ((1, false) ∷ (2, true) ∷ (3, false) ∷ [])
unfolding encode_utf8
char_boundaries = refl

-- Worked examples of edits in turn, each by computation.
use Rattle.ansi_str.proofs.Common.{codes, List, [], ◌∷◌, ℕ, true, false, Some, None, refl, encode_utf8, digits, chars, trim_start, trim_end, cut, left_side, right_side, kept, part_from, CutRange, LeftOf, RightOf, PartOf, WithoutPrefix, WithoutSuffix, Trimmed, Change, edited, stay_borrowed}
use Rattle.ansi_items.proofs.Tables.{MakesRows, utf8}

edits_in_turn : MakesRows (λ (x : List Change × List ℕ). edited x.0 x.1) (
    -- each edit is of what the one before gave; no edit leaves the text as it is
    (([], codes "\u{1b}[1mx"), Some (codes "\u{1b}[1mx"))
    ∷ ((RightOf 4 ∷ CutRange 0 (Some 2) ∷ [], codes "abc def"), Some (codes "de"))
    ∷ ((PartOf (codes "X") 2 ∷ CutRange 1 (Some 3) ∷ Trimmed ∷ [], codes "\u{1b}[31mlionXXtiger\u{1b}[0m"), Some (codes "\u{1b}[31mig\u{1b}[39m"))
    ∷ ((LeftOf 1 ∷ WithoutSuffix (codes "a") ∷ [], codes "a\u{1b}]0;t\u{7}b"), Some (codes "\u{1b}]0;t\u{7}"))
    ∷ ((CutRange 0 (Some 2) ∷ Trimmed ∷ [], codes "\u{1b}[31m a \u{1b}[39m"), Some (codes "\u{1b}[31ma\u{1b}[39m"))
    ∷ ((WithoutSuffix [] ∷ PartOf (codes ",") 0 ∷ [], codes "a,\u{1b}[1mb"), Some (codes "a"))
    -- an empty pattern parts at each character
    ∷ ((PartOf [] 3 ∷ [], codes "ab"), Some [])
    ∷ ((PartOf [] 4 ∷ [], codes "ab"), None)
    -- refusals, each at its turn
    ∷ ((CutRange 3 (Some 1) ∷ [], codes "TEXT"), None)
    ∷ ((LeftOf 1 ∷ [], utf8 "é"), None)
    ∷ ((LeftOf 1 ∷ WithoutPrefix (codes "x") ∷ [], codes "\u{1b}[31mab\u{1b}[39m"), None)
    ∷ ((WithoutSuffix [] ∷ PartOf (codes ",") 0 ∷ WithoutPrefix (codes "x") ∷ [], codes "a,\u{1b}[1mb"), None)
    ∷ ((PartOf (codes "\u{1b}") 1 ∷ [], codes "\u{1b}[1ma"), None)
    ∷ [])
unfolding encode_utf8 chars trim_start trim_end digits cut left_side right_side kept part_from
edits_in_turn = refl

-- if nothing is taken off, and if a part is a slice of the text, a text with an ESC stays borrowed
borrowed_edits : MakesRows (λ (x : List Change × List ℕ). stay_borrowed x.0 x.1) (
    (([], codes "\u{1b}[1mx"), true)
    ∷ ((WithoutSuffix [] ∷ PartOf (codes ",") 0 ∷ [], codes "a,\u{1b}[1mb"), true)
    ∷ ((LeftOf 1 ∷ WithoutSuffix (codes "a") ∷ [], codes "a\u{1b}]0;t\u{7}b"), false)
    ∷ [])
unfolding digits left_side kept part_from
borrowed_edits = refl

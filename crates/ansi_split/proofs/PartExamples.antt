-- Worked examples of parts, each by computation.
use Rattle.std.proofs.Common.{refl, codes, [], ◌∷◌, List, ℕ, true, false, map}
unfoldable use Rattle.std.specs.Fmt.{digits}
use Rattle.ansi_split.proofs.Common.{range_with_len, part_from, all_parts, is_part_borrowed}
use Rattle.ansi_items.proofs.Tables.{MakesRows}

parts_of_texts : MakesRows (λ (x : List ℕ × List ℕ). all_parts x.0 x.1) (
    -- texts without ESC
    (([], codes "X"), [] ∷ [])
    ∷ (([], []), [] ∷ [] ∷ [])
    ∷ ((codes "213", []), [] ∷ codes "2" ∷ codes "1" ∷ codes "3" ∷ [] ∷ [])
    ∷ ((codes ":123:456:", codes ":"), [] ∷ codes "123" ∷ codes "456" ∷ [] ∷ [])
    -- a style is carried, and closed where a part ends
    ∷ ((codes "\u{1b}[30m123:456\u{1b}[39m", codes "456"), codes "\u{1b}[30m123:\u{1b}[39m" ∷ codes "\u{1b}[30m\u{1b}[39m" ∷ [])
    ∷ ((codes "\u{1b}[31m21\u{1b}[39m", []), codes "\u{1b}[31m\u{1b}[39m" ∷ codes "\u{1b}[31m2\u{1b}[39m" ∷ codes "\u{1b}[31m1\u{1b}[39m" ∷ [] ∷ [])
    ∷ ((codes "\u{1b}[31mlionXXtigerXleopard\u{1b}[0m", codes "X"), codes "\u{1b}[31mlion\u{1b}[39m" ∷ [] ∷ codes "\u{1b}[31mtiger\u{1b}[39m" ∷ codes "\u{1b}[31mleopard\u{1b}[0m" ∷ [])
    ∷ ((codes "\u{1b}[12ma,b", codes ","), codes "\u{1b}[12ma\u{1b}[10m" ∷ codes "\u{1b}[12mb\u{1b}[10m" ∷ [])
    ∷ ((codes "\u{1b}[99ma,b", codes ","), codes "\u{1b}[99ma" ∷ codes "b" ∷ [])
    -- the plain text is split, and a sequence belongs to the first part that doesn't end before it
    ∷ ((codes "\u{1b}[31mam\u{1b}[39m", codes "m"), codes "\u{1b}[31ma\u{1b}[39m" ∷ codes "\u{1b}[31m\u{1b}[39m" ∷ [])
    ∷ ((codes "\u{1b}[31ma", codes "\u{1b}[31m"), codes "\u{1b}[31ma\u{1b}[39m" ∷ [])
    ∷ ((codes "a:\u{1b}[31m:b", codes "::"), codes "a" ∷ codes "\u{1b}[31mb\u{1b}[39m" ∷ [])
    ∷ ((codes "a\u{1b}]0;t\u{7},b", codes ","), codes "a\u{1b}]0;t\u{7}" ∷ codes "b" ∷ [])
    ∷ [])
unfolding digits part_from
parts_of_texts = refl

-- a part is a borrow if it has no sequence, and is empty or no style is carried
borrowed_parts : MakesRows (λ (x : List ℕ × List ℕ × ℕ). map (is_part_borrowed x.0 x.1) (range_with_len 0 x.2)) (
    ((codes "\u{1b}[31mlionXXtigerXleopard\u{1b}[0m", codes "X", 4), false ∷ true ∷ false ∷ false ∷ [])
    ∷ ((codes "\u{1b}[99ma,b", codes ",", 2), false ∷ true ∷ [])
    ∷ [])
unfolding part_from
borrowed_parts = refl

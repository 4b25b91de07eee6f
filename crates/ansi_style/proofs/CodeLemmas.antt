-- The numbers of the table of SGR codes: those of its ranges, and those that have no row.
use Rattle.ansi_style.proofs.Common.{◌≡◌, ℕ, zero, suc, ◌+◌, ◌<◌, ◌≤◌, inl, inr, Bool, true, false, ◌||◌, refl, sym, ◌∙◌, subst, arith, Option, Some, None, is_some, rules, agree_below_at, cases_eq, or_cases, true≢false, nat_tests, find, is_in_range, option_map_or, Bit4, Rendition, is_foreground, is_background, Effect, Changes, ReadsColor, Rows, table, effect_of_code, unknown_code, perform, List, [], ◌==◌}
use Rattle.ansi_style.specs.Fields.{changed}
use Rattle.ansi_style.specs.Fields as Reads

pub in_range : (lo hi c : ℕ) → is_in_range lo hi c ≡ true → (lo ≤ c) × (c ≤ hi)
in_range lo hi c h = grind arith

-- `count` codes from `first` on change a style so
abbrev Change : (ℕ → Rendition → Rendition) → ℕ → ℕ → Type 0
Change put first zero = Unit {0}
Change put first (suc count) = (effect_of_code first ≡ Changes (put first)) × Change put (suc first) count

changes_at : (put : ℕ → Rendition → Rendition) (count first n : ℕ) → Change put first count → first ≤ n → n < first + count → effect_of_code n ≡ Changes (put n)
changes_at put zero first n all low high = absurd (omega arith)
changes_at put (suc count) first n all low high = elim (cases_eq n first) [
  | inl same ↦ subst (λ n. effect_of_code n ≡ Changes (put n)) (sym same) all.0
  | inr other ↦ changes_at put count (suc first) n all.1 (omega arith) (omega arith)
]

pub effect_of_code-font : (n : ℕ) → is_in_range 11 19 n ≡ true → effect_of_code n ≡ Changes (λ s. record s { font = Some n })
effect_of_code-font n is = grind (arith, nat_tests)

-- the codes of the eight colors from `dark` on, and from `bright` on
color_at : (put : ℕ → Rendition → Rendition) (dark bright n : ℕ) → Change put dark 8 → Change put bright 8
    → (is_in_range dark (dark + 7) n || is_in_range bright (bright + 7) n) ≡ true → effect_of_code n ≡ Changes (put n)
color_at put dark bright n are_dark are_bright is = elim (or_cases (is_in_range dark (dark + 7) n) (is_in_range bright (bright + 7) n) is) [
  | inl in_dark ↦ (let bounds = in_range dark (dark + 7) n in_dark in changes_at put 8 dark n are_dark bounds.0 (omega (arith, bounds.1)))
  | inr in_bright ↦ (let bounds = in_range bright (bright + 7) n in_bright in changes_at put 8 bright n are_bright bounds.0 (omega (arith, bounds.1)))
]

pub effect_of_code-foreground : (n : ℕ) → is_foreground (Bit4 n) ≡ true → effect_of_code n ≡ Changes (λ s. record s { foreground = Some (Bit4 n) })
effect_of_code-foreground n = color_at (λ n s. record s { foreground = Some (Bit4 n) }) 30 90 n (search rules) (search rules)

pub effect_of_code-background : (n : ℕ) → is_background (Bit4 n) ≡ true → effect_of_code n ≡ Changes (λ s. record s { background = Some (Bit4 n) })
effect_of_code-background n = color_at (λ n s. record s { background = Some (Bit4 n) }) 40 100 n (search rules) (search rules)

-- a row of the table has the code n
abbrev has_row : ℕ → Bool
has_row n = is_some (find (λ (r : Rows). is_in_range r.first r.last n) table)

-- the codes that have rows, as ranges
abbrev pub is_in_table : ℕ → Bool
is_in_table n = is_in_range 0 55 n || (is_in_range 58 65 n || (is_in_range 73 75 n || (is_in_range 90 97 n || is_in_range 100 107 n)))

effect_of_none : (n : ℕ) (o : Option Rows) → is_some o ≡ false → option_map_or (λ (r : Rows). r.effect n) o unknown_code ≡ unknown_code
effect_of_none n None none = refl
effect_of_none n (Some r) none = absurd (true≢false none)

pub effect_of_code-outside : (n : ℕ) → n < 256 → is_in_table n ≡ false → effect_of_code n ≡ unknown_code
effect_of_code-outside n small outside =
    effect_of_none n (find (λ (r : Rows). is_in_range r.first r.last n) table) (agree_below_at has_row is_in_table 256 n refl small ∙ outside)

-- an effect reads a color from the fields
abbrev reads : Effect → Bool
reads (Changes f) = false
reads _ = true

changes : (e : Effect) (s : Rendition) (fields : List (List ℕ)) → reads e ≡ false → perform e s fields ≡ (changed e s, fields)
changes (Changes f) s fields e = refl
changes (ReadsColor put) s fields e = absurd (true≢false e)

-- a code that reads no color leaves the fields after it
pub perform-changed : (n : ℕ) (s : Rendition) (fields : List (List ℕ)) → n < 256 → ¬ (Reads.ReadsColor n) → perform (effect_of_code n) s fields ≡ (changed (effect_of_code n) s, fields)
perform-changed n s fields small other =
    changes (effect_of_code n) s fields (agree_below_at (λ n. reads (effect_of_code n)) (λ n. n == 38 || (n == 48 || n == 58)) 256 n refl small
    ∙ grind (arith, nat_tests, other))

-- nor does one with no field after it change anything else
pub perform-alone : (e : Effect) (s : Rendition) → perform e s [] ≡ (changed e s, [])
perform-alone (Changes f) s = refl
perform-alone (ReadsColor put) s = refl

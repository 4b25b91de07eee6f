-- Lines after indents.
use Rattle.std.proofs.Common.{◌≡◌, ℕ, ◌-◌, max, List, [], ◌∷◌, ◌++◌, length, drop, map, ◌==◌, Option, None, Some, Result, Ok, Err, IsTrue, refl, sym, ◌∙◌, ap, arith, append_assoc, append-nil}
use Rattle.std.specs.List.{list_all}
use Rattle.std.proofs.lemmas.Bool.{and_from, and_parts, eqb-true}
use Rattle.std.proofs.lemmas.List.{take-append-drop}
use Rattle.std.proofs.lemmas.Str.{chars-nil}
use Rattle.ansi_items.specs.Plain.{plain}
use Rattle.ansi_safe.specs.Cells.{cell}
use Rattle.ansi_clusters.specs.Columns.{columns, columns_of}
use Rattle.ansi_cells.specs.declared.shown.Alignment.TheVariants.{Left}
use Rattle.ansi_cells.specs.Shown.{missing, before_text, closing, padded}
use Rattle.ansi_clusters.specs.Lines.{blanks}
use Rattle.ansi_style.specs.Writing.{BeginsWith}
use Rattle.ansi_style.proofs.FrontLemmas.{begins_more, begins_itself}
use Rattle.ansi_split.specs.Splits.{CarriedPart, PushesPart}
use Rattle.ansi_clusters.specs.Walks.{clusters_after}
use Rattle.ansi_cells.specs.Indents.{shown_indent, after_indent, indented, wrapped_with}
use Rattle.ansi_cells.specs.Wrapped.{wrapped}
use Rattle.ansi_clusters.proofs.ClusterLemmas.{clusters-none}

-- a text padded to no columns is the text, closed
pub padded-closed_alone : (t : List ℕ) → padded t 0 Left ≡ t ++ closing t
unfolding padded
padded-closed_alone t =
    let none : missing t 0 ≡ 0 = omega arith in
    ap (λ m. (blanks (before_text Left m) ++ (t ++ closing t)) ++ blanks (m - before_text Left m)) none ∙ append-nil (t ++ closing t)

-- without indents the lines are borrowed as they were
pub indented-borrowed : (ls : List CarriedPart) → IsTrue (list_all (λ (l : CarriedPart). l.borrowed) ls) → IsTrue (list_all (λ (l : CarriedPart). l.borrowed) (indented [] [] ls))
indented-borrowed [] all = refl
indented-borrowed (l ∷ ls) all = (let both = and_parts _ _ all in and_from _ _ both.0 (indented-borrowed ls both.1))

-- nor are they other lines: an empty indent has no columns

pub empty_indent-width : columns (plain (cell [])) ≡ 0
empty_indent-width = ap columns_of (ap (clusters_after []) chars-nil ∙ clusters-none [])

indented-bytes : (ls : List CarriedPart) → map (λ (l : CarriedPart). l.bytes) (indented [] [] ls) ≡ map (λ (l : CarriedPart). l.bytes) ls
indented-bytes [] = refl
indented-bytes (l ∷ ls) = ap (λ ts. l.bytes ∷ ts) (indented-bytes ls)

pub wrapped_with-bytes : (t : List ℕ) (width : ℕ) → map (λ (l : CarriedPart). l.bytes) (wrapped_with t width [] []) ≡ map (λ (l : CarriedPart). l.bytes) (wrapped t width)
wrapped_with-bytes t width =
    let all : width - 0 ≡ width = omega arith in
    let same : width - max (columns (plain (cell []))) (columns (plain (cell []))) ≡ width = ap (λ n. width - max n n) empty_indent-width ∙ all in
    indented-bytes (wrapped t (width - max (columns (plain (cell []))) (columns (plain (cell []))))) ∙ ap (λ w. map (λ (l : CarriedPart). l.bytes) (wrapped t w)) same

-- no line is after indents only if none is without
pub indented-none : (first later : List ℕ) (ls : List CarriedPart) → indented first later ls ≡ [] → ls ≡ []
indented-none first later [] none = refl
indented-none first later (l ∷ ls) none = absurd (cc none)

-- an indent and the first line after it are appended

pub filled : (ls : List CarriedPart) → (ls ≡ [] → ⊥) → (l : CarriedPart) × (rest : List CarriedPart) × (ls ≡ l ∷ rest)
filled [] some = absurd (some refl)
filled (l ∷ ls) some = (l, ls, refl)

-- what begins with a text and an indent begins with the text
begins_less : (text more front after : List ℕ) → front ≡ text ++ more → BeginsWith after front → BeginsWith after text
begins_less text more front after is begins =
    begins_more front (drop (length front) after) after text (sym (take-append-drop (length front) after) ∙ ap (λ t. t ++ drop (length front) after) begins)
    (begins_more text more front text is (begins_itself text))

nothing_before : (text first : List ℕ) → length first ≡ 0 → text ++ shown_indent first ≡ text
nothing_before text [] none = append-nil text
nothing_before text (b ∷ bs) none = absurd (cc none)

pub pushes-indented : {E : Type 0} (first later text indented_text after : List ℕ) (old new : List CarriedPart) (pushed : Option (Result Unit E)) → (old ≡ [] → ⊥) → indented_text ≡ text ++ shown_indent first → PushesPart old pushed new indented_text after
    → PushesPart (indented first later old) pushed (indented later later new) text after
pushes-indented first later text indented_text after old new None some is pushes = absurd (some pushes.0)
pushes-indented first later text indented_text after old new (Some (Ok u)) some is (l, front, more) =
    (after_indent first l, ap (indented first later) front, more ∙ ap (λ v. v ++ l.bytes) is ∙ append_assoc text (shown_indent first) l.bytes)
pushes-indented first later text indented_text after old new (Some (Err e)) some is (l, ls, front, none, kept, unchanged) = (
  after_indent first l,
  indented later later ls,
  ap (indented first later) front,
  ap (indented later later) none,
  begins_less text (shown_indent first) indented_text after is kept,
  λ lent. (let both = and_parts (length first == 0) l.borrowed lent in unchanged both.1 ∙ is ∙ nothing_before text first (eqb-true (length first) 0 both.0)),
)

-- What is wrapped after edits, and which of its lines are borrowed.
use Rattle.std.proofs.Common.{◌≡◌, ℕ, Bool, true, false, not, ◌==◌, ◌&&◌, List, [], ◌∷◌, ◌++◌, All, length, map, IsTrue, refl, sym, ◌∙◌, ap, ap₂, subst, ◌+◌}
use Rattle.std.specs.Cow.{IsBorrowedStr}
use Rattle.std.specs.List.{list_all, AllByRecursion}
use Rattle.std.specs.Prelude.{bytes_eq}
use Rattle.std.specs.Str.{IsUtf8}
use Rattle.std.specs.declared.borrow.CowStr.{CowStr}
use Rattle.std.specs.declared.borrow.CowStr.TheVariants.{Borrowed, Owned}
use Rattle.std.proofs.lemmas.List.Elements.{All-from_recursion, recursion_from_All}
use Rattle.ansi_items.specs.Plain.{plain}
use Rattle.ansi_safe.specs.declared.policy.Links.TheVariants.{Keep}
use Rattle.ansi_safe.specs.Cells.{paragraph}
use Rattle.ansi_safe.specs.Links.{IsClosed}
use Rattle.ansi_safe.specs.Safe.{is_safe}
use Rattle.ansi_cells.specs.Indents.{text_width, shown_indent, indented, wrapped_with, IsWrappedWith}
use Rattle.ansi_clusters.specs.Lines.{lines}
use Rattle.ansi_cells.specs.OneLine.{is_one_line}
use Rattle.ansi_cells.specs.Rows.{indented_screens}
use Rattle.ansi_cells.specs.Screens.{screen}
use Rattle.ansi_cells.specs.Wrapped.{CarriedPart, lent_lines, wrapped, lines_of}
use Rattle.ansi_wraps.specs.WrapStates.{lends}
use Rattle.ansi_wraps.proofs.CleanLineLemmas.{clean-wrapped_with}
use Rattle.ansi_clusters.proofs.FirstFitLemmas.{lines-first_fit}
use Rattle.ansi_cells.proofs.IndentLawLemmas.{shut-wrapped_with}
use Rattle.ansi_wraps.proofs.LentLemmas.{lent-true, lent-map}
use Rattle.ansi_cells.proofs.OneLineLemmas.{clean-safe, clean-one_line, safe-paragraph}
use Rattle.ansi_cells.proofs.RowLemmas.{screens-wrapped_with}

-- a text lends its lines if it is borrowed

pub lends-borrowed : {A : Type 0} (c : CowStr A) → IsBorrowedStr c → lends c ≡ true
lends-borrowed (Borrowed s) is = refl
lends-borrowed (Owned s) is = absurd is

pub lends-owned : {A : Type 0} (c : CowStr A) → (IsBorrowedStr c → ⊥) → lends c ≡ false
lends-owned (Borrowed s) other = absurd (other tt)
lends-owned (Owned s) other = refl

-- lines that are lent twice

lent-none : (b : Bool) (ls : List CarriedPart) → lent_lines false (lent_lines b ls) ≡ lent_lines false ls
lent-none b [] = refl
lent-none b (l ∷ ls) = ap (λ ks. record l { borrowed = false } ∷ ks) (lent-none b ls)

pub owned_wrapped : (t : List ℕ) (width : ℕ) {v : List ℕ} → v ≡ paragraph t → lent_lines false (lines_of v width) ≡ lent_lines false (wrapped t width)
owned_wrapped t width same = ap (λ u. lent_lines false (lines_of u width)) same ∙ sym (lent-none (bytes_eq (paragraph t) t) (lines_of (paragraph t) width))

-- the lines keep their bytes
lent-all : (P : List ℕ → Type 0) (b : Bool) (ls : List CarriedPart) → AllByRecursion (λ (l : CarriedPart). P l.bytes) ls → AllByRecursion (λ (l : CarriedPart). P l.bytes) (lent_lines b ls)
lent-all P b [] all = tt
lent-all P b (l ∷ ls) all = (all.0, lent-all P b ls all.1)

-- none is borrowed
none-borrowed : (ls : List CarriedPart) → list_all (λ (l : CarriedPart). not l.borrowed) (lent_lines false ls) ≡ true
none-borrowed [] = refl
none-borrowed (l ∷ ls) = none-borrowed ls

-- an indent before a line that is lent

and-false : (b : Bool) → (b && false) ≡ false
and-false true = refl
and-false false = refl

abbrev indented_line : List ℕ → CarriedPart → Bool → CarriedPart
indented_line t l b = record { bytes = shown_indent t ++ l.bytes; borrowed = b; source_len = length (shown_indent t) + l.source_len }

owned-indented : (first later : List ℕ) (ls : List CarriedPart) → indented first later (lent_lines false ls) ≡ lent_lines false (indented first later ls)
owned-indented first later [] = refl
owned-indented first later (l ∷ ls) =
    ap₂ (λ b ks. indented_line first l b ∷ ks) (and-false (length first == 0)) (owned-indented later later ls)

pub indented-lent : (b : Bool) (first later : List ℕ) (ls : List CarriedPart) → indented first later (lent_lines b ls) ≡ lent_lines b (indented first later ls)
indented-lent true first later ls = ap (indented first later) (lent-true ls) ∙ sym (lent-true (indented first later ls))
indented-lent false first later ls = owned-indented first later ls

-- the lines of a text t, of which the caller lends some or none

module _ {t : List ℕ} (width : ℕ) (first later : List ℕ) {u : List ℕ} (edited : u ≡ t) (lent : Bool) {ls : List CarriedPart} (are : ls ≡ lent_lines lent (wrapped_with u width first later)) where
  same_lines : ls ≡ lent_lines lent (wrapped_with t width first later)
  same_lines = are ∙ ap (λ v. lent_lines lent (wrapped_with v width first later)) edited

  each-line : (P : List ℕ → Type 0) → All (λ (l : CarriedPart). P l.bytes) (wrapped_with t width first later) → All (λ (l : CarriedPart). P l.bytes) ls
  each-line P all =
      let made = wrapped_with t width first later in
      subst (All (λ (l : CarriedPart). P l.bytes)) (sym same_lines)
      (All-from_recursion (λ (l : CarriedPart). P l.bytes) (lent_lines lent made) (lent-all P lent made (recursion_from_All (λ (l : CarriedPart). P l.bytes) made all)))

  pub edited-bytes : map (λ (l : CarriedPart). l.bytes) ls ≡ map (λ (l : CarriedPart). l.bytes) (wrapped_with t width first later)
  edited-bytes = ap (map (λ (l : CarriedPart). l.bytes)) same_lines ∙ lent-map (λ w. w) lent (wrapped_with t width first later)

  pub edited-first_fit : (made : List CarriedPart) × IsWrappedWith t width first later made × (map (λ (l : CarriedPart). l.bytes) ls ≡ map (λ (l : CarriedPart). l.bytes) made)
  edited-first_fit =
      let room = text_width width first later in
      let x = plain (paragraph t) in
      (wrapped_with t width first later, (wrapped t room, (lines room x, lines-first_fit room x, refl), refl), edited-bytes)

  pub edited-lent : lent ≡ true → ls ≡ wrapped_with t width first later
  edited-lent is = same_lines ∙ ap (λ b. lent_lines b (wrapped_with t width first later)) is ∙ lent-true (wrapped_with t width first later)

  pub edited-owned : lent ≡ false → IsTrue (list_all (λ (l : CarriedPart). not l.borrowed) ls)
  edited-owned is = ap (list_all (λ (l : CarriedPart). not l.borrowed)) (same_lines ∙ ap (λ b. lent_lines b (wrapped_with t width first later)) is) ∙ none-borrowed (wrapped_with t width first later)

  module _ (text_utf8 : IsUtf8 u) (first_utf8 : IsUtf8 first) (later_utf8 : IsUtf8 later) where
    utf8 : IsUtf8 t
    utf8 = subst IsUtf8 edited text_utf8

    pub edited-safe : All (λ (l : CarriedPart). IsTrue (is_safe Keep l.bytes)) ls
    edited-safe = each-line (λ w. IsTrue (is_safe Keep w)) (λ k d lt. clean-safe (clean-wrapped_with t first later width utf8 first_utf8 later_utf8 k d lt))

    pub edited-one_line : All (λ (l : CarriedPart). IsTrue (is_one_line l.bytes)) ls
    edited-one_line = each-line (λ w. IsTrue (is_one_line w)) (λ k d lt. clean-one_line (clean-wrapped_with t first later width utf8 first_utf8 later_utf8 k d lt))

    pub edited-closed : All (λ (l : CarriedPart). IsClosed l.bytes) ls
    edited-closed = each-line IsClosed (λ k d lt. (shut-wrapped_with t first later width (safe-paragraph t utf8) first_utf8 later_utf8 k d lt).closed)

    pub edited-screen : map (λ (l : CarriedPart). screen l.bytes) ls ≡ indented_screens t width first later
    edited-screen = ap (map (λ (l : CarriedPart). screen l.bytes)) same_lines ∙ lent-map screen lent (wrapped_with t width first later) ∙ screens-wrapped_with t first later width utf8 first_utf8 later_utf8

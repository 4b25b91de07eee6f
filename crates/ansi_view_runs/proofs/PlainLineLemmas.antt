-- A text of SGRs and characters that are clusters by themselves, which leaves nothing open: it is shown as it is, and which changes leave it.
use Rattle.std.proofs.Common.{◌≡◌, ◌≢◌, ℕ, ◌-◌, ◌<◌, ◌≤◌, true, List, [], ◌∷◌, ◌++◌, length, map, max, nat_le, if◌then◌else◌, refl, sym, ◌∙◌, ap, ap₂, arith, append-nil}
use Rattle.std.specs.Str.{IsUtf8}
use Rattle.std.specs.Prelude.{bytes_eq, slice_index_or}
use Rattle.std.proofs.lemmas.Bool.{le-leb}
use Rattle.ansi_items.specs.Plain.{plain, marks}
use Rattle.ansi_style.specs.declared.state.rendition.Rendition.{Rendition}
use Rattle.ansi_style.specs.Rendition.{plain_style}
use Rattle.ansi_style.specs.Written.{close}
use Rattle.ansi_safe.specs.Cells.{cell, paragraph}
use Rattle.ansi_safe.specs.Links.{link_end, ending}
use Rattle.ansi_safe.proofs.CellTextLemmas.{paragraph-stays}
use Rattle.ansi_clusters.specs.Columns.{columns}
use Rattle.ansi_clusters.specs.Lines.{lines}
use Rattle.ansi_cells.specs.declared.shown.Alignment.{Alignment}
use Rattle.ansi_cells.specs.declared.sides.Side.{Side}
use Rattle.ansi_cells.specs.declared.sides.Side.TheVariants.{End, Start, Middle}
use Rattle.ansi_cells.specs.Fitted.{fitted}
use Rattle.ansi_cells.specs.PlainCells.{IsPlainText, IsPlainCell}
use Rattle.ansi_cells.specs.Shown.{truncated, padded}
use Rattle.ansi_cells.specs.Sides.{is_cut_at_end, cut_before_end, truncated_at}
use Rattle.ansi_cells.specs.Wrapped.{CarriedPart, lines_over, wrapped}
use Rattle.ansi_cells.proofs.PlainCellLemmas.{plain-uncut, plain-padded}
use Rattle.ansi_cells.proofs.ShownLemmas.{cut-bytes, between-none}
use Rattle.ansi_wraps.proofs.LentLemmas.{lent-map}
use Rattle.ansi_wraps.proofs.OnlyLineLemmas.{only-line, only-bytes}
use Rattle.ansi_columns.specs.Edits as columns
use Rattle.ansi_columns.specs.declared.edits.ColumnEdit.{ColumnEdit}
use Rattle.ansi_view_runs.specs.declared.edits.Stage.{Stage}
use Rattle.ansi_view_runs.specs.Edits.{OnColumns}
use Rattle.ansi_view_runs.specs.SafeJobs.{changes_then}

-- nothing has to be closed at its end
pub plain-ending : {t : List ℕ} {style : Rendition} → IsPlainText t style → close style ≡ [] → ending t ≡ []
plain-ending is closed = ap₂ (λ l s. link_end l ++ close s) is.link_is (sym is.style_is) ∙ closed

module _ {t : List ℕ} {n last : ℕ} {style : Rendition} (utf8 : IsUtf8 t) (is : IsPlainCell t n 0 style last) (closed : close style ≡ []) where
  -- it is as well a cell of a greater width
  wider : (width : ℕ) → n ≤ width → IsPlainCell t width (width - n) style last
  wider width fits = record { text = is.text; sum = omega (arith, is.sum, fits); utf8 = is.utf8; singles = is.singles; last_is = is.last_is }

  -- with nothing after it
  alone : (t ++ ([] ++ close style)) ++ [] ≡ t
  alone = ap (λ c. (t ++ ([] ++ c)) ++ []) closed ∙ append-nil (t ++ []) ∙ append-nil t

  uncut : (width : ℕ) (tail : List ℕ) → n ≤ width → truncated (cell t) width tail ≡ t
  uncut width tail fits = sym (cut-bytes (plain-uncut tail utf8 (wider width fits)).cut) ∙ alone

  -- a text that fits is truncated to itself, at any side
  pub left-truncated : (side : Side) (width : ℕ) (tail : List ℕ) → n ≤ width → truncated_at side (cell t) width tail ≡ t
  unfolding truncated_at
  left-truncated side width tail fits = ap (λ b. if b then truncated (cell t) width tail else cut_before_end side (cell t) width tail) (at-end side) ∙ uncut width tail fits
    where
      enough : nat_le (columns (plain (cell t))) width ≡ true
      enough = le-leb (columns (plain (cell t))) width (omega (arith, ap (λ u. columns (plain u)) is.text.stays, is.sum, fits))

      at-end : (side : Side) → is_cut_at_end side (cell t) width ≡ true
      at-end End = refl
      at-end Start = enough
      at-end Middle = enough

  -- one that is wide enough is padded to itself
  pub left-padded : (width : ℕ) (alignment : Alignment) → width ≤ n → padded (cell t) width alignment ≡ t
  left-padded width alignment full = sym ((plain-padded width {blanks = 0} is (omega (arith, full))).bytes alignment) ∙ between-none alignment _ ∙ alone

  pub left-fitted : (width : ℕ) (alignment : Alignment) (tail : List ℕ) → n ≡ width → fitted (cell t) width alignment tail ≡ t
  left-fitted width alignment tail same =
      ap (λ u. padded u width alignment) (uncut width tail (omega (arith, same)) ∙ sym is.text.stays) ∙ left-padded width alignment (omega (arith, same))

  -- one that doesn't end with a blank is the only line of its wrap
  pub left-wrapped : (width : ℕ) → n ≤ width → last ≢ 0x20 → map (λ (l : CarriedPart). l.bytes) (wrapped t width) ≡ t ∷ []
  left-wrapped width fits solid =
      let same : paragraph t ≡ t = paragraph-stays t utf8 is.text.stays in
      let most = max width 1 in
      let within : n ≤ most = omega (arith, fits) in
      lent-map (λ b. b) (bytes_eq (paragraph t) t) (lines_over plain_style [] (plain (paragraph t)) (marks (paragraph t)) (lines width (plain (paragraph t))))
      ∙ ap (λ u. map (λ (l : CarriedPart). l.bytes) (lines_over plain_style [] (plain u) (marks u) (lines width (plain u)))) same
      ∙ ap (map (λ (l : CarriedPart). l.bytes)) (only-line (wider most within) solid)
      ∙ ap (λ u. u ∷ []) (only-bytes t is.text.link_is ∙ ap (λ s. t ++ close s) (sym is.text.style_is) ∙ ap (λ c. t ++ c) closed ∙ append-nil t)

-- ---- the only edit of a job

module _ {A : Type 0} where
  pub one-edit : (d : ColumnEdit) (stages : List (Stage A)) (last : List ColumnEdit) → length stages < 1 → 1 ≤ length last → length last < 2 → changes_then stages last ≡ OnColumns (columns.change_of (slice_index_or last 0 d)) ∷ []
  one-edit d [] [] none some few = absurd (omega (arith, some))
  one-edit d [] (edit ∷ []) none some few = refl
  one-edit d [] (edit ∷ next ∷ last) none some few = absurd (omega (arith, few))
  one-edit d (stage ∷ stages) last none some few = absurd (omega (arith, none))

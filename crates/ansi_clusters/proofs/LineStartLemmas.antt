-- Lines that are left at the start of a text.
use Rattle.std.proofs.Common.{◌≡◌, ◌∙◌, ℕ, List, Some, max, map, ap}
use Rattle.std.specs.Str.{IsUtf8}
use Rattle.ansi_items.specs.Plain.{plain}
use Rattle.ansi_clusters.specs.declared.views.View.TheVariants.{Lined}
use Rattle.ansi_clusters.specs.Views.{seen_len}
use Rattle.ansi_clusters.specs.Walks.{clusters_from, seen_clusters}
use Rattle.ansi_clusters.specs.Lines.{lines, lines_from, lines_left, seen_lines_left, place_line, shown_lines}
use Rattle.ansi_clusters.specs.declared.walks.Walk.{Walk}
use Rattle.ansi_clusters.proofs.ColumnLemmas.{clusters_from-start, seen_clusters-start, seen_len-start}

-- the lines from the start on are those of the text
pub lines_left-start : (t : List ℕ) (width : ℕ) (start : Walk) → start.position ≡ 0 → lines_left t (max width 1) (Some start) ≡ lines width (plain t)
lines_left-start t width start none =
    ap (λ n. lines_from (max width 1) n n n 0 (clusters_from t n)) none ∙ ap (lines_from (max width 1) 0 0 0 0) (clusters_from-start t)

-- the same of what lines show
pub shown_lines-start : (t : List ℕ) (width : ℕ) (start : Walk) → IsUtf8 t → start.position ≡ 0 → seen_lines_left Lined t (max width 1) (Some start) ≡ shown_lines width (plain t)
shown_lines-start t width start utf8 none =
    ap (map (place_line (plain t))) (
    ap (λ n. lines_from (max width 1) (seen_len Lined t n) (seen_len Lined t n) (seen_len Lined t n) 0 (seen_clusters Lined t n)) none
    ∙ ap (λ n. lines_from (max width 1) n n n 0 (seen_clusters Lined t 0)) (seen_len-start Lined t)
    ∙ ap (lines_from (max width 1) 0 0 0 0) (seen_clusters-start Lined t utf8))

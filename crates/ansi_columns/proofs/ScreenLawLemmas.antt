-- A screen has a column for each column of its text, and the front of a text has the front of its screen.
use Rattle.std.proofs.Common.{◌≡◌, ℕ, List, length, take, drop, sym, ◌∙◌, ap, ap₂, arith, take_at, take-append-drop}
use Rattle.std.specs.Str.{IsUtf8}
use Rattle.ansi_items.specs.Plain.{plain}
use Rattle.ansi_items.proofs.Utf8Lemmas.{IsUtf8-plain}
use Rattle.ansi_style.specs.Styled.{styled}
use Rattle.ansi_cells.specs.Addresses.{linked}
use Rattle.ansi_clusters.specs.Columns.{clusters, columns, columns_of, bytes_of}
use Rattle.ansi_cells.specs.Screens.{screen_of, screen}
use Rattle.ansi_clusters.proofs.ClusterLawLemmas.{clusters-front, columns-front}
use Rattle.ansi_cells.proofs.ScreenLemmas.{length-screen_of, screen_of-append, screen_of-take}

-- a text has a column for each of its columns
pub length-screen : (t : List ℕ) → length (screen t) ≡ columns (plain t)
length-screen t = length-screen_of (clusters (plain t)) (styled t) (linked t)

-- the screen of the clusters of a text up to a boundary is the front of its screen
module _ (t : List ℕ) (n : ℕ) (utf8 : IsUtf8 t) where
  abbrev x : List ℕ
  x = plain t

  abbrev end : ℕ
  end = bytes_of (take n (clusters x))

  pub front-screen : screen_of (clusters (take end x)) (take end (styled t)) (take end (linked t)) ≡ take (columns (take end x)) (screen t)
  front-screen =
      let ks = clusters x in
      let front = take n ks in
      let rest = drop n ks in
      let all = take-append-drop n ks in
      ap (λ cs. screen_of cs (take end (styled t)) (take end (linked t))) (clusters-front x (IsUtf8-plain t utf8) n)
      ∙ screen_of-take front (styled t) (linked t) end (omega arith)
      ∙ sym (
      ap₂ take (columns-front x (IsUtf8-plain t utf8) n) (ap (λ cs. screen_of cs (styled t) (linked t)) (sym all) ∙ screen_of-append front rest (styled t) (linked t))
      ∙ take_at (screen_of front (styled t) (linked t)) (screen_of rest (drop end (styled t)) (drop end (linked t))) (columns_of front) (length-screen_of front (styled t) (linked t)))

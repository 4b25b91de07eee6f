-- What the lines of a wrap show: each some columns of the paragraph, in order.
use Rattle.std.proofs.Common.{◌≡◌, ℕ, ◌-◌, List, [], ◌∷◌, ◌++◌, length, map, take, drop, slice_range, IsTrue, refl, sym, ◌∙◌, ap, ap₂, arith, append_assoc}
use Rattle.std.specs.Str.{IsUtf8}
use Rattle.std.specs.List.{AllByRecursion}
use Rattle.std.proofs.lemmas.List.{drop_at, take_at}
use Rattle.std.proofs.lemmas.List.Elements.{recursion_from_All}
use Rattle.std.proofs.lemmas.List.Sums.{sum_by-append}
use Rattle.ansi_items.specs.Plain.{plain}
use Rattle.ansi_items.proofs.Utf8Lemmas.{IsUtf8-plain}
use Rattle.ansi_style.specs.Styled.{StyledByte, styled}
use Rattle.ansi_style.proofs.StyledLemmas.{unstyled-styled}
use Rattle.ansi_safe.specs.declared.policy.Links.TheVariants.{Keep}
use Rattle.ansi_safe.specs.Cells.{paragraph}
use Rattle.ansi_safe.specs.Safe.{is_safe}
use Rattle.ansi_safe.proofs.CellTextLemmas.{IsUtf8-paragraph}
use Rattle.ansi_cells.specs.Addresses.{LinkedByte, linked}
use Rattle.ansi_clusters.specs.Columns.{clusters, cluster_width, columns, columns_of, bytes_of}
use Rattle.ansi_clusters.specs.Lines.{lines, IsLine}
use Rattle.ansi_cells.specs.Screens.{Column, screen_of, screen}
use Rattle.ansi_cells.specs.Wrapped.{CarriedPart, wrapped}
use Rattle.ansi_clusters.proofs.ClusterLawLemmas.{columns-front}
use Rattle.ansi_clusters.proofs.ColumnLemmas.{bytes_of-append}
use Rattle.ansi_clusters.proofs.LineLawLemmas.{lines_are}
use Rattle.ansi_cells.proofs.PartLemmas.{clusters-part, map-slice_range}
use Rattle.ansi_cells.proofs.ScreenLemmas.{length-screen_of, screen_of-append, screen_of-take}
use Rattle.ansi_cells.proofs.WrapLawLemmas.{wrapped-styled, wrapped-linked}

-- the screen of styled and linked bytes
abbrev pub screen_by : List StyledByte → List LinkedByte → List Column
screen_by ss ls = screen_of (clusters (map (λ (c : StyledByte). c.byte) ss)) ss ls

pub screen-by : (t : List ℕ) → screen t ≡ screen_by (styled t) (linked t)
screen-by t = ap (λ x. screen_of (clusters x) (styled t) (linked t)) (sym (unstyled-styled t))

-- the columns over an interval of bytes
abbrev columns_over : List ℕ → ℕ × ℕ → List Column
columns_over p i = slice_range (screen p) (columns (take i.0 (plain p))) (columns (take i.1 (plain p)))

module _ (p : List ℕ) (width : ℕ) (i : ℕ × ℕ) (utf8 : IsUtf8 p) (line : IsLine (plain p) width i) where
  abbrev x : List ℕ
  x = plain p

  abbrev before : List (List ℕ)
  before = line.before

  abbrev shown : List (List ℕ)
  shown = line.shown

  all : clusters x ≡ before ++ (shown ++ line.after)
  all = line.all ∙ append_assoc before shown line.after

  size : i.1 - i.0 ≡ bytes_of shown
  size = omega (arith, line.start, line.end, bytes_of-append before shown)

  part-clusters : clusters (slice_range x i.0 i.1) ≡ shown
  part-clusters = ap₂ (λ n m. clusters (take n (drop m x))) size line.start ∙ clusters-part x before shown line.after (IsUtf8-plain p utf8) all

  columns-up_to : (n : ℕ) (ks : List (List ℕ)) → take n (clusters x) ≡ ks → columns (take (bytes_of ks) x) ≡ columns_of ks
  columns-up_to n ks is = ap (λ ls. columns (take (bytes_of ls) x)) (sym is) ∙ columns-front x (IsUtf8-plain p utf8) n ∙ ap columns_of is

  pub line-screen : screen_by (slice_range (styled p) i.0 i.1) (slice_range (linked p) i.0 i.1) ≡ columns_over p i
  line-screen =
      let ss = drop i.0 (styled p) in
      let ls = drop i.0 (linked p) in
      let first = screen_of before (styled p) (linked p) in
      let inner = screen_of shown ss ls in
      let outer = screen_of line.after (drop (bytes_of shown) ss) (drop (bytes_of shown) ls) in
      let parts : screen p ≡ first ++ (inner ++ outer)
      = ap (λ ks. screen_of ks (styled p) (linked p)) all ∙ screen_of-append before (shown ++ line.after) (styled p) (linked p)
      ∙ ap (λ n. first ++ screen_of (shown ++ line.after) (drop n (styled p)) (drop n (linked p))) (sym line.start)
      ∙ ap (λ cs. first ++ cs) (screen_of-append shown line.after ss ls) in
      let from : columns (take i.0 x) ≡ columns_of before
      = ap (λ n. columns (take n x)) line.start ∙ columns-up_to (length before) before (ap (take (length before)) all ∙ take_at before (shown ++ line.after) (length before) refl) in
      let to : columns (take i.1 x) ≡ columns_of (before ++ shown)
      = ap (λ n. columns (take n x)) line.end
      ∙ columns-up_to (length (before ++ shown)) (before ++ shown) (ap (take (length (before ++ shown))) line.all ∙ take_at (before ++ shown) line.after (length (before ++ shown)) refl) in
      let many : columns (take i.1 x) - columns (take i.0 x) ≡ columns_of shown = omega (arith, from, to, sum_by-append cluster_width before shown) in
      ap₂ (λ ks n. screen_of ks (take n ss) (take n ls))
      (ap clusters (map-slice_range (λ (c : StyledByte). c.byte) (styled p) i.0 i.1 ∙ ap (λ y. slice_range y i.0 i.1) (unstyled-styled p)) ∙ part-clusters) size
      ∙ screen_of-take shown ss ls (bytes_of shown) (omega arith)
      ∙ sym (
      ap₂ (λ n m. take n (drop m (screen p))) many from
      ∙ ap (λ cs. take (columns_of shown) (drop (columns_of before) cs)) parts
      ∙ ap (take (columns_of shown)) (drop_at first (inner ++ outer) (columns_of before) (length-screen_of before (styled p) (linked p)))
      ∙ take_at inner outer (columns_of shown) (length-screen_of shown ss ls))

-- two functions of each element, and what they give together
pub zipped : {A B C D E : Type 0} (h : C → D → E) (f : A → C) (g : A → D) (f' : B → C) (g' : B → D) (xs : List A) (ys : List B) → map f xs ≡ map f' ys → map g xs ≡ map g' ys
    → map (λ x. h (f x) (g x)) xs ≡ map (λ y. h (f' y) (g' y)) ys
zipped h f g f' g' [] [] same alike = refl
zipped h f g f' g' [] (y ∷ ys) same alike = absurd (cc)
zipped h f g f' g' (x ∷ xs) [] same alike = absurd (cc)
zipped h f g f' g' (x ∷ xs) (y ∷ ys) same alike =
    ap₂ (λ u v. u ∷ v) (ap₂ h (heads same) (heads alike)) (zipped h f g f' g' xs ys (tails same) (tails alike))
  where
    heads : {T : Type 0} {u v : T} {us vs : List T} → u ∷ us ≡ v ∷ vs → u ≡ v
    heads e = cc

    tails : {T : Type 0} {u v : T} {us vs : List T} → u ∷ us ≡ v ∷ vs → us ≡ vs
    tails e = cc

lines-screens : (p : List ℕ) (width : ℕ) → IsUtf8 p → (is : List (ℕ × ℕ)) → AllByRecursion (IsLine (plain p) width) is
    → map (λ (i : ℕ × ℕ). screen_by (slice_range (styled p) i.0 i.1) (slice_range (linked p) i.0 i.1)) is ≡ map (columns_over p) is
lines-screens p width utf8 [] all = refl
lines-screens p width utf8 (i ∷ is) all = ap₂ (λ c cs. c ∷ cs) (line-screen p width i utf8 all.0) (lines-screens p width utf8 is all.1)

pub wrapped-screens : (t : List ℕ) (width : ℕ) → IsUtf8 t → IsTrue (is_safe Keep (paragraph t))
    → map (λ (l : CarriedPart). screen l.bytes) (wrapped t width) ≡ map (columns_over (paragraph t)) (lines width (plain (paragraph t)))
wrapped-screens t width text_utf8 safe =
    let p = paragraph t in
    let utf8 = IsUtf8-paragraph t text_utf8 in
    let is = lines width (plain p) in
    each (wrapped t width)
    ∙ zipped screen_by (λ (l : CarriedPart). styled l.bytes) (λ (l : CarriedPart). linked l.bytes) (λ (i : ℕ × ℕ). slice_range (styled p) i.0 i.1) (λ (i : ℕ × ℕ). slice_range (linked p) i.0 i.1)
    (wrapped t width) is (wrapped-styled t width safe) (wrapped-linked t width safe)
    ∙ lines-screens p width utf8 is (recursion_from_All (IsLine (plain p) width) is (lines_are (plain p) width))
  where
    each : (ls : List CarriedPart) → map (λ (l : CarriedPart). screen l.bytes) ls ≡ map (λ (l : CarriedPart). screen_by (styled l.bytes) (linked l.bytes)) ls
    each [] = refl
    each (l ∷ ls) = ap₂ (λ c cs. c ∷ cs) (screen-by l.bytes) (each ls)

-- What rows show: their columns, one row after another if a cluster ends where they meet.
use Rattle.std.proofs.Common.{◌≡◌, ℕ, zero, suc, List, [], ◌∷◌, ◌++◌, length, map, take, replicate, IsTrue, refl, sym, ◌∙◌, ap, subst}
use Rattle.std.specs.Str.{IsUtf8, byte}
use Rattle.std.proofs.lemmas.List.{length-map, map-append, take-map}
use Rattle.ansi_items.specs.Plain.{plain, is_whole}
use Rattle.ansi_style.specs.Rendition.{plain_style}
use Rattle.ansi_style.specs.Styled.{StyledByte, styled, unstyled}
use Rattle.ansi_style.proofs.StyledLemmas.{styled_byte, unstyled-styled}
use Rattle.ansi_cells.specs.Addresses.{linked}
use Rattle.ansi_clusters.specs.Columns.{clusters, columns, bytes_of, IsClusterBoundary, fitting_end}
use Rattle.ansi_cells.specs.Rows.{Row, row, row_bytes, row_width, row_screen, joined, blank_row, fitting_row, row_columns}
use Rattle.ansi_cells.specs.Screens.{screen_of, screen, screen_slice, plain_blank}
use Rattle.ansi_clusters.specs.Lines.{blanks}
use Rattle.ansi_cells.specs.Shown.{without_style}
use Rattle.ansi_cells.specs.Slices.{sliced_up_to}
use Rattle.ansi_cells.proofs.BreakLawLemmas.{clusters-add_up}
use Rattle.ansi_cells.proofs.LinkedLawLemmas.{linked_byte}
use Rattle.ansi_cells.proofs.RowLemmas.{bytes-row, screen-row, row-columns}
use Rattle.ansi_columns.proofs.ScreenLawLemmas.{front-screen}
use Rattle.ansi_cells.proofs.ScreenLemmas.{screen-blanks, screen_of-both, clusters-blanks}
use Rattle.ansi_cells.proofs.ShownLawLemmas.{bytes_of-clusters, fitting_end-is}
use Rattle.ansi_cells.proofs.SliceScreenLemmas.{slice-screen}

abbrev byte_of : StyledByte → ℕ
byte_of b = b.byte

pub joined-screen : (r s : Row) → length r.linked ≡ length r.styled → IsUtf8 (row_bytes r) → IsUtf8 (row_bytes s) → IsClusterBoundary (row_bytes (joined r s)) (length (row_bytes r)) → row_screen (joined r s) ≡ row_screen r ++ row_screen s
joined-screen r s same utf8 rest at =
    let x = row_bytes r in
    let y = row_bytes s in
    let spelled : row_bytes (joined r s) ≡ x ++ y = map-append byte_of r.styled s.styled in
    let size : length r.styled ≡ bytes_of (clusters x) = sym (length-map r.styled byte_of) ∙ sym (bytes_of-clusters x utf8) in
    ap (λ ks. screen_of ks (r.styled ++ s.styled) (r.linked ++ s.linked)) (ap clusters spelled ∙ clusters-add_up x y utf8 rest (subst (λ z. IsClusterBoundary z (length x)) spelled at))
    ∙ screen_of-both (clusters x) (clusters y) r.styled s.styled r.linked s.linked size (same ∙ size)

-- the front that fits

up_to : (t : List ℕ) (end : ℕ) → unstyled (take end (styled t)) ≡ take end (plain t)
up_to t end = sym (take-map byte_of end (styled t)) ∙ ap (take end) (unstyled-styled t)

pub fitting-screen : (t : List ℕ) (width : ℕ) → IsUtf8 t → row_screen (fitting_row width (row t)) ≡ take (row_width (fitting_row width (row t))) (screen t)
fitting-screen t width utf8 =
    let fits = fitting_end-is (plain t) width in
    let end = fitting_end width (clusters (row_bytes (row t))) in
    let is : end ≡ bytes_of (take fits.count (clusters (plain t))) = ap (λ x. fitting_end width (clusters x)) (bytes-row t) ∙ fits.boundary in
    ap (λ x. screen_of (clusters x) (take end (styled t)) (take end (linked t))) (up_to t end)
    ∙ ap (λ n. screen_of (clusters (take n (plain t))) (take n (styled t)) (take n (linked t))) is
    ∙ front-screen t fits.count utf8
    ∙ ap (λ n. take (columns (take n (plain t))) (screen t)) (sym is)
    ∙ ap (λ x. take (columns x) (screen t)) (sym (up_to t end))

-- columns of a text

pub columns-screen : (t : List ℕ) (start end : ℕ) → IsUtf8 t → IsTrue (is_whole t) → row_screen (row_columns start end (row t)) ≡ screen_slice start end (screen t)
columns-screen t start end utf8 whole = ap row_screen (sym (row-columns t start end utf8 whole)) ∙ sym (screen-row (sliced_up_to t start end)) ∙ slice-screen t start end utf8 whole

-- blanks

blank_bytes : (n : ℕ) → unstyled (without_style (blanks n)) ≡ blanks n
blank_bytes zero = refl
blank_bytes (suc n) = ap (λ x. byte " " ∷ x) (blank_bytes n)

pub blanks-screen : (n : ℕ) → row_screen (blank_row n) ≡ replicate n plain_blank
blanks-screen n =
    ap (λ ks. screen_of ks (map (styled_byte plain_style) (blanks n)) (map (linked_byte []) (blanks n))) (ap clusters (blank_bytes n) ∙ clusters-blanks n)
    ∙ screen-blanks n (styled_byte plain_style) (linked_byte [])

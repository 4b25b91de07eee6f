-- The screen of a slice is the slice of the screen.
use Rattle.std.proofs.Common.{◌≡◌, ℕ, zero, suc, ◌+◌, ◌-◌, ◌<◌, ◌≤◌, ◌⊎◌, min, inl, inr, List, [], ◌∷◌, ◌++◌, length, map, take, drop, replicate, slice_index, encode_utf8_all, refl, sym, ◌∙◌, ap, ap₂, arith, append_assoc, append-nil, length-append}
use Rattle.std.specs.List.{range_with_len}
use Rattle.std.specs.Str.{byte, chars}
use Rattle.std.proofs.lemmas.Bool.{cases_lt}
use Rattle.std.proofs.lemmas.Bool.Decides.{nat_tests}
use Rattle.std.proofs.lemmas.Str.{chars-IsAscii}
use Rattle.std.proofs.lemmas.Str.Ascii.{IsAscii-from_all}
use Rattle.std.proofs.lemmas.List.{drop-drop, drop_at, take_at, length-map, length-replicate, take-take}
use Rattle.std.proofs.lemmas.List.Sums.{sum_by-cons}
use Rattle.ansi_items.specs.Plain.{plain}
use Rattle.ansi_style.specs.Rendition.{known}
use Rattle.ansi_style.specs.Styled.{StyledByte, styled, style_at}
use Rattle.ansi_style.proofs.StyledLemmas.{styled_byte, unstyled-styled}
use Rattle.ansi_safe.specs.Links.{link_at}
use Rattle.ansi_cells.specs.Addresses.{LinkedByte, linked}
use Rattle.ansi_cells.proofs.LinkedLawLemmas.{linked_byte}
use Rattle.ansi_clusters.specs.Columns.{clusters, cluster_width, columns_of, bytes_of}
use Rattle.ansi_clusters.specs.Lines.{blanks}
use Rattle.ansi_clusters.specs.Walks.{clusters_after}
use Rattle.ansi_clusters.proofs.AsciiLemmas.{width-single, All-printable_is_ascii}
use Rattle.ansi_cells.proofs.SeamLemmas.{blanks-alone}
use Rattle.ansi_cells.proofs.ShownLawLemmas.{blanks_are_printable}
use Rattle.ansi_cells.specs.Screens.{Column, cluster_columns, screen_of, blank_for, shown_in, shown_from}
use Rattle.ansi_cells.specs.Slices.{ended, begun}
use Rattle.ansi_cells.proofs.EdgeLemmas.{bytes_of-append, cluster_width-bound, begun-divided, begun-pass, ended-stop, ended-pass, Stops}

-- ---- the columns of clusters, one after another

abbrev column : List StyledByte → List LinkedByte → ℕ → ℕ → Column
column ss ls w i = record { styled = ss; linked = ls; index = i; width = w }

abbrev part : List StyledByte → List LinkedByte → ℕ → ℕ → ℕ → List Column
part ss ls w j n = map (column ss ls w) (range_with_len j n)

length-part : (ss : List StyledByte) (ls : List LinkedByte) (w j n : ℕ) → length (part ss ls w j n) ≡ n
length-part ss ls w j zero = refl
length-part ss ls w j (suc n) = ap suc (length-part ss ls w (j + 1) n)

part-split : (ss : List StyledByte) (ls : List LinkedByte) (w j n m : ℕ) → part ss ls w j (n + m) ≡ part ss ls w j n ++ part ss ls w (j + n) m
part-split ss ls w j zero m =
    let here : j ≡ j + 0 = omega arith in
    let size : zero + m ≡ m = omega arith in
    ap (part ss ls w j) size ∙ ap (λ i. part ss ls w i m) here
part-split ss ls w j (suc n) m =
    let here : j + 1 + n ≡ j + suc n = omega arith in
    let size : suc n + m ≡ suc (n + m) = omega arith in
    ap (part ss ls w j) size ∙ ap (λ cs. column ss ls w j ∷ cs) (part-split ss ls w (j + 1) n m ∙ ap (λ i. part ss ls w (j + 1) n ++ part ss ls w i m) here)

pub length-styled : (t : List ℕ) → length (styled t) ≡ length (plain t)
length-styled t = sym (length-map (styled t) (λ (c : StyledByte). c.byte)) ∙ ap length (unstyled-styled t)

pub length-linked : (t : List ℕ) → length (linked t) ≡ length (plain t)
length-linked t =
    let x = plain t in
    let r = range_with_len 0 (length x) in
    length-map r _ ∙ sym (length-map r (λ i. record { byte = slice_index x i; style = known (style_at t i) })) ∙ length-styled t

pub length-screen_of : (ks : List (List ℕ)) (ss : List StyledByte) (ls : List LinkedByte) → length (screen_of ks ss ls) ≡ columns_of ks
length-screen_of [] ss ls = refl
length-screen_of (k ∷ ks) ss ls =
    let n = length (encode_utf8_all k) in
    length-append (cluster_columns (take n ss) (take n ls) (cluster_width k)) (screen_of ks (drop n ss) (drop n ls))
    ∙ ap₂ (λ i j. i + j) (length-part (take n ss) (take n ls) (cluster_width k) 0 (cluster_width k)) (length-screen_of ks (drop n ss) (drop n ls))
    ∙ sym (sum_by-cons cluster_width k ks)

pub screen_of-append : (ks ms : List (List ℕ)) (ss : List StyledByte) (ls : List LinkedByte) → screen_of (ks ++ ms) ss ls ≡ screen_of ks ss ls ++ screen_of ms (drop (bytes_of ks) ss) (drop (bytes_of ks) ls)
screen_of-append [] ms ss ls = refl
screen_of-append (k ∷ ks) ms ss ls =
    let n = length (encode_utf8_all k) in
    let first = cluster_columns (take n ss) (take n ls) (cluster_width k) in
    let size : bytes_of ks + n ≡ bytes_of (k ∷ ks) = omega (arith, bytes_of-append (k ∷ []) ks, length-append (encode_utf8_all k) []) in
    ap (λ cs. first ++ cs) (
    screen_of-append ks ms (drop n ss) (drop n ls)
    ∙ ap₂ (λ s l. screen_of ks (drop n ss) (drop n ls) ++ screen_of ms s l) (drop-drop (bytes_of ks) n ss ∙ ap (λ m. drop m ss) (omega (arith, size))) (drop-drop (bytes_of ks) n ls ∙ ap (λ m. drop m ls) (omega (arith, size))))
    ∙ sym (append_assoc first (screen_of ks (drop n ss) (drop n ls)) (screen_of ms (drop (bytes_of (k ∷ ks)) ss) (drop (bytes_of (k ∷ ks)) ls)))

-- only their bytes count
drop-take : {A : Type 0} (n m : ℕ) (xs : List A) → drop n (take m xs) ≡ take (m - n) (drop n xs)
drop-take zero m xs = (let all : m ≡ m - 0 = omega arith in ap (λ k. take k xs) all)
drop-take (suc n) zero [] = (let none : zero ≡ zero - suc n = omega arith in ap (λ k. take k []) none)
drop-take {A} (suc n) (suc m) [] = sym (take-none (suc m - suc n))
  where
    take-none : (k : ℕ) → take {A = A} k [] ≡ []
    take-none zero = refl
    take-none (suc k) = refl
drop-take (suc n) zero (x ∷ xs) = (let none : zero ≡ zero - suc n = omega arith in ap (λ k. take k (drop n xs)) none)
drop-take (suc n) (suc m) (x ∷ xs) = (let less : m - n ≡ suc m - suc n = omega arith in drop-take n m xs ∙ ap (λ k. take k (drop n xs)) less)

pub screen_of-take : (ks : List (List ℕ)) (ss : List StyledByte) (ls : List LinkedByte) (m : ℕ) → bytes_of ks ≤ m → screen_of ks (take m ss) (take m ls) ≡ screen_of ks ss ls
screen_of-take [] ss ls m within = refl
screen_of-take (k ∷ ks) ss ls m within =
    let n = length (encode_utf8_all k) in
    let size : bytes_of (k ∷ ks) ≡ n + bytes_of ks = omega (arith, bytes_of-append (k ∷ []) ks, length-append (encode_utf8_all k) []) in
    let fits : n ≤ m = omega (arith, within, size) in
    ap₂ (λ s l. cluster_columns s l (cluster_width k) ++ screen_of ks (drop n (take m ss)) (drop n (take m ls))) (take-take n m ss fits) (take-take n m ls fits)
    ∙ ap₂ (λ s l. cluster_columns (take n ss) (take n ls) (cluster_width k) ++ screen_of ks s l) (drop-take n m ss) (drop-take n m ls)
    ∙ ap (λ cs. cluster_columns (take n ss) (take n ls) (cluster_width k) ++ cs) (screen_of-take ks (drop n ss) (drop n ls) (m - n) (omega (arith, within, size)))

-- ---- what a slice shows of columns

module _ (a b : ℕ) where
  pub shown_from-append : (i : ℕ) (xs ys : List Column) → shown_from a b i (xs ++ ys) ≡ shown_from a b i xs ++ shown_from a b (i + length xs) ys
  shown_from-append i [] ys = (let here : i ≡ i + 0 = omega arith in ap (λ j. shown_from a b j ys) here)
  shown_from-append i (x ∷ xs) ys =
      let here : i + 1 + length xs ≡ i + suc (length xs) = omega arith in
      ap (λ cs. shown_in a b i x ++ cs) (shown_from-append (i + 1) xs ys ∙ ap (λ j. shown_from a b (i + 1) xs ++ shown_from a b j ys) here)
      ∙ sym (append_assoc (shown_in a b i x) (shown_from a b (i + 1) xs) (shown_from a b (i + suc (length xs)) ys))

  -- outside of the slice

  pub shown_in-early : (i : ℕ) (c : Column) → i < a → shown_in a b i c ≡ []
  shown_in-early i c early = grind (arith, nat_tests)

  pub shown_in-late : (i : ℕ) (c : Column) → b ≤ i → shown_in a b i c ≡ []
  shown_in-late i c late = grind (arith, nat_tests)

  pub shown_from-early : (i : ℕ) (xs : List Column) → i + length xs ≤ a → shown_from a b i xs ≡ []
  shown_from-early i [] early = refl
  shown_from-early i (x ∷ xs) early = ap₂ (λ u v. u ++ v) (shown_in-early i x (omega (arith, early))) (shown_from-early (i + 1) xs (omega (arith, early)))

  pub shown_from-late : (i : ℕ) (xs : List Column) → b ≤ i → shown_from a b i xs ≡ []
  shown_from-late i [] late = refl
  shown_from-late i (x ∷ xs) late = ap₂ (λ u v. u ++ v) (shown_in-late i x late) (shown_from-late (i + 1) xs (omega (arith, late)))

  module _ (ss : List StyledByte) (ls : List LinkedByte) (w c : ℕ) where
    -- a cluster from the column c on that is in the slice

    shown_in-whole : (j : ℕ) → a ≤ c → c + w ≤ b → j < w → shown_in a b (c + j) (column ss ls w j) ≡ column ss ls w j ∷ []
    shown_in-whole j from to inside = grind (arith, nat_tests)

    shown-whole : (j n : ℕ) → a ≤ c → c + w ≤ b → j + n ≤ w → shown_from a b (c + j) (part ss ls w j n) ≡ part ss ls w j n
    shown-whole j zero from to inside = refl
    shown-whole j (suc n) from to inside =
        let here : c + j + 1 ≡ c + (j + 1) = omega arith in
        ap₂ (λ u v. u ++ v) (shown_in-whole j from to (omega (arith, inside))) (ap (λ i. shown_from a b i (part ss ls w (j + 1) n)) here ∙ shown-whole (j + 1) n from to (omega (arith, inside)))

    -- one that an edge divides

    abbrev pub blank : Column
    blank = blank_for (column ss ls w 0)

    shown_in-divided : (j : ℕ) → (c < a) ⊎ (b < c + w) → a ≤ c + j → c + j < b → shown_in a b (c + j) (column ss ls w j) ≡ blank ∷ []
    shown_in-divided j (inl early) from to = grind (arith, nat_tests)
    shown_in-divided j (inr late) from to = grind (arith, nat_tests)

    shown-divided : (j n : ℕ) → (c < a) ⊎ (b < c + w) → a ≤ c + j → c + j + n ≤ b → shown_from a b (c + j) (part ss ls w j n) ≡ replicate n blank
    shown-divided j zero divided from to = refl
    shown-divided j (suc n) divided from to =
        let here : c + j + 1 ≡ c + (j + 1) = omega arith in
        ap₂ (λ u v. u ++ v) (shown_in-divided j divided from (omega (arith, to))) (ap (λ i. shown_from a b i (part ss ls w (j + 1) n)) here ∙ shown-divided (j + 1) n divided (omega (arith, from)) (omega (arith, to)))

    -- d of its columns are before the slice, p in it, and r after it
    pub shown-cut : (d p r : ℕ) → w ≡ d + (p + r) → (c < a) ⊎ (b < c + w) → (d ≡ 0) ⊎ (c + d ≡ a) → a ≤ c + d → c + d + p ≤ b → (r ≡ 0) ⊎ (b ≤ c + d + p) → shown_from a b c (cluster_columns ss ls w) ≡ replicate p blank
    shown-cut d p r size divided front from to back =
        let here : c ≡ c + 0 = omega arith in
        ap (λ n. shown_from a b c (part ss ls w 0 n)) size
        ∙ ap (shown_from a b c) (part-split ss ls w 0 d (p + r))
        ∙ shown_from-append c (part ss ls w 0 d) (part ss ls w (0 + d) (p + r))
        ∙ ap₂ (λ u v. u ++ v) (before front) (
        ap (λ i. shown_from a b (c + i) (part ss ls w (0 + d) (p + r))) (length-part ss ls w 0 d)
        ∙ ap (shown_from a b (c + d)) (ap (λ i. part ss ls w i (p + r)) (omega arith) ∙ part-split ss ls w d p r)
        ∙ shown_from-append (c + d) (part ss ls w d p) (part ss ls w (d + p) r)
        ∙ ap₂ (λ u v. u ++ v) (shown-divided d p divided from to) (ap (λ i. shown_from a b (c + d + i) (part ss ls w (d + p) r)) (length-part ss ls w d p) ∙ after back)
        ∙ append-nil (replicate p blank))
      where
        before : (d ≡ 0) ⊎ (c + d ≡ a) → shown_from a b c (part ss ls w 0 d) ≡ []
        before (inl none) = ap (λ n. shown_from a b c (part ss ls w 0 n)) none
        before (inr there) = shown_from-early c (part ss ls w 0 d) (omega (arith, there, length-part ss ls w 0 d))

        after : (r ≡ 0) ⊎ (b ≤ c + d + p) → shown_from a b (c + d + p) (part ss ls w (d + p) r) ≡ []
        after (inl none) = ap (λ n. shown_from a b (c + d + p) (part ss ls w (d + p) n)) none
        after (inr past) = shown_from-late (c + d + p) (part ss ls w (d + p) r) past

  -- clusters that are in the slice

  pub shown-all : (c : ℕ) (ks : List (List ℕ)) (ss : List StyledByte) (ls : List LinkedByte) → a ≤ c → c + columns_of ks ≤ b → shown_from a b c (screen_of ks ss ls) ≡ screen_of ks ss ls
  shown-all c [] ss ls from to = refl
  shown-all c (k ∷ ks) ss ls from to =
      let n = length (encode_utf8_all k) in
      let w = cluster_width k in
      let first = cluster_columns (take n ss) (take n ls) w in
      let rest = screen_of ks (drop n ss) (drop n ls) in
      let size = sum_by-cons cluster_width k ks in
      let here : c ≡ c + 0 = omega arith in
      shown_from-append c first rest
      ∙ ap₂ (λ u v. u ++ v) (ap (λ i. shown_from a b i first) here ∙ shown-whole (take n ss) (take n ls) w c 0 w from (omega (arith, to, size)) (omega arith))
      (ap (λ i. shown_from a b (c + i) rest) (length-part (take n ss) (take n ls) w 0 w) ∙ shown-all (c + w) ks (drop n ss) (drop n ls) (omega (arith, from)) (omega (arith, to, size)))

-- ---- a blank in the style and the link of the first byte

abbrev pub blank_of : List StyledByte → List LinkedByte → Column
blank_of ss ls = record {
  styled = map (λ (s : StyledByte). record s { byte = byte " " }) (take 1 ss);
  linked = map (λ (l : LinkedByte). record l { byte = byte " " }) (take 1 ls);
  index = 0;
  width = 1;
}

blank-taken : (ss : List StyledByte) (ls : List LinkedByte) (w n : ℕ) → 1 ≤ n → blank_for (column (take n ss) (take n ls) w 0) ≡ blank_of ss ls
blank-taken ss ls w n some =
    ap₂ (λ s l. record {
      styled = map (λ (c : StyledByte). record c { byte = byte " " }) s;
      linked = map (λ (c : LinkedByte). record c { byte = byte " " }) l;
      index = 0;
      width = 1;
    })
    (take-take 1 n ss some) (take-take 1 n ls some)

pub some_bytes : (k : List ℕ) → 0 < cluster_width k → 1 ≤ length (encode_utf8_all k)
some_bytes k some = omega (arith, some, cluster_width-bound k)

bytes_of-more : (k : List ℕ) (ks : List (List ℕ)) → bytes_of (k ∷ ks) ≡ length (encode_utf8_all k) + bytes_of ks
bytes_of-more k ks = omega (arith, bytes_of-append (k ∷ []) ks, length-append (encode_utf8_all k) [])

-- ---- the clusters that begin before a slice: blanks stand for the one that its edge divides

module _ (a b : ℕ) (ordered : a < b) where
  shown-nothing : (i : ℕ) (ks : List (List ℕ)) (ss : List StyledByte) (ls : List LinkedByte) (blank : Column) → i ≤ a → ks ≡ [] → shown_from a b i (screen_of ks ss ls) ≡ replicate (min (i + columns_of ks) b - a) blank
  shown-nothing i ks ss ls blank early none =
      let count : 0 ≡ min (i + columns_of ks) b - a = omega (arith, early, ap columns_of none) in
      ap (λ ms. shown_from a b i (screen_of ms ss ls)) none ∙ ap (λ n. replicate n blank) count

  pub shown-begun : (i m : ℕ) (ks : List (List ℕ)) (ss : List StyledByte) (ls : List LinkedByte) → a ≡ i + m
      → shown_from a b i (screen_of (begun m ks) ss ls) ≡ replicate (min (i + columns_of (begun m ks)) b - a) (blank_of (drop (bytes_of (ended m ks)) ss) (drop (bytes_of (ended m ks)) ls))
  shown-begun i m [] ss ls is = shown-nothing i [] ss ls (blank_of ss ls) (omega (arith, is)) refl
  shown-begun i m (k ∷ ks) ss ls is = elim (cases_lt 0 m) [
    | inr none ↦ (
        let zero_is : m ≡ 0 = omega (arith, none) in
        shown-nothing i (begun m (k ∷ ks)) ss ls (blank_of (drop (bytes_of (ended m (k ∷ ks))) ss) (drop (bytes_of (ended m (k ∷ ks))) ls)) (omega (arith, is)) (ap (λ j. begun j (k ∷ ks)) zero_is))
    | inl any ↦
        let w = cluster_width k in
        let n = length (encode_utf8_all k) in
        let first = cluster_columns (take n ss) (take n ls) w in
        elim (cases_lt m w) [
          | inl wide ↦
              let p = min (i + w) b - a in
              let begun_is = begun-divided m k ks any wide in
              let ended_is = ended-stop m k ks wide in
              let count : p ≡ min (i + columns_of (begun m (k ∷ ks))) b - a
              = ap (λ j. min (i + j) b - a) (sym (ap columns_of begun_is ∙ sum_by-cons cluster_width k [] ∙ omega arith)) in
              let back : (w - m - p ≡ 0) ⊎ (b ≤ i + m + p) = elim (cases_lt (i + w) b) [
                | inl inside ↦ inl (omega (arith, inside, is))
                | inr past ↦ inr (omega (arith, past, is, ordered))
              ] in
              ap (λ ms. shown_from a b i (screen_of ms ss ls)) begun_is
              ∙ ap (shown_from a b i) (append-nil first)
              ∙ shown-cut a b (take n ss) (take n ls) w i m p (w - m - p) (omega (arith, wide, is)) (inl (omega (arith, is, any))) (inr (sym is)) (omega (arith, is)) (omega (arith, is, wide, ordered)) back
              ∙ ap (replicate p) (blank-taken ss ls w n (some_bytes k (omega (arith, wide))))
              ∙ ap₂ (λ c j. replicate c (blank_of (drop j ss) (drop j ls))) count (sym (ap bytes_of ended_is))
          | inr fits ↦
              let rest = screen_of (begun (m - w) ks) (drop n ss) (drop n ls) in
              let begun_is = begun-pass m k ks any in
              let ended_is = ended-pass m k ks any fits in
              let size = length-part (take n ss) (take n ls) w 0 w in
              let place : n + bytes_of (ended (m - w) ks) ≡ bytes_of (ended m (k ∷ ks)) = sym (ap bytes_of ended_is ∙ bytes_of-more k (ended (m - w) ks)) in
              let wide = ap columns_of begun_is ∙ sum_by-cons cluster_width k (begun (m - w) ks) in
              let count : min (i + w + columns_of (begun (m - w) ks)) b - a ≡ min (i + columns_of (begun m (k ∷ ks))) b - a
              = ap (λ j. min j b - a) (omega (arith, wide)) in
              let styled_skip : drop (bytes_of (ended (m - w) ks)) (drop n ss) ≡ drop (bytes_of (ended m (k ∷ ks))) ss
              = drop-drop (bytes_of (ended (m - w) ks)) n ss ∙ ap (λ j. drop j ss) (omega (arith, place)) in
              let linked_skip : drop (bytes_of (ended (m - w) ks)) (drop n ls) ≡ drop (bytes_of (ended m (k ∷ ks))) ls
              = drop-drop (bytes_of (ended (m - w) ks)) n ls ∙ ap (λ j. drop j ls) (omega (arith, place)) in
              ap (λ ms. shown_from a b i (screen_of ms ss ls)) begun_is
              ∙ shown_from-append a b i first rest
              ∙ ap₂ (λ u v. u ++ v) (shown_from-early a b i first (omega (arith, size, fits, is)))
              (ap (λ j. shown_from a b (i + j) rest) size ∙ shown-begun (i + w) (m - w) ks (drop n ss) (drop n ls) (omega (arith, is, fits)))
              ∙ ap₂ replicate count (ap₂ blank_of styled_skip linked_skip)
        ]
  ]

  -- the clusters after it

  pub shown-after : (c left : ℕ) (ks : List (List ℕ)) (ss : List StyledByte) (ls : List LinkedByte) → b ≡ c + left → a ≤ c → Stops left ks → shown_from a b c (screen_of ks ss ls) ≡ replicate left (blank_of ss ls)
  shown-after c left ks ss ls is from (inl none) = shown_from-late a b c (screen_of ks ss ls) (omega (arith, is, none)) ∙ ap (λ n. replicate n (blank_of ss ls)) (sym none)
  shown-after c left ks ss ls is from (inr stops) =
      let k = stops.0 in
      let ms = stops.1 in
      let wide : left < cluster_width k = stops.3 in
      let n = length (encode_utf8_all k) in
      let w = cluster_width k in
      let first = cluster_columns (take n ss) (take n ls) w in
      let rest = screen_of ms (drop n ss) (drop n ls) in
      ap (λ r. shown_from a b c (screen_of r ss ls)) stops.2
      ∙ shown_from-append a b c first rest
      ∙ ap₂ (λ u v. u ++ v)
      (shown-cut a b (take n ss) (take n ls) w c 0 left (w - left) (omega (arith, wide)) (inr (omega (arith, wide, is))) (inl refl) (omega (arith, from)) (omega (arith, is)) (inr (omega (arith, is)))
      ∙ ap (replicate left) (blank-taken ss ls w n (some_bytes k (omega (arith, wide)))))
      (shown_from-late a b (c + length first) rest (omega (arith, is, wide, length-part (take n ss) (take n ls) w 0 w)))
      ∙ append-nil (replicate left (blank_of ss ls))

-- ---- blanks of a slice, with what is seen of them

width-blank : cluster_width (byte " " ∷ []) ≡ 1
width-blank = width-single (byte " ") refl

pub bytes_of-blanks : (n : ℕ) → bytes_of (replicate n (byte " " ∷ [])) ≡ n
unfolding lib.Utf8.encode
bytes_of-blanks zero = refl
bytes_of-blanks (suc n) = bytes_of-more (byte " " ∷ []) (replicate n (byte " " ∷ [])) ∙ ap (λ m. 1 + m) (bytes_of-blanks n) ∙ omega arith

pub screen-blanks : (n : ℕ) (f : ℕ → StyledByte) (g : ℕ → LinkedByte)
    → screen_of (replicate n (byte " " ∷ [])) (map f (blanks n)) (map g (blanks n)) ≡ replicate n (record { styled = f (byte " ") ∷ []; linked = g (byte " ") ∷ []; index = 0; width = 1 })
unfolding lib.Utf8.encode
screen-blanks zero f g = refl
screen-blanks (suc n) f g =
    ap (λ w. cluster_columns (f (byte " ") ∷ []) (g (byte " ") ∷ []) w ++ screen_of (replicate n (byte " " ∷ [])) (map f (blanks n)) (map g (blanks n))) width-blank
    ∙ ap (λ cs. record { styled = f (byte " ") ∷ []; linked = g (byte " ") ∷ []; index = 0; width = 1 } ∷ cs) (screen-blanks n f g)

-- the screen of two texts in a row
pub screen_of-both : (ks ms : List (List ℕ)) (ss ss' : List StyledByte) (ls ls' : List LinkedByte) → length ss ≡ bytes_of ks → length ls ≡ bytes_of ks
    → screen_of (ks ++ ms) (ss ++ ss') (ls ++ ls') ≡ screen_of ks ss ls ++ screen_of ms ss' ls'
screen_of-both ks ms ss ss' ls ls' styled_size linked_size =
    screen_of-append ks ms (ss ++ ss') (ls ++ ls')
    ∙ ap₂ (λ u v. u ++ v)
    (sym (screen_of-take ks (ss ++ ss') (ls ++ ls') (bytes_of ks) (omega arith)) ∙ ap₂ (screen_of ks) (take_at ss ss' (bytes_of ks) styled_size) (take_at ls ls' (bytes_of ks) linked_size))
    (ap₂ (screen_of ms) (drop_at ss ss' (bytes_of ks) styled_size) (drop_at ls ls' (bytes_of ks) linked_size))

-- the screen of a text between blanks
pub screen-between : (p q : ℕ) (ks : List (List ℕ)) (f f' : ℕ → StyledByte) (g g' : ℕ → LinkedByte) (ss : List StyledByte) (ls : List LinkedByte) → length ss ≡ bytes_of ks → length ls ≡ bytes_of ks
    → screen_of (replicate p (byte " " ∷ []) ++ (ks ++ replicate q (byte " " ∷ []))) (map f (blanks p) ++ (ss ++ map f' (blanks q))) (map g (blanks p) ++ (ls ++ map g' (blanks q)))
    ≡ replicate p (record { styled = f (byte " ") ∷ []; linked = g (byte " ") ∷ []; index = 0; width = 1 })
    ++ (screen_of ks ss ls ++ replicate q (record { styled = f' (byte " ") ∷ []; linked = g' (byte " ") ∷ []; index = 0; width = 1 }))
screen-between p q ks f f' g g' ss ls styled_size linked_size =
    let first = replicate p (byte " " ∷ []) in
    let last = replicate q (byte " " ∷ []) in
    let front : length (map f (blanks p)) ≡ bytes_of first = length-map (blanks p) f ∙ length-replicate p (byte " ") ∙ sym (bytes_of-blanks p) in
    let linked_front : length (map g (blanks p)) ≡ bytes_of first = length-map (blanks p) g ∙ length-replicate p (byte " ") ∙ sym (bytes_of-blanks p) in
    screen_of-both first (ks ++ last) (map f (blanks p)) (ss ++ map f' (blanks q)) (map g (blanks p)) (ls ++ map g' (blanks q)) front linked_front
    ∙ ap₂ (λ u v. u ++ v) (screen-blanks p f g)
    (screen_of-both ks last ss (map f' (blanks q)) ls (map g' (blanks q)) styled_size linked_size ∙ ap (λ cs. screen_of ks ss ls ++ cs) (screen-blanks q f' g'))

pub chars-blanks : (n : ℕ) → chars (blanks n) ≡ blanks n
chars-blanks n = chars-IsAscii (blanks n) (IsAscii-from_all (blanks n) (All-printable_is_ascii (blanks n) (blanks_are_printable n)))

pub clusters-blanks : (n : ℕ) → clusters (blanks n) ≡ replicate n (byte " " ∷ [])
clusters-blanks n = ap (clusters_after []) (chars-blanks n) ∙ blanks-alone n []

-- ---- the byte at a place

range-at : {A : Type 0} (f : ℕ → A) (j k n : ℕ) → k < n → take 1 (drop k (map f (range_with_len j n))) ≡ f (j + k) ∷ []
range-at f j k zero within = absurd (omega (arith, within))
range-at f j zero (suc n) within = (let here : j ≡ j + zero = omega arith in ap (λ i. f i ∷ []) here)
range-at f j (suc k) (suc n) within = (let here : j + 1 + k ≡ j + suc k = omega arith in range-at f (j + 1) k n (omega (arith, within)) ∙ ap (λ i. f i ∷ []) here)

pub blank-at : (t : List ℕ) (i : ℕ) → i < length (plain t)
    → blank_of (drop i (styled t)) (drop i (linked t)) ≡ record { styled = styled_byte (style_at t i) (byte " ") ∷ []; linked = linked_byte (link_at t i) (byte " ") ∷ []; index = 0; width = 1 }
blank-at t i within =
    let x = plain t in
    ap₂ (λ s l. record {
      styled = map (λ (c : StyledByte). record c { byte = byte " " }) s;
      linked = map (λ (c : LinkedByte). record c { byte = byte " " }) l;
      index = 0;
      width = 1;
    })
    (range-at (λ j. record { byte = slice_index x j; style = known (style_at t j) }) 0 i (length x) within ∙ ap (λ j. record { byte = slice_index x j; style = known (style_at t j) } ∷ []) (omega arith))
    (range-at (λ j. record { byte = slice_index x j; link = link_at t j }) 0 i (length x) within ∙ ap (λ j. record { byte = slice_index x j; link = link_at t j } ∷ []) (omega arith))

-- The screen of a slice is the slice of the screen.
use Rattle.std.proofs.Common.{◌≡◌, ℕ, zero, suc, ◌+◌, ◌-◌, ◌<◌, ◌≤◌, ◌⊎◌, min, inl, inr, true, false, ◌||◌, List, [], ◌∷◌, ◌++◌, length, map, take, drop, replicate, slice_range, encode_utf8_all, nat_le, nat_lt, Some, None, if◌then◌else◌, IsTrue, refl, sym, ◌∙◌, ap, ap₂, subst, arith, append_assoc, append-nil, length-append}
use Rattle.std.specs.List.{concat}
use Rattle.std.specs.Str.{IsUtf8, byte, chars}
use Rattle.std.proofs.lemmas.Bool.{cases_lt, cases_Bool, leb-true, leb-false, or_parts, lt-ltb, le-ltb, lt-leb, ne_eqb}
use Rattle.std.proofs.lemmas.List.{drop-drop, map-append, length-drop, length-take-le}
use Rattle.std.proofs.lemmas.List.Sums.{sum_by-append}
use Rattle.std.proofs.lemmas.Str.{chars-append, IsUtf8-take, IsUtf8-drop}
use Rattle.ansi_items.specs.Plain.{plain, marks, marks_up_to, is_whole}
use Rattle.ansi_items.proofs.Utf8Lemmas.{IsUtf8-plain}
use Rattle.ansi_style.specs.Styled.{StyledByte, styled, style_at}
use Rattle.ansi_style.specs.declared.state.rendition.Rendition.{Rendition}
use Rattle.ansi_style.specs.Rendition.{plain_style}
use Rattle.ansi_style.specs.Sgr.{apply}
use Rattle.ansi_style.proofs.MarkLemmas.{state_after}
use Rattle.ansi_style.proofs.StyledLemmas.{styled_byte, unstyled-styled}
use Rattle.ansi_slice.proofs.ShownLemmas.{at_places}
use Rattle.ansi_split.proofs.PartSliceLemmas.{earlier_places}
use Rattle.ansi_safe.specs.Links.{link_at, link_after}
use Rattle.ansi_safe.proofs.LinkLemmas.{link_of-fold}
use Rattle.ansi_cells.specs.Addresses.{LinkedByte, linked}
use Rattle.ansi_clusters.specs.Columns.{clusters, cluster_width, columns, columns_of, bytes_of}
use Rattle.ansi_clusters.specs.Lines.{blanks}
use Rattle.ansi_cells.specs.Slices.{ended, begun, has_no_column, column_place, bytes_from, bytes_up_to, blanks_before, blanks_after, opened_at, sliced_up_to}
use Rattle.ansi_cells.specs.Rows.{row, joined, row_range, copies, blanks_like}
use Rattle.ansi_cells.specs.Screens.{Column, screen_of, screen, shown_in, shown_from, screen_slice}
use Rattle.ansi_clusters.proofs.LineLawLemmas.{boundary_between}
use Rattle.ansi_cells.proofs.LinkedLawLemmas.{linked_byte, linked-pieces}
use Rattle.ansi_cells.proofs.ShownLawLemmas.{bytes_of-clusters, IsUtf8-blanks}
use Rattle.ansi_cells.proofs.SliceLemmas.{sliced-nothing}
use Rattle.ansi_cells.proofs.SliceLawLemmas.{slice_styled, slice_linked}
use Rattle.ansi_cells.proofs.EdgeLemmas.{bytes_of-append, ended-within, ended-bytes, ended-front, begun-covers, begun-front, begun-ended, begun-last, Stops, ended-stops, ended-inside, begun-wider}
use Rattle.ansi_cells.proofs.SeamLemmas.{Starts, Ends, concat-clusters, concat-append, Starts-part, Starts-after, Ends-before_part, clusters-among_blanks}
use Rattle.ansi_clusters.specs.Walks.{clusters_after}
use Rattle.ansi_cells.proofs.PartLemmas.{clusters-rest, clusters-part, map-slice_range}
use Rattle.ansi_cells.proofs.ScreenLemmas.{chars-blanks, length-styled, length-linked, length-screen_of, screen_of-append, screen_of-take, shown_from-append, shown_from-late, shown_from-early, shown_in-early, shown_in-late, shown-all, some_bytes, screen-between, clusters-blanks, blank_of, shown-begun, shown-after, blank-at}

-- the clusters of a text: those before a slice, with the one that its first edge divides; those that stay; and the others
pub record AreDivided (x : List ℕ) (a b : ℕ) : Type 0 where
  pub middle : List (List ℕ)
  pub rest : List (List ℕ)
  pub all : clusters x ≡ begun a (clusters x) ++ (middle ++ rest)
  pub size : bytes_up_to x b - bytes_from x a ≡ bytes_of middle
  pub shown : (middle ≡ []) ⊎ (columns_of (begun a (clusters x)) + columns_of middle ≤ b)
  pub after : ((b ≡ columns_of (begun a (clusters x)) + columns_of middle + blanks_after x a b) × Stops (blanks_after x a b) rest × (bytes_of (begun a (clusters x)) + bytes_of middle ≡ bytes_up_to x b))
      ⊎ ((blanks_after x a b ≡ 0) × ((rest ≡ []) ⊎ (b ≤ columns_of (begun a (clusters x)) + columns_of middle)))

module _ (x : List ℕ) (a b : ℕ) (utf8 : IsUtf8 x) (some : has_no_column x a b ≡ false) where
  abbrev ks : List (List ℕ)
  ks = clusters x

  abbrev first : List (List ℕ)
  first = begun a ks

  pub ordered : a < b
  ordered = leb-false b a (or_parts (nat_le b a) (nat_le (columns x) a) some).0

  pub wide : a < columns x
  wide = leb-false (columns x) a (or_parts (nat_le b a) (nat_le (columns x) a) some).1

  divided-end : nat_le (columns x) b ≡ true → AreDivided x a b
  divided-end past =
      let middle = drop (length first) ks in
      let front = begun-front a ks in
      let end : bytes_up_to x b ≡ length x = ap (λ c. if c then length x else column_place x b) past in
      let within : columns x ≤ b = leb-true (columns x) b past in
      record {
        middle = middle;
        rest = [];
        all = front ∙ ap (λ ls. first ++ ls) (sym (append-nil middle));
        size = omega (arith, end, bytes_of-clusters x utf8, ap bytes_of front, bytes_of-append first middle);
        shown = inr (omega (arith, within, ap columns_of front, sum_by-append cluster_width first middle));
        after = inr (ap (λ c. if c || nat_lt (column_place x b) (bytes_from x a) then 0 else b - columns_of (ended b ks)) past, inl refl);
      }

  module _ (part : nat_le (columns x) b ≡ false) where
    end : bytes_up_to x b ≡ column_place x b
    end = ap (λ c. if c then length x else column_place x b) part

    divided-inside : column_place x b < bytes_from x a → AreDivided x a b
    divided-inside inside = record {
      middle = [];
      rest = drop (length first) ks;
      all = begun-front a ks;
      size = omega (arith, end, inside);
      shown = inl refl;
      after = inr (
        ap₂ (λ c d. if c || d then 0 else b - columns_of (ended b ks)) part (lt-ltb (column_place x b) (bytes_from x a) inside),
        inr (omega (arith, ended-inside a b ks (omega (arith, ordered)) inside)),
      );
    }

    divided-apart : bytes_from x a ≤ column_place x b → AreDivided x a b
    divided-apart apart =
        let es = ended b ks in
        let middle = drop (length first) es in
        let rest = drop (length es) ks in
        let split : es ≡ first ++ middle = begun-ended a b ks (omega (arith, ordered)) apart in
        let front = ended-front b ks in
        let left : blanks_after x a b ≡ b - columns_of es = ap₂ (λ c d. if c || d then 0 else b - columns_of es) part (le-ltb (column_place x b) (bytes_from x a) apart) in
        let bytes = ap bytes_of split ∙ bytes_of-append first middle in
        let wide_is = ap columns_of split ∙ sum_by-append cluster_width first middle in
        let total : b < columns x = leb-false (columns x) b part in
        let more : 0 < columns_of rest = omega (arith, total, ended-within b ks, ap columns_of front, sum_by-append cluster_width es rest) in
        record {
          middle = middle;
          rest = rest;
          all = front ∙ ap (λ ls. ls ++ rest) split ∙ append_assoc first middle rest;
          size = omega (arith, end, bytes);
          shown = inr (omega (arith, wide_is, ended-within b ks));
          after = inl (
            omega (arith, left, wide_is, ended-within b ks),
            subst (λ n. Stops n rest) (sym left) (ended-stops b ks more),
            omega (arith, end, bytes),
          );
        }

  pub divided : AreDivided x a b
  divided = elim (cases_Bool (nat_le (columns x) b)) [
    | inl past ↦ divided-end past
    | inr part ↦ elim (cases_lt (column_place x b) (bytes_from x a)) [
      | inl inside ↦ divided-inside part inside
      | inr apart ↦ divided-apart part apart
    ]
  ]

  -- what the slice of a screen shows

  module _ (ss : List StyledByte) (ls : List LinkedByte) where
    abbrev middle : List (List ℕ)
    middle = divided.middle

    abbrev rest : List (List ℕ)
    rest = divided.rest

    abbrev n : ℕ
    n = bytes_of first

    abbrev inner : List Column
    inner = screen_of middle (drop n ss) (drop n ls)

    abbrev outer : List Column
    outer = screen_of rest (drop (bytes_of middle) (drop n ss)) (drop (bytes_of middle) (drop n ls))

    shown-inner : shown_from a b (columns_of first) inner ≡ inner
    shown-inner = by_case divided.shown
      where
        by_case : (middle ≡ []) ⊎ (columns_of first + columns_of middle ≤ b) → shown_from a b (columns_of first) inner ≡ inner
        by_case (inl none) = ap (λ ms. shown_from a b (columns_of first) (screen_of ms (drop n ss) (drop n ls))) none ∙ sym (ap (λ ms. screen_of ms (drop n ss) (drop n ls)) none)
        by_case (inr within) = shown-all a b (columns_of first) middle (drop n ss) (drop n ls) (begun-covers a ks (omega (arith, wide))) within

    abbrev last_blank : Column
    last_blank = blank_of (drop (bytes_up_to x b) ss) (drop (bytes_up_to x b) ls)

    shown-outer : shown_from a b (columns_of first + columns_of middle) outer ≡ replicate (blanks_after x a b) last_blank
    shown-outer = by_case divided.after
      where
        c : ℕ
        c = columns_of first + columns_of middle

        by_case : ((b ≡ columns_of first + columns_of middle + blanks_after x a b) × Stops (blanks_after x a b) rest × (bytes_of first + bytes_of middle ≡ bytes_up_to x b)) ⊎ ((blanks_after x a b ≡ 0) × ((rest ≡ []) ⊎ (b ≤ columns_of first + columns_of middle)))
            → shown_from a b (columns_of first + columns_of middle) outer ≡ replicate (blanks_after x a b) last_blank
        by_case (inl stops) =
            let place : n + bytes_of middle ≡ bytes_up_to x b = stops.2 in
            shown-after a b ordered (columns_of first + columns_of middle) (blanks_after x a b) rest (drop (bytes_of middle) (drop n ss)) (drop (bytes_of middle) (drop n ls)) stops.0
            (omega (arith, begun-covers a ks (omega (arith, wide)))) stops.1
            ∙ ap₂ (λ u v. replicate (blanks_after x a b) (blank_of u v))
            (drop-drop (bytes_of middle) n ss ∙ ap (λ i. drop i ss) (omega (arith, place)))
            (drop-drop (bytes_of middle) n ls ∙ ap (λ i. drop i ls) (omega (arith, place)))
        by_case (inr none) = nothing none.1 ∙ ap (λ i. replicate i last_blank) (sym none.0)
          where
            nothing : (rest ≡ []) ⊎ (b ≤ columns_of first + columns_of middle) → shown_from a b (columns_of first + columns_of middle) outer ≡ []
            nothing (inl empty) = ap (λ rs. shown_from a b (columns_of first + columns_of middle) (screen_of rs (drop (bytes_of middle) (drop n ss)) (drop (bytes_of middle) (drop n ls)))) empty
            nothing (inr late) = shown_from-late a b (columns_of first + columns_of middle) outer late

    pub shown-all_of : screen_slice a b (screen_of ks ss ls)
        ≡ replicate (blanks_before x a b) (blank_of (drop (column_place x a) ss) (drop (column_place x a) ls)) ++ (inner ++ replicate (blanks_after x a b) last_blank)
    shown-all_of =
        let before = screen_of first ss ls in
        ap (λ cs. screen_slice a b (screen_of cs ss ls)) divided.all
        ∙ ap (shown_from a b 0) (screen_of-append first (middle ++ rest) ss ls ∙ ap (λ cs. before ++ cs) (screen_of-append middle rest (drop n ss) (drop n ls)))
        ∙ shown_from-append a b 0 before (inner ++ outer)
        ∙ ap₂ (λ u v. u ++ v)
        (shown-begun a b ordered 0 a ks ss ls (omega arith) ∙ ap (λ i. replicate (min i b - a) (blank_of (drop (column_place x a) ss) (drop (column_place x a) ls))) (omega arith))
        (ap (λ i. shown_from a b i (inner ++ outer)) (ap (λ i. 0 + i) (length-screen_of first ss ls) ∙ omega arith)
        ∙ shown_from-append a b (columns_of first) inner outer
        ∙ ap₂ (λ u v. u ++ v) shown-inner (ap (λ i. shown_from a b (columns_of first + i) outer) (length-screen_of middle (drop n ss) (drop n ls)) ∙ shown-outer))

-- ---- the clusters of what stays

module _ (x : List ℕ) (a b : ℕ) (utf8 : IsUtf8 x) (some : has_no_column x a b ≡ false) where
  abbrev front : List (List ℕ)
  front = begun a (clusters x)

  abbrev stays : List (List ℕ)
  stays = (divided x a b utf8 some).middle

  abbrev others : List (List ℕ)
  others = (divided x a b utf8 some).rest

  abbrev from : ℕ
  from = bytes_from x a

  abbrev text : List ℕ
  text = slice_range x from (bytes_up_to x b)

  all : clusters x ≡ front ++ (stays ++ others)
  all = (divided x a b utf8 some).all

  right : IsUtf8 (drop from x)
  right = IsUtf8-drop x from utf8 (boundary_between x utf8 front (stays ++ others) all)

  pub from-within : from ≤ length x
  from-within = omega (arith, bytes_of-clusters x utf8, ap bytes_of all, bytes_of-append front (stays ++ others))

  size-text : bytes_up_to x b - from ≡ bytes_of stays
  size-text = (divided x a b utf8 some).size

  pub clusters-text : clusters text ≡ stays
  clusters-text = ap (λ n. clusters (take n (drop from x))) size-text ∙ clusters-part x front stays others utf8 all

  text-utf8 : IsUtf8 text
  text-utf8 =
      subst (λ n. IsUtf8 (take n (drop from x))) (sym size-text)
      (IsUtf8-take (drop from x) (bytes_of stays) right (boundary_between (drop from x) right stays others (clusters-rest x front stays others utf8 all)))

  -- with the blanks

  chars-text : chars text ≡ concat stays
  chars-text = sym (concat-clusters [] (chars text)) ∙ ap concat clusters-text

  starts : (blanks_before x a b ≡ 0) ⊎ Starts (chars text)
  starts = elim (cases_lt a (columns_of front)) [
    | inl divides ↦
        let last = begun-last a (clusters x) divides in
        let split : clusters x ≡ (last.0 ++ last.1 ∷ []) ++ (stays ++ others) = all ∙ ap (λ ks. ks ++ (stays ++ others)) last.2 in
        inr (subst Starts (sym chars-text) (Starts-part (concat stays) (concat others) (subst Starts (concat-append stays others) (Starts-after (chars x) last.0 last.1 (stays ++ others) split last.3))))
    | inr whole ↦ inl (omega (arith, whole))
  ]

  ends : (blanks_after x a b ≡ 0) ⊎ Ends (chars text)
  ends = elim (divided x a b utf8 some).after [
    | inr none ↦ inl none.0
    | inl stops ↦ elim stops.1 [
      | inl none ↦ inl none
      | inr wide ↦ elim (cases_lt 0 (blanks_after x a b)) [
        | inr none ↦ inl (omega (arith, none))
        | inl any ↦ inr (subst Ends (sym chars-text) (Ends-before_part (chars x) front stays wide.0 wide.1 (all ∙ ap (λ ks. front ++ (stays ++ ks)) wide.2 ∙ sym (append_assoc front stays (wide.0 ∷ wide.1))) (omega (arith, any, wide.3))))
      ]
    ]
  ]

  pub clusters-slice : clusters (blanks (blanks_before x a b) ++ (text ++ blanks (blanks_after x a b))) ≡ replicate (blanks_before x a b) (byte " " ∷ []) ++ (stays ++ replicate (blanks_after x a b) (byte " " ∷ []))
  clusters-slice =
      let p = blanks_before x a b in
      let q = blanks_after x a b in
      let spelled : chars (blanks p ++ (text ++ blanks q)) ≡ blanks p ++ (chars text ++ blanks q)
      = chars-append (blanks p) (text ++ blanks q) (IsUtf8-blanks p) ∙ ap₂ (λ u v. u ++ v) (chars-blanks p) (chars-append text (blanks q) text-utf8 ∙ ap (λ u. chars text ++ u) (chars-blanks q)) in
      ap (clusters_after []) spelled
      ∙ clusters-among_blanks p q (chars text) starts ends
      ∙ ap (λ ks. replicate p (byte " " ∷ []) ++ (ks ++ replicate q (byte " " ∷ []))) clusters-text

-- ---- the screen of the slice

map-bytes : (s : Rendition) (w : List ℕ) → map (λ (c : StyledByte). c.byte) (map (styled_byte s) w) ≡ w
map-bytes s [] = refl
map-bytes s (c ∷ w) = ap (λ v. c ∷ v) (map-bytes s w)

-- blanks are copies of a blank

map-blanks : {A : Type 0} (f : ℕ → A) (count : ℕ) → map f (blanks count) ≡ copies count (f (byte " ") ∷ [])
map-blanks f zero = refl
map-blanks f (suc count) = ap (λ xs. f (byte " ") ∷ xs) (map-blanks f count)

map-copies : {A B : Type 0} (f : A → B) (count : ℕ) (c : A) → map f (replicate count c) ≡ replicate count (f c)
map-copies f zero c = refl
map-copies f (suc count) c = ap (λ xs. f c ∷ xs) (map-copies f count c)

copies-alike : {A : Type 0} (count : ℕ) (x : A) (xs : List A) → replicate count (x ∷ []) ≡ replicate count xs → copies count (x ∷ []) ≡ copies count xs
copies-alike zero x xs same = refl
copies-alike (suc count) x xs same = ap (copies (suc count)) (first same)
  where
    first : {B : Type 0} {u v : B} {us vs : List B} → u ∷ us ≡ v ∷ vs → u ≡ v
    first e = cc

copied : (f : ℕ → StyledByte) (g : ℕ → LinkedByte) (count : ℕ) (c : Column) → replicate count (record { styled = f (byte " ") ∷ []; linked = g (byte " ") ∷ []; index = 0; width = 1 }) ≡ replicate count c
    → (map f (blanks count) ≡ copies count c.styled) × (map g (blanks count) ≡ copies count c.linked)
copied f g count c same = (
  map-blanks f count ∙ copies-alike count (f (byte " ")) c.styled (seen (λ (d : Column). d.styled)),
  map-blanks g count ∙ copies-alike count (g (byte " ")) c.linked (seen (λ (d : Column). d.linked)),
)
  where
    one : Column
    one = record { styled = f (byte " ") ∷ []; linked = g (byte " ") ∷ []; index = 0; width = 1 }

    seen : {B : Type 0} (h : Column → B) → replicate count (h one) ≡ replicate count (h c)
    seen h = sym (map-copies h count one) ∙ ap (map h) same ∙ map-copies h count c

module _ (t : List ℕ) (a b : ℕ) (utf8 : IsUtf8 t) (whole : IsTrue (is_whole t)) (some : has_no_column (plain t) a b ≡ false) where
  abbrev x : List ℕ
  x = plain t

  x_utf8 : IsUtf8 x
  x_utf8 = IsUtf8-plain t utf8

  abbrev k : ℕ
  k = column_place x a

  abbrev s : ℕ
  s = bytes_from x a

  abbrev e : ℕ
  e = bytes_up_to x b

  abbrev p : ℕ
  p = blanks_before x a b

  abbrev q : ℕ
  q = blanks_after x a b

  abbrev inside : List (List ℕ)
  inside = (divided x a b x_utf8 some).middle

  abbrev style : Rendition
  style = state_after apply plain_style (at_places (earlier_places (opened_at x a)) (marks t))

  abbrev link : List ℕ
  link = state_after link_after [] (at_places (earlier_places (opened_at x a)) (marks t))

  abbrev last : List ℕ
  last = state_after link_after [] (marks_up_to e (marks t))

  abbrev styled_slice : List StyledByte
  styled_slice = map (styled_byte style) (blanks p) ++ (slice_range (styled t) s e ++ map (styled_byte (style_at t e)) (blanks q))

  abbrev linked_slice : List LinkedByte
  linked_slice = map (linked_byte link) (blanks p) ++ (slice_range (linked t) s e ++ map (linked_byte last) (blanks q))

  styled_is : styled (sliced_up_to t a b) ≡ styled_slice
  styled_is = (slice_styled t a b utf8 some whole).styled_bytes

  linked_is : linked (sliced_up_to t a b) ≡ linked_slice
  linked_is = linked-pieces (sliced_up_to t a b) ∙ (slice_linked t a b utf8 some whole).bytes

  pub plain_is : plain (sliced_up_to t a b) ≡ blanks p ++ (slice_range x s e ++ blanks q)
  plain_is =
      let byte_of : StyledByte → ℕ = λ c. c.byte in
      let front = map (styled_byte style) (blanks p) in
      let middle = slice_range (styled t) s e in
      let back = map (styled_byte (style_at t e)) (blanks q) in
      sym (unstyled-styled (sliced_up_to t a b)) ∙ ap (map byte_of) styled_is
      ∙ map-append byte_of front (middle ++ back)
      ∙ ap₂ (λ u v. u ++ v) (map-bytes style (blanks p))
      (map-append byte_of middle back ∙ ap₂ (λ u v. u ++ v) (map-slice_range byte_of (styled t) s e ∙ ap (λ u. slice_range u s e) (unstyled-styled t)) (map-bytes (style_at t e) (blanks q)))

  e-within : e ≤ length x
  e-within = elim (cases_Bool (nat_le (columns x) b)) [
    | inl past ↦ omega (arith, ap (λ c. if c then length x else column_place x b) past)
    | inr part ↦ omega (arith, ap (λ c. if c then length x else column_place x b) part, ended-bytes b (clusters x), bytes_of-clusters x x_utf8)
  ]

  size-of : {A : Type 0} (xs : List A) → length xs ≡ length x → length (slice_range xs s e) ≡ bytes_of inside
  size-of xs size = length-take-le (e - s) (drop s xs) (omega (arith, length-drop s xs, size, e-within)) ∙ (divided x a b x_utf8 some).size

  -- its blanks are in the style and the link of the clusters that they stand for

  first_blanks : replicate p (record { styled = styled_byte style (byte " ") ∷ []; linked = linked_byte link (byte " ") ∷ []; index = 0; width = 1 }) ≡ replicate p (blank_of (drop k (styled t)) (drop k (linked t)))
  first_blanks = elim (cases_lt 0 p) [
    | inr none ↦ (
        let zero_is : p ≡ 0 = omega (arith, none) in
        let blank : Column = record { styled = styled_byte style (byte " ") ∷ []; linked = linked_byte link (byte " ") ∷ []; index = 0; width = 1 } in
        ap (λ n. replicate n blank) zero_is ∙ sym (ap (λ n. replicate n (blank_of (drop k (styled t)) (drop k (linked t)))) zero_is))
    | inl any ↦
        let wider = begun-wider a (clusters x) (omega (arith, any)) in
        let before : opened_at x a ≡ Some k = ap (λ c. if c then None else Some k) (ne_eqb a 0 (λ zero_is. omega (arith, zero_is, wider.0))) in
        let style_there : style ≡ style_at t k = ap (λ o. state_after apply plain_style (at_places (earlier_places o) (marks t))) before in
        let link_there : link ≡ link_at t k = ap (λ o. state_after link_after [] (at_places (earlier_places o) (marks t))) before ∙ sym (link_of-fold (marks_up_to k (marks t))) in
        ap (replicate p) (
        ap₂ (λ r l. record { styled = styled_byte r (byte " ") ∷ []; linked = linked_byte l (byte " ") ∷ []; index = 0; width = 1 }) style_there link_there
        ∙ sym (blank-at t k (omega (arith, wider.1, from-within x a b x_utf8 some))))
  ]

  last_blanks : replicate q (record { styled = styled_byte (style_at t e) (byte " ") ∷ []; linked = linked_byte last (byte " ") ∷ []; index = 0; width = 1 }) ≡ replicate q (blank_of (drop e (styled t)) (drop e (linked t)))
  last_blanks = elim (cases_lt 0 q) [
    | inr none ↦ (
        let zero_is : q ≡ 0 = omega (arith, none) in
        let blank : Column = record { styled = styled_byte (style_at t e) (byte " ") ∷ []; linked = linked_byte last (byte " ") ∷ []; index = 0; width = 1 } in
        ap (λ n. replicate n blank) zero_is ∙ sym (ap (λ n. replicate n (blank_of (drop e (styled t)) (drop e (linked t)))) zero_is))
    | inl any ↦
        let link_there : last ≡ link_at t e = sym (link_of-fold (marks_up_to e (marks t))) in
        ap (replicate q) (
        ap (λ l. record { styled = styled_byte (style_at t e) (byte " ") ∷ []; linked = linked_byte l (byte " ") ∷ []; index = 0; width = 1 }) link_there
        ∙ sym (blank-at t e (inside_text any (divided x a b x_utf8 some).after)))
  ]
    where
      d : AreDivided x a b
      d = divided x a b x_utf8 some

      more : (Stops q d.rest) → 0 < q → 1 ≤ bytes_of d.rest
      more (inl none) any = absurd (omega (arith, none, any))
      more (inr stops) any =
          omega (arith, any, ap bytes_of stops.2, bytes_of-append (stops.0 ∷ []) stops.1, bytes_of-append [] (stops.0 ∷ []), length-append (encode_utf8_all stops.0) [], some_bytes stops.0 (omega (arith, stops.3)))

      inside_text : 0 < q → ((b ≡ columns_of (begun a (clusters x)) + columns_of d.middle + q) × Stops q d.rest × (bytes_of (begun a (clusters x)) + bytes_of d.middle ≡ e)) ⊎ ((q ≡ 0) × ((d.rest ≡ []) ⊎ (b ≤ columns_of (begun a (clusters x)) + columns_of d.middle))) → e < length x
      inside_text any (inr none) = absurd (omega (arith, any, none.0))
      inside_text any (inl stops) =
          omega (
            arith,
            stops.2,
            more stops.1 any,
            bytes_of-clusters x x_utf8,
            ap bytes_of d.all,
            bytes_of-append (begun a (clusters x)) (d.middle ++ d.rest),
            bytes_of-append d.middle d.rest,
          )

  -- so its row is that of the columns
  pub row-some : row (sliced_up_to t a b) ≡ joined (blanks_like p k (row t)) (joined (row_range s e (row t)) (blanks_like q e (row t)))
  row-some =
      let before = copied (styled_byte style) (linked_byte link) p (blank_of (drop k (styled t)) (drop k (linked t))) first_blanks in
      let after = copied (styled_byte (style_at t e)) (linked_byte last) q (blank_of (drop e (styled t)) (drop e (linked t))) last_blanks in
      ap₂ (λ ss ls. record { styled = ss; linked = ls })
      (styled_is ∙ ap₂ (λ u v. u ++ (slice_range (styled t) s e ++ v)) before.0 after.0)
      (linked_is ∙ ap₂ (λ u v. u ++ (slice_range (linked t) s e ++ v)) before.1 after.1)

  screen-some : screen (sliced_up_to t a b) ≡ screen_slice a b (screen t)
  screen-some =
      let fits : bytes_of inside ≤ e - s = omega (arith, (divided x a b x_utf8 some).size) in
      ap₂ (λ u v. screen_of (clusters u) v (linked (sliced_up_to t a b))) plain_is styled_is
      ∙ ap₂ (λ cs v. screen_of cs styled_slice v) (clusters-slice x a b x_utf8 some) linked_is
      ∙ screen-between p q inside (styled_byte style) (styled_byte (style_at t e)) (linked_byte link) (linked_byte last) (slice_range (styled t) s e) (slice_range (linked t) s e) (size-of (styled t) (length-styled t)) (size-of (linked t) (length-linked t))
      ∙ ap₂ (λ u v. u ++ v) first_blanks (ap₂ (λ u v. u ++ v) (screen_of-take inside (drop s (styled t)) (drop s (linked t)) (e - s) fits) last_blanks)
      ∙ sym (shown-all_of x a b x_utf8 some (styled t) (linked t))

shown_from-never : (a b i : ℕ) (cs : List Column) → b ≤ a → shown_from a b i cs ≡ []
shown_from-never a b i [] none = refl
shown_from-never a b i (c ∷ cs) none = ap₂ (λ u v. u ++ v) (nothing (cases_lt i a)) (shown_from-never a b (i + 1) cs none)
  where
    nothing : (i < a) ⊎ (a ≤ i) → shown_in a b i c ≡ []
    nothing (inl early) = shown_in-early a b i c early
    nothing (inr late) = shown_in-late a b i c (omega (arith, late, none))

screen-none : (t : List ℕ) (a b : ℕ) → has_no_column (plain t) a b ≡ true → screen_slice a b (screen t) ≡ []
screen-none t a b none = elim (cases_lt a b) [
  | inr ordered ↦ shown_from-never a b 0 (screen t) ordered
  | inl less ↦
      let past : nat_le (columns (plain t)) a ≡ true = sym (ap (λ c. c || nat_le (columns (plain t)) a) (lt-leb b a less)) ∙ none in
      shown_from-early a b 0 (screen t) (omega (arith, leb-true (columns (plain t)) a past, length-screen_of (clusters (plain t)) (styled t) (linked t)))
]

pub slice-screen : (t : List ℕ) (a b : ℕ) → IsUtf8 t → IsTrue (is_whole t) → screen (sliced_up_to t a b) ≡ screen_slice a b (screen t)
slice-screen t a b utf8 whole = elim (cases_Bool (has_no_column (plain t) a b)) [
  | inl none ↦ ap screen (sym (sliced-nothing t a b none)) ∙ ap (λ ks. screen_of ks (styled []) (linked [])) (clusters-blanks 0) ∙ sym (screen-none t a b none)
  | inr some ↦ screen-some t a b utf8 whole some
]

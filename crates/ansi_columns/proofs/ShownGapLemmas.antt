-- What is shown of the text between the lines that are shown.
use Rattle.std.proofs.Common.{◌≡◌, ℕ, ◌+◌, ◌-◌, ◌<◌, ◌≤◌, inl, inr, ◌⊎◌, ◌==◌, ◌||◌, Bool, true, false, List, [], ◌∷◌, ◌++◌, length, map, take, drop, slice_range, flat_map, encode_utf8, encode_utf8_all, All, if◌then◌else◌, refl, sym, ◌∙◌, ap, subst, arith, append_assoc, append-nil, length-append, take_at, drop_at, take-add, take-append-drop, length-take-le}
use lib.Utf8.{scalars, scalar}
use Rattle.std.specs.Str.{chars, IsUtf8, IsCharBoundary}
use Rattle.std.proofs.lemmas.Bool.{and_from, and_parts, ne_eqb}
use Rattle.std.proofs.lemmas.Bool.Decides.{nat_tests}
use Rattle.std.proofs.lemmas.Grind.{flat_map-append}
use Rattle.std.proofs.lemmas.List.Elements.{All-head, All-tail, All-weaker}
use Rattle.std.proofs.lemmas.List.Folds.{drop_split}
use Rattle.std.proofs.lemmas.Str.{chars-append, chars-encodes, encodes-append, encodes-chars, length-encode, len_utf8_bounds, scalars-chars, IsCharBoundary-at_seam, IsUtf8-take}
use Rattle.ansi_safe.specs.Safe.{is_printing}
use Rattle.ansi_clusters.specs.Columns.{clusters, line_char, lined, least_place}
use Rattle.ansi_clusters.specs.Lines.{IsLine, IsLeftOut, lines, place_line, shown_lines, AreLinesFrom, BeginWithBlanks, reassembled}
use Rattle.ansi_clusters.specs.FirstFit.{AreShownLines}
use Rattle.ansi_clusters.proofs.FirstFitLemmas.{lines-first_fit}
use Rattle.ansi_clusters.proofs.LineLawLemmas.{boundary_between, lines_are}
use Rattle.ansi_clusters.proofs.ShownLineLemmas.{lined-utf8}
use Rattle.ansi_clusters.proofs.TightLemmas.{least-zero}
use Rattle.ansi_clusters.proofs.ViewLemmas.{line_chars-scalar}
use Rattle.ansi_wraps.proofs.LeftOutLawLemmas.{lines-begin, lines-left_out}
use Rattle.ansi_columns.specs.ShownLines.{BeginWithShownBlanks, AreShownLinesFrom}
use Rattle.ansi_columns.proofs.FirstFitLawLemmas.{first_fit-unique}

-- ---- characters, split where what is shown of them is split

-- of a character one or none is shown
line_char-one : (c : ℕ) → (line_char c ≡ []) ⊎ ((d : ℕ) × (line_char c ≡ d ∷ []))
line_char-one c = by (c == 10) (is_printing c) (c == 9 || c == 10)
  where
    by : (end printing white : Bool)
        → ((if end then c ∷ [] else if printing then c ∷ [] else if white then 32 ∷ [] else []) ≡ [])
        ⊎ ((d : ℕ) × ((if end then c ∷ [] else if printing then c ∷ [] else if white then 32 ∷ [] else []) ≡ d ∷ []))
    by true printing white = inr (c, refl)
    by false true white = inr (c, refl)
    by false false true = inr (32, refl)
    by false false false = inl refl

abbrev bytes : List ℕ → ℕ
bytes cs = length (encode_utf8_all cs)

some_bytes : (c : ℕ) → 1 ≤ length (encode_utf8 c)
some_bytes c = omega (arith, length-encode c, (len_utf8_bounds c).0)

abbrev first_of : List ℕ → ℕ
first_of [] = 0
first_of (c ∷ cs) = c

abbrev rest_of : List ℕ → List ℕ
rest_of [] = []
rest_of (c ∷ cs) = cs

-- `front` is shown of the characters before a place, and `rest` of those from it on; the place is the least
record IsSeenSplit (cs front rest : List ℕ) : Type 0 where
  first : List ℕ
  later : List ℕ
  all : cs ≡ first ++ later
  place : least_place line_char (length (encode_utf8_all front)) cs ≡ length (encode_utf8_all first)
  shown : flat_map line_char first ≡ front

least-past : (n c : ℕ) (cs : List ℕ) → 0 < n → least_place line_char n (c ∷ cs) ≡ length (encode_utf8 c) + least_place line_char (n - length (encode_utf8_all (line_char c))) cs
least-past n c cs some = ap (λ b. if b then 0 else length (encode_utf8 c) + least_place line_char (n - length (encode_utf8_all (line_char c))) cs) (ne_eqb n 0 (λ none. absurd (omega (arith, some, none))))

seen-split : (cs front rest : List ℕ) → flat_map line_char cs ≡ front ++ rest → IsSeenSplit cs front rest
seen-split [] [] rest all = record { first = []; later = []; all = refl; place = refl; shown = refl }
seen-split [] (f ∷ front) rest all = absurd (cc all)
seen-split (c ∷ cs) [] rest all = record { first = []; later = c ∷ cs; all = refl; place = refl; shown = refl }
seen-split (c ∷ cs) (f ∷ front) rest all = elim (line_char-one c) [
  | inl none ↦ (
      let later = seen-split cs (f ∷ front) rest (ap (λ u. u ++ flat_map line_char cs) (sym none) ∙ all) in
      let size : bytes (f ∷ front) - bytes (line_char c) ≡ bytes (f ∷ front) = ap (λ u. bytes (f ∷ front) - bytes u) none ∙ omega arith in
      passed later.first later.later later.all (ap (λ k. least_place line_char k cs) size ∙ later.place) (ap (λ u. u ++ flat_map line_char later.first) none ∙ later.shown))
  | inr one ↦ (
      let same : one.0 ∷ flat_map line_char cs ≡ f ∷ (front ++ rest) = ap (λ u. u ++ flat_map line_char cs) (sym one.1) ∙ all in
      let first_is : one.0 ≡ f = ap first_of same in
      let later = seen-split cs front rest (ap rest_of same) in
      let width : length (encode_utf8_all (line_char c)) ≡ length (encode_utf8 f) = ap (λ u. length (encode_utf8_all u)) (one.1 ∙ ap (λ d. d ∷ []) first_is) ∙ ap length (append-nil (encode_utf8 f)) in
      let size : bytes (f ∷ front) - bytes (line_char c) ≡ bytes front = omega (arith, width, length-append (encode_utf8 f) (encode_utf8_all front)) in
      passed later.first later.later later.all (ap (λ k. least_place line_char k cs) size ∙ later.place)
      (ap (λ u. u ++ flat_map line_char later.first) (one.1 ∙ ap (λ d. d ∷ []) first_is) ∙ ap (λ u. f ∷ u) later.shown))
]
  where
    passed : (first later : List ℕ) → cs ≡ first ++ later → least_place line_char (bytes (f ∷ front) - length (encode_utf8_all (line_char c))) cs ≡ length (encode_utf8_all first)
        → line_char c ++ flat_map line_char first ≡ f ∷ front → IsSeenSplit (c ∷ cs) (f ∷ front) rest
    passed first later whole place shown = record {
      first = c ∷ first;
      later = later;
      all = ap (λ u. c ∷ u) whole;
      place = least-past (bytes (f ∷ front)) c cs (omega (arith, some_bytes f, length-append (encode_utf8 f) (encode_utf8_all front)))
          ∙ ap (λ k. length (encode_utf8 c) + k) place ∙ sym (length-append (encode_utf8 c) (encode_utf8_all first));
      shown = shown;
    }

-- a later place is further on
least-ordered : (n m : ℕ) (cs : List ℕ) → n ≤ m → least_place line_char n cs ≤ least_place line_char m cs
least-ordered n m [] ordered = omega arith
least-ordered n m (c ∷ cs) ordered =
    by (n == 0) (m == 0) refl refl (least-ordered (n - bytes (line_char c)) (m - bytes (line_char c)) cs (omega (arith, ordered)))
  where
    by : (a b : Bool) → (n == 0) ≡ a → (m == 0) ≡ b → least_place line_char (n - bytes (line_char c)) cs ≤ least_place line_char (m - bytes (line_char c)) cs
        → (if a then 0 else length (encode_utf8 c) + least_place line_char (n - bytes (line_char c)) cs) ≤ (if b then 0 else length (encode_utf8 c) + least_place line_char (m - bytes (line_char c)) cs)
    by true b first second later = omega arith
    by false true first second later = absurd (grind (arith, nat_tests, first, second, ordered))
    by false false first second later = omega (arith, later)

-- ---- texts

lined-append : (x y : List ℕ) → IsUtf8 x → lined (x ++ y) ≡ lined x ++ lined y
lined-append x y utf8 =
    ap (λ cs. encode_utf8_all (flat_map line_char cs)) (chars-append x y utf8)
    ∙ ap encode_utf8_all (flat_map-append line_char (chars x) (chars y))
    ∙ encodes-append (flat_map line_char (chars x)) (flat_map line_char (chars y))

scalars-front : (front rest : List ℕ) → scalars (front ++ rest) ≡ true → scalars front ≡ true
scalars-front [] rest all = refl
scalars-front (c ∷ front) rest all = (let both = and_parts (scalar c) (scalars (front ++ rest)) all in and_from (scalar c) (scalars front) both.0 (scalars-front front rest both.1))

module _ (x : List ℕ) (utf8 : IsUtf8 x) where
  abbrev place : ℕ → ℕ
  place n = least_place line_char n (chars x)

  -- the characters before a place at which a character of what is shown ends
  seen-at : (n : ℕ) → IsCharBoundary (lined x) n → IsSeenSplit (chars x) (chars (take n (lined x))) (chars (drop n (lined x)))
  seen-at n here =
      let y = lined x in
      seen-split (chars x) (chars (take n y)) (chars (drop n y))
      (sym (chars-encodes (flat_map line_char (chars x)) (line_chars-scalar (chars x) (scalars-chars x utf8)))
      ∙ ap chars (sym (take-append-drop n y)) ∙ chars-append (take n y) (drop n y) (IsUtf8-take y n (lined-utf8 x utf8) here))

  front-encodes : (n : ℕ) → IsCharBoundary (lined x) n → encode_utf8_all (chars (take n (lined x))) ≡ take n (lined x)
  front-encodes n here = encodes-chars (take n (lined x)) (IsUtf8-take (lined x) n (lined-utf8 x utf8) here)

  place-is : (n : ℕ) (here : IsCharBoundary (lined x) n) → place n ≡ length (encode_utf8_all (seen-at n here).first)
  place-is n here = ap place (sym (length-take-le n (lined x) here.0) ∙ ap length (sym (front-encodes n here))) ∙ (seen-at n here).place

  halves : (n : ℕ) (here : IsCharBoundary (lined x) n) → x ≡ encode_utf8_all (seen-at n here).first ++ encode_utf8_all (seen-at n here).later
  halves n here = (let at = seen-at n here in sym (encodes-chars x utf8) ∙ ap encode_utf8_all at.all ∙ encodes-append at.first at.later)

  taken : (n : ℕ) (here : IsCharBoundary (lined x) n) → take (place n) x ≡ encode_utf8_all (seen-at n here).first
  taken n here =
      let at = seen-at n here in
      ap (take (place n)) (halves n here) ∙ take_at (encode_utf8_all at.first) (encode_utf8_all at.later) (place n) (sym (place-is n here))

  first-scalars : (n : ℕ) (here : IsCharBoundary (lined x) n) → scalars (seen-at n here).first ≡ true
  first-scalars n here = (let at = seen-at n here in scalars-front at.first at.later (ap scalars (sym at.all) ∙ scalars-chars x utf8))

  place-utf8 : (n : ℕ) → IsCharBoundary (lined x) n → IsUtf8 (take (place n) x)
  place-utf8 n here = subst IsUtf8 (sym (taken n here)) ((seen-at n here).first, (first-scalars n here, refl))

  place-within : (n : ℕ) → IsCharBoundary (lined x) n → place n ≤ length x
  place-within n here =
      let at = seen-at n here in
      omega (arith, place-is n here, ap length (halves n here), length-append (encode_utf8_all at.first) (encode_utf8_all at.later))

  -- what is shown before a place
  shown-before : (n : ℕ) → IsCharBoundary (lined x) n → lined (take (place n) x) ≡ take n (lined x)
  shown-before n here =
      let at = seen-at n here in
      ap lined (taken n here)
      ∙ ap (λ cs. encode_utf8_all (flat_map line_char cs)) (chars-encodes at.first (first-scalars n here))
      ∙ ap encode_utf8_all at.shown ∙ front-encodes n here

  -- what is shown from a place on
  shown-after : (n : ℕ) → IsCharBoundary (lined x) n → lined (drop (place n) x) ≡ drop n (lined x)
  shown-after n here =
      let before = shown-before n here in
      let both : lined x ≡ take n (lined x) ++ lined (drop (place n) x)
      = ap lined (sym (take-append-drop (place n) x)) ∙ lined-append (take (place n) x) (drop (place n) x) (place-utf8 n here) ∙ ap (λ u. u ++ lined (drop (place n) x)) before in
      sym (ap (drop n) both ∙ drop_at (take n (lined x)) (lined (drop (place n) x)) n (length-take-le n (lined x) here.0))

  -- what is shown between two places
  shown-between : (n m : ℕ) → IsCharBoundary (lined x) n → IsCharBoundary (lined x) m → n ≤ m → lined (slice_range x (place n) (place m)) ≡ slice_range (lined x) n m
  shown-between n m from to ordered =
      let ahead = least-ordered n m (chars x) ordered in
      let gap = slice_range x (place n) (place m) in
      let reached : place n + (place m - place n) ≡ place m = omega (arith, ahead) in
      let parts : take (place m) x ≡ take (place n) x ++ gap = ap (λ k. take k x) (sym reached) ∙ take-add (place n) (place m - place n) x in
      let both : take m (lined x) ≡ take n (lined x) ++ lined gap
      = sym (shown-before m to) ∙ ap lined parts ∙ lined-append (take (place n) x) gap (place-utf8 n from) ∙ ap (λ u. u ++ lined gap) (shown-before n from) in
      let grown : take m (lined x) ≡ take n (lined x) ++ slice_range (lined x) n m = ap (λ k. take k (lined x)) (omega (arith, ordered)) ∙ take-add n (m - n) (lined x) in
      let size = length-take-le n (lined x) from.0 in
      sym (drop_at (take n (lined x)) (lined gap) n size) ∙ ap (drop n) (sym both ∙ grown) ∙ drop_at (take n (lined x)) (slice_range (lined x) n m) n size

  -- ---- lines

  -- a line begins and ends between characters of what is shown
  abbrev IsBetween : ℕ × ℕ → Type 0
  IsBetween line = IsCharBoundary (lined x) line.0 × IsCharBoundary (lined x) line.1

  between : (width : ℕ) (line : ℕ × ℕ) → IsLine (lined x) width line → IsBetween line
  between width line is =
      let shown_utf8 = lined-utf8 x utf8 in (
        subst (IsCharBoundary (lined x)) (sym is.start) (boundary_between (lined x) shown_utf8 is.before (is.shown ++ is.after) (is.all ∙ append_assoc is.before is.shown is.after)),
        subst (IsCharBoundary (lined x)) (sym is.end) (boundary_between (lined x) shown_utf8 (is.before ++ is.shown) is.after is.all),
      )

  all_between : (width : ℕ) → All IsBetween (lines width (lined x))
  all_between width = All-weaker (IsLine (lined x) width) IsBetween (between width) (lines width (lined x)) (lines_are (lined x) width)

  lines-from : (e : ℕ) (ls : List (ℕ × ℕ)) → IsCharBoundary (lined x) e → All IsBetween ls → AreLinesFrom (lined x) e ls → AreShownLinesFrom x (place e) (map (place_line x) ls)
  lines-from e [] here good are = (are.0, shown-after e here ∙ are.1)
  lines-from e (line ∷ ls) here good are =
      let first = All-head IsBetween line ls good in (
        least-ordered e line.0 (chars x) are.0,
        least-ordered line.0 line.1 (chars x) are.1,
        place-within line.1 first.1,
        subst IsLeftOut (sym (shown-between e line.0 here first.0 are.0)) are.3,
        lines-from line.1 ls first.1 (All-tail IsBetween line ls good) are.4,
      )

  front-boundary : IsCharBoundary (lined x) 0
  front-boundary = IsCharBoundary-at_seam (lined x) [] (lined x) refl (lined-utf8 x utf8)

  pub shown-left_out : (width : ℕ) → AreShownLinesFrom x 0 (shown_lines width x)
  shown-left_out width = subst (λ e. AreShownLinesFrom x e (shown_lines width x)) (least-zero line_char (chars x)) (lines-from 0 (lines width (lined x)) front-boundary (all_between width) (lines-left_out (lined x) width (lined-utf8 x utf8)))

  blanks-before : (ls : List (ℕ × ℕ)) → All IsBetween ls → BeginWithBlanks (lined x) ls → BeginWithShownBlanks x (map (place_line x) ls)
  blanks-before [] good begin = begin
  blanks-before (line ∷ ls) good begin = (begin.0, shown-before line.0 (All-head IsBetween line ls good).0 ∙ begin.1)

  pub shown-begin : (width : ℕ) → BeginWithShownBlanks x (shown_lines width x)
  shown-begin width = blanks-before (lines width (lined x)) (all_between width) (lines-begin (lined x) width (lined-utf8 x utf8))

  reassembled-from : (e : ℕ) (ls : List (ℕ × ℕ)) → AreShownLinesFrom x e ls → reassembled x e ls ≡ drop e x
  reassembled-from e [] are = refl
  reassembled-from e (line ∷ ls) are =
      ap (λ u. slice_range x e line.0 ++ slice_range x line.0 line.1 ++ u) (reassembled-from line.1 ls are.4)
      ∙ append_assoc (slice_range x e line.0) (slice_range x line.0 line.1) (drop line.1 x)
      ∙ ap (λ u. slice_range x e line.0 ++ u) (sym (drop_split x line.0 line.1 are.1)) ∙ sym (drop_split x e line.0 are.0)

  pub shown-reassembled : (width : ℕ) → reassembled x 0 (shown_lines width x) ≡ x
  shown-reassembled width = reassembled-from 0 (shown_lines width x) (shown-left_out width)

-- the lines of what is shown are the only ones
pub shown_lines-unique : (x : List ℕ) (width : ℕ) (ls : List (ℕ × ℕ)) → AreShownLines width x ls → ls ≡ shown_lines width x
shown_lines-unique x width ls are = are.places ∙ ap (map (place_line x)) (first_fit-unique width (clusters (lined x)) are.shown (lines width (lined x)) are.first_fit (lines-first_fit width (lined x)))

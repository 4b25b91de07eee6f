-- The text of a cell is whole and UTF-8, and it and that of a paragraph are no longer than the text.
use Rattle.std.proofs.Common.{◌≡◌, ℕ, ◌≤◌, Bool, true, false, not, ◌==◌, ◌||◌, List, [], ◌∷◌, ◌++◌, length, take, drop, flat_map, chars, encode_utf8, encode_utf8_all, if◌then◌else◌, IsTrue, refl, sym, ◌∙◌, ap, subst, arith, length-append, take-append-drop}
use lib.Utf8.{scalar, scalars}
use Rattle.std.specs.List.{list_all}
use Rattle.std.specs.Str.{IsUtf8, IsCharBoundary, byte}
use Rattle.std.proofs.lemmas.Bool.{and_from, and_parts}
use Rattle.std.proofs.lemmas.Str.{IsUtf8-take, IsUtf8-drop, IsUtf8-nil, IsUtf8-append, encodes-append, encodes-chars, encodes-IsAscii, scalars-chars, length-encode, len_utf8_bounds}
use Rattle.ansi_items.specs.Pieces.{Piece, Text, Sequence, LoneEscape, spelling, ArePieces, pieces_of}
use Rattle.ansi_items.specs.Plain.{marks, is_whole}
use Rattle.ansi_items.proofs.JoinLemmas.{pieces_of-append}
use Rattle.ansi_items.proofs.PieceLemmas.{pieces_are}
use Rattle.ansi_style.specs.Reading.{style_after_from}
use Rattle.ansi_style.specs.Rendition.{plain_style}
use Rattle.ansi_style.specs.Styled.{style_after}
use Rattle.ansi_style.proofs.SpelledLemmas.{style_after_from-append}
use Rattle.ansi_style.proofs.ThroughLemmas.{state_through, state_through-append, state_through-merged}
use Rattle.ansi_safe.specs.declared.cells.Place.{Place}
use Rattle.ansi_safe.specs.declared.cells.Place.TheVariants.{Cell, Paragraph}
use Rattle.ansi_safe.specs.declared.policy.Links.TheVariants.{Keep}
use Rattle.ansi_safe.specs.Links.{link_of, link_after}
use Rattle.ansi_safe.specs.Safe.{is_allowed, may_stay}
use Rattle.ansi_safe.specs.Cells.{in_place, run_in, piece_in, placed, cell, paragraph, is_cell, stays_in, piece_stays}
use Rattle.ansi_safe.proofs.CellLemmas.{placed-is_safe, placed-stays, placed_stays, stays-append}
use Rattle.ansi_safe.proofs.LinkLemmas.{link_of-pieces}
use Rattle.ansi_safe.proofs.MadeLemmas.{whole-safe}
use Rattle.ansi_safe.proofs.FrontLemmas.{printable-ascii}
use Rattle.ansi_safe.proofs.SafeLemmas.{piece_and_rest}

pub whole-cell : (t : List ℕ) → IsUtf8 t → IsTrue (is_whole (cell t))
whole-cell t utf8 = whole-safe Keep (cell t) (placed-is_safe Cell t utf8)

-- A character is UTF-8 in a cell, and in a place no longer than it was.

IsUtf8-in_place : (place : Place) (c : ℕ) → scalar c ≡ true → IsUtf8 (encode_utf8_all (in_place place c))
IsUtf8-in_place place c is = by place
  where
    blank_or : (b : Bool) (cs : List ℕ) → IsUtf8 (encode_utf8_all cs) → IsUtf8 (encode_utf8_all (if b then byte " " ∷ [] else cs))
    blank_or true cs utf8 = (byte " " ∷ [], (refl, refl))
    blank_or false cs utf8 = utf8

    itself : IsUtf8 (encode_utf8_all (c ∷ []))
    itself = (c ∷ [], (and_from _ _ is refl, refl))

    none_or : (d : Bool) → IsUtf8 (encode_utf8_all (if d then [] else c ∷ []))
    none_or true = IsUtf8-nil
    none_or false = itself

    by : (place : Place) → IsUtf8 (encode_utf8_all (in_place place c))
    by Cell = blank_or (c == byte "\t" || c == byte "\n") (if c == byte "\r" then [] else c ∷ []) (none_or (c == byte "\r"))
    by Paragraph = blank_or (c == byte "\t") (c ∷ []) itself

IsUtf8-character : (place : Place) (c : ℕ) (cs : List ℕ) → scalar c ≡ true → IsUtf8 (encode_utf8_all (if is_allowed c cs then in_place place c else []))
IsUtf8-character place c cs is = by (is_allowed c cs)
  where
    by : (b : Bool) → IsUtf8 (encode_utf8_all (if b then in_place place c else []))
    by true = IsUtf8-in_place place c is
    by false = IsUtf8-nil

length-in_place : (place : Place) (c : ℕ) → length (encode_utf8_all (in_place place c)) ≤ length (encode_utf8 c)
length-in_place place c = by place
  where
    some : 1 ≤ length (encode_utf8 c)
    some = omega (arith, length-encode c, (len_utf8_bounds c).0)

    one : length (encode_utf8_all (byte " " ∷ [])) ≡ 1
    one = ap length (encodes-IsAscii (byte " " ∷ []) (printable-ascii (byte " " ∷ []) refl))

    blank_or : (b : Bool) (cs : List ℕ) → length (encode_utf8_all cs) ≤ length (encode_utf8 c) → length (encode_utf8_all (if b then byte " " ∷ [] else cs)) ≤ length (encode_utf8 c)
    blank_or true cs short = subst (λ n. n ≤ length (encode_utf8 c)) (sym one) some
    blank_or false cs short = short

    itself : length (encode_utf8_all (c ∷ [])) ≤ length (encode_utf8 c)
    itself = omega (arith, length-append (encode_utf8 c) [])

    none_or : (b : Bool) → length (encode_utf8_all (if b then [] else c ∷ [])) ≤ length (encode_utf8 c)
    none_or true = omega arith
    none_or false = itself

    by : (place : Place) → length (encode_utf8_all (in_place place c)) ≤ length (encode_utf8 c)
    by Cell = blank_or (c == byte "\t" || c == byte "\n") (if c == byte "\r" then [] else c ∷ []) (none_or (c == byte "\r"))
    by Paragraph = blank_or (c == byte "\t") (c ∷ []) itself

length-character : (place : Place) (c : ℕ) (cs : List ℕ) → length (encode_utf8_all (if is_allowed c cs then in_place place c else [])) ≤ length (encode_utf8 c)
length-character place c cs = by (is_allowed c cs)
  where
    by : (b : Bool) → length (encode_utf8_all (if b then in_place place c else [])) ≤ length (encode_utf8 c)
    by true = length-in_place place c
    by false = omega arith

-- So is a run.

IsUtf8-run : (place : Place) (cs : List ℕ) → scalars cs ≡ true → IsUtf8 (encode_utf8_all (run_in place cs))
IsUtf8-run place [] are = IsUtf8-nil
IsUtf8-run place (c ∷ cs) are =
    let both = and_parts (scalar c) (scalars cs) are in
    let here = if is_allowed c cs then in_place place c else [] in
    subst IsUtf8 (sym (encodes-append here (run_in place cs))) (IsUtf8-append (encode_utf8_all here) (encode_utf8_all (run_in place cs)) (IsUtf8-character place c cs both.0) (IsUtf8-run place cs both.1))

length-run : (place : Place) (cs : List ℕ) → length (encode_utf8_all (run_in place cs)) ≤ length (encode_utf8_all cs)
length-run place [] = omega arith
length-run place (c ∷ cs) =
    let here = if is_allowed c cs then in_place place c else [] in
    omega (
      arith,
      ap length (encodes-append here (run_in place cs)),
      length-append (encode_utf8_all here) (encode_utf8_all (run_in place cs)),
      length-append (encode_utf8 c) (encode_utf8_all cs),
      length-character place c cs,
      length-run place cs,
    )

-- And a piece.

IsUtf8-piece : (place : Place) (p : Piece) → IsUtf8 (spelling p) → IsUtf8 (piece_in place p)
IsUtf8-piece place (Text w) utf8 = IsUtf8-run place (chars w) (scalars-chars w utf8)
IsUtf8-piece place (Sequence w) utf8 = by (may_stay Keep (Sequence w))
  where
    by : (b : Bool) → IsUtf8 (if b then w else [])
    by true = utf8
    by false = IsUtf8-nil
IsUtf8-piece place LoneEscape utf8 = IsUtf8-nil

length-piece : (place : Place) (p : Piece) → IsUtf8 (spelling p) → length (piece_in place p) ≤ length (spelling p)
length-piece place (Text w) utf8 = omega (arith, length-run place (chars w), ap length (encodes-chars w utf8))
length-piece place (Sequence w) utf8 = by (may_stay Keep (Sequence w))
  where
    by : (b : Bool) → length (if b then w else []) ≤ length w
    by true = omega arith
    by false = omega arith
length-piece place LoneEscape utf8 = omega arith

-- And a text.

IsUtf8-pieces : (place : Place) (t : List ℕ) (ps : List Piece) → ArePieces t ps → IsUtf8 t → IsUtf8 (flat_map (piece_in place) ps)
IsUtf8-pieces place t [] are utf8 = IsUtf8-nil
IsUtf8-pieces place t (p ∷ ps) are utf8 =
    let both = piece_and_rest p are.0 are.2 (subst IsUtf8 are.1 utf8) in
    IsUtf8-append (piece_in place p) (flat_map (piece_in place) ps) (IsUtf8-piece place p both.0) (IsUtf8-pieces place are.0 ps are.3 both.1)

pub IsUtf8-cell : (t : List ℕ) → IsUtf8 t → IsUtf8 (cell t)
IsUtf8-cell t utf8 = IsUtf8-pieces Cell t (pieces_of t) (pieces_are t) utf8

pub IsUtf8-paragraph : (t : List ℕ) → IsUtf8 t → IsUtf8 (paragraph t)
IsUtf8-paragraph t utf8 = IsUtf8-pieces Paragraph t (pieces_of t) (pieces_are t) utf8

length-pieces : (place : Place) (t : List ℕ) (ps : List Piece) → ArePieces t ps → IsUtf8 t → length (flat_map (piece_in place) ps) ≤ length t
length-pieces place t [] are utf8 = omega arith
length-pieces place t (p ∷ ps) are utf8 =
    let both = piece_and_rest p are.0 are.2 (subst IsUtf8 are.1 utf8) in
    omega (
      arith,
      ap length are.1,
      length-append (spelling p) are.0,
      length-append (piece_in place p) (flat_map (piece_in place) ps),
      length-piece place p both.0,
      length-pieces place are.0 ps are.3 both.1,
    )

pub length-placed : (place : Place) (t : List ℕ) → IsUtf8 t → length (placed place t) ≤ length t
length-placed place t utf8 = length-pieces place t (pieces_of t) (pieces_are t) utf8

pub length-cell : (t : List ℕ) → IsUtf8 t → length (cell t) ≤ length t
length-cell = length-placed Cell

-- what is tested of a text that stays
pub cell-stays : (t : List ℕ) → IsUtf8 t → is_cell t ≡ true → cell t ≡ t
cell-stays = placed-stays Cell

-- What stays as it is in a cell stays in a paragraph too.

stays-also : (c : ℕ) → stays_in Cell c ≡ true → stays_in Paragraph c ≡ true
stays-also c stays = by (c == 9) stays
  where
    by : (tab : Bool) → not (tab || (c == 10 || c == 13)) ≡ true → not tab ≡ true
    by true stays = stays
    by false stays = refl

all-stay : (cs : List ℕ) → list_all (stays_in Cell) cs ≡ true → list_all (stays_in Paragraph) cs ≡ true
all-stay [] all = refl
all-stay (c ∷ cs) all =
    let both = and_parts _ _ all in
    and_from _ _ (stays-also c both.0) (all-stay cs both.1)

pieces-stay : (ps : List Piece) → list_all (piece_stays Cell) ps ≡ true → list_all (piece_stays Paragraph) ps ≡ true
pieces-stay [] all = refl
pieces-stay (Text w ∷ ps) all =
    let both = and_parts _ _ all in
    let run = and_parts _ _ both.0 in
    and_from _ _ (and_from _ _ run.0 (all-stay (chars w) run.1)) (pieces-stay ps both.1)
pieces-stay (Sequence w ∷ ps) all =
    let both = and_parts _ _ all in
    and_from _ _ both.0 (pieces-stay ps both.1)
pieces-stay (LoneEscape ∷ ps) all = absurd (cc all)

pub paragraph-stays : (t : List ℕ) → IsUtf8 t → cell t ≡ t → paragraph t ≡ t
paragraph-stays t utf8 same = placed-stays Paragraph t utf8 (pieces-stay (pieces_of t) (placed_stays Cell t utf8 same))

-- a text of a cell before a paragraph
pub paragraph-after_cell : (u v : List ℕ) → IsUtf8 u → IsUtf8 v → cell u ≡ u → paragraph v ≡ v → paragraph (u ++ v) ≡ u ++ v
paragraph-after_cell u v utf8_u utf8_v first second = stays-append Paragraph u v utf8_u utf8_v (paragraph-stays u utf8_u first) second

-- A text of a cell after a front that stays as it is.

module _ (t : List ℕ) (n : ℕ) (utf8 : IsUtf8 t) (boundary : IsCharBoundary t n) (first : cell (take n t) ≡ take n t) (second : is_cell (drop n t) ≡ true) where
  front_utf8 : IsUtf8 (take n t)
  front_utf8 = IsUtf8-take t n utf8 boundary

  rest_utf8 : IsUtf8 (drop n t)
  rest_utf8 = IsUtf8-drop t n utf8 boundary

  rest_stays : cell (drop n t) ≡ drop n t
  rest_stays = cell-stays (drop n t) rest_utf8 second

  whole_front : IsTrue (is_whole (take n t))
  whole_front = subst (λ u. IsTrue (is_whole u)) first (whole-cell (take n t) front_utf8)

  whole_rest : IsTrue (is_whole (drop n t))
  whole_rest = subst (λ u. IsTrue (is_whole u)) rest_stays (whole-cell (drop n t) rest_utf8)

  pub cell-after : cell t ≡ t
  cell-after = subst (λ u. cell u ≡ u) (take-append-drop n t) (stays-append Cell (take n t) (drop n t) front_utf8 rest_utf8 first rest_stays)

  pub style-after : style_after t ≡ style_after_from (style_after (take n t)) (drop n t)
  style-after = ap style_after (sym (take-append-drop n t)) ∙ style_after_from-append plain_style (take n t) (drop n t) whole_front whole_rest

  pub link-after : link_of (marks (take n t)) ≡ [] → link_of (marks t) ≡ link_of (marks (drop n t))
  link-after none =
      let ps = pieces_of (take n t) in
      let qs = pieces_of (drop n t) in
      ap (λ u. link_of (marks u)) (sym (take-append-drop n t)) ∙ link_of-pieces (pieces_of (take n t ++ drop n t)) ∙ ap (state_through link_after []) (pieces_of-append (take n t) (drop n t) whole_front whole_rest)
      ∙ state_through-merged link_after [] (ps ++ qs) ∙ state_through-append link_after [] ps qs ∙ ap (λ l. state_through link_after l qs) (sym (link_of-pieces ps) ∙ none) ∙ sym (link_of-pieces qs)

-- The pieces of what follows a front are pieces of the text, so it stays if the text does.

abbrev pub HasPieces : List ℕ → List ℕ → Type 0
HasPieces t rest = (test : Piece → Bool) → list_all test (pieces_of t) ≡ true → list_all test (pieces_of rest) ≡ true

pub paragraph-rest : (t rest : List ℕ) → IsUtf8 t → IsUtf8 rest → HasPieces t rest → paragraph t ≡ t → paragraph rest ≡ rest
paragraph-rest t rest utf8 rest_utf8 has same = placed-stays Paragraph rest rest_utf8 (has (piece_stays Paragraph) (placed_stays Paragraph t utf8 same))

pub cell-rest : (t rest : List ℕ) → IsUtf8 t → HasPieces t rest → cell t ≡ t → is_cell rest ≡ true
cell-rest t rest utf8 has same = has (piece_stays Cell) (placed_stays Cell t utf8 same)

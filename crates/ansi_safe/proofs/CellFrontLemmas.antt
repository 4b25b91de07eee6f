-- The text of a cell in two: a front of the text has the front of its cell.
use Rattle.std.proofs.Common.{◌≡◌, ◌≢◌, ℕ, suc, ◌+◌, ◌-◌, ◌<◌, inl, inr, true, List, [], ◌∷◌, ◌++◌, length, take, drop, flat_map, slice_index, chars, encode_utf8_all, IsTrue, refl, sym, ◌∙◌, ap, ap₂, subst, arith, append-nil, append_assoc, length-append}
use lib.Utf8.{scalars}
use Rattle.std.specs.List.{list_all}
use Rattle.std.specs.Str.{IsUtf8, IsCharBoundary}
use Rattle.std.proofs.lemmas.Bool.{and_parts, cases_lt}
use Rattle.std.proofs.lemmas.Grind.{flat_map-append}
use Rattle.std.proofs.lemmas.List.{length-take, take_all, take_at, take-append-drop, take-append-le, take-take}
use Rattle.std.proofs.lemmas.Str.{IsUtf8-append, IsUtf8-drop, IsUtf8-nil, IsUtf8-take, chars-append, chars-nil, encodes-append, encodes-chars, scalars-chars}
use Rattle.ansi_items.specs.Bytes.{escape, is_plain_byte}
use Rattle.ansi_items.specs.Pieces.{Piece, Text, Sequence, LoneEscape, spelling, StandsBefore, ArePieces, pieces_of}
use Rattle.ansi_items.specs.Plain.{plain, plain_of}
use Rattle.ansi_items.specs.Sequences.{IsSequence}
use Rattle.ansi_items.proofs.PieceLemmas.{pieces_are, pieces_of-unique, sequence_front}
use Rattle.ansi_items.proofs.PlainLemmas.{one_text, one_text_are}
use Rattle.ansi_search.specs.Offsets.{bytes_before, offset_of}
use Rattle.ansi_search.specs.Positions.{no_character_goes_on}
use Rattle.ansi_search.proofs.OffsetLemmas.{bytes_before-last, bytes_before-text, drop-after, inside_are, take-after}
use Rattle.ansi_search.proofs.PositionLemmas.{good_is_boundary, no_character_goes_on-after, no_character_goes_on-append}
use Rattle.ansi_search.proofs.SliceLemmas.{list_all-parts}
use Rattle.ansi_safe.specs.declared.cells.Place.TheVariants.{Cell}
use Rattle.ansi_safe.specs.declared.policy.Links.TheVariants.{Keep}
use Rattle.ansi_safe.specs.Cells.{run_in, piece_in, cell, cell_char}
use Rattle.ansi_safe.proofs.AllowedLemmas.{AreAllowed}
use Rattle.ansi_safe.proofs.CellLemmas.{cell_chars-allowed, run_in-chars}
use Rattle.ansi_safe.proofs.CellTextLemmas.{length-cell}
use Rattle.ansi_safe.proofs.SafeLemmas.{AreGood, good_text, piece_and_rest}

-- A piece stands before a front of what it stands before.

first_byte : (n : ℕ) (rest : List ℕ) → take n rest ≢ [] → (rest ≢ []) × (slice_index (take n rest) 0 ≡ slice_index rest 0)
first_byte n rest some = grind arith

StandsBefore-front : (p : Piece) (rest : List ℕ) (n : ℕ) → StandsBefore p rest → StandsBefore p (take n rest)
StandsBefore-front (Text w) rest n stands = (stands.0, stands.1, λ some. (let first = first_byte n rest some in first.1 ∙ stands.2 first.0))
StandsBefore-front (Sequence w) rest n stands = stands
StandsBefore-front LoneEscape rest n stands = λ m whole. elim (cases_lt (suc n) m) [
  | inl longer ↦ (
      let front = take (suc n) (escape ∷ rest) in
      let all : take m front ≡ front = take_all m front (omega (arith, length-take (suc n) (escape ∷ rest))) in
      stands (suc n) (subst IsSequence all whole))
  | inr shorter ↦ stands m (subst IsSequence (take-take m (suc n) (escape ∷ rest) shorter) whole)
]

-- What pieces are in a cell.

cell-pieces : (t : List ℕ) (ps : List Piece) → ArePieces t ps → cell t ≡ flat_map (piece_in Cell) ps
cell-pieces t ps are = ap (flat_map (piece_in Cell)) (sym (pieces_of-unique t ps are))

cell-first : (t : List ℕ) (p : Piece) (rest : List ℕ) → t ≡ spelling p ++ rest → StandsBefore p rest → cell t ≡ piece_in Cell p ++ cell rest
cell-first t p rest spelled stands = cell-pieces t (p ∷ pieces_of rest) (rest, spelled, stands, pieces_are rest)

-- of a run each character is by itself
cell-run : (w : List ℕ) → list_all is_plain_byte w ≡ true → cell w ≡ encode_utf8_all (run_in Cell (chars w))
cell-run w all = cell-pieces w (one_text w) (one_text_are w all) ∙ by w
  where
    by : (w : List ℕ) → flat_map (piece_in Cell) (one_text w) ≡ encode_utf8_all (run_in Cell (chars w))
    by [] = sym (ap (λ cs. encode_utf8_all (run_in Cell cs)) chars-nil)
    by (b ∷ w) = append-nil (encode_utf8_all (run_in Cell (chars (b ∷ w))))

run-parts : (e : ℕ) (w : List ℕ) → IsUtf8 (take e w) → encode_utf8_all (run_in Cell (chars w)) ≡ encode_utf8_all (run_in Cell (chars (take e w))) ++ encode_utf8_all (run_in Cell (chars (drop e w)))
run-parts e w utf8 =
    let first = chars (take e w) in
    let second = chars (drop e w) in
    let all : chars w ≡ first ++ second = ap chars (sym (take-append-drop e w)) ∙ chars-append (take e w) (drop e w) utf8 in
    ap encode_utf8_all (ap (run_in Cell) all ∙ run_in-chars (first ++ second) ∙ flat_map-append cell_char first second ∙ ap₂ ◌++◌ (sym (run_in-chars first)) (sym (run_in-chars second)))
    ∙ encodes-append (run_in Cell first) (run_in Cell second)

-- A text in two, u and v: its cell is that of u and that of v.
pub record AreCellParts (t u v : List ℕ) : Type 0 where
  pub first : IsUtf8 u
  pub second : IsUtf8 v
  pub cells : cell t ≡ cell u ++ cell v

-- after a piece that is in front as a whole
parts-past : (t : List ℕ) (p : Piece) (rest : List ℕ) (n : ℕ) → t ≡ spelling p ++ rest → StandsBefore p rest → IsUtf8 t → (IsUtf8 rest → AreCellParts rest (take n rest) (drop n rest))
    → AreCellParts t (take (length (spelling p) + n) t) (drop (length (spelling p) + n) t)
parts-past t p rest n spelled stands utf8 later =
    let both = piece_and_rest p rest stands (subst IsUtf8 spelled utf8) in
    let parts = later both.1 in
    let k = length (spelling p) + n in
    let front : take k t ≡ spelling p ++ take n rest = ap (take k) spelled ∙ take-after (spelling p) rest n in
    let after : drop k t ≡ drop n rest = ap (drop k) spelled ∙ drop-after (spelling p) rest n in
    record {
      first = subst IsUtf8 (sym front) (IsUtf8-append (spelling p) (take n rest) both.0 parts.first);
      second = subst IsUtf8 (sym after) parts.second;
      cells = cell-first t p rest spelled stands ∙ ap (λ u. piece_in Cell p ++ u) parts.cells ∙ sym (append_assoc (piece_in Cell p) (cell (take n rest)) (cell (drop n rest)))
          ∙ ap₂ ◌++◌ (sym (cell-first (take k t) p (take n rest) front (StandsBefore-front p rest n stands))) (ap cell (sym after));
    }

parts-at : (e : ℕ) (t : List ℕ) (ps : List Piece) → ArePieces t ps → IsUtf8 t → IsTrue (no_character_goes_on (plain_of ps) e) → AreCellParts t (take (bytes_before e ps) t) (drop (bytes_before e ps) t)
parts-at e t [] are utf8 good = record { first = IsUtf8-nil; second = utf8; cells = refl }
parts-at e t (Text w ∷ ps) are utf8 good = elim (cases_lt e (length w)) [
  | inl last ↦ (
      let here : IsTrue (no_character_goes_on w e) = sym (no_character_goes_on-append w (plain_of ps) e last) ∙ good in
      let boundary : IsCharBoundary t e
      = good_is_boundary t e (omega (arith, last, ap length are.1, length-append w are.0)) (ap (λ u. no_character_goes_on u e) are.1 ∙ no_character_goes_on-append w are.0 e last ∙ here) in
      let front : take e t ≡ take e w = ap (take e) are.1 ∙ take-append-le e w are.0 (omega (arith, last)) in
      let first : IsUtf8 (take e t) = IsUtf8-take t e utf8 boundary in
      let cut : AreCellParts t (take e t) (drop e t)
      = record {
        first = first;
        second = IsUtf8-drop t e utf8 boundary;
        cells = cell-pieces t (Text w ∷ ps) are ∙ ap (λ u. u ++ flat_map (piece_in Cell) ps) (run-parts e w (subst IsUtf8 front first))
            ∙ append_assoc (encode_utf8_all (run_in Cell (chars (take e w)))) (encode_utf8_all (run_in Cell (chars (drop e w)))) (flat_map (piece_in Cell) ps)
            ∙ ap₂ ◌++◌ (sym (ap cell front ∙ cell-run (take e w) (list_all-parts is_plain_byte e w are.2.1).0)) (sym (cell-pieces (drop e t) (Text (drop e w) ∷ ps) (inside_are e t w ps are last)));
      } in
      rw (bytes_before-last e w ps last) cut)
  | inr within ↦ (
      let later : IsTrue (no_character_goes_on (plain_of ps) (e - length w)) = sym (no_character_goes_on-after w (plain_of ps) e within) ∙ good in
      rw (bytes_before-text e w ps within) (parts-past t (Text w) are.0 (bytes_before (e - length w) ps) are.1 are.2 utf8 (λ rest. parts-at (e - length w) are.0 ps are.3 rest later)))
]
parts-at e t (p ∷ ps) are utf8 good = parts-past t p are.0 (bytes_before e ps) are.1 are.2 utf8 (λ rest. parts-at e are.0 ps are.3 rest good)

-- a text in two at a good position of its plain text
pub cell-parts : (t : List ℕ) (e : ℕ) → IsUtf8 t → IsTrue (no_character_goes_on (plain t) e) → AreCellParts t (take (offset_of t e) t) (drop (offset_of t e) t)
cell-parts t e utf8 good = parts-at e t (pieces_of t) (pieces_are t) utf8 good

-- if the text stays as it is in a cell, so does its front
pub front-stays : (t : List ℕ) (e : ℕ) → IsUtf8 t → IsTrue (no_character_goes_on (plain t) e) → cell t ≡ t → cell (take (offset_of t e) t) ≡ take (offset_of t e) t
front-stays t e utf8 good stays =
    let u = take (offset_of t e) t in
    let v = drop (offset_of t e) t in
    let parts = cell-parts t e utf8 good in
    let all : cell u ++ cell v ≡ u ++ v = sym parts.cells ∙ stays ∙ sym (take-append-drop (offset_of t e) t) in
    let size : length (cell u) ≡ length u
    = omega (arith, length-cell u parts.first, length-cell v parts.second, ap length all, length-append (cell u) (cell v), length-append u v) in
    sym (take_at (cell u) (cell v) (length u) size) ∙ ap (take (length u)) all ∙ take_at u v (length u) refl

-- ---- the first byte of a cell

abbrev pub BeginsPlain : List ℕ → Type 0
BeginsPlain [] = Unit
BeginsPlain (b ∷ bs) = is_plain_byte b ≡ true

-- the first of these characters is shown, if there is one
abbrev pub IsShownFirst : List ℕ → Type 0
IsShownFirst [] = Unit
IsShownFirst (c ∷ cs) = 0 < length (encode_utf8_all (cell_char c))

run-plain : (cs : List ℕ) (b : ℕ) (bs : List ℕ) → scalars cs ≡ true → encode_utf8_all (run_in Cell cs) ≡ b ∷ bs → is_plain_byte b ≡ true
run-plain cs b bs are is =
    let good = good_text Keep (run_in Cell cs) (subst AreAllowed (sym (run_in-chars cs)) (cell_chars-allowed cs are)) in
    (and_parts (is_plain_byte b) (list_all is_plain_byte bs) (subst (λ w. AreGood Keep (one_text w)) is good).0.1).0

pieces-begin : (t : List ℕ) (ps : List Piece) → ArePieces t ps → IsUtf8 t → bytes_before 0 ps ≡ 0 → IsShownFirst (chars (plain_of ps)) → BeginsPlain (flat_map (piece_in Cell) ps)
pieces-begin t [] are utf8 none first = tt
pieces-begin t (Text w ∷ ps) are utf8 none first =
    let both = piece_and_rest (Text w) are.0 are.2 (subst IsUtf8 are.1 utf8) in
    by (chars w) refl (encode_utf8_all (run_in Cell (chars w))) refl both.0 (subst IsShownFirst (chars-append w (plain_of ps) both.0) first)
  where
    by : (cs : List ℕ) → chars w ≡ cs → (x : List ℕ) → encode_utf8_all (run_in Cell (chars w)) ≡ x → IsUtf8 w → IsShownFirst (cs ++ chars (plain_of ps)) → BeginsPlain (x ++ flat_map (piece_in Cell) ps)
    by [] is x made utf8 first = absurd (are.2.0 (sym (encodes-chars w utf8) ∙ ap encode_utf8_all is))
    by (c ∷ cs) is [] made utf8 first =
        let all : encode_utf8_all (run_in Cell (chars w)) ≡ encode_utf8_all (cell_char c) ++ encode_utf8_all (flat_map cell_char cs)
        = ap encode_utf8_all (run_in-chars (chars w) ∙ ap (flat_map cell_char) is) ∙ encodes-append (cell_char c) (flat_map cell_char cs) in
        absurd (omega (arith, first, ap length (sym made ∙ all), length-append (encode_utf8_all (cell_char c)) (encode_utf8_all (flat_map cell_char cs))))
    by (c ∷ cs) is (b ∷ bs) made utf8 first = run-plain (chars w) b bs (scalars-chars w utf8) made
pieces-begin t (Sequence w ∷ ps) are utf8 none first = absurd (omega (arith, none, ap length (sequence_front w are.2).1))
pieces-begin t (LoneEscape ∷ ps) are utf8 none first = absurd (omega (arith, none))

-- the cell of a text that begins with a character that is shown begins with a plain byte
pub cell-begins : (t : List ℕ) → IsUtf8 t → offset_of t 0 ≡ 0 → IsShownFirst (chars (plain t)) → BeginsPlain (cell t)
cell-begins t utf8 none first = pieces-begin t (pieces_of t) (pieces_are t) utf8 none first

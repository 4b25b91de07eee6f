-- The texts of cells and of paragraphs.
use Rattle.std.proofs.Common.{◌≡◌, ℕ, Bool, true, false, not, ◌&&◌, ◌||◌, ◌==◌, List, [], ◌∷◌, ◌++◌, flat_map, chars, encode_utf8_all, slice_index, if◌then◌else◌, refl, sym, ◌∙◌, ap, ap₂, subst, arith, append-nil, append_assoc}
use lib.Utf8.{scalar, scalars}
use Rattle.std.specs.List.{list_all}
use Rattle.std.specs.Str.{IsUtf8}
use Rattle.std.proofs.lemmas.Bool.{and_from, and_parts, eqb-true}
use Rattle.std.proofs.lemmas.Bool.Decides.{nat_tests}
use Rattle.std.proofs.lemmas.Grind.{flat_map-append}
use Rattle.std.proofs.lemmas.List.Folds.{list_all-append}
use Rattle.std.proofs.lemmas.Str.{IsUtf8-append, chars-append, chars-encodes, chars-nil, encodes-append, encodes-chars, scalars-chars}
use Rattle.ansi_items.specs.Pieces.{Piece, Text, Sequence, LoneEscape, spelling, ArePieces, StandsBefore, pieces_of, after_text, merged}
use Rattle.ansi_items.specs.Plain.{plain_bytes, plain_of, plain}
use Rattle.ansi_items.proofs.JoinLemmas.{spelled, AllStandAnywhere, pieces_of-spelled, spelled-pieces_of}
use Rattle.ansi_items.proofs.PieceLemmas.{pieces_are}
use Rattle.ansi_items.proofs.PlainLemmas.{one_text, pieces_of-bare, plain_of-one_text}
use Rattle.ansi_items.proofs.Utf8Lemmas.{IsUtf8-plain}
use Rattle.ansi_safe.specs.declared.cells.Place.{Place}
use Rattle.ansi_safe.specs.declared.cells.Place.TheVariants.{Cell, Paragraph}
use Rattle.ansi_safe.specs.declared.policy.Links.TheVariants.{Keep}
use Rattle.ansi_safe.specs.Safe.{is_ordinary_byte, is_printing, is_allowed, all_allowed, may_stay, is_safe}
use Rattle.ansi_safe.specs.Cells.{in_place, run_in, piece_in, placed, cell, cell_char, stays_in, run_stays, piece_stays, is_placed}
use Rattle.ansi_safe.proofs.AllowedLemmas.{AreAllowed, AreAllowed-cons, AreAllowed-append, prints, stands-before, ordinary-parts, ordinary-allowed, ordinary-chars, all_allowed-ordinary}
use Rattle.ansi_safe.proofs.RestLemmas.{all-ordinary}
use Rattle.ansi_safe.proofs.SafeLemmas.{AreGood, AreGood-append, good_stand, good_are_safe, good_text, stays-good, spelled-one_text, piece_and_rest, allowed-bare}

-- What a run is in a cell, by its characters.

printing-other : (c : ℕ) → is_printing c ≡ true → (c == 9 || (c == 10 || c == 13)) ≡ false
printing-other c is = grind (arith, nat_tests)

run_in-char : (c : ℕ) (cs : List ℕ) → (if is_allowed c cs then in_place Cell c else []) ≡ cell_char c
run_in-char c cs = by (is_printing c) (c == 9) (c == 10) (c == 13) (slice_index cs 0 == 10) (printing-other c)
  where
    by : (p t n r f : Bool) → (p ≡ true → (t || (n || r)) ≡ false)
        → (if p || (t || (n || (r && f))) then (if t || n then 32 ∷ [] else if r then [] else c ∷ []) else []) ≡ (if p then c ∷ [] else if t || n then 32 ∷ [] else [])
    by true true n r f other = absurd (cc (other refl))
    by true false true r f other = absurd (cc (other refl))
    by true false false true f other = absurd (cc (other refl))
    by true false false false f other = refl
    by false true n r f other = refl
    by false false true r f other = refl
    by false false false true true other = refl
    by false false false true false other = refl
    by false false false false f other = refl

pub run_in-chars : (cs : List ℕ) → run_in Cell cs ≡ flat_map cell_char cs
run_in-chars [] = refl
run_in-chars (c ∷ cs) = ap₂ ◌++◌ (run_in-char c cs) (run_in-chars cs)

-- What a run is in a place is allowed in a run.

cell_char-prints : (c : ℕ) → scalar c ≡ true → list_all prints (cell_char c) ≡ true
cell_char-prints c is = by (is_printing c) (c == 9 || c == 10) refl
  where
    by : (p w : Bool) → is_printing c ≡ p → list_all prints (if p then c ∷ [] else if w then 32 ∷ [] else []) ≡ true
    by true w printing = and_from _ _ (and_from _ _ printing is) refl
    by false true other = refl
    by false false other = refl

pub cell_chars-allowed : (cs : List ℕ) → scalars cs ≡ true → AreAllowed (flat_map cell_char cs)
cell_chars-allowed [] are = record { stand = refl; scalar = refl }
cell_chars-allowed (c ∷ cs) are =
    let both = and_parts (scalar c) (scalars cs) are in
    AreAllowed-append (cell_char c) (flat_map cell_char cs) (cell_char-prints c both.0) (cell_chars-allowed cs both.1)

-- a line feed stays at the front of a paragraph
line_feed-first : (cs : List ℕ) → (slice_index cs 0 == 10) ≡ true → (slice_index (run_in Paragraph cs) 0 == 10) ≡ true
line_feed-first [] is = absurd (cc is)
line_feed-first (c ∷ cs) is = subst (λ x. (slice_index (run_in Paragraph (x ∷ cs)) 0 == 10) ≡ true) (sym (eqb-true c 10 is)) refl

paragraph-allowed : (cs : List ℕ) → scalars cs ≡ true → AreAllowed (run_in Paragraph cs)
paragraph-allowed [] are = record { stand = refl; scalar = refl }
paragraph-allowed (c ∷ cs) are =
    let both = and_parts (scalar c) (scalars cs) are in
    by (is_allowed c cs) (c == 9) refl both.0 (paragraph-allowed cs both.1)
  where
    by : (a t : Bool) → is_allowed c cs ≡ a → scalar c ≡ true → AreAllowed (run_in Paragraph cs) → AreAllowed ((if a then (if t then 32 ∷ [] else c ∷ []) else []) ++ run_in Paragraph cs)
    by true true here is later = AreAllowed-append (32 ∷ []) (run_in Paragraph cs) refl later
    by true false here is later = AreAllowed-cons c (run_in Paragraph cs) (stands-before c cs (run_in Paragraph cs) (line_feed-first cs) here) is later
    by false t other is later = later

run_in-allowed : (place : Place) (cs : List ℕ) → scalars cs ≡ true → AreAllowed (run_in place cs)
run_in-allowed Cell cs are = subst AreAllowed (sym (run_in-chars cs)) (cell_chars-allowed cs are)
run_in-allowed Paragraph cs are = paragraph-allowed cs are

-- What a piece is in a place, as good pieces.

abbrev piece_left : Place → Piece → List Piece
piece_left place (Text w) = one_text (encode_utf8_all (run_in place (chars w)))
piece_left place p = if may_stay Keep p then p ∷ [] else []

spelled-stays : (p : Piece) (b : Bool) → spelled (if b then p ∷ [] else []) ≡ (if b then spelling p else [])
spelled-stays p true = append-nil (spelling p)
spelled-stays p false = refl

spelled-piece_left : (place : Place) (p : Piece) → spelled (piece_left place p) ≡ piece_in place p
spelled-piece_left place (Text w) = spelled-one_text (encode_utf8_all (run_in place (chars w)))
spelled-piece_left place (Sequence w) = spelled-stays (Sequence w) (may_stay Keep (Sequence w))
spelled-piece_left place LoneEscape = refl

piece_left-good : (place : Place) (p : Piece) (rest : List ℕ) → StandsBefore p rest → IsUtf8 (spelling p) → AreGood Keep (piece_left place p)
piece_left-good place (Text w) rest stands utf8 = good_text Keep (run_in place (chars w)) (run_in-allowed place (chars w) (scalars-chars w utf8))
piece_left-good place (Sequence w) rest stands utf8 = by (may_stay Keep (Sequence w)) refl
  where
    by : (b : Bool) → may_stay Keep (Sequence w) ≡ b → AreGood Keep (if b then Sequence w ∷ [] else [])
    by true stays = (stays-good Keep (Sequence w) rest stands utf8 stays, tt)
    by false goes = tt
piece_left-good place LoneEscape rest stands utf8 = tt

abbrev placed_pieces : Place → List Piece → List Piece
placed_pieces place ps = flat_map (piece_left place) ps

spelled-placed : (place : Place) (ps : List Piece) → spelled (placed_pieces place ps) ≡ flat_map (piece_in place) ps
spelled-placed place [] = refl
spelled-placed place (p ∷ ps) = flat_map-append spelling (piece_left place p) (placed_pieces place ps) ∙ ap₂ ◌++◌ (spelled-piece_left place p) (spelled-placed place ps)

placed-good : (place : Place) (t : List ℕ) (ps : List Piece) → ArePieces t ps → IsUtf8 t → AreGood Keep (placed_pieces place ps)
placed-good place t [] are utf8 = tt
placed-good place t (p ∷ ps) are utf8 =
    let both = piece_and_rest p are.0 are.2 (subst IsUtf8 are.1 utf8) in
    AreGood-append Keep (piece_left place p) (placed_pieces place ps) (piece_left-good place p are.0 are.2 both.0) (placed-good place are.0 ps are.3 both.1)

pub placed-is_safe : (place : Place) (t : List ℕ) → IsUtf8 t → is_safe Keep (placed place t) ≡ true
placed-is_safe place t utf8 =
    let ps = placed_pieces place (pieces_of t) in
    ap (is_safe Keep) (sym (spelled-placed place (pieces_of t))) ∙ good_are_safe Keep ps (placed-good place t (pieces_of t) (pieces_are t) utf8)

-- Its plain text.

plain_of-after_text : (w : List ℕ) (ps : List Piece) → plain_of (after_text w ps) ≡ w ++ plain_of ps
plain_of-after_text w (Text v ∷ ps) = append_assoc w v (plain_of ps)
plain_of-after_text w ps = refl

pub plain_of-merged : (ps : List Piece) → plain_of (merged ps) ≡ plain_of ps
plain_of-merged [] = refl
plain_of-merged (Text w ∷ ps) = plain_of-after_text w (merged ps) ∙ ap (λ v. w ++ v) (plain_of-merged ps)
plain_of-merged (Sequence w ∷ ps) = plain_of-merged ps
plain_of-merged (LoneEscape ∷ ps) = plain_of-merged ps

plain-spelled : (ps : List Piece) → AllStandAnywhere ps → plain (spelled ps) ≡ plain_of ps
plain-spelled ps stand = ap plain_of (pieces_of-spelled ps stand) ∙ plain_of-merged ps

-- what the run of a piece is in a place
abbrev run_of : Place → Piece → List ℕ
run_of place p = run_in place (chars (plain_bytes p))

run_of-none : (place : Place) → run_in place (chars []) ≡ []
run_of-none place = ap (run_in place) chars-nil

plain_of-stays : (p : Piece) (b : Bool) → plain_bytes p ≡ [] → plain_of (if b then p ∷ [] else []) ≡ []
plain_of-stays p true none = append-nil (plain_bytes p) ∙ none
plain_of-stays p false none = refl

plain_of-piece_left : (place : Place) (p : Piece) → plain_of (piece_left place p) ≡ encode_utf8_all (run_of place p)
plain_of-piece_left place (Text w) = plain_of-one_text (encode_utf8_all (run_in place (chars w)))
plain_of-piece_left place (Sequence w) = plain_of-stays (Sequence w) (may_stay Keep (Sequence w)) refl ∙ sym (ap encode_utf8_all (run_of-none place))
plain_of-piece_left place LoneEscape = sym (ap encode_utf8_all (run_of-none place))

plain_of-placed : (place : Place) (ps : List Piece) → plain_of (placed_pieces place ps) ≡ encode_utf8_all (flat_map (run_of place) ps)
plain_of-placed place [] = refl
plain_of-placed place (p ∷ ps) =
    flat_map-append plain_bytes (piece_left place p) (placed_pieces place ps) ∙ ap₂ ◌++◌ (plain_of-piece_left place p) (plain_of-placed place ps)
    ∙ sym (encodes-append (run_of place p) (flat_map (run_of place) ps))

pub plain-placed : (place : Place) (t : List ℕ) → IsUtf8 t → plain (placed place t) ≡ encode_utf8_all (flat_map (run_of place) (pieces_of t))
plain-placed place t utf8 =
    let ps = placed_pieces place (pieces_of t) in
    ap plain (sym (spelled-placed place (pieces_of t))) ∙ plain-spelled ps (good_stand Keep ps (placed-good place t (pieces_of t) (pieces_are t) utf8)) ∙ plain_of-placed place (pieces_of t)

plain_bytes-utf8 : (p : Piece) → IsUtf8 (spelling p) → IsUtf8 (plain_bytes p)
plain_bytes-utf8 (Text w) utf8 = utf8
plain_bytes-utf8 (Sequence w) utf8 = ([], (refl, refl))
plain_bytes-utf8 LoneEscape utf8 = ([], (refl, refl))

runs-chars : (t : List ℕ) (ps : List Piece) → ArePieces t ps → IsUtf8 t → flat_map (run_of Cell) ps ≡ flat_map cell_char (chars (plain_of ps))
runs-chars t [] are utf8 = sym (ap (flat_map cell_char) chars-nil)
runs-chars t (p ∷ ps) are utf8 =
    let both = piece_and_rest p are.0 are.2 (subst IsUtf8 are.1 utf8) in
    ap₂ ◌++◌ (run_in-chars (chars (plain_bytes p))) (runs-chars are.0 ps are.3 both.1) ∙ sym (flat_map-append cell_char (chars (plain_bytes p)) (chars (plain_of ps)))
    ∙ ap (flat_map cell_char) (sym (chars-append (plain_bytes p) (plain_of ps) (plain_bytes-utf8 p both.0)))

pub plain-cell : (t : List ℕ) → IsUtf8 t → plain (cell t) ≡ encode_utf8_all (flat_map cell_char (chars (plain t)))
plain-cell t utf8 = plain-placed Cell t utf8 ∙ ap encode_utf8_all (runs-chars t (pieces_of t) (pieces_are t) utf8)

-- Each of its characters stays.

in_place-stays : (place : Place) (c : ℕ) → list_all (stays_in place) (in_place place c) ≡ true
in_place-stays Cell c = by (c == 9) (c == 10) (c == 13) refl refl refl
  where
    by : (t n r : Bool) → (c == 9) ≡ t → (c == 10) ≡ n → (c == 13) ≡ r → list_all (stays_in Cell) (if t || n then 32 ∷ [] else if r then [] else c ∷ []) ≡ true
    by true n r tab feed return = refl
    by false true r tab feed return = refl
    by false false true tab feed return = refl
    by false false false tab feed return = and_from _ _ (ap₂ (λ x y. not (x || y)) tab (ap₂ (λ x y. x || y) feed return)) refl
in_place-stays Paragraph c = by (c == 9) refl
  where
    by : (t : Bool) → (c == 9) ≡ t → list_all (stays_in Paragraph) (if t then 32 ∷ [] else c ∷ []) ≡ true
    by true tab = refl
    by false tab = and_from _ _ (ap not tab) refl

run_in-stays : (place : Place) (cs : List ℕ) → list_all (stays_in place) (run_in place cs) ≡ true
run_in-stays place [] = refl
run_in-stays place (c ∷ cs) =
    list_all-append (stays_in place) (if is_allowed c cs then in_place place c else []) (run_in place cs) ∙ and_from _ _ (by (is_allowed c cs)) (run_in-stays place cs)
  where
    by : (b : Bool) → list_all (stays_in place) (if b then in_place place c else []) ≡ true
    by true = in_place-stays place c
    by false = refl

runs-stay : (place : Place) (ps : List Piece) → list_all (stays_in place) (flat_map (run_of place) ps) ≡ true
runs-stay place [] = refl
runs-stay place (p ∷ ps) = list_all-append (stays_in place) (run_of place p) (flat_map (run_of place) ps) ∙ and_from _ _ (run_in-stays place (chars (plain_bytes p))) (runs-stay place ps)

runs-scalar : (place : Place) (t : List ℕ) (ps : List Piece) → ArePieces t ps → IsUtf8 t → scalars (flat_map (run_of place) ps) ≡ true
runs-scalar place t [] are utf8 = refl
runs-scalar place t (p ∷ ps) are utf8 =
    let both = piece_and_rest p are.0 are.2 (subst IsUtf8 are.1 utf8) in
    let here = run_in-allowed place (chars (plain_bytes p)) (scalars-chars (plain_bytes p) (plain_bytes-utf8 p both.0)) in
    scalars-append (run_of place p) (flat_map (run_of place) ps) here.scalar (runs-scalar place are.0 ps are.3 both.1)
  where
    scalars-append : (cs ds : List ℕ) → scalars cs ≡ true → scalars ds ≡ true → scalars (cs ++ ds) ≡ true
    scalars-append [] ds first second = second
    scalars-append (c ∷ cs) ds first second =
        let both = and_parts (scalar c) (scalars cs) first in
        and_from _ _ both.0 (scalars-append cs ds both.1 second)

pub placed-stays_in : (place : Place) (t : List ℕ) → IsUtf8 t → list_all (stays_in place) (chars (plain (placed place t))) ≡ true
placed-stays_in place t utf8 =
    ap (λ u. list_all (stays_in place) (chars u)) (plain-placed place t utf8)
    ∙ ap (list_all (stays_in place)) (chars-encodes (flat_map (run_of place) (pieces_of t)) (runs-scalar place t (pieces_of t) (pieces_are t) utf8))
    ∙ runs-stay place (pieces_of t)

-- A text stays as it is if each of its pieces does.

-- a character that stays is the same in its place
in_place-itself : (place : Place) (c : ℕ) → stays_in place c ≡ true → in_place place c ≡ c ∷ []
in_place-itself Cell c stays = by (c == 9) (c == 10) (c == 13) stays
  where
    by : (t n r : Bool) → not (t || (n || r)) ≡ true → (if t || n then 32 ∷ [] else if r then [] else c ∷ []) ≡ c ∷ []
    by true n r stays = absurd (cc stays)
    by false true r stays = absurd (cc stays)
    by false false true stays = absurd (cc stays)
    by false false false stays = refl
in_place-itself Paragraph c stays = by (c == 9) stays
  where
    by : (t : Bool) → not t ≡ true → (if t then 32 ∷ [] else c ∷ []) ≡ c ∷ []
    by true stays = absurd (cc stays)
    by false stays = refl

run_stays-in : (place : Place) (cs : List ℕ) → all_allowed cs ≡ true → list_all (stays_in place) cs ≡ true → run_in place cs ≡ cs
run_stays-in place [] allowed stays = refl
run_stays-in place (c ∷ cs) allowed stays =
    let first = and_parts (is_allowed c cs) (all_allowed cs) allowed in
    let second = and_parts (stays_in place c) (list_all (stays_in place) cs) stays in
    ap₂ ◌++◌ (ap (λ b. if b then in_place place c else []) first.0 ∙ in_place-itself place c second.0) (run_stays-in place cs first.1 second.1)

piece_stays-in : (place : Place) (p : Piece) → IsUtf8 (spelling p) → piece_stays place p ≡ true → piece_in place p ≡ spelling p
piece_stays-in place (Text w) utf8 stays =
    let run = and_parts (all_allowed (chars w)) (list_all (stays_in place) (chars w)) stays in
    ap encode_utf8_all (run_stays-in place (chars w) run.0 run.1) ∙ encodes-chars w utf8
piece_stays-in place (Sequence w) utf8 stays = ap (λ b. if b then w else []) stays
piece_stays-in place LoneEscape utf8 stays = absurd (cc stays)

pieces_stay-in : (place : Place) (t : List ℕ) (ps : List Piece) → ArePieces t ps → IsUtf8 t → list_all (piece_stays place) ps ≡ true → flat_map (piece_in place) ps ≡ flat_map spelling ps
pieces_stay-in place t [] are utf8 stay = refl
pieces_stay-in place t (p ∷ ps) are utf8 stay =
    let both = piece_and_rest p are.0 are.2 (subst IsUtf8 are.1 utf8) in
    let parts = and_parts (piece_stays place p) (list_all (piece_stays place) ps) stay in
    ap₂ ◌++◌ (piece_stays-in place p both.0 parts.0) (pieces_stay-in place are.0 ps are.3 both.1 parts.1)

pub placed-stays : (place : Place) (t : List ℕ) → IsUtf8 t → is_placed place t ≡ true → placed place t ≡ t
placed-stays place t utf8 stays = pieces_stay-in place t (pieces_of t) (pieces_are t) utf8 stays ∙ spelled-pieces_of t

-- a text that stays as a run has no sequence
pub run-is_placed : (place : Place) (t : List ℕ) → IsUtf8 t → run_stays place (chars t) ≡ true → is_placed place t ≡ true
run-is_placed place t utf8 stays =
    let allowed = and_parts (all_allowed (chars t)) (list_all (stays_in place) (chars t)) stays in
    ap (list_all (piece_stays place)) (pieces_of-bare t (allowed-bare t utf8 allowed.0)) ∙ by t stays
  where
    by : (t : List ℕ) → run_stays place (chars t) ≡ true → list_all (piece_stays place) (one_text t) ≡ true
    by [] stays = refl
    by (b ∷ bs) stays = and_from _ _ stays refl

-- A safe text of which each character stays is one.

pieces-stay : (place : Place) (t : List ℕ) (ps : List Piece) → ArePieces t ps → IsUtf8 t → list_all (may_stay Keep) ps ≡ true → list_all (stays_in place) (chars (plain_of ps)) ≡ true → list_all (piece_stays place) ps ≡ true
pieces-stay place t [] are utf8 safe stay = refl
pieces-stay place t (p ∷ ps) are utf8 safe stay =
    let both = piece_and_rest p are.0 are.2 (subst IsUtf8 are.1 utf8) in
    let allowed = and_parts (may_stay Keep p) (list_all (may_stay Keep) ps) safe in
    let split = ap (list_all (stays_in place)) (chars-append (plain_bytes p) (plain_of ps) (plain_bytes-utf8 p both.0)) ∙ list_all-append (stays_in place) (chars (plain_bytes p)) (chars (plain_of ps)) in
    let parts = and_parts (list_all (stays_in place) (chars (plain_bytes p))) (list_all (stays_in place) (chars (plain_of ps))) (sym split ∙ stay) in
    and_from _ _ (by p allowed.0 parts.0) (pieces-stay place are.0 ps are.3 both.1 allowed.1 parts.1)
  where
    by : (p : Piece) → may_stay Keep p ≡ true → list_all (stays_in place) (chars (plain_bytes p)) ≡ true → piece_stays place p ≡ true
    by (Text w) allowed stays = and_from _ _ allowed stays
    by (Sequence w) allowed stays = allowed
    by LoneEscape allowed stays = allowed

-- so what a text is in a place stays as it is there
pub is_placed-placed : (place : Place) (t : List ℕ) → IsUtf8 t → IsUtf8 (placed place t) → is_placed place (placed place t) ≡ true
is_placed-placed place t utf8 text =
    let u = placed place t in
    pieces-stay place u (pieces_of u) (pieces_are u) text (placed-is_safe place t utf8) (placed-stays_in place t utf8)

pub placed_stays : (place : Place) (t : List ℕ) → IsUtf8 t → placed place t ≡ t → is_placed place t ≡ true
placed_stays place t utf8 same = subst (λ u. is_placed place u ≡ true) same (is_placed-placed place t utf8 (subst IsUtf8 (sym same) utf8))

-- Two texts that stay as they are do so one after the other.
pub stays-append : (place : Place) (u v : List ℕ) → IsUtf8 u → IsUtf8 v → placed place u ≡ u → placed place v ≡ v → placed place (u ++ v) ≡ u ++ v
stays-append place u v utf8_u utf8_v first second =
    let ps = placed_pieces place (pieces_of u) in
    let qs = placed_pieces place (pieces_of v) in
    let good_u = placed-good place u (pieces_of u) (pieces_are u) utf8_u in
    let good_v = placed-good place v (pieces_of v) (pieces_are v) utf8_v in
    let good = AreGood-append Keep ps qs good_u good_v in
    let utf8 = IsUtf8-append u v utf8_u utf8_v in
    let spells_u : spelled ps ≡ u = spelled-placed place (pieces_of u) ∙ first in
    let spells_v : spelled qs ≡ v = spelled-placed place (pieces_of v) ∙ second in
    let spells : spelled (ps ++ qs) ≡ u ++ v = flat_map-append spelling ps qs ∙ ap₂ ◌++◌ spells_u spells_v in
    let safe : is_safe Keep (u ++ v) ≡ true = ap (is_safe Keep) (sym spells) ∙ good_are_safe Keep (ps ++ qs) good in
    let plain_u : plain_of ps ≡ plain u = sym (plain-spelled ps (good_stand Keep ps good_u)) ∙ ap plain spells_u in
    let plain_v : plain_of qs ≡ plain v = sym (plain-spelled qs (good_stand Keep qs good_v)) ∙ ap plain spells_v in
    let bytes : plain (u ++ v) ≡ plain u ++ plain v = ap plain (sym spells) ∙ plain-spelled (ps ++ qs) (good_stand Keep (ps ++ qs) good) ∙ flat_map-append plain_bytes ps qs ∙ ap₂ ◌++◌ plain_u plain_v in
    let all_u = ap (λ w. list_all (stays_in place) (chars (plain w))) (sym first) ∙ placed-stays_in place u utf8_u in
    let all_v = ap (λ w. list_all (stays_in place) (chars (plain w))) (sym second) ∙ placed-stays_in place v utf8_v in
    let stay : list_all (stays_in place) (chars (plain (u ++ v))) ≡ true = ap (λ w. list_all (stays_in place) (chars w)) bytes ∙ ap (list_all (stays_in place)) (chars-append (plain u) (plain v) (IsUtf8-plain u utf8_u))
    ∙ list_all-append (stays_in place) (chars (plain u)) (chars (plain v)) ∙ and_from _ _ all_u all_v in
    placed-stays place (u ++ v) utf8 (pieces-stay place (u ++ v) (pieces_of (u ++ v)) (pieces_are (u ++ v)) utf8 safe stay)

-- Ordinary characters in front of others.

printing-stays : (place : Place) (c : ℕ) → (is_printing c || (false && (c == 9 || c == 10))) ≡ true → stays_in place c ≡ true
printing-stays place c is = by place (is_printing c) (c == 9) (c == 10) (c == 13) (printing-other c) is
  where
    by_cell : (p t n r : Bool) → (p ≡ true → (t || (n || r)) ≡ false) → (p || false) ≡ true → not (t || (n || r)) ≡ true
    by_cell true t n r other is = ap not (other refl)
    by_cell false t n r other is = absurd (cc is)

    by_paragraph : (p t n r : Bool) → (p ≡ true → (t || (n || r)) ≡ false) → (p || false) ≡ true → not t ≡ true
    by_paragraph true true n r other is = absurd (cc (other refl))
    by_paragraph true false n r other is = refl
    by_paragraph false t n r other is = absurd (cc is)

    by : (place : Place) (p t n r : Bool) → (p ≡ true → (c == 9 || (c == 10 || c == 13)) ≡ false) → (p || false) ≡ true → stays_in place c ≡ true
    by Cell p t n r other is = by_cell p (c == 9) (c == 10) (c == 13) other is
    by Paragraph p t n r other is = by_paragraph p (c == 9) (c == 10) (c == 13) other is

ordinary-stay : (place : Place) (cs : List ℕ) → list_all (is_ordinary_byte false) (encode_utf8_all cs) ≡ true → list_all (stays_in place) cs ≡ true
ordinary-stay place [] all = refl
ordinary-stay place (c ∷ cs) all =
    let parts = ordinary-parts false c cs all in
    and_from _ _ (printing-stays place c parts.0) (ordinary-stay place cs parts.1)

run_stays-ordinary : (place : Place) (cs ds : List ℕ) → list_all (is_ordinary_byte false) (encode_utf8_all cs) ≡ true → run_stays place (cs ++ ds) ≡ run_stays place ds
run_stays-ordinary place cs ds all =
    ap₂ (λ x y. x && y) (all_allowed-ordinary false cs ds all)
    (list_all-append (stays_in place) cs ds ∙ ap (λ b. b && list_all (stays_in place) ds) (ordinary-stay place cs all))

run_in-ordinary : (place : Place) (cs ds : List ℕ) → list_all (is_ordinary_byte false) (encode_utf8_all cs) ≡ true → run_in place (cs ++ ds) ≡ cs ++ run_in place ds
run_in-ordinary place [] ds all = refl
run_in-ordinary place (c ∷ cs) ds all =
    let parts = ordinary-parts false c cs all in
    ap₂ ◌++◌ (ap (λ b. if b then in_place place c else []) (ordinary-allowed false c (cs ++ ds) parts.0) ∙ in_place-itself place c (printing-stays place c parts.0)) (run_in-ordinary place cs ds parts.1)

-- the same of a text, by the way that it is split

pub stays_after_ordinary : (place : Place) (left w cs : List ℕ) → IsUtf8 w → list_all (is_ordinary_byte false) w ≡ true → left ≡ chars w ++ cs → run_stays place left ≡ run_stays place cs
stays_after_ordinary place left w cs utf8 all is = ap (run_stays place) is ∙ run_stays-ordinary place (chars w) cs (ordinary-chars false w utf8 all)

pub in_after_ordinary : (place : Place) (left w cs : List ℕ) → IsUtf8 w → list_all (is_ordinary_byte false) w ≡ true → left ≡ chars w ++ cs → encode_utf8_all (run_in place left) ≡ w ++ encode_utf8_all (run_in place cs)
in_after_ordinary place left w cs utf8 all is =
    ap (λ v. encode_utf8_all (run_in place v)) is ∙ ap encode_utf8_all (run_in-ordinary place (chars w) cs (ordinary-chars false w utf8 all)) ∙ encodes-append (chars w) (run_in place cs)
    ∙ ap (λ u. u ++ encode_utf8_all (run_in place cs)) (encodes-chars w utf8)

pub placed-ordinary : (place : Place) (w rest : List ℕ) → IsUtf8 w → list_all (is_ordinary_byte false) w ≡ true → is_placed place (w ++ rest) ≡ is_placed place rest
placed-ordinary place w rest utf8 all =
    all-ordinary (piece_stays place) false w rest all (λ v. stays_after_ordinary place (chars (w ++ v)) w (chars v) utf8 all (chars-append w v utf8)) (ap (run_stays place) chars-nil)

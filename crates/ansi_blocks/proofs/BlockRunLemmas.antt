-- The blocks of a text, as its runs: their number, their texts joined, and their styles.
use Rattle.ansi_blocks.proofs.Common.{◌≡◌, ◌≢◌, ℕ, zero, suc, ◌+◌, Bool, true, false, not, ◌==◌, List, [], ◌∷◌, ◌++◌, map, filter, flat_map, length, IsTrue, refl, sym, ◌∙◌, ap, ap₂, arith, if◌then◌else◌, append_assoc, append-nil, length-append, and_parts, nat_tests, list_all, escape, is_plain_byte, is_sgr, Piece, Text, ArePieces, spelling, pieces_of, Mark, Placed, places, marks_of, plain_of, plain, is_text, marks_at, copied, Rendition, plain_style, apply, style_within, Block, sequences_before, blocks_from, blocks, runs, without_sgrs, pieces_are, marks_of-text, marks_of-mark}
use Rattle.std.proofs.lemmas.List.{length-map}
use Rattle.ansi_style.specs.Styled.{style_at}
use Rattle.ansi_blocks.proofs.BlockLemmas.{blocks_by_places, blocks_through, blocks_from-walked, bytes_of_others, sequences_at_pieces, others-further, others-here, others-after}

-- blocks by their places, of which only the runs give one

abbrev runs_of : List Placed → List Placed
runs_of qs = filter (λ (q : Placed). is_text q.piece) qs

styles-blocks_by_places : (wait : ℕ → List ℕ) (style : ℕ → Rendition) (qs : List Placed) → map (λ (b : Block). b.style) (blocks_by_places wait style qs) ≡ map (λ (q : Placed). style q.place) (runs_of qs)
styles-blocks_by_places wait style [] = refl
styles-blocks_by_places wait style (q ∷ qs) = by_piece q.piece (styles-blocks_by_places wait style qs)
  where
    by_piece : (p : Piece) → map (λ (b : Block). b.style) (blocks_by_places wait style qs) ≡ map (λ (q : Placed). style q.place) (runs_of qs)
        → map (λ (b : Block). b.style) (blocks_by_places wait style (record q { piece = p } ∷ qs)) ≡ map (λ (q : Placed). style q.place) (runs_of (record q { piece = p } ∷ qs))
    by_piece (Text w) later = ap (λ ss. style q.place ∷ ss) later
    by_piece p later = later

pub styles-blocks : (t : List ℕ) → map (λ (b : Block). b.style) (blocks t) ≡ map (λ (q : Placed). style_at t q.place) (runs t)
unfolding blocks_from
styles-blocks t = styles-blocks_by_places (sequences_before t) (style_within plain_style t) (places (pieces_of t))

pub length-blocks : (t : List ℕ) → length (blocks t) ≡ length (runs t)
length-blocks t =
    sym (length-map (blocks t) (λ (b : Block). b.style)) ∙ ap length (styles-blocks t) ∙ length-map (runs t) (λ (q : Placed). style_at t q.place)

-- The texts of the blocks, joined, by one walk over the pieces with what waits for the next run.

is_sgr-text : (w : List ℕ) → w ≢ [] → IsTrue (list_all is_plain_byte w) → is_sgr w ≡ false
is_sgr-text [] some bare = absurd (some refl)
is_sgr-text (b ∷ w) some bare =
    let first : IsTrue (is_plain_byte b) = (and_parts (is_plain_byte b) (list_all is_plain_byte w) bare).0 in
    let apart : (escape == b) ≡ false = grind (arith, nat_tests) in
    rw apart

copied-text : (w : List ℕ) → w ≢ [] → IsTrue (list_all is_plain_byte w) → copied (Text w) ≡ w
copied-text w some bare = ap (λ b. if b then [] else w) (is_sgr-text w some bare)

without_sgrs-copied : (ps : List Piece) → flat_map spelling (filter (λ p. not (is_sgr (spelling p))) ps) ≡ flat_map copied ps
without_sgrs-copied [] = refl
without_sgrs-copied (p ∷ ps) = by_kind (is_sgr (spelling p)) (without_sgrs-copied ps)
  where
    by_kind : (b : Bool) → flat_map spelling (filter (λ p. not (is_sgr (spelling p))) ps) ≡ flat_map copied ps
        → flat_map spelling (if not b then p ∷ filter (λ p. not (is_sgr (spelling p))) ps else filter (λ p. not (is_sgr (spelling p))) ps) ≡ (if b then [] else spelling p) ++ flat_map copied ps
    by_kind true more = more
    by_kind false more = ap (λ v. spelling p ++ v) more

-- what waits at the end, if these sequences wait for the first run
abbrev sequences_after_pieces : List ℕ → List Piece → List ℕ
sequences_after_pieces held [] = held
sequences_after_pieces held (Text w ∷ ps) = sequences_after_pieces [] ps
sequences_after_pieces held (p ∷ ps) = sequences_after_pieces (held ++ copied p) ps

abbrev texts_of : List Block → List ℕ
texts_of bs = flat_map (λ (b : Block). b.text) bs

texts-through : (s : Rendition) (held : List ℕ) (ps : List Piece) (t : List ℕ) → ArePieces t ps → texts_of (blocks_through s held ps) ++ sequences_after_pieces held ps ≡ held ++ flat_map copied ps
texts-through s held [] t are = sym (append-nil held)
texts-through s held (Text w ∷ ps) t are =
    let more : texts_of (blocks_through s [] ps) ++ sequences_after_pieces [] ps ≡ flat_map copied ps = texts-through s [] ps are.0 are.3 in
    append_assoc (held ++ w) (texts_of (blocks_through s [] ps)) (sequences_after_pieces [] ps)
    ∙ ap (λ v. (held ++ w) ++ v) more
    ∙ append_assoc held w (flat_map copied ps)
    ∙ ap (λ v. held ++ (v ++ flat_map copied ps)) (sym (copied-text w are.2.0 are.2.1))
texts-through s held (p ∷ ps) t are =
    texts-through (apply s (spelling p)) (held ++ copied p) ps are.0 are.3 ∙ append_assoc held (copied p) (flat_map copied ps)

-- these sequences, at the front
abbrev at_front : ℕ → List ℕ → List ℕ
at_front n held = if n == 0 then held else []

at_front-nil : (n : ℕ) → at_front n [] ≡ []
at_front-nil n = either (n == 0) []
  where
    either : (b : Bool) (v : List ℕ) → (if b then v else v) ≡ v
    either true v = refl
    either false v = refl

at_front-mark : (held v : List ℕ) (ms : List Mark) (n : ℕ)
    → at_front n (held ++ (if is_sgr v then [] else v)) ++ bytes_of_others (marks_at n ms) ≡ at_front n held ++ bytes_of_others (marks_at n (record { place = 0; bytes = v } ∷ ms))
at_front-mark held v ms zero =
    append_assoc held (if is_sgr v then [] else v) (bytes_of_others (marks_at 0 ms)) ∙ ap (λ u. held ++ u) (sym (others-here v ms))
at_front-mark held v ms (suc k) =
    let past : (suc k == 0) ≡ false = grind (arith, nat_tests) in
    ap (λ b. (if b then held ++ (if is_sgr v then [] else v) else []) ++ bytes_of_others (marks_at (suc k) ms)) past
    ∙ sym (ap₂ (λ b u. (if b then held else []) ++ u) past (others-after v ms (suc k) (omega arith)))

sequences_after_pieces-end : (held : List ℕ) (ps : List Piece) (t : List ℕ) → ArePieces t ps → sequences_after_pieces held ps ≡ at_front (length (plain_of ps)) held ++ sequences_at_pieces ps (length (plain_of ps))
sequences_after_pieces-end held [] t are = sym (append-nil held)
sequences_after_pieces-end held (Text [] ∷ ps) t are = absurd (are.2.0 refl)
sequences_after_pieces-end held (Text (c ∷ w) ∷ ps) t are =
    let n = length (c ∷ w) in
    let len = length (plain_of ps) in
    let all : length (plain_of (Text (c ∷ w) ∷ ps)) ≡ n + len = length-append (c ∷ w) (plain_of ps) in
    let past : (n + len == 0) ≡ false = grind (arith, nat_tests) in
    sequences_after_pieces-end [] ps are.0 are.3
    ∙ ap (λ v. v ++ sequences_at_pieces ps len) (at_front-nil len)
    ∙ sym (ap (λ k. at_front k held ++ sequences_at_pieces (Text (c ∷ w) ∷ ps) k) all
    ∙ ap₂ (λ b v. (if b then held else []) ++ v) past (ap (λ ms. bytes_of_others (marks_at (n + len) ms)) (marks_of-text (c ∷ w) ps) ∙ others-further n len (marks_of ps)))
sequences_after_pieces-end held (p ∷ ps) t are =
    let len = length (plain_of ps) in
    sequences_after_pieces-end (held ++ copied p) ps are.0 are.3
    ∙ at_front-mark held (spelling p) (marks_of ps) len
    ∙ ap (λ ms. at_front len held ++ bytes_of_others (marks_at len ms)) (sym (marks_of-mark p ps refl))

pub texts-blocks : (t : List ℕ) → texts_of (blocks t) ++ sequences_before t (length (plain t)) ≡ without_sgrs t
texts-blocks t =
    let len = length (plain t) in
    let ps = pieces_of t in
    let last : sequences_after_pieces [] ps ≡ sequences_before t len = sequences_after_pieces-end [] ps t (pieces_are t) ∙ ap (λ v. v ++ sequences_at_pieces ps len) (at_front-nil len) in
    ap₂ (λ bs v. texts_of bs ++ v) (blocks_from-walked plain_style t) (sym last)
    ∙ texts-through plain_style [] ps t (pieces_are t)
    ∙ sym (without_sgrs-copied ps)

-- The blocks of a text, by one walk over its pieces with what waits for the next run, and a running style.
use Rattle.ansi_blocks.proofs.Common.{◌≡◌, ℕ, IsTrue, zero, suc, ◌≤◌, ◌+◌, ◌<◌, Bool, true, false, not, ◌==◌, List, [], ◌∷◌, ◌++◌, map, filter, filter_map, length, refl, sym, ◌∙◌, ap, ap₂, subst, arith, if◌then◌else◌, append_assoc, append-nil, nat_tests, list_all, is_sgr, Piece, Text, spelling, ArePieces, first_piece, first_pieces, pieces_of, Mark, Placed, placed_further_on, places, marks_of, joined, has_escape, marks_at, copied, Rendition, plain_style, apply, style_within, Block, sequences_before, block_after, block_of, blocks_from, blocks, pieces_are, mark_further_on, marks_of-text, marks_of-mark, style_by_marks, style_by_marks-before, style_by_marks-text, style_by_marks-mark}
use Rattle.std.specs.Prelude.{IsFalse}
use Rattle.ansi_items.proofs.PlainLemmas.{one_text, pieces_of-bare}

-- the blocks of pieces, if these sequences wait for the first run, and s is the style before the pieces
abbrev pub blocks_through : Rendition → List ℕ → List Piece → List Block
blocks_through s held [] = []
blocks_through s held (Text w ∷ ps) = block_after held w s ∷ blocks_through s [] ps
blocks_through s held (p ∷ ps) = blocks_through (apply s (spelling p)) (held ++ copied p) ps

-- the sequences before the first run that are no SGR
abbrev pub sequences_before_pieces : List Piece → List ℕ
sequences_before_pieces [] = []
sequences_before_pieces (Text w ∷ ps) = []
sequences_before_pieces (p ∷ ps) = copied p ++ sequences_before_pieces ps

-- What waits at a place, by the marks.

-- the bytes of marks that are no SGR
abbrev pub bytes_of_others : List Mark → List ℕ
bytes_of_others ms = joined (filter (λ m. not (is_sgr m.bytes)) ms)

abbrev pub sequences_at_pieces : List Piece → ℕ → List ℕ
sequences_at_pieces ps i = bytes_of_others (marks_at i (marks_of ps))

pub others-further : (n i : ℕ) (ms : List Mark) → bytes_of_others (marks_at (n + i) (map (mark_further_on n) ms)) ≡ bytes_of_others (marks_at i ms)
others-further n i [] = refl
others-further n i (m ∷ ms) =
    let same : (n + m.place == n + i) ≡ (m.place == i) = grind (arith, nat_tests) in
    let later = marks_at (n + i) (map (mark_further_on n) ms) in
    ap (λ b. bytes_of_others (if b then mark_further_on n m ∷ later else later)) same
    ∙ with_head (m.place == i) later (marks_at i ms) (others-further n i ms)
  where
    with_head : (here : Bool) (ks ls : List Mark) → bytes_of_others ks ≡ bytes_of_others ls
        → bytes_of_others (if here then mark_further_on n m ∷ ks else ks) ≡ bytes_of_others (if here then m ∷ ls else ls)
    with_head true ks ls same = by_kind (not (is_sgr m.bytes))
      where
        by_kind : (b : Bool) → joined (if b then mark_further_on n m ∷ filter (λ k. not (is_sgr k.bytes)) ks else filter (λ k. not (is_sgr k.bytes)) ks) ≡ joined (if b then m ∷ filter (λ k. not (is_sgr k.bytes)) ls else filter (λ k. not (is_sgr k.bytes)) ls)
        by_kind true = ap (λ v. m.bytes ++ v) same
        by_kind false = same
    with_head false ks ls same = same

-- marks at later places aren't at the front
others-front : (n : ℕ) (ms : List Mark) → 0 < n → bytes_of_others (marks_at 0 (map (mark_further_on n) ms)) ≡ []
others-front n [] some = refl
others-front n (m ∷ ms) some =
    let apart : (n + m.place == 0) ≡ false = grind (arith, nat_tests) in
    ap (λ b. bytes_of_others (if b then mark_further_on n m ∷ marks_at 0 (map (mark_further_on n) ms) else marks_at 0 (map (mark_further_on n) ms))) apart ∙ others-front n ms some

-- a mark at the front
pub others-here : (v : List ℕ) (ms : List Mark) → bytes_of_others (marks_at 0 (record { place = 0; bytes = v } ∷ ms)) ≡ (if is_sgr v then [] else v) ++ bytes_of_others (marks_at 0 ms)
others-here v ms = by_kind (is_sgr v)
  where
    by_kind : (b : Bool) → joined (if not b then record { place = 0; bytes = v } ∷ filter (λ k. not (is_sgr k.bytes)) (marks_at 0 ms) else filter (λ k. not (is_sgr k.bytes)) (marks_at 0 ms)) ≡ (if b then [] else v) ++ bytes_of_others (marks_at 0 ms)
    by_kind true = refl
    by_kind false = refl

pub others-after : (v : List ℕ) (ms : List Mark) (i : ℕ) → 0 < i → bytes_of_others (marks_at i (record { place = 0; bytes = v } ∷ ms)) ≡ bytes_of_others (marks_at i ms)
others-after v ms i some =
    let apart : (0 == i) ≡ false = grind (arith, nat_tests) in
    ap (λ b. bytes_of_others (if b then record { place = 0; bytes = v } ∷ marks_at i ms else marks_at i ms)) apart

-- The walk.

-- blocks by places: what waits at each, and the style there
abbrev pub blocks_by_places : (ℕ → List ℕ) → (ℕ → Rendition) → List Placed → List Block
blocks_by_places wait style qs = filter_map (λ (q : Placed). block_of (wait q.place) (style q.place) q.piece) qs

blocks_by_places-further : (wait : ℕ → List ℕ) (style : ℕ → Rendition) (n : ℕ) (qs : List Placed) → blocks_by_places wait style (map (placed_further_on n) qs) ≡ blocks_by_places (λ i. wait (n + i)) (λ i. style (n + i)) qs
blocks_by_places-further wait style n [] = refl
blocks_by_places-further wait style n (q ∷ qs) = by_piece q.piece (blocks_by_places-further wait style n qs)
  where
    by_piece : (p : Piece) → blocks_by_places wait style (map (placed_further_on n) qs) ≡ blocks_by_places (λ i. wait (n + i)) (λ i. style (n + i)) qs
        → blocks_by_places wait style (map (placed_further_on n) (record q { piece = p } ∷ qs)) ≡ blocks_by_places (λ i. wait (n + i)) (λ i. style (n + i)) (record q { piece = p } ∷ qs)
    by_piece (Text w) later = ap (λ bs. block_after (wait (n + q.place)) w (style (n + q.place)) ∷ bs) later
    by_piece p later = later

-- what waits at each place, of which the first has these beside those of the pieces, and the style there
record Follows (wait : ℕ → List ℕ) (style : ℕ → Rendition) (held : List ℕ) (s : Rendition) (ps : List Piece) : Type 0 where
  first : wait 0 ≡ held ++ sequences_at_pieces ps 0
  later : (i : ℕ) → 0 < i → wait i ≡ sequences_at_pieces ps i
  styles : (i : ℕ) → style i ≡ style_by_marks s ps i

blocks_by_places-through : (ps : List Piece) (t : List ℕ) → ArePieces t ps → (wait : ℕ → List ℕ) (style : ℕ → Rendition) (held : List ℕ) (s : Rendition) → Follows wait style held s ps
    → blocks_by_places wait style (places ps) ≡ blocks_through s held ps
blocks_by_places-through [] t are wait style held s follows = refl
blocks_by_places-through (Text [] ∷ ps) t are wait style held s follows = absurd (are.2.0 refl)
blocks_by_places-through (Text (c ∷ w) ∷ ps) t are wait style held s follows =
    let n = length (c ∷ w) in
    let none : sequences_at_pieces (Text (c ∷ w) ∷ ps) 0 ≡ [] = ap (λ ms. bytes_of_others (marks_at 0 ms)) (marks_of-text (c ∷ w) ps) ∙ others-front n (marks_of ps) (omega arith) in
    let beyond : (i : ℕ) → wait (n + i) ≡ sequences_at_pieces ps i = λ i.
    follows.later (n + i) (omega arith) ∙ ap (λ ms. bytes_of_others (marks_at (n + i) ms)) (marks_of-text (c ∷ w) ps) ∙ others-further n i (marks_of ps) in
    ap₂ (λ b bs. b ∷ bs)
    (ap₂ (λ v r. block_after v (c ∷ w) r) (follows.first ∙ ap (λ v. held ++ v) none ∙ append-nil held) (follows.styles 0 ∙ style_by_marks-before s (c ∷ w) ps 0 (omega arith)))
    (blocks_by_places-further wait style n (places ps)
    ∙ blocks_by_places-through ps are.0 are.3 (λ i. wait (n + i)) (λ i. style (n + i)) [] s (record {
      first = beyond 0;
      later = λ i some. beyond i;
      styles = λ i. follows.styles (n + i) ∙ style_by_marks-text s (c ∷ w) ps i;
    }))
blocks_by_places-through (p ∷ ps) t are wait style held s follows =
    blocks_by_places-further wait style 0 (places ps)
    ∙ blocks_by_places-through ps are.0 are.3 (λ i. wait (0 + i)) (λ i. style (0 + i)) (held ++ copied p) (apply s (spelling p)) (record {
      first = ap wait (omega arith) ∙ follows.first
          ∙ ap (λ v. held ++ v) (ap (λ ms. bytes_of_others (marks_at 0 ms)) (marks_of-mark p ps refl) ∙ others-here (spelling p) (marks_of ps))
          ∙ sym (append_assoc held (copied p) (sequences_at_pieces ps 0));
      later = λ i some. ap wait (omega arith) ∙ follows.later i some ∙ ap (λ ms. bytes_of_others (marks_at i ms)) (marks_of-mark p ps refl) ∙ others-after (spelling p) (marks_of ps) i some;
      styles = λ i. ap style (omega arith) ∙ follows.styles i ∙ style_by_marks-mark s p ps i refl;
    })

pub blocks_from-walked : (s : Rendition) (t : List ℕ) → blocks_from s t ≡ blocks_through s [] (pieces_of t)
unfolding blocks_from
blocks_from-walked s t = blocks_by_places-through (pieces_of t) t (pieces_are t) (sequences_before t) (style_within s t) [] s (record { first = refl; later = λ i some. refl; styles = λ i. refl })

-- an empty text has no blocks
pub blocks_from-nil : (s : Rendition) → blocks_from s [] ≡ []
blocks_from-nil s = blocks_from-walked s []

sequences_at_pieces-front : (ps : List Piece) (t : List ℕ) → ArePieces t ps → sequences_at_pieces ps 0 ≡ sequences_before_pieces ps
sequences_at_pieces-front [] t are = refl
sequences_at_pieces-front (Text [] ∷ ps) t are = absurd (are.2.0 refl)
sequences_at_pieces-front (Text (c ∷ w) ∷ ps) t are =
    ap (λ ms. bytes_of_others (marks_at 0 ms)) (marks_of-text (c ∷ w) ps) ∙ others-front (length (c ∷ w)) (marks_of ps) (omega arith)
sequences_at_pieces-front (p ∷ ps) t are =
    ap (λ ms. bytes_of_others (marks_at 0 ms)) (marks_of-mark p ps refl) ∙ others-here (spelling p) (marks_of ps) ∙ ap (λ v. copied p ++ v) (sequences_at_pieces-front ps are.0 are.3)

pub sequences_before-front : (t : List ℕ) → sequences_before t 0 ≡ sequences_before_pieces (pieces_of t)
sequences_before-front t = sequences_at_pieces-front (pieces_of t) t (pieces_are t)

-- There are no more blocks than bytes.

length-first_pieces : (n : ℕ) (t : List ℕ) → length (first_pieces n t) ≤ n
length-first_pieces zero t = omega arith
length-first_pieces (suc n) [] = omega arith
length-first_pieces (suc n) (b ∷ bs) = omega (arith, length-first_pieces n (first_piece (b ∷ bs)).1)

length-blocks_through : (s : Rendition) (held : List ℕ) (ps : List Piece) → length (blocks_through s held ps) ≤ length ps
length-blocks_through s held [] = omega arith
length-blocks_through s held (Text w ∷ ps) = omega (arith, length-blocks_through s [] ps)
length-blocks_through s held (p ∷ ps) = omega (arith, length-blocks_through (apply s (spelling p)) (held ++ copied p) ps)

pub length-blocks_from : (s : Rendition) (t : List ℕ) → length (blocks_from s t) ≤ length t
length-blocks_from s t =
    rw (blocks_from-walked s t) (omega (arith, length-blocks_through s [] (pieces_of t), length-first_pieces (length t) t))

-- Of a text without ESC each block is a borrow.

one_text_borrows : (t : List ℕ) → IsTrue (list_all (λ (b : Block). b.is_borrow) (blocks_through plain_style [] (one_text t)))
one_text_borrows [] = refl
one_text_borrows (b ∷ t) = refl

pub blocks-bare : (t : List ℕ) → IsFalse (has_escape t) → IsTrue (list_all (λ (b : Block). b.is_borrow) (blocks t))
blocks-bare t none =
    let walked : blocks t ≡ blocks_through plain_style [] (one_text t) = blocks_from-walked plain_style t ∙ ap (blocks_through plain_style []) (pieces_of-bare t none) in
    subst (λ bs. IsTrue (list_all (λ (b : Block). b.is_borrow) bs)) (sym walked) (one_text_borrows t)

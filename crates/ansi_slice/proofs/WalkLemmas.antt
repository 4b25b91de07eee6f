-- What is made of each piece at its place and in the style there, by one walk with a running place and a running style.
use Rattle.ansi_slice.proofs.Common.{◌≡◌, ◌≢◌, ℕ, ◌+◌, List, [], ◌∷◌, ◌++◌, map, flat_map, length, refl, ◌∙◌, ap, ap₂, arith, Piece, Text, spelling, is_mark, true, ArePieces, pieces_of, plain_bytes, Placed, placed_further_on, places, Rendition, plain_style, apply, style_at, pieces_are, style_by_marks, style_by_marks-text, style_by_marks-before, style_by_marks-mark}

-- the style after a piece
abbrev pub style_past : Rendition → Piece → Rendition
style_past s (Text w) = s
style_past s p = apply s (spelling p)

-- what `make` makes of the pieces, of which the first is at the place n and in the style s
abbrev pub walked : {X : Type 0} → (ℕ → Rendition → Piece → List X) → ℕ → Rendition → List Piece → List X
walked make n s [] = []
walked make n s (p ∷ ps) = make n s p ++ walked make (n + length (plain_bytes p)) (style_past s p) ps

-- what is made of a mark doesn't hang on the style
abbrev pub NeedsNoStyle : (ℕ → Rendition → Piece → List ℕ) → Type 0
NeedsNoStyle make = (n : ℕ) (r s : Rendition) (p : Piece) → is_mark p ≡ true → make n r p ≡ make n s p

-- the same by places: `style` is the style at each place
abbrev by_places : (ℕ → Rendition → Piece → List ℕ) → (ℕ → Rendition) → ℕ → List Placed → List ℕ
by_places make style n qs = flat_map (λ (q : Placed). make (n + q.place) (style (n + q.place)) q.piece) qs

by_places-further : (make : ℕ → Rendition → Piece → List ℕ) (style : ℕ → Rendition) (n m : ℕ) (qs : List Placed) → by_places make style n (map (placed_further_on m) qs) ≡ by_places make style (n + m) qs
by_places-further make style n m [] = refl
by_places-further make style n m (q ∷ qs) = ap₂ (λ i v. make i (style i) q.piece ++ v) (omega arith) (by_places-further make style n m qs)

-- n is the place of the pieces, and s the style before them
abbrev FollowsMarks : (ℕ → Rendition) → ℕ → Rendition → List Piece → Type 0
FollowsMarks style n s ps = (i : ℕ) → style (n + i) ≡ style_by_marks s ps i

follows-text : (style : ℕ → Rendition) (n : ℕ) (s : Rendition) (w : List ℕ) (ps : List Piece) → FollowsMarks style n s (Text w ∷ ps) → FollowsMarks style (n + length w) s ps
follows-text style n s w ps follows i = ap style (omega arith) ∙ follows (length w + i) ∙ style_by_marks-text s w ps i

-- at the first byte of a text no mark after it has been reached
follows-first : (style : ℕ → Rendition) (n : ℕ) (s : Rendition) (w : List ℕ) (ps : List Piece) → w ≢ [] → FollowsMarks style n s (Text w ∷ ps) → style (n + 0) ≡ s
follows-first style n s [] ps filled follows = absurd (filled refl)
follows-first style n s (b ∷ w) ps filled follows = follows 0 ∙ style_by_marks-before s (b ∷ w) ps 0 (omega arith)

follows-mark : (style : ℕ → Rendition) (n : ℕ) (s : Rendition) (p : Piece) (ps : List Piece) → is_mark p ≡ true → FollowsMarks style n s (p ∷ ps) → FollowsMarks style (n + 0) (apply s (spelling p)) ps
follows-mark style n s p ps is follows i = ap style (omega arith) ∙ follows i ∙ style_by_marks-mark s p ps i is

by_places-walked : (make : ℕ → Rendition → Piece → List ℕ) → NeedsNoStyle make → (style : ℕ → Rendition) (ps : List Piece) (t : List ℕ) → ArePieces t ps → (n : ℕ) (s : Rendition) → FollowsMarks style n s ps
    → by_places make style n (places ps) ≡ walked make n s ps
by_places-walked make no_style style [] t are n s is = refl
by_places-walked make no_style style (Text w ∷ ps) t are n s is =
    ap₂ (λ u v. u ++ v)
    (ap₂ (λ i r. make i r (Text w)) (omega arith) (follows-first style n s w ps are.2.0 is))
    (by_places-further make style n (length w) (places ps) ∙ by_places-walked make no_style style ps are.0 are.3 (n + length w) s (follows-text style n s w ps is))
by_places-walked make no_style style (p ∷ ps) t are n s is =
    ap₂ (λ u v. u ++ v)
    (ap (λ i. make i (style i) p) (omega arith) ∙ no_style n (style n) s p refl)
    (by_places-further make style n 0 (places ps) ∙ by_places-walked make no_style style ps are.0 are.3 (n + 0) (apply s (spelling p)) (follows-mark style n s p ps refl is))

by_places-0 : (make : ℕ → Rendition → Piece → List ℕ) (style : ℕ → Rendition) (qs : List Placed) → flat_map (λ (q : Placed). make q.place (style q.place) q.piece) qs ≡ by_places make style 0 qs
by_places-0 make style [] = refl
by_places-0 make style (q ∷ qs) = ap₂ (λ i v. make i (style i) q.piece ++ v) (omega arith) (by_places-0 make style qs)

-- what is made of the pieces of t, by their places, is made by one walk over them
pub walked-all : (make : ℕ → Rendition → Piece → List ℕ) → NeedsNoStyle make → (t : List ℕ)
    → flat_map (λ (q : Placed). make q.place (style_at t q.place) q.piece) (places (pieces_of t)) ≡ walked make 0 plain_style (pieces_of t)
walked-all make no_style t =
    by_places-0 make (style_at t) (places (pieces_of t))
    ∙ by_places-walked make no_style (style_at t) (pieces_of t) t (pieces_are t) 0 plain_style (λ i. ap (style_at t) (omega arith))

-- A side of a whole text is whole, has the slice of its styled bytes, and leaves nothing known open.
use Rattle.ansi_slice.proofs.Common.{◌≡◌, ℕ, ◌+◌, ◌-◌, Bool, true, false, not, ◌==◌, List, [], ◌∷◌, ◌++◌, length, take, drop, nat_le, refl, sym, ◌∙◌, ap, ap₂, subst, arith, IsTrue, append-nil, if◌then◌else◌, cond_both, cond-false, ne_eqb, eqb-false, flat_map-append, take-nil, drop-nil, length-map, take-append-drop, take-map, drop-map, list_all, is_plain_byte, is_sgr, Piece, Text, spelling, Sequence, LoneEscape, pieces_of, plain, plain_bytes, is_whole, copied, Rendition, known, plain_style, IsStyle, apply, close_codes, StyledByte, styled, dressed, left_part, right_part, left_side, right_side, apply-no_sgr, IsStyle-apply, IsStyle-plain_style, spelled, AllStandAnywhere, stand-append, pieces_stand, styled_through, in_style, styled-pieces, styled-append, close_codes_are, GiveAlone, give-nothing, give-append, IsClosed, closed-spelled, dressed_pieces, spelled-dressed_pieces, dressed_pieces_stand, dressed_pieces_give, close_codes_clear, is_mark}
use Rattle.ansi_search.proofs.SliceLemmas.{take-append, drop-append, list_all-parts}
use Rattle.ansi_slice.proofs.WalkLemmas.{walked, style_past}
use Rattle.ansi_slice.proofs.SideLemmas.{left_side-walked, right_side-walked}

-- A text between the start and the close of a style.

abbrev dressed_text : Rendition → List ℕ → List Piece
dressed_text s w = if length w == 0 then [] else dressed_pieces s (Text w ∷ []) (close_codes s)

spelled-dressed_text : (s : Rendition) (w : List ℕ) → spelled (dressed_text s w) ≡ dressed s w
spelled-dressed_text s w = grind (arith, append-nil, spelled-dressed_pieces)

dressed_text_gives : (s : Rendition) (w : List ℕ) → IsStyle s → GiveAlone (dressed_text s w) (in_style s w)
dressed_text_gives s [] is = give-nothing
dressed_text_gives s (b ∷ w) is =
    let ps = dressed_pieces s (Text (b ∷ w) ∷ []) (close_codes s) in
    let some : (length (b ∷ w) == 0) ≡ false = ne_eqb (length (b ∷ w)) 0 (λ none. omega (arith, none)) in
    let give = dressed_pieces_give s s (Text (b ∷ w) ∷ []) (close_codes s) is refl (λ p same. close_codes_clear p s same) in
    subst (λ qs. GiveAlone qs (in_style s (b ∷ w))) (sym (cond-false (length (b ∷ w) == 0) [] ps some)) (subst (GiveAlone ps) (append-nil (in_style s (b ∷ w))) give)

dressed_text_stands : (s : Rendition) (w : List ℕ) → IsStyle s → list_all is_plain_byte w ≡ true → AllStandAnywhere (dressed_text s w)
dressed_text_stands s w is plain =
    cond_both (length w == 0) [] (dressed_pieces s (Text w ∷ []) (close_codes s)) AllStandAnywhere
    (λ none. tt)
    (λ some. dressed_pieces_stand s (Text w ∷ []) (close_codes s) is (((λ e. eqb-false (length w) 0 some (ap length e)), plain), tt) (close_codes_are s))

-- A side takes of each text the bytes that `pick` takes, and the sequences at places that pass the test.

-- `pick` takes bytes of a text as `among` takes styled bytes
record Picks (pick : ℕ → List ℕ → List ℕ) (among : ℕ → List StyledByte → List StyledByte) : Type 0 where
  as_styled : (n : ℕ) (s : Rendition) (w : List ℕ) → in_style s (pick n w) ≡ among n (in_style s w)
  of_nothing : (n : ℕ) → among n [] ≡ []
  of_both : (n : ℕ) (bs cs : List StyledByte) → among n (bs ++ cs) ≡ among n bs ++ among (n - length bs) cs
  stays_plain : (n : ℕ) (w : List ℕ) → list_all is_plain_byte w ≡ true → list_all is_plain_byte (pick n w) ≡ true

-- the pieces that a piece gives to a side
abbrev side_pieces : (ℕ → List ℕ → List ℕ) → (ℕ → Bool) → ℕ → ℕ → Rendition → Piece → List Piece
side_pieces pick test mid place s (Text w) = dressed_text s (pick (mid - place) w)
side_pieces pick test mid place s p = if test place then (if is_sgr (spelling p) then [] else p ∷ []) else []

mark_gives : (b : Bool) (p : Piece) → is_mark p ≡ true → GiveAlone (if b then (if is_sgr (spelling p) then [] else p ∷ []) else []) []
mark_gives b (Text w) is = absurd (cc is)
mark_gives b p is = grind (arith, GiveAlone, apply-no_sgr, give-nothing)

side_pieces_give : (pick : ℕ → List ℕ → List ℕ) (among : ℕ → List StyledByte → List StyledByte) → Picks pick among → (test : ℕ → Bool) (mid : ℕ) (ps : List Piece) (n : ℕ) (s : Rendition) → IsStyle s
    → GiveAlone (walked (side_pieces pick test mid) n s ps) (among (mid - n) (styled_through s ps))
side_pieces_give pick among picks test mid [] n s is = subst (GiveAlone []) (sym (picks.of_nothing (mid - n))) give-nothing
side_pieces_give pick among picks test mid (Text w ∷ ps) n s is =
    let later = side_pieces_give pick among picks test mid ps (n + length w) s is in
    let own = dressed_text s (pick (mid - n) w) in
    let size : length (in_style s w) ≡ length w = length-map w _ in
    let left : mid - (n + length w) ≡ mid - n - length (in_style s w) = omega (arith, size) in
    subst (GiveAlone (own ++ walked (side_pieces pick test mid) (n + length w) s ps))
    (ap₂ (λ u k. u ++ among k (styled_through s ps)) (picks.as_styled (mid - n) s w) left ∙ sym (picks.of_both (mid - n) (in_style s w) (styled_through s ps)))
    (give-append own (walked (side_pieces pick test mid) (n + length w) s ps) (in_style s (pick (mid - n) w)) (among (mid - (n + length w)) (styled_through s ps)) (dressed_text_gives s (pick (mid - n) w) is) later)
side_pieces_give pick among picks test mid (p ∷ ps) n s is =
    let next = apply s (spelling p) in
    let later = side_pieces_give pick among picks test mid ps (n + 0) next (IsStyle-apply s (spelling p) is) in
    let rest = walked (side_pieces pick test mid) (n + 0) next ps in
    let same : mid - (n + 0) ≡ mid - n = omega arith in
    give-append (side_pieces pick test mid n s p) rest [] (among (mid - n) (styled_through next ps)) (mark_gives (test n) p refl)
    (subst (λ k. GiveAlone rest (among k (styled_through next ps))) same later)

side_pieces_stand : (pick : ℕ → List ℕ → List ℕ) (among : ℕ → List StyledByte → List StyledByte) → Picks pick among → (test : ℕ → Bool) (mid : ℕ) (ps : List Piece) (n : ℕ) (s : Rendition) → IsStyle s
    → AllStandAnywhere ps → AllStandAnywhere (walked (side_pieces pick test mid) n s ps)
side_pieces_stand pick among picks test mid [] n s is all = tt
side_pieces_stand pick among picks test mid (Text w ∷ ps) n s is all = grind (arith, dressed_text_stands, stand-append, side_pieces_stand pick among picks test mid ps (n + length w) s is all.1)
side_pieces_stand pick among picks test mid (Sequence w ∷ ps) n s is all =
    stand-append (side_pieces pick test mid n s (Sequence w)) (walked (side_pieces pick test mid) (n + 0) (apply s w) ps)
    (cond_both (test n) (if is_sgr w then [] else Sequence w ∷ []) [] AllStandAnywhere
    (λ goes. cond_both (is_sgr w) [] (Sequence w ∷ []) AllStandAnywhere (λ sgr. tt) (λ other. (all.0, tt))) (λ stays. tt))
    (side_pieces_stand pick among picks test mid ps (n + 0) (apply s w) (IsStyle-apply s w is) all.1)
side_pieces_stand pick among picks test mid (LoneEscape ∷ ps) n s is all = absurd all.0

-- the bytes that are made of each piece are those that its pieces spell
spelled-walked : (pieces : ℕ → Rendition → Piece → List Piece) (bytes : ℕ → Rendition → Piece → List ℕ) → ((n : ℕ) (s : Rendition) (p : Piece) → spelled (pieces n s p) ≡ bytes n s p)
    → (ps : List Piece) (n : ℕ) (s : Rendition) → spelled (walked pieces n s ps) ≡ walked bytes n s ps
spelled-walked pieces bytes same [] n s = refl
spelled-walked pieces bytes same (p ∷ ps) n s = grind (arith, flat_map-append, spelled-walked pieces bytes same ps (n + length (plain_bytes p)) (style_past s p))

is_side : (pick : ℕ → List ℕ → List ℕ) (among : ℕ → List StyledByte → List StyledByte) → Picks pick among → (test : ℕ → Bool) (part : ℕ → Rendition → Piece → List ℕ) (t : List ℕ) (mid : ℕ)
    → ((n : ℕ) (s : Rendition) (p : Piece) → spelled (side_pieces pick test mid n s p) ≡ part n s p) → IsTrue (is_whole t)
    → IsClosed (among mid (styled t)) (walked part 0 plain_style (pieces_of t))
is_side pick among picks test part t mid spells whole =
    let qs = walked (side_pieces pick test mid) 0 plain_style (pieces_of t) in
    let give = side_pieces_give pick among picks test mid (pieces_of t) 0 plain_style IsStyle-plain_style in
    let stand = side_pieces_stand pick among picks test mid (pieces_of t) 0 plain_style IsStyle-plain_style (pieces_stand t whole) in
    let all : mid - 0 ≡ mid = omega arith in
    subst (IsClosed (among mid (styled t))) (spelled-walked (side_pieces pick test mid) part spells (pieces_of t) 0 plain_style)
    (closed-spelled qs (among mid (styled t)) stand (subst (GiveAlone qs) (ap₂ among all (sym (styled-pieces t))) give))

-- The left side takes the first bytes, and the right side the others.

Picks-take : Picks (λ n w. take n w) (λ n bs. take n bs)
Picks-take = record {
  as_styled = λ n s w. sym (take-map (λ b. record { byte = b; style = known s }) n w);
  of_nothing = take-nil;
  of_both = λ n bs cs. take-append n bs cs;
  stays_plain = λ n w all. (list_all-parts is_plain_byte n w all).0;
}

Picks-drop : Picks (λ n w. drop n w) (λ n bs. drop n bs)
Picks-drop = record {
  as_styled = λ n s w. sym (drop-map (λ b. record { byte = b; style = known s }) n w);
  of_nothing = drop-nil;
  of_both = λ n bs cs. drop-append n bs cs;
  stays_plain = λ n w all. (list_all-parts is_plain_byte n w all).1;
}

spelled-mark : (goes : Bool) (p : Piece) → spelled (if goes then (if is_sgr (spelling p) then [] else p ∷ []) else []) ≡ (if goes then copied p else [])
spelled-mark goes p = grind (arith, append-nil)

if-not : (b : Bool) (v : List ℕ) → (if not b then v else []) ≡ (if b then [] else v)
if-not true v = refl
if-not false v = refl

spelled-left : (mid n : ℕ) (s : Rendition) (p : Piece) → spelled (side_pieces (λ k w. take k w) (λ n. nat_le n mid) mid n s p) ≡ left_part mid n s p
spelled-left mid n s p = grind (arith, spelled-dressed_text, spelled-mark)

spelled-right : (mid n : ℕ) (s : Rendition) (p : Piece) → spelled (side_pieces (λ k w. drop k w) (λ n. not (nat_le n mid)) mid n s p) ≡ right_part mid n s p
spelled-right mid n s p = grind (arith, spelled-dressed_text, spelled-mark, if-not)

-- at every position, whether it is good or not
pub left_side_is : (t : List ℕ) (mid : ℕ) → IsTrue (is_whole t) → IsClosed (take mid (styled t)) (left_side t mid)
left_side_is t mid whole =
    subst (IsClosed (take mid (styled t))) (sym (left_side-walked t mid))
    (is_side (λ n w. take n w) (λ n bs. take n bs) Picks-take (λ n. nat_le n mid) (left_part mid) t mid (spelled-left mid) whole)

pub right_side_is : (t : List ℕ) (mid : ℕ) → IsTrue (is_whole t) → IsClosed (drop mid (styled t)) (right_side t mid)
right_side_is t mid whole =
    subst (IsClosed (drop mid (styled t))) (sym (right_side-walked t mid))
    (is_side (λ n w. drop n w) (λ n bs. drop n bs) Picks-drop (λ n. not (nat_le n mid)) (right_part mid) t mid (spelled-right mid) whole)

-- joined, the sides have the styled bytes of the text
pub styled-sides : (t : List ℕ) (mid : ℕ) → IsTrue (is_whole t) → styled (left_side t mid ++ right_side t mid) ≡ styled t
styled-sides t mid whole =
    let left = left_side_is t mid whole in
    let right = right_side_is t mid whole in
    styled-append (left_side t mid) (right_side t mid) left.whole right.whole left.closed
    ∙ ap₂ (λ x y. x ++ y) left.styled_bytes right.styled_bytes ∙ take-append-drop mid (styled t)

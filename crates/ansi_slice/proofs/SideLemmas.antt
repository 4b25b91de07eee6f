-- The sides of a text as one walk over its pieces; and of a text without ESC.
use Rattle.ansi_slice.proofs.Common.{◌≡◌, ℕ, ◌-◌, List, [], ◌∷◌, take, drop, refl, sym, ◌∙◌, ap, arith, append-nil, IsFalse, ne_eqb, take-nil, drop-nil, true, Piece, Text, is_mark, pieces_of, has_escape, Rendition, plain_style, dressed, left_part, right_part, left_side, right_side, one_text, pieces_of-bare}
use Rattle.ansi_slice.proofs.WalkLemmas.{walked, walked-all}

left_part-mark : (mid n : ℕ) (r s : Rendition) (p : Piece) → is_mark p ≡ true → left_part mid n r p ≡ left_part mid n s p
left_part-mark mid n r s (Text w) is = absurd (cc is)
left_part-mark mid n r s p is = refl

right_part-mark : (mid n : ℕ) (r s : Rendition) (p : Piece) → is_mark p ≡ true → right_part mid n r p ≡ right_part mid n s p
right_part-mark mid n r s (Text w) is = absurd (cc is)
right_part-mark mid n r s p is = refl

pub left_side-walked : (t : List ℕ) (mid : ℕ) → left_side t mid ≡ walked (left_part mid) 0 plain_style (pieces_of t)
unfolding left_side
left_side-walked t mid = walked-all (left_part mid) (left_part-mark mid) t

pub right_side-walked : (t : List ℕ) (mid : ℕ) → right_side t mid ≡ walked (right_part mid) 0 plain_style (pieces_of t)
unfolding right_side
right_side-walked t mid = walked-all (right_part mid) (right_part-mark mid) t

-- In the plain style nothing is written but the bytes themselves.

dressed-plain_style : (w : List ℕ) → dressed plain_style w ≡ w
dressed-plain_style [] = refl
dressed-plain_style (b ∷ w) = grind (arith, append-nil, ne_eqb)

pub left_side-bare : (t : List ℕ) (mid : ℕ) → IsFalse (has_escape t) → left_side t mid ≡ take mid t
left_side-bare t mid none = left_side-walked t mid ∙ ap (walked (left_part mid) 0 plain_style) (pieces_of-bare t none) ∙ of_one t
  where
    of_one : (x : List ℕ) → walked (left_part mid) 0 plain_style (one_text x) ≡ take mid x
    of_one [] = sym (take-nil mid)
    of_one (b ∷ x) =
        let all : mid - 0 ≡ mid = omega arith in
        append-nil (dressed plain_style (take (mid - 0) (b ∷ x))) ∙ dressed-plain_style (take (mid - 0) (b ∷ x)) ∙ ap (λ n. take n (b ∷ x)) all

pub right_side-bare : (t : List ℕ) (mid : ℕ) → IsFalse (has_escape t) → right_side t mid ≡ drop mid t
right_side-bare t mid none = grind (arith, append-nil, dressed-plain_style, drop-nil, pieces_of-bare, right_side-walked)

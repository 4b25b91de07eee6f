-- A side of a text as what its pieces give before a place, or after it; and how far the walk over them has come.
use Rattle.ansi_slice.proofs.Common.{◌≡◌, ℕ, ◌+◌, ◌-◌, ◌<◌, ◌≤◌, inl, inr, true, List, [], ◌∷◌, ◌++◌, length, take, drop, sym, ◌∙◌, refl, ap, ap₂, arith, append_assoc, append-nil, length-append, if◌then◌else◌, cases_lt, le-leb, lt-leb, lt-ltb, le-ltb, take_all, drop_all, length-drop, Kind, Piece, Text, Sequence, spelling, pieces_of, plain_of, copied, length-plain, is_mark, BeginsWithMark, Rendition, plain_style, apply, style_within, style_by_marks, style_by_marks-before, style_by_marks-mark, dressed, left_part, right_part, left_side, right_side, side_up_to, StandsIn}
use Rattle.ansi_slice.proofs.WalkLemmas.{walked}
use Rattle.ansi_slice.proofs.SideLemmas.{left_side-walked, right_side-walked}
use Rattle.ansi_search.proofs.OffsetLemmas.{after_of, after_of-last, after_of-text, style-text, pieces_of-after}

side_up_to-last : (s : Rendition) (n : ℕ) (w : List ℕ) (ps : List Piece) → n < length w → side_up_to s n (Text w ∷ ps) ≡ dressed s (take n w)
side_up_to-last s n w ps last = ap (λ b. if b then dressed s (take n w) else dressed s w ++ side_up_to s (n - length w) ps) (lt-ltb n (length w) last)

side_up_to-text : (s : Rendition) (n : ℕ) (w : List ℕ) (ps : List Piece) → length w ≤ n → side_up_to s n (Text w ∷ ps) ≡ dressed s w ++ side_up_to s (n - length w) ps
side_up_to-text s n w ps within = ap (λ b. if b then dressed s (take n w) else dressed s w ++ side_up_to s (n - length w) ps) (le-ltb n (length w) within)

-- On the left, pieces past the position give nothing.

left-past : (mid n : ℕ) (s : Rendition) (ps : List Piece) → mid < n → walked (left_part mid) n s ps ≡ []
left-past mid n s [] past = refl
left-past mid n s (Text w ∷ ps) past = grind (arith, left-past mid (n + length w) s ps (omega arith))
left-past mid n s (p ∷ ps) past = grind (arith, lt-leb, left-past mid (n + 0) (apply s (spelling p)) ps (omega arith))

left-walk : (mid n : ℕ) (s : Rendition) (ps : List Piece) → n ≤ mid → walked (left_part mid) n s ps ≡ side_up_to s (mid - n) ps
left-walk mid n s [] within = refl
left-walk mid n s (Text w ∷ ps) within = elim (cases_lt (mid - n) (length w)) [
  | inl last ↦ (
      ap (λ v. dressed s (take (mid - n) w) ++ v) (left-past mid (n + length w) s ps (omega arith)) ∙ append-nil (dressed s (take (mid - n) w))
      ∙ sym (side_up_to-last s (mid - n) w ps last))
  | inr all ↦ (
      let left : mid - (n + length w) ≡ mid - n - length w = omega arith in
      ap₂ (λ u v. dressed s u ++ v) (take_all (mid - n) w all) (left-walk mid (n + length w) s ps (omega arith) ∙ ap (λ k. side_up_to s k ps) left)
      ∙ sym (side_up_to-text s (mid - n) w ps all))
]
left-walk mid n s (p ∷ ps) within =
    let same : mid - (n + 0) ≡ mid - n = omega arith in
    let next = apply s (spelling p) in
    ap₂ (λ b v. (if b then copied p else []) ++ v) (le-leb n mid within) (left-walk mid (n + 0) next ps (omega arith) ∙ ap (λ k. side_up_to next k ps) same)

pub left_side-is : (t : List ℕ) (mid : ℕ) → left_side t mid ≡ side_up_to plain_style mid (pieces_of t)
left_side-is t mid = grind (arith, left-walk, left_side-walked)

-- On the right, those before it do.

right-past : (mid n top : ℕ) (s : Rendition) (ps : List Piece) → mid < n → length (plain_of ps) ≤ top → walked (right_part mid) n s ps ≡ side_up_to s top ps
right-past mid n top s [] past fits = refl
right-past mid n top s (Text w ∷ ps) past fits = grind (arith, length-append, side_up_to-text, right-past mid (n + length w) (top - length w) s ps (omega arith) (omega (arith, (length-append w (plain_of ps)), fits)))
right-past mid n top s (p ∷ ps) past fits = grind (arith, lt-leb, right-past mid (n + 0) top (apply s (spelling p)) ps (omega arith) fits)

right-walk : (mid n top : ℕ) (s : Rendition) (ps : List Piece) → n ≤ mid → length (plain_of ps) ≤ top
    → walked (right_part mid) n s ps ≡ side_up_to (style_by_marks s ps (mid - n)) top (after_of (mid - n) ps)
right-walk mid n top s [] within fits = refl
right-walk mid n top s (Text w ∷ ps) within fits =
    let k = mid - n in
    let size = length-append w (plain_of ps) in
    elim (cases_lt k (length w)) [
      | inl last ↦ (
          let v = drop k w in
          let left : length v ≡ length w - k = length-drop k w in
          ap (λ u. dressed s v ++ u) (right-past mid (n + length w) (top - length v) s ps (omega arith) (omega (arith, size, fits, left)))
          ∙ sym (ap₂ (λ r qs. side_up_to r top qs) (style_by_marks-before s w ps k last) (after_of-last k w ps last)
          ∙ side_up_to-text s top v ps (omega (arith, size, fits, left))))
      | inr all ↦ (
          let rest : mid - (n + length w) ≡ k - length w = omega arith in
          ap₂ (λ u v. dressed s u ++ v) (drop_all k w all) (right-walk mid (n + length w) top s ps (omega arith) (omega (arith, size, fits)))
          ∙ ap (λ i. side_up_to (style_by_marks s ps i) top (after_of i ps)) rest
          ∙ sym (ap₂ (λ r qs. side_up_to r top qs) (style-text s k w ps all) (after_of-text k w ps all)))
    ]
right-walk mid n top s (p ∷ ps) within fits = grind (arith, le-leb, style_by_marks-mark s p ps (mid - n) refl, right-walk mid (n + 0) top (apply s (spelling p)) ps (omega arith) fits)

pub right_side-is : {t rest : List ℕ} {mid i top : ℕ} {style : Rendition} → StandsIn t mid i → rest ≡ drop i t → style ≡ style_within plain_style t mid → length t ≤ top
    → side_up_to style top (pieces_of rest) ≡ right_side t mid
right_side-is {t} {rest} {mid} {i} {top} {style} stands is styled fits =
    let all : mid - 0 ≡ mid = omega arith in
    ap₂ (λ r ps. side_up_to r top ps) styled (ap pieces_of is ∙ ap (λ n. pieces_of (drop n t)) stands.offset ∙ pieces_of-after t mid)
    ∙ sym (right_side-walked t mid ∙ right-walk mid 0 top plain_style (pieces_of t) (omega arith) (omega (arith, length-plain t))
    ∙ ap (λ n. side_up_to (style_by_marks plain_style (pieces_of t) n) top (after_of n (pieces_of t))) all)

-- What has been written, and what the pieces that are left give before the position, are all.
pub record IsSideSoFar (whole written : List ℕ) (style : Rendition) (n : ℕ) (left : List Piece) : Type 0 where
  pub side : written ++ side_up_to style n left ≡ whole

pub side-text : {whole written new : List ℕ} {style : Rendition} {n next : ℕ} {w : List ℕ} {left ps : List Piece} → IsSideSoFar whole written style n left → left ≡ Text w ∷ ps → length w ≤ n
    → new ≡ written ++ dressed style w → next ≡ n - length w → IsSideSoFar whole new style next ps
side-text so_far first within more is = grind (arith, append_assoc, side_up_to-text)

side_up_to-mark : (p : Piece) (s : Rendition) (n : ℕ) (ps : List Piece) → is_mark p ≡ true → side_up_to s n (p ∷ ps) ≡ copied p ++ side_up_to (apply s (spelling p)) n ps
side_up_to-mark p s n ps is = grind arith

-- over a mark
pub side-mark : {whole written new : List ℕ} {style next : Rendition} {n : ℕ} {kind : Kind} {w : List ℕ} {left ps : List Piece} → IsSideSoFar whole written style n left → BeginsWithMark kind w left ps
    → new ≡ written ++ copied (Sequence w) → next ≡ apply style w → IsSideSoFar whole new next n ps
side-mark so_far begins more applied = grind (arith, append_assoc, side_up_to-mark)

-- the place is in the text that comes next, or nothing is left

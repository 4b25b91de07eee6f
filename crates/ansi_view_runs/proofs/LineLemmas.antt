-- The first line of an input, and the rest.
use Rattle.std.proofs.Common.{◌≡◌, ◌≤◌, ◌<◌, ◌+◌, ◌-◌, ℕ, zero, suc, false, not, take, drop, List, [], ◌∷◌, ◌++◌, length, Option, None, Some, unwrap_or, refl, sym, ap, ◌∙◌, arith, inl, inr, slice_index, length-append, length-drop}
use Rattle.std.specs.List.{position_or_len}
use Rattle.std.specs.Prelude.{nat_lt, ◌==◌, ◌&&◌}
use Rattle.std.proofs.lemmas.Bool.{false≢true, cases_Bool, ltb-true, ltb-false, lt-ltb, le-ltb, false_from_ne_true}
use Rattle.std.proofs.lemmas.List.{take_all, drop_all, take-append-le, drop-append-le}
use Rattle.std.proofs.lemmas.List.Sums.{position_or_len_is, fails_before_first, passes_at_first, prefix_len-le-length}
use Rattle.memchr.specs.Find.{IsFirstByte, is_byte}
use Rattle.ansi_view_runs.specs.Lines.{Line, HasNoLineFeed, max_piece, is_line_feed, may_begin, piece_len, split_end, first_line, first_lines, lines}
use Rattle.ansi_view_runs.specs.LineViews.{BeginsWithLine}

-- a piece has at least a byte, and no more bytes than a piece may have
pub piece_len-bounds : (t : List ℕ) → (0 < piece_len t) × (piece_len t ≤ max_piece)
piece_len-bounds t = elim (cases_Bool (may_begin (slice_index t max_piece))) [
  | inl is ↦ rw is (omega arith, omega arith)
  | inr isnt ↦ elim (cases_Bool (may_begin (slice_index t (max_piece - 1)))) [
    | inl is ↦ rw (isnt, is) (omega arith, omega arith)
    | inr isnt_1 ↦ elim (cases_Bool (may_begin (slice_index t (max_piece - 2)))) [
      | inl is ↦ rw (isnt, isnt_1, is) (omega arith, omega arith)
      | inr isnt_2 ↦ elim (cases_Bool (may_begin (slice_index t (max_piece - 3)))) [
        | inl is ↦ rw (isnt, isnt_1, isnt_2, is) (omega arith, omega arith)
        | inr isnt_3 ↦ rw (isnt, isnt_1, isnt_2, isnt_3) (omega arith, omega arith)
      ]
    ]
  ]
]

-- what follows the first line is shorter
split_end-shorter : (n : ℕ) (t : List ℕ) → 0 < length t → length (split_end n t).1 < length t
split_end-shorter n t some = elim (cases_Bool (nat_lt 0 n && slice_index t (n - 1) == 13)) [
  | inl is ↦ rw is (omega (arith, length-drop (n + 1) t))
  | inr isnt ↦ rw isnt (omega (arith, length-drop (n + 1) t))
]

first_line-shorter : (t : List ℕ) → 0 < length t → length (first_line t).1 < length t
first_line-shorter t some =
    let n = position_or_len is_line_feed t in
    elim (cases_Bool (nat_lt max_piece n)) [
      | inl long ↦ rw long (omega (arith, length-drop (piece_len t) t, (piece_len-bounds t).0))
      | inr fits ↦ elim (cases_Bool (nat_lt n (length t))) [
        | inl ended ↦ rw (fits, ended) (split_end-shorter n t some)
        | inr unended ↦ rw (fits, unended) (omega (arith, length-drop n t, ltb-false n (length t) unended))
      ]
    ]

-- enough first lines are all
first_lines-enough : (n m : ℕ) (t : List ℕ) → length t ≤ n → length t ≤ m → first_lines n t ≡ first_lines m t
first_lines-enough zero zero t fits_n fits_m = refl
first_lines-enough zero (suc m) [] fits_n fits_m = refl
first_lines-enough zero (suc m) (b ∷ bs) fits_n fits_m = absurd (omega arith)
first_lines-enough (suc n) zero [] fits_n fits_m = refl
first_lines-enough (suc n) zero (b ∷ bs) fits_n fits_m = absurd (omega arith)
first_lines-enough (suc n) (suc m) [] fits_n fits_m = refl
first_lines-enough (suc n) (suc m) (b ∷ bs) fits_n fits_m =
    let first = first_line (b ∷ bs) in
    let shorter = first_line-shorter (b ∷ bs) (omega arith) in
    ap (λ ls. first.0 ∷ ls) (first_lines-enough n m first.1 (omega arith) (omega arith))

-- the lines of an input are its first line and the lines of what follows
lines-first : (t : List ℕ) → 0 < length t → lines t ≡ (first_line t).0 ∷ lines (first_line t).1
unfolding lines
lines-first [] some = absurd (omega arith)
lines-first (b ∷ bs) some =
    let first = first_line (b ∷ bs) in
    let shorter = first_line-shorter (b ∷ bs) (omega arith) in
    ap (λ ls. first.0 ∷ ls) (first_lines-enough (length bs) (length first.1) first.1 (omega arith) (omega arith))

-- no lines of no bytes
pub lines-none : lines [] ≡ []
unfolding lines
lines-none = refl

-- a byte of the front is the same byte of the whole
front_byte : (b more : List ℕ) (k : ℕ) → k < length b → slice_index (b ++ more) k ≡ slice_index b k
front_byte [] more k below = absurd (omega arith)
front_byte (x ∷ b) more zero below = refl
front_byte (x ∷ b) more (suc k) below = front_byte b more k (omega arith)

-- the place that a search finds, or else the length
pub found_at : (t : List ℕ) (r : Option ℕ) → IsFirstByte (is_byte 10) t r → unwrap_or r (length t) ≡ position_or_len is_line_feed t
found_at t None none = sym (position_or_len_is is_line_feed t (length t) 0 (omega arith) (λ k below. false_from_ne_true _ (none k (omega arith) below)) (λ below. absurd (omega arith)))
found_at t (Some n) found =
    sym (position_or_len_is is_line_feed t n 0 (omega (arith, found.0.high)) (λ k below. false_from_ne_true _ (found.0.before k (omega arith) below)) (λ _. found.1))

-- the first line feed of the front is that of the whole
first_at : (b more : List ℕ) → position_or_len is_line_feed b < length b → position_or_len is_line_feed (b ++ more) ≡ position_or_len is_line_feed b
first_at b more has =
    let n = position_or_len is_line_feed b in
    position_or_len_is is_line_feed (b ++ more) n 0 (omega (arith, has, length-append b more))
    (λ k below. ap is_line_feed (front_byte b more k (omega (arith, has))) ∙ fails_before_first is_line_feed b k 0 below)
    (λ _. ap is_line_feed (front_byte b more n has) ∙ passes_at_first is_line_feed b 0 has)

-- the same, split there
split_end-front : (b more : List ℕ) (n : ℕ) → n < length b → split_end n (b ++ more) ≡ ((split_end n b).0, (split_end n b).1 ++ more)
split_end-front b more n below =
    let rest = drop-append-le (n + 1) b more (omega arith) in
    let same = front_byte b more (n - 1) (omega arith) in
    elim (cases_Bool (nat_lt 0 n && slice_index b (n - 1) == 13)) [
      | inl is ↦ rw (same, is, rest, take-append-le (n - 1) b more (omega arith)) refl
      | inr isnt ↦ rw (same, isnt, rest, take-append-le n b more (omega arith)) refl
    ]

-- bytes whose line feed comes within a piece begin with a line
pub begins_ended : (b : List ℕ) (n : ℕ) → n ≡ position_or_len is_line_feed b → n < length b → n ≤ max_piece → BeginsWithLine b (split_end n b).0 (split_end n b).1
begins_ended b n place below within more =
    let t = b ++ more in
    let inside : n < length t = omega (arith, below, length-append b more) in
    let at : position_or_len is_line_feed t ≡ n = first_at b more (rw place at below) ∙ sym place in
    let is : first_line t ≡ ((split_end n b).0, (split_end n b).1 ++ more) =
    rw (at, le-ltb max_piece n within, lt-ltb n (length t) inside) (split_end-front b more n below) in
    lines-first t (omega arith) ∙ ap (λ (f : Line × List ℕ). f.0 ∷ lines f.1) is

-- a place is in front of the first that passes if none up to it does
beyond : (t : List ℕ) (n : ℕ) → n < length t → ((k : ℕ) → k ≤ n → is_line_feed (slice_index t k) ≡ false) → n < position_or_len is_line_feed t
beyond t n below none =
    let p = position_or_len is_line_feed t in
    elim (cases_Bool (nat_lt n p)) [
      | inl is ↦ ltb-true n p is
      | inr isnt ↦ let low = ltb-false n p isnt in
          absurd (false≢true (sym (none p low) ∙ passes_at_first is_line_feed t 0 (omega arith)))
    ]

-- a piece depends on the bytes up to its limit alone
piece_len-front : (b more : List ℕ) → max_piece < length b → piece_len (b ++ more) ≡ piece_len b
piece_len-front b more long =
    rw (front_byte b more max_piece long, front_byte b more (max_piece - 1) (omega arith), front_byte b more (max_piece - 2) (omega arith), front_byte b more (max_piece - 3) (omega arith)) refl

-- bytes with more than a piece in front of their line feed begin with a piece
pub begins_long : (b : List ℕ) → max_piece < position_or_len is_line_feed b
    → BeginsWithLine b (record { text = take (piece_len b) b; end = [] }) (drop (piece_len b) b)
begins_long b far more =
    let t = b ++ more in
    let n = piece_len b in
    let long : max_piece < length b = omega (arith, far, prefix_len-le-length (λ x. not (is_line_feed x)) b) in
    let fits : n ≤ length b = omega (arith, (piece_len-bounds b).1) in
    let farther = beyond t max_piece (omega (arith, length-append b more)) (λ k low. ap is_line_feed (front_byte b more k (omega arith)) ∙ fails_before_first is_line_feed b k 0 (omega arith)) in
    let is : first_line t ≡ (record { text = take n b; end = [] }, drop n b ++ more) =
    rw (lt-ltb max_piece (position_or_len is_line_feed t) farther, piece_len-front b more long, take-append-le n b more fits, drop-append-le n b more fits) refl in
    lines-first t (omega (arith, length-append b more)) ∙ ap (λ (f : Line × List ℕ). f.0 ∷ lines f.1) is

-- nothing follows all of the bytes
last_line : (t : List ℕ) → record { text = take (length t) t; end = [] } ∷ lines (drop (length t) t) ≡ record { text = t; end = [] } ∷ []
last_line t = rw (take_all (length t) t (omega arith), drop_all (length t) t (omega arith), lines-none) refl

-- bytes without a line feed that fit a piece are the last line
pub only_line : (t : List ℕ) → 0 < length t → HasNoLineFeed t → length t ≤ max_piece → lines t ≡ record { text = t; end = [] } ∷ []
only_line t some none fits =
    let is : first_line t ≡ (record { text = take (length t) t; end = [] }, drop (length t) t) =
    rw (none, le-ltb max_piece (length t) fits, le-ltb (length t) (length t) (omega arith)) refl in
    lines-first t some ∙ ap (λ (f : Line × List ℕ). f.0 ∷ lines f.1) is ∙ last_line t

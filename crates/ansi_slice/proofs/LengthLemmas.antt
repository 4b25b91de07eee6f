-- How long a cut may be, what is kept of a text, and its two sides.
use Rattle.ansi_slice.proofs.Common.{◌≡◌, ℕ, ◌+◌, ◌-◌, ◌*◌, ◌≤◌, inl, inr, Bool, true, ◌==◌, List, [], ◌∷◌, ◌++◌, length, take, drop, filter, refl, ◌∙◌, sym, ap, arith, length-append, length-take, length-drop, nat_le, if◌then◌else◌, Option, unwrap_or, cond_both, cases_lt, flat_map-append, slice_range, is_sgr, Piece, spelling, Text, pieces_of, plain, plain_bytes, copied, Rendition, IsStyle, plain_style, apply, close, start, close_codes, longest_start, longest_close, longest_start_and_close, style_at, cut, kept, dressed, left_part, right_part, left_side, right_side, one_text, IsStyle-apply, IsStyle-plain_style, spelled, spelled-pieces_of, close_codes_are, start_codes_are, code_pieces, spelled-code_pieces}
use Rattle.ansi_items.specs.Plain.{is_text}
use Rattle.ansi_slice.proofs.WalkLemmas.{walked, style_past}
use Rattle.ansi_slice.proofs.SideLemmas.{left_side-walked, right_side-walked}
use Rattle.ansi_slice.proofs.ShownLemmas.{spelled-one_text, interleaved_pieces}
use Rattle.ansi_slice.proofs.CutSliceLemmas.{spelled-cut_pieces}
use Rattle.ansi_slice.proofs.KeptLemmas.{spelled-kept_pieces}

-- A cut.

pub length-one_text : (w : List ℕ) → length (spelled (one_text w)) ≡ length w
length-one_text w = ap length (spelled-one_text w)

pub length-slice_range-within : (w : List ℕ) (a b : ℕ) → length (slice_range w a b) ≤ length w
length-slice_range-within w a b = omega (arith, length-take (b - a) (drop a w), length-drop a w)

pub length-spelled : (ps qs : List Piece) → length (spelled (ps ++ qs)) ≡ length (spelled ps) + length (spelled qs)
length-spelled ps qs = ap length (flat_map-append spelling ps qs) ∙ length-append (spelled ps) (spelled qs)

-- what is shown of pieces is no longer than they are
pub length-interleaved_pieces : (ps : List Piece) (test : ℕ → Bool) (a b : ℕ) → length (spelled (interleaved_pieces test a b ps)) ≤ length (spelled ps)
length-interleaved_pieces [] test a b = omega arith
length-interleaved_pieces (Text w ∷ ps) test a b = grind (arith, length-append, length-one_text, length-slice_range-within, length-spelled, length-interleaved_pieces ps (λ p. test (length w + p)) (a - length w) (b - length w))
length-interleaved_pieces (p ∷ ps) test a b = grind (arith, length-append, length-interleaved_pieces ps test a b)

pub length-close : (s : Rendition) → length (close s) ≤ longest_close
length-close s = (close_codes_are s).short

pub length-start : (s : Rendition) → IsStyle s → length (start s) ≤ longest_start
length-start s is = (start_codes_are s is).short

pub length-cut : (t : List ℕ) (s : ℕ) (e : Option ℕ) → length (cut t s e) ≤ length t + longest_close
unfolding cut
length-cut t s e =
    let end = unwrap_or e (length (plain t)) in
    let shown = interleaved_pieces (λ p. nat_le p end) s end (pieces_of t) in
    let closing = close_codes (style_at t end) in
    omega (
      arith,
      ap length (sym (spelled-cut_pieces t s end)),
      length-spelled shown (code_pieces closing),
      length-interleaved_pieces (pieces_of t) (λ p. nat_le p end) s end,
      ap length (spelled-pieces_of t),
      ap length (spelled-code_pieces closing),
      length-close (style_at t end),
    )

-- what is kept of a text is no longer than it
pub length-kept : (t : List ℕ) (a b : ℕ) → length (kept t a b) ≤ length t
length-kept t a b =
    omega (
      arith,
      ap length (sym (spelled-kept_pieces t a b)),
      length-interleaved_pieces (pieces_of t) (λ p. true) a b,
      ap length (spelled-pieces_of t),
    )

-- The sides: a start and a close have at most `longest_start_and_close` bytes.

length-dressed : (s : Rendition) (w : List ℕ) → IsStyle s → length (dressed s w) ≤ length w + longest_start_and_close
length-dressed s w is =
    cond_both (length w == 0) [] (start s ++ w ++ close s) (λ v. length v ≤ length w + longest_start_and_close)
    (λ none. omega arith)
    (λ some. omega (arith, length-append (start s ++ w) (close s), length-append (start s) w, length-start s is, length-close s))

dressed-nothing : (s : Rendition) (w : List ℕ) → length w ≡ 0 → length (dressed s w) ≡ 0
dressed-nothing s [] none = refl
dressed-nothing s (b ∷ w) none = absurd (omega (arith, none))

length-copied : (p : Piece) → length (copied p) ≤ length (spelling p)
length-copied p =
    cond_both (is_sgr (spelling p)) [] (spelling p) (λ v. length v ≤ length (spelling p)) (λ sgr. omega arith) (λ other. omega arith)

-- a mark is copied to one side at most
length-copied_once : (mid n : ℕ) (p : Piece) → length (if nat_le n mid then copied p else []) + length (if nat_le n mid then [] else copied p) ≤ length (spelling p)
length-copied_once mid n p = grind (arith, length-copied)

-- how long both sides of the pieces are that are left, and how many of these are texts

abbrev sides_len : ℕ → ℕ → Rendition → List Piece → ℕ
sides_len mid n s ps = length (walked (left_part mid) n s ps) + length (walked (right_part mid) n s ps)

abbrev text_count : List Piece → ℕ
text_count ps = length (filter is_text ps)

sides_len-first : (mid n : ℕ) (s : Rendition) (p : Piece) (ps : List Piece)
    → sides_len mid n s (p ∷ ps) ≡ length (left_part mid n s p) + length (right_part mid n s p) + sides_len mid (n + length (plain_bytes p)) (style_past s p) ps
sides_len-first mid n s p ps = grind (arith, length-append)

-- after the position each text is dressed once
length-sides_past : (mid n : ℕ) (s : Rendition) (ps : List Piece) → IsStyle s → mid ≤ n → sides_len mid n s ps ≤ length (spelled ps) + longest_start_and_close * text_count ps
length-sides_past mid n s [] is past = omega arith
length-sides_past mid n s (Text w ∷ ps) is past = grind (arith, dressed-nothing, length-append, length-dressed, length-drop, length-take, sides_len-first, length-sides_past mid (n + length w) s ps is (omega arith))
length-sides_past mid n s (p ∷ ps) is past = grind (arith, length-copied_once, length-append, sides_len-first, length-sides_past mid (n + 0) (apply s (spelling p)) ps (IsStyle-apply s (spelling p) is) (omega arith))

-- before it, one text more is dressed: the one that the position divides
length-sides_from : (mid n : ℕ) (s : Rendition) (ps : List Piece) → IsStyle s → sides_len mid n s ps ≤ length (spelled ps) + longest_start_and_close * (text_count ps + 1)
length-sides_from mid n s [] is = omega arith
length-sides_from mid n s (Text w ∷ ps) is =
    let first = sides_len-first mid n s (Text w) ps in
    let left = length-dressed s (take (mid - n) w) is in
    let right = length-dressed s (drop (mid - n) w) is in
    elim (cases_lt mid (n + length w)) [
      | inl divided ↦ (
          let later = length-sides_past mid (n + length w) s ps is (omega (arith, divided)) in
          omega (arith, later, first, left, right, length-take (mid - n) w, length-drop (mid - n) w, length-append w (spelled ps)))
      | inr before ↦ (
          let later = length-sides_from mid (n + length w) s ps is in
          let none : length (drop (mid - n) w) ≡ 0 = omega (arith, before, length-drop (mid - n) w) in
          omega (arith, later, first, left, dressed-nothing s (drop (mid - n) w) none, length-take (mid - n) w, length-append w (spelled ps)))
    ]
length-sides_from mid n s (p ∷ ps) is = grind (arith, length-copied_once, length-append, sides_len-first, length-sides_from mid (n + 0) (apply s (spelling p)) ps (IsStyle-apply s (spelling p) is))

pub length-sides : (t : List ℕ) (mid : ℕ) → length (left_side t mid) + length (right_side t mid) ≤ length t + longest_start_and_close * (length (filter is_text (pieces_of t)) + 1)
length-sides t mid =
    omega (
      arith,
      length-sides_from mid 0 plain_style (pieces_of t) IsStyle-plain_style,
      ap length (left_side-walked t mid),
      ap length (right_side-walked t mid),
      ap length (spelled-pieces_of t),
    )

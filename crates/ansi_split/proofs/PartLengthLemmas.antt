-- How long a part may be, and what it takes of its text.
use Rattle.ansi_split.proofs.Common.{◌≡◌, ℕ, ◌+◌, ◌-◌, ◌≤◌, Bool, true, false, ◌==◌, List, [], ◌∷◌, ◌++◌, length, drop, refl, sym, ap, subst, arith, length-append, length-take, if◌then◌else◌, cond_both, nat_tests, sum_by-cons, sum_by, Piece, spelling, Text, pieces_of, Mark, plain, plain_of, marks, marks_of, marks_up_to, joined, Rendition, IsStyle, plain_style, has_any, close, start, close_if_any, interleaved, style_within, parts, marks_past, part_over, part, part_from, source_len, CarriedPart, carried, parts_from, parts_left, span_part, slice_range-append, marks_of-text, marks_of-mark, spelled, spelled-pieces_of, interleaved_pieces, piece_when, at_places, at_places-further, longest_close, longest_start_and_close}
use Rattle.std.proofs.Common.{length-drop}
use Rattle.ansi_style.proofs.MarkLemmas.{joined-further}
use Rattle.std.specs.Prelude.{Option, Some, None, ◌&&◌, nat_lt}
use Rattle.std.proofs.lemmas.Bool.{true≢false}
use Rattle.std.specs.List.{slice_range}
use Rattle.ansi_split.proofs.IntervalLemmas.{ComesAfter, ComeAfter, all_parts_come_after}
use Rattle.ansi_split.proofs.PartSliceLemmas.{marks_past-places, own_places, spelled-own_pieces, IsStyle-carried}
use Rattle.ansi_split.proofs.SpanLemmas.{marks_past-none}
use Rattle.ansi_split.proofs.SplitLemmas.{parts_left-begin}
use Rattle.ansi_slice.proofs.LengthLemmas.{length-one_text, length-spelled, length-interleaved_pieces, length-close, length-start}

-- A part: the bytes of its interval, its marks, a start and a close.

length-mark : (p : Piece) (c : Bool) (shown : List Piece) (ms : List Mark) (n : ℕ) → length (spelled shown) ≤ n + length (joined ms)
    → length (spelled (piece_when c p ++ shown)) ≤ n + length (joined (if c then record { place = 0; bytes = spelling p } ∷ ms else ms))
length-mark p true shown ms n within = omega (arith, within, length-append (spelling p) (spelled shown), length-append (spelling p) (joined ms))
length-mark p false shown ms n within = within

-- what is shown of pieces has no more than the bytes of the slice and the marks at these places
length-interleaved_taken : (ps : List Piece) (test : ℕ → Bool) (a b : ℕ) → length (spelled (interleaved_pieces test a b ps)) ≤ length (slice_range (plain_of ps) a b) + length (joined (at_places test (marks_of ps)))
length-interleaved_taken [] test a b = omega arith
length-interleaved_taken (Text w ∷ ps) test a b = grind (arith, at_places-further, joined-further, length-append, length-one_text, length-spelled, marks_of-text, slice_range-append, length-interleaved_taken ps (λ p. test (length w + p)) (a - length w) (b - length w))
length-interleaved_taken (p ∷ ps) test a b =
    let shown = interleaved_pieces test a b ps in
    let taken = slice_range (plain_of ps) a b in
    subst (λ ms. length (spelled (piece_when (test 0) p ++ shown)) ≤ length taken + length (joined (at_places test ms))) (sym (marks_of-mark p ps refl))
    (length-mark p (test 0) shown (at_places test (marks_of ps)) (length taken) (length-interleaved_taken ps test a b))

pub length-close_if_any : (s : Rendition) → length (close_if_any s) ≤ longest_close
length-close_if_any s = cond_both (has_any s) (close s) [] (λ w. length w ≤ longest_close) (λ any. length-close s) (λ none. omega arith)

-- a part is at most as long as its source, a start and a close, or nothing
pub length-part_from : (c : Rendition) (t : List ℕ) (before : Option ℕ) (i : ℕ × ℕ) → IsStyle (carried c t before) → length (part_from c t before i).bytes ≤ (part_from c t before i).source_len + longest_start_and_close
unfolding part_from
length-part_from c t before i is =
    let own = marks_past before (marks_up_to i.1 (marks t)) in
    let shown = interleaved (plain t) i.0 i.1 own in
    let from = start (carried c t before) in
    let to = close_if_any (style_within c t i.1) in
    cond_both (i.0 == i.1 && length own == 0) [] (from ++ shown ++ to) (λ w. length w ≤ length shown + longest_start_and_close)
    (λ none. omega arith)
    (λ some. omega (
      arith,
      length-append (from ++ shown) to,
      length-append from shown,
      length-start (carried c t before) is,
      length-close_if_any (style_within c t i.1),
    ))

pub length-span_part : {q : CarriedPart} (c : Rendition) (t : List ℕ) (skip : ℕ) → IsStyle c → span_part c t skip ≡ q → length q.bytes ≤ q.source_len + longest_start_and_close
length-span_part c t skip style is = subst (λ (q : CarriedPart). length q.bytes ≤ q.source_len + longest_start_and_close) is (length-part_from c t None (skip, length (plain t)) style)

length-dressed_part : (t : List ℕ) (before : Option ℕ) (i : ℕ × ℕ) → length (part_over t before i) ≤ (part_from plain_style t before i).source_len + longest_start_and_close
unfolding part_from
length-dressed_part t before i = length-part_from plain_style t before i (IsStyle-carried t before)

source_len_by_marks : (t : List ℕ) (before : Option ℕ) (i : ℕ × ℕ) → (part_from plain_style t before i).source_len ≤ length (slice_range (plain t) i.0 i.1) + length (joined (marks_past before (marks_up_to i.1 (marks t))))
unfolding part_from
source_len_by_marks t before i =
    omega (
      arith,
      ap length (spelled-own_pieces t before i),
      length-interleaved_taken (pieces_of t) (own_places before i.1) i.0 i.1,
      ap (λ ms. length (joined ms)) (marks_past-places before i.1 (marks t)),
    )

part_source_len_within : (t : List ℕ) (before : Option ℕ) (i : ℕ × ℕ) → (part_from plain_style t before i).source_len ≤ length t
unfolding part_from
part_source_len_within t before i =
    omega (arith, ap length (spelled-own_pieces t before i), length-interleaved_pieces (pieces_of t) (own_places before i.1) i.0 i.1, ap length (spelled-pieces_of t))

pub source_len_within : (t p : List ℕ) (k : ℕ) → source_len t p k ≤ length t
source_len_within t p k = grind (arith, part_source_len_within)

pub length-part_over : (t : List ℕ) (before : Option ℕ) (i : ℕ × ℕ)
    → length (part_over t before i) ≤ length (slice_range (plain t) i.0 i.1) + length (joined (marks_past before (marks_up_to i.1 (marks t)))) + longest_start_and_close
length-part_over t before i = omega (arith, length-dressed_part t before i, source_len_by_marks t before i)

pub length-part : (t p : List ℕ) (k : ℕ) (u : List ℕ) → part t p k ≡ Some u → length u ≤ length t + longest_start_and_close
length-part t p k u found = grind (arith, length-dressed_part, part_source_len_within)

-- All parts: their source lengths have no byte of the text twice.

-- a mark that goes to one of two lists at most, and then to a third
joined_once : (m : Mark) (fs gs hs : List Mark) (a b c : Bool) → length (joined fs) + length (joined gs) ≤ length (joined hs)
    → (a ≡ true → (b ≡ false) × (c ≡ true)) → (b ≡ true → c ≡ true)
    → length (joined (if a then m ∷ fs else fs)) + length (joined (if b then m ∷ gs else gs)) ≤ length (joined (if c then m ∷ hs else hs))
joined_once m fs gs hs a b c later one other = grind (arith, length-append, true≢false)

-- the bytes of marks at places of two kinds, if no place is of both, are among those at places of a third
joined_among : (f g h : ℕ → Bool) (ms : List Mark) → ((p : ℕ) → f p ≡ true → (g p ≡ false) × (h p ≡ true)) → ((p : ℕ) → g p ≡ true → h p ≡ true)
    → length (joined (at_places f ms)) + length (joined (at_places g ms)) ≤ length (joined (at_places h ms))
joined_among f g h [] first second = omega arith
joined_among f g h (m ∷ ms) first second = grind (arith, joined_once, joined_among f g h ms first second)

-- the marks of a part, and those past its end, are among those past the end of the part before
marks_of_one : (before : Option ℕ) (i : ℕ × ℕ) (ms : List Mark) → ComesAfter before i
    → length (joined (marks_past before (marks_up_to i.1 ms))) + length (joined (marks_past (Some i.1) ms)) ≤ length (joined (marks_past before ms))
marks_of_one None i ms comes =
    subst (λ own. length (joined own) + length (joined (marks_past (Some i.1) ms)) ≤ length (joined (marks_past None ms))) (sym (marks_past-places None i.1 ms))
    (joined_among (own_places None i.1) (nat_lt i.1) (λ p. true) ms (λ p own. (grind (arith, nat_tests), refl)) (λ p later. refl))
marks_of_one (Some e) i ms comes =
    let at = comes.1 in
    subst (λ own. length (joined own) + length (joined (marks_past (Some i.1) ms)) ≤ length (joined (marks_past (Some e) ms))) (sym (marks_past-places (Some e) i.1 ms))
    (joined_among (own_places (Some e) i.1) (nat_lt i.1) (nat_lt e) ms (λ p own. (grind (arith, nat_tests), grind (arith, nat_tests))) (λ p later. grind (arith, nat_tests)))

-- how many of n plain bytes are past the end of the part before
abbrev bytes_past_part : Option ℕ → ℕ → ℕ
bytes_past_part None n = n
bytes_past_part (Some e) n = n - e

bytes_of_one : (before : Option ℕ) (i : ℕ × ℕ) (x : List ℕ) → ComesAfter before i → length (slice_range x i.0 i.1) + (length x - i.1) ≤ bytes_past_part before (length x)
bytes_of_one None i x comes = omega (arith, length-take (i.1 - i.0) (drop i.0 x), length-drop i.0 x)
bytes_of_one (Some e) i x comes = omega (arith, comes.0, comes.1, length-take (i.1 - i.0) (drop i.0 x), length-drop i.0 x)

shares_over : (t : List ℕ) (before : Option ℕ) (is : List (ℕ × ℕ)) → ComeAfter before is
    → sum_by (λ (q : CarriedPart). q.source_len) (parts_from plain_style t before is) ≤ bytes_past_part before (length (plain t)) + length (joined (marks_past before (marks t)))
shares_over t before [] come = omega arith
shares_over t before (i ∷ is) come =
    omega (
      arith,
      sum_by-cons (λ (q : CarriedPart). q.source_len) (part_from plain_style t before i) (parts_from plain_style t (Some i.1) is),
      source_len_by_marks t before i,
      bytes_of_one before i (plain t) come.0,
      marks_of_one before i (marks t) come.0,
      shares_over t (Some i.1) is come.1,
    )

length-pieces : (ps : List Piece) → length (spelled ps) ≡ length (plain_of ps) + length (joined (marks_of ps))
length-pieces [] = refl
length-pieces (Text w ∷ ps) = grind (arith, joined-further, length-append, marks_of-text, length-pieces ps)
length-pieces (p ∷ ps) =
    omega (arith, length-pieces ps, length-append (spelling p) (spelled ps), ap (λ ms. length (joined ms)) (marks_of-mark p ps refl), length-append (spelling p) (joined (marks_of ps)))

pub source_lens_within : (t p : List ℕ) → sum_by (λ (q : CarriedPart). q.source_len) (parts_left plain_style t p 0 0) ≤ length t
source_lens_within t p =
    omega (
      arith,
      ap (sum_by (λ (q : CarriedPart). q.source_len)) (parts_left-begin t p),
      shares_over t None (parts (plain t) p) (all_parts_come_after (plain t) p),
      ap (λ ms. length (joined ms)) (marks_past-none (marks t)),
      length-pieces (pieces_of t),
      ap length (spelled-pieces_of t),
    )

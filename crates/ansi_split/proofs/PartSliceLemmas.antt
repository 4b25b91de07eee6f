-- A part of a whole text is whole, has the slice of its styled bytes, and leaves nothing known open.
use Rattle.ansi_split.proofs.Common.{◌≡◌, ℕ, ◌+◌, ◌-◌, ◌<◌, ◌≤◌, inl, inr, Bool, true, false, ◌&&◌, ◌==◌, List, [], ◌∷◌, ◌++◌, length, nat_le, nat_lt, refl, sym, ◌∙◌, ap, ap₂, subst, arith, slice_range, Option, Some, None, IsTrue, if◌then◌else◌, option_map_or, cond_both, and_parts, eqb-true, cases_lt, le-leb, nat_tests, Piece, Text, pieces_of, Mark, plain, marks, marks_up_to, is_whole, Rendition, apply, IsStyle, plain_style, known, has_any, written_all, start, close_codes, close, close_if_any, style_at, styled, after_marks, interleaved, marks_past, carried, part_over, one_text, slice_range-none, slice_range-from_past, IsStyle-plain_style, IsStyle-style_at, spelled, AllStandAnywhere, pieces_stand, styled_through, style_through, styled-pieces, AreCodes, close_codes_are, known-unset, GiveAlone, IsClosed, closed-spelled, Clears, dressed_pieces, spelled-dressed_pieces, dressed_pieces_stand, dressed_pieces_give, at_places, piece_when, interleaved_pieces, spelled-interleaved_pieces, interleaved_pieces_stand, longest_close, part_from}
use Rattle.ansi_style.proofs.MarkLemmas.{state_after}
use Rattle.ansi_style.proofs.StyledLemmas.{styled_byte}
use Rattle.ansi_style.proofs.ThroughLemmas.{state_through, state_through-append, seen_through, seen_through-append}
use Rattle.ansi_slice.proofs.ShownLemmas.{state_through-interleaved_pieces, seen_through-interleaved_pieces}
use Rattle.ansi_style.proofs.CloseLemmas.{close_codes_clear}
use Rattle.ansi_split.proofs.IntervalLemmas.{ComesAfter}

-- The marks of the parts before, and then what a part shows, are what is shown with the marks of all.

pub interleaved_pieces-nothing : (test : ℕ → Bool) (a b : ℕ) (ps : List Piece) → ((p : ℕ) → test p ≡ false) → b ≤ a → interleaved_pieces test a b ps ≡ []
interleaved_pieces-nothing test a b [] never none = refl
interleaved_pieces-nothing test a b (Text w ∷ ps) never none = grind (arith, slice_range-none, interleaved_pieces-nothing (λ p. test (length w + p)) (a - length w) (b - length w) ps (λ p. never (length w + p)) (omega arith))
interleaved_pieces-nothing test a b (p ∷ ps) never none = ap₂ (λ c qs. piece_when c p ++ qs) (never 0) (interleaved_pieces-nothing test a b ps never none)

-- places before k pass `early`; places from k on pass `late` if they pass `both`
pub record Divides (k : ℕ) (early late both : ℕ → Bool) : Type 0 where
  pub early_before : (p : ℕ) → p < k → early p ≡ true
  pub early_from : (p : ℕ) → k ≤ p → early p ≡ false
  pub late_before : (p : ℕ) → p < k → late p ≡ false
  pub late_from : (p : ℕ) → k ≤ p → late p ≡ both p
  pub both_before : (p : ℕ) → p < k → both p ≡ true

divides-further : (n k : ℕ) (early late both : ℕ → Bool) → Divides k early late both → Divides (k - n) (λ p. early (n + p)) (λ p. late (n + p)) (λ p. both (n + p))
divides-further n k early late both divides = record {
  early_before = λ p before. divides.early_before (n + p) (omega arith);
  early_from = λ p from. divides.early_from (n + p) (omega arith);
  late_before = λ p before. divides.late_before (n + p) (omega arith);
  late_from = λ p from. divides.late_from (n + p) (omega arith);
  both_before = λ p before. divides.both_before (n + p) (omega arith);
}

mark-divided : (p : Piece) (k : ℕ) (early late both : ℕ → Bool) (es ls bs : List Piece) → Divides k early late both → (k ≤ 0 → es ≡ []) → es ++ ls ≡ bs
    → (piece_when (early 0) p ++ es) ++ (piece_when (late 0) p ++ ls) ≡ piece_when (both 0) p ++ bs
mark-divided p k early late both es ls bs divides nothing later = elim (cases_lt 0 k) [
  | inl before ↦ (
      ap₂ (λ x y. (piece_when x p ++ es) ++ (piece_when y p ++ ls)) (divides.early_before 0 before) (divides.late_before 0 before)
      ∙ ap (λ qs. p ∷ qs) later ∙ ap (λ x. piece_when x p ++ bs) (sym (divides.both_before 0 before)))
  | inr from ↦ (
      let none = nothing from in
      ap₂ (λ x qs. (piece_when x p ++ qs) ++ (piece_when (late 0) p ++ ls)) (divides.early_from 0 from) none
      ∙ ap₂ (λ x qs. piece_when x p ++ qs) (divides.late_from 0 from) (ap (λ qs. qs ++ ls) (sym none) ∙ later))
]

interleaved_pieces-divided : (ps : List Piece) (k : ℕ) (early late both : ℕ → Bool) (c a b : ℕ) → Divides k early late both → k ≤ a + 1
    → interleaved_pieces early c c ps ++ interleaved_pieces late a b ps ≡ interleaved_pieces both a b ps
interleaved_pieces-divided [] k early late both c a b divides after = refl
interleaved_pieces-divided (Text w ∷ ps) k early late both c a b divides after =
    let n = length w in
    let es = interleaved_pieces (λ p. early (n + p)) (c - n) (c - n) ps in
    let ls = interleaved_pieces (λ p. late (n + p)) (a - n) (b - n) ps in
    let bs = interleaved_pieces (λ p. both (n + p)) (a - n) (b - n) ps in
    let later : es ++ ls ≡ bs = interleaved_pieces-divided ps (k - n) (λ p. early (n + p)) (λ p. late (n + p)) (λ p. both (n + p)) (c - n) (a - n) (b - n)
    (divides-further n k early late both divides) (omega arith) in
    ap (λ v. (one_text v ++ es) ++ (one_text (slice_range w a b) ++ ls)) (slice_range-none w c c (omega arith))
    ∙ elim (cases_lt n k) [
      | inl marks_past ↦ (
          let hidden = slice_range-from_past w a b (omega arith) in
          ap (λ v. es ++ (one_text v ++ ls)) hidden ∙ later ∙ ap (λ v. one_text v ++ bs) (sym hidden))
      | inr within ↦ (
          let none : es ≡ [] = interleaved_pieces-nothing (λ p. early (n + p)) (c - n) (c - n) ps (λ p. divides.early_from (n + p) (omega arith)) (omega arith) in
          ap (λ qs. qs ++ (one_text (slice_range w a b) ++ ls)) none
          ∙ ap (λ qs. one_text (slice_range w a b) ++ qs) (ap (λ qs. qs ++ ls) (sym none) ∙ later))
    ]
interleaved_pieces-divided (p ∷ ps) k early late both c a b divides after = grind (arith, mark-divided, interleaved_pieces-nothing, interleaved_pieces-divided ps k early late both c a b divides after)

-- So what is read of the latter, from the state after the former, is what is read of all.

module _ {S : Type 0} (step : S → List ℕ → S) (first : S) (t : List ℕ) (k : ℕ) (early late both : ℕ → Bool) (i : ℕ × ℕ) (divides : Divides k early late both) (after : k ≤ i.0 + 1) where
  abbrev former : List Piece
  former = interleaved_pieces early 0 0 (pieces_of t)

  abbrev latter : List Piece
  latter = interleaved_pieces late i.0 i.1 (pieces_of t)

  abbrev between : S
  between = state_after step first (at_places early (marks t))

  joined : former ++ latter ≡ interleaved_pieces both i.0 i.1 (pieces_of t)
  joined = interleaved_pieces-divided (pieces_of t) k early late both 0 i.0 i.1 divides after

  through-former : state_through step first former ≡ between
  through-former = state_through-interleaved_pieces step (pieces_of t) first early 0 0

  pub state-divided : state_through step between latter ≡ state_after step first (at_places both (marks t))
  state-divided =
      ap (λ s. state_through step s latter) (sym through-former) ∙ sym (state_through-append step first former latter) ∙ ap (state_through step first) joined
      ∙ state_through-interleaved_pieces step (pieces_of t) first both i.0 i.1

  pub seen-divided : {B : Type 0} (seen : S → ℕ → B) → ((p : ℕ) → p < i.1 → both p ≡ true) → seen_through step seen between latter ≡ slice_range (seen_through step seen first (pieces_of t)) i.0 i.1
  seen-divided seen covers =
      let none : seen_through step seen first former ≡ []
      = seen_through-interleaved_pieces step seen (pieces_of t) first early 0 0 (λ p none. absurd (omega (arith, none))) ∙ slice_range-none (seen_through step seen first (pieces_of t)) 0 0 (omega arith) in
      ap₂ (λ u s. u ++ seen_through step seen s latter) (sym none) (sym through-former)
      ∙ sym (seen_through-append step seen first former latter) ∙ ap (seen_through step seen first) joined
      ∙ seen_through-interleaved_pieces step seen (pieces_of t) first both i.0 i.1 covers

-- The marks that a part shows, those that the parts before have shown, and the marks of both.

abbrev pub comes_later : Option ℕ → ℕ → Bool
comes_later before p = option_map_or (λ e. nat_lt e p) before true

abbrev pub own_places : Option ℕ → ℕ → ℕ → Bool
own_places before b p = nat_le p b && comes_later before p

abbrev pub earlier_places : Option ℕ → ℕ → Bool
earlier_places before p = option_map_or (λ e. nat_le p e) before false

pub at_places-never : (ms : List Mark) → at_places (λ p. false) ms ≡ []
at_places-never [] = refl
at_places-never (m ∷ ms) = at_places-never ms

-- a test of those that pass another
pub at_places-at_places : (f g : ℕ → Bool) (ms : List Mark) → at_places f (at_places g ms) ≡ at_places (λ p. g p && f p) ms
at_places-at_places f g [] = refl
at_places-at_places f g (m ∷ ms) = grind (arith, at_places-at_places f g ms)

pub marks_past-places : (before : Option ℕ) (b : ℕ) (ms : List Mark) → marks_past before (marks_up_to b ms) ≡ at_places (own_places before b) ms
marks_past-places before b ms = at_places-at_places (comes_later before) (λ p. nat_le p b) ms

carried-places : (t : List ℕ) (before : Option ℕ) → carried plain_style t before ≡ after_marks plain_style (at_places (earlier_places before) (marks t))
carried-places t None = ap (after_marks plain_style) (sym (at_places-never (marks t)))
carried-places t (Some e) = refl

-- the place from which on marks belong to the part
abbrev own_from : Option ℕ → ℕ
own_from before = option_map_or (λ e. e + 1) before 0

part_divides : (before : Option ℕ) (i : ℕ × ℕ) → ComesAfter before i → Divides (own_from before) (earlier_places before) (own_places before i.1) (λ p. nat_le p i.1)
part_divides None i after = record {
  early_before = λ p none. absurd (omega (arith, none));
  early_from = λ p from. refl;
  late_before = λ p none. absurd (omega (arith, none));
  late_from = λ p from. grind (arith, nat_tests);
  both_before = λ p none. absurd (omega (arith, none));
}
part_divides (Some e) i after =
    let below : e ≤ i.1 = after.1 in
    record {
      early_before = λ p before. grind (arith, nat_tests);
      early_from = λ p from. grind (arith, nat_tests);
      late_before = λ p before. grind (arith, nat_tests);
      late_from = λ p from. grind (arith, nat_tests);
      both_before = λ p before. grind (arith, nat_tests);
    }

-- What a part shows, after the style that is carried.

abbrev pub own_pieces : List ℕ → Option ℕ → ℕ × ℕ → List Piece
own_pieces t before i = interleaved_pieces (own_places before i.1) i.0 i.1 (pieces_of t)

pub spelled-own_pieces : (t : List ℕ) (before : Option ℕ) (i : ℕ × ℕ) → spelled (own_pieces t before i) ≡ interleaved (plain t) i.0 i.1 (marks_past before (marks_up_to i.1 (marks t)))
spelled-own_pieces t before i =
    spelled-interleaved_pieces (pieces_of t) (own_places before i.1) i.0 i.1 ∙ ap (interleaved (plain t) i.0 i.1) (sym (marks_past-places before i.1 (marks t)))

-- the marks of the parts before, alone
abbrev pub earlier_pieces : List ℕ → Option ℕ → List Piece
earlier_pieces t before = interleaved_pieces (earlier_places before) 0 0 (pieces_of t)

own_from_after : (before : Option ℕ) (i : ℕ × ℕ) → ComesAfter before i → own_from before ≤ i.0 + 1
own_from_after None i after = omega arith
own_from_after (Some e) i after = omega (arith, after.0)

pub all_pieces : (t : List ℕ) (before : Option ℕ) (i : ℕ × ℕ) → ComesAfter before i → earlier_pieces t before ++ own_pieces t before i ≡ interleaved_pieces (λ p. nat_le p i.1) i.0 i.1 (pieces_of t)
all_pieces t before i after =
    interleaved_pieces-divided (pieces_of t) (own_from before) (earlier_places before) (own_places before i.1) (λ p. nat_le p i.1) 0 i.0 i.1 (part_divides before i after) (own_from_after before i after)

styled_through-own_pieces : (t : List ℕ) (before : Option ℕ) (i : ℕ × ℕ) → ComesAfter before i → styled_through (carried plain_style t before) (own_pieces t before i) ≡ slice_range (styled t) i.0 i.1
styled_through-own_pieces t before i after =
    ap (λ s. styled_through s (own_pieces t before i)) (carried-places t before)
    ∙ seen-divided apply plain_style t (own_from before) (earlier_places before) (own_places before i.1) (λ p. nat_le p i.1) i (part_divides before i after) (own_from_after before i after)
    styled_byte (λ p below. le-leb p i.1 (omega arith))
    ∙ ap (λ bs. slice_range bs i.0 i.1) (sym (styled-pieces t))

style_through-own_pieces : (t : List ℕ) (before : Option ℕ) (i : ℕ × ℕ) → ComesAfter before i → style_through (carried plain_style t before) (own_pieces t before i) ≡ style_at t i.1
style_through-own_pieces t before i after =
    ap (λ s. style_through s (own_pieces t before i)) (carried-places t before)
    ∙ state-divided apply plain_style t (own_from before) (earlier_places before) (own_places before i.1) (λ p. nat_le p i.1) i (part_divides before i after) (own_from_after before i after)

-- The codes that close a style, if anything is set that a reader could see.

abbrev pub closing_codes : Rendition → List (List ℕ)
closing_codes q = if has_any q then close_codes q else []

pub closing_codes_are : (q : Rendition) → AreCodes (closing_codes q) longest_close
closing_codes_are q = cond_both (has_any q) (close_codes q) [] (λ xs. AreCodes xs longest_close) (λ any. close_codes_are q) (λ none. record { each = refl; short = omega arith })

pub closing_codes_clear : (q : Rendition) → Clears q (closing_codes q)
closing_codes_clear q =
    cond_both (has_any q) (close_codes q) [] (Clears q)
    (λ any. λ p same. close_codes_clear p q same)
    (λ none. λ p same. same ∙ known-unset q none)

pub written-closing_codes : (q : Rendition) → written_all (closing_codes q) ≡ close_if_any q
written-closing_codes q = either (has_any q)
  where
    either : (any : Bool) → written_all (if any then close_codes q else []) ≡ (if any then close q else [])
    either true = refl
    either false = refl

-- So a part is closed, and has the slice over its interval.

pub IsStyle-carried : (t : List ℕ) (before : Option ℕ) → IsStyle (carried plain_style t before)
IsStyle-carried t None = IsStyle-plain_style
IsStyle-carried t (Some e) = IsStyle-style_at t e

-- the pieces of a part that isn't empty
abbrev pub part_pieces : List ℕ → Option ℕ → ℕ × ℕ → List Piece
part_pieces t before i = dressed_pieces (carried plain_style t before) (own_pieces t before i) (closing_codes (style_at t i.1))

pub spelled-part_pieces : (t : List ℕ) (before : Option ℕ) (i : ℕ × ℕ)
    → spelled (part_pieces t before i) ≡ start (carried plain_style t before) ++ interleaved (plain t) i.0 i.1 (marks_past before (marks_up_to i.1 (marks t))) ++ close_if_any (style_at t i.1)
spelled-part_pieces t before i = grind (arith, spelled-dressed_pieces, spelled-own_pieces, written-closing_codes)

pub own_pieces_stand : (t : List ℕ) (before : Option ℕ) (i : ℕ × ℕ) → IsTrue (is_whole t) → AllStandAnywhere (own_pieces t before i)
own_pieces_stand t before i whole = interleaved_pieces_stand (pieces_of t) (own_places before i.1) i.0 i.1 (pieces_stand t whole)

pub part_pieces_stand : (t : List ℕ) (before : Option ℕ) (i : ℕ × ℕ) → IsTrue (is_whole t) → AllStandAnywhere (part_pieces t before i)
part_pieces_stand t before i whole =
    let q = style_at t i.1 in
    dressed_pieces_stand (carried plain_style t before) (own_pieces t before i) (closing_codes q) (IsStyle-carried t before) (own_pieces_stand t before i whole) (closing_codes_are q)

some_part_is : (t : List ℕ) (before : Option ℕ) (i : ℕ × ℕ) → IsTrue (is_whole t) → ComesAfter before i
    → IsClosed (slice_range (styled t) i.0 i.1) (start (carried plain_style t before) ++ interleaved (plain t) i.0 i.1 (marks_past before (marks_up_to i.1 (marks t))) ++ close_if_any (style_at t i.1))
some_part_is t before i whole after =
    let s = carried plain_style t before in
    let q = style_at t i.1 in
    let ps = part_pieces t before i in
    let give = dressed_pieces_give s q (own_pieces t before i) (closing_codes q) (IsStyle-carried t before) (ap known (style_through-own_pieces t before i after)) (closing_codes_clear q) in
    subst (IsClosed (slice_range (styled t) i.0 i.1)) (spelled-part_pieces t before i)
    (closed-spelled ps (slice_range (styled t) i.0 i.1) (part_pieces_stand t before i whole) (subst (GiveAlone ps) (styled_through-own_pieces t before i after) give))

no_part_is : (t : List ℕ) (a b : ℕ) → a ≡ b → IsClosed (slice_range (styled t) a b) []
no_part_is t a b same = record { styled_bytes = sym (slice_range-none (styled t) a b (omega (arith, same))); whole = refl; closed = refl }

-- the part over any interval that comes after the part before
pub part_over_is : (t : List ℕ) (before : Option ℕ) (i : ℕ × ℕ) → IsTrue (is_whole t) → ComesAfter before i → IsClosed (slice_range (styled t) i.0 i.1) (part_over t before i)
unfolding part_from
part_over_is t before i whole after =
    let own = marks_past before (marks_up_to i.1 (marks t)) in
    cond_both (i.0 == i.1 && length own == 0) [] (start (carried plain_style t before) ++ interleaved (plain t) i.0 i.1 own ++ close_if_any (style_at t i.1)) (IsClosed (slice_range (styled t) i.0 i.1))
    (λ none. no_part_is t i.0 i.1 (eqb-true i.0 i.1 (and_parts (i.0 == i.1) (length own == 0) none).0))
    (λ some. some_part_is t before i whole after)

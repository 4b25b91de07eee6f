-- A safe text with a safe text put in place of a range is safe, if the range doesn't begin between a carriage return and a line feed.
use Rattle.std.proofs.Common.{◌≡◌, ℕ, ◌+◌, ◌-◌, ◌<◌, ◌≤◌, ◌==◌, ◌⊎◌, inl, inr, Bool, true, false, ◌&&◌, ◌||◌, List, [], ◌∷◌, ◌++◌, length, take, drop, codes, nat_lt, refl, sym, ◌∙◌, ap, ap₂, subst, arith, append-nil, length-append, if◌then◌else◌}
use Rattle.std.proofs.lemmas.Bool.{and_parts, cases_lt, lt-ltb, le-ltb}
use Rattle.std.proofs.lemmas.List.{take-append-le, take_all}
use Rattle.std.specs.Str.{IsUtf8, bytes_eq}
use Rattle.ansi_items.specs.Bytes.{is_plain_byte}
use Rattle.ansi_items.specs.Sequences.{is_sgr}
use Rattle.ansi_items.specs.Pieces.{Piece, Text, Sequence, LoneEscape, ArePieces, spelling, pieces_of}
use Rattle.ansi_items.specs.Plain.{plain, plain_of, marks, has_escape}
use Rattle.ansi_items.proofs.PieceLemmas.{pieces_are, pieces_of-unique}
use Rattle.ansi_items.proofs.PlainLemmas.{one_text, one_text_are}
use Rattle.ansi_style.specs.declared.state.rendition.Rendition.{Rendition}
use Rattle.ansi_style.specs.Rendition.{IsStyle}
use Rattle.ansi_style.specs.Reading.{style_after_from}
use Rattle.ansi_style.specs.Styled.{style_at}
use Rattle.ansi_style.specs.Written.{start, start_codes, close, close_codes}
use Rattle.ansi_style.proofs.ReadBackLemmas.{code_pieces, spelled-code_pieces, code_pieces_stand, start_codes_are, close_codes_are}
use Rattle.ansi_style.proofs.StyleLemmas.{IsStyle-style_at}
use Rattle.ansi_search.specs.Offsets.{bytes_before}
use Rattle.ansi_search.specs.Positions.{no_character_goes_on}
use Rattle.ansi_search.proofs.SliceLemmas.{list_all-parts}
use Rattle.ansi_search.proofs.OffsetLemmas.{bytes_before-last, bytes_before-text, drop-nonempty, inside_are, ArePieces-drop}
use Rattle.ansi_search.proofs.PositionLemmas.{no_character_goes_on-append, no_character_goes_on-after, good_is_boundary}
use Rattle.std.proofs.lemmas.Str.{IsUtf8-take, IsUtf8-drop}
use Rattle.ansi_safe.specs.declared.policy.Links.{Links}
use Rattle.ansi_safe.specs.Links.{is_link, opens_link, link_after, link_after_all, link_at, link_end}
use Rattle.ansi_safe.specs.Safe.{keeps_links, is_clean_link, may_stay, is_safe}
use Rattle.ansi_safe.proofs.LinkLemmas.{link_through, is_link-sgr}
use Rattle.ansi_safe.proofs.SafeLemmas.{IsGood, AreGood, good_are_safe}
use Rattle.ansi_restyle.specs.Ranges.{are_in_turn, parts_line_end}
use Rattle.ansi_restyle.specs.Restyled.{rest}
use Rattle.ansi_restyle.specs.Replaced.{place_of, link_back, put, replaced}
use Rattle.ansi_restyle.proofs.FrontLemmas.{front_pieces, pieces_of-front, piece_before}
use Rattle.ansi_restyle.proofs.RangeLemmas.{are_first}
use Rattle.ansi_restyle.proofs.RemovedLemmas.{mark_pieces}
use Rattle.ansi_restyle.proofs.PlaceLemmas.{place_of-later}
use Rattle.ansi_restyle.proofs.LinkedLemmas.{link-marks, after-pieces, end_is_sequence}
use Rattle.ansi_restyle.proofs.LinkRangeLemmas.{link_at-front}
use Rattle.ansi_restyle.proofs.ReplacedLemmas.{is_good_range, good_after_place}
use Rattle.ansi_restyle.proofs.SafeRangeLemmas.{parts-within, parts-after, run_front, run_rest, one_text_good, codes_good, IsMade, made-append, safe_good}
use Rattle.ansi_restyle.proofs.SafeEditLemmas.{front_marks_good, rest_good, front_is_good, made-good, made-sequences}

-- The pieces up to the place of a position past the front, which ends right after the plain byte before it, and those from there on.

abbrev pub up_to : ℕ → List Piece → List Piece
up_to a [] = []
up_to a (Text w ∷ ps) = if nat_lt (length w) a then Text w ∷ up_to (a - length w) ps else one_text (take a w)
up_to a (p ∷ ps) = p ∷ up_to a ps

pub up_to-later : (a : ℕ) (w : List ℕ) (ps : List Piece) → length w < a → up_to a (Text w ∷ ps) ≡ Text w ∷ up_to (a - length w) ps
up_to-later a w ps later = ap (λ b. if b then Text w ∷ up_to (a - length w) ps else one_text (take a w)) (lt-ltb (length w) a later)

pub up_to-last : (a : ℕ) (w : List ℕ) (ps : List Piece) → a ≤ length w → up_to a (Text w ∷ ps) ≡ one_text (take a w)
up_to-last a w ps last = ap (λ b. if b then Text w ∷ up_to (a - length w) ps else one_text (take a w)) (le-ltb (length w) a last)

abbrev pub from : ℕ → List Piece → List Piece
from a [] = []
from a (Text w ∷ ps) = if nat_lt (length w) a then from (a - length w) ps else (if nat_lt a (length w) then Text (drop a w) ∷ ps else ps)
from a (p ∷ ps) = from a ps

pub from-later : (a : ℕ) (w : List ℕ) (ps : List Piece) → length w < a → from a (Text w ∷ ps) ≡ from (a - length w) ps
from-later a w ps later = ap (λ b. if b then from (a - length w) ps else (if nat_lt a (length w) then Text (drop a w) ∷ ps else ps)) (lt-ltb (length w) a later)

pub from-inside : (a : ℕ) (w : List ℕ) (ps : List Piece) → a < length w → from a (Text w ∷ ps) ≡ Text (drop a w) ∷ ps
from-inside a w ps inside =
    ap₂ (λ b d. if b then from (a - length w) ps else (if d then Text (drop a w) ∷ ps else ps)) (le-ltb (length w) a (omega (arith, inside))) (lt-ltb a (length w) inside)

pub from-end : (a : ℕ) (w : List ℕ) (ps : List Piece) → a ≡ length w → from a (Text w ∷ ps) ≡ ps
from-end a w ps end =
    ap₂ (λ b d. if b then from (a - length w) ps else (if d then Text (drop a w) ∷ ps else ps)) (le-ltb (length w) a (omega (arith, end))) (le-ltb a (length w) (omega (arith, end)))

-- where the place is, by the pieces
abbrev place_in : ℕ → List Piece → ℕ
place_in a ps = bytes_before (a - 1) ps + 1

place_in-later : (a : ℕ) (w : List ℕ) (ps : List Piece) → length w < a → place_in a (Text w ∷ ps) ≡ length w + place_in (a - length w) ps
place_in-later a w ps later =
    let before : a - 1 - length w ≡ a - length w - 1 = omega (arith, later) in
    omega (arith, bytes_before-text (a - 1) w ps (omega (arith, later)), ap (λ k. bytes_before k ps) before)

place_in-last : (a : ℕ) (w : List ℕ) (ps : List Piece) → 0 < a → a ≤ length w → place_in a (Text w ∷ ps) ≡ a
place_in-last a w ps some last = omega (arith, some, bytes_before-last (a - 1) w ps (omega (arith, some, last)))

place_in-mark : (k n : ℕ) → k + n + 1 ≡ k + (n + 1)
place_in-mark k n = omega arith

up_to_are : (a : ℕ) (t : List ℕ) (ps : List Piece) → 0 < a → a ≤ length (plain_of ps) → ArePieces t ps → ArePieces (take (place_in a ps) t) (up_to a ps)
up_to_are a t [] some within are = absurd (omega (arith, some, within))
up_to_are a t (Text w ∷ ps) some within are = elim (cases_lt (length w) a) [
  | inl later ↦
      rw (place_in-later a w ps later, up_to-later a w ps later)
      (piece_before t (Text w) are.0 (place_in (a - length w) ps) (up_to (a - length w) ps) are.1 are.2
      (up_to_are (a - length w) are.0 ps (omega (arith, later)) (omega (arith, within, length-append w (plain_of ps))) are.3))
  | inr last ↦ (
      let cut : take a t ≡ take a w = ap (take a) are.1 ∙ take-append-le a w are.0 last in
      rw (place_in-last a w ps some last, up_to-last a w ps last, cut) (one_text_are (take a w) (list_all-parts is_plain_byte a w are.2.1).0))
]
up_to_are a t (p ∷ ps) some within are =
    subst (λ k. ArePieces (take k t) (p ∷ up_to a ps)) (sym (place_in-mark (length (spelling p)) (bytes_before (a - 1) ps)))
    (piece_before t p are.0 (place_in a ps) (up_to a ps) are.1 are.2 (up_to_are a are.0 ps some within are.3))

from_are : (a : ℕ) (t : List ℕ) (ps : List Piece) → 0 < a → a ≤ length (plain_of ps) → ArePieces t ps → ArePieces (drop (place_in a ps) t) (from a ps)
from_are a t [] some within are = absurd (omega (arith, some, within))
from_are a t (Text w ∷ ps) some within are = elim (cases_lt (length w) a) [
  | inl later ↦
      rw (place_in-later a w ps later, from-later a w ps later)
      (ArePieces-drop t (Text w) are.0 (place_in (a - length w) ps) (from (a - length w) ps) are.1
      (from_are (a - length w) are.0 ps (omega (arith, later)) (omega (arith, within, length-append w (plain_of ps))) are.3))
  | inr last ↦ (elim (cases_lt a (length w)) [
    | inl inside ↦ rw (place_in-last a w ps some last, from-inside a w ps inside) (inside_are a t w ps are inside)
    | inr past ↦ (
        let end : a ≡ length w = omega (arith, last, past) in
        let at : place_in a (Text w ∷ ps) ≡ length w + 0 = omega (arith, place_in-last a w ps some last, end) in
        rw (at, from-end a w ps end) (ArePieces-drop t (Text w) are.0 0 ps are.1 are.3))
  ])
]
from_are a t (p ∷ ps) some within are =
    subst (λ k. ArePieces (drop k t) (from a ps)) (sym (place_in-mark (length (spelling p)) (bytes_before (a - 1) ps)))
    (ArePieces-drop t p are.0 (place_in a ps) (from a ps) are.1 (from_are a are.0 ps some within are.3))

pub up_to_place : (t : List ℕ) (a : ℕ) → 0 < a → a ≤ length (plain t) → pieces_of (take (place_of a t) t) ≡ up_to a (pieces_of t)
up_to_place t a some within =
    ap (λ k. pieces_of (take k t)) (place_of-later t a some)
    ∙ sym (pieces_of-unique (take (place_in a (pieces_of t)) t) (up_to a (pieces_of t)) (up_to_are a t (pieces_of t) some within (pieces_are t)))

pub from_place : (t : List ℕ) (a : ℕ) → 0 < a → a ≤ length (plain t) → pieces_of (drop (place_of a t) t) ≡ from a (pieces_of t)
from_place t a some within =
    ap (λ k. pieces_of (drop k t)) (place_of-later t a some)
    ∙ sym (pieces_of-unique (drop (place_in a (pieces_of t)) t) (from a (pieces_of t)) (from_are a t (pieces_of t) some within (pieces_are t)))

-- The last link that good pieces open is one of them, if links are kept.

abbrev pub IsOpenGood : Links → List ℕ → Type 0
IsOpenGood links link = (link ≡ []) ⊎ ((keeps_links links ≡ true) × IsGood links (Sequence link))

module _ (links : Links) where
  -- a link sequence stays only if links are kept
  kept : (w : List ℕ) → is_link w ≡ true → may_stay links (Sequence w) ≡ true → keeps_links links ≡ true
  kept w link stays = by (is_sgr w) (keeps_links links) refl stays
    where
      by : (s k : Bool) → is_sgr w ≡ s → (s || (k && is_clean_link w)) ≡ true → k ≡ true
      by true k is stays = absurd (cc (is_link-sgr w is, link))
      by false true is stays = refl
      by false false is stays = absurd (cc stays)

  open_good-after : (link w : List ℕ) → IsOpenGood links link → IsGood links (Sequence w) → IsOpenGood links (link_after link w)
  open_good-after link w before good = by_tests (is_link w) (opens_link w) refl
    where
      by_tests : (b c : Bool) → is_link w ≡ b → IsOpenGood links (if b then (if c then w else []) else link)
      by_tests true true is = inr (kept w is good.1, good)
      by_tests true false is = inl refl
      by_tests false c is = before

  pub open_good-through : (link : List ℕ) (ps : List Piece) → AreGood links ps → IsOpenGood links link → IsOpenGood links (link_through link ps)
  open_good-through link [] good before = before
  open_good-through link (Text w ∷ ps) good before = open_good-through link ps good.1 before
  open_good-through link (Sequence w ∷ ps) good before = open_good-through (link_after link w) ps good.1 (open_good-after link w before good.0)
  open_good-through link (LoneEscape ∷ ps) good before = absurd good.0

  pub open_good-at : (t : List ℕ) (i : ℕ) → AreGood links (pieces_of t) → IsOpenGood links (link_at t i)
  open_good-at t i good =
      let ps = front_pieces i (pieces_of t) in
      let is : link_at t i ≡ link_through [] (mark_pieces ps) = link_at-front t i ∙ ap (link_through []) (pieces_of-front t i) ∙ sym (link-marks [] ps) in
      subst (IsOpenGood links) (sym is) (open_good-through [] (mark_pieces ps) (front_marks_good links i (pieces_of t) good) (inl refl))

  -- What is written for the links.

  pub made-nothing : IsMade links []
  made-nothing = record { pieces = []; bytes = refl; good = tt }

  pub made-sequence : (w : List ℕ) → IsGood links (Sequence w) → IsMade links w
  made-sequence w good = record { pieces = Sequence w ∷ []; bytes = append-nil w; good = (good, tt) }

  pub made-end : keeps_links links ≡ true → IsMade links (codes "\u{1b}]8;;\u{1b}\\")
  made-end keeps = made-sequence (codes "\u{1b}]8;;\u{1b}\\") (end_is_sequence, ap (λ k. k && true) keeps)

  pub made-link_end : (link : List ℕ) → IsOpenGood links link → IsMade links (link_end link)
  made-link_end link (inl none) = subst (λ l. IsMade links (link_end l)) (sym none) made-nothing
  made-link_end link (inr good) = by_test (length link == 0)
    where
      by_test : (b : Bool) → IsMade links (if b then [] else codes "\u{1b}]8;;\u{1b}\\")
      by_test true = made-nothing
      by_test false = made-end good.0

  pub made-open : (link : List ℕ) → IsOpenGood links link → IsMade links link
  made-open link (inl none) = subst (IsMade links) (sym none) made-nothing
  made-open link (inr good) = made-sequence link good.1

  made-back : (link other : List ℕ) → IsOpenGood links link → IsOpenGood links other → IsMade links (link_back link other)
  made-back link other good good_other = by_tests (bytes_eq other link) (length link == 0)
    where
      by_tests : (b c : Bool) → IsMade links (if b then [] else (if c then link_end other else link))
      by_tests true c = made-nothing
      by_tests false true = made-link_end other good_other
      by_tests false false = made-open link good

  -- What is put.

  made-close : (s : Rendition) → IsMade links (close s)
  made-close s =
      let are = close_codes_are s in
      record { pieces = code_pieces (close_codes s); bytes = spelled-code_pieces (close_codes s); good = codes_good links (close_codes s) are.each (code_pieces_stand (close_codes s) are) }

  made-start : (s : Rendition) → IsStyle s → IsMade links (start s)
  made-start s is =
      let are = start_codes_are s is in
      record { pieces = code_pieces (start_codes s); bytes = spelled-code_pieces (start_codes s); good = codes_good links (start_codes s) are.each (code_pieces_stand (start_codes s) are) }

  pub made-put : (s : Rendition) (link w : List ℕ) → IsStyle s → IsOpenGood links link → AreGood links (pieces_of w) → IsMade links (put s link w)
  made-put s link w is good good_w = made-append links (made-good links w good_w) (by_test (has_escape w))
    where
      other : List ℕ
      other = link_after_all link (marks w)

      open_other : IsOpenGood links other
      open_other = subst (IsOpenGood links) (sym (after-pieces link w)) (open_good-through link (pieces_of w) good_w good)

      by_test : (b : Bool) → IsMade links (if b then link_back link other ++ (close (style_after_from s w) ++ start s) else [])
      by_test true = made-append links (made-back link other good open_other) (made-append links (made-close (style_after_from s w)) (made-start s is))
      by_test false = made-nothing

  -- A text up to a place, and what follows it.

  up_to_good : (a : ℕ) (ps : List Piece) → AreGood links ps → no_character_goes_on (plain_of ps) a ≡ true → parts_line_end (plain_of ps) a ≡ false → AreGood links (up_to a ps)
  up_to_good a [] good here apart = tt
  up_to_good a (Text w ∷ ps) good here apart = elim (cases_lt (length w) a) [
    | inl later ↦ (
        let within : length w ≤ a = omega (arith, later) in
        rw (up_to-later a w ps later)
        (good.0, up_to_good (a - length w) ps good.1 (sym (no_character_goes_on-after w (plain_of ps) a within) ∙ here) (parts-after w (plain_of ps) a within apart)))
    | inr last ↦ (elim (cases_lt a (length w)) [
      | inl inside ↦ (
          let y = plain_of ps in
          let utf8 : IsUtf8 w = good.0.2 in
          let boundary = good_is_boundary w a (omega (arith, inside)) (sym (no_character_goes_on-append w y a inside) ∙ here) in
          rw (up_to-last a w ps last)
          (one_text_good links (take a w) (list_all-parts is_plain_byte a w good.0.1).0 (IsUtf8-take w a utf8 boundary) (run_front w a utf8 boundary good.0.3 (parts-within w y a inside ∙ apart))))
      | inr past ↦ (
          let all : up_to a (Text w ∷ ps) ≡ one_text w = up_to-last a w ps last ∙ ap one_text (take_all a w past) in
          rw all (one_text_good links w good.0.1 good.0.2 good.0.3))
    ])
  ]
  up_to_good a (Sequence w ∷ ps) good here apart = (good.0, up_to_good a ps good.1 here apart)
  up_to_good a (LoneEscape ∷ ps) good here apart = absurd good.0

  from_good : (a : ℕ) (ps : List Piece) → AreGood links ps → no_character_goes_on (plain_of ps) a ≡ true → AreGood links (from a ps)
  from_good a [] good here = tt
  from_good a (Text w ∷ ps) good here = elim (cases_lt (length w) a) [
    | inl later ↦ (
        let within : length w ≤ a = omega (arith, later) in
        rw (from-later a w ps later) (from_good (a - length w) ps good.1 (sym (no_character_goes_on-after w (plain_of ps) a within) ∙ here)))
    | inr last ↦ (elim (cases_lt a (length w)) [
      | inl inside ↦ (
          let utf8 : IsUtf8 w = good.0.2 in
          let boundary = good_is_boundary w a (omega (arith, inside)) (sym (no_character_goes_on-append w (plain_of ps) a inside) ∙ here) in
          rw (from-inside a w ps inside)
          ((drop-nonempty a w inside, (list_all-parts is_plain_byte a w good.0.1).1, IsUtf8-drop w a utf8 boundary, run_rest w a utf8 boundary good.0.3), good.1))
      | inr past ↦ rw (from-end a w ps (omega (arith, last, past))) good.1
    ])
  ]
  from_good a (Sequence w ∷ ps) good here = from_good a ps good.1 here
  from_good a (LoneEscape ∷ ps) good here = absurd good.0

  pub up_to_place_good : (t : List ℕ) (a : ℕ) → AreGood links (pieces_of t) → a ≤ length (plain t) → no_character_goes_on (plain t) a ≡ true → parts_line_end (plain t) a ≡ false → AreGood links (pieces_of (take (place_of a t) t))
  up_to_place_good t a good within here apart = elim (cases_lt 0 a) [
    | inl some ↦ subst (AreGood links) (sym (up_to_place t a some within)) (up_to_good a (pieces_of t) good here apart)
    | inr none ↦ (
        let zero_is : 0 ≡ a = omega (arith, none) in
        subst (λ n. AreGood links (pieces_of (take (place_of n t) t))) zero_is
        (front_is_good links t 0 good (ap (no_character_goes_on (plain t)) zero_is ∙ here) (ap (parts_line_end (plain t)) zero_is ∙ apart)))
  ]

  pub from_place_good : (t : List ℕ) (a : ℕ) → AreGood links (pieces_of t) → a ≤ length (plain t) → no_character_goes_on (plain t) a ≡ true → AreGood links (pieces_of (drop (place_of a t) t))
  from_place_good t a good within here = elim (cases_lt 0 a) [
    | inl some ↦ subst (AreGood links) (sym (from_place t a some within)) (from_good a (pieces_of t) good here)
    | inr none ↦ (
        let zero_is : 0 ≡ a = omega (arith, none) in
        subst (λ n. AreGood links (pieces_of (drop (place_of n t) t))) zero_is (rest_good links t 0 good (ap (no_character_goes_on (plain t)) zero_is ∙ here)))
  ]

  pub safe-replaced : (t : List ℕ) (r : ℕ × ℕ) (w : List ℕ) → IsUtf8 t → IsUtf8 w → are_in_turn (plain t) 0 (r ∷ []) ≡ true → (is_safe links t && is_safe links w) ≡ true → parts_line_end (plain t) r.0 ≡ false
      → is_safe links (replaced t r.0 r.1 w) ≡ true
  safe-replaced t r w utf8 utf8_w turn safe apart =
      let both = and_parts (is_safe links t) (is_safe links w) safe in
      let first = are_first (plain t) 0 r [] turn in
      let range = is_good_range t r turn in
      let a = r.0 in
      let n = r.1 - r.0 in
      let after = drop (place_of a t) t in
      let good = safe_good links t (pieces_of t) (pieces_are t) utf8 both.0 in
      let good_w = safe_good links w (pieces_of w) (pieces_are w) utf8_w both.1 in
      let good_after = from_place_good t a good range.within first.good_start in
      let made = made-append links (made-append links (made-append links
      (made-good links (take (place_of a t) t) (up_to_place_good t a good range.within first.good_start apart))
      (made-put (style_at t (a - 1)) (link_at t (a - 1)) w (IsStyle-style_at t (a - 1)) (open_good-at t (a - 1) good) good_w))
      (made-sequences links after n good_after))
      (made-good links (rest n after) (rest_good links after n good_after (good_after_place t after r turn refl))) in
      subst (λ u. is_safe links u ≡ true) made.bytes (good_are_safe links made.pieces made.good)

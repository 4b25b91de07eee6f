-- A cut and a kept text as a stretch of the text, by the offsets of its plain bytes, and the sequences outside of it.
use Rattle.ansi_search.specs.Offsets.{IsEnd}
use Rattle.ansi_slice.proofs.Common.{◌≡◌, ℕ, ◌+◌, ◌-◌, ◌<◌, ◌≤◌, inl, inr, Bool, true, List, [], ◌∷◌, ◌++◌, length, take, drop, take-add, refl, sym, ◌∙◌, ap, ap₂, subst, arith, if◌then◌else◌, nat_lt, length-append, append_assoc, append-nil, not, false, ◌&&◌, Some, cases_lt, le-leb, lt-ltb, nat_tests, take-append-le, length-drop, drop-drop, slice_range, IsCharBoundary, Kind, Piece, Text, pieces_of, plain_of, plain, length-plain, spelled, spelled-pieces_of, is_mark, BeginsWithMark, Rendition, plain_style, apply, style_within, close, no_character_goes_on, is_good_range, cut_up_to, kept, bytes_before, sequences_up_to, offset_of, StandsIn, KeepsUpTo, IsUtf8, IsUtf8-plain, spelling, joined, marks_of, marks_up_to, marks_of-text, marks_of-mark, marks_up_to-none, marks_up_to-further, marks_up_to-here}
use Rattle.ansi_style.proofs.MarkLemmas.{joined-further}
use Rattle.ansi_search.proofs.SliceLemmas.{slice_range-past, slice_range-from_past}
use Rattle.ansi_search.proofs.OffsetLemmas.{bytes_before-last, bytes_before-text, offset_walk-begin, offset_walk-text, offset_walk-mark, offset_walk-last, offset_walk-test, offset_walk-boundary, offset_walk-end, IsOffsetWalk, IsOverMark, after_of, after_of-last, after_of-text, take-after, pieces_of-after, plain-after, IsOverText}
use Rattle.std.specs.Prelude.{◌↔◌, ◌==◌, IsTrue, IfSome, Option, None}
use Rattle.std.specs.Bool.{then_some}
use Rattle.std.proofs.lemmas.Bool.{eqb-true}
use Rattle.ansi_search.proofs.PositionLemmas.{no_character_goes_on-past, no_character_goes_on-boundary, good_is_boundary, good_range-utf8, boundary_test}
use Rattle.ansi_slice.specs.Stretches.{IsAt, AreMarks, IsStretch, IsFirstRun}
use Rattle.std.proofs.lemmas.Str.{IsCharBoundary-end}
use Rattle.ansi_search.proofs.SliceLemmas.{length-slice_range}
use Rattle.ansi_search.proofs.EndLemmas.{starts_with-within, starts_with-boundary}
use Rattle.ansi_slice.proofs.Common.{nat_eq, starts_with, plain_of-mark, without_prefix}
use Rattle.ansi_slice.proofs.CutLemmas.{interleaved_from, interleaved_from-text, cut_up_to-walk}
use Rattle.ansi_slice.proofs.KeptWalkLemmas.{kept-walk, kept-all}

sequences_up_to-last : (n : ℕ) (w : List ℕ) (ps : List Piece) → n < length w → sequences_up_to n (Text w ∷ ps) ≡ []
sequences_up_to-last n w ps last = ap (λ ms. joined (marks_up_to n ms)) (marks_of-text w ps) ∙ ap joined (marks_up_to-none n (length w) (marks_of ps) last)

pub sequences_up_to-text : (n : ℕ) (w : List ℕ) (ps : List Piece) → length w ≤ n → sequences_up_to n (Text w ∷ ps) ≡ sequences_up_to (n - length w) ps
sequences_up_to-text n w ps within =
    ap (λ ms. joined (marks_up_to n ms)) (marks_of-text w ps) ∙ ap joined (marks_up_to-further n (length w) (marks_of ps) within)
    ∙ joined-further (length w) (marks_up_to (n - length w) (marks_of ps))

sequences_up_to-mark : (n : ℕ) (p : Piece) (ps : List Piece) → is_mark p ≡ true → sequences_up_to n (p ∷ ps) ≡ spelling p ++ sequences_up_to n ps
sequences_up_to-mark n p ps is = ap (λ ms. joined (marks_up_to n ms)) (marks_of-mark p ps is) ∙ ap joined (marks_up_to-here n (spelling p) (marks_of ps))

take-more : (w rest more : List ℕ) (n : ℕ) → take (length w + n) (w ++ rest) ++ more ≡ w ++ (take n rest ++ more)
take-more w rest more n = ap (λ u. u ++ more) (take-after w rest n) ∙ append_assoc w (take n rest) more

-- A cut, and a kept text, begin with the sequences up to their start, and go on as one stretch.

interleaved_from-front : (all : Bool) (ps : List Piece) (s e : ℕ) → s ≤ e → interleaved_from all s e ps ≡ sequences_up_to s ps ++ interleaved_from all 0 (e - s) (after_of s ps)
interleaved_from-front all [] s e ordered = refl
interleaved_from-front all (Text w ∷ ps) s e ordered = elim (cases_lt s (length w)) [
  | inl last ↦ (
      let v = drop s w in
      let left : length v ≡ length w - s = length-drop s w in
      let test : nat_lt e (length w) ≡ nat_lt (e - s) (length v) = grind (arith, nat_tests) in
      let count : e - s ≡ e - s - 0 = omega arith in
      let from : s - length w ≡ 0 - length v = omega arith in
      let to : e - length w ≡ e - s - length v = omega arith in
      ap₂ (λ n b. take n v ++ (if not all && b then [] else interleaved_from all (s - length w) (e - length w) ps)) count test
      ∙ ap₂ (λ i j. slice_range v 0 (e - s) ++ (if not all && nat_lt (e - s) (length v) then [] else interleaved_from all i j ps)) from to
      ∙ sym (ap₂ (λ u qs. u ++ interleaved_from all 0 (e - s) qs) (sequences_up_to-last s w ps last) (after_of-last s w ps last)))
  | inr within ↦ (
      let n = length w in
      let count : e - n - (s - n) ≡ e - s = omega arith in
      interleaved_from-text all s e w ps (omega arith)
      ∙ ap (λ u. u ++ interleaved_from all (s - n) (e - n) ps) (slice_range-from_past w s e within)
      ∙ interleaved_from-front all ps (s - n) (e - n) (omega arith)
      ∙ ap (λ k. sequences_up_to (s - n) ps ++ interleaved_from all 0 k (after_of (s - n) ps)) count
      ∙ sym (ap₂ (λ u qs. u ++ interleaved_from all 0 (e - s) qs) (sequences_up_to-text s w ps within) (after_of-text s w ps within)))
]
interleaved_from-front all (p ∷ ps) s e ordered =
    let rest = interleaved_from all 0 (e - s) (after_of s ps) in
    ap (λ v. spelling p ++ v) (interleaved_from-front all ps s e ordered) ∙ sym (append_assoc (spelling p) (sequences_up_to s ps) rest)
    ∙ ap (λ u. u ++ rest) (sym (sequences_up_to-mark s p ps refl))

-- the marks past the end, if all are shown
abbrev later_bytes : Bool → ℕ → List Piece → List ℕ
later_bytes all e ps = if all then interleaved_from true 0 0 (after_of e ps) else []

interleaved_from-stretch : (all : Bool) (ps : List Piece) (e : ℕ) → interleaved_from all 0 e ps ≡ take (bytes_before e ps) (spelled ps) ++ later_bytes all e ps
interleaved_from-stretch true [] e = refl
interleaved_from-stretch false [] e = refl
interleaved_from-stretch all (Text w ∷ ps) e = elim (cases_lt e (length w)) [
  | inl last ↦ (
      let count : e - 0 ≡ e = omega arith in
      ap₂ (λ n b. take n w ++ (if not all && b then [] else interleaved_from all (0 - length w) (e - length w) ps)) count (lt-ltb e (length w) last)
      ∙ ap (λ v. take e w ++ v) (past all last)
      ∙ sym (ap₂ (λ n qs. take n (w ++ spelled ps) ++ (if all then interleaved_from true 0 0 qs else [])) (bytes_before-last e w ps last) (after_of-last e w ps last)
      ∙ ap (λ u. u ++ (if all then interleaved_from true 0 0 (Text (drop e w) ∷ ps) else [])) (take-append-le e w (spelled ps) (omega arith))))
  | inr within ↦ (
      let n = length w in
      let front : 0 - n ≡ 0 = omega arith in
      interleaved_from-text all 0 e w ps within
      ∙ ap₂ (λ u k. u ++ interleaved_from all k (e - n) ps) (slice_range-past w 0 e within) front
      ∙ ap (λ v. w ++ v) (interleaved_from-stretch all ps (e - n))
      ∙ sym (ap₂ (λ k qs. take k (w ++ spelled ps) ++ (if all then interleaved_from true 0 0 qs else [])) (bytes_before-text e w ps within) (after_of-text e w ps within)
      ∙ take-more w (spelled ps) (later_bytes all (e - n) ps) (bytes_before (e - n) ps)))
]
  where
    past : (b : Bool) → e < length w → (if not b && true then [] else interleaved_from b (0 - length w) (e - length w) ps) ≡ (if b then interleaved_from true 0 0 (Text (drop e w) ∷ ps) else [])
    past true last = ap₂ (λ i j. interleaved_from true i j ps) (omega arith) (omega arith)
    past false last = refl
interleaved_from-stretch all (p ∷ ps) e = ap (λ v. spelling p ++ v) (interleaved_from-stretch all ps e) ∙ sym (take-more (spelling p) (spelled ps) (later_bytes all e ps) (bytes_before e ps))

-- the bytes before a later plain byte, in two parts
bytes_before-parts : (s k : ℕ) (ps : List Piece) → bytes_before (s + k) ps ≡ bytes_before s ps + bytes_before k (after_of s ps)
bytes_before-parts s k [] = refl
bytes_before-parts s k (Text w ∷ ps) = elim (cases_lt s (length w)) [
  | inl last ↦ (
      let v = drop s w in
      let left : length v ≡ length w - s = length-drop s w in
      let here : bytes_before s (Text w ∷ ps) ≡ s = bytes_before-last s w ps last in
      let after : bytes_before k (after_of s (Text w ∷ ps)) ≡ bytes_before k (Text v ∷ ps) = ap (bytes_before k) (after_of-last s w ps last) in
      elim (cases_lt k (length v)) [
        | inl inside ↦ (omega (arith, here, after, bytes_before-last k v ps inside, bytes_before-last (s + k) w ps (omega (arith, left, inside, last))))
        | inr past ↦ (
            let same : s + k - length w ≡ k - length v = omega (arith, left, past, last) in
            omega (arith, here, after, left, bytes_before-text k v ps past, bytes_before-text (s + k) w ps (omega (arith, left, past, last)), ap (λ n. bytes_before n ps) same))
      ])
  | inr within ↦ (
      let n = length w in
      let sum : s + k - n ≡ s - n + k = omega (arith, within) in
      omega (
        arith,
        bytes_before-text (s + k) w ps (omega (arith, within)),
        ap (λ m. bytes_before m ps) sum,
        bytes_before-parts (s - n) k ps,
        bytes_before-text s w ps within,
        ap (bytes_before k) (after_of-text s w ps within),
      ))
]
bytes_before-parts s k (p ∷ ps) = omega (arith, bytes_before-parts s k ps)

-- a front that is one stretch
front-stretch : (t : List ℕ) (e : ℕ) {to : ℕ} → to ≡ offset_of t e → take to t ≡ interleaved_from false 0 e (pieces_of t)
front-stretch t e end = ap₂ (λ i u. take i u) end (sym (spelled-pieces_of t)) ∙ sym (interleaved_from-stretch false (pieces_of t) e ∙ append-nil _)

-- a cut from the front, by the offset of its end
pub cut-front : {t : List ℕ} {e to : ℕ} {style : Rendition} → StandsIn t e to → style ≡ style_within plain_style t e → take to t ++ close style ≡ cut_up_to t 0 e
cut-front {t} {e} end style_is = ap₂ (λ u r. u ++ close r) (front-stretch t e end.offset) style_is ∙ sym (cut_up_to-walk t 0 e)

-- a cut, by the sequences up to its start and the offsets of its ends
pub cut-stretch : {t front stretch : List ℕ} {s e from to : ℕ} {marks : Option ℕ} {style : Rendition} → s ≤ e → IsStretch t s e marks from to → front ≡ sequences_up_to s (pieces_of t) → stretch ≡ slice_range t from to
    → style ≡ style_within plain_style t e → (front ++ stretch) ++ close style ≡ cut_up_to t s e
cut-stretch {t} {s = s} {e = e} {from = from} {to = to} ordered is front_is stretch_is style_is =
    let ps = pieces_of t in
    let rest = drop from t in
    let after : pieces_of rest ≡ after_of s ps = ap (λ i. pieces_of (drop i t)) is.start.offset ∙ pieces_of-after t s in
    let count : s + (e - s) ≡ e = omega (arith, ordered) in
    let parts : offset_of t e ≡ offset_of t s + offset_of rest (e - s)
    = ap (λ n. bytes_before n ps) (sym count) ∙ bytes_before-parts s (e - s) ps ∙ ap (λ qs. offset_of t s + bytes_before (e - s) qs) (sym after) in
    let end : to - from ≡ offset_of rest (e - s) = omega (arith, parts, is.start.offset, is.end.offset) in
    ap₂ (λ u r. u ++ close r)
    (ap₂ (λ u v. u ++ v) front_is (stretch_is ∙ front-stretch rest (e - s) end ∙ ap (interleaved_from false 0 (e - s)) after) ∙ sym (interleaved_from-front false ps s e ordered))
    style_is
    ∙ sym (cut_up_to-walk t s e)

-- and from the front, as one stretch
pub cut-front_stretch : {t stretch : List ℕ} {s e from to : ℕ} {marks : Option ℕ} {style : Rendition} → s ≡ 0 → IsStretch t s e marks from to → stretch ≡ slice_range t 0 to
    → style ≡ style_within plain_style t e → stretch ++ close style ≡ cut_up_to t s e
cut-front_stretch {t} {e = e} {to = to} none is stretch_is style_is =
    let all : to - 0 ≡ to = omega arith in
    ap₂ (λ u r. u ++ close r) (stretch_is ∙ ap (λ n. take n t) all ∙ front-stretch t e is.end.offset) style_is ∙ sym (cut_up_to-walk t 0 e) ∙ ap (λ n. cut_up_to t n e) (sym none)

-- its range, by the offsets
pub range-by_stretch : {t : List ℕ} {s e from to : ℕ} {marks : Option ℕ} {a b : Bool} → IsUtf8 t → s ≤ e → IsStretch t s e marks from to → IsTrue a ↔ IsCharBoundary t from → IsTrue b ↔ IsCharBoundary t to
    → is_good_range (plain t) s (Some e) ≡ (a && b)
range-by_stretch {t} {s} {e} {from} {to} {a = a} {b = b} utf8 ordered is start_test end_test =
    let x = plain t in
    good_range-utf8 x s e (IsUtf8-plain t utf8)
    ∙ ap (λ c. c && (no_character_goes_on x s && no_character_goes_on x e)) (le-leb s e ordered)
    ∙ ap₂ (λ c d. c && d) (sym (boundary_test t from a is.start.within start_test ∙ is.start.same)) (sym (boundary_test t to b is.end.within end_test ∙ is.end.same))

pub good_range-by_stretch : {t : List ℕ} {s e from to : ℕ} {marks : Option ℕ} {a b : Bool} → IsUtf8 t → s ≤ e → IsStretch t s e marks from to → IsTrue a ↔ IsCharBoundary t from → IsTrue b ↔ IsCharBoundary t to
    → a ≡ true → b ≡ true → IsTrue (is_good_range (plain t) s (Some e))
good_range-by_stretch utf8 ordered is start_test end_test start_is end_is = range-by_stretch utf8 ordered is start_test end_test ∙ ap₂ (λ a b. a && b) start_is end_is

-- what is kept from s on
pub kept-front : (t : List ℕ) (s e : ℕ) → s ≤ e → kept t s e ≡ sequences_up_to s (pieces_of t) ++ kept (drop (offset_of t s) t) 0 (e - s)
kept-front t s e ordered = grind (arith, kept-walk, pieces_of-after, interleaved_from-front)

-- all from s on
pub kept-rest : {t rest : List ℕ} {s from : ℕ} → s ≤ length (plain t) → StandsIn t s from → rest ≡ drop from t → sequences_up_to s (pieces_of t) ++ rest ≡ kept t s (length (plain t))
kept-rest inside stands is = grind (arith, kept-all, kept-front, length-drop, plain-after)

-- what is kept up to e: all before its offset, and the sequences after that
pub kept-stretch : (t : List ℕ) (e : ℕ) → kept t 0 e ≡ take (offset_of t e) t ++ kept (drop (offset_of t e) t) 0 0
kept-stretch t e = grind (arith, kept-walk, pieces_of-after, interleaved_from-stretch, spelled-pieces_of)

-- so it is at a place in the text, and the offset of that place
pub keeps-at : {t : List ℕ} {n i : ℕ} → StandsIn t n i → KeepsUpTo t n i
keeps-at {t} {n} stands = record {
  boundary = stands.boundary;
  bytes = kept-stretch t n ∙ ap (λ k. take k t ++ kept (drop k t) 0 0) (sym stands.offset);
}

-- if no plain byte is kept, all sequences are
interleaved_from-none : (ps : List Piece) (top : ℕ) → length (plain_of ps) ≤ top → interleaved_from true 0 0 ps ≡ sequences_up_to top ps
interleaved_from-none [] top past = refl
interleaved_from-none (Text w ∷ ps) top past = grind (arith, length-append, sequences_up_to-text, interleaved_from-none ps (top - length w) (omega (arith, (length-append w (plain_of ps)), past)))
interleaved_from-none (p ∷ ps) top past = ap (λ v. spelling p ++ v) (interleaved_from-none ps top past) ∙ sym (sequences_up_to-mark top p ps refl)

pub kept-none : (t : List ℕ) (top : ℕ) → length t ≤ top → kept t 0 0 ≡ sequences_up_to top (pieces_of t)
kept-none t top past = kept-walk t 0 0 ∙ interleaved_from-none (pieces_of t) top (omega (arith, length-plain t))

-- What has been appended, and the sequences up to a place in what is left, are all.
pub record IsPushedSoFar (whole written : List ℕ) (n : ℕ) (left : List Piece) : Type 0 where
  pub pushed : written ++ sequences_up_to n left ≡ whole

pub pushed-begin : (out t : List ℕ) (n : ℕ) → IsPushedSoFar (out ++ sequences_up_to n (pieces_of t)) out n (pieces_of t)
pushed-begin out t n = record { pushed = refl }

pub pushed-text : {whole written : List ℕ} {n next : ℕ} {w : List ℕ} {old ps : List Piece} → IsPushedSoFar whole written n old → old ≡ Text w ∷ ps → length w ≤ n → next ≡ n - length w
    → IsPushedSoFar whole written next ps
pushed-text {whole} {written} {n} {next} {w} {old} {ps} so_far first within is =
    rw is (record { pushed = ap (λ v. written ++ v) (sym (ap (sequences_up_to n) first ∙ sequences_up_to-text n w ps within)) ∙ so_far.pushed })

pub pushed-mark : {whole written new : List ℕ} {n : ℕ} {kind : Kind} {w : List ℕ} {old ps : List Piece} → IsPushedSoFar whole written n old → BeginsWithMark kind w old ps → new ≡ written ++ w
    → IsPushedSoFar whole new n ps
pushed-mark so_far begins is = grind (arith, append_assoc, sequences_up_to-mark)

pub pushed-last : {whole written w : List ℕ} {n : ℕ} {old ps : List Piece} → IsPushedSoFar whole written n old → old ≡ Text w ∷ ps → n < length w → written ≡ whole
pushed-last so_far first last = grind (arith, append-nil, sequences_up_to-last)

-- An end of a text that begins right after its plain byte n - 1, or after more sequences.
pub keeps-end : {t : List ℕ} {n i : ℕ} → IsEnd t i → n + length (plain (drop i t)) ≡ length (plain t) → KeepsUpTo t n i
keeps-end {t} {n} {i} end is =
    let u = drop i t in
    let m = offset_of u 0 in
    let same : n ≡ end.before + 0 = omega (arith, is, end.count) in
    let offset : offset_of t n ≡ i + m = ap (offset_of t) same ∙ end.offset 0 in
    record {
      boundary = end.boundary;
      bytes = kept-stretch t n
          ∙ ap (λ j. take j t ++ kept (drop j t) 0 0) offset
          ∙ ap₂ (λ a b. a ++ kept b 0 0) (take-add i m t) (sym (drop-drop m i t))
          ∙ append_assoc (take i t) (take m u) (kept (drop m u) 0 0)
          ∙ ap (λ v. take i t ++ v) (sym (kept-stretch u 0));
    }

-- A walk to both ends of a cut.

-- a position in the run of text that comes next
at-here : {t : List ℕ} {n i passed at left : ℕ} {c style : Rendition} {w : List ℕ} {old ps : List Piece} → IsOffsetWalk t n c passed left style old → IsOverText t w passed at old ps → left < length w → i ≡ passed + left → IsAt t n i
at-here {t} {n} {i} way over last is =
    let within : i ≤ length t = omega (arith, is, last, over.count, over.within) in
    record {
      offset = is ∙ (offset_walk-last way over last).0;
      within = within;
      same = offset_walk-test way over last is (good_is_boundary t i within, no_character_goes_on-boundary t i);
    }

-- a position at the end or past it
at-end : {t : List ℕ} {n passed left : ℕ} {c style : Rendition} {old : List Piece} → IsOffsetWalk t n c passed left style old → old ≡ [] → passed ≡ length t → IsAt t n (length t)
at-end {t} way none all =
    let ends = offset_walk-end way none in
    record { offset = sym all ∙ ends.0; within = omega arith; same = no_character_goes_on-past t (length t) (omega arith) ∙ ends.1 }

-- What is known of the start of a cut after n more plain bytes: it is ahead, or its offset was found; and so the sequences up to it, if no text is between them.
pub record IsStartSoFar (t : List ℕ) (s passed place n : ℕ) (marks : Option ℕ) (from : ℕ) : Type 0 where
  pub ahead : place + n ≤ s → from ≡ length t
  pub found : s < place + n → IsAt t s from × (from ≤ passed + (s - place))
  pub front : IfSome marks (AreMarks t s)

-- How far the walk has come: to the end, and to the start if that is ahead; and whether all that was passed are sequences.
pub record IsStretchWalk (t : List ℕ) (s e : ℕ) (c : Rendition) (passed place : ℕ) (marks : Option ℕ) (from : ℕ) (style : Rendition) (left : List Piece) : Type 0 where
  pub before_end : place ≤ e
  pub end : IsOffsetWalk t e c passed (e - place) style left
  pub ahead : place ≤ s → IsOffsetWalk t s c passed (s - place) style left
  pub start : IsStartSoFar t s passed place 0 marks from
  pub only_marks : place ≡ 0 → IsPushedSoFar (sequences_up_to s (pieces_of t)) (take passed t) s left

pub stretch-begin : (t : List ℕ) (s e : ℕ) (c : Rendition) → IsStretchWalk t s e c 0 0 None (length t) c (pieces_of t)
stretch-begin t s e c = record {
  before_end = omega arith;
  end = begins e;
  ahead = λ _. begins s;
  start = record { ahead = λ _. refl; found = λ past. absurd (omega (arith, past)); front = tt };
  only_marks = λ _. pushed-begin [] t s;
}
  where
    begins : (n : ℕ) → IsOffsetWalk t n c 0 (n - 0) c (pieces_of t)
    begins n = (let all : n ≡ n - 0 = omega arith in subst (λ k. IsOffsetWalk t n c 0 k c (pieces_of t)) all (offset_walk-begin t n c))

-- over a mark
pub stretch-mark : {t : List ℕ} {s e passed place from at : ℕ} {c style next : Rendition} {marks : Option ℕ} {kind : Kind} {w : List ℕ} {old ps : List Piece}
    → IsStretchWalk t s e c passed place marks from style old → IsOverMark kind t w passed at old ps → next ≡ apply style w → IsStretchWalk t s e c at place marks from next ps
stretch-mark way over next_is = record {
  before_end = way.before_end;
  end = offset_walk-mark way.end over next_is;
  ahead = λ h. offset_walk-mark (way.ahead h) over next_is;
  start = record {
    ahead = way.start.ahead;
    found = λ h. (let found = way.start.found h in (found.0, omega (arith, found.1, over.count)));
    front = way.start.front;
  };
  only_marks = λ h. pushed-mark (way.only_marks h) over.first over.bytes;
}

-- the start is in the run of text that comes next, and all before that are sequences if no plain byte was passed
pub start-here : {t : List ℕ} {s e passed place from i at m : ℕ} {c style : Rendition} {marks front : Option ℕ} {w : List ℕ} {old ps : List Piece} → IsStretchWalk t s e c passed place marks from style old → IsOverText t w passed at old ps
    → place ≤ s → s - place < length w → m ≡ passed → i ≡ m + (s - place) → front ≡ then_some (place == 0) m → IsStartSoFar t s passed place (length w) front i
start-here {t} {s} {passed = passed} {place = place} {m = m} {w = w} way over before last m_is is front_is =
    let i_is = is ∙ ap (λ n. n + (s - place)) m_is in record {
      ahead = λ h. absurd (omega (arith, h, before, last));
      found = λ _. (at-here (way.ahead before) over last i_is, omega (arith, i_is));
      front = subst (λ o. IfSome o (AreMarks t s)) (sym front_is) (either (place == 0) refl);
    }
  where
    either : (b : Bool) → (place == 0) ≡ b → IfSome (then_some b m) (AreMarks t s)
    either true test = (let none = eqb-true place 0 test in record {
      boundary = subst (IsCharBoundary t) (sym m_is) over.begins;
      bytes = ap (λ n. take n t) m_is ∙ pushed-last (way.only_marks none) over.first (omega (arith, last, none));
    })
    either false test = tt

-- it isn't there
pub start-stays : {t : List ℕ} {s e passed place from i n : ℕ} {c style : Rendition} {marks front : Option ℕ} {old : List Piece} → IsStretchWalk t s e c passed place marks from style old
    → (place ≤ s → n ≤ s - place) → i ≡ from → front ≡ marks → IsStartSoFar t s passed place n front i
start-stays {t} {s} {place = place} way stays is front_is = record {
  ahead = λ h. is ∙ way.start.ahead (omega (arith, h));
  found = λ h. elim (cases_lt s place) [
    | inl past ↦ (let found = way.start.found (omega (arith, past)) in (subst (IsAt t s) (sym is) found.0, omega (arith, is, found.1)))
    | inr before ↦ absurd (omega (arith, stays before, before, h))
  ];
  front = subst (λ o. IfSome o (AreMarks t s)) (sym front_is) way.start.front;
}

-- over a run of text that hasn't the end
pub stretch-text : {t : List ℕ} {s e passed place from i at : ℕ} {c style : Rendition} {marks front : Option ℕ} {w : List ℕ} {old ps : List Piece}
    → IsStretchWalk t s e c passed place marks from style old → IsOverText t w passed at old ps → length w ≤ e - place → IsStartSoFar t s passed place (length w) front i
    → IsStretchWalk t s e c at (place + length w) front i style ps
stretch-text {t} {s} {e} {passed} {place} {at = at} {w = w} {ps = ps} way over within start = record {
  before_end = omega (arith, way.before_end, within);
  end = offset_walk-text way.end over within (omega arith);
  ahead = λ h. offset_walk-text (way.ahead (omega (arith, h))) over (omega (arith, h)) (omega arith);
  start = record {
    ahead = λ h. start.ahead (omega (arith, h));
    found = λ h. (let found = start.found (omega (arith, h)) in (found.0, omega (arith, found.1, over.count, h)));
    front = start.front;
  };
  only_marks = λ h. (
      let same : passed ≡ at = omega (arith, over.count, h) in
      subst (λ k. IsPushedSoFar (sequences_up_to s (pieces_of t)) (take k t) s ps) same (pushed-text (way.only_marks (omega (arith, h))) over.first (omega (arith, h)) (omega (arith, h))));
}

-- a run of text that has the end
pub stretch-last : {t : List ℕ} {s e passed place from i to at : ℕ} {c style : Rendition} {marks front : Option ℕ} {w : List ℕ} {old ps : List Piece}
    → IsStretchWalk t s e c passed place marks from style old → IsOverText t w passed at old ps → s ≤ e → e - place < length w → IsStartSoFar t s passed place (length w) front i → to ≡ passed + (e - place)
    → IsStretch t s e front i to
stretch-last way over ordered last start is =
    let found = start.found (omega (arith, way.before_end, ordered, last)) in
    record {
      start = found.0;
      end = at-here way.end over last is;
      ordered = omega (arith, found.1, is, ordered);
      front = start.front;
    }

-- nothing is left
pub stretch-end : {t : List ℕ} {s e passed place from : ℕ} {c style : Rendition} {marks : Option ℕ} {old : List Piece} → IsStretchWalk t s e c passed place marks from style old → old ≡ [] → passed ≡ length t
    → IsStretch t s e marks from (length t)
stretch-end {t} {s} {place = place} way none all = elim (cases_lt s place) [
  | inl past ↦ (
      let found = way.start.found (omega (arith, past)) in
      record { start = found.0; end = at-end way.end none all; ordered = found.0.within; front = way.start.front })
  | inr before ↦ (
      let is = way.start.ahead (omega (arith, before)) in
      record {
        start = subst (IsAt t s) (sym is) (at-end (way.ahead before) none all);
        end = at-end way.end none all;
        ordered = omega (arith, is);
        front = way.start.front;
      })
]

-- A walk to the first run of text: all that was passed are sequences.

pub record IsFrontWalk (t : List ℕ) (passed : ℕ) (left : List Piece) : Type 0 where
  pub style : Rendition
  pub way : (n : ℕ) → IsOffsetWalk t n plain_style passed n style left
  pub pushed : (n : ℕ) → IsPushedSoFar (sequences_up_to n (pieces_of t)) (take passed t) n left
  pub rest : plain t ≡ plain_of left

pub front_walk-begin : (t : List ℕ) → IsFrontWalk t 0 (pieces_of t)
front_walk-begin t = record {
  style = plain_style;
  way = λ n. offset_walk-begin t n plain_style;
  pushed = λ n. pushed-begin [] t n;
  rest = refl;
}

pub front_walk-mark : {t : List ℕ} {passed at : ℕ} {kind : Kind} {w : List ℕ} {old ps : List Piece} → IsFrontWalk t passed old → IsOverMark kind t w passed at old ps → IsFrontWalk t at ps
front_walk-mark {w = w} {ps = ps} walk over = record {
  style = apply walk.style w;
  way = λ n. offset_walk-mark (walk.way n) over refl;
  pushed = λ n. pushed-mark (walk.pushed n) over.first over.bytes;
  rest = walk.rest ∙ ap plain_of over.first.pieces ∙ plain_of-mark over.first.mark ps over.first.is_mark;
}

pub front_walk-text : {t : List ℕ} {passed at : ℕ} {w : List ℕ} {old ps : List Piece} → IsFrontWalk t passed old → IsOverText t w passed at old ps → w ≡ slice_range t passed at → IsFirstRun t passed at
front_walk-text {t} {passed} {at} {w} {ps = ps} walk over is = record {
  ordered = omega (arith, over.count);
  within = over.within;
  boundary = over.begins;
  after = plain_of ps;
  bytes = walk.rest ∙ ap plain_of over.first ∙ ap (λ v. v ++ plain_of ps) is;
  marks = λ n last. sym (pushed-last (walk.pushed n) over.first (omega (arith, last, over.count)));
  places = λ n last good.
      let here : n < length w = omega (arith, last, over.count) in
      record { good = good; offset = (offset_walk-last (walk.way n) over here).0; boundary = offset_walk-boundary (walk.way n) over here refl good };
}

pub front_walk-end : {t : List ℕ} {passed : ℕ} {old : List Piece} → IsFrontWalk t passed old → old ≡ [] → IsFirstRun t (length t) (length t)
front_walk-end {t} walk none = record {
  ordered = omega arith;
  within = omega arith;
  boundary = IsCharBoundary-end t;
  after = [];
  bytes = walk.rest ∙ ap plain_of none ∙ sym (append-nil _ ∙ slice_range-from_past t (length t) (length t) (omega arith));
  marks = λ n last. absurd (omega (arith, last));
  places = λ n last good. absurd (omega (arith, last));
}

-- a prefix that is shorter than the first run is in it
pub starts_with-first_run : (p : List ℕ) {t run : List ℕ} {m e : ℕ} → IsFirstRun t m e → run ≡ slice_range t m e → m + length p < e → starts_with nat_eq (plain t) p ≡ starts_with nat_eq run p
starts_with-first_run p {t} {run} {m} {e} is run_is short =
    ap (λ x. starts_with nat_eq x p) (is.bytes ∙ ap (λ v. v ++ is.after) (sym run_is))
    ∙ starts_with-within p run is.after (omega (arith, short, ap length run_is, length-slice_range t m e is.ordered is.within))

-- by the test that the code makes
pub first_run-starts : (p : List ℕ) {t x q : List ℕ} {m e : ℕ} {b : Bool} → IsFirstRun t m e → m + length p < e → x ≡ t → q ≡ p → b ≡ starts_with nat_eq (slice_range x m e) q → b ≡ true → starts_with nat_eq (plain t) p ≡ true
first_run-starts p {m = m} {e = e} is short x_is q_is test holds =
    starts_with-first_run p is refl short ∙ sym (test ∙ ap₂ (λ u v. starts_with nat_eq (slice_range u m e) v) x_is q_is) ∙ holds

-- and where it ends
pub first_run-prefix : {t p : List ℕ} {m e : ℕ} → IsUtf8 t → IsUtf8 p → IsFirstRun t m e → m + length p < e → starts_with nat_eq (plain t) p ≡ true → StandsIn t (length p) (m + length p)
first_run-prefix {t} {p} utf8 prefix_utf8 is short starts =
    is.places (length p) short (no_character_goes_on-boundary (plain t) (length p) (starts_with-boundary (plain t) p (IsUtf8-plain t utf8) prefix_utf8 starts))

-- what is kept without it
pub kept-first_run : {t p : List ℕ} {m e : ℕ} → IsUtf8 t → IsUtf8 p → IsFirstRun t m e → m + length p < e → starts_with nat_eq (plain t) p ≡ true → take m t ++ drop (m + length p) t ≡ without_prefix t p
kept-first_run {t} {p} {m} utf8 prefix_utf8 is short starts =
    ap (λ v. v ++ drop (m + length p) t) (sym (is.marks (length p) short))
    ∙ kept-rest (starts_with-boundary (plain t) p (IsUtf8-plain t utf8) prefix_utf8 starts).0 (first_run-prefix utf8 prefix_utf8 is short starts) refl

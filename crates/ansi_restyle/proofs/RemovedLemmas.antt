-- What is left of a text without a range of its plain text.
use Rattle.std.proofs.Common.{◌≡◌, ℕ, ◌+◌, ◌-◌, ◌≤◌, min, inl, inr, Bool, false, not, ◌&&◌, List, [], ◌∷◌, ◌++◌, length, filter, take, drop, refl, sym, ◌∙◌, ap, ap₂, arith, IsTrue, append-nil, length-append, nat_le}
use Rattle.std.proofs.Math.Bool.{and-true}
use Rattle.std.proofs.lemmas.Bool.{cases_lt, le-leb}
use Rattle.std.proofs.lemmas.Grind.{flat_map-append}
use Rattle.std.proofs.lemmas.List.{take-append-drop, take-append-le, take_all, drop_all, nil_from_length, length-take}
use Rattle.std.proofs.lemmas.List.Elements.{filter-append}
use Rattle.ansi_items.specs.Pieces.{Piece, Text, spelling, pieces_of, after_text, merged}
use Rattle.ansi_items.specs.Plain.{plain, plain_of, joined, marks_of, marks_up_to, is_text, is_whole}
use Rattle.ansi_items.proofs.JoinLemmas.{spelled, AllStandAnywhere, pieces_of-spelled, pieces_of-append, is_whole-spelled, pieces_stand, spelled-pieces_of}
use Rattle.ansi_style.specs.declared.state.rendition.Rendition.{Rendition}
use Rattle.ansi_style.specs.Sgr.{apply}
use Rattle.ansi_style.specs.Reading.{style_within, styled_from, style_after_from}
use Rattle.ansi_style.specs.Styled.{StyledByte}
use Rattle.ansi_style.proofs.MarkLemmas.{marks_of-mark, marks_up_to-here}
use Rattle.ansi_style.proofs.StyledLemmas.{style_through, styled_through, style_after_from-pieces}
use Rattle.ansi_style.proofs.SpelledLemmas.{styled_from-spelled, style_after_from-spelled}
use Rattle.ansi_search.specs.Offsets.{offset_of}
use Rattle.ansi_search.specs.Positions.{is_char_boundary, no_character_goes_on}
use Rattle.ansi_search.proofs.SliceLemmas.{drop-append}
use Rattle.ansi_slice.specs.Stretches.{sequences_up_to}
use Rattle.ansi_slice.proofs.StretchLemmas.{sequences_up_to-text}
use Rattle.ansi_split.proofs.AfterLemmas.{is_cut_after}
use Rattle.ansi_restyle.specs.Rests.{IsDivided}
use Rattle.ansi_restyle.specs.Ranges.{are_in_turn}
use Rattle.ansi_restyle.specs.Restyled.{front, rest}
use Rattle.ansi_restyle.specs.Removed.{sequences, removed}
use Rattle.ansi_restyle.proofs.EmptyLemmas.{offset-rest}
use Rattle.ansi_restyle.proofs.FrontLemmas.{is_whole-front, is_whole-rest, styled_from-parts, length-styled_from, plain-rest}
use Rattle.ansi_restyle.proofs.TurnLemmas.{IsLeft, goes_on-left}
use Rattle.ansi_restyle.proofs.LengthLemmas.{length-both}
use Rattle.ansi_restyle.proofs.StayLemmas.{filter_stand}

abbrev pub mark_pieces : List Piece → List Piece
mark_pieces ps = filter (λ p. not (is_text p)) ps

-- What is written: all sequences are those up to the end, or past it.

pub up_to-all : (ps : List Piece) (top : ℕ) → length (plain_of ps) ≤ top → sequences_up_to top ps ≡ spelled (mark_pieces ps)
up_to-all [] top past = refl
up_to-all (Text w ∷ ps) top past =
    let size = length-append w (plain_of ps) in
    sequences_up_to-text top w ps (omega (arith, size, past)) ∙ up_to-all ps (top - length w) (omega (arith, size, past))
up_to-all (p ∷ ps) top past =
    ap (λ ms. joined (marks_up_to top ms)) (marks_of-mark p ps refl) ∙ ap joined (marks_up_to-here top (spelling p) (marks_of ps))
    ∙ ap (λ u. spelling p ++ u) (up_to-all ps top past)

pub length-part : {t part after : List ℕ} (n : ℕ) → IsDivided t n part after → length (plain part) ≤ n
length-part {t} {part} n divided =
    let is : plain part ≡ take n (plain t) = ap plain divided.front_is ∙ (is_cut_after t n (offset_of t n) refl).plain_front in
    omega (arith, ap length is, length-take n (plain t))

pub removed-written : (t before after part last : List ℕ) (a b : ℕ) → IsDivided t a before after → IsDivided after (b - a) part last
    → (before ++ sequences_up_to (b - a) (pieces_of part)) ++ last ≡ removed t a b
removed-written t before after part last a b first second =
    let all = up_to-all (pieces_of part) (b - a) (length-part (b - a) second) in
    ap₂ (λ u v. u ++ v)
    (ap₂ (λ u v. u ++ v) first.front_is (all ∙ ap sequences (second.front_is ∙ ap (front (b - a)) first.rest_is)))
    (second.rest_is ∙ ap (rest (b - a)) first.rest_is)

-- Which ranges are good: those that begin and end where the text can be divided, and aren't past its end.

module _ (t : List ℕ) (r : ℕ × ℕ) (ordered : r.0 ≤ r.1) where
  tests : are_in_turn (plain t) 0 (r ∷ []) ≡ (no_character_goes_on (plain t) r.0 && (no_character_goes_on (plain t) r.1 && nat_le r.1 (length (plain t))))
  tests =
      ap₂ (λ i k. i && (k && (no_character_goes_on (plain t) r.0 && (no_character_goes_on (plain t) r.1 && nat_le r.1 (length (plain t)))))) (le-leb 0 r.0 (omega arith)) (le-leb r.0 r.1 ordered)

  at_end : {before after : List ℕ} → IsDivided t r.0 before after → no_character_goes_on (plain after) (r.1 - r.0) ≡ no_character_goes_on (plain t) r.1
  at_end {before} {after} first =
      let is : IsLeft (plain t) r.0 after = record { there = ap plain first.rest_is ∙ plain-rest t r.0 } in
      goes_on-left r.1 is ordered

  pub range_divided : {before after part last : List ℕ} {good : Bool} → IsDivided t r.0 before after → IsDivided after (r.1 - r.0) part last → is_char_boundary (plain t) r.1 ≡ good → are_in_turn (plain t) 0 (r ∷ []) ≡ good
  range_divided first second is =
      let good_end = sym (at_end first) ∙ second.good in
      tests ∙ ap₂ (λ i k. i && (k && nat_le r.1 (length (plain t)))) first.good good_end
      ∙ sym (ap (λ k. nat_le r.1 (length (plain t)) && k) good_end ∙ and-true (nat_le r.1 (length (plain t)))) ∙ is

  pub range_bad_start : no_character_goes_on (plain t) r.0 ≡ false → are_in_turn (plain t) 0 (r ∷ []) ≡ false
  range_bad_start bad = tests ∙ ap (λ i. i && (no_character_goes_on (plain t) r.1 && nat_le r.1 (length (plain t)))) bad

  pub range_bad_end : {before after : List ℕ} → IsDivided t r.0 before after → no_character_goes_on (plain after) (r.1 - r.0) ≡ false → are_in_turn (plain t) 0 (r ∷ []) ≡ false
  range_bad_end first bad = tests ∙ ap₂ (λ i k. i && (k && nat_le r.1 (length (plain t)))) first.good (sym (at_end first) ∙ bad)

-- nothing is removed by an empty range
pub removed-empty : (t : List ℕ) (a b : ℕ) → a ≡ b → removed t a b ≡ t
removed-empty t a b same =
    let here = rest a t in
    let zero_long : b - a ≡ 0 = omega (arith, same) in
    let none_there : front (b - a) here ≡ [] = ap (λ k. front k here) zero_long ∙ ap (λ k. take k here) (offset-rest t a) in
    let all_there : rest (b - a) here ≡ here = ap (λ k. rest k here) zero_long ∙ ap (λ k. drop k here) (offset-rest t a) in
    ap₂ (λ u v. (front a t ++ sequences u) ++ v) none_there all_there
    ∙ ap (λ u. u ++ here) (append-nil (front a t)) ∙ take-append-drop (offset_of t a) t

-- It is no longer than the text.

pub length-mark_pieces : (ps : List Piece) → length (spelled (mark_pieces ps)) ≤ length (spelled ps)
length-mark_pieces [] = omega arith
length-mark_pieces (Text w ∷ ps) = omega (arith, length-append w (spelled ps), length-mark_pieces ps)
length-mark_pieces (p ∷ ps) = omega (arith, length-append (spelling p) (spelled (mark_pieces ps)), length-append (spelling p) (spelled ps), length-mark_pieces ps)

pub length-removed : (t : List ℕ) (a b : ℕ) (u : List ℕ) → u ≡ removed t a b → length u ≤ length t
length-removed t a b u is =
    let here = rest a t in
    let part = front (b - a) here in
    omega (
      arith,
      ap length is,
      length-append (front a t ++ sequences part) (rest (b - a) here),
      length-append (front a t) (sequences part),
      length-mark_pieces (pieces_of part),
      ap length (spelled-pieces_of part),
      length-both t a,
      length-both here (b - a),
    )

-- The sequences of a whole text are a whole text without plain bytes, after which the style is the same.

styled_through-marks : (s : Rendition) (ps : List Piece) → styled_through s (mark_pieces ps) ≡ []
styled_through-marks s [] = refl
styled_through-marks s (Text w ∷ ps) = styled_through-marks s ps
styled_through-marks s (p ∷ ps) = styled_through-marks (apply s (spelling p)) ps

style_through-marks : (s : Rendition) (ps : List Piece) → style_through s (mark_pieces ps) ≡ style_through s ps
style_through-marks s [] = refl
style_through-marks s (Text w ∷ ps) = style_through-marks s ps
style_through-marks s (p ∷ ps) = style_through-marks (apply s (spelling p)) ps

module _ (t : List ℕ) (whole : IsTrue (is_whole t)) where
  pub stand : AllStandAnywhere (mark_pieces (pieces_of t))
  stand = filter_stand (λ p. not (is_text p)) (pieces_of t) (pieces_stand t whole)

  pub is_whole-sequences : IsTrue (is_whole (sequences t))
  is_whole-sequences = is_whole-spelled (mark_pieces (pieces_of t)) stand

  pub styled_from-sequences : (s : Rendition) → styled_from s (sequences t) ≡ []
  styled_from-sequences s = styled_from-spelled s (mark_pieces (pieces_of t)) stand ∙ styled_through-marks s (pieces_of t)

  pub style_after-sequences : (s : Rendition) → style_after_from s (sequences t) ≡ style_after_from s t
  style_after-sequences s = style_after_from-spelled s (mark_pieces (pieces_of t)) stand ∙ style_through-marks s (pieces_of t) ∙ sym (style_after_from-pieces s t)

-- Sequences in a row.

abbrev spelled_marks : List Piece → List ℕ
spelled_marks ps = spelled (mark_pieces ps)

marks-after_text : (w : List ℕ) (ps : List Piece) → spelled_marks (after_text w ps) ≡ spelled_marks ps
marks-after_text w [] = refl
marks-after_text w (Text v ∷ ps) = refl
marks-after_text w (p ∷ ps) = refl

marks-merged : (ps : List Piece) → spelled_marks (merged ps) ≡ spelled_marks ps
marks-merged [] = refl
marks-merged (Text w ∷ ps) = marks-after_text w (merged ps) ∙ marks-merged ps
marks-merged (p ∷ ps) = ap (λ u. spelling p ++ u) (marks-merged ps)

marks-twice : (ps : List Piece) → mark_pieces (mark_pieces ps) ≡ mark_pieces ps
marks-twice [] = refl
marks-twice (Text w ∷ ps) = marks-twice ps
marks-twice (p ∷ ps) = ap (λ qs. p ∷ qs) (marks-twice ps)

pub sequences-append : (u v : List ℕ) → IsTrue (is_whole u) → IsTrue (is_whole v) → sequences (u ++ v) ≡ sequences u ++ sequences v
sequences-append u v whole_u whole_v =
    ap spelled_marks (pieces_of-append u v whole_u whole_v) ∙ marks-merged (pieces_of u ++ pieces_of v)
    ∙ ap spelled (filter-append (λ p. not (is_text p)) (pieces_of u) (pieces_of v))
    ∙ flat_map-append spelling (mark_pieces (pieces_of u)) (mark_pieces (pieces_of v))

pub sequences-twice : (t : List ℕ) → IsTrue (is_whole t) → sequences (sequences t) ≡ sequences t
sequences-twice t whole =
    ap spelled_marks (pieces_of-spelled (mark_pieces (pieces_of t)) (stand t whole)) ∙ marks-merged (mark_pieces (pieces_of t)) ∙ ap spelled (marks-twice (pieces_of t))

pub sequences-parts : (t : List ℕ) (n : ℕ) → IsTrue (is_whole t) → sequences t ≡ sequences (front n t) ++ sequences (rest n t)
sequences-parts t n whole = ap sequences (sym (take-append-drop (offset_of t n) t)) ∙ sequences-append (front n t) (rest n t) (is_whole-front t n whole) (is_whole-rest t n whole)

-- The styled bytes of a front and of the rest.

take_parts : (n : ℕ) (u v : List StyledByte) → length u ≡ min n (length u + length v) → take n (u ++ v) ≡ u
take_parts n u v size = elim (cases_lt (length u) n) [
  | inl short ↦ (
      let none : v ≡ [] = nil_from_length v (omega (arith, size, short)) in
      ap (λ w. take n (u ++ w)) none ∙ ap (take n) (append-nil u) ∙ take_all n u (omega (arith, short)))
  | inr long ↦ take-append-le n u v long ∙ take_all n u (omega (arith, size, long))
]

drop_parts : (n : ℕ) (u v : List StyledByte) → length u ≡ min n (length u + length v) → drop n (u ++ v) ≡ v
drop_parts n u v size = elim (cases_lt (length u) n) [
  | inl short ↦ (
      let none : v ≡ [] = nil_from_length v (omega (arith, size, short)) in
      drop_all n (u ++ v) (omega (arith, length-append u v, ap length none, short)) ∙ sym none)
  | inr long ↦ (
      let none : n - length u ≡ 0 = omega (arith, size, long) in
      drop-append n u v ∙ ap₂ (λ w k. w ++ drop k v) (drop_all n u (omega (arith, size, long))) none)
]

size-front : (s : Rendition) (t : List ℕ) (n : ℕ) → IsTrue (is_whole t) → length (styled_from s (front n t)) ≡ min n (length (styled_from s (front n t)) + length (styled_from (style_within s t n) (rest n t)))
size-front s t n whole =
    let u = styled_from s (front n t) in
    let v = styled_from (style_within s t n) (rest n t) in
    let all : length u + length v ≡ length (plain t) = sym (length-append u v) ∙ sym (ap length (styled_from-parts s t n whole)) ∙ length-styled_from s t in
    length-styled_from s (front n t) ∙ ap length (is_cut_after t n (offset_of t n) refl).plain_front ∙ length-take n (plain t) ∙ ap (min n) (sym all)

pub styled_from-front : (s : Rendition) (t : List ℕ) (n : ℕ) → IsTrue (is_whole t) → styled_from s (front n t) ≡ take n (styled_from s t)
styled_from-front s t n whole =
    sym (ap (take n) (styled_from-parts s t n whole) ∙ take_parts n (styled_from s (front n t)) (styled_from (style_within s t n) (rest n t)) (size-front s t n whole))

pub styled_from-rest : (s : Rendition) (t : List ℕ) (n : ℕ) → IsTrue (is_whole t) → styled_from (style_within s t n) (rest n t) ≡ drop n (styled_from s t)
styled_from-rest s t n whole =
    sym (ap (drop n) (styled_from-parts s t n whole) ∙ drop_parts n (styled_from s (front n t)) (styled_from (style_within s t n) (rest n t)) (size-front s t n whole))

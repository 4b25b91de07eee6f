-- How far a part that is written has come, and what a step of the walk is to it.
use Rattle.ansi_split.proofs.Common.{has_escape, plain-bare, is_char_boundary, and_parts, good_is_boundary, leb-true, ◌≡◌, ℕ, ◌+◌, ◌-◌, ◌<◌, ◌≤◌, inl, inr, true, false, List, [], ◌∷◌, ◌++◌, length, drop, sym, ◌∙◌, ap, ap₂, subst, arith, IsTrue, if◌then◌else◌, append_assoc, append-nil, length-append, cases_lt, drop_all, drop-drop, drop-append-le, IsCharBoundary, Kind, Piece, Text, spelling, ArePieces, pieces_of, plain_of, plain, marks_of, no_character_goes_on, Rendition, has_any, start, close, close_if_any, style_after_from, interleaved, span_text, pieces_are, pieces_of-unique, is_mark, BeginsWithMark, plain_of-mark, marks_of-text, marks_of-mark, slice_range-past, interleaved-text, interleaved-mark, no_character_goes_on-after, IsOverText, refl, take, Sequence, LoneEscape, after_text, list_all, is_plain_byte, all_plain_bytes, length-take-le, take-append-drop, nat_le, sequence_front, length-plain}
use Rattle.ansi_items.proofs.JoinLemmas.{pieces_of-run, plain-front}
use Rattle.ansi_slice.specs.Kept.{kept}
use Rattle.ansi_slice.proofs.KeptWalkLemmas.{kept-all}
use Rattle.ansi_split.proofs.AfterLemmas.{boundary_in_next}

-- all of the pieces but for n plain bytes at their front
abbrev pub left_of : ℕ → List Piece → List ℕ
left_of skip ps = interleaved (plain_of ps) skip (length (plain_of ps)) (marks_of ps)

-- a text without a sequence
pub boundary-bare : (t : List ℕ) (skip : ℕ) → has_escape t ≡ false → IsTrue (is_char_boundary (plain t) skip) → IsCharBoundary t skip
boundary-bare t skip none boundary = grind (arith, and_parts, good_is_boundary, leb-true, plain-bare)

-- What is written, and what is left, are the whole. Plain bytes that are still to be left out end at a character of what is left.
pub record IsShownSoFar (whole written : List ℕ) (skip : ℕ) (left : List Piece) : Type 0 where
  pub shown : written ++ left_of skip left ≡ whole
  pub good : IsTrue (no_character_goes_on (plain_of left) skip)

-- a text in front
left_of-text_before : (w : List ℕ) (ps : List Piece) (a : ℕ) → left_of a (Text w ∷ ps) ≡ drop a w ++ left_of (a - length w) ps
left_of-text_before w ps a =
    let x = plain_of ps in
    let all : length (w ++ x) ≡ length w + length x = length-append w x in
    let rest : length (w ++ x) - length w ≡ length x = omega (arith, all) in
    ap (interleaved (w ++ x) a (length (w ++ x))) (marks_of-text w ps) ∙ interleaved-text w x a (length (w ++ x)) (marks_of ps)
    ∙ ap₂ (λ u b. u ++ interleaved x (a - length w) b (marks_of ps)) (slice_range-past w a (length (w ++ x)) (omega (arith, all))) rest

left_of-rest : (t : List ℕ) → left_of 0 (pieces_of t) ≡ t
unfolding kept
left_of-rest t = kept-all t (length (plain t)) (omega arith)

-- Plain bytes at the front that are left out: what follows them is unchanged, and a character begins there.

pub skip-inside : (t : List ℕ) (skip : ℕ) → IsTrue (is_char_boundary (plain t) skip) → skip ≤ length t
skip-inside t skip boundary =
    omega (arith, leb-true skip (length (plain t)) (and_parts (nat_le skip (length (plain t))) (no_character_goes_on (plain t) skip) boundary).0, length-plain t)

left_of-after_text : (w : List ℕ) (ps : List Piece) → left_of (length w) (after_text w ps) ≡ left_of 0 ps
left_of-after_text w (Text v ∷ ps) =
    let none : length w - length (w ++ v) ≡ 0 - length v = omega (arith, length-append w v) in
    left_of-text_before (w ++ v) ps (length w)
    ∙ ap₂ (λ u n. u ++ left_of n ps) (drop-append-le (length w) w v (omega arith) ∙ ap (λ u. u ++ v) (drop_all (length w) w (omega arith))) none
    ∙ sym (left_of-text_before v ps 0)
left_of-after_text w ps = (let none : length w - length w ≡ 0 = omega arith in left_of-text_before w ps (length w) ∙ ap₂ (λ u n. u ++ left_of n ps) (drop_all (length w) w (omega arith)) none)

left_of-front : (w rest : List ℕ) → list_all is_plain_byte w ≡ true → left_of (length w) (pieces_of (w ++ rest)) ≡ rest
left_of-front [] rest all = left_of-rest rest
left_of-front (b ∷ w) rest all = ap (left_of (length (b ∷ w))) (pieces_of-run (b ∷ w) rest (λ e. cc) all) ∙ left_of-after_text (b ∷ w) (pieces_of rest) ∙ left_of-rest rest

pub shown-front : (t : List ℕ) (skip : ℕ) → skip ≤ length t → has_escape (take skip t) ≡ false → left_of skip (pieces_of t) ≡ drop skip t
shown-front t skip inside none =
    ap₂ (λ n u. left_of n (pieces_of u)) (sym (length-take-le skip t inside)) (sym (take-append-drop skip t))
    ∙ left_of-front (take skip t) (drop skip t) (all_plain_bytes (take skip t) none)

begins_good : (r : List ℕ) (ps : List Piece) → ArePieces r ps → no_character_goes_on (plain_of ps) 0 ≡ true → no_character_goes_on r 0 ≡ true
begins_good r [] are good = ap (λ u. no_character_goes_on u 0) are
begins_good r (Text [] ∷ ps) are good = absurd (are.2.0 refl)
begins_good r (Text (b ∷ v) ∷ ps) are good = ap (λ u. no_character_goes_on u 0) are.1 ∙ good
begins_good r (Sequence v ∷ ps) are good = ap (λ u. no_character_goes_on u 0) (are.1 ∙ ap (λ u. u ++ are.0) (sequence_front v are.2).1)
begins_good r (LoneEscape ∷ ps) are good = ap (λ u. no_character_goes_on u 0) are.1

pub boundary-front : (t : List ℕ) (skip : ℕ) → skip ≤ length t → has_escape (take skip t) ≡ false → IsTrue (is_char_boundary (plain t) skip) → IsCharBoundary t skip
boundary-front t skip inside none boundary =
    let w = take skip t in
    let r = drop skip t in
    let size : length w ≡ skip = length-take-le skip t inside in
    let here : skip - length w ≡ 0 = omega (arith, size) in
    let good : no_character_goes_on (plain r) 0 ≡ true
    = ap (no_character_goes_on (plain r)) (sym here) ∙ sym (no_character_goes_on-after w (plain r) skip (omega (arith, size)))
    ∙ ap (λ u. no_character_goes_on u skip) (sym (plain-front t w skip refl none)) ∙ (and_parts (nat_le skip (length (plain t))) (no_character_goes_on (plain t) skip) boundary).1 in
    good_is_boundary t skip inside (ap (λ u. no_character_goes_on u skip) (sym (take-append-drop skip t)) ∙ no_character_goes_on-after w r skip (omega (arith, size)) ∙ ap (no_character_goes_on r) here
    ∙ begins_good r (pieces_of r) (pieces_are r) good)

-- over a text that is left out
pub shown-skip : {whole written : List ℕ} {skip later : ℕ} {w : List ℕ} {left ps : List Piece} → IsShownSoFar whole written skip left → left ≡ Text w ∷ ps → length w < skip → later ≡ skip - length w
    → IsShownSoFar whole written later ps
shown-skip {whole} {written} {skip} {later} {w} {left} {ps} so_far is out later_is =
    let first = subst (IsShownSoFar whole written skip) is so_far in
    let step : IsShownSoFar whole written (skip - length w) ps = record {
      shown = ap (λ u. written ++ u) (sym (left_of-text_before w ps skip ∙ ap (λ u. u ++ left_of (skip - length w) ps) (drop_all skip w (omega (arith, out))))) ∙ first.shown;
      good = sym (no_character_goes_on-after w (plain_of ps) skip (omega (arith, out))) ∙ first.good;
    } in
    rw later_is step

-- in a text, what follows is unchanged
pub shown-rest : {t whole written last v : List ℕ} {skip begin at next : ℕ} {w : List ℕ} {left ps : List Piece} → IsShownSoFar whole written skip left → IsOverText t w at next left ps → skip ≤ length w
    → begin ≡ at → v ≡ drop (begin + skip) t → last ≡ written ++ v → last ≡ whole
shown-rest {t} {whole} {written} {last} {v} {skip} {begin} {at} {next} {w} {left} {ps} so_far over inside begin_is v_is last_is =
    let first = subst (IsShownSoFar whole written skip) over.first so_far in
    let are = subst (ArePieces (drop at t)) (over.there ∙ over.first) (pieces_are (drop at t)) in
    let none : skip - length w ≡ 0 = omega (arith, inside) in
    let rest : left_of (skip - length w) ps ≡ are.0 = ap₂ left_of none (pieces_of-unique are.0 ps are.3) ∙ left_of-rest are.0 in
    let bytes : v ≡ drop skip w ++ are.0 = v_is ∙ ap (λ k. drop (k + skip) t) begin_is ∙ sym (drop-drop skip at t) ∙ ap (drop skip) are.1 ∙ drop-append-le skip w are.0 inside in
    last_is ∙ ap (λ u. written ++ u) (bytes ∙ ap (λ u. drop skip w ++ u) (sym rest) ∙ sym (left_of-text_before w ps skip)) ∙ first.shown

-- a character begins there
pub shown-boundary : {t : List ℕ} {begin at next : ℕ} {w : List ℕ} {left ps : List Piece} (skip : ℕ) → IsTrue (no_character_goes_on (plain_of left) skip) → IsOverText t w at next left ps → skip ≤ length w
    → begin ≡ at → IsCharBoundary t next → IsCharBoundary t (begin + skip)
shown-boundary {t} {begin} {at} {next} {w} {left} {ps} skip good over inside begin_is boundary = rw begin_is (elim (cases_lt skip (length w)) [
  | inl before ↦ boundary_in_next t at skip w ps over.begins.0 (over.there ∙ over.first) before (ap (λ qs. no_character_goes_on (plain_of qs) skip) (sym over.first) ∙ good)
  | inr past ↦ (let same : next ≡ at + skip = omega (arith, past, inside, over.count) in subst (IsCharBoundary t) same boundary)
])

interleaved-piece : (p : Piece) (ps : List Piece) (a : ℕ) → is_mark p ≡ true → left_of a (p ∷ ps) ≡ spelling p ++ left_of a ps
interleaved-piece p ps a is =
    let x = plain_of ps in
    ap₂ (λ y ms. interleaved y a (length y) ms) (plain_of-mark p ps is) (marks_of-mark p ps is) ∙ interleaved-mark (spelling p) x a (length x) (marks_of ps)

-- over a mark
pub shown-mark : {whole old new : List ℕ} {skip : ℕ} {kind : Kind} {w : List ℕ} {left ps : List Piece} → IsShownSoFar whole old skip left → BeginsWithMark kind w left ps → new ≡ old ++ w
    → IsShownSoFar whole new skip ps
shown-mark {whole} {old} {new} {skip} {kind} {w} {left} {ps} so_far begins more =
    let first = subst (IsShownSoFar whole old skip) begins.pieces so_far in
    let bytes = spelling begins.mark in
    let step : IsShownSoFar whole (old ++ bytes) skip ps = record {
      shown = append_assoc old bytes (left_of skip ps) ∙ ap (λ u. old ++ u) (sym (interleaved-piece begins.mark ps skip begins.is_mark)) ∙ first.shown;
      good = ap (λ x. no_character_goes_on x skip) (sym (plain_of-mark begins.mark ps begins.is_mark)) ∙ first.good;
    } in
    rw (more, ← begins.bytes) step

-- The start, the text, and the close if the style has one, are the part.

pub span_text-is : (c : Rendition) (t : List ℕ) (skip : ℕ) (after : Rendition) → after ≡ style_after_from c t → (start c ++ left_of skip (pieces_of t)) ++ close_if_any after ≡ span_text c t skip
unfolding span_text
span_text-is c t skip after is = ap (λ r. (start c ++ left_of skip (pieces_of t)) ++ close_if_any r) is

pub span-closed : {whole : List ℕ} (c : Rendition) (t : List ℕ) (skip : ℕ) (after : Rendition) → after ≡ style_after_from c t → has_any after ≡ true
    → whole ≡ (start c ++ left_of skip (pieces_of t)) ++ close after → whole ≡ span_text c t skip
span-closed c t skip after is any written =
    written ∙ ap (λ b. (start c ++ left_of skip (pieces_of t)) ++ (if b then close after else [])) (sym any) ∙ span_text-is c t skip after is

pub span-open : {whole : List ℕ} (c : Rendition) (t : List ℕ) (skip : ℕ) (after : Rendition) → after ≡ style_after_from c t → has_any after ≡ false
    → whole ≡ start c ++ left_of skip (pieces_of t) → whole ≡ span_text c t skip
span-open c t skip after is any written =
    written ∙ sym (append-nil (start c ++ left_of skip (pieces_of t))) ∙ ap (λ b. (start c ++ left_of skip (pieces_of t)) ++ (if b then close after else [])) (sym any) ∙ span_text-is c t skip after is

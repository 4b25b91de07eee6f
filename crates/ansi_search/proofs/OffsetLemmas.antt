-- The offsets of the plain bytes of a text: what comes before them and after them, and how far a walk there has come.
use Rattle.ansi_search.proofs.Common.{◌≡◌, ◌≢◌, ℕ, zero, suc, ◌+◌, ◌-◌, ◌<◌, ◌≤◌, inl, inr, Bool, true, ◌↔◌, List, ◌∷◌, ◌++◌, length, take, drop, take-add, refl, sym, ◌∙◌, ap, subst, arith, IsTrue, if◌then◌else◌, nat_lt, length-append, false, drop-nil, drop-append_seam, cases_lt, lt-ltb, le-ltb, take_all, drop-append-le, drop-drop, drop_all, sameb, same_false, slice_range, IsCharBoundary-from_rest, IsCharBoundary, the_type, Kind, is_plain_byte, Piece, Text, spelling, ArePieces, pieces_of, plain_of, plain, pieces_are, pieces_of-unique, spelled, Item, Scan, GivesItem, pieces_left, is_mark, BeginsWithMark, gives_text, gives_mark, plain_of-mark, Rendition, apply, style_within, style_by_marks, style_by_marks-before, style_by_marks-text, style_by_marks-mark, no_character_goes_on, bytes_before, offset_of, StandsIn, []}
use Rattle.ansi_items.specs.declared.ansitok.Kind.TheVariants.{Text as TextKind}
use Rattle.ansi_style.specs.Rendition.{plain_style}
use Rattle.ansi_search.proofs.SliceLemmas.{length-slice_range, take-append, drop-append, list_all-parts}
use Rattle.ansi_search.proofs.PositionLemmas.{no_character_goes_on-append, no_character_goes_on-after, no_character_goes_on-past, no_character_goes_on-drop, good_is_boundary, boundary_test}

pub bytes_before-last : (n : ℕ) (w : List ℕ) (ps : List Piece) → n < length w → bytes_before n (Text w ∷ ps) ≡ n
bytes_before-last n w ps last = ap (λ b. if b then n else length w + bytes_before (n - length w) ps) (lt-ltb n (length w) last)

pub bytes_before-text : (n : ℕ) (w : List ℕ) (ps : List Piece) → length w ≤ n → bytes_before n (Text w ∷ ps) ≡ length w + bytes_before (n - length w) ps
bytes_before-text n w ps within = ap (λ b. if b then n else length w + bytes_before (n - length w) ps) (le-ltb n (length w) within)

-- over a mark
pub bytes_before-mark : (n : ℕ) (p : Piece) (ps : List Piece) → is_mark p ≡ true → bytes_before n (p ∷ ps) ≡ length (spelling p) + bytes_before n ps
bytes_before-mark n (Text w) ps is = absurd (cc is)
bytes_before-mark n p ps is = refl

pub style-text : (c : Rendition) (n : ℕ) (w : List ℕ) (ps : List Piece) → length w ≤ n → style_by_marks c (Text w ∷ ps) n ≡ style_by_marks c ps (n - length w)
style-text c n w ps within = (let all : n ≡ length w + (n - length w) = omega arith in ap (style_by_marks c (Text w ∷ ps)) all ∙ style_by_marks-text c w ps (n - length w))

-- The pieces from the plain byte n on: those of the text from there on.

abbrev pub after_of : ℕ → List Piece → List Piece
after_of n [] = []
after_of n (Text w ∷ ps) = if nat_lt n (length w) then Text (drop n w) ∷ ps else after_of (n - length w) ps
after_of n (p ∷ ps) = after_of n ps

pub after_of-last : (n : ℕ) (w : List ℕ) (ps : List Piece) → n < length w → after_of n (Text w ∷ ps) ≡ Text (drop n w) ∷ ps
after_of-last n w ps last = ap (λ b. if b then Text (drop n w) ∷ ps else after_of (n - length w) ps) (lt-ltb n (length w) last)

pub after_of-text : (n : ℕ) (w : List ℕ) (ps : List Piece) → length w ≤ n → after_of n (Text w ∷ ps) ≡ after_of (n - length w) ps
after_of-text n w ps within = ap (λ b. if b then Text (drop n w) ∷ ps else after_of (n - length w) ps) (le-ltb n (length w) within)

pub take-after : (w rest : List ℕ) (n : ℕ) → take (length w + n) (w ++ rest) ≡ w ++ take n rest
take-after w rest n = grind (arith, take-append, take_all)

pub drop-after : (w rest : List ℕ) (n : ℕ) → drop (length w + n) (w ++ rest) ≡ drop n rest
drop-after w rest n = grind (arith, drop-append, drop_all)

pub drop-nonempty : (n : ℕ) (w : List ℕ) → n < length w → drop n w ≢ []
drop-nonempty n [] last = absurd (omega arith)
drop-nonempty zero (b ∷ w) last = λ e. cc
drop-nonempty (suc n) (b ∷ w) last = drop-nonempty n w (omega arith)

-- from a place inside a text on
pub inside_are : (n : ℕ) (t w : List ℕ) (ps : List Piece) → ArePieces t (Text w ∷ ps) → n < length w → ArePieces (drop n t) (Text (drop n w) ∷ ps)
inside_are n t w ps are last =
    (are.0, ap (drop n) are.1 ∙ drop-append-le n w are.0 (omega arith), (drop-nonempty n w last, (list_all-parts is_plain_byte n w are.2.1).1, are.2.2), are.3)

pub ArePieces-drop : (t : List ℕ) (p : Piece) (rest : List ℕ) (n : ℕ) (qs : List Piece) → t ≡ spelling p ++ rest → ArePieces (drop n rest) qs → ArePieces (drop (length (spelling p) + n) t) qs
ArePieces-drop t p rest n qs spelled are = subst (λ u. ArePieces u qs) (sym (ap (drop (length (spelling p) + n)) spelled ∙ drop-after (spelling p) rest n)) are

pub ArePieces-after_of : (n : ℕ) (t : List ℕ) (ps : List Piece) → ArePieces t ps → ArePieces (drop (bytes_before n ps) t) (after_of n ps)
ArePieces-after_of n t [] are = are
ArePieces-after_of n t (Text w ∷ ps) are = elim (cases_lt n (length w)) [
  | inl last ↦ rw (bytes_before-last n w ps last, after_of-last n w ps last) (inside_are n t w ps are last)
  | inr within ↦
      rw (bytes_before-text n w ps within, after_of-text n w ps within)
      (ArePieces-drop t (Text w) are.0 (bytes_before (n - length w) ps) (after_of (n - length w) ps) are.1 (ArePieces-after_of (n - length w) are.0 ps are.3))
]
ArePieces-after_of n t (p ∷ ps) are = ArePieces-drop t p are.0 (bytes_before n ps) (after_of n ps) are.1 (ArePieces-after_of n are.0 ps are.3)

pub pieces_of-after : (t : List ℕ) (n : ℕ) → pieces_of (drop (offset_of t n) t) ≡ after_of n (pieces_of t)
pieces_of-after t n = sym (pieces_of-unique _ _ (ArePieces-after_of n t (pieces_of t) (pieces_are t)))

pub plain_of-after : (n : ℕ) (ps : List Piece) → plain_of (after_of n ps) ≡ drop n (plain_of ps)
plain_of-after n [] = sym (drop-nil n)
plain_of-after n (Text w ∷ ps) = elim (cases_lt n (length w)) [
  | inl last ↦ ap plain_of (after_of-last n w ps last) ∙ sym (drop-append-le n w (plain_of ps) (omega arith))
  | inr within ↦
      ap plain_of (after_of-text n w ps within) ∙ plain_of-after (n - length w) ps
      ∙ sym (drop-append n w (plain_of ps) ∙ ap (λ u. u ++ drop (n - length w) (plain_of ps)) (drop_all n w within))
]
plain_of-after n (p ∷ ps) = plain_of-after n ps

pub plain-after : (t : List ℕ) (n : ℕ) → plain (drop (offset_of t n) t) ≡ drop n (plain t)
plain-after t n = ap plain_of (pieces_of-after t n) ∙ plain_of-after n (pieces_of t)

-- A step over the run w of t, or over a mark: the pieces before it and after it, and its offset.

pub record IsOverText (t w : List ℕ) (at next : ℕ) (old new : List Piece) : Type 0 where
  pub first : old ≡ Text w ∷ new
  pub there : pieces_of (drop at t) ≡ old
  pub begins : IsCharBoundary t at
  pub within : next ≤ length t
  pub count : next ≡ at + length w
  pub bytes : take next t ≡ take at t ++ w

pub record IsOverMark (kind : Kind) (t w : List ℕ) (at next : ℕ) (old new : List Piece) : Type 0 where
  pub first : BeginsWithMark kind w old new
  pub count : next ≡ at + length w
  pub bytes : take next t ≡ take at t ++ w

-- an item is a range of its text
pub item_range : {old new : Scan} {item : Item} {t : List ℕ} → GivesItem old item new → old.text ≡ t
    → record { start_le_end : item.start ≤ item.end; start_boundary : 0 < item.start → IsCharBoundary t item.start; end_boundary : IsCharBoundary t item.end }
item_range {item = item} gives same = record {
  start_le_end = omega (arith, gives.forward);
  start_boundary = λ _. subst (λ u. IsCharBoundary u item.start) same gives.start_boundary;
  end_boundary = subst (λ u. IsCharBoundary u item.end) same gives.end_boundary;
}

item_count : {old new : Scan} {item : Item} {t w : List ℕ} → GivesItem old item new → old.text ≡ t → w ≡ slice_range t item.start item.end → new.offset ≡ old.offset + length w
item_count {item = item} {t = t} gives same is =
    omega (arith, gives.start, gives.end, gives.forward, ap length is, length-slice_range t item.start item.end (omega (arith, gives.forward)) (omega (arith, gives.end_boundary.0, ap length same)))

item_bytes : {old new : Scan} {item : Item} {w : List ℕ} (t : List ℕ) → GivesItem old item new → w ≡ slice_range t item.start item.end → take new.offset t ≡ take old.offset t ++ w
item_bytes {old} {item = item} t gives is =
    let n = item.end - old.offset in
    let all : item.end ≡ old.offset + n = omega (arith, gives.start, gives.forward) in
    ap (λ k. take k t) (sym gives.end ∙ all) ∙ take-add old.offset n t ∙ ap (λ v. take old.offset t ++ v) (sym (is ∙ ap (λ k. slice_range t k item.end) gives.start))

pub over_text : {old new : Scan} {item : Item} {t w : List ℕ} → GivesItem old item new → old.text ≡ t → w ≡ slice_range t item.start item.end → item.kind ≡ TextKind
    → IsOverText t w old.offset new.offset (pieces_left old) (pieces_left new)
over_text {old} {item = item} {t = t} gives same is kind = record {
  first = gives_text gives same is kind;
  there = ap (λ u. pieces_of (drop old.offset u)) (sym same);
  begins = subst (IsCharBoundary t) gives.start (subst (λ u. IsCharBoundary u item.start) same gives.start_boundary);
  within = omega (arith, gives.end, gives.end_boundary.0, ap length same);
  count = item_count gives same is;
  bytes = item_bytes t gives is;
}

-- by the test that the code makes
pub kind_differs : {k other : Kind} → false ≡ sameb the_type k other → k ≢ other
kind_differs same = same_false the_type _ _ (sym same)

pub over_mark : {old new : Scan} {item : Item} {t w : List ℕ} → GivesItem old item new → old.text ≡ t → w ≡ slice_range t item.start item.end → item.kind ≢ TextKind
    → IsOverMark item.kind t w old.offset new.offset (pieces_left old) (pieces_left new)
over_mark gives same is other = record { first = gives_mark gives same is other; count = item_count gives same is; bytes = item_bytes _ gives is }

-- How far a walk to the plain byte n has come: what has been passed, and then what is before the byte in what is left, is what is before it in the whole text; and so with the style there.
pub record IsOffsetWalk (t : List ℕ) (n : ℕ) (start : Rendition) (passed left : ℕ) (style : Rendition) (ps : List Piece) : Type 0 where
  pub offset : passed + bytes_before left ps ≡ offset_of t n
  pub good : no_character_goes_on (plain_of ps) left ≡ no_character_goes_on (plain t) n
  pub styled : style_by_marks style ps left ≡ style_within start t n

pub offset_walk-begin : (t : List ℕ) (n : ℕ) (start : Rendition) → IsOffsetWalk t n start 0 n start (pieces_of t)
offset_walk-begin t n start = record { offset = omega arith; good = refl; styled = refl }

pub offset_walk-text : {t : List ℕ} {n passed at left next : ℕ} {start style : Rendition} {w : List ℕ} {old ps : List Piece} → IsOffsetWalk t n start passed left style old → IsOverText t w passed at old ps
    → length w ≤ left → next ≡ left - length w → IsOffsetWalk t n start at next style ps
offset_walk-text way over within next_is = grind (arith, bytes_before-text, no_character_goes_on-after, style-text)

pub offset_walk-mark : {t : List ℕ} {n passed at left : ℕ} {start style next : Rendition} {kind : Kind} {w : List ℕ} {old ps : List Piece} → IsOffsetWalk t n start passed left style old → IsOverMark kind t w passed at old ps
    → next ≡ apply style w → IsOffsetWalk t n start at left next ps
offset_walk-mark way over next_is = grind (arith, bytes_before-mark, plain_of-mark, style_by_marks-mark)

-- the byte is in the text that comes next, or there is no such byte
pub offset_walk-last : {t : List ℕ} {n passed at left : ℕ} {start style : Rendition} {w : List ℕ} {old ps : List Piece} → IsOffsetWalk t n start passed left style old → IsOverText t w passed at old ps → left < length w
    → (passed + left ≡ offset_of t n) × (style ≡ style_within start t n)
offset_walk-last way over last = grind (arith, bytes_before-last, style_by_marks-before)

pub offset_walk-end : {t : List ℕ} {n passed left : ℕ} {start style : Rendition} {old : List Piece} → IsOffsetWalk t n start passed left style old → old ≡ []
    → (passed ≡ offset_of t n) × (true ≡ no_character_goes_on (plain t) n) × (style ≡ style_within start t n)
offset_walk-end way none = grind (arith, no_character_goes_on-past)

-- a position in a text that comes next is good if it is a boundary of the whole text
good_in_next : (t : List ℕ) (at left : ℕ) (w : List ℕ) (ps : List Piece) → pieces_of (drop at t) ≡ Text w ∷ ps → left < length w
    → no_character_goes_on t (at + left) ≡ no_character_goes_on (w ++ plain_of ps) left
good_in_next t at left w ps first last =
    let are = subst (ArePieces (drop at t)) first (pieces_are (drop at t)) in
    sym (no_character_goes_on-drop t at left)
    ∙ ap (λ u. no_character_goes_on u left) are.1 ∙ no_character_goes_on-append w are.0 left last ∙ sym (no_character_goes_on-append w (plain_of ps) left last)

offset_walk-good : {t : List ℕ} {n passed at left i : ℕ} {start style : Rendition} {w : List ℕ} {old ps : List Piece} → IsOffsetWalk t n start passed left style old → IsOverText t w passed at old ps → left < length w → i ≡ passed + left
    → (i ≤ length t) × (no_character_goes_on t i ≡ no_character_goes_on (plain t) n)
offset_walk-good {t} {n} {passed} {left = left} {w = w} {ps = ps} way over last is = (
  omega (arith, is, last, over.count, over.within),
  ap (no_character_goes_on t) is ∙ good_in_next t passed left w ps (over.there ∙ over.first) last ∙ ap (λ qs. no_character_goes_on (plain_of qs) left) (sym over.first) ∙ way.good,
)

pub offset_walk-test : {t : List ℕ} {n passed at left i : ℕ} {start style : Rendition} {w : List ℕ} {old ps : List Piece} {b : Bool} → IsOffsetWalk t n start passed left style old → IsOverText t w passed at old ps → left < length w → i ≡ passed + left
    → IsTrue b ↔ IsCharBoundary t i → b ≡ no_character_goes_on (plain t) n
offset_walk-test {t} {i = i} {b = b} way over last is test = (let here = offset_walk-good way over last is in boundary_test t i b here.0 test ∙ here.1)

pub offset_walk-boundary : {t : List ℕ} {n passed at left i : ℕ} {start style : Rendition} {w : List ℕ} {old ps : List Piece} → IsOffsetWalk t n start passed left style old → IsOverText t w passed at old ps → left < length w → i ≡ passed + left
    → IsTrue (no_character_goes_on (plain t) n) → IsCharBoundary t i
offset_walk-boundary {t} {i = i} way over last is good = (let here = offset_walk-good way over last is in good_is_boundary t i here.0 (here.1 ∙ good))

-- How far a walk to the plain byte n has come that reads no style: as far as one that reads some.
pub record IsWalk (t : List ℕ) (n passed left : ℕ) (ps : List Piece) : Type 0 where
  pub style : Rendition
  pub way : IsOffsetWalk t n plain_style passed left style ps

pub walk-begin : (t : List ℕ) (n : ℕ) → IsWalk t n 0 n (pieces_of t)
walk-begin t n = record { style = plain_style; way = offset_walk-begin t n plain_style }

pub walk-text : {t : List ℕ} {n passed at left next : ℕ} {w : List ℕ} {old ps : List Piece} → IsWalk t n passed left old → IsOverText t w passed at old ps → length w ≤ left → next ≡ left - length w → IsWalk t n at next ps
walk-text walk over within next_is = record { style = walk.style; way = offset_walk-text walk.way over within next_is }

pub walk-mark : {t : List ℕ} {n passed at left : ℕ} {kind : Kind} {w : List ℕ} {old ps : List Piece} → IsWalk t n passed left old → IsOverMark kind t w passed at old ps → IsWalk t n at left ps
walk-mark {w = w} walk over = record { style = apply walk.style w; way = offset_walk-mark walk.way over refl }

-- How far a walk has come: it has passed these numbers of plain bytes and of bytes of t, and each later plain byte has its offset by the pieces that are left.
pub record IsPassed (t : List ℕ) (place passed : ℕ) (left : List Piece) : Type 0 where
  pub count : place + length (plain_of left) ≡ length (plain t)
  pub rest : drop place (plain t) ≡ plain_of left
  pub offset : (n : ℕ) → offset_of t (place + n) ≡ passed + bytes_before n left

-- nothing yet
pub passed-begin : (t : List ℕ) → IsPassed t 0 0 (pieces_of t)
passed-begin t = record {
  count = omega arith;
  rest = refl;
  offset = λ k. let same : 0 + k ≡ k = omega arith in ap (offset_of t) same ∙ omega arith;
}

pub passed-text : {t : List ℕ} {place passed at : ℕ} {w : List ℕ} {left ps : List Piece} → IsPassed t place passed left → IsOverText t w passed at left ps → IsPassed t (place + length w) at ps
passed-text {t} {place} {passed} {w = w} {ps = ps} way over =
    let here = subst (IsPassed t place passed) over.first way in
    let n = length w in
    let far : drop n (drop place (plain t)) ≡ drop (place + n) (plain t) = drop-drop n place (plain t) in
    record {
      count = omega (arith, here.count, length-append w (plain_of ps));
      rest = sym far ∙ ap (drop n) here.rest ∙ drop-append_seam w (plain_of ps);
      offset = λ k. (
          let sum : place + n + k ≡ place + (n + k) = omega arith in
          let after : n + k - n ≡ k = omega arith in
          let there : offset_of t (place + n + k) ≡ passed + bytes_before (n + k) (Text w ∷ ps) = ap (offset_of t) sum ∙ here.offset (n + k) in
          let further : bytes_before (n + k) (Text w ∷ ps) ≡ n + bytes_before k ps = bytes_before-text (n + k) w ps (omega arith) ∙ ap (λ j. n + bytes_before j ps) after in
          omega (arith, there, further, over.count));
    }

pub passed-mark : {t : List ℕ} {place passed at : ℕ} {kind : Kind} {w : List ℕ} {left ps : List Piece} → IsPassed t place passed left → IsOverMark kind t w passed at left ps → IsPassed t place at ps
passed-mark way over = grind (arith, bytes_before-mark, plain_of-mark)

-- and more of what follows
pub passed-after : {t rest : List ℕ} {place passed n i : ℕ} {left : List Piece} → IsPassed t place passed (pieces_of rest) → IsPassed rest n i left → IsPassed t (place + n) (passed + i) left
passed-after {t} {rest} {place} {passed} {n} {i} {left} way further = record {
  count = omega (arith, way.count, further.count);
  rest = sym (drop-drop n place (plain t)) ∙ ap (drop n) way.rest ∙ further.rest;
  offset = λ k. (
      let sum : place + n + k ≡ place + (n + k) = omega arith in
      let there : offset_of t (place + n + k) ≡ passed + offset_of rest (n + k) = ap (offset_of t) sum ∙ way.offset (n + k) in
      omega (arith, there, further.offset k));
}

-- a place in what follows a place that was passed
pub StandsIn-after : {t rest : List ℕ} {place passed n i : ℕ} → IsPassed t place passed (pieces_of rest) → rest ≡ drop passed t → passed ≤ length t → StandsIn rest n i → StandsIn t (place + n) (passed + i)
StandsIn-after {t} {rest} {place} {passed} {n} {i} way is fits stands = record {
  good = sym (no_character_goes_on-drop (plain t) place n) ∙ ap (λ x. no_character_goes_on x n) way.rest ∙ stands.good;
  offset = ap (λ k. passed + k) stands.offset ∙ sym (way.offset n);
  boundary = IsCharBoundary-from_rest t passed i fits (subst (λ u. IsCharBoundary u i) is stands.boundary);
}

-- A text in two, after the last mark at a position.
use Rattle.ansi_split.proofs.Common.{min, ◌≡◌, ◌≢◌, ℕ, zero, suc, ◌+◌, ◌-◌, ◌<◌, ◌≤◌, inl, inr, false, List, [], ◌∷◌, ◌++◌, length, map, take, drop, Some, refl, sym, ◌∙◌, ap, ap₂, subst, arith, IsTrue, if◌then◌else◌, nat_lt, nat_le, slice_index, slice_range, length-append, append_assoc, append-nil, take-nil, cases_lt, lt-ltb, le-ltb, nat_tests, take_all, take-take, take-append-le, take-append-drop, map-append, length-drop, filter-append, filter_agree, fold-append, IsCharBoundary-from_rest, IsCharBoundary, escape, is_plain_byte, IsSequence, Piece, Text, Sequence, LoneEscape, spelling, ArePieces, StandsBefore, pieces_of, Mark, plain_of, plain, marks_of, marks, marks_up_to, pieces_are, pieces_of-unique, one_text, one_text_are, plain_of-one_text, apply, apply_all, after_marks, mark_further_on, marks_of-text, marks_of-mark, marks_up_to-none, marks_up_to-further, after_marks-further, no_character_goes_on, interleaved, marks_past, bytes_before, offset_of, list_all-parts, take-append, slice_range-none, slice_range-from_past, interleaved-bare, interleaved-text, interleaved-mark, interleaved-nil, no_character_goes_on-append, good_is_boundary, marks_up_to-marks_past, bytes_before-last, bytes_before-text, after_of, after_of-last, after_of-text, take-after, pieces_of-after, plain-after, marks_further_on, IsCutAfter}
use Rattle.std.proofs.lemmas.List.{length-take}
use Rattle.ansi_split.proofs.PartSliceLemmas.{own_places, at_places-never, marks_past-places}

-- The pieces up to the position e with the marks there. A text that goes on past it is in them and in those after it.

abbrev pieces_up_to : ℕ → List Piece → List Piece
pieces_up_to e [] = []
pieces_up_to e (Text w ∷ ps) = if nat_lt e (length w) then one_text (take e w) else Text w ∷ pieces_up_to (e - length w) ps
pieces_up_to e (p ∷ ps) = p ∷ pieces_up_to e ps

pieces_up_to-last : (e : ℕ) (w : List ℕ) (ps : List Piece) → e < length w → pieces_up_to e (Text w ∷ ps) ≡ one_text (take e w)
pieces_up_to-last e w ps last = ap (λ b. if b then one_text (take e w) else Text w ∷ pieces_up_to (e - length w) ps) (lt-ltb e (length w) last)

pieces_up_to-text : (e : ℕ) (w : List ℕ) (ps : List Piece) → length w ≤ e → pieces_up_to e (Text w ∷ ps) ≡ Text w ∷ pieces_up_to (e - length w) ps
pieces_up_to-text e w ps within = ap (λ b. if b then one_text (take e w) else Text w ∷ pieces_up_to (e - length w) ps) (le-ltb e (length w) within)

-- They are the pieces of the text before.

first_byte : (n : ℕ) (rest : List ℕ) → take n rest ≢ [] → (rest ≢ []) × (slice_index (take n rest) 0 ≡ slice_index rest 0)
first_byte n rest some = grind arith

StandsBefore-lone_escape : (n : ℕ) (rest : List ℕ) → StandsBefore LoneEscape rest → StandsBefore LoneEscape (take n rest)
StandsBefore-lone_escape n rest alone = λ m whole. elim (cases_lt (suc n) m) [
  | inl longer ↦ (
      let t = escape ∷ rest in
      let all : take m (take (suc n) t) ≡ take (suc n) t = take_all m (take (suc n) t) (omega (arith, length-take (suc n) t)) in
      alone (suc n) (subst IsSequence all whole))
  | inr shorter ↦ alone m (subst IsSequence (take-take m (suc n) (escape ∷ rest) shorter) whole)
]

StandsBefore-take : (p : Piece) (n : ℕ) (rest : List ℕ) → StandsBefore p rest → StandsBefore p (take n rest)
StandsBefore-take (Text w) n rest stands = (stands.0, stands.1, λ some. (let first = first_byte n rest some in first.1 ∙ stands.2 first.0))
StandsBefore-take (Sequence w) n rest stands = stands
StandsBefore-take LoneEscape n rest stands = StandsBefore-lone_escape n rest stands

-- after a piece that is in front as a whole
ArePieces-piece_before : (t : List ℕ) (p : Piece) (rest : List ℕ) (n : ℕ) (qs : List Piece) → t ≡ spelling p ++ rest → StandsBefore p rest → ArePieces (take n rest) qs → ArePieces (take (length (spelling p) + n) t) (p ∷ qs)
ArePieces-piece_before t p rest n qs spelled stands are =
    (take n rest, ap (take (length (spelling p) + n)) spelled ∙ take-after (spelling p) rest n, StandsBefore-take p n rest stands, are)

ArePieces-pieces_up_to : (e : ℕ) (t : List ℕ) (ps : List Piece) → ArePieces t ps → ArePieces (take (bytes_before e ps) t) (pieces_up_to e ps)
ArePieces-pieces_up_to e t [] are = refl
ArePieces-pieces_up_to e t (Text w ∷ ps) are = elim (cases_lt e (length w)) [
  | inl last ↦ (
      let cut : take e t ≡ take e w = ap (take e) are.1 ∙ take-append-le e w are.0 (omega arith) in
      rw (bytes_before-last e w ps last, pieces_up_to-last e w ps last, cut) (one_text_are (take e w) (list_all-parts is_plain_byte e w are.2.1).0))
  | inr within ↦
      rw (bytes_before-text e w ps within, pieces_up_to-text e w ps within)
      (ArePieces-piece_before t (Text w) are.0 (bytes_before (e - length w) ps) (pieces_up_to (e - length w) ps) are.1 are.2 (ArePieces-pieces_up_to (e - length w) are.0 ps are.3))
]
ArePieces-pieces_up_to e t (p ∷ ps) are = ArePieces-piece_before t p are.0 (bytes_before e ps) (pieces_up_to e ps) are.1 are.2 (ArePieces-pieces_up_to e are.0 ps are.3)

-- Their plain text.

plain_of-front : (e : ℕ) (ps : List Piece) → plain_of (pieces_up_to e ps) ≡ take e (plain_of ps)
plain_of-front e [] = sym (take-nil e)
plain_of-front e (Text w ∷ ps) = elim (cases_lt e (length w)) [
  | inl last ↦ ap plain_of (pieces_up_to-last e w ps last) ∙ plain_of-one_text (take e w) ∙ sym (take-append-le e w (plain_of ps) (omega arith))
  | inr within ↦
      ap plain_of (pieces_up_to-text e w ps within) ∙ ap (λ v. w ++ v) (plain_of-front (e - length w) ps)
      ∙ sym (take-append e w (plain_of ps) ∙ ap (λ u. u ++ take (e - length w) (plain_of ps)) (take_all e w within))
]
plain_of-front e (p ∷ ps) = plain_of-front e ps

-- Marks up to a position, and past it.

marks_past-marks_up_to : (e : ℕ) (ms : List Mark) → marks_past (Some e) (marks_up_to e ms) ≡ []
marks_past-marks_up_to e ms =
    marks_past-places (Some e) e ms ∙ filter_agree (λ (m : Mark). own_places (Some e) e m.place) (λ (m : Mark). false) (λ m. grind (arith, nat_tests)) ms ∙ at_places-never ms

marks_past-all : (e n : ℕ) (ms : List Mark) → e < n → marks_past (Some e) (marks_further_on n ms) ≡ marks_further_on n ms
marks_past-all e n [] below = refl
marks_past-all e n (m ∷ ms) below = grind (arith, lt-ltb, marks_past-all e n ms below)

pub marks_further_on-marks_further_on : (a b : ℕ) (ms : List Mark) → marks_further_on a (marks_further_on b ms) ≡ marks_further_on (a + b) ms
marks_further_on-marks_further_on a b [] = refl
marks_further_on-marks_further_on a b (m ∷ ms) = ap₂ (λ n ks. record m { place = n } ∷ ks) (omega arith) (marks_further_on-marks_further_on a b ms)

-- All marks are those up to the position, and then others further on, which are those of the pieces after it.
record AreMarksCut (e : ℕ) (ps : List Piece) : Type 0 where
  n : ℕ
  far : e < n
  others : List Mark
  all : marks_of ps ≡ marks_of (pieces_up_to e ps) ++ marks_further_on n others
  after : marks_further_on e (marks_of (after_of e ps)) ≡ marks_further_on n others

marks_of-one_text : (w : List ℕ) → marks_of (one_text w) ≡ []
marks_of-one_text [] = refl
marks_of-one_text (b ∷ w) = refl

marks_cut : (e : ℕ) (ps : List Piece) → AreMarksCut e ps
marks_cut e [] = record { n = e + 1; far = omega arith; others = []; all = refl; after = refl }
marks_cut e (Text w ∷ ps) = elim (cases_lt e (length w)) [
  | inl last ↦ (
      let left : e + length (drop e w) ≡ length w = omega (arith, length-drop e w) in
      record {
        n = length w;
        far = last;
        others = marks_of ps;
        all = marks_of-text w ps ∙ ap (λ ms. ms ++ marks_further_on (length w) (marks_of ps)) (sym (ap marks_of (pieces_up_to-last e w ps last) ∙ marks_of-one_text (take e w)));
        after = ap (λ qs. marks_further_on e (marks_of qs)) (after_of-last e w ps last) ∙ ap (marks_further_on e) (marks_of-text (drop e w) ps)
            ∙ marks_further_on-marks_further_on e (length (drop e w)) (marks_of ps) ∙ ap (λ k. marks_further_on k (marks_of ps)) left;
      })
  | inr within ↦ (
      let k = length w in
      let cut = marks_cut (e - k) ps in
      let far : e - k < cut.n = cut.far in
      let all : e ≡ k + (e - k) = omega arith in
      let moved = marks_further_on-marks_further_on k cut.n cut.others in
      record {
        n = k + cut.n;
        far = omega (arith, far);
        others = cut.others;
        all = marks_of-text w ps ∙ ap (marks_further_on k) cut.all ∙ map-append (mark_further_on k) (marks_of (pieces_up_to (e - k) ps)) (marks_further_on cut.n cut.others)
            ∙ ap₂ (λ ms ks. ms ++ ks) (sym (ap marks_of (pieces_up_to-text e w ps within) ∙ marks_of-text w (pieces_up_to (e - k) ps))) moved;
        after = ap₂ (λ a qs. marks_further_on a (marks_of qs)) all (after_of-text e w ps within) ∙ sym (marks_further_on-marks_further_on k (e - k) (marks_of (after_of (e - k) ps)))
            ∙ ap (marks_further_on k) cut.after ∙ moved;
      })
]
marks_cut e (p ∷ ps) =
    let cut = marks_cut e ps in
    record {
      n = cut.n;
      far = cut.far;
      others = cut.others;
      all = marks_of-mark p ps refl ∙ ap (λ ms. record { place = 0; bytes = spelling p } ∷ ms) cut.all
          ∙ ap (λ ms. ms ++ marks_further_on cut.n cut.others) (sym (marks_of-mark p (pieces_up_to e ps) refl));
      after = cut.after;
    }

-- What is shown of pieces, if nothing of the text y after them is.
interleaved-front : (ps : List Piece) (y : List ℕ) (a e : ℕ) → slice_range y (a - length (plain_of ps)) (e - length (plain_of ps)) ≡ [] → interleaved (plain_of ps ++ y) a e (marks_of ps) ≡ interleaved (plain_of ps) a e (marks_of ps)
interleaved-front [] y a e none = interleaved-bare y a e ∙ ap₂ (slice_range y) (omega arith) (omega arith) ∙ none ∙ sym (interleaved-nil a e)
interleaved-front (Text w ∷ ps) y a e none =
    let n = length w in
    let x = plain_of ps in
    let size : length (w ++ x) ≡ n + length x = length-append w x in
    ap₂ (λ u ms. interleaved u a e ms) (append_assoc w x y) (marks_of-text w ps) ∙ interleaved-text w (x ++ y) a e (marks_of ps)
    ∙ ap (λ u. slice_range w a e ++ u) (interleaved-front ps y (a - n) (e - n) (ap₂ (slice_range y) (omega (arith, size)) (omega (arith, size)) ∙ none))
    ∙ sym (ap (interleaved (w ++ x) a e) (marks_of-text w ps) ∙ interleaved-text w x a e (marks_of ps))
interleaved-front (p ∷ ps) y a e none =
    let x = plain_of ps in
    let mark = marks_of-mark p ps refl in
    ap (interleaved (x ++ y) a e) mark ∙ interleaved-mark (spelling p) (x ++ y) a e (marks_of ps) ∙ ap (λ u. spelling p ++ u) (interleaved-front ps y a e none)
    ∙ sym (ap (interleaved x a e) mark ∙ interleaved-mark (spelling p) x a e (marks_of ps))

-- So the text is cut there.

pub is_cut_after : (t : List ℕ) (e n : ℕ) → n ≡ offset_of t e → IsCutAfter t e (take n t) (drop n t)
is_cut_after t e n is =
    let x = plain t in
    let fs = pieces_of (take n t) in
    let ks = marks (drop n t) in
    let front : fs ≡ pieces_up_to e (pieces_of t) = ap (λ k. pieces_of (take k t)) is ∙ sym (pieces_of-unique _ _ (ArePieces-pieces_up_to e t (pieces_of t) (pieces_are t))) in
    let after : pieces_of (drop n t) ≡ after_of e (pieces_of t) = ap (λ k. pieces_of (drop k t)) is ∙ pieces_of-after t e in
    let cut = marks_cut e (pieces_of t) in
    let plain_front : plain_of fs ≡ take e x = ap plain_of front ∙ plain_of-front e (pieces_of t) in
    let short : length (plain_of fs) ≤ e = omega (arith, ap length plain_front, length-take e x) in
    let others : marks_further_on e ks ≡ marks_further_on cut.n cut.others = ap (λ qs. marks_further_on e (marks_of qs)) after ∙ cut.after in
    let all : marks t ≡ marks_of fs ++ marks_further_on e ks = cut.all ∙ ap₂ (λ qs ms. marks_of qs ++ ms) (sym front) (sym others) in
    let marks_front : marks_up_to e (marks t) ≡ marks_of fs
    = ap (marks_up_to e) all ∙ filter-append (λ (m : Mark). nat_le m.place e) (marks_of fs) (marks_further_on e ks)
    ∙ ap₂ (λ ms ls. ms ++ ls) (marks_up_to-marks_past e fs short) (ap (marks_up_to e) others ∙ marks_up_to-none e cut.n cut.others cut.far) ∙ append-nil (marks_of fs) in
    record {
      plain_front = plain_front;
      marks_front = sym marks_front;
      interleaved_front = λ a.
          ap₂ (λ u ms. interleaved u a e ms) (sym (ap (λ u. u ++ drop e x) plain_front ∙ take-append-drop e x)) marks_front
          ∙ interleaved-front fs (drop e x) a e (nothing (length (plain_of fs)) a (ap length plain_front ∙ length-take e x));
      plain_after = ap (λ k. plain (drop k t)) is ∙ plain-after t e;
      marks_after =
          ap (marks_past (Some e)) all ∙ filter-append (λ (m : Mark). nat_lt e m.place) (marks_of fs) (marks_further_on e ks)
          ∙ ap₂ (λ ms ls. ms ++ ls) (ap (marks_past (Some e)) (sym marks_front) ∙ marks_past-marks_up_to e (marks t)) (ap (marks_past (Some e)) others ∙ marks_past-all e cut.n cut.others cut.far ∙ sym others);
      styles_after_from = λ c i. (
          let left : e + i - e ≡ i = omega arith in
          let some = marks_up_to i ks in
          let bytes = λ (m : Mark). m.bytes in
          ap (λ ms. after_marks c (marks_up_to (e + i) ms)) all
          ∙ ap (after_marks c) (filter-append (λ (m : Mark). nat_le m.place (e + i)) (marks_of fs) (marks_further_on e ks)
          ∙ ap₂ (λ ms ls. ms ++ ls) (marks_up_to-marks_past (e + i) fs (omega (arith, short))) (marks_up_to-further (e + i) e ks (omega arith) ∙ ap (λ k. marks_further_on e (marks_up_to k ks)) left))
          ∙ ap (apply_all c) (map-append bytes (marks_of fs) (marks_further_on e some)) ∙ fold-append apply c (map bytes (marks_of fs)) (map bytes (marks_further_on e some))
          ∙ after_marks-further (after_marks c (marks_of fs)) e some ∙ ap (λ ms. after_marks (after_marks c ms) some) (sym marks_front));
    }
  where
    nothing : (k a : ℕ) → k ≡ min e (length (plain t)) → slice_range (drop e (plain t)) (a - k) (e - k) ≡ []
    nothing k a is = elim (cases_lt (length (plain t)) e) [
      | inl marks_past ↦ slice_range-from_past (drop e (plain t)) (a - k) (e - k) (omega (arith, length-drop e (plain t)))
      | inr within ↦ slice_range-none (drop e (plain t)) (a - k) (e - k) (omega arith)
    ]

pub drop-take : (a e : ℕ) (w : List ℕ) → drop a (take e w) ≡ take (e - a) (drop a w)
drop-take zero e w = (let same : e ≡ e - 0 = omega arith in ap (λ n. take n w) same)
drop-take (suc a) e [] = ap (drop (suc a)) (take-nil e) ∙ sym (take-nil (e - suc a))
drop-take (suc a) zero (b ∷ w) = (let none : 0 ≡ 0 - suc a = omega arith in ap (λ n. take n (drop a w)) none)
drop-take (suc a) (suc e) (b ∷ w) = drop-take a e w ∙ (let same : e - a ≡ suc e - suc a = omega arith in ap (λ n. take n (drop a w)) same)

-- A good position in the text that comes next is a boundary of the text.
pub boundary_in_next : (t : List ℕ) (position left : ℕ) (w : List ℕ) (ps : List Piece) → position ≤ length t → pieces_of (drop position t) ≡ Text w ∷ ps → left < length w
    → IsTrue (no_character_goes_on (w ++ plain_of ps) left) → IsCharBoundary t (position + left)
boundary_in_next t position left w ps inside first last good =
    let are = subst (ArePieces (drop position t)) first (pieces_are (drop position t)) in
    let within : left ≤ length (drop position t) = omega (arith, ap length are.1, length-append w are.0) in
    let here : IsTrue (no_character_goes_on (drop position t) left)
    = ap (λ u. no_character_goes_on u left) are.1 ∙ no_character_goes_on-append w are.0 left last ∙ sym (no_character_goes_on-append w (plain_of ps) left last) ∙ good in
    IsCharBoundary-from_rest t position left inside (good_is_boundary (drop position t) left within here)

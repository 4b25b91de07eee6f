-- How far a walk to the first match of a pattern has come, and what a step of it is.
use Rattle.ansi_split.proofs.Common.{◌≡◌, ◌≢◌, ℕ, ◌+◌, ◌-◌, ◌<◌, ◌≤◌, Bool, true, false, ◌||◌, ◌==◌, List, [], ◌++◌, length, take, drop, Option, Some, None, option_map, refl, sym, ◌∙◌, ap, subst, arith, length-append, IsFalse, or-false, or-true, take-add, length-drop, drop-drop, drop_at, take_all, drop_all, take-append-le, list_any-append, IsUtf8, NoneBefore, IsFirst, Kind, escape, Piece, Text, Sequence, LoneEscape, spelling, StandsBefore, ArePieces, pieces_of, plain_of, plain, has_escape, Rendition, apply, after_marks, style_after_from, style_within, is_match, first_match_from, IsCutAfter, IsCutAtMatch, pieces_are, sequence_front, has_escape-bare, is_mark, plain_of-mark, style_by_marks, style_by_marks-before, style_by_marks-text, style_by_marks-mark, IsMatch, is_match-drop, is_match-after, first_match_from-first, first_match_from-is, empty_at_end, none_at_end, bytes_before, marks_up_to-marks_past, IsOverText, IsOverMark, bytes_before-last, bytes_before-mark, bytes_before-text}
use Rattle.ansi_split.proofs.AfterLemmas.{is_cut_after}
use Rattle.ansi_split.proofs.RestLemmas.{no_escape-parts, no_escape-text}
use Rattle.ansi_split.proofs.SpanLemmas.{is_cut_at_match}

-- The first match of x from a place on, by what follows that place.

first_match-after : (x y p : List ℕ) (k d : ℕ) → k ≤ length x → drop k x ≡ y → first_match_from x p (k + d) ≡ option_map (λ m. k + m) (first_match_from y p d)
first_match-after x y p k d within is = sym (first_match_from-is x p (k + d) (option_map (λ m. k + m) (first_match_from y p d)) (moved (first_match_from y p d) (first_match_from-first y p d)))
  where
    moved : (r : Option ℕ) → IsFirst (IsMatch y p) d (length y + 1) r → IsFirst (IsMatch x p) (k + d) (length x + 1) (option_map (λ m. k + m) r)
    moved None none = λ i low high match. (
        let left : length y ≡ length x - k = sym (ap length is) ∙ length-drop k x in
        none (i - k) (omega (arith, low)) (omega (arith, low, high, left)) (sym (is_match-after x p y k i within is (omega (arith, low))) ∙ match))
    moved (Some m) first =
        let left : length y ≡ length x - k = sym (ap length is) ∙ length-drop k x in
        let found : NoneBefore (IsMatch y p) d (length y + 1) m = first.0 in
        let low : d ≤ m = found.low in
        let high : m < length y + 1 = found.high in (
          record {
            low = omega (arith, low);
            high = omega (arith, high, left, within);
            before = λ i from to match. found.before (i - k) (omega (arith, from)) (omega (arith, from, to)) (sym (is_match-after x p y k i within is (omega (arith, from))) ∙ match);
          },
          is_match-drop x p k m within ∙ ap (λ u. is_match u p m) is ∙ first.1,
        )

-- A front of a text is read to this style, and is marked if it has an ESC.
pub record IsFrontRead (c : Rendition) (front : List ℕ) (style : Rendition) (marked : Bool) : Type 0 where
  pub is_style : style ≡ style_after_from c front
  pub is_marked : marked ≡ has_escape front

-- a run without ESC marks nothing
has_escape-append : (u w : List ℕ) → IsFalse (has_escape w) → has_escape (u ++ w) ≡ has_escape u
has_escape-append u w none = list_any-append (λ b. b == escape) u w ∙ ap (λ b. has_escape u || b) none ∙ or-false (has_escape u)

-- The walk has come to a place and an offset of t. A match of p is still to be looked for, `ahead` bytes on; a place of what is left has the offset and the style that it has in the whole text.
pub record IsWalked (c : Rendition) (t p : List ℕ) (from offset ahead : ℕ) (style : Rendition) (marked : Bool) (left : List Piece) : Type 0 where
  pub place : ℕ
  pub within : place ≤ length (plain t)
  pub rest : drop place (plain t) ≡ plain_of left
  pub found : first_match_from (plain t) p (place + ahead) ≡ first_match_from (plain t) p from
  pub lens : (d : ℕ) → bytes_before (place + d) (pieces_of t) ≡ offset + bytes_before d left
  pub styles : (d : ℕ) → style_within c t (place + d) ≡ style_by_marks style left d
  pub is_marked : marked ≡ has_escape (take offset t)

pub walked-begin : (c : Rendition) (t p : List ℕ) (from ahead : ℕ) → first_match_from (plain t) p ahead ≡ first_match_from (plain t) p from → IsWalked c t p from 0 ahead c false (pieces_of t)
walked-begin c t p from ahead same =
    let front : (d : ℕ) → 0 + d ≡ d = λ d. omega arith in
    record {
      place = 0;
      within = omega arith;
      rest = refl;
      found = ap (first_match_from (plain t) p) (front ahead) ∙ same;
      lens = λ d. ap (λ k. bytes_before k (pieces_of t)) (front d) ∙ sym (front (bytes_before d (pieces_of t)));
      styles = λ d. ap (style_within c t) (front d);
      is_marked = refl;
    }

-- over a text, in which no match begins
pub walked-text : {c : Rendition} {t p : List ℕ} {from offset ahead next after later : ℕ} {style : Rendition} {marked : Bool} {w : List ℕ} {left ps : List Piece}
    → IsWalked c t p from offset ahead style marked left → IsOverText t w offset after left ps → first_match_from (w ++ plain_of ps) p next ≡ first_match_from (w ++ plain_of ps) p ahead
    → length w ≤ next → later ≡ next - length w → IsWalked c t p from after later style marked ps
walked-text {c} {t} {p} {from} {offset} {ahead} {next} {after} {later} {style} {marked} {w} {left} {ps} walked over same past later_is =
    let first = subst (IsWalked c t p from offset ahead style marked) over.first walked in
    let m = first.place in
    let n = length w in
    let x = plain t in
    let y = plain_of ps in
    let all : length (w ++ y) ≡ n + length y = length-append w y in
    let size : length x - m ≡ length (w ++ y) = sym (length-drop m x) ∙ ap length first.rest in
    let inside : m ≤ length x = first.within in
    let count : after ≡ offset + n = over.count in
    let sum : m + n + later ≡ m + next = omega (arith, past, later_is) in
    let on : (d : ℕ) → m + n + d ≡ m + (n + d) = λ d. omega arith in
    let back : (d : ℕ) → n + d - n ≡ d = λ d. omega arith in
    record {
      place = m + n;
      within = omega (arith, size, all, inside);
      rest = sym (drop-drop n m x) ∙ ap (drop n) first.rest ∙ drop_at w y n refl;
      found = ap (first_match_from x p) sum ∙ first_match-after x (w ++ y) p m next inside first.rest ∙ ap (option_map (λ k. m + k)) same
          ∙ sym (first_match-after x (w ++ y) p m ahead inside first.rest) ∙ first.found;
      lens = λ d. ap (λ k. bytes_before k (pieces_of t)) (on d) ∙ first.lens (n + d)
          ∙ ap (λ k. offset + k) (bytes_before-text (n + d) w ps (omega arith) ∙ ap (λ k. n + bytes_before k ps) (back d)) ∙ omega (arith, count);
      styles = λ d. ap (style_within c t) (on d) ∙ first.styles (n + d) ∙ style_by_marks-text style w ps d;
      is_marked = first.is_marked ∙ sym (ap has_escape over.bytes ∙ has_escape-append (take offset t) w (no_escape-text (drop offset t) w ps (over.there ∙ over.first)));
    }

-- over a mark
pub walked-mark : {c : Rendition} {t p : List ℕ} {from offset ahead after : ℕ} {style next : Rendition} {marked : Bool} {kind : Kind} {w : List ℕ} {left ps : List Piece}
    → IsWalked c t p from offset ahead style marked left → IsOverMark kind t w offset after left ps → pieces_of (drop offset t) ≡ left → next ≡ apply style w
    → IsWalked c t p from after ahead next true ps
walked-mark {c} {t} {p} {from} {offset} {ahead} {after} {style} {next} {marked} {kind} {w} {left} {ps} walked over there applied =
    let begins = over.first in
    let first = subst (IsWalked c t p from offset ahead style marked) begins.pieces walked in
    let count : after ≡ offset + length (spelling begins.mark) = over.count ∙ ap (λ u. offset + length u) (sym begins.bytes) in
    let are = subst (ArePieces (drop offset t)) (there ∙ begins.pieces) (pieces_are (drop offset t)) in
    let some : has_escape w ≡ true = ap has_escape (sym begins.bytes) ∙ escaped begins.mark are.0 begins.is_mark are.2 in
    record {
      place = first.place;
      within = first.within;
      rest = first.rest ∙ plain_of-mark begins.mark ps begins.is_mark;
      found = first.found;
      lens = λ d. first.lens d ∙ ap (λ k. offset + k) (bytes_before-mark d begins.mark ps begins.is_mark) ∙ omega (arith, count);
      styles = λ d. first.styles d ∙ style_by_marks-mark style begins.mark ps d begins.is_mark ∙ ap (λ s. style_by_marks s ps d) (sym (applied ∙ ap (apply style) (sym begins.bytes)));
      is_marked = sym (ap has_escape over.bytes ∙ list_any-append (λ b. b == escape) (take offset t) w ∙ ap (λ b. has_escape (take offset t) || b) some ∙ or-true (has_escape (take offset t)));
    }
  where
    escaped : (q : Piece) (rest : List ℕ) → is_mark q ≡ true → StandsBefore q rest → has_escape (spelling q) ≡ true
    escaped (Text v) rest is stands = absurd (cc is)
    escaped (Sequence v) rest is stands = ap has_escape (sequence_front v stands).1
    escaped LoneEscape rest is stands = refl

-- the match begins in a text
pub walked-cut : {c : Rendition} {t p : List ℕ} {from offset ahead start n after : ℕ} {style : Rendition} {marked : Bool} {w : List ℕ} {left ps : List Piece}
    → IsWalked c t p from offset ahead style marked left → IsOverText t w offset after left ps → first_match_from (w ++ plain_of ps) p ahead ≡ Some start → start < length w → n ≡ offset + start
    → IsUtf8 t → IsUtf8 p → IsCutAtMatch t p from (take n t) (drop n t) × IsFrontRead c (take n t) style marked
walked-cut {c} {t} {p} {from} {offset} {ahead} {start} {n} {after} {style} {marked} {w} {left} {ps} walked over here inside n_is utf8 utf8_p =
    let first = subst (IsWalked c t p from offset ahead style marked) over.first walked in
    let m = first.place in
    let found : first_match_from (plain t) p from ≡ Some (m + start)
    = sym first.found ∙ first_match-after (plain t) (w ++ plain_of ps) p m ahead first.within first.rest ∙ ap (option_map (λ k. m + k)) here in
    let len : n ≡ bytes_before (m + start) (pieces_of t) = n_is ∙ sym (first.lens start ∙ ap (λ k. offset + k) (bytes_before-last start w ps inside)) in
    let cut = is_cut_after t (m + start) n len in
    let are = subst (ArePieces (drop offset t)) (over.there ∙ over.first) (pieces_are (drop offset t)) in
    let front : take n t ≡ take offset t ++ take start w
    = ap (λ k. take k t) n_is ∙ take-add offset start t ∙ ap (λ v. take offset t ++ v) (ap (take start) are.1 ∙ take-append-le start w are.0 (omega (arith, inside))) in (
      is_cut_at_match t p from (m + start) (take n t) (drop n t) utf8 utf8_p found cut,
      record {
        is_style = sym (ap (after_marks c) cut.marks_front ∙ first.styles start ∙ style_by_marks-before style w ps start inside);
        is_marked = first.is_marked ∙ sym (ap has_escape front ∙ has_escape-append (take offset t) (take start w) (no_escape-parts start w (has_escape-bare w are.2.1)).0);
      },
    )

at_end : {c : Rendition} {t p : List ℕ} {from offset ahead : ℕ} {style : Rendition} {marked : Bool} → (walked : IsWalked c t p from offset ahead style marked []) → walked.place ≡ length (plain t)
at_end {t = t} walked = omega (arith, ap length walked.rest, length-drop walked.place (plain t), walked.within)

-- nothing is left: the front is all of the text, and only the empty pattern may be at its end
pub walked-end : {c : Rendition} {t p : List ℕ} {from offset ahead : ℕ} {style : Rendition} {marked : Bool} {left : List Piece}
    → IsWalked c t p from offset ahead style marked left → left ≡ [] → offset ≡ length t → IsFrontRead c t style marked
walked-end {c} {t} {p} {from} {offset} {ahead} {style} {marked} {left} walked is end =
    let last = subst (IsWalked c t p from offset ahead style marked) is walked in
    record {
      is_style = sym (ap (after_marks c) (sym (marks_up_to-marks_past (last.place + 0) (pieces_of t) (omega (arith, at_end last)))) ∙ last.styles 0);
      is_marked = last.is_marked ∙ ap has_escape (take_all offset t (omega (arith, end)));
    }

pub walked-none : {c : Rendition} {t p : List ℕ} {from offset ahead : ℕ} {style : Rendition} {marked : Bool} {left : List Piece}
    → IsWalked c t p from offset ahead style marked left → left ≡ [] → (length p ≡ 0 → ahead ≢ 0) → first_match_from (plain t) p from ≡ None
walked-none {c} {t} {p} {from} {offset} {ahead} {style} {marked} walked is none =
    let last = subst (IsWalked c t p from offset ahead style marked) is walked in
    sym last.found
    ∙ sym (none_at_end (plain t) p (last.place + ahead) last.place (at_end last) (λ empty. (let some = none empty in omega (arith, some))) (λ k low high. absurd (omega (arith, low, high))))

pub walked-empty : {c : Rendition} {t p : List ℕ} {from offset ahead : ℕ} {style : Rendition} {marked : Bool} {left : List Piece}
    → IsWalked c t p from offset ahead style marked left → left ≡ [] → offset ≡ length t → length p ≡ 0 → ahead ≡ 0 → IsUtf8 t → IsUtf8 p → IsCutAtMatch t p from t []
walked-empty {c} {t} {p} {from} {offset} {ahead} {style} {marked} walked is end empty here utf8 utf8_p =
    let last = subst (IsWalked c t p from offset ahead style marked) is walked in
    let e = last.place + 0 in
    let same : last.place ≡ e = omega arith in
    let found : first_match_from (plain t) p from ≡ Some e
    = sym last.found ∙ ap (λ d. first_match_from (plain t) p (last.place + d)) here
    ∙ sym (empty_at_end (plain t) p e e (sym same ∙ at_end last) empty (omega arith) (λ k low high. absurd (omega (arith, low, high)))) in
    let cut : IsCutAfter t e (take (length t) t) (drop (length t) t) = is_cut_after t e (length t) (sym end ∙ omega arith ∙ sym (last.lens 0)) in
    is_cut_at_match t p from e t [] utf8 utf8_p found
    (subst (λ v. IsCutAfter t e t v) (drop_all (length t) t (omega arith)) (subst (λ v. IsCutAfter t e v (drop (length t) t)) (take_all (length t) t (omega arith)) cut))

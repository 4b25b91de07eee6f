-- The first match of a pattern, found by where its bytes occur next.
use Rattle.std.proofs.Common.{◌≡◌, ℕ, ◌+◌, ◌-◌, ◌<◌, ◌≤◌, inl, inr, Bool, true, false, Option, option_map, is_some, None, Some, List, ◌++◌, length, take, drop, refl, sym, ◌∙◌, ap, subst, arith, IsFalse, slice_index, slice_range, nat_eq}
use Rattle.std.specs.Str.{IsUtf8, IsCharBoundary}
use Rattle.std.specs.Option.{MatchOption}
use Rattle.std.specs.List.{starts_with}
use Rattle.std.proofs.lemmas.Str.{IsCharBoundary-from_rest}
use Rattle.std.proofs.lemmas.Bool.{cases_lt, and_parts, eq-eqb}
use Rattle.std.proofs.lemmas.List.{length-drop, drop-drop, get_or-drop, get_or-take, get_or_append_left, length-take-le, take-append-le, drop-append-le, take_all, take-append-drop}
use Rattle.memchr.specs.Find.{IsFirst, NoneBefore, Nowhere, Passes, is_byte, OccursAt, FindsNeedle}
use Rattle.ansi_items.specs.Pieces.{Piece, pieces_of}
use Rattle.ansi_items.specs.Plain.{plain, plain_of, has_escape}
use Rattle.ansi_items.proofs.PlainLemmas.{plain-bare}
use Rattle.ansi_style.specs.declared.state.rendition.Rendition.{Rendition}
use Rattle.ansi_style.proofs.MarkLemmas.{style_by_marks-before}
use Rattle.ansi_search.specs.Offsets.{offset_of}
use Rattle.ansi_search.specs.Positions.{is_char_boundary}
use Rattle.ansi_search.specs.Matches.{is_match, first_match_from}
use Rattle.ansi_search.proofs.OffsetLemmas.{bytes_before-last, IsOverText}
use Rattle.ansi_search.proofs.MatchLemmas.{IsMatch, is_match-drop, is_match-after, first_match_from-first, first_match_from-is, found_inside, none_inside, none_at_end, starts_with-splits, starts_with-from}
use Rattle.ansi_split.proofs.RestLemmas.{start_in_run, start_after_run, match_boundary_in_run}
use Rattle.ansi_split.proofs.MatchWalkLemmas.{IsWalked}
use Rattle.ansi_restyle.specs.Rests.{IsAtMatch, IsAtMatchPast, IsNextPlace}
use Rattle.ansi_restyle.proofs.RestLemmas.{offset_in_run, style_in_run}
use Rattle.ansi_restyle.proofs.MatchLemmas.{match_begins_good}

-- Bytes that occur in what follows an offset.

pub occurs_on : (t p : List ℕ) (o k : ℕ) → o ≤ length t → OccursAt (drop o t) p k → OccursAt t p (o + k)
occurs_on t p o k within at =
    let len = length-drop o t in
    let fits : k + length p ≤ length (drop o t) = at.fits in
    record {
      fits = omega (arith, fits, len, within);
      reads = λ j inside. (let sum : o + k + j ≡ o + (k + j) = omega arith in ap (slice_index t) sum ∙ sym (get_or-drop o t (k + j) 0) ∙ at.reads j inside);
    }

pub occurs_after : (t p : List ℕ) (o k : ℕ) → o ≤ k → OccursAt t p k → OccursAt (drop o t) p (k - o)
occurs_after t p o k past at =
    let len = length-drop o t in
    let fits : k + length p ≤ length t = at.fits in
    record {
      fits = omega (arith, fits, len, past);
      reads = λ j inside. (let sum : o + (k - o + j) ≡ k + j = omega (arith, past) in get_or-drop o t (k - o + j) 0 ∙ ap (slice_index t) sum ∙ at.reads j inside);
    }

-- the next place from an offset on, found in what follows it
pub next-found : (t p : List ℕ) (o d : ℕ) → o ≤ length t → FindsNeedle (drop o t) p 0 (Some d) → IsNextPlace t p o (o + d)
next-found t p o d within found =
    let len = length-drop o t in
    let fits : d + length p ≤ length (drop o t) = found.1.fits in
    let first : NoneBefore (OccursAt (drop o t) p) 0 (length (drop o t) + 1) d = found.0 in
    record {
      within = omega (arith, fits, len, within);
      before = λ k low high at. first.before (k - o) (omega arith) (omega (arith, low, high)) (occurs_after t p o k low at);
      here = λ inside. occurs_on t p o d within found.1;
    }

pub next-none : (t p : List ℕ) (o : ℕ) → o ≤ length t → FindsNeedle (drop o t) p 0 None → IsNextPlace t p o (length t)
next-none t p o within none =
    let len = length-drop o t in
    record {
      within = omega arith;
      before = λ k low high at. none (k - o) (omega arith) (omega (arith, low, high, len)) (occurs_after t p o k low at);
      here = λ inside. absurd (omega (arith, inside));
    }

-- from a later offset on
pub next-later : (t p : List ℕ) (o e k : ℕ) → o ≤ e → IsNextPlace t p o k → IsNextPlace t p e k
next-later t p o e k later next = record { within = next.within; before = λ j low high at. next.before j (omega (arith, later, low)) high at; here = next.here }

-- if nothing occurs before the offset from which was searched
pub next-seen : (t p : List ℕ) (o k : ℕ) → Nowhere (OccursAt t p) 0 o → IsNextPlace t p o k → IsNextPlace t p 0 k
next-seen t p o k seen next = record {
  within = next.within;
  before = λ j low high at. elim (cases_lt j o) [ inl before ↦ seen j low before at | inr after ↦ next.before j after high at ];
  here = next.here;
}

pub next-drop : (t p : List ℕ) (o k : ℕ) → o ≤ k → IsNextPlace t p o k → IsNextPlace (drop o t) p 0 (k - o)
next-drop t p o k past next =
    let len = length-drop o t in
    let within : k ≤ length t = next.within in
    record {
      within = omega (arith, len, within);
      before = λ j low high at. next.before (o + j) (omega arith) (omega (arith, high, past)) (occurs_on t p o j (omega (arith, past, within)) at);
      here = λ inside. occurs_after t p o k past (next.here (omega (arith, inside, len, past)));
    }

-- what was seen of a text, in what follows a front of it
pub seen-drop : (t p : List ℕ) (n k : ℕ) → n ≤ length t → Nowhere (OccursAt t p) 0 k → Nowhere (OccursAt (drop n t) p) 0 (k - n)
seen-drop t p n k within seen j low high at = seen (n + j) (omega arith) (omega (arith, high)) (occurs_on t p n j within at)

pub next-seen_after : (t p : List ℕ) (o k n : ℕ) → o ≤ n → n ≤ length t → IsNextPlace t p o k → Nowhere (OccursAt (drop n t) p) 0 (k - n)
next-seen_after t p o k n later within next j low high at = next.before (n + j) (omega (arith, later)) (omega (arith, high)) (occurs_on t p n j within at)

-- The run at the front of a text.

occurs_in_all : (u p : List ℕ) (n j : ℕ) → n ≤ length u → OccursAt (take n u) p j → OccursAt u p j × (j + length p ≤ n)
occurs_in_all u p n j within at =
    let len : length (take n u) ≡ n = length-take-le n u within in
    let fits : j + length p ≤ length (take n u) = at.fits in (
      record {
        fits = omega (arith, fits, len, within);
        reads = λ i inside. sym (get_or-take n u (j + i) 0 (omega (arith, inside, fits, len))) ∙ at.reads i inside;
      },
      omega (arith, fits, len),
    )

occurs_in_run : (u p : List ℕ) (n j : ℕ) → n ≤ length u → j + length p ≤ n → OccursAt u p j → OccursAt (take n u) p j
occurs_in_run u p n j within fits at =
    let len : length (take n u) ≡ n = length-take-le n u within in
    record {
      fits = omega (arith, fits, len);
      reads = λ i inside. get_or-take n u (j + i) 0 (omega (arith, inside, fits)) ∙ at.reads i inside;
    }

-- the bytes occur in the run
pub match_in_run : (u p : List ℕ) (n k : ℕ) → IsUtf8 p → 0 < length p → n ≤ length u → IsFalse (has_escape (take n u)) → IsNextPlace u p 0 k → k < n → length p ≤ n - k → first_match_from (plain u) p 0 ≡ Some k
match_in_run u p n k utf8 some within bare next inside fits =
    let w = take n u in
    let len : length w ≡ n = length-take-le n u within in
    let finds : FindsNeedle w p 0 (Some k) = (
      record { low = omega arith; high = omega (arith, len, inside); before = λ j low high at. next.before j low high (occurs_in_all u p n j within at).0 },
      occurs_in_run u p n k within (omega (arith, inside, fits)) (next.here (omega (arith, inside, within))),
    ) in
    let same : 0 + k ≡ k = omega arith in
    start_in_run u w p n 0 k refl bare (subst (λ i. IsFirst (IsMatch w p) 0 (length w) (Some i)) same (found_inside w p 0 k utf8 some (omega arith) finds))

-- they don't, and no match goes on after it
pub no_match_in_run : (u p : List ℕ) (n k : ℕ) → IsUtf8 p → 0 < length p → n ≤ length u → IsFalse (has_escape (take n u)) → IsNextPlace u p 0 k → (k < n → length p ≤ n - k → ⊥)
    → ((y : List ℕ) (i : ℕ) → i < length (take n u) → IsMatch (take n u ++ y) p i → i + length p ≤ length (take n u)) → first_match_from (plain u) p n ≡ first_match_from (plain u) p 0
no_match_in_run u p n k utf8 some within bare next past ends =
    let w = take n u in
    let len : length w ≡ n = length-take-le n u within in
    let none : FindsNeedle w p 0 None
    = λ j low high at. (let in_all = occurs_in_all u p n j within at in elim (cases_lt j k) [
      | inl before ↦ next.before j low before in_all.0
      | inr after ↦ (let fits : j + length p ≤ n = in_all.1 in past (omega (arith, after, fits, some)) (omega (arith, after, fits)))
    ]) in
    start_after_run u w p n 0 refl bare within (omega arith) ends (none_inside w p 0 utf8 some (omega arith) none)

-- a text in two at a match in the run at its front
pub at_match_in_run : (s : Rendition) (t p : List ℕ) (run k : ℕ) → run ≤ length t → IsFalse (has_escape (take run t)) → k < run → first_match_from (plain t) p 0 ≡ Some k → IsAtMatch t p (take k t) (drop k t) s s
at_match_in_run s t p run k within bare inside first =
    let at = offset_in_run t run k within bare inside in
    record {
      place = k;
      first = first;
      divided = record { good = match_begins_good (plain t) p 0 k first; front_is = ap (λ i. take i t) at; rest_is = ap (λ i. drop i t) at };
      style = style_in_run s t run k within bare inside;
    }

-- The same for an item o..e that is a run.

pub match_in_item : (t p w : List ℕ) (o e k : ℕ) → IsUtf8 p → 0 < length p → o ≤ e → e ≤ length t → w ≡ slice_range t o e → IsFalse (has_escape w) → IsNextPlace t p o k → o ≤ k → k < e → length p ≤ e - k
    → (first_match_from (plain (drop o t)) p 0 ≡ Some (k - o)) × IsCharBoundary t k
match_in_item t p w o e k utf8 some ordered within is bare next low inside fits =
    let u = drop o t in
    let len : length u ≡ length t - o = length-drop o t in
    let size : e - o ≤ length u = omega (arith, len, within) in
    let plain_run : IsFalse (has_escape (take (e - o) u)) = ap has_escape (sym is) ∙ bare in
    let before : k - o < e - o = omega (arith, low, inside) in
    let found : first_match_from (plain u) p 0 ≡ Some (k - o)
    = match_in_run u p (e - o) (k - o) utf8 some size plain_run (next-drop t p o k low next) before (omega (arith, low, inside, fits)) in
    let sum : o + (k - o) ≡ k = omega (arith, low) in (
      found,
      subst (IsCharBoundary t) sum (IsCharBoundary-from_rest t o (k - o) (omega (arith, ordered, within)) (match_boundary_in_run u p 0 (e - o) (k - o) size plain_run before found)),
    )

pub no_match_in_item : (t p w : List ℕ) (o e k : ℕ) → IsUtf8 p → 0 < length p → o ≤ e → e ≤ length t → w ≡ slice_range t o e → IsFalse (has_escape w) → IsNextPlace t p o k → o ≤ k → (k < e → length p ≤ e - k → ⊥)
    → ((y : List ℕ) (i : ℕ) → i < length w → IsMatch (w ++ y) p i → i + length p ≤ length w) → first_match_from (plain (drop o t)) p (length w) ≡ first_match_from (plain (drop o t)) p 0
no_match_in_item t p w o e k utf8 some ordered within is bare next low past ends =
    let u = drop o t in
    let len : length u ≡ length t - o = length-drop o t in
    let size : e - o ≤ length u = omega (arith, len, within) in
    let count : length w ≡ e - o = ap length is ∙ length-take-le (e - o) u size in
    ap (first_match_from (plain u) p) count
    ∙ no_match_in_run u p (e - o) (k - o) utf8 some size (ap has_escape (sym is) ∙ bare) (next-drop t p o k low next) (λ inside fits. past (omega (arith, inside)) (omega (arith, fits, low)))
    (subst (λ v. (y : List ℕ) (i : ℕ) → i < length v → IsMatch (v ++ y) p i → i + length p ≤ length v) is ends)

-- the bytes don't occur, and the item is all that is left
pub none_in_last : (t p w : List ℕ) (o e k : ℕ) → IsUtf8 p → 0 < length p → o ≤ e → e ≡ length t → w ≡ slice_range t o e → IsFalse (has_escape w) → IsNextPlace t p o k → o ≤ k → (k < e → length p ≤ e - k → ⊥)
    → first_match_from (plain (drop o t)) p 0 ≡ None
none_in_last t p w o e k utf8 some ordered last is bare next low past =
    let u = drop o t in
    let len : length u ≡ length t - o = length-drop o t in
    let all : w ≡ u = is ∙ take_all (e - o) u (omega (arith, len, last)) in
    let later : IsNextPlace u p 0 (k - o) = next-drop t p o k low next in
    let none : FindsNeedle u p 0 None
    = λ j zero high at. elim (cases_lt j (k - o)) [
      | inl before ↦ later.before j zero before at
      | inr after ↦ (let fits : j + length p ≤ length u = at.fits in past (omega (arith, after, fits, len, last, low, some, ordered)) (omega (arith, after, fits, len, last, low, ordered)))
    ] in
    ap (λ v. first_match_from v p 0) (plain-bare u (subst (λ v. IsFalse (has_escape v)) all bare))
    ∙ sym (none_at_end u p 0 (length u) refl (λ empty. absurd (omega (arith, empty, some))) (none_inside u p 0 utf8 some (omega arith) none))

-- a case of two
pub match_option-map : {X : Type 0} {A A' : Type 0} {B B' : X → Type 0} (r : Option X) → (A → A') → ((x : X) → B x → B' x) → MatchOption r A B → MatchOption r A' B'
match_option-map None none some is = none is
match_option-map (Some x) none some is = some x is

-- A walk over the items. (The first match from a place on, by what follows the place.)

first_match-after : (x y p : List ℕ) (k d : ℕ) → k ≤ length x → drop k x ≡ y → first_match_from x p (k + d) ≡ option_map (λ m. k + m) (first_match_from y p d)
first_match-after x y p k d within is = sym (first_match_from-is x p (k + d) (option_map (λ m. k + m) (first_match_from y p d)) (moved (first_match_from y p d) (first_match_from-first y p d)))
  where
    moved : (r : Option ℕ) → IsFirst (IsMatch y p) d (length y + 1) r → IsFirst (IsMatch x p) (k + d) (length x + 1) (option_map (λ m. k + m) r)
    moved None none = λ i low high match. (
        let left : length y ≡ length x - k = sym (ap length is) ∙ length-drop k x in
        none (i - k) (omega (arith, low)) (omega (arith, low, high, left)) (sym (is_match-after x p y k i within is (omega (arith, low))) ∙ match))
    moved (Some m) first =
        let left : length y ≡ length x - k = sym (ap length is) ∙ length-drop k x in
        let found : NoneBefore (IsMatch y p) d (length y + 1) m = first.0 in
        let low : d ≤ m = found.low in
        let high : m < length y + 1 = found.high in (
          record {
            low = omega (arith, low);
            high = omega (arith, high, left, within);
            before = λ i from to match. found.before (i - k) (omega (arith, from)) (omega (arith, from, to)) (sym (is_match-after x p y k i within is (omega (arith, from))) ∙ match);
          },
          is_match-drop x p k m within ∙ ap (λ u. is_match u p m) is ∙ first.1,
        )

-- what a walk has read, without the word on its marks
pub settled : {c : Rendition} {t p : List ℕ} {from offset ahead : ℕ} {style : Rendition} {marked : Bool} {left : List Piece} → IsWalked c t p from offset ahead style marked left → IsWalked c t p from offset ahead style (has_escape (take offset t)) left
settled {c} {t} {p} {from} {offset} {ahead} {style} {marked} {left} walked = subst (λ b. IsWalked c t p from offset ahead style b left) walked.is_marked walked

-- the match begins in a text
pub walked-at_match : {c : Rendition} {t p : List ℕ} {offset start n after : ℕ} {style : Rendition} {marked : Bool} {w : List ℕ} {left ps : List Piece}
    → IsWalked c t p 0 offset 0 style marked left → IsOverText t w offset after left ps → first_match_from (w ++ plain_of ps) p 0 ≡ Some start → start < length w → n ≡ offset + start
    → IsAtMatch t p (take n t) (drop n t) c style
walked-at_match {c} {t} {p} {offset} {start} {n} {after} {style} {marked} {w} {left} {ps} walked over here inside n_is =
    let first = subst (IsWalked c t p 0 offset 0 style marked) over.first walked in
    let m = first.place in
    let found : first_match_from (plain t) p 0 ≡ Some (m + start)
    = sym first.found ∙ first_match-after (plain t) (w ++ plain_of ps) p m 0 first.within first.rest ∙ ap (option_map (λ k. m + k)) here in
    let at : n ≡ offset_of t (m + start) = n_is ∙ sym (first.lens start ∙ ap (λ k. offset + k) (bytes_before-last start w ps inside)) in
    record {
      place = m + start;
      first = found;
      divided = record { good = match_begins_good (plain t) p 0 (m + start) found; front_is = ap (λ i. take i t) at; rest_is = ap (λ i. drop i t) at };
      style = sym (first.styles start ∙ style_by_marks-before style w ps start inside);
    }

-- it begins somewhere in what is left
pub walked-past : {c : Rendition} {t p front rest : List ℕ} {offset : ℕ} {style there : Rendition} {marked : Bool} {left : List Piece}
    → IsWalked c t p 0 offset 0 style marked left → pieces_of (drop offset t) ≡ left → IsAtMatchPast t p offset front rest style there → IsAtMatch t p front rest c there
walked-past {c} {t} {p} {front} {rest} {offset} {style} {there} {marked} {left} walked is_left past =
    let first = subst (IsWalked c t p 0 offset 0 style marked) (sym is_left) walked in
    let m = first.place in
    let d = past.place in
    let u = drop offset t in
    let found : first_match_from (plain t) p 0 ≡ Some (m + d)
    = sym first.found ∙ first_match-after (plain t) (plain u) p m 0 first.within first.rest ∙ ap (option_map (λ k. m + k)) past.first in
    let at : offset + offset_of u d ≡ offset_of t (m + d) = sym (first.lens d) in
    record {
      place = m + d;
      first = found;
      divided = record {
        good = match_begins_good (plain t) p 0 (m + d) found;
        front_is = past.front_is ∙ ap (λ i. take i t) at;
        rest_is = past.rest_is ∙ ap (λ i. drop i t) at;
      };
      style = past.style ∙ sym (first.styles d);
    }

pub walked-past_none : {c : Rendition} {t p : List ℕ} {offset : ℕ} {style : Rendition} {marked : Bool} {left : List Piece}
    → IsWalked c t p 0 offset 0 style marked left → pieces_of (drop offset t) ≡ left → first_match_from (plain (drop offset t)) p 0 ≡ None → first_match_from (plain t) p 0 ≡ None
walked-past_none {c} {t} {p} {offset} {style} {marked} {left} walked is_left none =
    let first = subst (IsWalked c t p 0 offset 0 style marked) (sym is_left) walked in
    let m = first.place in
    sym first.found ∙ first_match-after (plain t) (plain (drop offset t)) p m 0 first.within first.rest ∙ ap (option_map (λ k. m + k)) none

-- The bytes of a run at which a match that goes on after it may begin.

pub ends_of_run : (w p tail : List ℕ) (first start : ℕ) → first ≡ slice_index p 0 → start ≡ length w + 1 - length p → tail ≡ drop start w → 0 < length p
    → (y : List ℕ) (i : ℕ) → i < length w → IsMatch (w ++ y) p i → length w < i + length p → (start ≤ i) × ((slice_index tail (i - start) ≡ first) × (drop i w ≡ take (length w - i) p))
ends_of_run w p tail first start byte begins is some y i inside match over =
    let stands : drop i (w ++ y) ≡ p ++ drop (length p) (drop i (w ++ y))
    = starts_with-splits (drop i (w ++ y)) p (and_parts (is_char_boundary (w ++ y) i) (starts_with nat_eq (drop i (w ++ y)) p) match).1 in
    let here : i + 0 ≡ i = omega arith in
    let sum : start + (i - start) ≡ i = omega (arith, begins, over) in
    let at : slice_index tail (i - start) ≡ first
    = ap (λ v. slice_index v (i - start)) is ∙ get_or-drop start w (i - start) 0 ∙ ap (slice_index w) sum
    ∙ sym (get_or_append_left w y 0 i inside) ∙ ap (slice_index (w ++ y)) (sym here) ∙ sym (get_or-drop i (w ++ y) 0 0)
    ∙ ap (λ v. slice_index v 0) stands ∙ get_or_append_left p (drop (length p) (drop i (w ++ y))) 0 0 some ∙ sym byte in
    let size : length (drop i w) ≡ length w - i = length-drop i w in
    let whole : drop i (w ++ y) ≡ drop i w ++ y = drop-append-le i w y (omega (arith, inside)) in (
      omega (arith, begins, over),
      (
        at,
        sym (take-append-le (length w - i) (drop i w) y (omega (arith, size)) ∙ take_all (length w - i) (drop i w) (omega (arith, size)))
            ∙ ap (take (length w - i)) (sym whole ∙ stands) ∙ take-append-le (length w - i) p (drop (length p) (drop i (w ++ y))) (omega (arith, over)),
      ),
    )

-- the pattern's first byte isn't there
pub no_first_byte : (w p tail : List ℕ) (first start : ℕ) → 0 < length p → first ≡ slice_index p 0 → start ≡ length w + 1 - length p → tail ≡ drop start w
    → IsFirst (Passes (is_byte first) tail) 0 (length tail) None → (y : List ℕ) (i : ℕ) → i < length w → IsMatch (w ++ y) p i → i + length p ≤ length w
no_first_byte w p tail first start some byte begins is none y i inside match = elim (cases_lt (length w) (i + length p)) [
  | inl over ↦ (
      let ends = ends_of_run w p tail first start byte begins is some y i inside match over in
      let size : length tail ≡ length w - start = ap length is ∙ length-drop start w in
      absurd (none (i - start) (omega arith) (omega (arith, size, inside, ends.0)) (eq-eqb (slice_index tail (i - start)) first ends.1.0)))
  | inr fits ↦ omega (arith, fits)
]

-- the first place that has it differs, and no later one has it
pub no_first_bytes : (w p tail later : List ℕ) (first start place : ℕ) (r : Option ℕ) → 0 < length p → first ≡ slice_index p 0 → start ≡ length w + 1 - length p → tail ≡ drop start w
    → IsFirst (Passes (is_byte first) tail) 0 (length tail) (Some place) → starts_with nat_eq p (drop place tail) ≡ false → later ≡ drop (place + 1) tail
    → IsFirst (Passes (is_byte first) later) 0 (length later) r → is_some r ≡ false → (y : List ℕ) (i : ℕ) → i < length w → IsMatch (w ++ y) p i → i + length p ≤ length w
no_first_bytes w p tail later first start place (Some k) some byte begins is found differs after none empty y i inside match = absurd (cc empty)
no_first_bytes w p tail later first start place None some byte begins is found differs after none empty y i inside match = elim (cases_lt (length w) (i + length p)) [
  | inl over ↦ (
      let ends = ends_of_run w p tail first start byte begins is some y i inside match over in
      let low : start ≤ i = ends.0 in
      let size : length tail ≡ length w - start = ap length is ∙ length-drop start w in
      let one : NoneBefore (Passes (is_byte first) tail) 0 (length tail) place = found.0 in
      elim (cases_lt (i - start) place) [
        | inl before ↦ absurd (one.before (i - start) (omega arith) before (eq-eqb (slice_index tail (i - start)) first ends.1.0))
        | inr past ↦ elim (cases_lt place (i - start)) [
          | inl more ↦ (
              let left : length later ≡ length tail - (place + 1) = ap length after ∙ length-drop (place + 1) tail in
              let sum : place + 1 + (i - start - (place + 1)) ≡ i - start = omega (arith, more) in
              let at : slice_index later (i - start - (place + 1)) ≡ first
              = ap (λ v. slice_index v (i - start - (place + 1))) after ∙ get_or-drop (place + 1) tail (i - start - (place + 1)) 0 ∙ ap (slice_index tail) sum ∙ ends.1.0 in
              absurd (none (i - start - (place + 1)) (omega arith) (omega (arith, left, size, inside, low, more)) (eq-eqb (slice_index later (i - start - (place + 1))) first at)))
          | inr same ↦ (
              let here : start + place ≡ i = omega (arith, low, past, same) in
              let front : drop place tail ≡ take (length w - i) p = ap (drop place) is ∙ drop-drop place start w ∙ ap (λ k. drop k w) here ∙ ends.1.1 in
              let begins_so : starts_with nat_eq p (drop place tail) ≡ true
              = starts_with-from p (drop place tail) (drop (length w - i) p) (sym (take-append-drop (length w - i) p) ∙ ap (λ v. v ++ drop (length w - i) p) (sym front)) in
              absurd (cc (begins_so, differs)))
        ]
      ])
  | inr fits ↦ omega (arith, fits)
]

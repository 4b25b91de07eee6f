-- The intervals of the parts that are left of a text, and how far a walk has come to the one of an index.
use Rattle.ansi_split.proofs.Common.{◌≡◌, ℕ, zero, suc, ◌+◌, ◌≤◌, max, List, [], ◌∷◌, length, map, drop, Some, None, refl, sym, ◌∙◌, ap, arith, IsTrue, slice_get, nat_le, and_parts, leb-true, none-some, cond_some, true, subst, length-drop, length-take-le, IsUtf8, IsCharBoundary, plain, match_places, first_match_from, no_character_goes_on, without_overlaps, parts, AreInTurn, IsCutAtMatch}
use Rattle.ansi_search.specs.Positions.{is_good_range}
use Rattle.ansi_search.proofs.PositionLemmas.{good_range_from, good_before, boundary_is_good}
use Rattle.ansi_split.proofs.TakenLemmas.{is_first_taken, without_overlaps-none, intervals_between, intervals_between-further, moved_on}
use Rattle.ansi_split.proofs.CharacterLemmas.{parts_in_turn}

-- What is left of x: the first `skip` bytes are in no part, and the next match doesn't begin before `from`.
abbrev pub intervals_left : List ℕ → List ℕ → ℕ → ℕ → List (ℕ × ℕ)
intervals_left x p skip from = intervals_between (length p) skip (length x) (without_overlaps (length p) from (match_places x p))

-- without a match, all of x is the last part
pub intervals_left-last : (x p : List ℕ) (skip from : ℕ) → first_match_from x p from ≡ None → intervals_left x p skip from ≡ (skip, length x) ∷ []
intervals_left-last x p skip from none = ap (intervals_between (length p) skip (length x)) (without_overlaps-none (length p) from (match_places x p) none)

-- with one at m, the first part ends there, and the others are those of what follows
pub intervals_left-first : (x p : List ℕ) (skip from m : ℕ) → first_match_from x p from ≡ Some m
    → intervals_left x p skip from ≡ (skip, m) ∷ map (moved_on m) (intervals_left (drop m x) p (length p) (max (length p) 1))
intervals_left-first x p skip from m found =
    let n = length p in
    let first = is_first_taken x p from m found in
    let ms = without_overlaps n (max n 1) (match_places (drop m x) p) in
    let size : length x ≡ m + length (drop m x) = omega (arith, first.inside, length-drop m x) in
    ap (intervals_between n skip (length x)) first.taken
    ∙ ap (λ is. (skip, m) ∷ is) (ap (λ e. intervals_between n (m + n) e (map (λ k. m + k) ms)) size ∙ intervals_between-further n n (length (drop m x)) m ms)

moved_on-zero : (is : List (ℕ × ℕ)) → map (moved_on 0) is ≡ is
moved_on-zero [] = refl
moved_on-zero (i ∷ is) = grind (arith, moved_on-zero is)

moved_on-moved_on : (a b : ℕ) (is : List (ℕ × ℕ)) → map (moved_on a) (map (moved_on b) is) ≡ map (moved_on (a + b)) is
moved_on-moved_on a b [] = refl
moved_on-moved_on a b (i ∷ is) = grind (arith, moved_on-moved_on a b is)

-- What is left of t begins at `place` in its plain text, and the part of the index is the one of index k of what is left.
pub record IsIntervalWalk (t p : List ℕ) (index k place skip from : ℕ) (rest : List ℕ) : Type 0 where
  pub count : place + length (plain rest) ≡ length (plain t)
  pub within : skip ≤ length (plain rest)
  pub left : slice_get (map (moved_on place) (intervals_left (plain rest) p skip from)) k ≡ slice_get (parts (plain t) p) index

pub interval_walk-begin : (t p : List ℕ) (index : ℕ) → IsIntervalWalk t p index index 0 0 0 t
interval_walk-begin t p index = record { count = omega arith; within = omega arith; left = ap (λ is. slice_get is index) (moved_on-zero (parts (plain t) p)) }

-- the front is as long as what is before the match
pub front-length : {t p : List ℕ} {from : ℕ} {front after : List ℕ} → (at : IsCutAtMatch t p from front after) → (length (plain front) ≡ at.place) × (at.place ≤ length (plain t))
front-length {t} {p} {from} at =
    let first = is_first_taken (plain t) p from at.place at.first in
    (ap length at.cut.plain_front ∙ length-take-le at.place (plain t) first.inside, first.inside)

-- past a match
pub interval_walk-next : {t p : List ℕ} {index k place skip from : ℕ} {rest front after : List ℕ} (next : ℕ) → IsIntervalWalk t p index (suc k) place skip from rest → IsCutAtMatch rest p from front after
    → next ≡ place + length (plain front) → IsIntervalWalk t p index k next (length p) (max (length p) 1) after
interval_walk-next {t} {p} {index} {k} {place} {skip} {from} {rest} {front} {after} next way at next_is =
    let m = at.place in
    let n = length p in
    let x = plain rest in
    let size = front-length at in
    let more = intervals_left (drop m x) p n (max n 1) in
    let next_at : place + m ≡ next = omega (arith, next_is, size.0) in
    let here : slice_get (map (moved_on place) (map (moved_on m) more)) k ≡ slice_get (parts (plain t) p) index
    = sym (ap (λ is. slice_get (map (moved_on place) is) (suc k)) (intervals_left-first x p skip from m at.first)) ∙ way.left in
    record {
      count = omega (arith, way.count, next_at, ap length at.cut.plain_after ∙ length-drop m x, size.1);
      within = leb-true _ _ (and_parts (nat_le n (length (plain after))) (no_character_goes_on (plain after) n) at.match_end).0;
      left =
          ap (λ y. slice_get (map (moved_on next) (intervals_left y p n (max n 1))) k) at.cut.plain_after
          ∙ ap (λ a. slice_get (map (moved_on a) more) k) (sym next_at)
          ∙ sym (ap (λ is. slice_get is k) (moved_on-moved_on place m more)) ∙ here;
    }

-- the part that ends at the next match
pub interval_walk-part : {t p : List ℕ} {index place skip from : ℕ} {rest front after : List ℕ} (a b : ℕ) → IsIntervalWalk t p index 0 place skip from rest → IsCutAtMatch rest p from front after
    → a ≡ place + skip → b ≡ place + length (plain front) → Some (a, b) ≡ slice_get (parts (plain t) p) index
interval_walk-part {t} {p} {index} {place} {skip} {from} {rest} a b way at a_is b_is =
    rw (a_is, b_is, (front-length at).0) (sym (ap (λ is. slice_get (map (moved_on place) is) 0) (intervals_left-first (plain rest) p skip from at.place at.first)) ∙ way.left)

-- the last part, and none after it
pub interval_walk-last : {t p : List ℕ} {index place skip from : ℕ} {rest : List ℕ} (a b : ℕ) → IsIntervalWalk t p index 0 place skip from rest → first_match_from (plain rest) p from ≡ None
    → a ≡ place + skip → b ≡ place + length (plain rest) → Some (a, b) ≡ slice_get (parts (plain t) p) index
interval_walk-last {t} {p} {index} {place} {skip} {from} {rest} a b way none a_is b_is =
    rw (a_is, b_is) (sym (ap (λ is. slice_get (map (moved_on place) is) 0) (intervals_left-last (plain rest) p skip from none)) ∙ way.left)

pub interval_walk-none : {t p : List ℕ} {index k place skip from : ℕ} {rest : List ℕ} → IsIntervalWalk t p index (suc k) place skip from rest → first_match_from (plain rest) p from ≡ None
    → None ≡ slice_get (parts (plain t) p) index
interval_walk-none {t} {p} {index} {k} {place} {skip} {from} {rest} way none =
    sym (ap (λ is. slice_get (map (moved_on place) is) (suc k)) (intervals_left-last (plain rest) p skip from none)) ∙ way.left

-- The interval of a part is a good range, and so are what is before it and what is after it.

in_turn_at : (x : List ℕ) (e : ℕ) (is : List (ℕ × ℕ)) (k : ℕ) (i : ℕ × ℕ) → AreInTurn x e is → slice_get is k ≡ Some i → (i.0 ≤ i.1) × IsCharBoundary x i.0 × IsCharBoundary x i.1
in_turn_at x e [] k i turn found = absurd (none-some i found)
in_turn_at x e (j ∷ is) zero i turn found = subst (λ (q : ℕ × ℕ). (q.0 ≤ q.1) × IsCharBoundary x q.0 × IsCharBoundary x q.1) (cond_some true j i found).1 (turn.1, turn.2, turn.3)
in_turn_at x e (j ∷ is) (suc k) i turn found = in_turn_at x j.1 is k i turn.4 found

pub record IsGoodInterval (x : List ℕ) (i : ℕ × ℕ) : Type 0 where
  pub good : IsTrue (is_good_range x i.0 (Some i.1))
  pub before : IsTrue (is_good_range x 0 (Some i.0))
  pub after : IsTrue (is_good_range x i.1 None)

pub interval_is_good : (x p : List ℕ) (k : ℕ) (i : ℕ × ℕ) → IsUtf8 x → IsUtf8 p → Some i ≡ slice_get (parts x p) k → IsGoodInterval x i
interval_is_good x p k i utf8 utf8_p found =
    let at = in_turn_at x 0 (parts x p) k i (parts_in_turn x p utf8 utf8_p) (sym found) in
    record {
      good = good_range_from x i.0 i.1 at.0 at.1 at.2;
      before = good_before x i.0 utf8 at.1;
      after = boundary_is_good x i.1 at.2;
    }

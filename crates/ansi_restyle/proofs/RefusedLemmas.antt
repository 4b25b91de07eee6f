-- The first of the ranges of a text that is refused.
use Rattle.std.proofs.Common.{◌≡◌, ℕ, ◌+◌, ◌-◌, ◌≤◌, true, false, ◌&&◌, List, [], ◌∷◌, ◌++◌, length, take, drop, inl, inr, refl, sym, ◌∙◌, ap, ap₂, subst, arith, IsTrue, IsFalse, append-nil, append_assoc, nat_le}
use Rattle.std.proofs.lemmas.Bool.{and_from, and_parts, cases_lt, le-leb, leb-true, lt-leb}
use Rattle.std.proofs.lemmas.List.{length-drop, take-append-drop, take_all}
use Rattle.std.specs.Str.{IsUtf8}
use Rattle.ansi_items.specs.Plain.{plain}
use Rattle.ansi_search.specs.Positions.{no_character_goes_on, is_char_boundary}
use Rattle.ansi_restyle.specs.Rests.{is_range_left}
use Rattle.ansi_restyle.specs.Ranges.{are_in_turn}
use Rattle.ansi_restyle.proofs.RangeLemmas.{are_first, in_turn-within}
use Rattle.ansi_restyle.proofs.TurnLemmas.{IsTurn, IsLeft, goes_on-left, turn-begin, turn-bad, turn-step, turn-end}

-- the ranges at the front are in turn if all are
in_turn-front : (x : List ℕ) (n : ℕ) (rs qs : List (ℕ × ℕ)) → are_in_turn x n (rs ++ qs) ≡ true → are_in_turn x n rs ≡ true
in_turn-front x n [] qs turn = le-leb n (length x) (in_turn-within x n qs turn)
in_turn-front x n (r ∷ rs) qs turn =
    let first = are_first x n r (rs ++ qs) turn in
    and_from _ _ (le-leb n r.0 first.begins) (and_from _ _ (le-leb r.0 r.1 first.ends) (and_from _ _ first.good_start (and_from _ _ first.good_end (in_turn-front x r.1 rs qs first.later))))

-- a good range ends where it may begin, or later
pub range-ends : (x : List ℕ) (n : ℕ) (r : ℕ × ℕ) → IsTrue (is_range_left x n r) → n ≤ r.1
range-ends x n r good =
    let a = and_parts (nat_le n r.0) (nat_le r.0 r.1 && (no_character_goes_on x (r.0 - n) && no_character_goes_on x (r.1 - n))) good in
    let b = and_parts (nat_le r.0 r.1) (no_character_goes_on x (r.0 - n) && no_character_goes_on x (r.1 - n)) a.1 in
    let begins : n ≤ r.0 = leb-true n r.0 a.0 in
    let ends : r.0 ≤ r.1 = leb-true r.0 r.1 b.0 in
    omega (arith, begins, ends)

-- a character boundary of what is left is one of x
boundary-left : {x text : List ℕ} {place : ℕ} (n : ℕ) → IsLeft x place text → place ≤ n → place ≤ length x → is_char_boundary (plain text) (n - place) ≡ is_char_boundary x n
boundary-left {x} {text} {place} n is before within =
    let left : length (plain text) ≡ length x - place = ap length is.there ∙ length-drop place x in
    let same : nat_le (n - place) (length x - place) ≡ nat_le n (length x) = elim (cases_lt (length x) n) [
      | inl past ↦ lt-leb (n - place) (length x - place) (omega (arith, past, before, within)) ∙ sym (lt-leb n (length x) past)
      | inr inside ↦ le-leb (n - place) (length x - place) (omega (arith, inside, before, within)) ∙ sym (le-leb n (length x) inside)
    ] in
    ap₂ (λ a b. a && b) (ap (nat_le (n - place)) left ∙ same) (goes_on-left n is before)

-- The first n ranges are in turn up to a place of x, and the text is what is left there. Whatever ranges follow them, all are in turn exactly if those are from that place on.
pub record IsTaken (x : List ℕ) (ranges : List (ℕ × ℕ)) (n place : ℕ) (text : List ℕ) : Type 0 where
  pub turn : (rs : List (ℕ × ℕ)) → IsTurn x (take n ranges ++ rs) rs place text
  pub within : place ≤ length x

pub taken-begin : (t : List ℕ) (ranges : List (ℕ × ℕ)) → IsUtf8 (plain t) → IsTaken (plain t) ranges 0 0 t
taken-begin t ranges utf8 = record { turn = λ rs. turn-begin t rs utf8; within = omega arith }

-- the ranges so far are in turn
pub taken-front : {x : List ℕ} {ranges : List (ℕ × ℕ)} {n place : ℕ} {text : List ℕ} → IsTaken x ranges n place text → IsTrue (are_in_turn x 0 (take n ranges))
taken-front {x} {ranges} {n} {place} taken = ap (are_in_turn x 0) (sym (append-nil (take n ranges))) ∙ (taken.turn []).same ∙ le-leb place (length x) taken.within

-- and so are all if none is left
pub taken-all : {x : List ℕ} {ranges : List (ℕ × ℕ)} {n place : ℕ} {text : List ℕ} → IsTaken x ranges n place text → length ranges ≤ n → IsTrue (are_in_turn x 0 ranges)
taken-all {x} {ranges} {n} taken none = ap (are_in_turn x 0) (sym (take_all n ranges none)) ∙ taken-front taken

-- all aren't if those at the front aren't
pub refused-all : (x : List ℕ) (ranges : List (ℕ × ℕ)) (n : ℕ) → IsFalse (are_in_turn x 0 (take n ranges)) → IsTrue (are_in_turn x 0 ranges) → true ≡ false
refused-all x ranges n bad all = sym (in_turn-front x 0 (take n ranges) (drop n ranges) (ap (are_in_turn x 0) (take-append-drop n ranges) ∙ all)) ∙ bad

-- The next range.
module _ {x : List ℕ} {ranges : List (ℕ × ℕ)} {n place : ℕ} {text : List ℕ} (taken : IsTaken x ranges n place text) (r : ℕ × ℕ) (next : take (n + 1) ranges ≡ take n ranges ++ r ∷ []) where
  ended : IsTrue (is_range_left (plain text) place r) → is_char_boundary (plain text) (r.1 - place) ≡ is_char_boundary x r.1
  ended good = boundary-left r.1 (taken.turn []).is_left (range-ends (plain text) place r good) taken.within

  -- it isn't good
  pub refused-bad : IsFalse (is_range_left (plain text) place r) → IsFalse (are_in_turn x 0 (take (n + 1) ranges))
  refused-bad bad = ap (are_in_turn x 0) next ∙ sym (turn-bad (taken.turn (r ∷ [])) refl bad)

  module _ (after : List ℕ) (good : IsTrue (is_range_left (plain text) place r) × (plain after ≡ drop (r.1 - place) (plain text))) where
    -- it ends past the end
    pub refused-past : IsFalse (is_char_boundary (plain text) (r.1 - place)) → IsFalse (are_in_turn x 0 (take (n + 1) ranges))
    refused-past past = ap (are_in_turn x 0) next ∙ sym (turn-end {text = after} (turn-step (taken.turn (r ∷ [])) refl good) refl (sym past ∙ ended good.0))

    -- it is in turn
    pub taken-step : IsTrue (is_char_boundary (plain text) (r.1 - place)) → IsTaken x ranges (n + 1) r.1 after
    taken-step there = record {
      turn = λ rs. subst (λ all. IsTurn x all rs r.1 after) (sym (ap (λ front. front ++ rs) next ∙ append_assoc (take n ranges) (r ∷ []) rs)) (turn-step (taken.turn (r ∷ rs)) refl good);
      within = leb-true r.1 (length x) (and_parts (nat_le r.1 (length x)) (no_character_goes_on x r.1) (sym (ended good.0) ∙ there)).0;
    }

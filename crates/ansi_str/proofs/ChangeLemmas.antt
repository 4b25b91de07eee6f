-- What one change makes of a whole text is the slice of its styled bytes that it names, whole, and closed if the change closes.
use Rattle.ansi_str.proofs.Common.{◌≡◌, ℕ, ◌-◌, Bool, true, false, List, [], length, take, Option, Some, None, option_map, is_some, refl, sym, ◌∙◌, ap, subst, arith, IsTrue, slice_range, if◌then◌else◌, nat_eq, IfSome, unwrap_or, starts_with, ends_with, cond-true, length-map, plain, is_whole, plain_style, StyledByte, styled, unstyled, residue, is_good_position, is_good_range, cut, left_side, right_side, kept, without_prefix, without_suffix, trim_interval, trimmed, parts, end_before, part_over, part, Change, CutRange, LeftOf, RightOf, PartOf, WithoutPrefix, WithoutSuffix, Trimmed, interval_of, slice_of, changed_text, edited_by, closes, slice_range-past, slice_range-map, unstyled-styled, styled-cut, is_whole-cut, residue-cut, left_side_is, right_side_is, styled-kept, is_whole-kept, residue-kept}
use Rattle.std.proofs.lemmas.Option.{cond_some}
use Rattle.ansi_style.proofs.DressedLemmas.{IsClosed}
use Rattle.ansi_split.proofs.IntervalLemmas.{parts_come_after}
use Rattle.ansi_split.proofs.PartSliceLemmas.{part_over_is}

-- the part of an index, as the text that its change makes
pub changed_text-part_is : (t p : List ℕ) (k : ℕ) (i : ℕ × ℕ) → IsTrue (is_whole t) → interval_of (PartOf p k) (plain t) ≡ Some i → IsClosed (slice_range (styled t) i.0 i.1) (changed_text (PartOf p k) t)
changed_text-part_is t p k i whole found =
    let before = end_before (parts (plain t) p) k in
    subst (IsClosed (slice_range (styled t) i.0 i.1)) (sym (ap (λ o. unwrap_or (option_map (part_over t before) o) []) found))
    (part_over_is t before i whole (parts_come_after (plain t) p k i found))

-- u is what a change makes of t that keeps the interval i; it closes, or leaves open what t does
record IsSlice (closing : Bool) (t : List ℕ) (i : ℕ × ℕ) (u : List ℕ) : Type 0 where
  styled_bytes : styled u ≡ slice_range (styled t) i.0 i.1
  whole : IsTrue (is_whole u)
  left_open : residue u ≡ (if closing then plain_style else residue t)

IsSlice-kept : (t : List ℕ) (a b : ℕ) → IsTrue (is_whole t) → IsSlice false t (a, b) (kept t a b)
IsSlice-kept t a b whole = record { styled_bytes = styled-kept t a b whole; whole = is_whole-kept t a b whole; left_open = residue-kept t a b whole }

IsSlice-left : (t : List ℕ) (mid : ℕ) → IsTrue (is_whole t) → IsSlice true t (0, mid) (changed_text (LeftOf mid) t)
IsSlice-left t mid whole =
    let side = left_side_is t mid whole in
    let all : mid ≡ mid - 0 = omega arith in
    record { styled_bytes = side.styled_bytes ∙ ap (λ n. take n (styled t)) all; whole = side.whole; left_open = side.closed }

IsSlice-right : (t : List ℕ) (mid : ℕ) → IsTrue (is_whole t) → IsSlice true t (mid, length (plain t)) (changed_text (RightOf mid) t)
IsSlice-right t mid whole =
    let side = right_side_is t mid whole in
    let size : length (styled t) ≡ length (plain t) = sym (length-map (styled t) _) ∙ ap length (unstyled-styled t) in
    record { styled_bytes = side.styled_bytes ∙ sym (slice_range-past (styled t) mid (length (plain t)) (omega (arith, size))); whole = side.whole; left_open = side.closed }

-- A change that isn't refused.

-- if a test lets the interval j through, it is the one that is found
IsSlice-if_found : (closing test : Bool) (t u : List ℕ) (i j : ℕ × ℕ) → (if test then Some j else None) ≡ Some i → IsSlice closing t j u → IsSlice closing t i u
IsSlice-if_found closing test t u i j found is = subst (λ k. IsSlice closing t k u) (cond_some test j i found).1 is

changed_text_is : (e : Change) (t : List ℕ) (i : ℕ × ℕ) → IsTrue (is_whole t) → interval_of e (plain t) ≡ Some i → IsSlice (closes e) t i (changed_text e t)
changed_text_is (CutRange s e) t i whole found = grind (arith, is_whole-cut, residue-cut, styled-cut, IsSlice-if_found)
changed_text_is (LeftOf mid) t i whole found = IsSlice-if_found true (is_good_position (plain t) mid) t (changed_text (LeftOf mid) t) i (0, mid) found (IsSlice-left t mid whole)
changed_text_is (RightOf mid) t i whole found = IsSlice-if_found true (is_good_position (plain t) mid) t (changed_text (RightOf mid) t) i (mid, length (plain t)) found (IsSlice-right t mid whole)
changed_text_is (PartOf p k) t i whole found =
    let is = changed_text-part_is t p k i whole found in
    record { styled_bytes = is.styled_bytes; whole = is.whole; left_open = is.closed }
changed_text_is (WithoutPrefix p) t i whole found =
    let end = length (plain t) in
    IsSlice-if_found false (starts_with nat_eq (plain t) p) t (changed_text (WithoutPrefix p) t) i (length p, end) found (IsSlice-kept t (length p) end whole)
changed_text_is (WithoutSuffix p) t i whole found =
    let end = length (plain t) - length p in
    IsSlice-if_found false (ends_with nat_eq (plain t) p) t (changed_text (WithoutSuffix p) t) i (0, end) found (IsSlice-kept t 0 end whole)
changed_text_is Trimmed t i whole found =
    let j = trim_interval (plain t) in
    IsSlice-if_found false true t (changed_text Trimmed t) i j found (IsSlice-kept t j.0 j.1 whole)

-- What a change returns, or changes in turn, by whether one of them closes.

abbrev pub IsAnswer : Bool → List ℕ → Option (List StyledByte) → Option (List ℕ) → Type 0
IsAnswer closing t slice answer = (slice ≡ option_map styled answer)
    × IfSome answer (λ u. IsTrue (is_whole u) × (residue u ≡ (if closing then plain_style else residue t)))

pub edited_by_answers : (e : Change) (t : List ℕ) → IsTrue (is_whole t) → IsAnswer (closes e) t (slice_of e (styled t)) (edited_by e t)
edited_by_answers e t whole =
    subst (λ x. IsAnswer (closes e) t (option_map (λ (i : ℕ × ℕ). slice_range (styled t) i.0 i.1) (interval_of e x)) (edited_by e t)) (sym (unstyled-styled t))
    (by_interval (interval_of e (plain t)) (λ i found. changed_text_is e t i whole found))
  where
    by_interval : (o : Option (ℕ × ℕ)) → ((i : ℕ × ℕ) → o ≡ Some i → IsSlice (closes e) t i (changed_text e t))
        → IsAnswer (closes e) t (option_map (λ (i : ℕ × ℕ). slice_range (styled t) i.0 i.1) o) (if is_some o then Some (changed_text e t) else None)
    by_interval None is = (refl, tt)
    by_interval (Some i) is = (let slice = is i refl in (ap Some (sym slice.styled_bytes), (slice.whole, slice.left_open)))

-- of one change, refused or not
pub slice_of-styled : (e : Change) (t : List ℕ) → IsTrue (is_whole t) → slice_of e (styled t) ≡ option_map styled (edited_by e t)
slice_of-styled e t whole = (edited_by_answers e t whole).0

-- A part is what its change makes.
pub edited_by-part : (t p : List ℕ) (k : ℕ) → edited_by (PartOf p k) t ≡ part t p k
edited_by-part t p k = grind arith

pub slice_of-part : (t p : List ℕ) (k : ℕ) → IsTrue (is_whole t) → slice_of (PartOf p k) (styled t) ≡ option_map styled (part t p k)
slice_of-part t p k whole = slice_of-styled (PartOf p k) t whole ∙ ap (option_map styled) (edited_by-part t p k)

closed_part : (t p : List ℕ) (k : ℕ) (u : List ℕ) → IsTrue (is_whole t) → part t p k ≡ Some u → IsTrue (is_whole u) × (residue u ≡ plain_style)
closed_part t p k u whole found = subst (λ o. IfSome o (λ u. IsTrue (is_whole u) × (residue u ≡ plain_style))) (edited_by-part t p k ∙ found) (edited_by_answers (PartOf p k) t whole).1

pub is_whole-part : (t p : List ℕ) (k : ℕ) (u : List ℕ) → IsTrue (is_whole t) → part t p k ≡ Some u → IsTrue (is_whole u)
is_whole-part t p k u whole found = (closed_part t p k u whole found).0

pub residue-part : (t p : List ℕ) (k : ℕ) (u : List ℕ) → IsTrue (is_whole t) → part t p k ≡ Some u → residue u ≡ plain_style
residue-part t p k u whole found = (closed_part t p k u whole found).1

-- Of each change that isn't refused.

slice_of-accepted : (e : Change) (t : List ℕ) → IsTrue (is_whole t) → is_some (interval_of e (plain t)) ≡ true → slice_of e (styled t) ≡ Some (styled (changed_text e t))
slice_of-accepted e t whole keeps = slice_of-styled e t whole ∙ ap (option_map styled) (cond-true (is_some (interval_of e (plain t))) (Some (changed_text e t)) None keeps)

pub slice_of-cut : (t : List ℕ) (s : ℕ) (e : Option ℕ) → IsTrue (is_whole t) → IsTrue (is_good_range (plain t) s e) → slice_of (CutRange s e) (styled t) ≡ Some (styled (cut t s e))
slice_of-cut t s e whole good = slice_of-accepted (CutRange s e) t whole (ap is_some (cond-true (is_good_range (plain t) s e) _ None good))

pub slice_of-left_side : (t : List ℕ) (mid : ℕ) → IsTrue (is_whole t) → IsTrue (is_good_position (plain t) mid) → slice_of (LeftOf mid) (styled t) ≡ Some (styled (left_side t mid))
slice_of-left_side t mid whole good = slice_of-accepted (LeftOf mid) t whole (ap is_some (cond-true (is_good_position (plain t) mid) _ None good))

pub slice_of-right_side : (t : List ℕ) (mid : ℕ) → IsTrue (is_whole t) → IsTrue (is_good_position (plain t) mid) → slice_of (RightOf mid) (styled t) ≡ Some (styled (right_side t mid))
slice_of-right_side t mid whole good = slice_of-accepted (RightOf mid) t whole (ap is_some (cond-true (is_good_position (plain t) mid) _ None good))

pub slice_of-without_prefix : (t p : List ℕ) → IsTrue (is_whole t) → IsTrue (starts_with nat_eq (plain t) p) → slice_of (WithoutPrefix p) (styled t) ≡ Some (styled (without_prefix t p))
slice_of-without_prefix t p whole begins = slice_of-accepted (WithoutPrefix p) t whole (ap is_some (cond-true (starts_with nat_eq (plain t) p) _ None begins))

pub slice_of-without_suffix : (t p : List ℕ) → IsTrue (is_whole t) → IsTrue (ends_with nat_eq (plain t) p) → slice_of (WithoutSuffix p) (styled t) ≡ Some (styled (without_suffix t p))
slice_of-without_suffix t p whole ends = slice_of-accepted (WithoutSuffix p) t whole (ap is_some (cond-true (ends_with nat_eq (plain t) p) _ None ends))

pub slice_of-trimmed : (t : List ℕ) → IsTrue (is_whole t) → slice_of Trimmed (styled t) ≡ Some (styled (trimmed t))
slice_of-trimmed t whole = slice_of-accepted Trimmed t whole refl

-- The plain text of what a change makes is the slice of the plain text.

option_map-map : {X Y Z : Type 0} (f : Y → Z) (g : X → Y) (h : X → Z) → ((x : X) → f (g x) ≡ h x) → (o : Option X) → option_map f (option_map g o) ≡ option_map h o
option_map-map f g h same None = refl
option_map-map f g h same (Some x) = ap Some (same x)

pub plain-edited_by : (e : Change) (t : List ℕ) → IsTrue (is_whole t) → option_map plain (edited_by e t) ≡ option_map (λ (i : ℕ × ℕ). slice_range (plain t) i.0 i.1) (interval_of e (plain t))
plain-edited_by e t whole =
    let slice : ℕ × ℕ → List ℕ = λ i. slice_range (unstyled (styled t)) i.0 i.1 in
    sym (option_map-map unstyled styled plain unstyled-styled (edited_by e t))
    ∙ ap (option_map unstyled) (sym (slice_of-styled e t whole))
    ∙ option_map-map unstyled (λ (i : ℕ × ℕ). slice_range (styled t) i.0 i.1) slice (λ i. sym (slice_range-map (λ (b : StyledByte). b.byte) (styled t) i.0 i.1)) (interval_of e (unstyled (styled t)))
    ∙ ap (λ x. option_map (λ (i : ℕ × ℕ). slice_range x i.0 i.1) (interval_of e x)) (unstyled-styled t)

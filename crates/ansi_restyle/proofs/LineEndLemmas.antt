-- Which positions are between a carriage return and a line feed: none of a text without a carriage return, and no beginning of a match, if the pattern begins with another byte than a line feed.
use Rattle.std.proofs.Common.{◌≡◌, ℕ, zero, suc, ◌+◌, ◌-◌, ◌==◌, Bool, true, false, not, ◌&&◌, ◌||◌, List, [], ◌∷◌, length, map, filter, drop, nat_eq, nat_le, slice_index, refl, sym, ◌∙◌, ap, arith, if◌then◌else◌}
use Rattle.std.proofs.lemmas.Bool.{and_from, and_parts, cond_both, eqb-true}
use Rattle.std.proofs.lemmas.List.{get_or-drop}
use Rattle.std.specs.List.{list_all, list_any, range_with_len, starts_with}
use Rattle.ansi_search.specs.Positions.{is_char_boundary}
use Rattle.ansi_search.specs.Matches.{is_match, match_places}
use Rattle.ansi_split.specs.Parts.{without_overlaps}
use Rattle.ansi_restyle.specs.Matches.{matches}
use Rattle.ansi_restyle.specs.Ranges.{parts_line_end, keep_line_ends, begin_outside_line_ends}

neither : (a b : Bool) → (a || b) ≡ false → (a ≡ false) × (b ≡ false)
neither true b none = absurd (cc none)
neither false b none = (refl, none)

no_return : (x : List ℕ) (n : ℕ) → list_any (λ b. b == 13) x ≡ false → (slice_index x n == 13) ≡ false
no_return [] n none = refl
no_return (b ∷ x) zero none = (neither (b == 13) (list_any (λ c. c == 13) x) none).0
no_return (b ∷ x) (suc n) none = no_return x n (neither (b == 13) (list_any (λ c. c == 13) x) none).1

module _ (x : List ℕ) (none : list_any (λ b. b == 13) x ≡ false) where
  pub parts_none : (n : ℕ) → parts_line_end x n ≡ false
  parts_none n = ap (λ r. r && (slice_index x n == 10)) (no_return x (n - 1) none)

  pub keep_any : (rs : List (ℕ × ℕ)) → keep_line_ends x rs ≡ true
  keep_any [] = refl
  keep_any (r ∷ rs) =
      and_from (not (parts_line_end x r.0) && not (parts_line_end x r.1)) (keep_line_ends x rs)
      (and_from (not (parts_line_end x r.0)) (not (parts_line_end x r.1)) (ap not (parts_none r.0)) (ap not (parts_none r.1))) (keep_any rs)

  pub begin_any : (rs : List (ℕ × ℕ)) → begin_outside_line_ends x rs ≡ true
  begin_any [] = refl
  begin_any (r ∷ rs) = and_from (not (parts_line_end x r.0)) (begin_outside_line_ends x rs) (ap not (parts_none r.0)) (begin_any rs)

first_byte : (v : List ℕ) (b : ℕ) (p : List ℕ) → starts_with nat_eq v (b ∷ p) ≡ true → slice_index v 0 ≡ b
first_byte [] b p starts = absurd (cc starts)
first_byte (c ∷ v) b p starts = sym (eqb-true b c (and_parts (nat_eq b c) (starts_with nat_eq v p) starts).0)

module _ (x p : List ℕ) (b : ℕ) (other : (b == 10) ≡ false) where
  abbrev outside : ℕ → Bool
  outside m = not (parts_line_end x m)

  match_outside : (m : ℕ) → is_match x (b ∷ p) m ≡ true → outside m ≡ true
  match_outside m is =
      let starts = (and_parts (is_char_boundary x m) (starts_with nat_eq (drop m x) (b ∷ p)) is).1 in
      let at : m + 0 ≡ m = omega arith in
      let there : slice_index x m ≡ b = sym (ap (slice_index x) at) ∙ sym (get_or-drop m x 0 0) ∙ first_byte (drop m x) b p starts in
      by (slice_index x (m - 1) == 13) (slice_index x m == 10) (ap (λ k. k == 10) there ∙ other)
    where
      by : (r f : Bool) → f ≡ false → not (r && f) ≡ true
      by r true none = absurd (cc none)
      by true false none = refl
      by false false none = refl

  places_outside : (i k : ℕ) → list_all outside (filter (is_match x (b ∷ p)) (range_with_len i k)) ≡ true
  places_outside i zero = refl
  places_outside i (suc k) =
      let later = filter (is_match x (b ∷ p)) (range_with_len (i + 1) k) in
      cond_both (is_match x (b ∷ p) i) (i ∷ later) later (λ ms. list_all outside ms ≡ true)
      (λ is. and_from (outside i) (list_all outside later) (match_outside i is) (places_outside (i + 1) k)) (λ no. places_outside (i + 1) k)

  taken_outside : (n e : ℕ) (ms : List ℕ) → list_all outside ms ≡ true → begin_outside_line_ends x (map (λ m. (m, m + length (b ∷ p))) (without_overlaps n e ms)) ≡ true
  taken_outside n e [] all = refl
  taken_outside n e (m ∷ ms) all =
      let both = and_parts (outside m) (list_all outside ms) all in
      let more = without_overlaps n (if nat_le e m then m + n else e) ms in
      let later = taken_outside n (if nat_le e m then m + n else e) ms both.1 in
      cond_both (nat_le e m) (m ∷ more) more (λ ks. begin_outside_line_ends x (map (λ k. (k, k + length (b ∷ p))) ks) ≡ true)
      (λ at. and_from (outside m) (begin_outside_line_ends x (map (λ k. (k, k + length (b ∷ p))) more)) both.0 later) (λ past. later)

  pub matches_outside : begin_outside_line_ends x (matches x (b ∷ p)) ≡ true
  matches_outside = taken_outside (length (b ∷ p)) 0 (match_places x (b ∷ p)) (places_outside 0 (length x + 1))

-- Ranges in turn, and styled bytes that are changed in them.
use Rattle.std.proofs.Common.{◌≡◌, ℕ, ◌+◌, ◌<◌, ◌≤◌, true, false, ◌&&◌, ◌||◌, List, [], ◌∷◌, ◌++◌, length, map, refl, ◌∙◌, ap, ap₂, arith, nat_le, nat_lt, if◌then◌else◌}
use Rattle.std.proofs.lemmas.Bool.{and_parts, leb-true, le-leb, lt-leb, lt-ltb, le-ltb}
use Rattle.ansi_style.specs.Styled.{StyledByte}
use Rattle.ansi_search.specs.Positions.{no_character_goes_on}
use Rattle.ansi_restyle.specs.Ranges.{are_in_turn, is_in_any}
use Rattle.ansi_restyle.specs.Restyled.{changed_byte, changed_within}

-- the first range, and those after it
pub record AreFirst (x : List ℕ) (n : ℕ) (r : ℕ × ℕ) (rs : List (ℕ × ℕ)) : Type 0 where
  pub begins : n ≤ r.0
  pub ends : r.0 ≤ r.1
  pub good_start : no_character_goes_on x r.0 ≡ true
  pub good_end : no_character_goes_on x r.1 ≡ true
  pub later : are_in_turn x r.1 rs ≡ true

pub are_first : (x : List ℕ) (n : ℕ) (r : ℕ × ℕ) (rs : List (ℕ × ℕ)) → are_in_turn x n (r ∷ rs) ≡ true → AreFirst x n r rs
are_first x n r rs turn =
    let a = and_parts (nat_le n r.0) (nat_le r.0 r.1 && (no_character_goes_on x r.0 && (no_character_goes_on x r.1 && are_in_turn x r.1 rs))) turn in
    let b = and_parts (nat_le r.0 r.1) (no_character_goes_on x r.0 && (no_character_goes_on x r.1 && are_in_turn x r.1 rs)) a.1 in
    let c = and_parts (no_character_goes_on x r.0) (no_character_goes_on x r.1 && are_in_turn x r.1 rs) b.1 in
    let d = and_parts (no_character_goes_on x r.1) (are_in_turn x r.1 rs) c.1 in
    record { begins = leb-true n r.0 a.0; ends = leb-true r.0 r.1 b.0; good_start = c.0; good_end = d.0; later = d.1 }

-- none is past the end
pub in_turn-within : (x : List ℕ) (n : ℕ) (rs : List (ℕ × ℕ)) → are_in_turn x n rs ≡ true → n ≤ length x
in_turn-within x n [] turn = leb-true n (length x) turn
in_turn-within x n (r ∷ rs) turn =
    let first = are_first x n r rs turn in
    let before : n ≤ r.0 = first.begins in
    let ends : r.0 ≤ r.1 = first.ends in
    omega (arith, before, ends, in_turn-within x r.1 rs first.later)

-- Which positions are in them.

pub in_any-before : (x : List ℕ) (n i : ℕ) (rs : List (ℕ × ℕ)) → are_in_turn x n rs ≡ true → i < n → is_in_any rs i ≡ false
in_any-before x n i [] turn before = refl
in_any-before x n i (r ∷ rs) turn before =
    let first = are_first x n r rs turn in
    let begins : n ≤ r.0 = first.begins in
    let ends : r.0 ≤ r.1 = first.ends in
    let not_yet : nat_le r.0 i ≡ false = lt-leb r.0 i (omega (arith, begins, before)) in
    ap₂ (λ a b. (a && nat_lt i r.1) || b) not_yet (in_any-before x r.1 i rs first.later (omega (arith, begins, ends, before)))

pub in_any-front : (x : List ℕ) (n i : ℕ) (r : ℕ × ℕ) (rs : List (ℕ × ℕ)) → AreFirst x n r rs → i < r.0 → is_in_any (r ∷ rs) i ≡ false
in_any-front x n i r rs first before =
    let ends : r.0 ≤ r.1 = first.ends in
    let not_yet : nat_le r.0 i ≡ false = lt-leb r.0 i before in
    ap₂ (λ a b. (a && nat_lt i r.1) || b) not_yet (in_any-before x r.1 i rs first.later (omega (arith, ends, before)))

pub in_any-here : (i : ℕ) (r : ℕ × ℕ) (rs : List (ℕ × ℕ)) → r.0 ≤ i → i < r.1 → is_in_any (r ∷ rs) i ≡ true
in_any-here i r rs from before = ap₂ (λ a b. (a && b) || is_in_any rs i) (le-leb r.0 i from) (lt-ltb i r.1 before)

pub in_any-later : (i : ℕ) (r : ℕ × ℕ) (rs : List (ℕ × ℕ)) → r.1 ≤ i → is_in_any (r ∷ rs) i ≡ is_in_any rs i
in_any-later i r rs past = grind (arith, le-ltb i r.1 past)

-- Styled bytes in a row.

pub within-append : (w : List ℕ) (rs : List (ℕ × ℕ)) (n : ℕ) (bs cs : List StyledByte) → changed_within w rs n (bs ++ cs) ≡ changed_within w rs n bs ++ changed_within w rs (n + length bs) cs
within-append w rs n [] cs = (let same : n ≡ n + 0 = omega arith in ap (λ k. changed_within w rs k cs) same)
within-append w rs n (b ∷ bs) cs =
    let same : n + 1 + length bs ≡ n + length (b ∷ bs) = omega arith in
    ap (λ v. (if is_in_any rs n then changed_byte w b else b) ∷ v) (within-append w rs (n + 1) bs cs ∙ ap (λ k. changed_within w rs (n + 1) bs ++ changed_within w rs k cs) same)

pub within-outside : (w : List ℕ) (rs : List (ℕ × ℕ)) (n : ℕ) (bs : List StyledByte) → ((i : ℕ) → n ≤ i → i < n + length bs → is_in_any rs i ≡ false) → changed_within w rs n bs ≡ bs
within-outside w rs n [] none = refl
within-outside w rs n (b ∷ bs) none =
    ap₂ (λ t v. (if t then changed_byte w b else b) ∷ v) (none n (omega arith) (omega arith)) (within-outside w rs (n + 1) bs (λ i from before. none i (omega (arith, from)) (omega (arith, before))))

pub within-inside : (w : List ℕ) (rs : List (ℕ × ℕ)) (n : ℕ) (bs : List StyledByte) → ((i : ℕ) → n ≤ i → i < n + length bs → is_in_any rs i ≡ true) → changed_within w rs n bs ≡ map (changed_byte w) bs
within-inside w rs n [] all = refl
within-inside w rs n (b ∷ bs) all =
    ap₂ (λ t v. (if t then changed_byte w b else b) ∷ v) (all n (omega arith) (omega arith)) (within-inside w rs (n + 1) bs (λ i from before. all i (omega (arith, from)) (omega (arith, before))))

pub within-agree : (w : List ℕ) (rs qs : List (ℕ × ℕ)) (n : ℕ) (bs : List StyledByte) → ((i : ℕ) → n ≤ i → is_in_any rs i ≡ is_in_any qs i) → changed_within w rs n bs ≡ changed_within w qs n bs
within-agree w rs qs n [] same = refl
within-agree w rs qs n (b ∷ bs) same =
    ap₂ (λ t v. (if t then changed_byte w b else b) ∷ v) (same n (omega arith)) (within-agree w rs qs (n + 1) bs (λ i from. same i (omega (arith, from))))

-- what is changed of styled bytes in three parts: before the first range, in it, and after it
pub within-parts : (x w : List ℕ) (n : ℕ) (r : ℕ × ℕ) (rs : List (ℕ × ℕ)) (xs bs cs : List StyledByte) → AreFirst x n r rs → n + length xs ≡ r.0 → r.0 + length bs ≡ r.1
    → changed_within w (r ∷ rs) n (xs ++ (bs ++ cs)) ≡ xs ++ (map (changed_byte w) bs ++ changed_within w rs r.1 cs)
within-parts x w n r rs xs bs cs first front here =
    within-append w (r ∷ rs) n xs (bs ++ cs)
    ∙ ap₂ (λ u v. u ++ v)
    (within-outside w (r ∷ rs) n xs (λ i from before. in_any-front x n i r rs first (omega (arith, front, before))))
    (ap (λ k. changed_within w (r ∷ rs) k (bs ++ cs)) front
    ∙ within-append w (r ∷ rs) r.0 bs cs
    ∙ ap₂ (λ u v. u ++ v)
    (within-inside w (r ∷ rs) r.0 bs (λ i from before. in_any-here i r rs from (omega (arith, here, before))))
    (ap (λ k. changed_within w (r ∷ rs) k cs) here ∙ within-agree w (r ∷ rs) rs r.1 cs (λ i past. in_any-later i r rs past)))

-- How far a walk over ranges has come, and what a step is to it.
use Rattle.std.proofs.Common.{◌≡◌, ℕ, ◌+◌, ◌-◌, ◌≤◌, inl, inr, Bool, true, false, ◌&&◌, List, [], ◌∷◌, ◌++◌, length, drop, refl, sym, ◌∙◌, ap, ap₂, subst, arith, IsTrue, IsFalse, append_assoc, nat_le}
use Rattle.std.proofs.Math.Bool.{and-true}
use Rattle.std.proofs.lemmas.Bool.{and_parts, leb-true, le-leb, lt-leb, cases_lt}
use Rattle.std.proofs.lemmas.List.{drop-drop}
use Rattle.std.proofs.lemmas.Str.{IsCharBoundary-start}
use Rattle.std.specs.Str.{IsUtf8}
use Rattle.ansi_items.specs.Pieces.{pieces_of}
use Rattle.ansi_items.specs.Plain.{plain}
use Rattle.ansi_style.specs.declared.state.rendition.Rendition.{Rendition}
use Rattle.ansi_style.specs.Reading.{style_within}
use Rattle.ansi_search.specs.Positions.{no_character_goes_on, is_char_boundary}
use Rattle.ansi_search.proofs.PositionLemmas.{no_character_goes_on-drop, no_character_goes_on-boundary}
use Rattle.ansi_restyle.specs.Rests.{is_range_left, IsDivided}
use Rattle.ansi_restyle.specs.Ranges.{are_in_turn}
use Rattle.ansi_restyle.specs.Restyled.{front, rest, changed_pieces, restyled_from}
use Rattle.ansi_restyle.proofs.FrontLemmas.{plain-rest}
use Rattle.ansi_restyle.proofs.RangeLemmas.{AreFirst, are_first}

-- What is left of a text is that of the plain text x from a place on.
pub record IsLeft (x : List ℕ) (place : ℕ) (left : List ℕ) : Type 0 where
  pub there : plain left ≡ drop place x

pub left-begin : (t : List ℕ) → IsLeft (plain t) 0 t
left-begin t = record { there = refl }

-- after a position further on
pub left-later : {x left front after : List ℕ} {place n : ℕ} → IsLeft x place left → place ≤ n → IsDivided left (n - place) front after → IsLeft x n after
left-later {x} {left} {front} {after} {place} {n} is before divided =
    let sum : place + (n - place) ≡ n = omega arith in
    record { there = ap plain divided.rest_is ∙ plain-rest left (n - place) ∙ ap (drop (n - place)) is.there ∙ drop-drop (n - place) place x ∙ ap (λ k. drop k x) sum }

-- a position of what is left is one of x
pub goes_on-left : {x left : List ℕ} {place : ℕ} (n : ℕ) → IsLeft x place left → place ≤ n → no_character_goes_on (plain left) (n - place) ≡ no_character_goes_on x n
goes_on-left {x} {left} {place} n is before =
    let sum : place + (n - place) ≡ n = omega arith in
    ap (λ u. no_character_goes_on u (n - place)) is.there ∙ no_character_goes_on-drop x place (n - place) ∙ ap (no_character_goes_on x) sum

-- All ranges are in turn exactly if those that are left are, from a place on at which no character goes on.
pub record IsTurn (x : List ℕ) (all left : List (ℕ × ℕ)) (place : ℕ) (text : List ℕ) : Type 0 where
  pub same : are_in_turn x 0 all ≡ are_in_turn x place left
  pub is_left : IsLeft x place text
  pub good : IsTrue (no_character_goes_on x place)

pub turn-begin : (t : List ℕ) (all : List (ℕ × ℕ)) → IsUtf8 (plain t) → IsTurn (plain t) all all 0 t
turn-begin t all utf8 = record { same = refl; is_left = left-begin t; good = no_character_goes_on-boundary (plain t) 0 (IsCharBoundary-start (plain t) utf8) }

record RangeParts (x : List ℕ) (n : ℕ) (r : ℕ × ℕ) : Type 0 where
  begins : n ≤ r.0
  ends : r.0 ≤ r.1
  good_start : no_character_goes_on x (r.0 - n) ≡ true
  good_end : no_character_goes_on x (r.1 - n) ≡ true

range_parts : (x : List ℕ) (n : ℕ) (r : ℕ × ℕ) → is_range_left x n r ≡ true → RangeParts x n r
range_parts x n r good =
    let a = and_parts (nat_le n r.0) (nat_le r.0 r.1 && (no_character_goes_on x (r.0 - n) && no_character_goes_on x (r.1 - n))) good in
    let b = and_parts (nat_le r.0 r.1) (no_character_goes_on x (r.0 - n) && no_character_goes_on x (r.1 - n)) a.1 in
    let c = and_parts (no_character_goes_on x (r.0 - n)) (no_character_goes_on x (r.1 - n)) b.1 in
    record { begins = leb-true n r.0 a.0; ends = leb-true r.0 r.1 b.0; good_start = c.0; good_end = c.1 }

and-false-1 : (a b : Bool) → b ≡ false → (a && b) ≡ false
and-false-1 true b none = none
and-false-1 false b none = refl

-- which ranges are good in what is left of a text
module _ (t : List ℕ) (n : ℕ) (r : ℕ × ℕ) {front after : List ℕ} (before : n ≤ r.0) (ordered : r.0 ≤ r.1) (divided : IsDivided t (r.0 - n) front after) where
  at_end : no_character_goes_on (plain after) (r.1 - r.0) ≡ no_character_goes_on (plain t) (r.1 - n)
  at_end =
      let further : r.0 - n ≤ r.1 - n = omega (arith, ordered) in
      let same : r.1 - r.0 ≡ r.1 - n - (r.0 - n) = omega (arith, before, ordered) in
      ap (no_character_goes_on (plain after)) same ∙ goes_on-left (r.1 - n) (left-later (left-begin t) (omega arith) (subst (λ i. IsDivided t i front after) (omega arith) divided)) further

  pub bad-end : IsFalse (no_character_goes_on (plain after) (r.1 - r.0)) → IsFalse (is_range_left (plain t) n r)
  bad-end bad = and-false-1 (nat_le n r.0) _ (and-false-1 (nat_le r.0 r.1) _ (and-false-1 (no_character_goes_on (plain t) (r.0 - n)) _ (sym at_end ∙ bad)))

  pub good-range : {inner last : List ℕ} → IsDivided after (r.1 - r.0) inner last → IsTrue (is_range_left (plain t) n r) × (plain last ≡ drop (r.1 - n) (plain t))
  good-range {inner} {last} ended =
      let sum : r.0 - n + (r.1 - r.0) ≡ r.1 - n = omega (arith, before, ordered) in (
        ap₂ (λ a b. a && (b && (no_character_goes_on (plain t) (r.0 - n) && no_character_goes_on (plain t) (r.1 - n)))) (le-leb n r.0 before) (le-leb r.0 r.1 ordered)
            ∙ ap₂ (λ a b. a && b) divided.good (sym at_end ∙ ended.good),
        ap plain ended.rest_is ∙ plain-rest after (r.1 - r.0) ∙ ap (drop (r.1 - r.0)) (ap plain divided.rest_is ∙ plain-rest t (r.0 - n)) ∙ drop-drop (r.1 - r.0) (r.0 - n) (plain t) ∙ ap (λ k. drop k (plain t)) sum,
      )

regroup_tests : (a b c : Bool) → (a && (b && c)) ≡ ((a && b) && c)
regroup_tests true b c = refl
regroup_tests false b c = refl

-- a range that is good in what is left is good in x
range_left : {x left : List ℕ} {place : ℕ} → IsLeft x place left → (r : ℕ × ℕ) (rs : List (ℕ × ℕ)) → are_in_turn x place (r ∷ rs) ≡ (is_range_left (plain left) place r && are_in_turn x r.1 rs)
range_left {x} {left} {place} is r rs =
    let y = plain left in
    let later = are_in_turn x r.1 rs in
    elim (cases_lt r.0 place) [
      | inl early ↦ (
          let no = lt-leb place r.0 early in
          ap (λ b. b && (nat_le r.0 r.1 && (no_character_goes_on x r.0 && (no_character_goes_on x r.1 && later)))) no
          ∙ sym (ap (λ b. (b && (nat_le r.0 r.1 && (no_character_goes_on y (r.0 - place) && no_character_goes_on y (r.1 - place)))) && later) no))
      | inr before ↦ elim (cases_lt r.1 r.0) [
        | inl back ↦ (
            let no = lt-leb r.0 r.1 back in
            let yes = le-leb place r.0 before in
            ap₂ (λ a b. a && (b && (no_character_goes_on x r.0 && (no_character_goes_on x r.1 && later)))) yes no
            ∙ sym (ap₂ (λ a b. (a && (b && (no_character_goes_on y (r.0 - place) && no_character_goes_on y (r.1 - place)))) && later) yes no))
        | inr ordered ↦ (
            let yes = le-leb place r.0 before in
            let also = le-leb r.0 r.1 ordered in
            ap₂ (λ a b. a && (b && (no_character_goes_on x r.0 && (no_character_goes_on x r.1 && later)))) yes also
            ∙ ap₂ (λ a b. a && (b && later)) (sym (goes_on-left r.0 is before)) (sym (goes_on-left r.1 is (omega (arith, before, ordered))))
            ∙ regroup_tests (no_character_goes_on y (r.0 - place)) (no_character_goes_on y (r.1 - place)) later
            ∙ sym (ap₂ (λ a b. (a && (b && (no_character_goes_on y (r.0 - place) && no_character_goes_on y (r.1 - place)))) && later) yes also))
      ]
    ]

module _ {x : List ℕ} {all left : List (ℕ × ℕ)} {place : ℕ} {text : List ℕ} (turn : IsTurn x all left place text) {r : ℕ × ℕ} {rs : List (ℕ × ℕ)} (is : left ≡ r ∷ rs) where
  tests : are_in_turn x 0 all ≡ (is_range_left (plain text) place r && are_in_turn x r.1 rs)
  tests = turn.same ∙ ap (are_in_turn x place) is ∙ range_left turn.is_left r rs

  -- the next range isn't good
  pub turn-bad : IsFalse (is_range_left (plain text) place r) → false ≡ are_in_turn x 0 all
  turn-bad bad = sym (tests ∙ ap (λ b. b && are_in_turn x r.1 rs) bad)

  -- it is
  pub turn-step : {after : List ℕ} → IsTrue (is_range_left (plain text) place r) × (plain after ≡ drop (r.1 - place) (plain text)) → IsTurn x all rs r.1 after
  turn-step good =
      let parts = range_parts (plain text) place r good.0 in
      let ordered : place ≤ r.1 = omega (arith, parts.begins, parts.ends) in
      let sum : place + (r.1 - place) ≡ r.1 = omega (arith, ordered) in
      record {
        same = tests ∙ ap (λ b. b && are_in_turn x r.1 rs) good.0;
        is_left = record { there = good.1 ∙ ap (drop (r.1 - place)) turn.is_left.there ∙ drop-drop (r.1 - place) place x ∙ ap (λ k. drop k x) sum };
        good = sym (goes_on-left r.1 turn.is_left ordered) ∙ parts.good_end;
      }

-- no range is left
pub turn-end : {x : List ℕ} {all left : List (ℕ × ℕ)} {place : ℕ} {text : List ℕ} {b : Bool} → IsTurn x all left place text → left ≡ [] → b ≡ is_char_boundary x place → b ≡ are_in_turn x 0 all
turn-end {x} {all} {left} {place} {text} {b} turn none is =
    is ∙ ap (λ g. nat_le place (length x) && g) turn.good ∙ and-true (nat_le place (length x)) ∙ sym (turn.same ∙ ap (are_in_turn x place) none)

-- What is written, and what is made of the text that is left, are all.
pub record IsRestyledSoFar (x whole done w : List ℕ) (style : Rendition) (place : ℕ) (text : List ℕ) (left : List (ℕ × ℕ)) : Type 0 where
  pub so_far : done ++ restyled_from w style place text left ≡ whole
  pub is_left : IsLeft x place text
  pub turn : are_in_turn x place left ≡ true

module _ {x whole done w : List ℕ} {style : Rendition} {place : ℕ} {text : List ℕ} {left : List (ℕ × ℕ)} (way : IsRestyledSoFar x whole done w style place text left) (r : ℕ × ℕ) (rs : List (ℕ × ℕ)) (is_first : left ≡ r ∷ rs) where
  pub first_range : AreFirst x place r rs
  first_range = are_first x place r rs (sym (ap (are_in_turn x place) is_first) ∙ way.turn)

  pub good_at_start : IsTrue (no_character_goes_on (plain text) (r.0 - place))
  good_at_start = goes_on-left r.0 way.is_left first_range.begins ∙ first_range.good_start

  divided_at_start : IsDivided text (r.0 - place) (front (r.0 - place) text) (rest (r.0 - place) text)
  divided_at_start = record { good = good_at_start; front_is = refl; rest_is = refl }

  left_at_start : IsLeft x r.0 (rest (r.0 - place) text)
  left_at_start = left-later way.is_left first_range.begins divided_at_start

  pub good_at_end : IsTrue (no_character_goes_on (plain (rest (r.0 - place) text)) (r.1 - r.0))
  good_at_end = goes_on-left r.1 left_at_start first_range.ends ∙ first_range.good_end

  pub restyled-range : {last done_1 : List ℕ} {end : Rendition}
      → done_1 ≡ done ++ (front (r.0 - place) text ++ changed_pieces w (style_within style text (r.0 - place)) (pieces_of (front (r.1 - r.0) (rest (r.0 - place) text))))
      → end ≡ style_within (style_within style text (r.0 - place)) (rest (r.0 - place) text) (r.1 - r.0) → last ≡ rest (r.1 - r.0) (rest (r.0 - place) text)
      → IsRestyledSoFar x whole done_1 w end r.1 last rs
  restyled-range {last} {done_1} {end} wrote is_end is_last =
      let n = r.0 - place in
      let m = r.1 - r.0 in
      let here = rest n text in
      let there = style_within style text n in
      let changed = changed_pieces w there (pieces_of (front m here)) in
      let later = restyled_from w (style_within there here m) r.1 (rest m here) rs in
      let ended : IsDivided here m (front m here) last = record { good = good_at_end; front_is = refl; rest_is = is_last } in
      record {
        so_far =
            ap₂ (λ u v. u ++ v) wrote (ap₂ (λ s u. restyled_from w s r.1 u rs) is_end is_last)
            ∙ append_assoc done (front n text ++ changed) later
            ∙ ap (λ l. done ++ restyled_from w style place text l) (sym is_first) ∙ way.so_far;
        is_left = left-later left_at_start first_range.ends ended;
        turn = first_range.later;
      }

pub restyled-end : {x whole done w new : List ℕ} {style : Rendition} {place : ℕ} {text : List ℕ} {left : List (ℕ × ℕ)} → IsRestyledSoFar x whole done w style place text left → left ≡ [] → new ≡ done ++ text → new ≡ whole
restyled-end {done = done} {w = w} {style = style} {place = place} {text = text} way none wrote = wrote ∙ ap (λ l. done ++ restyled_from w style place text l) (sym none) ∙ way.so_far

-- A safe text with a safe text in place of each of many ranges is safe, if no range begins between a carriage return and a line feed.
use Rattle.std.proofs.Common.{◌≡◌, ℕ, ◌+◌, ◌-◌, ◌<◌, ◌≤◌, ◌==◌, inl, inr, true, false, not, ◌&&◌, List, [], ◌∷◌, length, take, drop, refl, sym, ◌∙◌, ap, subst, arith, if◌then◌else◌}
use Rattle.std.proofs.lemmas.Bool.{and_parts, cases_lt, not-true}
use Rattle.std.proofs.lemmas.Bool.Decides.{nat_tests}
use Rattle.std.proofs.lemmas.List.{take-append-drop, length-drop, length-take, length-take-le}
use Rattle.std.proofs.lemmas.Str.{IsCharBoundary-start}
use Rattle.std.specs.List.{AllByRecursion}
use Rattle.std.specs.Str.{IsUtf8}
use Rattle.ansi_items.specs.Pieces.{pieces_of}
use Rattle.ansi_items.specs.Plain.{plain, marks}
use Rattle.ansi_items.proofs.PieceLemmas.{pieces_are}
use Rattle.ansi_items.proofs.Utf8Lemmas.{IsUtf8-plain}
use Rattle.ansi_style.specs.declared.state.rendition.Rendition.{Rendition}
use Rattle.ansi_style.specs.Rendition.{IsStyle}
use Rattle.ansi_style.specs.Reading.{style_after_from}
use Rattle.ansi_style.specs.Styled.{style_at}
use Rattle.ansi_style.proofs.StyleLemmas.{IsStyle-style_at, IsStyle-style_after_from}
use Rattle.ansi_search.specs.Offsets.{offset_of}
use Rattle.ansi_search.specs.Positions.{no_character_goes_on}
use Rattle.ansi_search.proofs.PositionLemmas.{no_character_goes_on-append, no_character_goes_on-past, no_character_goes_on-drop, no_character_goes_on-boundary}
use Rattle.ansi_safe.specs.declared.policy.Links.{Links}
use Rattle.ansi_safe.specs.Links.{link_at, link_after_all}
use Rattle.ansi_safe.specs.Safe.{is_safe}
use Rattle.ansi_safe.proofs.SafeLemmas.{AreGood, good_are_safe}
use Rattle.ansi_restyle.specs.Matches.{matches}
use Rattle.ansi_restyle.specs.Ranges.{are_in_turn, parts_line_end, begin_outside_line_ends}
use Rattle.ansi_restyle.specs.Replaced.{place_of, place_after}
use Rattle.ansi_restyle.specs.ReplacedAll.{replaced_all}
use Rattle.ansi_restyle.specs.ReplacedEach.{Swap, swaps_with, ranges_of, are_safe, without_front, replaced_from, replaced_each}
use Rattle.ansi_restyle.specs.Replacing.{AreUtf8}
use Rattle.ansi_restyle.specs.Restyled.{rest}
use Rattle.ansi_restyle.proofs.FrontLemmas.{plain-rest}
use Rattle.ansi_restyle.proofs.LinkedLemmas.{after-pieces}
use Rattle.ansi_restyle.proofs.MatchLemmas.{matches_in_turn}
use Rattle.ansi_restyle.proofs.PlaceLemmas.{place_of-later, plain-after_place}
use Rattle.ansi_restyle.proofs.RangeLemmas.{are_first, in_turn-within}
use Rattle.ansi_restyle.proofs.ReplacedAllLemmas.{ranges_of-with, with_in_turn}
use Rattle.ansi_restyle.proofs.ReplacedEachLemmas.{plain-up_to_place}
use Rattle.ansi_restyle.proofs.RestyledLemmas.{drop-further}
use Rattle.ansi_restyle.proofs.SafeRangeLemmas.{parts-front, parts-drop, IsMade, made-append, safe_good}
use Rattle.ansi_restyle.proofs.SafeEditLemmas.{rest_good, made-good, made-front, made-sequences}
use Rattle.ansi_restyle.proofs.SafePutLemmas.{IsOpenGood, open_good-through, open_good-at, made-put, up_to_place_good, from_place_good}

goes_on-take : (z : List ℕ) (d m : ℕ) → d ≤ length z → no_character_goes_on z m ≡ true → no_character_goes_on (take d z) m ≡ true
goes_on-take z d m fits good = elim (cases_lt m d) [
  | inl some ↦ (
      let size : length (take d z) ≡ d = length-take-le d z fits in
      sym (no_character_goes_on-append (take d z) (drop d z) m (omega (arith, size, some))) ∙ ap (λ u. no_character_goes_on u m) (take-append-drop d z) ∙ good)
  | inr past ↦ no_character_goes_on-past (take d z) m (omega (arith, length-take d z, past))
]

pub place_after-some : (y : List ℕ) (d : ℕ) → 0 < d → place_after d y ≡ place_of d y
place_after-some y d some =
    let later : (d == 0) ≡ false = grind (arith, nat_tests) in
    ap (λ b. if b then 0 else offset_of y (d - 1) + 1) later ∙ sym (place_of-later y d some)

module _ (links : Links) where
  made-without_front : (y : List ℕ) (m : ℕ) → AreGood links (pieces_of y) → no_character_goes_on (plain y) m ≡ true → IsMade links (without_front m y)
  made-without_front y m good here = made-append links (made-sequences links y m good) (made-good links (rest m y) (rest_good links y m good here))

  -- a text of good pieces in two after its first d plain bytes
  record IsGoodCut (y : List ℕ) (d k : ℕ) : Type 0 where
    pub good_before : AreGood links (pieces_of (take k y))
    pub good_after : AreGood links (pieces_of (drop k y))
    pub plain_before : plain (take k y) ≡ take d (plain y)
    pub plain_after : plain (drop k y) ≡ drop d (plain y)

  good_cut : (y : List ℕ) (d : ℕ) → AreGood links (pieces_of y) → d ≤ length (plain y) → no_character_goes_on (plain y) d ≡ true → parts_line_end (plain y) d ≡ false → IsGoodCut y d (place_after d y)
  good_cut y d good fits here apart = elim (cases_lt 0 d) [
    | inl some ↦ subst (IsGoodCut y d) (sym (place_after-some y d some)) (record {
      good_before = up_to_place_good links y d good fits here apart;
      good_after = from_place_good links y d good fits here;
      plain_before = plain-up_to_place y d;
      plain_after = plain-after_place y d fits;
    })
    | inr none ↦ (
        let zero_is : 0 ≡ d = omega (arith, none) in
        subst (λ e. IsGoodCut y e (place_after e y)) zero_is (record { good_before = tt; good_after = good; plain_before = refl; plain_after = refl }))
  ]

  abbrev pub AreGoodSwaps : List Swap → Type 0
  AreGoodSwaps es = AllByRecursion (λ (e : Swap). AreGood links (pieces_of e.text)) es

  good-with : (w : List ℕ) (rs : List (ℕ × ℕ)) → AreGood links (pieces_of w) → AreGoodSwaps (swaps_with w rs)
  good-with w [] good = tt
  good-with w (r ∷ rs) good = (good, good-with w rs good)

  pub good_swaps : (es : List Swap) → AreUtf8 es → are_safe links es ≡ true → AreGoodSwaps es
  good_swaps [] utf8 safe = tt
  good_swaps (e ∷ es) utf8 safe =
      let both = and_parts (is_safe links e.text) (are_safe links es) safe in
      (safe_good links e.text (pieces_of e.text) (pieces_are e.text) utf8.0 both.0, good_swaps es utf8.1 both.1)

  module _ (x : List ℕ) where
    -- what is left after n plain bytes, m of which are replaced
    each_made : (es : List Swap) (s : Rendition) (l y : List ℕ) (n m : ℕ) → AreGoodSwaps es → IsStyle s → IsOpenGood links l → AreGood links (pieces_of y) → plain y ≡ drop n x → are_in_turn x (n + m) (ranges_of es) ≡ true → no_character_goes_on x (n + m) ≡ true
        → begin_outside_line_ends x (ranges_of es) ≡ true → IsMade links (replaced_from s l n m y es)
    each_made [] s l y n m swaps is linked good there turn good_m outside =
        made-without_front y m good (ap (λ u. no_character_goes_on u m) there ∙ no_character_goes_on-drop x n m ∙ good_m)
    each_made (e ∷ es) s l y n m swaps is linked good there turn good_m outside =
        let r = e.range in
        let rs = ranges_of es in
        let first = are_first x (n + m) r rs turn in
        let both = and_parts (not (parts_line_end x r.0)) (begin_outside_line_ends x rs) outside in
        let begins : n + m ≤ r.0 = first.begins in
        let ends : r.0 ≤ r.1 = first.ends in
        let inside : r.1 ≤ length x = in_turn-within x r.1 rs first.later in
        let d = r.0 - n in
        let from : n ≤ r.0 = omega (arith, begins) in
        let sum : n + d ≡ r.0 = omega (arith, begins) in
        let last : r.1 ≡ r.0 + (r.1 - r.0) = omega (arith, ends) in
        let fits : d ≤ length (plain y) = omega (arith, ap length there, length-drop n x, ends, inside) in
        let here : no_character_goes_on (plain y) d ≡ true
        = ap (λ u. no_character_goes_on u d) there ∙ no_character_goes_on-drop x n d ∙ ap (no_character_goes_on x) sum ∙ first.good_start in
        let apart : parts_line_end (plain y) d ≡ false
        = ap (λ u. parts_line_end u d) there ∙ parts-drop x n d (ap (parts_line_end x) sum ∙ not-true _ both.0) in
        let cut = good_cut y d good fits here apart in
        let before = take (place_after d y) y in
        let after = drop (place_after d y) y in
        let q = style_after_from s before in
        let h = link_after_all l (marks before) in
        let is_q = IsStyle-style_after_from s before is in
        let linked_h : IsOpenGood links h = subst (IsOpenGood links) (sym (after-pieces l before)) (open_good-through links l (pieces_of before) cut.good_before linked) in
        let good_front : no_character_goes_on (plain before) m ≡ true
        = ap (λ u. no_character_goes_on u m) cut.plain_before ∙ goes_on-take (plain y) d m fits (ap (λ u. no_character_goes_on u m) there ∙ no_character_goes_on-drop x n m ∙ good_m) in
        let there_after : plain after ≡ drop r.0 x = cut.plain_after ∙ ap (drop d) there ∙ drop-further x n r.0 from in
        made-append links (made-append links (made-without_front before m cut.good_before good_front) (made-put links q h e.text is_q linked_h swaps.0))
        (each_made es q h after r.0 (r.1 - r.0) swaps.1 is_q linked_h cut.good_after there_after
        (subst (λ j. are_in_turn x j rs ≡ true) last first.later) (ap (no_character_goes_on x) (sym last) ∙ first.good_end) both.1)

  pub safe-replaced_each : (t : List ℕ) (es : List Swap) → IsUtf8 t → is_safe links t ≡ true → AreGoodSwaps es → are_in_turn (plain t) 0 (ranges_of es) ≡ true → begin_outside_line_ends (plain t) (ranges_of es) ≡ true
      → is_safe links (replaced_each t es) ≡ true
  safe-replaced_each t es utf8 safe swaps turn outside =
      let x = plain t in
      let good = safe_good links t (pieces_of t) (pieces_are t) utf8 safe in
      let here : no_character_goes_on x 0 ≡ true = no_character_goes_on-boundary x 0 (IsCharBoundary-start x (IsUtf8-plain t utf8)) in
      let made = made-append links
      (made-front links t 0 good here (parts-front x 0 refl))
      (each_made x es (style_at t 0) (link_at t 0) (rest 0 t) 0 0 swaps (IsStyle-style_at t 0) (open_good-at links t 0 good) (rest_good links t 0 good here) (plain-rest t 0) turn here outside) in
      subst (λ u. is_safe links u ≡ true) made.bytes (good_are_safe links made.pieces made.good)

  pub safe-replaced_all : (t p w : List ℕ) → IsUtf8 t → IsUtf8 p → IsUtf8 w → (is_safe links t && is_safe links w) ≡ true → begin_outside_line_ends (plain t) (matches (plain t) p) ≡ true → is_safe links (replaced_all t p w) ≡ true
  safe-replaced_all t p w utf8 utf8_p utf8_w safe outside =
      let both = and_parts (is_safe links t) (is_safe links w) safe in
      let rs = matches (plain t) p in
      let good_w = safe_good links w (pieces_of w) (pieces_are w) utf8_w both.1 in
      safe-replaced_each t (swaps_with w rs) utf8 both.0 (good-with w rs good_w) (with_in_turn (plain t) w 0 rs (matches_in_turn (plain t) p (IsUtf8-plain t utf8) utf8_p))
      (ap (begin_outside_line_ends (plain t)) (ranges_of-with w rs) ∙ outside)

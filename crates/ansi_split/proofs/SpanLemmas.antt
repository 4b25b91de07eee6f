-- The parts that are left of a text: the first one, which is written from the text up to its end, and those of what follows.
use Rattle.std.specs.Prelude.{◌≢◌}
use Rattle.ansi_split.proofs.Common.{◌≡◌, ℕ, ◌+◌, ◌-◌, ◌≤◌, max, inl, inr, Bool, not, ◌&&◌, ◌||◌, ◌==◌, List, [], ◌∷◌, ◌++◌, length, map, take, drop, Option, Some, None, refl, sym, ◌∙◌, ap, ap₂, subst, arith, IsTrue, if◌then◌else◌, nat_eq, nat_lt, nat_le, length-append, cases_lt, and_parts, and_from, le-leb, nat_tests, length-map, length-drop, length-take-le, get_or-take, take_at, take-append-drop, filter_agree, IsUtf8-drop, IsCharBoundary-from_take, IsCharBoundary-start, starts_with, IsUtf8, pieces_of, Mark, plain, marks, marks_up_to, no_character_goes_on, is_char_boundary, Rendition, has_any, start, close_if_any, after_marks, style_after_from, style_within, interleaved, match_places, first_match_from, without_overlaps, marks_past, CarriedPart, marks_further_on, IsCutAfter, IsCutAtMatch, carried, part_from, parts_from, parts_left, span_part, slice_range-from_past, marks_up_to-marks_past, interleaved-text, IsUtf8-plain, at_places, at_places-further, good_is_boundary, no_character_goes_on-past, is_char_boundary-from, starts_with-splits}
use Rattle.ansi_split.proofs.PartSliceLemmas.{own_places, marks_past-places, at_places-at_places}
use Rattle.ansi_split.proofs.TakenLemmas.{is_first_taken, without_overlaps-none, intervals_between, intervals_between-further, moved_on}

-- The marks of a part.

pub marks_past-none : (ms : List Mark) → marks_past None ms ≡ ms
marks_past-none [] = refl
marks_past-none (m ∷ ms) = ap (λ ks. m ∷ ks) (marks_past-none ms)

-- the first part has all marks up to its end
pub own-whole : (t : List ℕ) → marks_past None (marks_up_to (length (plain t)) (marks t)) ≡ marks t
own-whole t = marks_past-none (marks_up_to (length (plain t)) (marks t)) ∙ marks_up_to-marks_past (length (plain t)) (pieces_of t) (omega arith)

-- the end, in the whole text, of a part of what follows m; before the first part it is m
abbrev moved_end : ℕ → Option ℕ → Option ℕ
moved_end m None = Some m
moved_end m (Some e) = Some (m + e)

-- the marks of a part that is after m, which are those after m that pass a test
own-further : (f : ℕ → Bool) (before later : Option ℕ) (m b : ℕ) (ms ks : List Mark) → ((p : ℕ) → own_places before (m + b) p ≡ (nat_lt m p && f p)) → ((p : ℕ) → f (m + p) ≡ own_places later b p)
    → marks_past (Some m) ms ≡ marks_further_on m ks → marks_past before (marks_up_to (m + b) ms) ≡ marks_further_on m (marks_past later (marks_up_to b ks))
own-further f before later m b ms ks after moved is =
    marks_past-places before (m + b) ms
    ∙ filter_agree (λ (k : Mark). own_places before (m + b) k.place) (λ (k : Mark). nat_lt m k.place && f k.place) (λ k. after k.place) ms
    ∙ sym (at_places-at_places f (λ p. nat_lt m p) ms) ∙ ap (at_places f) is ∙ at_places-further f m ks
    ∙ ap (marks_further_on m) (filter_agree (λ (k : Mark). f (m + k.place)) (λ (k : Mark). own_places later b k.place) (λ k. moved k.place) ks ∙ sym (marks_past-places later b ks))

own-after : (later : Option ℕ) (m b : ℕ) (ms ks : List Mark) → marks_past (Some m) ms ≡ marks_further_on m ks → marks_past (moved_end m later) (marks_up_to (m + b) ms) ≡ marks_further_on m (marks_past later (marks_up_to b ks))
own-after None m b ms ks is = own-further (λ p. nat_le p (m + b)) (Some m) None m b ms ks (λ p. grind (arith, nat_tests)) (λ p. grind (arith, nat_tests)) is
own-after (Some e) m b ms ks is = own-further (own_places (Some (m + e)) (m + b)) (Some (m + e)) (Some e) m b ms ks (λ p. grind (arith, nat_tests)) (λ p. grind (arith, nat_tests)) is

-- A part by what it is made of.

abbrev part_made_of : Bool → ℕ → Rendition → List ℕ → Rendition → CarriedPart
part_made_of same n style shown last = record {
  bytes = if same && n == 0 then [] else start style ++ shown ++ close_if_any last;
  borrowed = n == 0 && (same || not (has_any style));
  source_len = length shown;
}

part_made_of-alike : {same same' : Bool} {n n' : ℕ} {style style' last last' : Rendition} {shown shown' : List ℕ} → same ≡ same' → n ≡ n' → style ≡ style' → shown ≡ shown' → last ≡ last'
    → part_made_of same n style shown last ≡ part_made_of same' n' style' shown' last'
part_made_of-alike {same} {same'} {n} {n'} {style} {style'} {last} {last'} {shown} {shown'} a b c d e =
    ap₂ (λ s k. part_made_of s k style shown last) a b ∙ ap₂ (λ r v. part_made_of same' n' r v last) c d ∙ ap (part_made_of same' n' style' shown') e

part_from-made : (c : Rendition) (t : List ℕ) (before : Option ℕ) (i : ℕ × ℕ) → part_from c t before i
    ≡ part_made_of (i.0 == i.1) (length (marks_past before (marks_up_to i.1 (marks t)))) (carried c t before) (interleaved (plain t) i.0 i.1 (marks_past before (marks_up_to i.1 (marks t)))) (style_within c t i.1)
unfolding part_from
part_from-made c t before i = refl

-- The part up to m, by the front of the text that is cut there.

part-front : (c : Rendition) (t : List ℕ) (skip m : ℕ) (front after : List ℕ) → m ≤ length (plain t) → IsCutAfter t m front after → part_from c t None (skip, m) ≡ span_part c front skip
part-front c t skip m front after inside cut = grind (arith, length-take-le, part_made_of-alike, own-whole, part_from-made, marks_past-none, marks_up_to-marks_past)

-- The parts after m, by the text after the cut.

pub interleaved-after : (x : List ℕ) (m a b : ℕ) (ms : List Mark) → m ≤ length x → interleaved x (m + a) (m + b) (marks_further_on m ms) ≡ interleaved (drop m x) a b ms
interleaved-after x m a b ms inside =
    let w = take m x in
    let size : length w ≡ m = length-take-le m x inside in
    let from : m + a - length w ≡ a = omega (arith, size) in
    let to : m + b - length w ≡ b = omega (arith, size) in
    ap₂ (λ u n. interleaved u (m + a) (m + b) (marks_further_on n ms)) (sym (take-append-drop m x)) (sym size)
    ∙ interleaved-text w (drop m x) (m + a) (m + b) ms
    ∙ ap (λ u. u ++ interleaved (drop m x) (m + a - length w) (m + b - length w) ms) (slice_range-from_past w (m + a) (m + b) (omega (arith, size)))
    ∙ ap₂ (λ i j. interleaved (drop m x) i j ms) from to

carried-after : (c : Rendition) (t : List ℕ) (m : ℕ) (front after : List ℕ) (later : Option ℕ) → IsCutAfter t m front after → carried c t (moved_end m later) ≡ carried (style_within c t m) after later
carried-after c t m front after None cut = refl
carried-after c t m front after (Some e) cut = cut.styles_after_from c e

part-after : (c : Rendition) (t : List ℕ) (m : ℕ) (front after : List ℕ) (later : Option ℕ) (i : ℕ × ℕ) → m ≤ length (plain t) → IsCutAfter t m front after
    → part_from c t (moved_end m later) (moved_on m i) ≡ part_from (style_within c t m) after later i
part-after c t m front after later i inside cut =
    let before = moved_end m later in
    let same : (m + i.0 == m + i.1) ≡ (i.0 == i.1) = grind (arith, nat_tests) in
    let ks = marks_past later (marks_up_to i.1 (marks after)) in
    let own : marks_past before (marks_up_to (m + i.1) (marks t)) ≡ marks_further_on m ks = own-after later m i.1 (marks t) (marks after) cut.marks_after in
    let shown : interleaved (plain t) (m + i.0) (m + i.1) (marks_past before (marks_up_to (m + i.1) (marks t))) ≡ interleaved (plain after) i.0 i.1 ks
    = ap (interleaved (plain t) (m + i.0) (m + i.1)) own ∙ interleaved-after (plain t) m i.0 i.1 ks inside ∙ ap (λ x. interleaved x i.0 i.1 ks) (sym cut.plain_after) in
    part_from-made c t before (moved_on m i)
    ∙ part_made_of-alike same (ap length own ∙ length-map ks _) (carried-after c t m front after later cut) shown (cut.styles_after_from c i.1)
    ∙ sym (part_from-made (style_within c t m) after later i)

parts-after : (c : Rendition) (t : List ℕ) (m : ℕ) (front after : List ℕ) (later : Option ℕ) (is : List (ℕ × ℕ)) → m ≤ length (plain t) → IsCutAfter t m front after
    → parts_from c t (moved_end m later) (map (moved_on m) is) ≡ parts_from (style_within c t m) after later is
parts-after c t m front after later [] inside cut = refl
parts-after c t m front after later (i ∷ is) inside cut = ap₂ (λ p ps. p ∷ ps) (part-after c t m front after later i inside cut) (parts-after c t m front after (Some i.1) is inside cut)

-- The parts that are left: with no match left, what is left is the last one.

pub parts_left-last : (c : Rendition) (t p : List ℕ) (skip from : ℕ) → first_match_from (plain t) p from ≡ None → parts_left c t p skip from ≡ span_part c t skip ∷ []
unfolding parts_left
parts_left-last c t p skip from none =
    ap (λ taken. parts_from c t None (intervals_between (length p) skip (length (plain t)) taken)) (without_overlaps-none (length p) from (match_places (plain t) p) none)

-- There is always one.
between-some : (c : Rendition) (t : List ℕ) (n skip end : ℕ) (taken : List ℕ) → parts_from c t None (intervals_between n skip end taken) ≢ []
between-some c t n skip end [] = λ none. cc
between-some c t n skip end (m ∷ ms) = λ none. cc

pub parts_left-some : (c : Rendition) (t p : List ℕ) (skip from : ℕ) → parts_left c t p skip from ≢ []
unfolding parts_left
parts_left-some c t p skip from = between-some c t (length p) skip (length (plain t)) (without_overlaps (length p) from (match_places (plain t) p))

-- and with one at m, the first is what comes before it.
pub parts_left-first : (c : Rendition) (t p : List ℕ) (skip from : ℕ) (front after : List ℕ) → IsCutAtMatch t p from front after
    → parts_left c t p skip from ≡ span_part c front skip ∷ parts_left (style_after_from c front) after p (length p) (max (length p) 1)
unfolding parts_left
parts_left-first c t p skip from front after at_match =
    let m = at_match.place in
    let found = at_match.first in
    let cut = at_match.cut in
    let x = plain t in
    let n = length p in
    let first = is_first_taken x p from m found in
    let ms = without_overlaps n (max n 1) (match_places (drop m x) p) in
    let size : length x ≡ m + length (drop m x) = omega (arith, first.inside, length-drop m x) in
    let moved : intervals_between n (m + n) (length x) (map (λ k. m + k) ms) ≡ map (moved_on m) (intervals_between n n (length (drop m x)) ms)
    = ap (λ e. intervals_between n (m + n) e (map (λ k. m + k) ms)) size ∙ intervals_between-further n n (length (drop m x)) m ms in
    let style : style_within c t m ≡ style_after_from c front = ap (after_marks c) (sym cut.marks_front) in
    ap (λ taken. parts_from c t None (intervals_between n skip (length x) taken)) first.taken
    ∙ ap₂ (λ p ps. p ∷ ps)
    (part-front c t skip m front after first.inside cut)
    (ap (parts_from c t (Some m)) moved ∙ parts-after c t m front after None (intervals_between n n (length (drop m x)) ms) first.inside cut
    ∙ ap₂ (λ s y. parts_from s after None (intervals_between n n (length y) (without_overlaps n (max n 1) (match_places y p)))) style (sym cut.plain_after))

-- The same parts are left, if the next match is the first from a later place on too.
pub parts_left-again : (c : Rendition) (t p : List ℕ) (skip from later : ℕ) → first_match_from (plain t) p later ≡ first_match_from (plain t) p from → parts_left c t p skip later ≡ parts_left c t p skip from
unfolding parts_left
parts_left-again c t p skip from later same =
    ap (λ taken. parts_from c t None (intervals_between (length p) skip (length (plain t)) taken)) (alike (first_match_from (plain t) p from) refl)
  where
    alike : (r : Option ℕ) → first_match_from (plain t) p from ≡ r → without_overlaps (length p) later (match_places (plain t) p) ≡ without_overlaps (length p) from (match_places (plain t) p)
    alike None none = without_overlaps-none (length p) later (match_places (plain t) p) (same ∙ none) ∙ sym (without_overlaps-none (length p) from (match_places (plain t) p) none)
    alike (Some m) found = (is_first_taken (plain t) p later m (same ∙ found)).taken ∙ sym (is_first_taken (plain t) p from m found).taken

-- The plain bytes that are left out end with a character.

pub skip_at_front : (t : List ℕ) → IsUtf8 t → IsTrue (is_char_boundary (plain t) 0)
skip_at_front t utf8 = is_char_boundary-from (plain t) 0 (IsCharBoundary-start (plain t) (IsUtf8-plain t utf8))

pub skip_in_front : (t p : List ℕ) (skip from : ℕ) (front after : List ℕ) → IsCutAtMatch t p from front after → skip ≤ from → IsTrue (is_char_boundary (plain t) skip) → IsTrue (is_char_boundary (plain front) skip)
skip_in_front t p skip from front after at_match before boundary =
    let m = at_match.place in
    let found = at_match.first in
    let cut = at_match.cut in
    let x = plain t in
    let first = is_first_taken x p from m found in
    let size : length (take m x) ≡ m = length-take-le m x first.inside in
    let good = (and_parts (nat_le skip (length x)) (no_character_goes_on x skip) boundary).1 in
    ap (λ y. is_char_boundary y skip) cut.plain_front
    ∙ and_from _ _ (le-leb skip (length (take m x)) (omega (arith, size, before, first.at))) (elim (cases_lt skip m) [
      | inl inside ↦ ap (λ b. no_character_goes_on (b ∷ []) 0) (get_or-take m x skip 0 inside) ∙ good
      | inr end ↦ no_character_goes_on-past (take m x) skip (omega (arith, size, end))
    ])

match_end-boundary : (t p : List ℕ) (from m : ℕ) (front after : List ℕ) → IsUtf8 t → IsUtf8 p → first_match_from (plain t) p from ≡ Some m → IsCutAfter t m front after
    → IsTrue (is_char_boundary (plain after) (length p))
match_end-boundary t p from m front after utf8 utf8_p found cut =
    let x = plain t in
    let first = is_first_taken x p from m found in
    let both = and_parts (is_char_boundary x m) (starts_with nat_eq (drop m x) p) first.matches in
    let at = good_is_boundary x m first.inside (and_parts (nat_le m (length x)) (no_character_goes_on x m) both.0).1 in
    let y = drop m x in
    let stands : y ≡ p ++ drop (length p) y = starts_with-splits y p both.1 in
    let part : take (length p) y ≡ p = ap (take (length p)) stands ∙ take_at p (drop (length p) y) (length p) refl in
    let fits : length p ≤ length y = omega (arith, ap length stands, length-append p (drop (length p) y)) in
    ap (λ u. is_char_boundary u (length p)) cut.plain_after
    ∙ is_char_boundary-from y (length p) (IsCharBoundary-from_take y (length p) (IsUtf8-drop x m (IsUtf8-plain t utf8) at) fits (subst IsUtf8 (sym part) utf8_p))

pub is_cut_at_match : (t p : List ℕ) (from m : ℕ) (front after : List ℕ) → IsUtf8 t → IsUtf8 p → first_match_from (plain t) p from ≡ Some m → IsCutAfter t m front after
    → IsCutAtMatch t p from front after
is_cut_at_match t p from m front after utf8 utf8_p found cut = record { place = m; first = found; cut = cut; match_end = match_end-boundary t p from m front after utf8 utf8_p found cut }

-- a match is at a good position
pub match_is_good : (x p : List ℕ) (from m : ℕ) → first_match_from x p from ≡ Some m → IsTrue (no_character_goes_on x m)
match_is_good x p from m found =
    let first = is_first_taken x p from m found in
    (and_parts (nat_le m (length x)) (no_character_goes_on x m) (and_parts (is_char_boundary x m) (starts_with nat_eq (drop m x) p) first.matches).0).1

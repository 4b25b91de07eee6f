-- How far a walk over the matches of a pattern has come, each written when it is found, and what a step is to it.
use Rattle.std.proofs.Common.{◌≡◌, ℕ, ◌+◌, ◌-◌, ◌<◌, Option, List, [], ◌∷◌, ◌++◌, length, map, drop, Some, None, refl, sym, ◌∙◌, ap, ap₂, subst, arith, IsTrue, append_assoc}
use Rattle.std.specs.Str.{IsUtf8}
use Rattle.std.proofs.lemmas.List.{length-drop, drop-drop}
use Rattle.std.proofs.lemmas.Str.{IsUtf8-drop}
use Rattle.ansi_items.specs.Pieces.{pieces_of}
use Rattle.ansi_items.specs.Plain.{plain}
use Rattle.ansi_items.proofs.Utf8Lemmas.{IsUtf8-plain}
use Rattle.ansi_style.specs.declared.state.rendition.Rendition.{Rendition}
use Rattle.ansi_style.specs.Rendition.{plain_style}
use Rattle.ansi_style.specs.Reading.{style_within}
use Rattle.ansi_search.specs.Positions.{no_character_goes_on}
use Rattle.ansi_search.specs.Matches.{match_places, first_match_from}
use Rattle.ansi_search.proofs.PositionLemmas.{no_character_goes_on-drop, no_character_goes_on-boundary}
use Rattle.ansi_split.specs.Parts.{without_overlaps}
use Rattle.ansi_restyle.specs.Matches.{matches, matches_left}
use Rattle.ansi_restyle.specs.Rests.{IsAtMatch}
use Rattle.ansi_restyle.specs.Restyled.{front, rest, changed_pieces, restyled_from, restyled}
use Rattle.ansi_restyle.proofs.FrontLemmas.{plain-rest}
use Rattle.ansi_restyle.proofs.MatchLemmas.{matches-after, matches-none, match_ends_within, match_ends_boundary}

-- What is written, and what is made of the text that is left, are all. The next match is the first in that text.
pub record IsMarkedSoFar (whole done w : List ℕ) (style : Rendition) (text p : List ℕ) (next : Option ℕ) : Type 0 where
  pub so_far : done ++ restyled_from w style 0 text (matches (plain text) p) ≡ whole
  pub utf8 : IsUtf8 (plain text)
  pub is_next : next ≡ first_match_from (plain text) p 0

-- ranges of a text and ranges further on, in a text that begins further on
restyled-further : (w : List ℕ) (s : Rendition) (n e : ℕ) (t p ms : List ℕ) → restyled_from w s (n + e) t (map (λ m. (n + m, n + m + length p)) ms) ≡ restyled_from w s e t (map (λ m. (m, m + length p)) ms)
restyled-further w s n e t p [] = refl
restyled-further w s n e t p (m ∷ ms) =
    let before : n + m - (n + e) ≡ m - e = omega arith in
    let within : n + m + length p - (n + m) ≡ m + length p - m = omega arith in
    let place : n + m + length p ≡ n + (m + length p) = omega arith in
    let later : List (ℕ × ℕ) = map (λ k. (n + k, n + k + length p)) ms in
    let b = m - e in
    let l = m + length p - m in
    let there = style_within s t b in
    let here = rest b t in
    ap₂ (λ i j. front i t ++ changed_pieces w (style_within s t i) (pieces_of (front j (rest i t))) ++ restyled_from w (style_within (style_within s t i) (rest i t) j) (n + m + length p) (rest j (rest i t)) later) before within
    ∙ ap (λ u. front b t ++ changed_pieces w there (pieces_of (front l here)) ++ u)
    (ap (λ k. restyled_from w (style_within there here l) k (rest l here) later) place ∙ restyled-further w (style_within there here l) n (m + length p) (rest l here) p ms)

module _ {whole done w text p : List ℕ} {style : Rendition} {next : Option ℕ} (way : IsMarkedSoFar whole done w style text p next) (m : ℕ) (is : next ≡ Some m) where
  found : first_match_from (plain text) p 0 ≡ Some m
  found = sym way.is_next ∙ is

  plain-left : plain (rest (length p) (rest m text)) ≡ drop (m + length p) (plain text)
  plain-left = plain-rest (rest m text) (length p) ∙ ap (drop (length p)) (plain-rest text m) ∙ drop-drop (length p) m (plain text)

  pub match_end : IsUtf8 p → IsTrue (no_character_goes_on (plain (rest m text)) (length p))
  match_end utf8_p =
      ap (λ x. no_character_goes_on x (length p)) (plain-rest text m) ∙ no_character_goes_on-drop (plain text) m (length p)
      ∙ no_character_goes_on-boundary (plain text) (m + length p) (match_ends_boundary (plain text) p 0 m way.utf8 utf8_p found)

  -- less is left
  pub less_left : {last : List ℕ} → 0 < length p → last ≡ rest (length p) (rest m text) → length (plain last) < length (plain text)
  less_left {last} filled is_last =
      let len : length (plain last) ≡ length (drop (m + length p) (plain text)) = ap (λ t. length (plain t)) is_last ∙ ap length plain-left in
      omega (arith, len, length-drop (m + length p) (plain text), match_ends_within (plain text) p 0 m found, filled)

  -- over the match
  pub marked-step : {done_1 last : List ℕ} {end : Rendition} {after : Option ℕ} → 0 < length p → IsUtf8 p
      → done_1 ≡ done ++ (front m text ++ changed_pieces w (style_within style text m) (pieces_of (front (length p) (rest m text))))
      → end ≡ style_within (style_within style text m) (rest m text) (length p) → last ≡ rest (length p) (rest m text) → after ≡ first_match_from (plain last) p 0
      → IsMarkedSoFar whole done_1 w end last p after
  marked-step {done_1} {last} {end} {after} filled utf8_p wrote is_end is_last is_after =
      let x = plain text in
      let d = length p in
      let here = rest m text in
      let there = style_within style text m in
      let ending = style_within there here d in
      let left = rest d here in
      let ms = without_overlaps d 0 (match_places (drop (m + d) x) p) in
      let later : List (ℕ × ℕ) = matches_left (m + d) (drop (m + d) x) p 0 in
      let changed = changed_pieces w there (pieces_of (front d here)) in
      let before : m - 0 ≡ m = omega arith in
      let within : m + d - m ≡ d = omega arith in
      let place : m + d ≡ m + d + 0 = omega arith in
      let tail : restyled_from w ending (m + d) left later ≡ restyled_from w ending 0 left (matches (plain left) p)
      = ap (λ k. restyled_from w ending k left later) place ∙ restyled-further w ending (m + d) 0 left p ms ∙ ap (λ z. restyled_from w ending 0 left (matches z p)) (sym plain-left) in
      let all : restyled_from w style 0 text (matches x p) ≡ front m text ++ changed ++ restyled_from w ending 0 left (matches (plain left) p)
      = ap (restyled_from w style 0 text) (matches-after x p m filled found)
      ∙ ap₂ (λ i j. front i text ++ changed_pieces w (style_within style text i) (pieces_of (front j (rest i text))) ++ restyled_from w (style_within (style_within style text i) (rest i text) j) (m + d) (rest j (rest i text)) later) before within
      ∙ ap (λ u. front m text ++ changed ++ u) tail in
      record {
        so_far =
            ap₂ (λ u v. u ++ v) wrote (ap₂ (λ s t. restyled_from w s 0 t (matches (plain t) p)) is_end is_last)
            ∙ append_assoc done (front m text ++ changed) (restyled_from w ending 0 left (matches (plain left) p))
            ∙ ap (λ l. done ++ l) (sym all) ∙ way.so_far;
        utf8 = subst IsUtf8 (sym (ap plain is_last ∙ plain-left)) (IsUtf8-drop x (m + d) way.utf8 (match_ends_boundary x p 0 m way.utf8 utf8_p found));
        is_next = is_after;
      }

-- no match is left
pub marked-end : {whole done w text p new : List ℕ} {style : Rendition} {next : Option ℕ} → IsMarkedSoFar whole done w style text p next → next ≡ None → new ≡ done ++ text → new ≡ whole
marked-end {done = done} {w = w} {text = text} {p = p} {style = style} way none wrote =
    wrote ∙ ap (λ l. done ++ restyled_from w style 0 text l) (sym (matches-none (plain text) p (sym way.is_next ∙ none))) ∙ way.so_far

-- A text in two at the first match.
module _ {whole done w text p f r : List ℕ} {style there : Rendition} (way : IsMarkedSoFar whole done w style text p (first_match_from (plain text) p 0)) (at : IsAtMatch text p f r style there) where
  -- no character goes on where the match ends
  pub at_match_end : IsUtf8 p → IsTrue (no_character_goes_on (plain r) (length p))
  at_match_end utf8_p = subst (λ u. IsTrue (no_character_goes_on (plain u) (length p))) (sym at.divided.rest_is) (match_end way at.place at.first utf8_p)

  -- less is left
  pub at_match_less : {last : List ℕ} → 0 < length p → last ≡ rest (length p) r → length (plain last) < length (plain text)
  at_match_less {last} filled is_last = less_left way at.place at.first filled (is_last ∙ ap (rest (length p)) at.divided.rest_is)

  -- over the match
  pub at_match_step : {done_1 done_2 last : List ℕ} {end : Rendition} → 0 < length p → IsUtf8 p → done_1 ≡ done ++ f → done_2 ≡ done_1 ++ changed_pieces w there (pieces_of (front (length p) r))
      → end ≡ style_within there r (length p) → last ≡ rest (length p) r → IsMarkedSoFar whole done_2 w end last p (first_match_from (plain last) p 0)
  at_match_step {done_1} {done_2} {last} {end} filled utf8_p wrote_front wrote is_end is_last =
      let d = length p in
      let changed = changed_pieces w there (pieces_of (front d r)) in
      marked-step way at.place at.first filled utf8_p
      (wrote ∙ ap (λ u. u ++ changed) wrote_front ∙ append_assoc done f changed
      ∙ ap (λ v. done ++ v) (ap₂ (λ a b. a ++ b) at.divided.front_is (ap₂ (λ s u. changed_pieces w s (pieces_of (front d u))) at.style at.divided.rest_is)))
      (is_end ∙ ap₂ (λ s u. style_within s u d) at.style at.divided.rest_is) (is_last ∙ ap (rest d) at.divided.rest_is) refl

-- a walk begins
pub marked-begin : (done w text p : List ℕ) → IsUtf8 text → IsMarkedSoFar (done ++ restyled text w (matches (plain text) p)) done w plain_style text p (first_match_from (plain text) p 0)
marked-begin done w text p utf8 = record { so_far = refl; utf8 = IsUtf8-plain text utf8; is_next = refl }

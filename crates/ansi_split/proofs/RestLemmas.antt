-- A run of plain text at the front of a text, and a match that begins in it.
use Rattle.ansi_split.proofs.Common.{◌≡◌, ◌≢◌, ℕ, ◌+◌, ◌-◌, ◌<◌, ◌≤◌, inl, inr, false, List, [], ◌∷◌, ◌++◌, length, take, drop, Option, Some, None, refl, sym, ◌∙◌, ap, ap₂, subst, arith, IsFalse, is_some, slice_index, length-append, nat_eq, unwrap_or, or_parts, and_parts, cases_lt, eq-eqb, eqb-true, take_all, IsCharBoundary-end, take-append-drop, take-take, drop-drop, length-take-le, length-drop, get_or-drop, get_or_append_left, list_any-append, starts_with, IsUtf8, IsCharBoundary, Nowhere, NoneBefore, IsFirst, Passes, is_byte, escape, Piece, Text, after_text, pieces_of, ArePieces, plain, has_escape, Rendition, after_marks, style_after_from, is_char_boundary, no_character_goes_on, first_match_from, IsCutAtMatch, pieces_are, all_plain_bytes, has_escape-bare, plain-bare, none_at_end, marks-bare, IsMatch, match_fits, first_in_front, is_match-front, first_match_from-first, first_match_from-is, starts_with-splits, bytes_before, bytes_before-last, no_character_goes_on-append, good_is_boundary}
use Rattle.std.specs.Prelude.{◌==◌}
use Rattle.std.specs.List.{slice_range}
use Rattle.ansi_split.proofs.AfterLemmas.{drop-take, is_cut_after}
use Rattle.ansi_split.proofs.SpanLemmas.{is_cut_at_match, match_is_good}
use Rattle.ansi_split.proofs.TakenLemmas.{is_first_taken}
use Rattle.std.proofs.lemmas.Str.{IsCharBoundary-before_ascii}
use Rattle.ansi_search.proofs.PrefixLemmas.{bare_before}
use Rattle.ansi_search.proofs.MatchLemmas.{no_escape-found}
use Rattle.ansi_items.proofs.JoinLemmas.{pieces_of-run, plain-front}

-- A run at the front joins the text after it.

bytes_before-after_text : (e : ℕ) (w : List ℕ) (ps : List Piece) → e < length w → bytes_before e (after_text w ps) ≡ e
bytes_before-after_text e w (Text v ∷ ps) inside = bytes_before-last e (w ++ v) ps (omega (arith, length-append w v))
bytes_before-after_text e w ps inside = bytes_before-last e w ps inside

nonempty_if_within : (w : List ℕ) (k : ℕ) → k < length w → w ≢ []
nonempty_if_within [] k inside = absurd (omega arith)
nonempty_if_within (b ∷ w) k inside = λ e. cc

-- The first match from a place on, if it may be looked for from a later one.

first_match_from-later : (x p : List ℕ) (from k : ℕ) → from ≤ k → Nowhere (IsMatch x p) from k → first_match_from x p k ≡ first_match_from x p from
first_match_from-later x p from k before none = first_match_from-is x p from (first_match_from x p k) (widened (first_match_from x p k) (first_match_from-first x p k))
  where
    not_before : (j : ℕ) → Nowhere (IsMatch x p) k j → Nowhere (IsMatch x p) from j
    not_before j later i low high match = elim (cases_lt i k) [ inl front ↦ none i low front match | inr after ↦ later i after high match ]

    widened : (r : Option ℕ) → IsFirst (IsMatch x p) k (length x + 1) r → IsFirst (IsMatch x p) from (length x + 1) r
    widened None later = not_before (length x + 1) later
    widened (Some m) later =
        let found : NoneBefore (IsMatch x p) k (length x + 1) m = later.0 in
        let low : k ≤ m = found.low in
        (record { low = omega (arith, before, low); high = found.high; before = not_before m found.before }, later.1)

first_match_from-again : (x p : List ℕ) (from m : ℕ) → first_match_from x p from ≡ Some m → first_match_from x p m ≡ Some m
first_match_from-again x p from m found =
    let first = subst (IsFirst (IsMatch x p) from (length x + 1)) found (first_match_from-first x p from) in
    let one : NoneBefore (IsMatch x p) from (length x + 1) m = first.0 in
    sym (first_match_from-is x p m (Some m) (record { low = omega arith; high = one.high; before = λ k low high. absurd (omega (arith, low, high)) }, first.1))

-- the first start in a run is the first from there on
pub first_match_from-match : (x p : List ℕ) (from m : ℕ) → first_match_from x p from ≡ Some m → first_match_from x p m ≡ first_match_from x p from
first_match_from-match x p from m found = first_match_from-again x p from m found ∙ sym found

-- A match that begins in the run, which is a front of x.

-- a search of the run alone finds it
pub start_in_run : (t w p : List ℕ) (run from start : ℕ) → w ≡ take run t → IsFalse (has_escape (take run t)) → IsFirst (IsMatch w p) from (length w) (Some start) → first_match_from (plain t) p from ≡ Some start
start_in_run t w p run from start is none first =
    let y = plain (drop run t) in
    let front = first_in_front w y p from start (fits p first) first in
    let found : NoneBefore (IsMatch (w ++ y) p) from (length w) start = front.0 in
    let high : start < length w = found.high in
    ap (λ v. first_match_from v p from) (plain-front t w run is none)
    ∙ sym (first_match_from-is (w ++ y) p from (Some start) (record { low = found.low; high = omega (arith, high, length-append w y); before = found.before }, front.1))
  where
    fits : (q : List ℕ) → IsFirst (IsMatch w q) from (length w) (Some start) → start + length q ≤ length w
    fits [] one = (let high = one.0.high in omega (arith, high))
    fits (b ∷ q) one = match_fits w (b ∷ q) start (omega arith) one.1

-- no first byte of p among the last bytes of the run: no match goes on after it
pub ends_in_run : (w p tail : List ℕ) (first start : ℕ) (r : Option ℕ) → 0 < length p → first ≡ slice_index p 0 → start ≡ length w + 1 - length p → tail ≡ drop start w
    → IsFirst (Passes (is_byte first) tail) 0 (length tail) r → is_some r ≡ false → (y : List ℕ) (i : ℕ) → i < length w → IsMatch (w ++ y) p i → i + length p ≤ length w
ends_in_run w p tail first start (Some k) some byte begins is found none = absurd (cc none)
ends_in_run w p tail first start None some byte begins is found none = λ y i inside match. elim (cases_lt (length w) (i + length p)) [
  | inl over ↦ (
      let stands : drop i (w ++ y) ≡ p ++ drop (length p) (drop i (w ++ y))
      = starts_with-splits (drop i (w ++ y)) p (and_parts (is_char_boundary (w ++ y) i) (starts_with nat_eq (drop i (w ++ y)) p) match).1 in
      let here : i + 0 ≡ i = omega arith in
      let sum : start + (i - start) ≡ i = omega (arith, begins, over) in
      let size : length tail ≡ length w - start = ap length is ∙ length-drop start w in
      let at : slice_index tail (i - start) ≡ first
      = ap (λ v. slice_index v (i - start)) is ∙ get_or-drop start w (i - start) 0 ∙ ap (slice_index w) sum
      ∙ sym (get_or_append_left w y 0 i inside) ∙ ap (slice_index (w ++ y)) (sym here) ∙ sym (get_or-drop i (w ++ y) 0 0)
      ∙ ap (λ v. slice_index v 0) stands ∙ get_or_append_left p (drop (length p) (drop i (w ++ y))) 0 0 some ∙ sym byte in
      absurd (found (i - start) (omega arith) (omega (arith, size, sum, inside, begins)) (eq-eqb (slice_index tail (i - start)) first at)))
  | inr fits ↦ omega (arith, fits)
]

-- if each match that begins in the run ends in it, and none begins there from a place on, the first match from that place on is the first after the run
pub start_after_run : (t w p : List ℕ) (run from : ℕ) → w ≡ take run t → IsFalse (has_escape (take run t)) → run ≤ length t → from ≤ run
    → ((y : List ℕ) (i : ℕ) → i < length w → IsMatch (w ++ y) p i → i + length p ≤ length w) → Nowhere (IsMatch w p) from (length w) → first_match_from (plain t) p run ≡ first_match_from (plain t) p from
start_after_run t w p run from is bare inside before fits none =
    let y = plain (drop run t) in
    let x = plain-front t w run is bare in
    let size : length w ≡ run = ap length is ∙ length-take-le run t inside in
    ap₂ (λ v k. first_match_from v p k) x (sym size)
    ∙ first_match_from-later (w ++ y) p from (length w) (omega (arith, size, before)) (λ i low high match. none i low high (sym (is_match-front w y p i high (fits y i high match)) ∙ match))
    ∙ ap (λ v. first_match_from v p from) (sym x)

-- the first match of all, or a place past the end if there is none
pub first_or_past : (x p : List ℕ) (from past : ℕ) → length x < past → first_match_from x p (unwrap_or (first_match_from x p from) past) ≡ first_match_from x p from
first_or_past x p from past below = by_match (first_match_from x p from) refl
  where
    by_match : (r : Option ℕ) → first_match_from x p from ≡ r → first_match_from x p (unwrap_or r past) ≡ r
    by_match None none = sym (first_match_from-is x p past None (λ k low high. absurd (omega (arith, low, high, below))))
    by_match (Some m) found = first_match_from-again x p from m found

pub first_or_past_later : (x p : List ℕ) (from past : ℕ) → from ≤ past → from ≤ unwrap_or (first_match_from x p from) past
first_or_past_later x p from past below = by_match (first_match_from x p from) refl
  where
    by_match : (r : Option ℕ) → first_match_from x p from ≡ r → from ≤ unwrap_or r past
    by_match None none = below
    by_match (Some m) found = (let first = is_first_taken x p from m found in first.at)

-- no match of a pattern that isn't empty begins at the end
pub no_match_past : (t p : List ℕ) (later : ℕ) → IsFalse (has_escape t) → 0 < length p → length t ≤ later → first_match_from (plain t) p later ≡ None
no_match_past t p later none some past =
    let size : length (plain t) ≡ length t = ap length (plain-bare t none) in
    sym (none_at_end (plain t) p later (length (plain t)) refl (λ empty. absurd (omega (arith, some, empty))) (λ k low high. absurd (omega (arith, low, high, size, past))))

pub here_or_past : (r : Option ℕ) (past run : ℕ) → run ≤ past → unwrap_or r past < run → r ≡ Some (unwrap_or r past)
here_or_past None past run top below = absurd (omega (arith, top, below))
here_or_past (Some m) past run top below = refl

-- A text that is cut in the run at its front.

pub no_escape-parts : (n : ℕ) (w : List ℕ) → IsFalse (has_escape w) → (has_escape (take n w) ≡ false) × (has_escape (drop n w) ≡ false)
no_escape-parts n w none = or_parts _ _ (sym (list_any-append (λ b. b == escape) (take n w) (drop n w)) ∙ ap has_escape (take-append-drop n w) ∙ none)

pub no_escape-take : (t : List ℕ) (start run : ℕ) → start ≤ run → IsFalse (has_escape (take run t)) → has_escape (take start t) ≡ false
no_escape-take t start run before none = ap has_escape (sym (take-take start run t before)) ∙ (no_escape-parts start (take run t) none).0

pub cut_in_run : (t p : List ℕ) (from run start : ℕ) → IsUtf8 t → IsUtf8 p → run ≤ length t → IsFalse (has_escape (take run t)) → start < run → first_match_from (plain t) p from ≡ Some start
    → IsCutAtMatch t p from (take start t) (drop start t)
cut_in_run t p from run start utf8 utf8_p inside none before found =
    let w = take run t in
    let rest = drop run t in
    let size : length w ≡ run = length-take-le run t inside in
    let pieces : pieces_of t ≡ after_text w (pieces_of rest)
    = ap pieces_of (sym (take-append-drop run t)) ∙ pieces_of-run w rest (nonempty_if_within w start (omega (arith, size, before))) (all_plain_bytes w none) in
    is_cut_at_match t p from start (take start t) (drop start t) utf8 utf8_p found
    (is_cut_after t start start (sym (ap (bytes_before start) pieces ∙ bytes_before-after_text start w (pieces_of rest) (omega (arith, size, before)))))

pub match_boundary_in_run : (t p : List ℕ) (from run start : ℕ) → run ≤ length t → IsFalse (has_escape (take run t)) → start < run → first_match_from (plain t) p from ≡ Some start → IsCharBoundary t start
match_boundary_in_run t p from run start inside none before found =
    let w = take run t in
    let size : length w ≡ run = length-take-le run t inside in
    let at : start < length w = omega (arith, size, before) in
    good_is_boundary t start (omega (arith, inside, before))
    (ap (λ v. no_character_goes_on v start) (sym (take-append-drop run t)) ∙ no_character_goes_on-append w (drop run t) start at
    ∙ sym (no_character_goes_on-append w (plain (drop run t)) start at) ∙ ap (λ v. no_character_goes_on v start) (sym (plain-front t w run refl none))
    ∙ match_is_good (plain t) p from start found)

-- nothing in it changes the style
pub style-bare : (c : Rendition) (front : List ℕ) → IsFalse (has_escape front) → style_after_from c front ≡ c
style-bare c front none = ap (after_marks c) (marks-bare front none)

-- The run at the front of a text, up to its first ESC or its end.

pub run_ends : (t : List ℕ) (r : Option ℕ) → IsFirst (Passes (is_byte escape) t) 0 (length t) r → IsCharBoundary t (unwrap_or r (length t))
run_ends t None none = IsCharBoundary-end t
run_ends t (Some n) first =
    let found : NoneBefore (Passes (is_byte escape) t) 0 (length t) n = first.0 in
    let high : n < length t = found.high in
    let is : slice_index t n ≡ escape = eqb-true (slice_index t n) escape first.1 in
    IsCharBoundary-before_ascii t n high (omega (arith, is))

pub run_is_plain : (t : List ℕ) (r : Option ℕ) → IsFirst (Passes (is_byte escape) t) 0 (length t) r → IsFalse (has_escape (take (unwrap_or r (length t)) t))
run_is_plain t None none = ap has_escape (take_all (length t) t (omega arith)) ∙ no_escape-found t none
run_is_plain t (Some n) first =
    let found : NoneBefore (Passes (is_byte escape) t) 0 (length t) n = first.0 in
    let high : n < length t = found.high in
    let all = take_all (length t) t (omega arith) in
    bare_before t (length t) n (omega (arith, high)) (omega (arith, high)) (λ k low below passes. found.before k low below (subst (λ v. Passes (is_byte escape) v k) all passes))

-- What is left of the run after a place in it.

pub boundary-drop : (t : List ℕ) (place run : ℕ) → place ≤ run → IsCharBoundary t run → IsCharBoundary (drop place t) (run - place)
boundary-drop t place run before boundary = grind (arith, get_or-drop, length-drop)

pub no_escape-drop : (t : List ℕ) (place run : ℕ) → IsFalse (has_escape (take run t)) → IsFalse (has_escape (take (run - place) (drop place t)))
no_escape-drop t place run none = ap has_escape (sym (drop-take place run t)) ∙ (no_escape-parts place (take run t) none).1

-- what follows a place in a run that is further on
pub no_escape-later : (t : List ℕ) (begin end ahead : ℕ) → IsFalse (has_escape (slice_range t begin end)) → IsFalse (has_escape (take (end - (begin + ahead)) (drop (begin + ahead) t)))
no_escape-later t begin end ahead none =
    let size : end - (begin + ahead) ≡ end - begin - ahead = omega arith in
    ap has_escape (ap₂ (λ n v. take n v) size (sym (drop-drop ahead begin t))) ∙ no_escape-drop (drop begin t) ahead (end - begin) none

-- The first piece, if it is a text.
pub no_escape-text : (t w : List ℕ) (ps : List Piece) → pieces_of t ≡ Text w ∷ ps → IsFalse (has_escape w)
no_escape-text t w ps first = has_escape-bare w (subst (ArePieces t) first (pieces_are t)).2.1

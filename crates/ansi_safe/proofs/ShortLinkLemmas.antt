-- How long the link at a place of a safe text is.
use Rattle.std.proofs.Common.{◌≡◌, ℕ, ◌+◌, ◌-◌, ◌≤◌, Bool, true, false, not, ◌&&◌, ◌||◌, List, [], ◌∷◌, length, map, filter, drop, nat_eq, nat_lt, nat_le, Some, None, is_some, unwrap_or, codes, if◌then◌else◌, refl, sym, ◌∙◌, ap, arith, length-take}
use Rattle.std.specs.List.{list_all, starts_with}
use Rattle.std.specs.Prelude.{fold}
use Rattle.std.proofs.lemmas.Bool.{and_from, and_parts, ltb-true}
use Rattle.std.proofs.lemmas.Bool.Decides.{nat_tests}
use Rattle.std.proofs.lemmas.List.{length-drop}
use Rattle.std.proofs.lemmas.List.Folds.{list_all-map}
use Rattle.ansi_items.specs.Pieces.{Piece, Text, Sequence, LoneEscape, pieces_of}
use Rattle.ansi_items.specs.Plain.{Mark, marks_of, marks, marks_up_to}
use Rattle.ansi_items.specs.Sequences.{is_sgr}
use Rattle.ansi_style.proofs.MarkLemmas.{mark_further_on, marks_of-text, marks_of-mark}
use Rattle.ansi_safe.specs.declared.policy.Links.{Links}
use Rattle.ansi_safe.specs.Links.{longest_address, longest_parameters, longest_link, terminator_len, fields_of, parameters_len, address_of, is_link, is_short_link, opens_link, link_of, link_after, link_at}
use Rattle.ansi_safe.specs.Safe.{keeps_links, is_clean_link, may_stay, is_safe}
use Rattle.ansi_safe.proofs.LinkLemmas.{is_link-sgr, link_of-fold}

-- A short link has at most `longest_link` bytes.

some_address : (b c : Bool) (x : List ℕ) → is_some (if b && c then Some x else None) ≡ true → (c ≡ true) × (unwrap_or (if b && c then Some x else None) [] ≡ x)
some_address true true x is = (refl, refl)
some_address true false x is = absurd (cc is)
some_address false c x is = absurd (cc is)

one_or_two : (b : Bool) → (if b then 1 else 2) ≤ 2
one_or_two true = omega arith
one_or_two false = omega arith

at_most : (n m : ℕ) → nat_le n m ≡ true → n ≤ m
at_most n m is = grind (arith, nat_tests)

length-short_link : (w : List ℕ) → is_short_link w ≡ true → length w ≤ longest_link
length-short_link w short =
    let p = parameters_len w in
    let fields = fields_of w in
    let end = length w - terminator_len w in
    let fit = and_parts (is_link w) (nat_le p longest_parameters && nat_le (length (unwrap_or (address_of w) [])) longest_address) short in
    let both = and_parts (nat_le p longest_parameters) (nat_le (length (unwrap_or (address_of w) [])) longest_address) fit.1 in
    let found = some_address (starts_with nat_eq w (codes "\u{1b}]8;")) (nat_lt p (length fields)) (drop (p + 1) fields) fit.0 in
    let size : length fields ≡ end - 4 = omega (arith, length-take (end - 4) (drop 4 w), length-drop 4 w) in
    let own : length (unwrap_or (address_of w) []) ≡ length fields - (p + 1) = ap length found.1 ∙ length-drop (p + 1) fields in
    omega (
      arith,
      size,
      own,
      ltb-true p (length fields) found.0,
      at_most p longest_parameters both.0,
      at_most (length (unwrap_or (address_of w) [])) longest_address both.1,
      two w,
    )
  where
    two : (w : List ℕ) → terminator_len w ≤ 2
    two w = one_or_two _

-- So has each link sequence of a safe text, and each link that is open after some of its marks.

abbrev short_mark : Mark → Bool
short_mark m = not (is_link m.bytes) || nat_le (length m.bytes) longest_link

short-mark : (links : Links) (w : List ℕ) → may_stay links (Sequence w) ≡ true → (not (is_link w) || nat_le (length w) longest_link) ≡ true
short-mark links w stays = by (is_sgr w) (keeps_links links) (is_clean_link w) (is_link w) refl refl refl stays
  where
    within : length w ≤ longest_link → nat_le (length w) longest_link ≡ true
    within less = grind (arith, nat_tests)

    by : (s k c l : Bool) → is_sgr w ≡ s → is_clean_link w ≡ c → is_link w ≡ l → (s || (k && c)) ≡ true → (not l || nat_le (length w) longest_link) ≡ true
    by s k c false sgr clean link stays = refl
    by true k c true sgr clean link stays = absurd (let no : false ≡ true = sym (is_link-sgr w sgr) ∙ link in cc no)
    by false true true true sgr clean link stays = within (length-short_link w (and_parts (is_short_link w) _ clean).0)
    by false true false true sgr clean link stays = absurd (cc stays)
    by false false c true sgr clean link stays = absurd (cc stays)

short-marks_of : (links : Links) (ps : List Piece) → list_all (may_stay links) ps ≡ true → list_all short_mark (marks_of ps) ≡ true
short-marks_of links [] safe = refl
short-marks_of links (Text w ∷ ps) safe =
    ap (list_all short_mark) (marks_of-text w ps) ∙ list_all-map short_mark (mark_further_on (length w)) (marks_of ps)
    ∙ short-marks_of links ps (and_parts (may_stay links (Text w)) (list_all (may_stay links) ps) safe).1
short-marks_of links (Sequence w ∷ ps) safe =
    let both = and_parts (may_stay links (Sequence w)) (list_all (may_stay links) ps) safe in
    ap (list_all short_mark) (marks_of-mark (Sequence w) ps refl) ∙ and_from _ _ (short-mark links w both.0) (short-marks_of links ps both.1)
short-marks_of links (LoneEscape ∷ ps) safe = absurd (cc safe)

short-filter : (test : Mark → Bool) (ms : List Mark) → list_all short_mark ms ≡ true → list_all short_mark (filter test ms) ≡ true
short-filter test [] all = refl
short-filter test (m ∷ ms) all =
    let both = and_parts (short_mark m) (list_all short_mark ms) all in
    by (test m) both.0 (short-filter test ms both.1)
  where
    by : (b : Bool) → short_mark m ≡ true → list_all short_mark (filter test ms) ≡ true → list_all short_mark (if b then m ∷ filter test ms else filter test ms) ≡ true
    by true first later = and_from _ _ first later
    by false first later = later

length-fold : (link : List ℕ) (ms : List Mark) → length link ≤ longest_link → list_all short_mark ms ≡ true → length (fold link_after link (map (λ (m : Mark). m.bytes) ms)) ≤ longest_link
length-fold link [] short all = short
length-fold link (m ∷ ms) short all =
    let both = and_parts (short_mark m) (list_all short_mark ms) all in
    length-fold (link_after link m.bytes) ms (by (is_link m.bytes) (opens_link m.bytes) both.0) both.1
  where
    by : (b c : Bool) → (not b || nat_le (length m.bytes) longest_link) ≡ true → length (if b then (if c then m.bytes else []) else link) ≤ longest_link
    by true true fits = at_most (length m.bytes) longest_link fits
    by true false fits = omega arith
    by false c fits = short

length-link : (ms : List Mark) → list_all short_mark ms ≡ true → length (link_of ms) ≤ longest_link
length-link ms all = omega (arith, ap length (link_of-fold ms), length-fold [] ms (omega arith) all)

pub length-link_of : (links : Links) (t : List ℕ) → is_safe links t ≡ true → length (link_of (marks t)) ≤ longest_link
length-link_of links t safe = length-link (marks t) (short-marks_of links (pieces_of t) safe)

pub length-link_at : (links : Links) (t : List ℕ) (i : ℕ) → is_safe links t ≡ true → length (link_at t i) ≤ longest_link
length-link_at links t i safe =
    length-link (marks_up_to i (marks t)) (short-filter (λ m. nat_le m.place i) (marks t) (short-marks_of links (pieces_of t) safe))

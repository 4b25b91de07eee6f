-- A text begins with a whole sequence of the grammar exactly if `after_sequence` finds one, and then with no other.
use Rattle.ansi_items.proofs.Common.{◌≡◌, ℕ, ◌+◌, ◌⊎◌, inl, inr, Bool, true, false, not, ◌&&◌, ◌||◌, ◌==◌, List, [], ◌∷◌, ◌++◌, take, drop, length, Some, None, refl, sym, ◌∙◌, ap, subst, append_assoc, append-nil, arith, one-add, IsTrue, slice_index, ap₂, true≢false, cond-true, cond-false, cond_both, and_parts, and_from, cases_Bool, both_ways, not-false, or_parts, or_cases, eqb-true, not-true, or_from, not_from_false, cond_some, none-some, nat_tests, drop-append_seam, take-append-drop, list_all, prefix_len, byte, escape, bell, is_parameter_byte, is_intermediate_byte, is_final_byte, is_escape_final_byte, opens_control_string, opens_command, opens_control_sequence, is_body_byte, IsControlSequence, IsControlString, IsEscapeSequence, IsSequence, skip, after_one, after_control_sequence, after_terminator, after_control_string, after_escape_sequence, after_escape, after_sequence}

-- the list does not begin with an element that passes the test
abbrev pub Stops : (ℕ → Bool) → List ℕ → Type 0
Stops test [] = Unit {0}
Stops test (y ∷ ys) = test y ≡ false

pub prefix_len-run : (test : ℕ → Bool) (xs ys : List ℕ) → list_all test xs ≡ true → Stops test ys → prefix_len test (xs ++ ys) ≡ length xs
prefix_len-run test [] [] all stops = refl
prefix_len-run test [] (y ∷ ys) all stops = cond-false (test y) (1 + prefix_len test ys) 0 stops
prefix_len-run test (x ∷ xs) ys all stops =
    let both = and_parts (test x) (list_all test xs) all in
    cond-true (test x) (1 + prefix_len test (xs ++ ys)) 0 both.0 ∙ omega (arith, prefix_len-run test xs ys both.1 stops)

pub skip-run : (test : ℕ → Bool) (xs ys : List ℕ) → list_all test xs ≡ true → Stops test ys → skip test (xs ++ ys) ≡ ys
skip-run test xs ys all stops = ap (λ n. drop n (xs ++ ys)) (prefix_len-run test xs ys all stops) ∙ drop-append_seam xs ys

pub all-run : (test : ℕ → Bool) (xs : List ℕ) → list_all test (take (prefix_len test xs) xs) ≡ true
all-run test [] = refl
all-run test (x ∷ xs) =
    let P : ℕ → Type 0 = λ n. list_all test (take n (x ∷ xs)) ≡ true in
    cond_both (test x) (1 + prefix_len test xs) 0 P
    (λ yes. subst P (sym (one-add (prefix_len test xs))) (and_from (test x) (list_all test (take (prefix_len test xs) xs)) yes (all-run test xs)))
    (λ no. refl)

pub stops-skip : (test : ℕ → Bool) (xs : List ℕ) → Stops test (skip test xs)
stops-skip test [] = tt
stops-skip test (x ∷ xs) =
    let P : ℕ → Type 0 = λ n. Stops test (drop n (x ∷ xs)) in
    cond_both (test x) (1 + prefix_len test xs) 0 P
    (λ yes. subst P (sym (one-add (prefix_len test xs))) (stops-skip test xs))
    (λ no. no)

-- the bytes at the front that pass, and what is left
pub run-skip : (test : ℕ → Bool) (xs : List ℕ) → xs ≡ take (prefix_len test xs) xs ++ skip test xs
run-skip test xs = sym (take-append-drop (prefix_len test xs) xs)

pub final_stops : (f : ℕ) → is_final_byte f ≡ true → (is_parameter_byte f ≡ false) × (is_intermediate_byte f ≡ false)
final_stops f h = (grind (arith, nat_tests), grind (arith, nat_tests))

pub intermediate_stops : (f : ℕ) → is_intermediate_byte f ≡ true → is_parameter_byte f ≡ false
intermediate_stops f h = grind (arith, nat_tests)

pub escape_final_stops : (f : ℕ) → is_escape_final_byte f ≡ true → is_intermediate_byte f ≡ false
escape_final_stops f h = grind (arith, nat_tests)

pub intermediate_opens_nothing : (i : ℕ) → is_intermediate_byte i ≡ true → (opens_control_sequence i ≡ false) × (opens_control_string i ≡ false)
intermediate_opens_nothing i h = (grind (arith, nat_tests), grind (arith, nat_tests))

pub string_opener_apart : (o : ℕ) → opens_control_string o ≡ true → opens_control_sequence o ≡ false
string_opener_apart o h = grind (arith, nat_tests)

pub after_escape-no_opener : (b : ℕ) (t : List ℕ) → opens_control_sequence b ≡ false → opens_control_string b ≡ false → after_escape (b ∷ t) ≡ after_escape_sequence (b ∷ t)
after_escape-no_opener b t c s = cond-false (opens_control_sequence b) _ _ c ∙ cond-false (opens_control_string b) _ _ s

-- What is left after a sequence of each kind.

stops_before_final : (is : List ℕ) (f : ℕ) (rest : List ℕ) → list_all is_intermediate_byte is ≡ true → is_final_byte f ≡ true → Stops is_parameter_byte (is ++ (f ∷ rest))
stops_before_final [] f rest all final = (final_stops f final).0
stops_before_final (i ∷ is) f rest all final = intermediate_stops i (and_parts (is_intermediate_byte i) (list_all is_intermediate_byte is) all).0

append_assoc-final : (ps is : List ℕ) (f : ℕ) (rest : List ℕ) → ps ++ is ++ (f ∷ []) ++ rest ≡ ps ++ (is ++ (f ∷ rest))
append_assoc-final ps is f rest = append_assoc (ps ++ is) (f ∷ []) rest ∙ append_assoc ps is (f ∷ rest)

after-control_sequence_inside : (ps is : List ℕ) (f : ℕ) (rest : List ℕ) → list_all is_parameter_byte ps ≡ true → list_all is_intermediate_byte is ≡ true → is_final_byte f ≡ true
    → after_control_sequence (ps ++ is ++ (f ∷ []) ++ rest) ≡ Some rest
after-control_sequence_inside ps is f rest hp hi hf =
    let one = ap (skip is_parameter_byte) (append_assoc-final ps is f rest) ∙ skip-run is_parameter_byte ps (is ++ (f ∷ rest)) hp (stops_before_final is f rest hi hf) in
    let two = ap (skip is_intermediate_byte) one ∙ skip-run is_intermediate_byte is (f ∷ rest) hi (final_stops f hf).1 in
    ap (after_one is_final_byte) two ∙ cond-true (is_final_byte f) (Some rest) None hf

after-control_sequence : (w rest : List ℕ) → IsControlSequence w → after_sequence (w ++ rest) ≡ Some rest
after-control_sequence w rest c =
    let G : List ℕ → Type 0 = λ v. after_sequence (v ++ rest) ≡ Some rest in
    subst G (sym c.spelled) (after-control_sequence_inside c.parameters c.intermediates c.final rest c.are_parameters c.are_intermediates c.is_final)

after-control_string_inside : (o : ℕ) (body terminator rest : List ℕ) → opens_control_string o ≡ true → list_all (is_body_byte o) body ≡ true
    → (terminator ≡ escape ∷ byte "\\" ∷ []) ⊎ (IsTrue (opens_command o) × (terminator ≡ bell ∷ []))
    → after_sequence (escape ∷ o ∷ (body ++ terminator ++ rest)) ≡ Some rest
after-control_string_inside o body terminator rest opens all ends =
    let chosen : after_escape (o ∷ (body ++ terminator ++ rest)) ≡ after_control_string o (body ++ terminator ++ rest)
    = cond-false (opens_control_sequence o) _ _ (string_opener_apart o opens) ∙ cond-true (opens_control_string o) _ _ opens in
    let G : List ℕ → Type 0 = λ v. after_control_string o (body ++ v ++ rest) ≡ Some rest in
    let close_by : (v : List ℕ) → Stops (is_body_byte o) (v ++ rest) → after_terminator (v ++ rest) ≡ Some rest → G v
    = λ v stops found. ap after_terminator (ap (skip (is_body_byte o)) (append_assoc body v rest) ∙ skip-run (is_body_byte o) body (v ++ rest) all stops) ∙ found in
    chosen ∙ elim ends [
      | inl st ↦ subst G (sym st) (close_by (escape ∷ byte "\\" ∷ []) refl refl)
      | inr b ↦ subst G (sym b.1) (close_by (bell ∷ []) (ap (λ x. not (x && true)) b.0) refl)
    ]

after-control_string : (w rest : List ℕ) → IsControlString w → after_sequence (w ++ rest) ≡ Some rest
after-control_string w rest c =
    let G : List ℕ → Type 0 = λ v. after_sequence (v ++ rest) ≡ Some rest in
    subst G (sym c.spelled) (after-control_string_inside c.opener c.body c.terminator rest c.opens c.is_body c.ends)

after-escape_inside : (is : List ℕ) (f : ℕ) (rest : List ℕ) → list_all is_intermediate_byte is ≡ true → is_escape_final_byte f ≡ true
    → (is ≡ [] → IsTrue (not (opens_control_string f || opens_control_sequence f))) → after_escape (is ++ (f ∷ rest)) ≡ Some rest
after-escape_inside [] f rest hi hf opens =
    let none = or_parts (opens_control_string f) (opens_control_sequence f) (not-true _ (opens refl)) in
    after_escape-no_opener f rest none.1 none.0
    ∙ ap (after_one is_escape_final_byte) (skip-run is_intermediate_byte [] (f ∷ rest) refl (escape_final_stops f hf))
    ∙ cond-true (is_escape_final_byte f) (Some rest) None hf
after-escape_inside (i ∷ is) f rest hi hf opens =
    let none = intermediate_opens_nothing i (and_parts (is_intermediate_byte i) (list_all is_intermediate_byte is) hi).0 in
    after_escape-no_opener i (is ++ (f ∷ rest)) none.0 none.1
    ∙ ap (after_one is_escape_final_byte) (skip-run is_intermediate_byte (i ∷ is) (f ∷ rest) hi (escape_final_stops f hf))
    ∙ cond-true (is_escape_final_byte f) (Some rest) None hf

after-escape_sequence : (w rest : List ℕ) → IsEscapeSequence w → after_sequence (w ++ rest) ≡ Some rest
after-escape_sequence w rest c =
    let G : List ℕ → Type 0 = λ v. after_sequence (v ++ rest) ≡ Some rest in
    subst G (sym c.spelled) (ap after_escape (append_assoc c.intermediates (c.final ∷ []) rest)
    ∙ after-escape_inside c.intermediates c.final rest c.are_intermediates c.is_final c.opens_nothing)

-- whatever follows a whole sequence is what is left after it
pub after_sequence-whole : (w rest : List ℕ) → IsSequence w → after_sequence (w ++ rest) ≡ Some rest
after_sequence-whole w rest (inl c) = after-control_sequence w rest c
after_sequence-whole w rest (inr (inl c)) = after-control_string w rest c
after_sequence-whole w rest (inr (inr c)) = after-escape_sequence w rest c

-- What `after_sequence` finds is a whole sequence.

after_one_found : (test : ℕ → Bool) (t rest : List ℕ) → after_one test t ≡ Some rest → (b : ℕ) × (t ≡ b ∷ rest) × (test b ≡ true)
after_one_found test [] rest found = absurd (none-some rest found)
after_one_found test (b ∷ t) rest found =
    let both = cond_some (test b) t rest found in
    (b, ap (λ v. b ∷ v) both.1, both.0)

abbrev pub Begins : List ℕ → List ℕ → Type 0
Begins t rest = (w : List ℕ) × IsSequence w × (t ≡ w ++ rest)

control_sequence_found : (t rest : List ℕ) → after_control_sequence t ≡ Some rest → Begins (escape ∷ byte "[" ∷ t) rest
control_sequence_found t rest found =
    let ps = take (prefix_len is_parameter_byte t) t in
    let t1 = skip is_parameter_byte t in
    let is = take (prefix_len is_intermediate_byte t1) t1 in
    let one = after_one_found is_final_byte (skip is_intermediate_byte t1) rest found in
    let spelled : t ≡ ps ++ is ++ (one.0 ∷ []) ++ rest
    = run-skip is_parameter_byte t ∙ ap (λ v. ps ++ v) (run-skip is_intermediate_byte t1 ∙ ap (λ v. is ++ v) one.1)
    ∙ sym (append_assoc-final ps is one.0 rest) in
    let c : IsControlSequence (escape ∷ byte "[" ∷ (ps ++ is ++ one.0 ∷ [])) = record {
      parameters = ps;
      intermediates = is;
      final = one.0;
      spelled = refl;
      are_parameters = all-run is_parameter_byte t;
      are_intermediates = all-run is_intermediate_byte t1;
      is_final = one.2;
    } in
    (escape ∷ byte "[" ∷ (ps ++ is ++ one.0 ∷ []), inl c, ap (λ v. escape ∷ byte "[" ∷ v) spelled)

escape_sequence_found : (b : ℕ) (t rest : List ℕ) → opens_control_sequence b ≡ false → opens_control_string b ≡ false → after_escape_sequence (b ∷ t) ≡ Some rest → Begins (escape ∷ b ∷ t) rest
escape_sequence_found b t rest no_control no_string found =
    let u = b ∷ t in
    let is = take (prefix_len is_intermediate_byte u) u in
    let one = after_one_found is_escape_final_byte (skip is_intermediate_byte u) rest found in
    let spelled : u ≡ is ++ (one.0 ∷ []) ++ rest
    = run-skip is_intermediate_byte u ∙ ap (λ v. is ++ v) one.1 ∙ sym (append_assoc is (one.0 ∷ []) rest) in
    let first : is ≡ [] → b ≡ one.0 = λ e. ap (λ v. slice_index v 0) (spelled ∙ ap (λ v. v ++ (one.0 ∷ []) ++ rest) e) in
    let c : IsEscapeSequence (escape ∷ (is ++ one.0 ∷ [])) = record {
      intermediates = is;
      final = one.0;
      spelled = refl;
      are_intermediates = all-run is_intermediate_byte u;
      is_final = one.2;
      opens_nothing = λ e. (let P : ℕ → Type 0 = λ f. IsTrue (not (opens_control_string f || opens_control_sequence f)) in
          subst P (first e) (not_from_false _ (or_from (opens_control_string b) (opens_control_sequence b) no_string no_control)));
    } in
    (escape ∷ (is ++ one.0 ∷ []), inr (inr c), ap (λ v. escape ∷ v) spelled)

terminator_found : (o : ℕ) (t rest : List ℕ) → Stops (is_body_byte o) t → after_terminator t ≡ Some rest
    → (v : List ℕ) × (t ≡ v ++ rest) × ((v ≡ escape ∷ byte "\\" ∷ []) ⊎ (IsTrue (opens_command o) × (v ≡ bell ∷ [])))
terminator_found o [] rest stops found = absurd (none-some rest found)
terminator_found o (b ∷ t) rest stops found = elim (cases_Bool (b == bell)) [
  | inl bells ↦ (
      let is_bell = eqb-true b bell bells in
      let P : ℕ → Type 0 = λ x. not (x == escape || (opens_command o && x == bell)) ≡ false in
      let command : opens_command o ≡ true = both_left (opens_command o) (subst P is_bell stops) in
      let after : t ≡ rest = (cond_some true t rest (sym (cond-true (b == bell) _ _ bells) ∙ found)).1 in
      (bell ∷ [], ap₂ (λ x v. x ∷ v) is_bell after, inr (command, refl)))
  | inr not_bell ↦ (
      let one = after_one_found (λ c. c == byte "\\") t rest (sym (cond-false (b == bell) _ _ not_bell) ∙ found) in
      let is_escape : b ≡ escape = escape_left o b not_bell stops in
      (escape ∷ byte "\\" ∷ [], ap₂ (λ x v. x ∷ v) is_escape (one.1 ∙ ap (λ x. x ∷ rest) (eqb-true one.0 (byte "\\") one.2)), inl refl))
]
  where
    both_left : (x : Bool) → not (x && true) ≡ false → x ≡ true
    both_left true h = refl
    both_left false h = absurd (true≢false h)

    escape_left : (o b : ℕ) → (b == bell) ≡ false → not (b == escape || (opens_command o && b == bell)) ≡ false → b ≡ escape
    escape_left o b not_bell h = elim (or_cases (b == escape) (opens_command o && b == bell) (not-false _ h)) [
      | inl e ↦ eqb-true b escape e
      | inr c ↦ absurd (both_ways (b == bell) not_bell (and_parts (opens_command o) (b == bell) c).1)
    ]

control_string_found : (o : ℕ) (t rest : List ℕ) → opens_control_string o ≡ true → after_control_string o t ≡ Some rest → Begins (escape ∷ o ∷ t) rest
control_string_found o t rest opens found =
    let body = take (prefix_len (is_body_byte o) t) t in
    let v = terminator_found o (skip (is_body_byte o) t) rest (stops-skip (is_body_byte o) t) found in
    let spelled : t ≡ body ++ v.0 ++ rest = run-skip (is_body_byte o) t ∙ ap (λ u. body ++ u) v.1 ∙ sym (append_assoc body v.0 rest) in
    let c : IsControlString (escape ∷ o ∷ (body ++ v.0)) = record {
      opener = o;
      body = body;
      terminator = v.0;
      spelled = refl;
      opens = opens;
      is_body = all-run (is_body_byte o) t;
      ends = v.2;
    } in
    (escape ∷ o ∷ (body ++ v.0), inr (inl c), ap (λ u. escape ∷ o ∷ u) spelled)

after_escape-begins : (t rest : List ℕ) → after_escape t ≡ Some rest → Begins (escape ∷ t) rest
after_escape-begins [] rest found = absurd (none-some rest found)
after_escape-begins (b ∷ t) rest found = elim (cases_Bool (opens_control_sequence b)) [
  | inl control ↦ (
      let P : ℕ → Type 0 = λ x. Begins (escape ∷ x ∷ t) rest in
      subst P (sym (eqb-true b (byte "[") control)) (control_sequence_found t rest (sym (cond-true (opens_control_sequence b) _ _ control) ∙ found)))
  | inr no_control ↦ (
      let later = sym (cond-false (opens_control_sequence b) _ _ no_control) ∙ found in
      elim (cases_Bool (opens_control_string b)) [
        | inl string ↦ control_string_found b t rest string (sym (cond-true (opens_control_string b) _ _ string) ∙ later)
        | inr no_string ↦ escape_sequence_found b t rest no_control no_string (sym (cond-false (opens_control_string b) _ _ no_string) ∙ later)
      ])
]

-- what comes before what is left is a whole sequence
pub after_sequence_found : (t rest : List ℕ) → after_sequence t ≡ Some rest → Begins t rest
after_sequence_found [] rest found = absurd (none-some rest found)
after_sequence_found (b ∷ t) rest found = elim (cases_Bool (b == escape)) [
  | inl is ↦ (
      let P : ℕ → Type 0 = λ x. Begins (x ∷ t) rest in
      subst P (sym (eqb-true b escape is)) (after_escape-begins t rest (sym (cond-true (b == escape) _ _ is) ∙ found)))
  | inr other ↦ absurd (none-some rest (sym (cond-false (b == escape) _ _ other) ∙ found))
]

-- no whole sequence is a proper beginning of another
pub no_sequence_begins_another : (w more : List ℕ) → IsSequence w → IsSequence (w ++ more) → more ≡ []
no_sequence_begins_another w more is_first is_second =
    some_injective (sym (after_sequence-whole w more is_first) ∙ ap after_sequence (sym (append-nil (w ++ more))) ∙ after_sequence-whole (w ++ more) [] is_second)
  where
    some_injective : {a b : List ℕ} → Some a ≡ Some b → a ≡ b
    some_injective e = (cond_some true _ _ e).1

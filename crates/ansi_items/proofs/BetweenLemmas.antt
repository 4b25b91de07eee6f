-- What an ESC begins depends on what is between it and the next ESC, and on the byte after that one.
use Rattle.ansi_items.proofs.FrontLemmas.{not_alone}
use Rattle.ansi_items.proofs.Common.{◌≡◌, ℕ, ◌+◌, ◌-◌, ◌<◌, ◌≤◌, Bool, true, false, not, ◌&&◌, ◌==◌, List, [], ◌∷◌, ◌++◌, length, take, drop, get_or, slice_index, Option, Some, None, refl, sym, ◌∙◌, ap, ap₂, ⊎_elim, arith, cond-true, cond-false, cases_Bool, eqb-true, false_from_ne_true, nat_tests, get_or_append_left, get_or-append-add, prefix_len, prefix_len-append, prefix_len_is, prefix_len_passes, prefix_len_stops, unwrap_or, if◌then◌else◌, byte, is_byte, IsFirstByte, escape, bell, is_parameter_byte, is_intermediate_byte, is_escape_final_byte, is_body_byte, is_plain_byte, opens_control_sequence, opens_control_string, opens_command, Other, Front, front_of, control_at, string_at, escape_at, sequence_at, before_escape, before_bell, cond_both, get_or-drop, one-add, plain, subst, ◌⊎◌}

-- ESC ends each run of a sequence's bytes.

pub parameter_is_plain : (b : ℕ) → is_parameter_byte b ≡ true → is_plain_byte b ≡ true
parameter_is_plain b h = grind (arith, nat_tests)

pub intermediate_is_plain : (b : ℕ) → is_intermediate_byte b ≡ true → is_plain_byte b ≡ true
intermediate_is_plain b h = grind (arith, nat_tests)

pub body_is_plain : (o b : ℕ) → is_body_byte o b ≡ true → is_plain_byte b ≡ true
body_is_plain o b h = grind (arith, nat_tests)

runs_on : (p q : ℕ → Bool) (xs : List ℕ) → ((b : ℕ) → p b ≡ true → q b ≡ true) → prefix_len p xs + prefix_len q (drop (prefix_len p xs) xs) ≡ prefix_len q xs
runs_on p q [] f = refl
runs_on p q (x ∷ xs) f =
    let P : ℕ → Type 0 = λ n. n + prefix_len q (drop n (x ∷ xs)) ≡ prefix_len q (x ∷ xs) in
    cond_both (p x) (1 + prefix_len p xs) 0 P
    (λ yes. subst P (sym (one-add (prefix_len p xs))) (omega (arith, runs_on p q xs f, cond-true (q x) (1 + prefix_len q xs) 0 (f x yes))))
    (λ no. omega arith)

pub intermediates_within : (bs : List ℕ) → prefix_len is_intermediate_byte bs ≤ before_escape bs
intermediates_within bs = omega (arith, runs_on is_intermediate_byte is_plain_byte bs intermediate_is_plain)

pub parameters_within : (bs : List ℕ) → prefix_len is_parameter_byte bs ≤ before_escape bs
parameters_within bs = omega (arith, runs_on is_parameter_byte is_plain_byte bs parameter_is_plain)

-- the runs of a control sequence, with an intermediate byte after its parameters
pub control_within : (bs : List ℕ) (n b m : ℕ) → n ≡ prefix_len is_parameter_byte bs → b ≡ slice_index bs n → n < length bs → is_intermediate_byte b ≡ true
    → m ≡ prefix_len is_intermediate_byte (take (length bs - (n + 1)) (drop (n + 1) bs)) → n + (1 + m) ≤ before_escape bs
control_within bs n b m e here inside is counted =
    let first : prefix_len is_parameter_byte bs + before_escape (drop (prefix_len is_parameter_byte bs) bs) ≡ before_escape bs = runs_on is_parameter_byte is_plain_byte bs parameter_is_plain in
    let same : before_escape (drop n bs) ≡ before_escape (drop (prefix_len is_parameter_byte bs) bs) = ap (λ k. before_escape (drop k bs)) e in
    omega (arith, first, not_alone bs n b m here inside is counted, intermediates_within (drop n bs), same, e)

-- Bytes u, and after them v, which is empty or begins with ESC.

-- such a v begins with no byte of another kind
no_run : (p : ℕ → Bool) (v : List ℕ) → p escape ≡ false → before_escape v ≡ 0 → prefix_len p v ≡ 0
no_run p [] none e = refl
no_run p (b ∷ v) none e = ⊎_elim
    (λ is. cond-false _ _ _ (ap p (eqb-true b escape is) ∙ none))
    (λ other. absurd (let n : before_escape (b ∷ v) ≡ 1 + before_escape v = cond-true _ _ _ (ap not other) in omega (arith, e, n)))
    (cases_Bool (b == escape))

-- a run of bytes other than ESC ends in u
pub run_between : (p : ℕ → Bool) (u v : List ℕ) → p escape ≡ false → before_escape v ≡ 0 → prefix_len p (u ++ v) ≡ prefix_len p u
run_between p u v none e = prefix_len-append p u v ∙ whole (prefix_len p u)
  where
    whole : (n : ℕ) → (if n == length u then length u + prefix_len p v else n) ≡ n
    whole n = grind (arith, nat_tests, no_run p v none e)

-- A control string.

-- whether the byte after v's ESC ends it
abbrev terminated : List ℕ → ℕ → Option Front
terminated v body = if slice_index v 1 == byte "\\" then Some (front_of Other (body + 4)) else None

pub string_ended : (u v : List ℕ) → before_escape v ≡ 0 → terminated v (length u) ≡ string_at (u ++ v) (length u)
unfolding string_at
string_ended u v e =
    let zero : length u ≡ length u + 0 = omega arith in
    let stop : slice_index (u ++ v) (length u) ≡ slice_index v 0 = ap (slice_index (u ++ v)) zero ∙ get_or-append-add u v 0 0 in
    let next : slice_index (u ++ v) (length u + 1) ≡ slice_index v 1 = get_or-append-add u v 1 0 in
    ends v e
    ∙ sym (ap₂ (λ s n. if s == bell then Some (front_of Other (length u + 3)) else if (s == escape) && (n == byte "\\") then Some (front_of Other (length u + 4)) else None) stop next)
  where
    ends : (w : List ℕ) → before_escape w ≡ 0 → terminated w (length u)
        ≡ (if slice_index w 0 == bell then Some (front_of Other (length u + 3)) else if (slice_index w 0 == escape) && (slice_index w 1 == byte "\\") then Some (front_of Other (length u + 4)) else None)
    ends [] n = refl
    ends (b ∷ w) n = ⊎_elim
        (λ is. let here : b ≡ escape = eqb-true b escape is in
        sym (ap (λ s. if s == bell then Some (front_of Other (length u + 3)) else if (s == escape) && (slice_index w 0 == byte "\\") then Some (front_of Other (length u + 4)) else None) here))
        (λ other. absurd (let more : before_escape (b ∷ w) ≡ 1 + before_escape w = cond-true _ _ _ (ap not other) in omega (arith, n, more)))
        (cases_Bool (b == escape))

-- without a BEL or an ESC before its end
pub string_body : (o : ℕ) (u v : List ℕ) → opens_command o ≡ false → before_escape u ≡ length u → before_escape v ≡ 0 → prefix_len (is_body_byte o) (u ++ v) ≡ length u
string_body o u v no_command all e =
    run_between (is_body_byte o) u v (refl) e
    ∙ prefix_len_is (is_body_byte o) u (length u) 0 (omega arith)
    (λ k below. passes (get_or u k 0) (prefix_len_passes is_plain_byte u k 0 (omega (arith, all, below))))
    (λ inside. absurd (omega arith))
  where
    passes : (b : ℕ) → is_plain_byte b ≡ true → is_body_byte o b ≡ true
    passes b plain = grind (arith, nat_tests, no_command)

-- the first BEL, among bytes without an ESC
pub bell_found : (u : List ℕ) (end : Option ℕ) → before_escape u ≡ length u → IsFirstByte (is_byte bell) u end → unwrap_or end (length u) ≡ before_bell u
bell_found u None all h = sym (
    prefix_len_is (is_body_byte 93) u (length u) 0 (omega arith)
    (λ k below. passes (get_or u k 0) (prefix_len_passes is_plain_byte u k 0 (omega (arith, all, below))) (false_from_ne_true _ (h k (omega arith) below)))
    (λ inside. absurd (omega arith)))
  where
    passes : (b : ℕ) → is_plain_byte b ≡ true → is_byte bell b ≡ false → is_body_byte 93 b ≡ true
    passes b plain other = grind (arith, nat_tests)
bell_found u (Some k) all h = sym (
    prefix_len_is (is_body_byte 93) u k 0 (omega (arith, h.0.high))
    (λ j below. passes (get_or u j 0) (prefix_len_passes is_plain_byte u j 0 (omega (arith, all, below, h.0.high))) (false_from_ne_true _ (h.0.before j (omega arith) below)))
    (λ inside. stops (get_or u k 0) h.1))
  where
    passes : (b : ℕ) → is_plain_byte b ≡ true → is_byte bell b ≡ false → is_body_byte 93 b ≡ true
    passes b plain other = grind (arith, nat_tests)

    stops : (b : ℕ) → is_byte bell b ≡ true → is_body_byte 93 b ≡ false
    stops b is = grind (arith, nat_tests)

-- a BEL ends it
pub command_ended : (u v : List ℕ) (k : ℕ) → before_escape u ≡ length u → k ≡ before_bell u → k < length u → Some (front_of Other (k + 3)) ≡ string_at (u ++ v) (before_bell u)
unfolding string_at
command_ended u v k all is inside =
    let stops : is_body_byte 93 (get_or u k 0) ≡ false = ap (λ j. is_body_byte 93 (get_or u j 0)) is ∙ prefix_len_stops (is_body_byte 93) u 0 (omega (arith, is)) in
    let plain : is_plain_byte (get_or u k 0) ≡ true = prefix_len_passes is_plain_byte u k 0 (omega (arith, all)) in
    let rings : (slice_index (u ++ v) k == bell) ≡ true = ap (λ b. b == bell) (get_or_append_left u v 0 k inside) ∙ bells (get_or u k 0) plain stops in
    sym (ap (string_at (u ++ v)) (sym is) ∙ cond-true _ _ _ rings)
  where
    bells : (b : ℕ) → is_plain_byte b ≡ true → is_body_byte 93 b ≡ false → (b == bell) ≡ true
    bells b plain stops = grind (arith, nat_tests)

-- The sequence that an ESC begins, by the byte after it.

pub sequence_none : (bs : List ℕ) (b : ℕ) → b ≡ slice_index bs 1 → (b < 0x20) ⊎ (0x7E < b) → None ≡ sequence_at bs
unfolding sequence_at escape_at
sequence_none bs b here is =
    let first : slice_index (drop 1 bs) 0 ≡ b = get_or-drop 1 bs 0 0 ∙ sym here in
    let no_intermediate : is_intermediate_byte b ≡ false = grind (arith, nat_tests, is) in
    let no_final : is_escape_final_byte b ≡ false = grind (arith, nat_tests, is) in
    let no_control : opens_control_sequence b ≡ false = grind (arith, nat_tests, is) in
    let no_string : opens_control_string b ≡ false = grind (arith, nat_tests, is) in
    let none : prefix_len is_intermediate_byte (drop 1 bs) ≡ 0 = no_front (drop 1 bs) b first no_intermediate in
    sym (ap (λ y. if opens_control_sequence y then control_at (drop 2 bs) else if opens_control_string y then string_at (drop 2 bs) (prefix_len (is_body_byte y) (drop 2 bs)) else escape_at (drop 1 bs)) (sym here)
    ∙ cond-false _ _ _ no_control ∙ cond-false _ _ _ no_string
    ∙ ap (λ k. if is_escape_final_byte (slice_index (drop 1 bs) k) then Some (front_of Other (k + 2)) else None) none
    ∙ cond-false _ _ _ (ap is_escape_final_byte first ∙ no_final))
  where
    no_front : (v : List ℕ) (x : ℕ) → slice_index v 0 ≡ x → is_intermediate_byte x ≡ false → prefix_len is_intermediate_byte v ≡ 0
    no_front [] x e other = refl
    no_front (y ∷ v) x e other = cond-false _ _ _ (ap is_intermediate_byte e ∙ other)

pub sequence_control : (bs : List ℕ) (b : ℕ) → b ≡ slice_index bs 1 → b ≡ 91 → control_at (drop 2 bs) ≡ sequence_at bs
unfolding sequence_at
sequence_control bs b here is = sym (cond-true _ _ _ (ap opens_control_sequence (sym here ∙ is)))

pub sequence_string : (bs : List ℕ) (b : ℕ) → b ≡ slice_index bs 1 → opens_control_string b ≡ true → string_at (drop 2 bs) (prefix_len (is_body_byte b) (drop 2 bs)) ≡ sequence_at bs
unfolding sequence_at
sequence_string bs b here opens =
    let no_control : opens_control_sequence b ≡ false = grind (arith, nat_tests) in
    sym (ap (λ y. if opens_control_sequence y then control_at (drop 2 bs) else if opens_control_string y then string_at (drop 2 bs) (prefix_len (is_body_byte y) (drop 2 bs)) else escape_at (drop 1 bs)) (sym here)
    ∙ cond-false _ _ _ no_control ∙ cond-true _ _ _ opens)

pub sequence_escape : (bs : List ℕ) (b : ℕ) → b ≡ slice_index bs 1 → opens_control_sequence b ≡ false → opens_control_string b ≡ false → escape_at (drop 1 bs) ≡ sequence_at bs
unfolding sequence_at
sequence_escape bs b here no_control no_string =
    sym (ap (λ y. if opens_control_sequence y then control_at (drop 2 bs) else if opens_control_string y then string_at (drop 2 bs) (prefix_len (is_body_byte y) (drop 2 bs)) else escape_at (drop 1 bs)) (sym here)
    ∙ cond-false _ _ _ no_control ∙ cond-false _ _ _ no_string)

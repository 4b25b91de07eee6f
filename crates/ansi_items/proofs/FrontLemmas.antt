-- What the code reads at the front of a text is its first piece.
use Rattle.ansi_items.proofs.Common.{◌≡◌, ℕ, zero, suc, ◌+◌, ◌-◌, ◌<◌, ◌≤◌, inl, inr, ⊎_elim, Bool, true, false, not, ◌&&◌, ◌==◌, List, [], ◌∷◌, ◌++◌, take, drop, length, Option, Some, None, refl, sym, ◌∙◌, ap, ap₂, subst, append_assoc, arith, slice_index, length-append, cond-true, cond-false, cases_Bool, eqb-true, and_parts, both_ways, cases_lt, not-false, or_cases, ne_eqb, nat_tests, take_rest, get_or_past, drop_more, drop_all, drop-drop, drop_at, take_at, length-drop, take-append-drop, prefix_len-le-length, prefix_len_stops, prefix_len-drop_yes, prefix_len-drop_no, prefix_len-drop_all, list_all-append, length-prefix_len, list_all, prefix_len, ends_with, pointwise, option_map_or, unwrap_or, if◌then◌else◌, nat_eq, codes, is_some, slice_range, byte, Sgr, Other, Lone, Front, escape, bell, is_parameter_byte, is_intermediate_byte, is_final_byte, is_escape_final_byte, opens_control_string, opens_command, opens_control_sequence, is_body_byte, is_plain_byte, after_one, after_control_sequence, after_terminator, after_control_string, after_escape_sequence, after_sequence, is_sgr, are_private, Piece, Text, Sequence, spelling, text_or_lone, first_piece, kind_of, front_of, control_at, string_at, escape_at, sequence_at, front_at}
use Rattle.ansi_items.specs.declared.ansitok.Kind.TheVariants.{Text}
use Rattle.ansi_items.proofs.SequenceLemmas.{all-run, intermediate_stops}

-- After one byte at a place.

after_one-at : (test : ℕ → Bool) (k : ℕ) (t : List ℕ) → test 0 ≡ false → after_one test (drop k t) ≡ (if test (slice_index t k) then Some (drop (k + 1) t) else None)
after_one-at test k t none =
    ⊎_elim
    (λ below. ap (after_one test) (drop_more t k 0 below))
    (λ past. ap (after_one test) (drop_all k t past) ∙ sym (cond-false _ _ _ (ap test (get_or_past t k 0 past) ∙ none)))
    (cases_lt k (length t))

-- a byte that is not 0 is in the list
within_if_nonzero : (t : List ℕ) (k : ℕ) → 0 < slice_index t k → k < length t
within_if_nonzero t k h = ⊎_elim (λ below. below) (λ past. absurd (let nothing : slice_index t k ≡ 0 = get_or_past t k 0 past in omega arith)) (cases_lt k (length t))

drop_two : (a b k j : ℕ) (t : List ℕ) → j ≡ k + 2 → drop k t ≡ drop j (a ∷ b ∷ t)
drop_two a b k j t e = drop-drop k 2 (a ∷ b ∷ t) ∙ ap (λ i. drop i (a ∷ b ∷ t)) (omega arith)

drop_one : (a k j : ℕ) (t : List ℕ) → j ≡ k + 1 → drop k t ≡ drop j (a ∷ t)
drop_one a k j t e = drop-drop k 1 (a ∷ t) ∙ ap (λ i. drop i (a ∷ t)) (omega arith)

-- Which sequences are SGRs.

is_some-cond : {X : Type 0} (b : Bool) (x : X) → is_some (if b then Some x else None) ≡ b
is_some-cond true x = refl
is_some-cond false x = refl

and_swapped : (a b : Bool) → (a && b) ≡ (b && a)
and_swapped true true = refl
and_swapped true false = refl
and_swapped false true = refl
and_swapped false false = refl

no_parameters : (is : List ℕ) → list_all is_intermediate_byte is ≡ true → list_all is_parameter_byte is ≡ (length is == 0)
no_parameters [] all = refl
no_parameters (i ∷ is) all =
    ap (λ b. b && list_all is_parameter_byte is) (intermediate_stops i (and_parts (is_intermediate_byte i) (list_all is_intermediate_byte is) all).0)
    ∙ sym (ne_eqb (length (i ∷ is)) 0 (λ e. omega (arith, e)))

m_last : (final : ℕ) → (nat_eq 109 final && true) ≡ (final == 109)
m_last final = grind (arith, nat_tests)

-- the first parameter byte tells whether they are private, and the final byte tells nothing
are_private-front : (v w : List ℕ) → 0 < length v → are_private (v ++ w) ≡ are_private v
are_private-front [] w some = absurd (omega arith)
are_private-front (b ∷ v) w some = refl

are_private-final : (v : List ℕ) (final : ℕ) → is_final_byte final ≡ true → are_private (v ++ final ∷ []) ≡ are_private v
are_private-final [] final is = grind (arith, nat_tests)
are_private-final (b ∷ v) final is = refl

and_three : (a b p a' b' p' : Bool) → a ≡ a' → b ≡ b' → p ≡ p' → (a && b && not p) ≡ (b' && a' && not p')
and_three a b p a' b' p' e f g = ap₂ (λ x y. x && y && not p) e f ∙ ap₂ (λ x y. x && not y) (and_swapped a' b') g

sgr-spelled : (ps is : List ℕ) (final : ℕ) → list_all is_parameter_byte ps ≡ true → list_all is_intermediate_byte is ≡ true → is_final_byte final ≡ true
    → is_sgr (escape ∷ byte "[" ∷ (ps ++ is ++ final ∷ [])) ≡ ((length is == 0) && (final == 109) && not (are_private (ps ++ is ++ final ∷ [])))
sgr-spelled ps is final hp hi hf =
    let w = escape ∷ byte "[" ∷ (ps ++ is ++ final ∷ []) in
    let inner = ps ++ is in
    let size : length w - 1 ≡ 2 + length inner = omega (arith, length-append inner (final ∷ [])) in
    let last : ends_with nat_eq w (codes "m") ≡ (final == 109)
    = ap (pointwise nat_eq (codes "m")) (ap (λ k. drop k w) size ∙ drop_at (escape ∷ byte "[" ∷ inner) (final ∷ []) (2 + length inner) (omega arith)) ∙ m_last final in
    let between : slice_range w 2 (length w - 1) ≡ inner
    = ap (λ k. slice_range w 2 k) size ∙ take_at inner (final ∷ []) (2 + length inner - 2) (omega arith) in
    let parameters : list_all is_parameter_byte (slice_range w 2 (length w - 1)) ≡ (length is == 0)
    = ap (list_all is_parameter_byte) between ∙ list_all-append is_parameter_byte ps is ∙ ap (λ b. b && list_all is_parameter_byte is) hp ∙ no_parameters is hi in
    let private : are_private (slice_range w 2 (length w - 1)) ≡ are_private (inner ++ final ∷ []) = ap are_private between ∙ sym (are_private-final inner final hf) in
    is_some-cond _ _ ∙ and_three _ _ _ (final == 109) (length is == 0) _ last parameters private

final_within : (t : List ℕ) (k : ℕ) → is_final_byte (slice_index t k) ≡ true → k < length t
final_within t k passes = let above : 63 < slice_index t k = grind (arith, nat_tests) in within_if_nonzero t k (omega arith)

-- how many parameter bytes a control sequence has, and how many intermediate bytes, if t follows its ESC `[`
abbrev parameters_len : List ℕ → ℕ
parameters_len t = prefix_len is_parameter_byte t

abbrev intermediates_len : List ℕ → ℕ
intermediates_len t = prefix_len is_intermediate_byte (drop (parameters_len t) t)

-- a control sequence is an SGR by these and its final byte
sgr_at : (t : List ℕ) → is_final_byte (slice_index t (parameters_len t + intermediates_len t)) ≡ true
    → is_sgr (take (parameters_len t + intermediates_len t + 3) (escape ∷ byte "[" ∷ t))
    ≡ ((intermediates_len t == 0) && (slice_index t (parameters_len t + intermediates_len t) == 109) && not (are_private t))
sgr_at t passes =
    let n = parameters_len t in
    let u = drop n t in
    let m = intermediates_len t in
    let final = slice_index t (n + m) in
    let inside = final_within t (n + m) passes in
    let ps = take n t in
    let is = take m u in
    let ps_len : length ps ≡ n = length-prefix_len is_parameter_byte t in
    let is_len : length is ≡ m = length-prefix_len is_intermediate_byte u in
    let split : t ≡ (ps ++ is ++ final ∷ []) ++ drop (n + m + 1) t
    = sym (take-append-drop n t) ∙ ap (λ v. ps ++ v) (sym (take-append-drop m u) ∙ ap (λ v. is ++ v) (drop-drop m n t ∙ drop_more t (n + m) 0 inside)) ∙ simp append_assoc in
    let word : take (n + m + 3) (escape ∷ byte "[" ∷ t) ≡ escape ∷ byte "[" ∷ (ps ++ is ++ final ∷ [])
    = ap (λ v. take (n + m + 3) (escape ∷ byte "[" ∷ v)) split
    ∙ take_at (escape ∷ byte "[" ∷ (ps ++ is ++ final ∷ [])) (drop (n + m + 1) t) (n + m + 3) (omega (arith, length-append (ps ++ is) (final ∷ []), length-append ps is)) in
    let w = ps ++ is ++ final ∷ [] in
    let private : are_private w ≡ are_private t
    = sym (ap are_private split ∙ are_private-front w (drop (n + m + 1) t) (omega (arith, length-append (ps ++ is) (final ∷ [])))) in
    ap is_sgr word ∙ sgr-spelled ps is final (all-run is_parameter_byte t) (all-run is_intermediate_byte u) passes
    ∙ ap₂ (λ k p. (k == 0) && (final == 109) && not p) is_len private

-- a control sequence has these, and the final byte
control_at-read : (t : List ℕ) (n m final : ℕ) → n ≡ parameters_len t → m ≡ prefix_len is_intermediate_byte (drop n t) → final ≡ slice_index t (n + m)
    → is_final_byte final ≡ true → Some (front_of (if (m == 0) && (final == 109) && not (are_private t) then Sgr else Other) (n + m + 3)) ≡ control_at t
unfolding control_at
control_at-read t n m final parameters intermediates ends passes =
    let counted : m ≡ intermediates_len t = intermediates ∙ ap (λ k. prefix_len is_intermediate_byte (drop k t)) parameters in
    let last : final ≡ slice_index t (parameters_len t + intermediates_len t) = ends ∙ ap₂ (λ k j. slice_index t (k + j)) parameters counted in
    let found : is_final_byte (slice_index t (parameters_len t + intermediates_len t)) ≡ true = ap is_final_byte (sym last) ∙ passes in
    rw (last, counted, parameters)
    (ap (λ b. Some (front_of (if b then Sgr else Other) (parameters_len t + intermediates_len t + 3))) (sym (sgr_at t found)) ∙ sym (cond-true _ _ _ found))

-- The code looks at the byte after the parameters.

-- it is no intermediate byte, or there is none
pub no_intermediates : (t : List ℕ) (n b : ℕ) → b ≡ slice_index t n → is_intermediate_byte b ≡ false → 0 ≡ prefix_len is_intermediate_byte (drop n t)
no_intermediates t n b here other = sym (
    ⊎_elim
    (λ inside. prefix_len-drop_no is_intermediate_byte t n 0 inside (ap is_intermediate_byte (sym here) ∙ other))
    (λ past. prefix_len-drop_all is_intermediate_byte t n past)
    (cases_lt n (length t)))

-- it is one, and more may follow
pub not_alone : (t : List ℕ) (n b m : ℕ) → b ≡ slice_index t n → n < length t → is_intermediate_byte b ≡ true → m ≡ prefix_len is_intermediate_byte (take (length t - (n + 1)) (drop (n + 1) t))
    → 1 + m ≡ prefix_len is_intermediate_byte (drop n t)
not_alone t n b m here inside is counted =
    ap (λ k. 1 + k) (counted ∙ ap (prefix_len is_intermediate_byte) (take_rest t (n + 1))) ∙ sym (prefix_len-drop_yes is_intermediate_byte t n 0 inside (ap is_intermediate_byte (sym here) ∙ is))

pub unless_private : (b : Bool) → (if b then Other else Sgr) ≡ (if not b then Sgr else Other)
unless_private true = refl
unless_private false = refl

-- it is the final byte
pub control_at-final : (t : List ℕ) (n final : ℕ) (is_sgr : Bool) → n ≡ prefix_len is_parameter_byte t → final ≡ slice_index t n → is_final_byte final ≡ true
    → is_sgr ≡ ((final == 109) && not (are_private t)) → Some (front_of (if is_sgr then Sgr else Other) (n + 3)) ≡ control_at t
control_at-final t n final is_sgr parameters here passes tells =
    let other : is_intermediate_byte final ≡ false = grind (arith, nat_tests) in
    let last : final ≡ slice_index t (n + 0) = here ∙ ap (slice_index t) (omega arith) in
    ap₂ (λ b k. Some (front_of (if b then Sgr else Other) k)) tells (omega arith)
    ∙ control_at-read t n 0 final parameters (no_intermediates t n final here other) last passes

-- the final byte follows the intermediate ones
pub control_at-later : (t : List ℕ) (n m final : ℕ) → n ≡ prefix_len is_parameter_byte t → 1 + m ≡ prefix_len is_intermediate_byte (drop n t) → final ≡ slice_index t (n + (1 + m)) → is_final_byte final ≡ true
    → Some (front_of Other (n + (1 + m) + 3)) ≡ control_at t
control_at-later t n m final parameters intermediates ends passes =
    let no_sgr : ((1 + m == 0) && (final == 109) && not (are_private t)) ≡ false = grind (arith, nat_tests) in
    ap (λ b. Some (front_of (if b then Sgr else Other) (n + (1 + m) + 3))) (sym no_sgr) ∙ control_at-read t n (1 + m) final parameters intermediates ends passes

no_control : (o : ℕ) → opens_control_sequence o ≡ false → nat_eq 91 o ≡ false
no_control o h = grind (arith, nat_tests)

-- an SGR goes on with `[`
no_sgr : (o k : ℕ) (t : List ℕ) → opens_control_sequence o ≡ false → is_sgr (take k (escape ∷ o ∷ t)) ≡ false
no_sgr o zero t h = refl
no_sgr o (suc zero) t h = refl
no_sgr o (suc (suc k)) t h = is_some-cond _ _ ∙ rw (no_control o h) refl

-- What the code found, against what is left after the sequence.

abbrev pub Agrees : List ℕ → Option Front → Option (List ℕ) → Type 0
Agrees t None None = Unit {0}
Agrees t None (Some rest) = ⊥
Agrees t (Some f) None = ⊥
Agrees t (Some f) (Some rest) = (rest ≡ drop f.len t) × (f.len ≤ length t) × (f.kind ≡ kind_of (Sequence (take f.len t)))

agrees_where : (t : List ℕ) (b : Bool) (f g : Option Front) (r s : Option (List ℕ)) → (b ≡ true → Agrees t f r) → (b ≡ false → Agrees t g s) → Agrees t (if b then f else g) (if b then r else s)
agrees_where t true f g r s yes_case no_case = yes_case refl
agrees_where t false f g r s yes_case no_case = no_case refl

control_agrees : (t : List ℕ) → Agrees (escape ∷ byte "[" ∷ t) (control_at t) (after_control_sequence t)
unfolding control_at
control_agrees t =
    let n = prefix_len is_parameter_byte t in
    let u = drop n t in
    let m = prefix_len is_intermediate_byte u in
    let final = slice_index t (n + m) in
    let f = front_of (kind_of (Sequence (take (n + m + 3) (escape ∷ byte "[" ∷ t)))) (n + m + 3) in
    let after : after_control_sequence t ≡ (if is_final_byte final then Some (drop (n + m + 1) t) else None)
    = ap (after_one is_final_byte) (drop-drop m n t) ∙ after_one-at is_final_byte (n + m) t refl in
    let found : is_final_byte final ≡ true → Agrees (escape ∷ byte "[" ∷ t) (Some f) (Some (drop (n + m + 1) t))
    = λ passes.
    let inside = final_within t (n + m) passes in
    (drop_two escape (byte "[") (n + m + 1) (n + m + 3) t (omega arith), omega arith, refl) in
    subst (Agrees (escape ∷ byte "[" ∷ t) (if is_final_byte final then Some f else None)) (sym after)
    (agrees_where _ (is_final_byte final) (Some f) None (Some (drop (n + m + 1) t)) None found (λ fails. tt))

-- a body that no BEL ends is ended by an ESC
escape_ends : (o stop : ℕ) → is_body_byte o stop ≡ false → (stop == bell) ≡ false → stop ≡ escape
escape_ends o stop stops no_bell = elim (or_cases (stop == escape) (opens_command o && stop == bell) (not-false _ stops)) [
  | inl is ↦ eqb-true stop escape is
  | inr both ↦ absurd (both_ways (stop == bell) no_bell (and_parts (opens_command o) (stop == bell) both).1)
]

-- where the body of a string stops, inside the text
stop_at : (o : ℕ) (t : List ℕ) → prefix_len (is_body_byte o) t < length t → is_body_byte o (slice_index t (prefix_len (is_body_byte o) t)) ≡ false
stop_at o t inside = prefix_len_stops (is_body_byte o) t 0 inside

abbrev is_backslash : ℕ → Bool
is_backslash c = c == byte "\\"

-- after the terminator of a string with the opener o, if t begins with n bytes of body
string_agrees : (o : ℕ) (t : List ℕ) → opens_control_sequence o ≡ false → Agrees (escape ∷ o ∷ t) (string_at t (prefix_len (is_body_byte o) t)) (after_control_string o t)
unfolding string_at
string_agrees o t not_control =
    let n = prefix_len (is_body_byte o) t in
    let stop = slice_index t n in
    let next = slice_index t (n + 1) in
    let w = escape ∷ o ∷ t in
    let other : (k : ℕ) → Other ≡ kind_of (Sequence (take k w)) = λ k. ap (λ b. if b then Sgr else Other) (sym (no_sgr o k t not_control)) in
    let found = λ (f : Option Front). Agrees w f (after_control_string o t) in
    ⊎_elim
    (λ inside.
    let after : after_control_string o t ≡ (if stop == bell then Some (drop (n + 1) t) else after_one is_backslash (drop (n + 1) t)) = ap after_terminator (drop_more t n 0 inside) in
    subst (Agrees w (string_at t n)) (sym after)
    (agrees_where w (stop == bell) _ _ _ _
    (λ bells. (drop_two escape o (n + 1) (n + 3) t (omega arith), omega arith, other (n + 3)))
    (λ no_bell.
    let is_escape : stop ≡ escape = escape_ends o stop (stop_at o t inside) no_bell in
    let tested : ((stop == escape) && (next == byte "\\")) ≡ (next == byte "\\") = ap (λ b. (b == escape) && (next == byte "\\")) is_escape in
    let left : after_one is_backslash (drop (n + 1) t) ≡ (if next == byte "\\" then Some (drop (n + 1 + 1) t) else None) = after_one-at is_backslash (n + 1) t refl in
    subst (λ b. Agrees w (if b then Some (front_of Other (n + 4)) else None) (after_one is_backslash (drop (n + 1) t))) (sym tested)
    (subst (Agrees w (if next == byte "\\" then Some (front_of Other (n + 4)) else None)) (sym left)
    (agrees_where w (next == byte "\\") _ _ _ _
    (λ slash.
    let there : next ≡ 92 = eqb-true next 92 slash in
    let inside_too : n + 1 < length t = within_if_nonzero t (n + 1) (omega arith) in
    (drop_two escape o (n + 1 + 1) (n + 4) t (omega arith), omega arith, other (n + 4)))
    (λ no_slash. tt))))))
    (λ past.
    let nothing : stop ≡ 0 = get_or_past t n 0 past in
    let none : string_at t n ≡ None = ap (λ b. if b == bell then Some (front_of Other (n + 3)) else (if (b == escape) && (next == byte "\\") then Some (front_of Other (n + 4)) else None)) nothing in
    let after : after_control_string o t ≡ None = ap after_terminator (drop_all n t past) in
    subst (λ f. Agrees w f (after_control_string o t)) (sym none) (subst (Agrees w None) (sym after) tt))
    (cases_lt n (length t))

escape_agrees : (b : ℕ) (t : List ℕ) → opens_control_sequence b ≡ false → Agrees (escape ∷ b ∷ t) (escape_at (b ∷ t)) (after_escape_sequence (b ∷ t))
unfolding escape_at
escape_agrees b t not_control =
    let u = b ∷ t in
    let n = prefix_len is_intermediate_byte u in
    let final = slice_index u n in
    let w = escape ∷ u in
    let after : after_escape_sequence u ≡ (if is_escape_final_byte final then Some (drop (n + 1) u) else None) = after_one-at is_escape_final_byte n u refl in
    subst (Agrees w (escape_at u)) (sym after)
    (agrees_where w (is_escape_final_byte final) _ _ _ _
    (λ passes.
    let above : 0 < final = grind (arith, nat_tests) in
    let inside : n < length u = within_if_nonzero u n above in
    (drop_one escape (n + 1) (n + 2) u (omega arith), omega arith, ap (λ c. if c then Sgr else Other) (sym (no_sgr b (n + 2) t not_control))))
    (λ fails. tt))

sequence_agrees : (t : List ℕ) → Agrees (escape ∷ t) (sequence_at (escape ∷ t)) (after_sequence (escape ∷ t))
unfolding sequence_at escape_at
sequence_agrees [] = tt
sequence_agrees (b ∷ t) =
    agrees_where (escape ∷ b ∷ t) (opens_control_sequence b) _ _ _ _
    (λ control. subst (λ x. Agrees (escape ∷ x ∷ t) (control_at t) (after_control_sequence t)) (sym (eqb-true b (byte "[") control)) (control_agrees t))
    (λ not_control. agrees_where (escape ∷ b ∷ t) (opens_control_string b) _ _ _ _ (λ opens. string_agrees b t not_control) (λ no_string. escape_agrees b t not_control))

-- The first piece.

-- t begins with this piece, and this is left after it
pub record IsFront (t : List ℕ) (f : Front) (p : Piece) (rest : List ℕ) : Type 0 where
  pub kind : f.kind ≡ kind_of p
  pub spelled : spelling p ≡ take f.len t
  pub left : rest ≡ drop f.len t
  pub inside : f.len ≤ length t

escape_front : (t : List ℕ) (o : Option Front) (b : Option (List ℕ)) → Agrees (escape ∷ t) o b
    → (let first = option_map_or (λ rest. (Sequence (take (length (escape ∷ t) - length rest) (escape ∷ t)), rest)) b (text_or_lone (escape ∷ t)) in
    IsFront (escape ∷ t) (unwrap_or o (front_of Lone 1)) first.0 first.1)
escape_front t None None agrees = record { kind = refl; spelled = refl; left = refl; inside = omega arith }
escape_front t None (Some rest) agrees = absurd agrees
escape_front t (Some f) None agrees = absurd agrees
escape_front t (Some f) (Some rest) agrees =
    let len : length (escape ∷ t) - length rest ≡ f.len = omega (arith, ap length agrees.0, length-drop f.len (escape ∷ t), agrees.1) in
    let word : take (length (escape ∷ t) - length rest) (escape ∷ t) ≡ take f.len (escape ∷ t) = ap (λ k. take k (escape ∷ t)) len in
    record { kind = agrees.2 ∙ ap (λ v. kind_of (Sequence v)) (sym word); spelled = word; left = agrees.0; inside = agrees.1 }

-- what the code reads at the front is the first piece
pub front_is_first : (b : ℕ) (bs : List ℕ) → IsFront (b ∷ bs) (front_at (b ∷ bs)) (first_piece (b ∷ bs)).0 (first_piece (b ∷ bs)).1
unfolding front_at
front_is_first b bs = elim (cases_Bool (b == escape)) [
  | inl is ↦ subst (λ x. IsFront (x ∷ bs) (front_at (x ∷ bs)) (first_piece (x ∷ bs)).0 (first_piece (x ∷ bs)).1) (sym (eqb-true b escape is))
      (escape_front bs (sequence_at (escape ∷ bs)) (after_sequence (escape ∷ bs)) (sequence_agrees bs))
  | inr other ↦ plain_front other
]
  where
    plain_front : (b == escape) ≡ false → IsFront (b ∷ bs) (front_at (b ∷ bs)) (first_piece (b ∷ bs)).0 (first_piece (b ∷ bs)).1
    plain_front other =
        let t = b ∷ bs in
        let n = prefix_len is_plain_byte t in
        let front : front_at t ≡ front_of Text n = cond-false (b == escape) _ _ other in
        let none : after_sequence t ≡ None = cond-false (b == escape) _ _ other in
        let first : first_piece t ≡ (Text (take n t), drop n t)
        = ap (λ o. option_map_or (λ rest. (Sequence (take (length t - length rest) t), rest)) o (text_or_lone t)) none ∙ cond-true (is_plain_byte b) _ _ (ap not other) in
        let G : Piece × List ℕ → Type 0 = λ p. IsFront t (front_of Text n) p.0 p.1 in
        subst (λ f. IsFront t f (first_piece t).0 (first_piece t).1) (sym front)
        (subst G (sym first) (record { kind = refl; spelled = refl; left = refl; inside = prefix_len-le-length is_plain_byte t }))

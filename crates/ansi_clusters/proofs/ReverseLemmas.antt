-- The last run of a text, and the text before the mark that it follows.
use Rattle.std.proofs.Common.{◌≡◌, ◌≢◌, ℕ, zero, suc, ◌+◌, ◌-◌, ◌<◌, ◌≤◌, ◌⊎◌, inl, inr, Bool, true, List, [], ◌∷◌, ◌++◌, length, take, drop, refl, sym, ◌∙◌, ap, ap₂, subst, arith, length-append, append_assoc, IsTrue, slice_index}
use Rattle.std.specs.Str.{byte}
use Rattle.std.specs.List.{list_all}
use Rattle.std.proofs.lemmas.Bool.{cases_lt, and_parts, and_from}
use Rattle.std.proofs.lemmas.Bool.Decides.{nat_tests}
use Rattle.std.proofs.lemmas.List.Folds.{list_all-append}
use Rattle.std.proofs.lemmas.Grind.{flat_map-append}
use Rattle.std.proofs.lemmas.List.{take-append-le, take-append-drop, drop_at, drop-drop}
use Rattle.ansi_items.specs.Bytes.{escape, bell, is_plain_byte, is_final_byte, is_escape_final_byte, opens_control_string, opens_command}
use Rattle.ansi_items.specs.Sequences.{IsSequence}
use Rattle.ansi_items.specs.Pieces.{Piece, Text, Sequence, LoneEscape, spelling, StandsBefore, ArePieces, pieces_of}
use Rattle.ansi_items.specs.Plain.{plain_of, plain, plain_bytes}
use Rattle.ansi_items.proofs.PieceLemmas.{pieces_are, pieces_of-unique}
use Rattle.ansi_items.proofs.PlainLemmas.{has_escape-bare, plain-bare}
use Rattle.ansi_search.proofs.OffsetLemmas.{take-after}
use Rattle.ansi_items.proofs.BetweenLemmas.{parameter_is_plain, intermediate_is_plain, body_is_plain}

-- An ESC inside a sequence is the terminator of a control string.

all-map : (p q : ℕ → Bool) → ((b : ℕ) → p b ≡ true → q b ≡ true) → (x : List ℕ) → list_all p x ≡ true → list_all q x ≡ true
all-map p q from [] all = refl
all-map p q from (b ∷ x) all = (let parts = and_parts (p b) (list_all p x) all in and_from _ _ (from b parts.0) (all-map p q from x parts.1))

-- an ESC among plain bytes
not_plain_if_escape : (s more : List ℕ) → ¬ (list_all is_plain_byte (s ++ escape ∷ more) ≡ true)
not_plain_if_escape [] more all = absurd (cc (and_parts (is_plain_byte escape) (list_all is_plain_byte more) all).0)
not_plain_if_escape (b ∷ s) more all = not_plain_if_escape s more (and_parts (is_plain_byte b) (list_all is_plain_byte (s ++ escape ∷ more)) all).1

abbrev pub head_of : List ℕ → ℕ
head_of [] = 0
head_of (b ∷ x) = b

abbrev rest_of : List ℕ → List ℕ
rest_of [] = []
rest_of (b ∷ x) = x

-- an ESC with plain bytes alone around it is the only one
only_escape : (s x more y : List ℕ) → list_all is_plain_byte x ≡ true → list_all is_plain_byte y ≡ true → s ++ escape ∷ more ≡ x ++ escape ∷ y → (s ≡ x) × (more ≡ y)
only_escape [] [] more y px py e = (refl, ap rest_of e)
only_escape [] (b ∷ x) more y px py e =
    absurd (not_plain_if_escape [] x (subst (λ c. list_all is_plain_byte (c ∷ x) ≡ true) (sym (ap head_of e)) px))
only_escape (c ∷ s) [] more y px py e = absurd (not_plain_if_escape s more (ap (list_all is_plain_byte) (ap rest_of e) ∙ py))
only_escape (c ∷ s) (b ∷ x) more y px py e =
    let both = only_escape s x more y (and_parts (is_plain_byte b) (list_all is_plain_byte x) px).1 py (ap rest_of e) in
    (ap₂ (λ h t. h ∷ t) (ap head_of e) both.0, both.1)

-- the last ESC is one
last_escape : (x y s r : List ℕ) → list_all is_plain_byte s ≡ true → list_all is_plain_byte r ≡ true → x ++ escape ∷ s ≡ y ++ escape ∷ r → s ≡ r
last_escape [] [] s r ps pr e = ap rest_of e
last_escape [] (b ∷ y) s r ps pr e = absurd (not_plain_if_escape y r (ap (list_all is_plain_byte) (sym (ap rest_of e)) ∙ ps))
last_escape (a ∷ x) [] s r ps pr e = absurd (not_plain_if_escape x s (ap (list_all is_plain_byte) (ap rest_of e) ∙ pr))
last_escape (a ∷ x) (b ∷ y) s r ps pr e = last_escape x y s r ps pr (ap rest_of e)

-- If an ESC is inside a sequence, the sequence is a control string, and the ESC begins its terminator.
pub record EndsAString (s more : List ℕ) : Type 0 where
  pub end : more ≡ byte "\\" ∷ []
  pub bytes : list_all is_plain_byte s ≡ true
  pub opener : ℕ
  pub body : List ℕ
  pub begins : s ≡ opener ∷ body
  pub opens : opens_control_string opener ≡ true

final_is_plain : (b : ℕ) → is_final_byte b ≡ true → is_plain_byte b ≡ true
final_is_plain b is = grind (arith, nat_tests)

escape_final_is_plain : (b : ℕ) → is_escape_final_byte b ≡ true → is_plain_byte b ≡ true
escape_final_is_plain b is = grind (arith, nat_tests)

opener_is_plain : (o : ℕ) → opens_control_string o ≡ true → is_plain_byte o ≡ true
opener_is_plain o is = grind (arith, nat_tests)

plain-append : (x y : List ℕ) → list_all is_plain_byte x ≡ true → list_all is_plain_byte y ≡ true → list_all is_plain_byte (x ++ y) ≡ true
plain-append x y px py = list_all-append is_plain_byte x y ∙ and_from _ _ px py

plain-cons : (b : ℕ) (y : List ℕ) → is_plain_byte b ≡ true → list_all is_plain_byte y ≡ true → list_all is_plain_byte (b ∷ y) ≡ true
plain-cons b y pb py = and_from _ _ pb py

pub escape_inside : (s more : List ℕ) → IsSequence (escape ∷ s ++ escape ∷ more) → EndsAString s more
escape_inside s more (inl c) =
    let front = plain-append c.parameters c.intermediates (all-map _ _ parameter_is_plain c.parameters c.are_parameters) (all-map _ _ intermediate_is_plain c.intermediates c.are_intermediates) in
    let tail = plain-append (c.parameters ++ c.intermediates) (c.final ∷ []) front (plain-cons c.final [] (final_is_plain c.final c.is_final) refl) in
    absurd (not_plain_if_escape s more (ap (list_all is_plain_byte) (ap rest_of c.spelled) ∙ plain-cons (byte "[") (c.parameters ++ c.intermediates ++ c.final ∷ []) refl tail))
escape_inside s more (inr (inr c)) =
    let tail = plain-append c.intermediates (c.final ∷ []) (all-map _ _ intermediate_is_plain c.intermediates c.are_intermediates) (plain-cons c.final [] (escape_final_is_plain c.final c.is_final) refl) in
    absurd (not_plain_if_escape s more (ap (list_all is_plain_byte) (ap rest_of c.spelled) ∙ tail))
escape_inside s more (inr (inl c)) =
    let o = c.opener in
    let front = plain-cons o c.body (opener_is_plain o c.opens) (all-map _ _ (body_is_plain o) c.body c.is_body) in
    by_end front c.ends
  where
    by_end : list_all is_plain_byte (c.opener ∷ c.body) ≡ true → (c.terminator ≡ escape ∷ byte "\\" ∷ []) ⊎ (IsTrue (opens_command c.opener) × (c.terminator ≡ bell ∷ [])) → EndsAString s more
    by_end front (inl string) =
        let both = only_escape s (c.opener ∷ c.body) more (byte "\\" ∷ []) front refl (ap rest_of c.spelled ∙ ap (λ u. (c.opener ∷ c.body) ++ u) string) in
        record { end = both.1; bytes = ap (list_all is_plain_byte) both.0 ∙ front; opener = c.opener; body = c.body; begins = both.0; opens = c.opens }
    by_end front (inr bell_ends) =
        absurd (not_plain_if_escape s more (ap (list_all is_plain_byte) (ap rest_of c.spelled) ∙ plain-append (c.opener ∷ c.body) c.terminator front (ap (list_all is_plain_byte) bell_ends.1)))

-- No sequence that begins at an ESC of u goes on past its end.
abbrev pub Unreached : List ℕ → List ℕ → Type 0
Unreached u v = (x s : List ℕ) → u ≡ x ++ escape ∷ s → (n : ℕ) → suc (length s) < n → ¬ (IsSequence (take n ((escape ∷ s) ++ v)))

divided_are : (u v : List ℕ) (ps qs : List Piece) → ArePieces u ps → ArePieces (escape ∷ v) qs → Unreached u (escape ∷ v) → ArePieces (u ++ escape ∷ v) (ps ++ qs)
divided_are u v [] qs are more unreached = subst (λ w. ArePieces (w ++ escape ∷ v) qs) (sym are) more
divided_are u v (p ∷ ps) qs are more unreached =
    let rest = are.0 in
    let after : Unreached rest (escape ∷ v) = λ x s e. unreached (spelling p ++ x) s (are.1 ∙ ap (λ w. spelling p ++ w) e ∙ sym (append_assoc (spelling p) x (escape ∷ s))) in (
      rest ++ escape ∷ v,
      ap (λ w. w ++ escape ∷ v) are.1 ∙ append_assoc (spelling p) rest (escape ∷ v),
      stands p rest are.1 are.2,
      divided_are rest v ps qs are.3 more after,
    )
  where
    begins : (rest : List ℕ) → (rest ≢ [] → slice_index rest 0 ≡ escape) → slice_index (rest ++ escape ∷ v) 0 ≡ escape
    begins [] after = refl
    begins (b ∷ rest) after = after (λ e. cc)

    stands : (p : Piece) (rest : List ℕ) → u ≡ spelling p ++ rest → StandsBefore p rest → StandsBefore p (rest ++ escape ∷ v)
    stands (Text w) rest e is = (is.0, is.1, λ some. begins rest is.2)
    stands (Sequence w) rest e is = is
    stands LoneEscape rest e is = λ n whole. elim (cases_lt (suc (length rest)) n) [
      | inl past ↦ unreached [] rest e n past whole
      | inr within ↦ is n (subst IsSequence (take-append-le n (escape ∷ rest) (escape ∷ v) within) whole)
    ]

pub plain-divided : (u v : List ℕ) → Unreached u (escape ∷ v) → plain (u ++ escape ∷ v) ≡ plain u ++ plain (escape ∷ v)
plain-divided u v unreached =
    ap plain_of (sym (pieces_of-unique _ _ (divided_are u v (pieces_of u) (pieces_of (escape ∷ v)) (pieces_are u) (pieces_are (escape ∷ v)) unreached)))
    ∙ flat_map-append plain_bytes (pieces_of u) (pieces_of (escape ∷ v))

-- if u has no ESC
pub unreached-none : (u v : List ℕ) → list_all is_plain_byte u ≡ true → Unreached u v
unreached-none u v all x s e n past whole = not_plain_if_escape x s (ap (list_all is_plain_byte) (sym e) ∙ all)

-- a sequence that goes on past s and an ESC
pub take-past_escape : (s v : List ℕ) (n : ℕ) → suc (length s) < n → take n ((escape ∷ s) ++ escape ∷ v) ≡ escape ∷ (s ++ escape ∷ take (n - suc (suc (length s))) v)
take-past_escape s v n past =
    let all : n ≡ length (escape ∷ s) + suc (n - suc (suc (length s))) = omega arith in
    ap (λ i. take i ((escape ∷ s) ++ escape ∷ v)) all ∙ take-after (escape ∷ s) (escape ∷ v) (suc (n - suc (suc (length s))))

pub first_sequence : (w rest : List ℕ) → IsSequence w → pieces_of (w ++ rest) ≡ Sequence w ∷ pieces_of rest
first_sequence w rest whole = sym (pieces_of-unique (w ++ rest) (Sequence w ∷ pieces_of rest) (rest, refl, whole, pieces_are rest))

abbrev pub first_of : List Piece → List ℕ
first_of [] = []
first_of (p ∷ ps) = spelling p

-- if the last ESC of u begins no sequence that goes on past its end
pub unreached-last : (front s v : List ℕ) (p : Piece) (ps : List Piece) → list_all is_plain_byte s ≡ true
    → pieces_of ((escape ∷ s) ++ escape ∷ v) ≡ p ∷ ps → length (spelling p) ≤ suc (length s) → Unreached (front ++ escape ∷ s) (escape ∷ v)
unreached-last front s v p ps plain first short x r e n past whole =
    let k = n - suc (suc (length r)) in
    let found = subst IsSequence (take-past_escape r v n past) whole in
    let inside = escape_inside r (take k v) found in
    let same : r ≡ s = last_escape x front r s inside.bytes plain (sym e) in
    let w = escape ∷ (s ++ escape ∷ take k v) in
    let is : IsSequence w = subst (λ y. IsSequence (escape ∷ (y ++ escape ∷ take k v))) same found in
    let whole_text : w ++ drop k v ≡ (escape ∷ s) ++ escape ∷ v = ap (λ y. escape ∷ y) (append_assoc s (escape ∷ take k v) (drop k v) ∙ ap (λ y. s ++ escape ∷ y) (take-append-drop k v)) in
    let begins : spelling p ≡ w = ap first_of (sym first ∙ ap pieces_of (sym whole_text) ∙ first_sequence w (drop k v) is) in
    absurd (omega (arith, short, ap length begins, length-append s (escape ∷ take k v)))

-- if what follows is a control string that ends with ESC `\`
pub unreached-string : (u s more rest : List ℕ) → IsSequence (escape ∷ (s ++ escape ∷ more)) → Unreached u (escape ∷ ((s ++ escape ∷ more) ++ rest))
unreached-string u s more rest string x r e n past whole =
    let v = (s ++ escape ∷ more) ++ rest in
    let k = n - suc (suc (length r)) in
    let inside = escape_inside r (take k v) (subst IsSequence (take-past_escape r v n past) whole) in
    let outer = escape_inside s more string in
    let same : take k (outer.opener ∷ (outer.body ++ escape ∷ more) ++ rest) ≡ byte "\\" ∷ [] = ap (λ y. take k ((y ++ escape ∷ more) ++ rest)) (sym outer.begins) ∙ inside.end in
    not_opener k outer.opener _ outer.opens same
  where
    not_opener : (k o : ℕ) (y : List ℕ) → opens_control_string o ≡ true → take k (o ∷ y) ≡ byte "\\" ∷ [] → ⊥
    not_opener zero o y opens e = cc
    not_opener (suc k) o y opens e = (let no : opens_control_string (byte "\\") ≡ true = ap opens_control_string (sym (ap head_of e)) ∙ opens in cc)

-- A mark at an offset, with no ESC after it.
pub mark-plain : (t : List ℕ) (at n : ℕ) (p : Piece) (ps : List Piece) (v : List ℕ) → drop at t ≡ escape ∷ v → Unreached (take at t) (escape ∷ v) → pieces_of (drop at t) ≡ p ∷ ps → n ≡ length (spelling p)
    → list_all is_plain_byte (drop (at + n) t) ≡ true → plain t ≡ plain (take at t) ++ drop (at + n) t
mark-plain t at n p ps v from unreached first len all =
    let are = subst (ArePieces (drop at t)) first (pieces_are (drop at t)) in
    let rest : drop (at + n) t ≡ are.0 = sym (drop-drop n at t ∙ ap (λ i. drop i t) (omega arith)) ∙ ap₂ drop len are.1 ∙ drop_at (spelling p) are.0 (length (spelling p)) refl in
    let bare : plain are.0 ≡ are.0 = plain-bare are.0 (has_escape-bare are.0 (ap (list_all is_plain_byte) (sym rest) ∙ all)) in
    let after : plain (drop at t) ≡ are.0 = ap plain_of first ∙ mark p are.0 are.2 (sym are.1 ∙ from) ∙ ap plain_of (pieces_of-unique are.0 ps are.3) ∙ bare in
    ap plain (sym (take-append-drop at t) ∙ ap (λ w. take at t ++ w) from) ∙ plain-divided (take at t) v unreached
    ∙ ap (λ w. plain (take at t) ++ w) (ap plain (sym from) ∙ after ∙ sym rest)
  where
    mark : (p : Piece) (rest : List ℕ) → StandsBefore p rest → spelling p ++ rest ≡ escape ∷ v → plain_of (p ∷ ps) ≡ plain_of ps
    mark (Text []) rest stands e = absurd (stands.0 refl)
    mark (Text (b ∷ w)) rest stands e = absurd (not_plain_if_escape [] w (subst (λ c. list_all is_plain_byte (c ∷ w) ≡ true) (ap head_of e) stands.1))
    mark (Sequence w) rest stands e = refl
    mark LoneEscape rest stands e = refl

-- A sequence that may stay is ASCII, so texts of good pieces are UTF-8.
use Rattle.std.proofs.Common.{◌≡◌, ℕ, zero, suc, ◌-◌, ◌<◌, ◌≤◌, inl, inr, Bool, true, false, ◌&&◌, ◌||◌, List, [], ◌∷◌, ◌++◌, All, length, length-append, take, drop, nat_eq, nat_lt, if◌then◌else◌, is_some, Some, None, refl, sym, ◌∙◌, ap, subst, eqb-true, arith}
use Rattle.std.specs.Cmp.Lexicographic.{pointwise}
use Rattle.std.specs.List.{list_all, starts_with}
use Rattle.std.specs.Prelude.{slice_range}
use Rattle.std.specs.Str.{byte, IsUtf8}
use Rattle.std.proofs.Math.Seq.{drop-append_seam}
use Rattle.std.proofs.lemmas.Bool.{cases_Bool, and_parts, and_from, ltb-true}
use Rattle.std.proofs.lemmas.Bool.Decides.{nat_tests}
use Rattle.std.proofs.lemmas.List.Elements.{All-nil, All-cons}
use Rattle.std.proofs.lemmas.List.Folds.{list_all-append}
use Rattle.std.proofs.lemmas.Str.{IsUtf8-nil, IsUtf8-append, IsUtf8-from_ascii}
use Rattle.std.proofs.lemmas.Str.Ascii.{IsAscii-from_all}
use Rattle.ansi_items.specs.Bytes.{escape, bell, is_parameter_byte, is_intermediate_byte, is_final_byte, is_escape_final_byte, opens_control_string}
use Rattle.ansi_items.specs.Sequences.{IsControlSequence, IsControlString, IsEscapeSequence, IsSequence, is_sgr}
use Rattle.ansi_items.specs.Pieces.{Piece, Text, Sequence, LoneEscape}
use Rattle.ansi_items.proofs.JoinLemmas.{spelled}
use Rattle.ansi_safe.specs.declared.policy.Links.TheVariants.{Keep}
use Rattle.ansi_safe.specs.Links.{terminator_len, is_short_link}
use Rattle.ansi_safe.specs.Safe.{is_printable_byte, is_clean_link, may_stay}
use Rattle.ansi_safe.proofs.SafeLemmas.{AreGood}

abbrev is_ascii : ℕ → Bool
is_ascii b = nat_lt b 128

ascii-utf8 : (w : List ℕ) → list_all is_ascii w ≡ true → IsUtf8 w
ascii-utf8 w all = IsUtf8-from_ascii w (IsAscii-from_all w (small w all))
  where
    small : (w : List ℕ) → list_all is_ascii w ≡ true → All (λ b. b < 128) w
    small [] all = All-nil (λ b. b < 128)
    small (b ∷ w) all =
        let both = and_parts (is_ascii b) (list_all is_ascii w) all in
        All-cons (λ b. b < 128) b w (ltb-true b 128 both.0) (small w both.1)

all-ascii : (test : ℕ → Bool) → ((b : ℕ) → test b ≡ true → is_ascii b ≡ true) → (w : List ℕ) → list_all test w ≡ true → list_all is_ascii w ≡ true
all-ascii test each [] all = refl
all-ascii test each (b ∷ w) all =
    let both = and_parts (test b) (list_all test w) all in
    and_from _ _ (each b both.0) (all-ascii test each w both.1)

joined : (u v : List ℕ) → list_all is_ascii u ≡ true → list_all is_ascii v ≡ true → list_all is_ascii (u ++ v) ≡ true
joined u v first second = list_all-append is_ascii u v ∙ and_from _ _ first second

parameter-ascii : (b : ℕ) → is_parameter_byte b ≡ true → is_ascii b ≡ true
parameter-ascii b is = grind (arith, nat_tests)

intermediate-ascii : (b : ℕ) → is_intermediate_byte b ≡ true → is_ascii b ≡ true
intermediate-ascii b is = grind (arith, nat_tests)

final-ascii : (b : ℕ) → is_final_byte b ≡ true → is_ascii b ≡ true
final-ascii b is = grind (arith, nat_tests)

escape_final-ascii : (b : ℕ) → is_escape_final_byte b ≡ true → is_ascii b ≡ true
escape_final-ascii b is = grind (arith, nat_tests)

opener-ascii : (b : ℕ) → opens_control_string b ≡ true → is_ascii b ≡ true
opener-ascii b is = grind (arith, nat_tests)

printable-ascii : (b : ℕ) → is_printable_byte b ≡ true → is_ascii b ≡ true
printable-ascii b is = grind (arith, nat_tests)

control_sequence-ascii : (w : List ℕ) → IsControlSequence w → list_all is_ascii w ≡ true
control_sequence-ascii w s =
    let front = joined s.parameters s.intermediates (all-ascii is_parameter_byte parameter-ascii s.parameters s.are_parameters) (all-ascii is_intermediate_byte intermediate-ascii s.intermediates s.are_intermediates) in
    subst (λ v. list_all is_ascii v ≡ true) (sym s.spelled) (joined (s.parameters ++ s.intermediates) (s.final ∷ []) front (and_from _ _ (final-ascii s.final s.is_final) refl))

escape_sequence-ascii : (w : List ℕ) → IsEscapeSequence w → list_all is_ascii w ≡ true
escape_sequence-ascii w s =
    subst (λ v. list_all is_ascii v ≡ true) (sym s.spelled)
    (joined s.intermediates (s.final ∷ []) (all-ascii is_intermediate_byte intermediate-ascii s.intermediates s.are_intermediates) (and_from _ _ (escape_final-ascii s.final s.is_final) refl))

-- A control string is no SGR; if it is a clean link, its body is printable ASCII.

first_true : (a b c d : Bool) (x : List ℕ) → is_some (if a && b && c && d then Some x else None) ≡ true → a ≡ true
first_true true b c d x is = refl
first_true false b c d x is = absurd (cc is)

string-no_sgr : (o : ℕ) (v : List ℕ) → opens_control_string o ≡ true → is_sgr (escape ∷ o ∷ v) ≡ true → ⊥
string-no_sgr o v opens sgr =
    let begins : starts_with nat_eq (escape ∷ o ∷ v) (escape ∷ byte "[" ∷ []) ≡ true = first_true (starts_with nat_eq (escape ∷ o ∷ v) (escape ∷ byte "[" ∷ [])) _ _ _ _ sgr in
    let bracket : 0x5B ≡ o = eqb-true 0x5B o (and_parts (nat_eq 0x5B o) true begins).0 in
    let no : false ≡ true = subst (λ b. opens_control_string b ≡ true) (sym bracket) opens in
    cc no

front-all : (test : ℕ → Bool) (n : ℕ) (u v : List ℕ) → length u ≤ n → list_all test (take n (u ++ v)) ≡ true → list_all test u ≡ true
front-all test n [] v within all = refl
front-all test zero (b ∷ u) v within all = absurd (omega (arith, within))
front-all test (suc n) (b ∷ u) v within all =
    let both = and_parts (test b) (list_all test (take n (u ++ v))) all in
    and_from _ _ both.0 (front-all test n u v (omega (arith, within)) both.1)

body-printable : (o : ℕ) (body end : List ℕ) → terminator_len (escape ∷ o ∷ (body ++ end)) ≤ length end → is_clean_link (escape ∷ o ∷ (body ++ end)) ≡ true → list_all is_printable_byte body ≡ true
body-printable o body end short clean =
    let w = escape ∷ o ∷ (body ++ end) in
    let n = length w - terminator_len w in
    front-all is_printable_byte (n - 2) body end (omega (arith, short, length-append body end)) (and_parts (is_short_link w) (list_all is_printable_byte (slice_range w 2 n)) clean).1

one_or_two : (b : Bool) → (if b then 1 else 2) ≤ 2
one_or_two true = omega arith
one_or_two false = omega arith

bell-len : (u : List ℕ) → terminator_len (u ++ 7 ∷ []) ≤ 1
bell-len u =
    let w = u ++ 7 ∷ [] in
    let at : length w - 1 ≡ length u = omega (arith, length-append u (7 ∷ [])) in
    let last : drop (length w - 1) w ≡ 7 ∷ [] = ap (λ n. drop n w) at ∙ drop-append_seam u (7 ∷ []) in
    let one : terminator_len w ≡ 1 = ap (λ v. if pointwise nat_eq (7 ∷ []) v then 1 else 2) last in
    omega (arith, one)

string-ascii : (o : ℕ) (body end : List ℕ) → opens_control_string o ≡ true → list_all is_ascii end ≡ true → terminator_len (escape ∷ o ∷ (body ++ end)) ≤ length end → may_stay Keep (Sequence (escape ∷ o ∷ (body ++ end))) ≡ true
    → list_all is_ascii (escape ∷ o ∷ (body ++ end)) ≡ true
string-ascii o body end opens ends short may =
    let w = escape ∷ o ∷ (body ++ end) in
    elim (cases_Bool (is_sgr w)) [
      | inl sgr ↦ absurd (string-no_sgr o (body ++ end) opens sgr)
      | inr other ↦
          let clean : is_clean_link w ≡ true = sym (ap (λ b. b || is_clean_link w) other) ∙ may in
          and_from (is_ascii o) (list_all is_ascii (body ++ end)) (opener-ascii o opens) (joined body end (all-ascii is_printable_byte printable-ascii body (body-printable o body end short clean)) ends)
    ]

control_string-ascii : (w : List ℕ) → IsControlString w → may_stay Keep (Sequence w) ≡ true → list_all is_ascii w ≡ true
control_string-ascii w s may = elim s.ends [
  | inl st ↦
      let is = s.spelled ∙ ap (λ v. escape ∷ s.opener ∷ (s.body ++ v)) st in
      subst (λ v. list_all is_ascii v ≡ true) (sym is) (string-ascii s.opener s.body (escape ∷ byte "\\" ∷ []) s.opens refl (one_or_two _) (subst (λ v. may_stay Keep (Sequence v) ≡ true) is may))
  | inr bel ↦
      let is = s.spelled ∙ ap (λ v. escape ∷ s.opener ∷ (s.body ++ v)) bel.1 in
      subst (λ v. list_all is_ascii v ≡ true) (sym is) (string-ascii s.opener s.body (bell ∷ []) s.opens refl (bell-len (escape ∷ s.opener ∷ s.body)) (subst (λ v. may_stay Keep (Sequence v) ≡ true) is may))
]

sequence-ascii : (w : List ℕ) → IsSequence w → may_stay Keep (Sequence w) ≡ true → list_all is_ascii w ≡ true
sequence-ascii w (inl s) may = control_sequence-ascii w s
sequence-ascii w (inr (inl s)) may = control_string-ascii w s may
sequence-ascii w (inr (inr s)) may = escape_sequence-ascii w s

pub good-utf8 : (ps : List Piece) → AreGood Keep ps → IsUtf8 (spelled ps)
good-utf8 [] good = IsUtf8-nil
good-utf8 (Text w ∷ ps) good = IsUtf8-append w (spelled ps) good.0.2 (good-utf8 ps good.1)
good-utf8 (Sequence w ∷ ps) good = IsUtf8-append w (spelled ps) (ascii-utf8 w (sequence-ascii w good.0.0 good.0.1)) (good-utf8 ps good.1)
good-utf8 (LoneEscape ∷ ps) good = absurd good.0

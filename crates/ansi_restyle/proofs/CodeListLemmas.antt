-- A list of codes with semicolons between: how it is written, and that it does what its codes do one after another.
use Rattle.std.proofs.Common.{◌≡◌, ◌≢◌, ℕ, zero, suc, ◌<◌, inl, inr, Bool, true, false, not, ◌&&◌, ◌||◌, ◌==◌, nat_le, List, [], ◌∷◌, ◌++◌, flat_map, length, drop, get_or, Option, Some, None, refl, sym, ◌∙◌, ap, ap₂, subst, arith, lit<, codes, decimal, IfSome, IsTrue, length-append, append_assoc, append-nil}
use Rattle.std.proofs.Math.Bool.{and-true, or-true}
use Rattle.std.proofs.lemmas.Bool.{agree_below_at, and_from, and_parts, cases_Bool, leb-true, not-true, true≢false}
use Rattle.std.proofs.lemmas.List.Folds.{list_all-append}
use Rattle.std.proofs.lemmas.List.Splits.{slice_split-cons_no, slice_split-cons_yes, slice_split_at, slice_split_none, length-slice_split}
use Rattle.std.proofs.lemmas.List.Sums.{AllPass-from_list_all}
use Rattle.std.proofs.lemmas.Str.{IsCharBoundary-before_ascii, IsCharBoundary-end}
use Rattle.std.proofs.lemmas.Str.Pattern.{IsSplitOnceResult, split_after, split_parts}
unfoldable use Rattle.std.specs.Fmt.{digits}
use Rattle.std.specs.Int.{is_in_range}
use Rattle.std.specs.List.{All, list_all, slice_index_or, slice_split, onto_first, join_by}
use Rattle.std.specs.Option.{option_map_or}
use Rattle.std.specs.Str.{byte, IsCharBoundary}
use Rattle.ansi_items.specs.Bytes.{escape}
use Rattle.ansi_items.specs.declared.ansitok.AnsiColor.{AnsiColor}
use Rattle.ansi_items.specs.declared.ansitok.AnsiColor.TheVariants.{Bit24, Bit4, Bit8}
use Rattle.ansi_style.specs.declared.state.rendition.Rendition.{Rendition}
use Rattle.ansi_style.specs.Rendition.{IsStyle, plain_style, known, is_foreground, is_background, is_extended_color}
use Rattle.ansi_style.specs.Sgr.{Effect, Changes, ReadsColor, effect_of, is_code, color_number, read_color, perform, step, fields_of, apply}
use Rattle.ansi_style.specs.Written.{written, written_all, code_if, color_code, color_codes, font_codes, start_codes}
use Rattle.ansi_style.proofs.ColorLemmas.{IsByteColor-foreground, IsByteColor-background, IsByteColor-extended, sgr_parameters-written}
use Rattle.ansi_style.proofs.StateLemmas.{after_fields, after_fields-step, apply-parameters}
use Rattle.ansi_style.proofs.ReadBackLemmas.{apply_codes, start_codes_are}
use Rattle.ansi_style.proofs.StartLemmas.{start_codes_set}
use Rattle.ansi_restyle.specs.Restyled.{is_change}
use Rattle.ansi_restyle.specs.Styles.{codes_of, selected}
use denote.Ref.{Bor}

-- Codes with semicolons between are a change.

abbrev pub joined : List (List ℕ) → List ℕ
joined xs = join_by (λ code. code) (codes ";") xs

-- the codes after the first, with the separator before the next
abbrev pub joined_after : List ℕ → List (List ℕ) → List ℕ
joined_after separator [] = []
joined_after separator (x ∷ xs) = separator ++ x ++ flat_map (λ code. codes ";" ++ code) xs

joined_after-none : (xs : List (List ℕ)) → joined_after [] xs ≡ joined xs
joined_after-none [] = refl
joined_after-none (x ∷ xs) = refl

joined_after-semicolon : (xs : List (List ℕ)) → joined_after (codes ";") xs ≡ flat_map (λ code. codes ";" ++ code) xs
joined_after-semicolon [] = refl
joined_after-semicolon (x ∷ xs) = refl

is_change-joined : (xs : List (List ℕ)) → list_all is_change xs ≡ true → is_change (joined xs) ≡ true
is_change-joined [] each = refl
is_change-joined (x ∷ xs) each =
    let both = and_parts (is_change x) (list_all is_change xs) each in
    list_all-append _ x (flat_map (λ code. codes ";" ++ code) xs) ∙ and_from _ _ both.0 (more xs both.1)
  where
    more : (xs : List (List ℕ)) → list_all is_change xs ≡ true → is_change (flat_map (λ code. codes ";" ++ code) xs) ≡ true
    more [] each = refl
    more (x ∷ xs) each =
        let both = and_parts (is_change x) (list_all is_change xs) each in
        list_all-append _ x (flat_map (λ code. codes ";" ++ code) xs) ∙ and_from _ _ both.0 (more xs both.1)

pub is_change-codes_of : (s : Rendition) → IsStyle s → is_change (codes_of s) ≡ true
is_change-codes_of s is = is_change-joined (start_codes s) (start_codes_are s is).each

-- How far the codes have been written.

-- what is written, and the codes of the sequences that are left, are all
pub record IsJoinedSoFar (whole done separator rest : List ℕ) : Type 0 where
  pub left : List (List ℕ)
  pub rest_is : rest ≡ written_all left
  pub each : list_all is_change left ≡ true
  pub so_far : done ++ joined_after separator left ≡ whole

pub joined-begun : (s : Rendition) (done rest : List ℕ) → IsStyle s → done ≡ [] → rest ≡ written_all (start_codes s) → IsJoinedSoFar (codes_of s) done [] rest
joined-begun s done rest is none same = record {
  left = start_codes s;
  rest_is = same;
  each = (start_codes_are s is).each;
  so_far = ap (λ u. u ++ joined_after [] (start_codes s)) none ∙ joined_after-none (start_codes s);
}

-- the sequences that are left begin with that of this code
record Begins (rest : List ℕ) (x : List ℕ) (xs : List (List ℕ)) : Type 0 where
  spelled : rest ≡ (escape ∷ byte "[" ∷ x) ++ (byte "m" ∷ written_all xs)
  no_m : (i : ℕ) → i < length (escape ∷ byte "[" ∷ x) → get_or (escape ∷ byte "[" ∷ x) i 0 ≢ byte "m"

no_m-change : (x : List ℕ) → is_change x ≡ true → (i : ℕ) → i < length x → get_or x i 0 ≢ byte "m"
no_m-change [] is i below = absurd (omega arith)
no_m-change (b ∷ x) is zero below =
    λ same. (let first = (and_parts (is_in_range 0x30 0x3B b) (is_change x) is).0 in absurd (true≢false (sym first ∙ ap (is_in_range 0x30 0x3B) same)))
no_m-change (b ∷ x) is (suc i) below = no_m-change x (and_parts (is_in_range 0x30 0x3B b) (is_change x) is).1 i (omega (arith, below))

no_m-sequence : (x : List ℕ) → is_change x ≡ true → (i : ℕ) → i < length (escape ∷ byte "[" ∷ x) → get_or (escape ∷ byte "[" ∷ x) i 0 ≢ byte "m"
no_m-sequence x is zero below = λ same. absurd (true≢false (sym (ap (λ b. b == byte "m") same)))
no_m-sequence x is (suc zero) below = λ same. absurd (true≢false (sym (ap (λ b. b == byte "m") same)))
no_m-sequence x is (suc (suc i)) below = no_m-change x is i (omega (arith, below))

begins : (rest : List ℕ) (x : List ℕ) (xs : List (List ℕ)) → rest ≡ written_all (x ∷ xs) → is_change x ≡ true → Begins rest x xs
begins rest x xs same is = record {
  spelled = same ∙ ap (λ u. escape ∷ byte "[" ∷ u) (append_assoc x (byte "m" ∷ []) (written_all xs));
  no_m = no_m-sequence x is;
}

boundary-change : (x : List ℕ) → is_change x ≡ true → IsCharBoundary (escape ∷ byte "[" ∷ x) 2
boundary-change [] is = IsCharBoundary-end (escape ∷ byte "[" ∷ [])
boundary-change (b ∷ x) is =
    let first = (and_parts (is_in_range 0x30 0x3B b) (is_change x) is).0 in
    IsCharBoundary-before_ascii (escape ∷ byte "[" ∷ b ∷ x) 2 (omega arith) (omega (arith, leb-true b 0x3B (and_parts (nat_le 0x30 b) (nat_le b 0x3B) first).1))

-- one sequence more, cut off at its final byte
pub record IsCut (whole done separator : List ℕ) (sequence more : List ℕ) : Type 0 where
  pub code : List ℕ
  pub sequence_is : sequence ≡ escape ∷ byte "[" ∷ code
  pub boundary : IsCharBoundary sequence 2
  pub next : (new : List ℕ) → new ≡ (done ++ separator) ++ code → IsJoinedSoFar whole new (codes ";") more

pub joined-next : {whole done separator rest : List ℕ} (a b : Bor (List ℕ)) → IsJoinedSoFar whole done separator rest → IsSplitOnceResult (byte "m") rest (Some (a, b)) → IsCut whole done separator a.now b.now
joined-next {whole} {done} {separator} {rest} a b before cut = by_left before.left before.rest_is before.each before.so_far
  where
    by_left : (left : List (List ℕ)) → rest ≡ written_all left → list_all is_change left ≡ true → done ++ joined_after separator left ≡ whole → IsCut whole done separator a.now b.now
    by_left [] same each so_far =
        let parts = split_parts (byte "m") rest (Some (a, b)) cut (lit< tt) in
        absurd (omega (arith, length-append a.now (byte "m" ∷ b.now), ap length (sym parts.0 ∙ same)))
    by_left (x ∷ xs) same each so_far =
        let both = and_parts (is_change x) (list_all is_change xs) each in
        let at = begins rest x xs same both.0 in
        let parts = split_after (byte "m") rest (escape ∷ byte "[" ∷ x) (written_all xs) (Some (a, b)) cut (lit< tt) at.spelled at.no_m in
        record {
          code = x;
          sequence_is = parts.0;
          boundary = subst (λ u. IsCharBoundary u 2) (sym parts.0) (boundary-change x both.0);
          next = λ new more. record {
            left = xs;
            rest_is = parts.1;
            each = both.1;
            so_far =
                ap₂ (λ u v. u ++ v) more (joined_after-semicolon xs)
                ∙ ap (λ u. u ++ flat_map (λ code. codes ";" ++ code) xs) (append_assoc done separator x)
                ∙ append_assoc done (separator ++ x) (flat_map (λ code. codes ";" ++ code) xs) ∙ so_far;
          };
        }

pub joined-pushed : {whole done separator rest : List ℕ} (a b : Bor (List ℕ)) (one piece new : List ℕ) → IsJoinedSoFar whole done separator rest → IsSplitOnceResult (byte "m") rest (Some (a, b))
    → one ≡ done ++ separator → piece ≡ drop 2 a.now → new ≡ one ++ piece → IsJoinedSoFar whole new (codes ";") b.now
joined-pushed a b one piece new before cut first is last =
    let next = joined-next a b before cut in
    next.next new (last ∙ ap₂ (λ u v. u ++ v) first (is ∙ ap (drop 2) next.sequence_is))

-- none is left
pub joined-done : {whole done separator rest : List ℕ} → IsJoinedSoFar whole done separator rest → IsSplitOnceResult (byte "m") rest None → done ≡ whole
joined-done {whole} {done} {separator} {rest} before none = by_left before.left before.rest_is before.each before.so_far
  where
    by_left : (left : List (List ℕ)) → rest ≡ written_all left → list_all is_change left ≡ true → done ++ joined_after separator left ≡ whole → done ≡ whole
    by_left [] same each so_far = sym (append-nil done) ∙ so_far
    by_left (x ∷ xs) same each so_far =
        let at = begins rest x xs same (and_parts (is_change x) (list_all is_change xs) each).0 in
        absurd (split_after (byte "m") rest (escape ∷ byte "[" ∷ x) (written_all xs) None none (lit< tt) at.spelled at.no_m)

-- The fields of codes with semicolons between are those of the codes.

onto_first-append : {X : Type 0} (x : X) (parts more : List (List X)) → 0 < length parts → onto_first x (parts ++ more) ≡ onto_first x parts ++ more
onto_first-append x [] more some = absurd (omega arith)
onto_first-append x (part ∷ parts) more some = refl

slice_split-seam : {X : Type 0} (p : X → Bool) (xs : List X) (y : X) (ys : List X) → p y ≡ true → slice_split p (xs ++ (y ∷ ys)) ≡ slice_split p xs ++ slice_split p ys
slice_split-seam p [] y ys is = slice_split-cons_yes p y ys is
slice_split-seam p (x ∷ xs) y ys is =
    let more = slice_split-seam p xs y ys is in
    elim (cases_Bool (p x)) [
      | inl ends ↦ (
          slice_split-cons_yes p x (xs ++ (y ∷ ys)) ends ∙ ap (λ parts. [] ∷ parts) more ∙ sym (ap (λ parts. parts ++ slice_split p ys) (slice_split-cons_yes p x xs ends)))
      | inr goes_on ↦ (
          slice_split-cons_no p x (xs ++ (y ∷ ys)) goes_on ∙ ap (onto_first x) more
          ∙ onto_first-append x (slice_split p xs) (slice_split p ys) (omega (arith, length-slice_split p xs))
          ∙ sym (ap (λ parts. parts ++ slice_split p ys) (slice_split-cons_no p x xs goes_on)))
    ]

fields_of-joined : (x y : List ℕ) (xs : List (List ℕ)) → fields_of (joined (x ∷ y ∷ xs)) ≡ fields_of x ++ fields_of (joined (y ∷ xs))
fields_of-joined x y xs = slice_split-seam (λ b. b == byte ";") x (byte ";") (joined (y ∷ xs)) refl

-- A code is complete if it leaves the fields after it.

abbrev changes_alone : Effect → Bool
changes_alone (Changes f) = true
changes_alone (ReadsColor put) = false

abbrev are_complete : List (List ℕ) → Bool
are_complete (f ∷ []) = changes_alone (effect_of f)
are_complete (f ∷ selector ∷ n ∷ []) = not (changes_alone (effect_of f)) && (not (is_code 2 selector) && is_code 5 selector)
are_complete (f ∷ selector ∷ r ∷ g ∷ b ∷ []) = not (changes_alone (effect_of f)) && is_code 2 selector
are_complete _ = false

abbrev is_complete : List ℕ → Bool
is_complete code = are_complete (fields_of code)

performed-alone : (e : Effect) (s : Rendition) (rest : List (List ℕ)) → changes_alone e ≡ true → perform e s rest ≡ ((perform e s []).0, rest)
performed-alone (Changes f) s rest is = refl
performed-alone (ReadsColor put) s rest is = absurd (true≢false (sym is))

read-by_number : (selector n : List ℕ) (rest : List (List ℕ)) → is_code 2 selector ≡ false → is_code 5 selector ≡ true
    → read_color (selector ∷ n ∷ rest) ≡ (Some (Bit8 (color_number n)), rest)
read-by_number selector n rest not_two five = rw (not_two, five) refl

read-by_parts : (selector r g b : List ℕ) (rest : List (List ℕ)) → is_code 2 selector ≡ true
    → read_color (selector ∷ r ∷ g ∷ b ∷ rest) ≡ (Some (Bit24 (color_number r) (color_number g) (color_number b)), rest)
read-by_parts selector r g b rest two = rw two refl

performed-color : (e : Effect) (s : Rendition) (fields rest : List (List ℕ)) (c : AnsiColor) → changes_alone e ≡ false → ((rest : List (List ℕ)) → read_color (fields ++ rest) ≡ (Some c, rest))
    → perform e s (fields ++ rest) ≡ ((perform e s (fields ++ [])).0, rest)
performed-color (Changes f) s fields rest c is reads = absurd (true≢false is)
performed-color (ReadsColor put) s fields rest c is reads =
    ap (λ r. (option_map_or (λ c. put c s) r.0 s, r.1)) (reads rest)
    ∙ sym (ap (λ r. (option_map_or (λ c. put c s) r.0 s, rest)) (reads []))

step-complete : (fields rest : List (List ℕ)) (s : Rendition) → are_complete fields ≡ true → step s (fields ++ rest) ≡ ((step s (fields ++ [])).0, rest)
step-complete [] rest s is = absurd (true≢false (sym is))
step-complete (f ∷ []) rest s is = performed-alone (effect_of f) s rest is
step-complete (f ∷ selector ∷ []) rest s is = absurd (true≢false (sym is))
step-complete (f ∷ selector ∷ n ∷ []) rest s is =
    let both = and_parts (not (changes_alone (effect_of f))) (not (is_code 2 selector) && is_code 5 selector) is in
    let codes = and_parts (not (is_code 2 selector)) (is_code 5 selector) both.1 in
    performed-color (effect_of f) s (selector ∷ n ∷ []) rest (Bit8 (color_number n)) (not-true (changes_alone (effect_of f)) both.0)
    (λ rest. read-by_number selector n rest (not-true (is_code 2 selector) codes.0) codes.1)
step-complete (f ∷ selector ∷ r ∷ g ∷ []) rest s is = absurd (true≢false (sym is))
step-complete (f ∷ selector ∷ r ∷ g ∷ b ∷ []) rest s is =
    let both = and_parts (not (changes_alone (effect_of f))) (is_code 2 selector) is in
    performed-color (effect_of f) s (selector ∷ r ∷ g ∷ b ∷ []) rest (Bit24 (color_number r) (color_number g) (color_number b)) (not-true (changes_alone (effect_of f)) both.0)
    (λ rest. read-by_parts selector r g b rest both.1)
step-complete (f ∷ selector ∷ r ∷ g ∷ b ∷ h ∷ more) rest s is = absurd (true≢false (sym is))

after-step : (fields rest : List (List ℕ)) (s : Rendition) → are_complete fields ≡ true → after_fields s (fields ++ rest) ≡ after_fields (step s (fields ++ [])).0 rest
after-step [] rest s is = absurd (true≢false (sym is))
after-step (f ∷ fields) rest s is = after_fields-step s f (fields ++ rest) ∙ ap (λ x. after_fields x.0 x.1) (step-complete (f ∷ fields) rest s is)

-- so what follows is read in the style after the code
after-complete : (fields rest : List (List ℕ)) (s : Rendition) → are_complete fields ≡ true → after_fields s (fields ++ rest) ≡ after_fields (after_fields s fields) rest
after-complete fields rest s is =
    after-step fields rest s is
    ∙ ap (λ p. after_fields p rest) (sym (ap (after_fields s) (sym (append-nil fields)) ∙ after-step fields [] s is))

apply-change : (s : Rendition) (code : List ℕ) → is_change code ≡ true → apply s (written code) ≡ after_fields s (fields_of code)
apply-change s code is = apply-parameters s (written code) code (sgr_parameters-written code is)

after-joined : (s : Rendition) (x : List ℕ) (xs : List (List ℕ)) → list_all is_change (x ∷ xs) ≡ true → list_all is_complete (x ∷ xs) ≡ true
    → after_fields s (fields_of (joined (x ∷ xs))) ≡ apply_codes s (x ∷ xs)
after-joined s x [] each complete =
    ap (λ code. after_fields s (fields_of code)) (append-nil x) ∙ sym (apply-change s x (and_parts (is_change x) true each).0)
after-joined s x (y ∷ xs) each complete =
    let are = and_parts (is_change x) (list_all is_change (y ∷ xs)) each in
    let whole = and_parts (is_complete x) (list_all is_complete (y ∷ xs)) complete in
    ap (after_fields s) (fields_of-joined x y xs) ∙ after-complete (fields_of x) (fields_of (joined (y ∷ xs))) s whole.0
    ∙ ap (λ p. after_fields p (fields_of (joined (y ∷ xs)))) (sym (apply-change s x are.0))
    ∙ after-joined (apply s (written x)) y xs are.1 whole.1

-- The codes of a start are complete.

abbrev no_semicolon : List ℕ → Bool
no_semicolon field = list_all (λ b. not (b == byte ";")) field

no_semicolon-decimal : (n : ℕ) → n < 256 → no_semicolon (decimal n) ≡ true
unfolding digits
no_semicolon-decimal n small = agree_below_at (λ n. no_semicolon (decimal n)) (λ _. true) 256 n refl small

none_ends : (field : List ℕ) → no_semicolon field ≡ true → All (λ b. (b == byte ";") ≡ false) field
none_ends field is = λ k x below. not-true (slice_index_or field k x == byte ";") (AllPass-from_list_all (λ b. not (b == byte ";")) field is k x below)

fields_of-one : (field : List ℕ) → no_semicolon field ≡ true → fields_of field ≡ field ∷ []
fields_of-one field is = slice_split_none (λ b. b == byte ";") field (none_ends field is)

fields_of-more : (field rest : List ℕ) → no_semicolon field ≡ true → fields_of (field ++ (byte ";" ∷ rest)) ≡ field ∷ fields_of rest
fields_of-more field rest is = slice_split_at (λ b. b == byte ";") field (byte ";") rest (none_ends field is) refl

complete-extended : (extended : List ℕ) (c : AnsiColor) → no_semicolon extended ≡ true → changes_alone (effect_of extended) ≡ false → IsTrue (is_extended_color c) → is_complete (color_code extended c) ≡ true
complete-extended extended (Bit4 n) one reads is = absurd (true≢false (sym is))
complete-extended extended (Bit8 n) one reads is =
    let small = IsByteColor-extended (Bit8 n) is in
    let fields : fields_of (color_code extended (Bit8 n)) ≡ extended ∷ codes "5" ∷ decimal n ∷ [] =
    simp (append_assoc, fields_of-more) (ap (λ fs. extended ∷ codes "5" ∷ fs) (fields_of-one (decimal n) (no_semicolon-decimal n small))) in
    ap are_complete fields ∙ ap (λ b. not b && true) reads
complete-extended extended (Bit24 r g b) one reads is =
    let small = IsByteColor-extended (Bit24 r g b) is in
    let fields : fields_of (color_code extended (Bit24 r g b)) ≡ extended ∷ codes "2" ∷ decimal r ∷ decimal g ∷ decimal b ∷ [] =
    simp (append_assoc, fields_of-more, fields_of-one, no_semicolon-decimal r small.0, no_semicolon-decimal g small.1, no_semicolon-decimal b small.2) in
    ap are_complete fields ∙ ap (λ b. not b && true) reads

-- a number that passes is a complete code, by computation
passes : (test : ℕ → Bool) (n : ℕ) → test n ≡ true → (not (test n) || is_complete (decimal n)) ≡ true → is_complete (decimal n) ≡ true
passes test n is either = subst (λ b. (not b || is_complete (decimal n)) ≡ true) is either

complete-foreground : (c : AnsiColor) → IsTrue (is_foreground c) → is_complete (color_code (codes "38") c) ≡ true
unfolding digits
complete-foreground (Bit4 n) is =
    passes (λ n. is_foreground (Bit4 n)) n is (agree_below_at (λ n. not (is_foreground (Bit4 n)) || is_complete (decimal n)) (λ _. true) 256 n refl (IsByteColor-foreground (Bit4 n) is))
complete-foreground (Bit8 n) is = complete-extended (codes "38") (Bit8 n) refl refl is
complete-foreground (Bit24 r g b) is = complete-extended (codes "38") (Bit24 r g b) refl refl is

complete-background : (c : AnsiColor) → IsTrue (is_background c) → is_complete (color_code (codes "48") c) ≡ true
unfolding digits
complete-background (Bit4 n) is =
    passes (λ n. is_background (Bit4 n)) n is (agree_below_at (λ n. not (is_background (Bit4 n)) || is_complete (decimal n)) (λ _. true) 256 n refl (IsByteColor-background (Bit4 n) is))
complete-background (Bit8 n) is = complete-extended (codes "48") (Bit8 n) refl refl is
complete-background (Bit24 r g b) is = complete-extended (codes "48") (Bit24 r g b) refl refl is

complete-font : (n : ℕ) → IsTrue (is_in_range 11 19 n) → is_complete (decimal n) ≡ true
unfolding digits
complete-font n is =
    let small : n < 20 = omega (arith, leb-true n 19 (and_parts (nat_le 11 n) (nat_le n 19) is).1) in
    passes (is_in_range 11 19) n is (agree_below_at (λ n. not (is_in_range 11 19 n) || is_complete (decimal n)) (λ _. true) 20 n refl small)

complete-code_if : (b : Bool) (code : List ℕ) → list_all is_complete (code_if b code) ≡ (not b || is_complete code)
complete-code_if true code = and-true (is_complete code)
complete-code_if false code = refl

complete-color_codes : (extended : List ℕ) (o : Option AnsiColor) (test : AnsiColor → Bool) → ((c : AnsiColor) → IsTrue (test c) → is_complete (color_code extended c) ≡ true) → IfSome o (λ c. IsTrue (test c))
    → list_all is_complete (color_codes extended o) ≡ true
complete-color_codes extended None test all is = refl
complete-color_codes extended (Some c) test all is = and_from _ _ (all c is) refl

complete-font_codes : (o : Option ℕ) → IfSome o (λ n. IsTrue (is_in_range 11 19 n)) → list_all is_complete (font_codes o) ≡ true
complete-font_codes None is = refl
complete-font_codes (Some n) is = and_from _ _ (complete-font n is) refl

complete-start : (s : Rendition) → IsStyle s → list_all is_complete (start_codes s) ≡ true
complete-start s is =
    let font = complete-font_codes s.font is.font in
    let foreground = complete-color_codes (codes "38") s.foreground is_foreground complete-foreground is.foreground in
    let background = complete-color_codes (codes "48") s.background is_background complete-background is.background in
    let underline_color = complete-color_codes (codes "58") s.underline_color is_extended_color (λ c is. complete-extended (codes "58") c refl refl is) is.underline_color in
    simp (list_all-append, complete-code_if, or-true, font, foreground, background, underline_color)

-- So the codes of a style select it.

selected-joined : (xs : List (List ℕ)) → list_all is_change xs ≡ true → list_all is_complete xs ≡ true → known (selected (joined xs)) ≡ known (apply_codes plain_style xs)
selected-joined [] each complete = refl
selected-joined (x ∷ xs) each complete =
    ap known (apply-change plain_style (joined (x ∷ xs)) (is_change-joined (x ∷ xs) each) ∙ after-joined plain_style x xs each complete)

pub selected-codes_of : (s : Rendition) → IsStyle s → known (selected (codes_of s)) ≡ known s
selected-codes_of s is =
    selected-joined (start_codes s) (start_codes_are s is).each (complete-start s is) ∙ start_codes_set plain_style s is refl

-- What is made of the characters of a piece is allowed in a run.
use Rattle.std.proofs.Common.{ap₂, ◌∙◌, take, drop, take-append-drop, chars, encode_utf8, encode_utf8_all, ◌≡◌, ℕ, ◌+◌, ◌/◌, ◌%◌, ◌<◌, Bool, true, false, ◌&&◌, ◌||◌, ◌==◌, List, [], ◌∷◌, ◌++◌, flat_map, slice_index, nat_lt, codes, if◌then◌else◌, refl, sym, ap, subst, arith}
use lib.Utf8.{scalar, scalars, low_scalar}
use Rattle.std.specs.List.{list_all, prefix_len}
use Rattle.std.proofs.lemmas.Bool.{and_from, and_parts, eqb-true, false≢true}
use Rattle.std.proofs.lemmas.Bool.Decides.{nat_tests}
use Rattle.std.proofs.lemmas.List.Folds.{list_all_at, list_all-append}
use Rattle.std.proofs.lemmas.Str.{IsUtf8-take, chars-append, encodes-append, encodes-chars}
use Rattle.std.specs.Str.{IsUtf8}
use Rattle.ansi_items.proofs.SequenceLemmas.{all-run}
use Rattle.ansi_safe.specs.declared.policy.Rest.{Rest}
use Rattle.ansi_safe.specs.declared.policy.Rest.TheVariants.{Drop, Show}
use Rattle.ansi_safe.specs.Safe.{is_printable_byte, is_ordinary_byte, is_printing, is_allowed, all_allowed}
use Rattle.ansi_safe.specs.Sanitized.{hexadecimal, numbered, shown, instead, made_of_run}
use Rattle.ansi_safe.proofs.FrontLemmas.{boundary-ordinary}

-- these are characters that are allowed together in a run
pub record AreAllowed (cs : List ℕ) : Type 0 where
  pub stand : all_allowed cs ≡ true
  pub scalar : scalars cs ≡ true

-- a printing character, which is one
abbrev pub prints : ℕ → Bool
prints c = is_printing c && scalar c

-- Printing characters is allowed before others.

pub AreAllowed-cons : (c : ℕ) (cs : List ℕ) → is_allowed c cs ≡ true → scalar c ≡ true → AreAllowed cs → AreAllowed (c ∷ cs)
AreAllowed-cons c cs here is rest = record { stand = and_from _ _ here rest.stand; scalar = and_from _ _ is rest.scalar }

printing_stands : (c : ℕ) (cs : List ℕ) → is_printing c ≡ true → is_allowed c cs ≡ true
printing_stands c cs is = ap (λ b. b || (c == 9 || (c == 10 || (c == 13 && slice_index cs 0 == 10)))) is

pub AreAllowed-append : (xs cs : List ℕ) → list_all prints xs ≡ true → AreAllowed cs → AreAllowed (xs ++ cs)
AreAllowed-append [] cs all rest = rest
AreAllowed-append (x ∷ xs) cs all rest =
    let both = and_parts (prints x) (list_all prints xs) all in
    let here = and_parts (is_printing x) (scalar x) both.0 in
    AreAllowed-cons x (xs ++ cs) (printing_stands x (xs ++ cs) here.0) here.1 (AreAllowed-append xs cs both.1 rest)

-- what is allowed before some characters is allowed before others, if a line feed at the front stays there
pub stands-before : (c : ℕ) (cs ds : List ℕ) → ((slice_index cs 0 == 10) ≡ true → (slice_index ds 0 == 10) ≡ true) → is_allowed c cs ≡ true → is_allowed c ds ≡ true
stands-before c cs ds stays here = by (is_printing c) (c == 9) (c == 10) (c == 13) (slice_index cs 0 == 10) stays here
  where
    by : (p t n r f : Bool) → (f ≡ true → (slice_index ds 0 == 10) ≡ true) → (p || (t || (n || (r && f)))) ≡ true → (p || (t || (n || (r && slice_index ds 0 == 10)))) ≡ true
    by true t n r f stays here = refl
    by false true n r f stays here = refl
    by false false true r f stays here = refl
    by false false false true f stays here = stays here
    by false false false false f stays here = absurd (cc here)

-- What is shown of a character prints.

ascii_prints : (c : ℕ) → is_printable_byte c ≡ true → prints c ≡ true
ascii_prints c is =
    let below : c < 55296 = grind (arith, nat_tests) in
    let printing : is_printing c ≡ true = grind (arith, nat_tests) in
    and_from _ _ printing (low_scalar c below)

all_ascii_print : (cs : List ℕ) → list_all is_printable_byte cs ≡ true → list_all prints cs ≡ true
all_ascii_print [] all = refl
all_ascii_print (c ∷ cs) all =
    let both = and_parts (is_printable_byte c) (list_all is_printable_byte cs) all in
    and_from _ _ (ascii_prints c both.0) (all_ascii_print cs both.1)

hexadecimal-ascii : (n : ℕ) → n < 16 → is_printable_byte (hexadecimal n) ≡ true
hexadecimal-ascii n small = by (is_printable_byte (hexadecimal n)) refl
  where
    by : (b : Bool) → is_printable_byte (hexadecimal n) ≡ b → b ≡ true
    by true is = refl
    by false is = absurd (false≢true (sym (list_all_at is_printable_byte (codes "0123456789ABCDEF") n 0 small is)))

pub numbered-ascii : (c : ℕ) → c < 0x10000 → list_all is_printable_byte (numbered c) ≡ true
numbered-ascii c small =
    let a = hexadecimal-ascii (c / 0x1000) (omega arith) in
    let b = hexadecimal-ascii (c / 0x100 % 0x10) (omega arith) in
    let d = hexadecimal-ascii (c / 0x10 % 0x10) (omega arith) in
    let e = hexadecimal-ascii (c % 0x10) (omega arith) in
    and_from _ _ a (and_from _ _ b (and_from _ _ d (and_from _ _ e refl)))

pub not_printing-small : (c : ℕ) → is_printing c ≡ false → c < 0x10000
not_printing-small c other = grind (arith, nat_tests)

pub caret-ascii : (c : ℕ) → nat_lt c 0x20 ≡ true → list_all is_printable_byte (94 ∷ (c + 0x40) ∷ []) ≡ true
caret-ascii c small =
    let here : is_printable_byte (c + 0x40) ≡ true = grind (arith, nat_tests) in
    and_from _ _ here refl

pub shown-prints : (c : ℕ) → scalar c ≡ true → list_all prints (shown c) ≡ true
shown-prints c is = by_caret (nat_lt c 0x20) refl
  where
    by_printing : (b : Bool) → is_printing c ≡ b → list_all prints (if b then c ∷ [] else numbered c) ≡ true
    by_printing true printing = and_from _ _ (and_from _ _ printing is) refl
    by_printing false other = all_ascii_print (numbered c) (numbered-ascii c (not_printing-small c other))

    by_delete : (b : Bool) → list_all prints (if b then codes "^?" else if is_printing c then c ∷ [] else numbered c) ≡ true
    by_delete true = all_ascii_print (codes "^?") refl
    by_delete false = by_printing (is_printing c) refl

    by_caret : (b : Bool) → nat_lt c 0x20 ≡ b → list_all prints (if b then 94 ∷ (c + 0x40) ∷ [] else if c == 0x7F then codes "^?" else if is_printing c then c ∷ [] else numbered c) ≡ true
    by_caret true small = all_ascii_print (94 ∷ (c + 0x40) ∷ []) (caret-ascii c small)
    by_caret false other = by_delete (c == 0x7F)

pub instead-prints : (rest : Rest) (c : ℕ) → scalar c ≡ true → list_all prints (instead rest c) ≡ true
instead-prints Drop c is = refl
instead-prints Show c is = shown-prints c is

-- What is made of the characters of a piece stands.

pub instead_of_all-stands : (rest : Rest) (cs : List ℕ) → scalars cs ≡ true → AreAllowed (flat_map (instead rest) cs)
instead_of_all-stands rest [] are = record { stand = refl; scalar = refl }
instead_of_all-stands rest (c ∷ cs) are =
    let both = and_parts (scalar c) (scalars cs) are in
    AreAllowed-append (instead rest c) (flat_map (instead rest) cs) (instead-prints rest c both.0) (instead_of_all-stands rest cs both.1)

-- a line feed stays at the front
line_feed-stays : (rest : Rest) (cs : List ℕ) → (slice_index cs 0 == 10) ≡ true → (slice_index (made_of_run rest cs) 0 == 10) ≡ true
line_feed-stays rest [] is = absurd (cc is)
line_feed-stays rest (c ∷ cs) is = subst (λ x. (slice_index (made_of_run rest (x ∷ cs)) 0 == 10) ≡ true) (sym (eqb-true c 10 is)) refl

-- so what is allowed before some characters is allowed before what is made of them
stands-before_made : (rest : Rest) (c : ℕ) (cs : List ℕ) → is_allowed c cs ≡ true → is_allowed c (made_of_run rest cs) ≡ true
stands-before_made rest c cs here = stands-before c cs (made_of_run rest cs) (line_feed-stays rest cs) here

pub made_of_run-stands : (rest : Rest) (cs : List ℕ) → scalars cs ≡ true → AreAllowed (made_of_run rest cs)
made_of_run-stands rest [] are = record { stand = refl; scalar = refl }
made_of_run-stands rest (c ∷ cs) are =
    let both = and_parts (scalar c) (scalars cs) are in
    by (is_allowed c cs) refl both.0 (made_of_run-stands rest cs both.1)
  where
    by : (b : Bool) → is_allowed c cs ≡ b → scalar c ≡ true → AreAllowed (made_of_run rest cs) → AreAllowed ((if b then c ∷ [] else instead rest c) ++ made_of_run rest cs)
    by true here is later = AreAllowed-cons c (made_of_run rest cs) (stands-before_made rest c cs here) is later
    by false other is later = AreAllowed-append (instead rest c) (made_of_run rest cs) (instead-prints rest c is) later

-- Two runs that is allowed may be joined.

line_feed-joined : (cs ds : List ℕ) → (slice_index cs 0 == 10) ≡ true → (slice_index (cs ++ ds) 0 == 10) ≡ true
line_feed-joined [] ds is = absurd (cc is)
line_feed-joined (c ∷ cs) ds is = is

stands-joined : (c : ℕ) (cs ds : List ℕ) → is_allowed c cs ≡ true → is_allowed c (cs ++ ds) ≡ true
stands-joined c cs ds here = stands-before c cs (cs ++ ds) (line_feed-joined cs ds) here

pub all_allowed-append : (cs ds : List ℕ) → all_allowed cs ≡ true → all_allowed ds ≡ true → all_allowed (cs ++ ds) ≡ true
all_allowed-append [] ds first second = second
all_allowed-append (c ∷ cs) ds first second =
    let both = and_parts (is_allowed c cs) (all_allowed cs) first in
    and_from _ _ (stands-joined c cs ds both.0) (all_allowed-append cs ds both.1 second)

-- Ordinary characters in front of others.

ordinary-char : (white : Bool) (c : ℕ) → list_all (is_ordinary_byte white) (encode_utf8 c) ≡ true → (is_printing c || (white && (c == 9 || c == 10))) ≡ true
unfolding lib.Utf8.encode
ordinary-char white c all = grind (arith, nat_tests)

pub ordinary-parts : (white : Bool) (c : ℕ) (cs : List ℕ) → list_all (is_ordinary_byte white) (encode_utf8_all (c ∷ cs)) ≡ true → ((is_printing c || (white && (c == 9 || c == 10))) ≡ true) × (list_all (is_ordinary_byte white) (encode_utf8_all cs) ≡ true)
ordinary-parts white c cs all =
    let both = and_parts (list_all (is_ordinary_byte white) (encode_utf8 c)) (list_all (is_ordinary_byte white) (encode_utf8_all cs)) (sym (list_all-append (is_ordinary_byte white) (encode_utf8 c) (encode_utf8_all cs)) ∙ all) in
    (ordinary-char white c both.0, both.1)

-- such a character is allowed before anything
pub ordinary-allowed : (white : Bool) (c : ℕ) (cs : List ℕ) → (is_printing c || (white && (c == 9 || c == 10))) ≡ true → is_allowed c cs ≡ true
ordinary-allowed white c cs is = by (is_printing c) white (c == 9) (c == 10) (c == 13 && slice_index cs 0 == 10) is
  where
    by : (p w t n r : Bool) → (p || (w && (t || n))) ≡ true → (p || (t || (n || r))) ≡ true
    by true w t n r is = refl
    by false true true n r is = refl
    by false true false true r is = refl
    by false true false false r is = absurd (cc is)
    by false false t n r is = absurd (cc is)

pub all_allowed-ordinary : (white : Bool) (cs ds : List ℕ) → list_all (is_ordinary_byte white) (encode_utf8_all cs) ≡ true → all_allowed (cs ++ ds) ≡ all_allowed ds
all_allowed-ordinary white [] ds all = refl
all_allowed-ordinary white (c ∷ cs) ds all =
    let parts = ordinary-parts white c cs all in
    ap₂ (λ x y. x && y) (ordinary-allowed white c (cs ++ ds) parts.0) (all_allowed-ordinary white cs ds parts.1)

made_of_run-ordinary : (rest : Rest) (white : Bool) (cs ds : List ℕ) → list_all (is_ordinary_byte white) (encode_utf8_all cs) ≡ true → made_of_run rest (cs ++ ds) ≡ cs ++ made_of_run rest ds
made_of_run-ordinary rest white [] ds all = refl
made_of_run-ordinary rest white (c ∷ cs) ds all =
    let parts = ordinary-parts white c cs all in
    ap₂ (λ t v. (if t then c ∷ [] else instead rest c) ++ v) (ordinary-allowed white c (cs ++ ds) parts.0) (made_of_run-ordinary rest white cs ds parts.1)

-- the same of a text, by the way that it is split

pub ordinary-chars : (white : Bool) (w : List ℕ) → IsUtf8 w → list_all (is_ordinary_byte white) w ≡ true → list_all (is_ordinary_byte white) (encode_utf8_all (chars w)) ≡ true
ordinary-chars white w utf8 all = ap (list_all (is_ordinary_byte white)) (encodes-chars w utf8) ∙ all

pub stand_after_ordinary : (white : Bool) (left w cs : List ℕ) → IsUtf8 w → list_all (is_ordinary_byte white) w ≡ true → left ≡ chars w ++ cs → all_allowed left ≡ all_allowed cs
stand_after_ordinary white left w cs utf8 all is = ap all_allowed is ∙ all_allowed-ordinary white (chars w) cs (ordinary-chars white w utf8 all)

pub made_after_ordinary : (rest : Rest) (white : Bool) (left w cs : List ℕ) → IsUtf8 w → list_all (is_ordinary_byte white) w ≡ true → left ≡ chars w ++ cs → encode_utf8_all (made_of_run rest left) ≡ w ++ encode_utf8_all (made_of_run rest cs)
made_after_ordinary rest white left w cs utf8 all is =
    ap (λ v. encode_utf8_all (made_of_run rest v)) is ∙ ap encode_utf8_all (made_of_run-ordinary rest white (chars w) cs (ordinary-chars white w utf8 all)) ∙ encodes-append (chars w) (made_of_run rest cs)
    ∙ ap (λ u. u ++ encode_utf8_all (made_of_run rest cs)) (encodes-chars w utf8)

-- a run is allowed if what follows its front is
pub allowed_after_front : (w : List ℕ) → IsUtf8 w → all_allowed (chars w) ≡ all_allowed (chars (drop (prefix_len (is_ordinary_byte true) w) w))
allowed_after_front w utf8 =
    let test = is_ordinary_byte true in
    let n = prefix_len test w in
    let front = IsUtf8-take w n utf8 (boundary-ordinary true w utf8) in
    stand_after_ordinary true (chars w) (take n w) (chars (drop n w)) front (all-run test w) (ap chars (sym (take-append-drop n w)) ∙ chars-append (take n w) (drop n w) front)

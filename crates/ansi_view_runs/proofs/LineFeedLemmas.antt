-- What a line shows has no line feed, and so no carriage return.
use Rattle.std.proofs.Common.{◌≡◌, inl, inr, ℕ, zero, suc, ◌+◌, ◌-◌, ◌/◌, ◌%◌, ◌≤◌, ◌<◌, ◌==◌, ◌&&◌, Bool, true, false, not, List, [], ◌∷◌, ◌++◌, take, drop, length, codes, chars, nat_lt, slice_index, encode_utf8, encode_utf8_all, flat_map, if◌then◌else◌, refl, sym, ◌∙◌, ap, subst, eqb-true, arith}
use Rattle.std.specs.List.{list_all, position_or_len}
use Rattle.std.specs.Str.{IsUtf8, byte}
use Rattle.std.specs.Str.Lossy.{utf8_valid_len, utf8_lossy, utf8_invalid_len, after_first_chunk, replacement_bytes}
use Rattle.std.proofs.lemmas.Bool.{cases_Bool, cases_lt, and_from, and_parts, ltb-true}
use Rattle.std.proofs.lemmas.Bool.Decides.{nat_tests}
use Rattle.std.proofs.lemmas.List.Folds.{list_all-append}
use Rattle.std.proofs.lemmas.Str.{utf8_lossy_step, encodes-chars}
use Rattle.ansi_items.specs.Pieces.{Piece, Text, Sequence, LoneEscape, spelling, ArePieces, pieces_of}
use Rattle.ansi_items.specs.Plain.{plain, plain_of, marks}
use Rattle.ansi_items.proofs.JoinLemmas.{spelled, spelled-pieces_of}
use Rattle.ansi_items.proofs.PieceLemmas.{pieces_are}
use Rattle.ansi_style.specs.declared.state.rendition.Rendition.{Rendition}
use Rattle.ansi_style.specs.Styled.{style_after}
use Rattle.ansi_style.specs.Written.{start, start_codes, close, close_codes, written, written_all}
use Rattle.ansi_style.proofs.ColorLemmas.{is_code_byte}
use Rattle.ansi_style.proofs.ReadBackLemmas.{start_codes_are, close_codes_are}
use Rattle.ansi_style.proofs.StyleLemmas.{IsStyle-style_after}
use Rattle.ansi_safe.specs.declared.policy.Policy.{Policy}
use Rattle.ansi_safe.specs.declared.policy.Rest.{Rest}
use Rattle.ansi_safe.specs.declared.policy.Rest.TheVariants.{Drop, Show}
use Rattle.ansi_safe.specs.Links.{is_link, opens_link, link_of, link_after, link_end, ending}
use Rattle.ansi_safe.specs.Safe.{is_printing, is_allowed, may_stay}
use Rattle.ansi_safe.specs.Sanitized.{hexadecimal, numbered, shown as shown_char, instead, made_of_run, made_of, becomes, cleaned, sanitized}
use Rattle.ansi_safe.proofs.LinkLemmas.{link_through, link_of-pieces}
use Rattle.ansi_safe.proofs.SafeLemmas.{piece_and_rest}
use Rattle.ansi_view_runs.specs.declared.view.View.{View}
use Rattle.ansi_view_runs.specs.Lines.{Line, first_line, is_line_feed, max_piece, piece_len, split_end, split_unended}
use Rattle.ansi_view_runs.specs.Views.{body, decoded, opening_of, opening_after, shown}
use Rattle.ansi_view_runs.proofs.LineLemmas.{piece_len-bounds}
use Rattle.ansi_view_runs.proofs.SafeViewLemmas.{rest-shorter, whole-lossy, body-utf8}

abbrev no_feed : ℕ → Bool
no_feed b = not (b == byte "\n")

-- t has no line feed
abbrev pub HasNoFeed : List ℕ → Type 0
HasNoFeed t = list_all no_feed t ≡ true

none-append : (t u : List ℕ) → HasNoFeed t → HasNoFeed u → HasNoFeed (t ++ u)
none-append t u first second = list_all-append no_feed t u ∙ and_from _ _ first second

none-parts : (t u : List ℕ) → HasNoFeed (t ++ u) → HasNoFeed t × HasNoFeed u
none-parts t u none = and_parts (list_all no_feed t) (list_all no_feed u) (sym (list_all-append no_feed t u) ∙ none)

none-take : (n : ℕ) (t : List ℕ) → HasNoFeed t → HasNoFeed (take n t)
none-take zero t none = refl
none-take (suc n) [] none = refl
none-take (suc n) (b ∷ t) none = (let both = and_parts (no_feed b) (list_all no_feed t) none in and_from _ _ both.0 (none-take n t both.1))

none-drop : (n : ℕ) (t : List ℕ) → HasNoFeed t → HasNoFeed (drop n t)
none-drop zero t none = none
none-drop (suc n) [] none = refl
none-drop (suc n) (b ∷ t) none = (let both = and_parts (no_feed b) (list_all no_feed t) none in none-drop n t both.1)

either-none : (b : Bool) (x y : List ℕ) → HasNoFeed x → HasNoFeed y → HasNoFeed (if b then x else y)
either-none true x y p q = p
either-none false x y p q = q

-- ---- the text of a line

before-feed : (n : ℕ) (t : List ℕ) → n ≤ position_or_len is_line_feed t → HasNoFeed (take n t)
before-feed zero t before = refl
before-feed (suc n) [] before = refl
before-feed (suc n) (b ∷ t) before = elim (cases_Bool (b == 10)) [
  | inl feed ↦ absurd (let none : position_or_len is_line_feed (b ∷ t) ≡ 0 = ap (λ c. if not c then 1 + position_or_len is_line_feed t else 0) feed in omega (arith, none, before))
  | inr other ↦
      let more : position_or_len is_line_feed (b ∷ t) ≡ 1 + position_or_len is_line_feed t = ap (λ c. if not c then 1 + position_or_len is_line_feed t else 0) other in
      and_from (no_feed b) (list_all no_feed (take n t)) (ap not other) (before-feed n t (omega (arith, more, before)))
]

abbrev TextHasNone : Line × List ℕ → Type 0
TextHasNone first = HasNoFeed first.0.text

pick : {X : Type 0} (P : X → Type 0) (b : Bool) (x y : X) → (b ≡ true → P x) → (b ≡ false → P y) → P (if b then x else y)
pick P true x y p q = p refl
pick P false x y p q = q refl

pub none-first_line : (t : List ℕ) → HasNoFeed (first_line t).0.text
none-first_line t =
    let n = position_or_len is_line_feed t in
    pick TextHasNone (nat_lt max_piece n) (split_unended (piece_len t) t) _
    (λ long. before-feed (piece_len t) t (omega (arith, (piece_len-bounds t).1, ltb-true max_piece n long)))
    (λ fits. pick TextHasNone (nat_lt n (length t)) (split_end n t) (split_unended n t)
    (λ ended. pick TextHasNone (nat_lt 0 n && slice_index t (n - 1) == byte "\r") _ _ (λ carriage. before-feed (n - 1) t (omega arith)) (λ feed. before-feed n t (omega arith)))
    (λ unended. before-feed n t (omega arith)))

-- ---- what it is decoded to

lossy-whole : (bs : List ℕ) → length bs ≤ utf8_valid_len bs → HasNoFeed bs → HasNoFeed (utf8_lossy bs)
lossy-whole bs whole none = subst HasNoFeed (sym (whole-lossy bs whole)) none

lossy-cut : (bs : List ℕ) → utf8_valid_len bs < length bs → HasNoFeed bs → HasNoFeed (utf8_lossy (after_first_chunk bs)) → HasNoFeed (utf8_lossy bs)
lossy-cut bs short none more =
    let faulty : ¬ (utf8_valid_len bs ≡ length bs) = omega (arith, short) in
    subst HasNoFeed (sym (utf8_lossy_step bs faulty)) (none-append (take (utf8_valid_len bs) bs) (replacement_bytes ++ utf8_lossy (after_first_chunk bs)) (none-take (utf8_valid_len bs) bs none) (none-append replacement_bytes (utf8_lossy (after_first_chunk bs)) refl more))

lossy_within : (k : ℕ) (bs : List ℕ) → length bs ≤ k → HasNoFeed bs → HasNoFeed (utf8_lossy bs)
lossy_within zero bs few none = lossy-whole bs (omega (arith, few)) none
lossy_within (suc k) bs few none = elim (cases_lt (utf8_valid_len bs) (length bs)) [
  | inl short ↦ lossy-cut bs short none (lossy_within k (after_first_chunk bs) (omega (arith, rest-shorter bs short, few)) (none-drop (utf8_valid_len bs + utf8_invalid_len (drop (utf8_valid_len bs) bs)) bs none))
  | inr whole ↦ lossy-whole bs whole none
]

none-plain_of : (ps : List Piece) → HasNoFeed (spelled ps) → HasNoFeed (plain_of ps)
none-plain_of [] none = refl
none-plain_of (Text w ∷ ps) none = (let both = none-parts w (spelled ps) none in none-append w (plain_of ps) both.0 (none-plain_of ps both.1))
none-plain_of (Sequence w ∷ ps) none = none-plain_of ps (none-parts w (spelled ps) none).1
none-plain_of (LoneEscape ∷ ps) none = none-plain_of ps (none-parts (spelling LoneEscape) (spelled ps) none).1

pub none-plain : (t : List ℕ) → HasNoFeed t → HasNoFeed (plain t)
none-plain t none = none-plain_of (pieces_of t) (subst HasNoFeed (sym (spelled-pieces_of t)) none)

none-decoded : (view : View) (bs : List ℕ) → HasNoFeed bs → HasNoFeed (decoded view bs)
none-decoded view bs none =
    let lossy = lossy_within (length bs) bs (omega arith) none in
    either-none view.plain (plain (utf8_lossy bs)) (utf8_lossy bs) (none-plain (utf8_lossy bs) lossy) lossy

-- ---- what opens what is open, and what ends it

code-none : (b : ℕ) → is_code_byte b ≡ true → no_feed b ≡ true
code-none b is = grind (arith, nat_tests)

codes-none : (x : List ℕ) → list_all is_code_byte x ≡ true → HasNoFeed x
codes-none [] all = refl
codes-none (b ∷ x) all = (let both = and_parts (is_code_byte b) (list_all is_code_byte x) all in and_from _ _ (code-none b both.0) (codes-none x both.1))

written-none : (xs : List (List ℕ)) → list_all (list_all is_code_byte) xs ≡ true → HasNoFeed (written_all xs)
written-none [] all = refl
written-none (x ∷ xs) all =
    let both = and_parts (list_all is_code_byte x) (list_all (list_all is_code_byte) xs) all in
    none-append (written x) (written_all xs) (none-append (codes "\u{1b}[") (x ++ codes "m") refl (none-append x (codes "m") (codes-none x both.0) refl)) (written-none xs both.1)

none-close : (s : Rendition) → HasNoFeed (close s)
none-close s = written-none (close_codes s) (close_codes_are s).each

none-start : (t : List ℕ) → HasNoFeed (start (style_after t))
none-start t = written-none (start_codes (style_after t)) (start_codes_are (style_after t) (IsStyle-style_after t)).each

none-link_end : (link : List ℕ) → HasNoFeed (link_end link)
none-link_end link = either-none (length link == 0) [] (codes "\u{1b}]8;;\u{1b}\\") refl refl

none-link_after : (link w : List ℕ) → HasNoFeed link → HasNoFeed w → HasNoFeed (link_after link w)
none-link_after link w before now = either-none (is_link w) (if opens_link w then w else []) link (either-none (opens_link w) w [] now refl) before

none-link_through : (link : List ℕ) (ps : List Piece) → HasNoFeed (spelled ps) → HasNoFeed link → HasNoFeed (link_through link ps)
none-link_through link [] none before = before
none-link_through link (Text w ∷ ps) none before = none-link_through link ps (none-parts w (spelled ps) none).1 before
none-link_through link (Sequence w ∷ ps) none before =
    (let both = none-parts w (spelled ps) none in none-link_through (link_after link w) ps both.1 (none-link_after link w before both.0))
none-link_through link (LoneEscape ∷ ps) none before =
    let both = none-parts (spelling LoneEscape) (spelled ps) none in
    none-link_through (link_after link (spelling LoneEscape)) ps both.1 (none-link_after link (spelling LoneEscape) before both.0)

none-opening_of : (t : List ℕ) → HasNoFeed t → HasNoFeed (opening_of t)
none-opening_of t none =
    none-append (start (style_after t)) (link_of (marks t)) (none-start t)
    (subst HasNoFeed (sym (link_of-pieces (pieces_of t))) (none-link_through [] (pieces_of t) (subst HasNoFeed (sym (spelled-pieces_of t)) none) refl))

none-ending : (t : List ℕ) → HasNoFeed (ending t)
none-ending t = none-append (link_end (link_of (marks t))) (close (style_after t)) (none-link_end (link_of (marks t))) (none-close (style_after t))

-- ---- what is made of a text

encode-none : (c : ℕ) → no_feed c ≡ true → HasNoFeed (encode_utf8 c)
unfolding lib.Utf8.encode
encode-none c other = grind (arith, nat_tests)

encode-feed : encode_utf8 10 ≡ 10 ∷ []
unfolding lib.Utf8.encode
encode-feed = refl

encodes-none : (cs : List ℕ) → HasNoFeed cs → HasNoFeed (encode_utf8_all cs)
encodes-none [] none = refl
encodes-none (c ∷ cs) none =
    (let both = and_parts (no_feed c) (list_all no_feed cs) none in none-append (encode_utf8 c) (encode_utf8_all cs) (encode-none c both.0) (encodes-none cs both.1))

char-none : (c : ℕ) → HasNoFeed (encode_utf8 c) → no_feed c ≡ true
char-none c none = elim (cases_Bool (c == 10)) [
  | inl feed ↦ absurd (let never : HasNoFeed (10 ∷ []) = subst HasNoFeed (ap encode_utf8 (eqb-true c 10 feed) ∙ encode-feed) none in cc never)
  | inr other ↦ ap not other
]

chars-none : (cs : List ℕ) → HasNoFeed (encode_utf8_all cs) → HasNoFeed cs
chars-none [] none = refl
chars-none (c ∷ cs) none = (let both = none-parts (encode_utf8 c) (encode_utf8_all cs) none in and_from _ _ (char-none c both.0) (chars-none cs both.1))

pub none-chars : (w : List ℕ) → IsUtf8 w → HasNoFeed w → HasNoFeed (chars w)
none-chars w utf8 none = chars-none (chars w) (subst HasNoFeed (sym (encodes-chars w utf8)) none)

digit-none : (n : ℕ) → no_feed (hexadecimal n) ≡ true
digit-none n = within (codes "0123456789ABCDEF") n refl
  where
    within : (ds : List ℕ) (n : ℕ) → HasNoFeed ds → no_feed (slice_index ds n) ≡ true
    within [] zero none = refl
    within [] (suc n) none = refl
    within (d ∷ ds) zero none = (and_parts (no_feed d) (list_all no_feed ds) none).0
    within (d ∷ ds) (suc n) none = within ds n (and_parts (no_feed d) (list_all no_feed ds) none).1

caret-none : (c : ℕ) → no_feed (c + 0x40) ≡ true
caret-none c = grind (arith, nat_tests)

digits-none : (a b c d : ℕ) → HasNoFeed (hexadecimal a ∷ hexadecimal b ∷ hexadecimal c ∷ hexadecimal d ∷ codes ">")
digits-none a b c d =
    and_from (no_feed (hexadecimal a)) _ (digit-none a)
    (and_from (no_feed (hexadecimal b)) _ (digit-none b) (and_from (no_feed (hexadecimal c)) _ (digit-none c) (and_from (no_feed (hexadecimal d)) _ (digit-none d) refl)))

numbered-none : (c : ℕ) → HasNoFeed (numbered c)
numbered-none c =
    let a = c / 0x1000 in
    let b = c / 0x100 % 0x10 in
    let d = c / 0x10 % 0x10 in
    let e = c % 0x10 in
    none-append (codes "<U+") (hexadecimal a ∷ hexadecimal b ∷ hexadecimal d ∷ hexadecimal e ∷ codes ">") refl (digits-none a b d e)

shown_char-none : (c : ℕ) → no_feed c ≡ true → HasNoFeed (shown_char c)
shown_char-none c other =
    either-none (nat_lt c 0x20) (byte "^" ∷ (c + 0x40) ∷ []) (if c == 0x7F then codes "^?" else if is_printing c then c ∷ [] else numbered c) (and_from true _ refl (and_from (no_feed (c + 0x40)) true (caret-none c) refl))
    (either-none (c == 0x7F) (codes "^?") (if is_printing c then c ∷ [] else numbered c) refl (either-none (is_printing c) (c ∷ []) (numbered c) (and_from (no_feed c) true other refl) (numbered-none c)))

instead-none : (rest : Rest) (c : ℕ) → no_feed c ≡ true → HasNoFeed (instead rest c)
instead-none Drop c other = refl
instead-none Show c other = shown_char-none c other

run-none : (rest : Rest) (cs : List ℕ) → HasNoFeed cs → HasNoFeed (made_of_run rest cs)
run-none rest [] none = refl
run-none rest (c ∷ cs) none =
    let both = and_parts (no_feed c) (list_all no_feed cs) none in
    none-append (if is_allowed c cs then c ∷ [] else instead rest c) (made_of_run rest cs) (either-none (is_allowed c cs) (c ∷ []) (instead rest c) (and_from (no_feed c) true both.0 refl) (instead-none rest c both.0)) (run-none rest cs both.1)

each-none : (rest : Rest) (cs : List ℕ) → HasNoFeed cs → HasNoFeed (flat_map (instead rest) cs)
each-none rest [] none = refl
each-none rest (c ∷ cs) none =
    (let both = and_parts (no_feed c) (list_all no_feed cs) none in none-append (instead rest c) (flat_map (instead rest) cs) (instead-none rest c both.0) (each-none rest cs both.1))

made-none : (rest : Rest) (p : Piece) → HasNoFeed (chars (spelling p)) → HasNoFeed (made_of rest p)
made-none rest (Text w) none = run-none rest (chars w) none
made-none rest (Sequence w) none = each-none rest (chars w) none
made-none rest LoneEscape none = each-none rest (chars (spelling LoneEscape)) none

becomes-none : (policy : Policy) (p : Piece) → IsUtf8 (spelling p) → HasNoFeed (spelling p) → HasNoFeed (becomes policy p)
becomes-none policy p utf8 none =
    either-none (may_stay policy.links p) (spelling p) (encode_utf8_all (made_of policy.rest p)) none (encodes-none (made_of policy.rest p) (made-none policy.rest p (none-chars (spelling p) utf8 none)))

become-none : (policy : Policy) (t : List ℕ) (ps : List Piece) → ArePieces t ps → IsUtf8 t → HasNoFeed t → HasNoFeed (flat_map (becomes policy) ps)
become-none policy t [] are utf8 none = refl
become-none policy t (p ∷ ps) are utf8 none =
    let both = piece_and_rest p are.0 are.2 (subst IsUtf8 are.1 utf8) in
    let parts = none-parts (spelling p) are.0 (subst HasNoFeed are.1 none) in
    none-append (becomes policy p) (flat_map (becomes policy) ps) (becomes-none policy p both.0 parts.0) (become-none policy are.0 ps are.3 both.1 parts.1)

none-cleaned : (policy : Policy) (t : List ℕ) → IsUtf8 t → HasNoFeed t → HasNoFeed (cleaned policy t)
none-cleaned policy t utf8 none = become-none policy t (pieces_of t) (pieces_are t) utf8 none

-- ---- what a line shows, and what is open after it

module _ (view : View) (opening : List ℕ) (line : Line) (utf8 : IsUtf8 opening) (before : HasNoFeed opening) (none : HasNoFeed line.text) where
  body-none : HasNoFeed (cleaned view.policy (body view opening line.text))
  body-none = none-cleaned view.policy (body view opening line.text) (body-utf8 view opening line.text utf8) (none-append opening (decoded view line.text) before (none-decoded view line.text none))

  pub none-opening_after : HasNoFeed (opening_after view opening line)
  none-opening_after = either-none (length line.text == 0) opening (opening_of (cleaned view.policy (body view opening line.text))) before (none-opening_of (cleaned view.policy (body view opening line.text)) body-none)

  pub none-shown : HasNoFeed (shown view opening line)
  none-shown = either-none (length line.text == 0) [] (sanitized view.policy (body view opening line.text)) refl (none-append (cleaned view.policy (body view opening line.text)) (ending (cleaned view.policy (body view opening line.text))) body-none (none-ending (cleaned view.policy (body view opening line.text))))

-- What is written of an input is safe.
use Rattle.std.proofs.Common.{◌≡◌, ◌⊎◌, inl, inr, ℕ, zero, suc, ◌+◌, ◌-◌, ◌≤◌, ◌<◌, ◌==◌, ◌&&◌, ◌||◌, Bool, true, false, All, cond, List, [], ◌∷◌, ◌++◌, take, drop, length, codes, chars, nat_lt, slice_index, encode_utf8_all, flat_map, if◌then◌else◌, Option, Some, None, unwrap_or, refl, sym, ◌∙◌, ap, subst, arith}
use Rattle.std.specs.List.{AllByRecursion, list_all, position_or_len, join_by}
use Rattle.std.specs.Str.{IsUtf8, is_utf8, byte}
use Rattle.std.specs.Int.{is_in_range}
use Rattle.std.specs.Str.Lossy.{utf8_valid_len, valid_len_up_to, utf8_lossy, utf8_invalid_len, utf8_error_len, error_len_of_some, error_len_after_one, error_len_after_two, second_byte_min, second_byte_max, after_first_chunk, replacement_bytes}
use Rattle.std.proofs.lemmas.Bool.{cases_Bool, cases_lt, and_from, and_parts}
use Rattle.std.proofs.lemmas.Bool.Decides.{nat_tests}
use Rattle.std.proofs.lemmas.Grind.{flat_map-append}
use Rattle.std.proofs.lemmas.List.{length-drop, take_all}
use Rattle.std.proofs.lemmas.List.Elements.{recursion_from_All}
use Rattle.std.proofs.lemmas.Str.{IsUtf8-append, IsUtf8-nil, IsUtf8-from_ascii, IsUtf8-from_is_utf8, utf8_lossy-IsUtf8, utf8_lossy_step, scalars-chars}
use Rattle.ansi_items.specs.Pieces.{Piece, Text, Sequence, LoneEscape, spelling, ArePieces, pieces_of}
use Rattle.ansi_items.specs.Plain.{plain, marks}
use Rattle.ansi_items.specs.Sequences.{is_sgr}
use Rattle.ansi_items.proofs.JoinLemmas.{spelled}
use Rattle.ansi_items.proofs.PieceLemmas.{pieces_are}
use Rattle.ansi_items.proofs.PlainLemmas.{one_text}
use Rattle.ansi_items.proofs.Utf8Lemmas.{IsUtf8-plain}
use Rattle.ansi_style.specs.declared.state.rendition.Rendition.{Rendition}
use Rattle.ansi_style.specs.Styled.{style_after}
use Rattle.ansi_style.specs.Written.{start, start_codes, close, close_codes, written, written_all}
use Rattle.ansi_style.proofs.ColorLemmas.{is_code_byte}
use Rattle.ansi_style.proofs.ReadBackLemmas.{start_codes_are, close_codes_are}
use Rattle.ansi_style.proofs.StyleLemmas.{IsStyle-style_after}
use Rattle.ansi_safe.specs.declared.policy.Links.{Links}
use Rattle.ansi_safe.specs.declared.policy.Links.TheVariants.{Keep, Remove}
use Rattle.ansi_safe.specs.declared.policy.Policy.{Policy}
use Rattle.ansi_safe.specs.declared.policy.Rest.{Rest}
use Rattle.ansi_safe.specs.Links.{IsClosed, is_link, opens_link, link_of, link_after, link_end, ending}
use Rattle.ansi_safe.specs.Safe.{is_printable_byte, is_clean_link, may_stay, is_safe}
use Rattle.ansi_safe.specs.Sanitized.{becomes, cleaned, made_of, sanitized}
use Rattle.ansi_safe.proofs.AllowedLemmas.{made_of_run-stands, instead_of_all-stands}
use Rattle.ansi_safe.proofs.FrontLemmas.{printable-ascii}
use Rattle.ansi_safe.proofs.LinkLemmas.{link_through, link_of-pieces}
use Rattle.ansi_safe.proofs.SafeLemmas.{piece_and_rest, AreGood, AreGood-append, good_are_safe, good_text, cleaned_pieces, cleaned-good, spelled-cleaned_pieces, ended_pieces, spelled-ended_pieces, ended-good, sanitized-is_closed}
use Rattle.ansi_view_runs.specs.declared.view.View.{View}
use Rattle.ansi_view_runs.specs.Lines.{Line, first_line, first_lines, is_line_feed, lines, max_piece, piece_len, split_end, split_unended}
use Rattle.ansi_view_runs.specs.Edits.{HasUtf8Tail, changed_in_turn}
use Rattle.ansi_view_runs.specs.SafeTexts.{IsSafeText}
use Rattle.ansi_view_runs.specs.Views.{Work, body, decoded, line_break, opening_of, opening_after, shown, viewed, viewed_all, view_of}
use Rattle.ansi_view_runs.proofs.ChangeLemmas.{safe-append, all-in_turn}

-- What bytes are read as is UTF-8.

valid_front : (bs : List ℕ) (m : ℕ) → IsUtf8 (take (valid_len_up_to bs m) bs)
valid_front bs zero = IsUtf8-nil
valid_front bs (suc m) = elim (cases_Bool (is_utf8 (take (suc m) bs))) [
  | inl is ↦ subst (λ n. IsUtf8 (take n bs)) (sym (ap (λ b. cond b (suc m) (valid_len_up_to bs m)) is)) (IsUtf8-from_is_utf8 (take (suc m) bs) is)
  | inr isnt ↦ subst (λ n. IsUtf8 (take n bs)) (sym (ap (λ b. cond b (suc m) (valid_len_up_to bs m)) isnt)) (valid_front bs m)
]

valid-utf8 : (bs : List ℕ) → IsUtf8 (take (utf8_valid_len bs) bs)
unfolding utf8_valid_len
valid-utf8 bs = valid_front bs (length bs)

either : {X : Type 0} (P : X → Type 0) (b : Bool) (x y : X) → P x → P y → P (if b then x else y)
either P true x y p q = p
either P false x y p q = q

-- an invalid sequence has a byte
invalid-some : (bs : List ℕ) → 0 < length bs → 0 < utf8_invalid_len bs
unfolding utf8_error_len
invalid-some bs some =
    let P : Option ℕ → Type 0 = λ o. 0 < unwrap_or o (length bs) in
    let one : P (Some 1) = omega arith in
    let two : P (Some 2) = omega arith in
    let three : P (Some 3) = omega arith in
    let x = slice_index bs 0 in
    let third = is_in_range 0x80 0xBF (slice_index bs 2) in
    let after_three = either P (nat_lt (length bs) 4) None (Some 3) some three in
    let after_two : P (error_len_after_two bs) = either P (nat_lt (length bs) 3) None _ some (either P third _ (Some 2) after_three two) in
    let second = is_in_range (second_byte_min x) (second_byte_max x) (slice_index bs 1) in
    let after_one : P (error_len_after_one bs) = either P (nat_lt (length bs) 2) None _ some (either P second (error_len_after_two bs) (Some 1) after_two one) in
    either P (length bs == 0) None (error_len_of_some bs) some (either P (is_in_range 0xC2 0xF4 x) (error_len_after_one bs) (Some 1) after_one one)

pub rest-shorter : (bs : List ℕ) → utf8_valid_len bs < length bs → length (after_first_chunk bs) < length bs
rest-shorter bs short =
    let n = utf8_valid_len bs in
    let invalid = invalid-some (drop n bs) (omega (arith, length-drop n bs, short)) in
    omega (arith, invalid, short, length-drop (n + utf8_invalid_len (drop n bs)) bs)

replacement-utf8 : IsUtf8 replacement_bytes
unfolding lib.Utf8.encode
replacement-utf8 = (0xFFFD ∷ [], (refl, refl))

whole-utf8 : (bs : List ℕ) → length bs ≤ utf8_valid_len bs → IsUtf8 bs
whole-utf8 bs whole = subst IsUtf8 (take_all (utf8_valid_len bs) bs whole) (valid-utf8 bs)

pub whole-lossy : (bs : List ℕ) → length bs ≤ utf8_valid_len bs → utf8_lossy bs ≡ bs
whole-lossy bs whole = utf8_lossy-IsUtf8 bs (whole-utf8 bs whole)

lossy-whole : (bs : List ℕ) → length bs ≤ utf8_valid_len bs → IsUtf8 (utf8_lossy bs)
lossy-whole bs whole = subst IsUtf8 (sym (whole-lossy bs whole)) (whole-utf8 bs whole)

lossy-cut : (bs : List ℕ) → utf8_valid_len bs < length bs → IsUtf8 (utf8_lossy (after_first_chunk bs)) → IsUtf8 (utf8_lossy bs)
lossy-cut bs short more =
    let faulty : ¬ (utf8_valid_len bs ≡ length bs) = omega (arith, short) in
    subst IsUtf8 (sym (utf8_lossy_step bs faulty)) (IsUtf8-append _ _ (valid-utf8 bs) (IsUtf8-append _ _ replacement-utf8 more))

lossy_within-utf8 : (k : ℕ) (bs : List ℕ) → length bs ≤ k → IsUtf8 (utf8_lossy bs)
lossy_within-utf8 zero bs few = lossy-whole bs (omega (arith, few))
lossy_within-utf8 (suc k) bs few = elim (cases_lt (utf8_valid_len bs) (length bs)) [
  | inl short ↦ lossy-cut bs short (lossy_within-utf8 k (after_first_chunk bs) (omega (arith, rest-shorter bs short, few)))
  | inr whole ↦ lossy-whole bs whole
]

lossy-utf8 : (bs : List ℕ) → IsUtf8 (utf8_lossy bs)
lossy-utf8 bs = lossy_within-utf8 (length bs) bs (omega arith)

decoded-utf8 : (view : View) (bs : List ℕ) → IsUtf8 (decoded view bs)
decoded-utf8 view bs = by view.plain
  where
    by : (b : Bool) → IsUtf8 (if b then plain (utf8_lossy bs) else utf8_lossy bs)
    by true = IsUtf8-plain (utf8_lossy bs) (lossy-utf8 bs)
    by false = lossy-utf8 bs

-- What opens what is open is UTF-8.

code-printable : (x : List ℕ) → list_all is_code_byte x ≡ true → list_all is_printable_byte x ≡ true
code-printable [] all = refl
code-printable (b ∷ x) all =
    let both = and_parts (is_code_byte b) (list_all is_code_byte x) all in
    let here : is_printable_byte b ≡ true = grind (arith, nat_tests) in
    and_from _ _ here (code-printable x both.1)

written-utf8 : (x : List ℕ) → list_all is_code_byte x ≡ true → IsUtf8 (written x)
unfolding lib.Utf8.encode
written-utf8 x all =
    let code = IsUtf8-from_ascii x (printable-ascii x (code-printable x all)) in
    let front : IsUtf8 (codes "\u{1b}[") = (codes "\u{1b}[", (refl, refl)) in
    let final : IsUtf8 (codes "m") = (codes "m", (refl, refl)) in
    IsUtf8-append (codes "\u{1b}[") (x ++ codes "m") front (IsUtf8-append x (codes "m") code final)

written_all-utf8 : (xs : List (List ℕ)) → list_all (list_all is_code_byte) xs ≡ true → IsUtf8 (written_all xs)
written_all-utf8 [] all = IsUtf8-nil
written_all-utf8 (x ∷ xs) all =
    let both = and_parts (list_all is_code_byte x) (list_all (list_all is_code_byte) xs) all in
    IsUtf8-append (written x) (written_all xs) (written-utf8 x both.0) (written_all-utf8 xs both.1)

close-utf8 : (s : Rendition) → IsUtf8 (close s)
close-utf8 s = written_all-utf8 (close_codes s) (close_codes_are s).each

link_end-utf8 : (link : List ℕ) → IsUtf8 (link_end link)
unfolding lib.Utf8.encode
link_end-utf8 link = either IsUtf8 (length link == 0) [] (codes "\u{1b}]8;;\u{1b}\\") IsUtf8-nil (codes "\u{1b}]8;;\u{1b}\\", (refl, refl))

start-utf8 : (t : List ℕ) → IsUtf8 (start (style_after t))
start-utf8 t = written_all-utf8 (start_codes (style_after t)) (start_codes_are (style_after t) (IsStyle-style_after t)).each

link_after-utf8 : (link w : List ℕ) → IsUtf8 link → IsUtf8 w → IsUtf8 (link_after link w)
link_after-utf8 link w before now = by (is_link w) (opens_link w)
  where
    by : (b c : Bool) → IsUtf8 (if b then (if c then w else []) else link)
    by true true = now
    by true false = IsUtf8-nil
    by false c = before

link_through-utf8 : (link t : List ℕ) (ps : List Piece) → ArePieces t ps → IsUtf8 t → IsUtf8 link → IsUtf8 (link_through link ps)
link_through-utf8 link t [] are utf8 before = before
link_through-utf8 link t (Text w ∷ ps) are utf8 before =
    let both = piece_and_rest (Text w) are.0 are.2 (subst IsUtf8 are.1 utf8) in
    link_through-utf8 link are.0 ps are.3 both.1 before
link_through-utf8 link t (Sequence w ∷ ps) are utf8 before =
    let both = piece_and_rest (Sequence w) are.0 are.2 (subst IsUtf8 are.1 utf8) in
    link_through-utf8 (link_after link w) are.0 ps are.3 both.1 (link_after-utf8 link w before both.0)
link_through-utf8 link t (LoneEscape ∷ ps) are utf8 before =
    let both = piece_and_rest LoneEscape are.0 are.2 (subst IsUtf8 are.1 utf8) in
    link_through-utf8 (link_after link (spelling LoneEscape)) are.0 ps are.3 both.1 (link_after-utf8 link (spelling LoneEscape) before both.0)

opening_of-utf8 : (t : List ℕ) → IsUtf8 t → IsUtf8 (opening_of t)
opening_of-utf8 t utf8 =
    let link = link_through-utf8 [] t (pieces_of t) (pieces_are t) utf8 IsUtf8-nil in
    IsUtf8-append (start (style_after t)) (link_of (marks t)) (start-utf8 t) (subst IsUtf8 (sym (link_of-pieces (pieces_of t))) link)

-- What is made of a text is UTF-8.

made_of-utf8 : (rest : Rest) (p : Piece) → IsUtf8 (spelling p) → IsUtf8 (encode_utf8_all (made_of rest p))
made_of-utf8 rest (Text w) utf8 = (made_of rest (Text w), ((made_of_run-stands rest (chars w) (scalars-chars w utf8)).scalar, refl))
made_of-utf8 rest (Sequence w) utf8 = (made_of rest (Sequence w), ((instead_of_all-stands rest (chars w) (scalars-chars w utf8)).scalar, refl))
made_of-utf8 rest LoneEscape utf8 = (made_of rest LoneEscape, ((instead_of_all-stands rest (chars (spelling LoneEscape)) (scalars-chars (spelling LoneEscape) utf8)).scalar, refl))

becomes-utf8 : (policy : Policy) (p : Piece) → IsUtf8 (spelling p) → IsUtf8 (becomes policy p)
becomes-utf8 policy p utf8 = by (may_stay policy.links p)
  where
    by : (b : Bool) → IsUtf8 (if b then spelling p else encode_utf8_all (made_of policy.rest p))
    by true = utf8
    by false = made_of-utf8 policy.rest p utf8

all_become-utf8 : (policy : Policy) (t : List ℕ) (ps : List Piece) → ArePieces t ps → IsUtf8 t → IsUtf8 (flat_map (becomes policy) ps)
all_become-utf8 policy t [] are utf8 = IsUtf8-nil
all_become-utf8 policy t (p ∷ ps) are utf8 =
    let both = piece_and_rest p are.0 are.2 (subst IsUtf8 are.1 utf8) in
    IsUtf8-append (becomes policy p) (flat_map (becomes policy) ps) (becomes-utf8 policy p both.0) (all_become-utf8 policy are.0 ps are.3 both.1)

cleaned-utf8 : (policy : Policy) (t : List ℕ) → IsUtf8 t → IsUtf8 (cleaned policy t)
cleaned-utf8 policy t utf8 = all_become-utf8 policy t (pieces_of t) (pieces_are t) utf8

pub body-utf8 : (view : View) (opening text : List ℕ) → IsUtf8 opening → IsUtf8 (body view opening text)
body-utf8 view opening text utf8 = IsUtf8-append opening (decoded view text) utf8 (decoded-utf8 view text)

pub opening_after-utf8 : (view : View) (opening : List ℕ) (line : Line) → IsUtf8 opening → IsUtf8 (opening_after view opening line)
opening_after-utf8 view opening line utf8 = by (length line.text == 0)
  where
    by : (b : Bool) → IsUtf8 (if b then opening else opening_of (cleaned view.policy (body view opening line.text)))
    by true = utf8
    by false = opening_of-utf8 _ (cleaned-utf8 view.policy _ (body-utf8 view opening line.text utf8))

-- A text that good pieces spell. It is safe, and so are two after each other.

record IsGoodText (links : Links) (t : List ℕ) : Type 0 where
  pieces : List Piece
  good : AreGood links pieces
  spell : spelled pieces ≡ t

good-none : (links : Links) → IsGoodText links []
good-none links = record { pieces = []; good = tt; spell = refl }

good-append : {links : Links} {t u : List ℕ} → IsGoodText links t → IsGoodText links u → IsGoodText links (t ++ u)
good-append {links} {t} {u} a b = record {
  pieces = a.pieces ++ b.pieces;
  good = AreGood-append links a.pieces b.pieces a.good b.good;
  spell = flat_map-append spelling a.pieces b.pieces ∙ ap (λ w. w ++ spelled b.pieces) a.spell ∙ ap (λ w. t ++ w) b.spell;
}

good-safe : {links : Links} {t : List ℕ} → IsGoodText links t → is_safe links t ≡ true
good-safe {links} {t} a = subst (λ w. is_safe links w ≡ true) a.spell (good_are_safe links a.pieces a.good)

sanitized-good : (policy : Policy) (t : List ℕ) → IsUtf8 t → IsGoodText policy.links (sanitized policy t)
sanitized-good policy t utf8 =
    let ps = cleaned_pieces policy t in
    record {
      pieces = ended_pieces ps;
      good = ended-good policy.links ps (cleaned-good policy t utf8);
      spell = spelled-ended_pieces ps ∙ ap (λ v. v ++ ending v) (spelled-cleaned_pieces policy t);
    }

-- The text of a line is made safe, and ends what it leaves open.

shown-good : (view : View) (opening : List ℕ) (line : Line) → IsUtf8 opening → IsGoodText view.policy.links (shown view opening line)
shown-good view opening line utf8 =
    let t = body view opening line.text in
    either (IsGoodText view.policy.links) (length line.text == 0) [] (sanitized view.policy t) (good-none view.policy.links) (sanitized-good view.policy t (body-utf8 view opening line.text utf8))

pub shown-safe : (view : View) (opening : List ℕ) (line : Line) → IsUtf8 opening → is_safe view.policy.links (shown view opening line) ≡ true
shown-safe view opening line utf8 = good-safe (shown-good view opening line utf8)

pub shown-closed : (view : View) (opening : List ℕ) (line : Line) → IsUtf8 opening → IsClosed (shown view opening line)
shown-closed view opening line utf8 =
    let t = body view opening line.text in
    either IsClosed (length line.text == 0) [] (sanitized view.policy t) (record { style = refl; link = refl }) (sanitized-is_closed view.policy t (body-utf8 view opening line.text utf8))

-- The lines of an input have ends that may stand anywhere.

abbrev pub IsEnd : List ℕ → Type 0
IsEnd end = (end ≡ []) ⊎ ((end ≡ codes "\n") ⊎ (end ≡ codes "\r\n"))

end-good : (links : Links) (end : List ℕ) → IsEnd end → IsGoodText links end
unfolding lib.Utf8.encode
end-good links end is = elim is [
  | inl none ↦ subst (IsGoodText links) (sym none) (good-none links)
  | inr some ↦ elim some [
    | inl feed ↦ subst (IsGoodText links) (sym feed) (record { pieces = one_text (codes "\n"); good = good_text links (codes "\n") (record { stand = refl; scalar = refl }); spell = refl })
    | inr both ↦ subst (IsGoodText links) (sym both) (record { pieces = one_text (codes "\r\n"); good = good_text links (codes "\r\n") (record { stand = refl; scalar = refl }); spell = refl })
  ]
]

abbrev pub HasEnd : Line × List ℕ → Type 0
HasEnd first = IsEnd first.0.end

pub first-ends : (t : List ℕ) → HasEnd (first_line t)
first-ends t =
    let n = position_or_len is_line_feed t in
    let carriage : HasEnd (record { text = take (n - 1) t; end = codes "\r\n" }, drop (n + 1) t) = inr (inr refl) in
    let feed : HasEnd (record { text = take n t; end = codes "\n" }, drop (n + 1) t) = inr (inl refl) in
    let ended : HasEnd (split_end n t) = either HasEnd (nat_lt 0 n && slice_index t (n - 1) == byte "\r") _ _ carriage feed in
    let piece : HasEnd (split_unended (piece_len t) t) = inl refl in
    let last : HasEnd (split_unended n t) = inl refl in
    either HasEnd (nat_lt max_piece n) _ _ piece (either HasEnd (nat_lt n (length t)) _ _ ended last)

-- With clean links kept, what any policy lets stay may stay.

kept-stays : (links : Links) (p : Piece) → may_stay links p ≡ true → may_stay Keep p ≡ true
kept-stays Keep p stays = stays
kept-stays Remove (Text w) stays = stays
kept-stays Remove (Sequence w) stays = or_left (is_sgr w) (is_clean_link w) stays
  where
    or_left : (a b : Bool) → (a || false) ≡ true → (a || b) ≡ true
    or_left true b is = refl
    or_left false b is = absurd (cc is)
kept-stays Remove LoneEscape stays = stays

pub kept-all : (kept : Links) (ps : List Piece) → list_all (may_stay kept) ps ≡ true → list_all (may_stay Keep) ps ≡ true
kept-all kept [] all = refl
kept-all kept (p ∷ ps) all =
    let both = and_parts (may_stay kept p) (list_all (may_stay kept) ps) all in
    and_from _ _ (kept-stays kept p both.0) (kept-all kept ps both.1)

-- The text of a line is safe, whatever changes are made of it.

pub sanitized-utf8 : (policy : Policy) (t : List ℕ) → IsUtf8 t → IsUtf8 (sanitized policy t)
sanitized-utf8 policy t utf8 =
    let u = cleaned policy t in
    let end = IsUtf8-append (link_end (link_of (marks u))) (close (style_after u)) (link_end-utf8 (link_of (marks u))) (close-utf8 (style_after u)) in
    IsUtf8-append u (ending u) (cleaned-utf8 policy t utf8) end

shown-utf8 : (view : View) (opening : List ℕ) (line : Line) → IsUtf8 opening → IsUtf8 (shown view opening line)
shown-utf8 view opening line utf8 =
    let t = body view opening line.text in
    either IsUtf8 (length line.text == 0) [] (sanitized view.policy t) IsUtf8-nil (sanitized-utf8 view.policy t (body-utf8 view opening line.text utf8))

pub shown-text : (view : View) (opening : List ℕ) (line : Line) → IsUtf8 opening → IsSafeText (shown view opening line)
shown-text view opening line utf8 = record {
  utf8 = shown-utf8 view opening line utf8;
  safe = kept-all view.policy.links (pieces_of (shown view opening line)) (shown-safe view opening line utf8);
  closed = shown-closed view opening line utf8;
}

pub edited-safe : (work : Work) (opening : List ℕ) (line : Line) → All HasUtf8Tail work.changes → IsUtf8 opening → All IsSafeText (changed_in_turn work.changes (shown work.view opening line))
edited-safe work opening line tails utf8 = all-in_turn work.changes (shown work.view opening line) tails (shown-text work.view opening line utf8)

-- So is what an input becomes: texts with line ends between them and after them.

safe-none : IsSafeText []
safe-none = record { utf8 = IsUtf8-nil; safe = refl; closed = record { style = refl; link = refl } }

safe-feed : IsSafeText (codes "\n")
unfolding lib.Utf8.encode
safe-feed = record { utf8 = (codes "\n", (refl, refl)); safe = good-safe (end-good Keep (codes "\n") (inr (inl refl))); closed = record { style = refl; link = refl } }

safe-return : IsSafeText (codes "\r\n")
unfolding lib.Utf8.encode
safe-return = record { utf8 = (codes "\r\n", (refl, refl)); safe = good-safe (end-good Keep (codes "\r\n") (inr (inr refl))); closed = record { style = refl; link = refl } }

safe-end : (end : List ℕ) → IsEnd end → IsSafeText end
safe-end end is = elim is [
  | inl none ↦ subst IsSafeText (sym none) safe-none
  | inr some ↦ elim some [
    | inl feed ↦ subst IsSafeText (sym feed) safe-feed
    | inr both ↦ subst IsSafeText (sym both) safe-return
  ]
]

safe-break : (end : List ℕ) → IsEnd end → IsSafeText (line_break end)
safe-break end is = either IsSafeText (length end == 0) (codes "\n") end safe-feed (safe-end end is)

safe-later : (gap : List ℕ) (ts : List (List ℕ)) → IsSafeText gap → AllByRecursion IsSafeText ts → IsSafeText (flat_map (λ t. gap ++ t) ts)
safe-later gap [] is are = safe-none
safe-later gap (t ∷ ts) is are = safe-append (gap ++ t) (flat_map (λ t. gap ++ t) ts) (safe-append gap t is are.0) (safe-later gap ts is are.1)

safe-joined : (gap : List ℕ) (ts : List (List ℕ)) → IsSafeText gap → AllByRecursion IsSafeText ts → IsSafeText (join_by (λ t. t) gap ts)
safe-joined gap [] is are = safe-none
safe-joined gap (t ∷ ts) is are = safe-append t (flat_map (λ t. gap ++ t) ts) are.0 (safe-later gap ts is are.1)

module _ (work : Work) (tails : All HasUtf8Tail work.changes) where
  line-safe : (opening : List ℕ) (line : Line) → IsUtf8 opening → IsEnd line.end → IsSafeText (viewed work opening line)
  line-safe opening line utf8 end =
      let ts = changed_in_turn work.changes (shown work.view opening line) in
      let texts = recursion_from_All IsSafeText ts (edited-safe work opening line tails utf8) in
      safe-append (join_by (λ t. t) (line_break line.end) ts) line.end (safe-joined (line_break line.end) ts (safe-break line.end end) texts) (safe-end line.end end)

  lines-safe : (k : ℕ) (t opening : List ℕ) → IsUtf8 opening → IsSafeText (viewed_all work opening (first_lines k t))
  unfolding viewed_all
  lines-safe zero t opening utf8 = safe-none
  lines-safe (suc k) [] opening utf8 = safe-none
  lines-safe (suc k) (b ∷ bs) opening utf8 =
      let first = first_line (b ∷ bs) in
      safe-append _ _ (line-safe opening first.0 utf8 (first-ends (b ∷ bs))) (lines-safe k first.1 (opening_after work.view opening first.0) (opening_after-utf8 work.view opening first.0 utf8))

  pub view_of-safe : (input : List ℕ) → IsSafeText (view_of work input)
  unfolding lines
  view_of-safe input = lines-safe (length input) input [] IsUtf8-nil

-- Texts that are safe and on one line: good pieces spell them, and their plain text prints.
use Rattle.std.proofs.Common.{◌≡◌, ℕ, zero, suc, ◌+◌, ◌-◌, ◌≤◌, min, ◌==◌, inl, inr, Bool, true, false, not, ◌&&◌, ◌||◌, List, [], ◌∷◌, ◌++◌, length, map, flat_map, take, drop, filter, slice_range, slice_index, chars, codes, encode_utf8, encode_utf8_all, nat_le, is_some, if◌then◌else◌, refl, sym, ◌∙◌, ap, ap₂, subst, arith, append-nil, length-append, take-append-drop}
use lib.Utf8.{scalar}
use Rattle.std.specs.List.{AllByRecursion, list_all}
use Rattle.std.specs.Str.{byte, IsUtf8, IsCharBoundary}
use Rattle.std.proofs.Math.Seq.{take-append_seam, drop-append_seam}
use Rattle.std.proofs.lemmas.Bool.{cases_lt, cond_both, and_parts, and_from}
use Rattle.std.proofs.lemmas.Bool.Decides.{nat_tests}
use Rattle.std.proofs.lemmas.Grind.{flat_map-append}
use Rattle.std.proofs.lemmas.List.Folds.{list_all-append}
use Rattle.std.proofs.lemmas.Str.{IsUtf8-nil, IsUtf8-append, IsUtf8-take, IsUtf8-drop, IsUtf8-between, IsCharBoundary-start, IsCharBoundary-end, IsCharBoundary-from_take, IsCharBoundary-from_drop, chars-nil, chars-append, chars-encodes, chars-IsAscii, encodes-chars, scalars-chars}
use Rattle.std.proofs.lemmas.Str.Ascii.{IsAscii-from_all}
use Rattle.ansi_items.specs.Bytes.{escape}
use Rattle.ansi_items.specs.Sequences.{IsSequence, is_sgr}
use Rattle.ansi_items.specs.Pieces.{Piece, Text, Sequence, LoneEscape, spelling, ArePieces, pieces_of}
use Rattle.ansi_items.specs.Plain.{Mark, plain_bytes, plain_of, plain, marks_of, marks, marks_up_to}
use Rattle.ansi_items.proofs.JoinLemmas.{spelled, AllStandAnywhere, pieces_of-spelled, spelled-pieces_of}
use Rattle.ansi_items.proofs.PieceLemmas.{pieces_are}
use Rattle.ansi_items.proofs.PlainLemmas.{one_text, plain_of-one_text}
use Rattle.ansi_items.proofs.Utf8Lemmas.{IsUtf8-plain}
use Rattle.ansi_style.specs.declared.state.rendition.Rendition.{Rendition}
use Rattle.ansi_style.specs.Rendition.{IsStyle}
use Rattle.ansi_style.specs.Styled.{style_at}
use Rattle.ansi_style.specs.Written.{start, start_codes, close, close_codes, written, written_all}
use Rattle.ansi_style.proofs.ColorLemmas.{is_code_byte, sgr_parameters-written}
use Rattle.ansi_style.proofs.MarkLemmas.{mark_further_on, marks_of-text, marks_of-mark}
use Rattle.ansi_style.proofs.ReadBackLemmas.{start_codes_are, close_codes_are, code_pieces, code_pieces_stand}
use Rattle.ansi_search.proofs.SliceLemmas.{take-append, drop-append, slice_range-none, slice_range-from_past, slice_range-min, slice_range-append}
use Rattle.ansi_slice.specs.Cut.{interleaved}
use Rattle.ansi_slice.proofs.ShownLemmas.{at_places, piece_when, interleaved_pieces, spelled-interleaved_pieces, spelled-one_text}
use Rattle.ansi_safe.specs.declared.policy.Links.TheVariants.{Keep}
use Rattle.ansi_safe.specs.Cells.{cell, cell_char, paragraph}
use Rattle.ansi_safe.specs.Links.{is_link, opens_link, link_after, link_after_all, link_at, link_end, pen_close}
use Rattle.ansi_safe.specs.Safe.{is_printing, is_allowed, all_allowed, keeps_links, is_clean_link, may_stay, is_safe}
use Rattle.ansi_safe.proofs.CellLemmas.{cell_chars-allowed, placed-is_safe, plain-cell, plain_of-merged}
use Rattle.ansi_safe.proofs.CellTextLemmas.{IsUtf8-cell}
use Rattle.ansi_safe.proofs.LinkLemmas.{link_of-fold}
use Rattle.ansi_safe.proofs.SafeLemmas.{piece_and_rest, AreGood, AreGood-append, good_stand, good_are_safe, good_text, stays-good}
use Rattle.ansi_cells.specs.OneLine.{is_one_line}
use Rattle.ansi_clusters.specs.Lines.{blanks}
use Rattle.ansi_cells.specs.Shown.{closing}
use Rattle.ansi_cells.proofs.ShownLawLemmas.{IsUtf8-blanks, blanks_are_printable}
use Rattle.ansi_clusters.proofs.AsciiLemmas.{All-printable_is_ascii}

-- ---- texts that print

-- each character of the text x is a printing one
pub record Prints (x : List ℕ) : Type 0 where
  pub utf8 : IsUtf8 x
  pub all : list_all is_printing (chars x) ≡ true

pub Prints-nil : Prints []
Prints-nil = record { utf8 = IsUtf8-nil; all = ap (list_all is_printing) chars-nil }

pub Prints-append : (x y : List ℕ) → Prints x → Prints y → Prints (x ++ y)
Prints-append x y first second = record {
  utf8 = IsUtf8-append x y first.utf8 second.utf8;
  all = ap (list_all is_printing) (chars-append x y first.utf8) ∙ list_all-append is_printing (chars x) (chars y) ∙ and_from _ _ first.all second.all;
}

-- what follows a text in another text
utf8-rest : (x y : List ℕ) → IsUtf8 x → IsUtf8 (x ++ y) → IsUtf8 y
utf8-rest x y front whole =
    let at = IsCharBoundary-from_take (x ++ y) (length x) whole (omega (arith, length-append x y)) (subst IsUtf8 (sym (take-append_seam x y)) front) in
    subst IsUtf8 (drop-append_seam x y) (IsUtf8-drop (x ++ y) (length x) whole at)

-- both parts of a text that prints
pub Prints-parts : (x y : List ℕ) → IsUtf8 x → Prints (x ++ y) → Prints x × Prints y
Prints-parts x y front whole =
    let split = ap (list_all is_printing) (chars-append x y front) ∙ list_all-append is_printing (chars x) (chars y) in
    let both = and_parts (list_all is_printing (chars x)) (list_all is_printing (chars y)) (sym split ∙ whole.all) in
    (record { utf8 = front; all = both.0 }, record { utf8 = utf8-rest x y front whole.utf8; all = both.1 })

-- a stretch of it
pub Prints-slice : (x : List ℕ) (a b : ℕ) → Prints x → IsCharBoundary x a → IsCharBoundary x b → Prints (slice_range x a b)
Prints-slice x a b is from to = elim (cases_lt b a) [
  | inl none ↦ subst Prints (sym (slice_range-none x a b (omega (arith, none)))) Prints-nil
  | inr ordered ↦
      let rest = drop a x in
      let after = (Prints-parts (take a x) rest (IsUtf8-take x a is.utf8 from) (subst Prints (sym (take-append-drop a x)) is)).1 in
      (Prints-parts (take (b - a) rest) (drop (b - a) rest) (IsUtf8-between x a b is.utf8 (omega (arith, ordered)) from to) (subst Prints (sym (take-append-drop (b - a) rest)) after)).0
]

printing-allowed : (c : ℕ) (cs : List ℕ) → is_printing c ≡ true → is_allowed c cs ≡ true
printing-allowed c cs is = ap (λ b. b || (c == byte "\t" || (c == byte "\n" || (c == byte "\r" && slice_index cs 0 == byte "\n")))) is

pub printing_are_allowed : (cs : List ℕ) → list_all is_printing cs ≡ true → all_allowed cs ≡ true
printing_are_allowed [] all = refl
printing_are_allowed (c ∷ cs) all =
    let both = and_parts (is_printing c) (list_all is_printing cs) all in
    and_from _ _ (printing-allowed c cs both.0) (printing_are_allowed cs both.1)

-- it is a good piece
good-printing : (x : List ℕ) → Prints x → AreGood Keep (one_text x)
good-printing x is =
    subst (λ w. AreGood Keep (one_text w)) (encodes-chars x is.utf8)
    (good_text Keep (chars x) (record { stand = printing_are_allowed (chars x) is.all; scalar = scalars-chars x is.utf8 }))

-- and has no TAB and no line end

abbrev stays : ℕ → Bool
stays b = not (b == byte "\t" || b == byte "\n" || b == byte "\r")

encode-stays : (c : ℕ) → is_printing c ≡ true → list_all stays (encode_utf8 c) ≡ true
unfolding lib.Utf8.encode
encode-stays c printing = grind (arith, nat_tests)

encodes-stay : (cs : List ℕ) → list_all is_printing cs ≡ true → list_all stays (encode_utf8_all cs) ≡ true
encodes-stay [] all = refl
encodes-stay (c ∷ cs) all =
    let both = and_parts (is_printing c) (list_all is_printing cs) all in
    list_all-append stays (encode_utf8 c) (encode_utf8_all cs) ∙ and_from _ _ (encode-stays c both.0) (encodes-stay cs both.1)

prints-stay : (x : List ℕ) → Prints x → list_all stays x ≡ true
prints-stay x is = ap (list_all stays) (sym (encodes-chars x is.utf8)) ∙ encodes-stay (chars x) is.all

-- ---- texts that are safe and on one line

pub record IsClean (t : List ℕ) : Type 0 where
  pub pieces : List Piece
  pub good : AreGood Keep pieces
  pub spell : spelled pieces ≡ t
  pub prints : Prints (plain_of pieces)

pub clean-safe : {t : List ℕ} → IsClean t → is_safe Keep t ≡ true
clean-safe is = subst (λ u. is_safe Keep u ≡ true) is.spell (good_are_safe Keep is.pieces is.good)

pub clean-one_line : {t : List ℕ} → IsClean t → is_one_line t ≡ true
clean-one_line is =
    let text : plain (spelled is.pieces) ≡ plain_of is.pieces = ap plain_of (pieces_of-spelled is.pieces (good_stand Keep is.pieces is.good)) ∙ plain_of-merged is.pieces in
    subst (λ u. is_one_line u ≡ true) is.spell (ap (list_all stays) text ∙ prints-stay (plain_of is.pieces) is.prints)

pub clean-nil : IsClean []
clean-nil = record { pieces = []; good = tt; spell = refl; prints = Prints-nil }

-- one after another such text
pub clean-append : {t u : List ℕ} → IsClean t → IsClean u → IsClean (t ++ u)
clean-append {t} {u} a b = record {
  pieces = a.pieces ++ b.pieces;
  good = AreGood-append Keep a.pieces b.pieces a.good b.good;
  spell = flat_map-append spelling a.pieces b.pieces ∙ ap₂ ◌++◌ a.spell b.spell;
  prints = subst Prints (sym (flat_map-append plain_bytes a.pieces b.pieces)) (Prints-append (plain_of a.pieces) (plain_of b.pieces) a.prints b.prints);
}

pub clean-text : (x : List ℕ) → Prints x → IsClean x
clean-text x is = record { pieces = one_text x; good = good-printing x is; spell = spelled-one_text x; prints = subst Prints (sym (plain_of-one_text x)) is }

Prints-blanks : (n : ℕ) → Prints (blanks n)
Prints-blanks n = record {
  utf8 = IsUtf8-blanks n;
  all = ap (list_all is_printing) (chars-IsAscii (blanks n) (IsAscii-from_all (blanks n) (All-printable_is_ascii (blanks n) (blanks_are_printable n)))) ∙ each n;
}
  where
    each : (n : ℕ) → list_all is_printing (blanks n) ≡ true
    each zero = refl
    each (suc n) = each n

pub clean-blanks : (n : ℕ) → IsClean (blanks n)
clean-blanks n = clean-text (blanks n) (Prints-blanks n)

clean-sequence : (w : List ℕ) → IsSequence w → may_stay Keep (Sequence w) ≡ true → IsClean w
clean-sequence w is may = record { pieces = Sequence w ∷ []; good = ((is, may), tt); spell = append-nil w; prints = Prints-nil }

-- the start and the close of a style

codes-clean : (xs : List (List ℕ)) → list_all (list_all is_code_byte) xs ≡ true → AllStandAnywhere (code_pieces xs) → IsClean (written_all xs)
codes-clean [] each stand = clean-nil
codes-clean (x ∷ xs) each stand =
    let both = and_parts (list_all is_code_byte x) (list_all (list_all is_code_byte) xs) each in
    let sgr : is_sgr (written x) ≡ true = ap is_some (sgr_parameters-written x both.0) in
    clean-append (clean-sequence (written x) stand.0 (ap (λ b. b || (keeps_links Keep && is_clean_link (written x))) sgr)) (codes-clean xs both.1 stand.1)

pub clean-start : (s : Rendition) → IsStyle s → IsClean (start s)
clean-start s is = (let are = start_codes_are s is in codes-clean (start_codes s) are.each (code_pieces_stand (start_codes s) are))

pub clean-close : (s : Rendition) → IsClean (close s)
clean-close s = (let are = close_codes_are s in codes-clean (close_codes s) are.each (code_pieces_stand (close_codes s) are))

-- the end of a link

link_end_is_sequence : IsSequence (codes "\u{1b}]8;;\u{1b}\\")
link_end_is_sequence = inr (inl (record { opener = byte "]"; body = codes "8;;"; terminator = escape ∷ byte "\\" ∷ []; spelled = refl; opens = refl; is_body = refl; ends = inl refl }))

pub clean-link_end : (link : List ℕ) → IsClean (link_end link)
clean-link_end link = cond_both (length link == 0) [] (codes "\u{1b}]8;;\u{1b}\\") IsClean (λ none. clean-nil) (λ some. clean-sequence _ link_end_is_sequence refl)

pub clean-pen_close : (t : List ℕ) (i : ℕ) → IsClean (pen_close t i)
clean-pen_close t i = clean-append (clean-link_end (link_at t i)) (clean-close (style_at t i))

pub clean-closed : (t : List ℕ) → IsClean t → IsClean (t ++ closing t)
clean-closed t is = clean-append is (clean-pen_close t (length (plain t)))

-- ---- what is shown of a safe text

safe-good : (t : List ℕ) (ps : List Piece) → ArePieces t ps → IsUtf8 t → list_all (may_stay Keep) ps ≡ true → AreGood Keep ps
safe-good t [] are utf8 safe = tt
safe-good t (p ∷ ps) are utf8 safe =
    let both = piece_and_rest p are.0 are.2 (subst IsUtf8 are.1 utf8) in
    let stay = and_parts (may_stay Keep p) (list_all (may_stay Keep) ps) safe in
    (stays-good Keep p are.0 are.2 both.0 stay.0, safe-good are.0 ps are.3 both.1 stay.1)

-- the pieces of a safe text are good
pub safe_are_good : (t : List ℕ) → IsUtf8 t → is_safe Keep t ≡ true → AreGood Keep (pieces_of t)
safe_are_good t utf8 safe = safe-good t (pieces_of t) (pieces_are t) utf8 safe

-- places between characters, in two texts in a row

boundary-first : (x y : List ℕ) (a : ℕ) → IsUtf8 x → IsUtf8 (x ++ y) → IsCharBoundary (x ++ y) a → IsCharBoundary x (min a (length x))
boundary-first x y a front whole at = elim (cases_lt a (length x)) [
  | inl less ↦
      let none : a - length x ≡ 0 = omega (arith, less) in
      let same : take a (x ++ y) ≡ take a x = take-append a x y ∙ ap (λ n. take a x ++ take n y) none ∙ append-nil (take a x) in
      let here : IsCharBoundary x a = IsCharBoundary-from_take x a front (omega (arith, less)) (subst IsUtf8 same (IsUtf8-take (x ++ y) a whole at)) in
      subst (IsCharBoundary x) (omega (arith, less)) here
  | inr past ↦ subst (IsCharBoundary x) (omega (arith, past)) (IsCharBoundary-end x)
]

boundary-second : (x y : List ℕ) (a : ℕ) → IsUtf8 y → IsUtf8 (x ++ y) → IsCharBoundary (x ++ y) a → IsCharBoundary y (a - length x)
boundary-second x y a rest whole at = elim (cases_lt a (length x)) [
  | inl less ↦ subst (IsCharBoundary y) (omega (arith, less)) (IsCharBoundary-start y rest)
  | inr past ↦
      let none : drop a x ≡ [] = drop_none x a (omega (arith, past)) in
      let same : drop a (x ++ y) ≡ drop (a - length x) y = drop-append a x y ∙ ap (λ u. u ++ drop (a - length x) y) none in
      IsCharBoundary-from_drop y (a - length x) (omega (arith, at.0, length-append x y)) (subst IsUtf8 same (IsUtf8-drop (x ++ y) a whole at))
]
  where
    drop_none : (x : List ℕ) (a : ℕ) → length x ≤ a → drop a x ≡ []
    drop_none [] zero all = refl
    drop_none [] (suc a) all = refl
    drop_none (b ∷ x) zero all = absurd (omega (arith, all))
    drop_none (b ∷ x) (suc a) all = drop_none x a (omega (arith, all))

slice-utf8 : (x : List ℕ) (a b : ℕ) → IsUtf8 x → IsCharBoundary x (min a (length x)) → IsCharBoundary x (min b (length x)) → IsUtf8 (slice_range x a b)
slice-utf8 x a b utf8 from to = elim (cases_lt b a) [
  | inl none ↦ subst IsUtf8 (sym (slice_range-none x a b (omega (arith, none)))) IsUtf8-nil
  | inr ordered ↦ subst IsUtf8 (slice_range-min x a b) (IsUtf8-between x (min a (length x)) (min b (length x)) utf8 (omega (arith, ordered)) from to)
]

good-utf8 : (ps : List Piece) → AreGood Keep ps → IsUtf8 (plain_of ps)
good-utf8 [] good = IsUtf8-nil
good-utf8 (Text w ∷ ps) good = IsUtf8-append w (plain_of ps) good.0.2 (good-utf8 ps good.1)
good-utf8 (Sequence w ∷ ps) good = good-utf8 ps good.1
good-utf8 (LoneEscape ∷ ps) good = absurd good.0

-- the bytes a..b of good pieces, which print, and marks among them are good pieces
interleaved-good : (ps : List Piece) (test : ℕ → Bool) (a b : ℕ) → AreGood Keep ps → IsCharBoundary (plain_of ps) a → IsCharBoundary (plain_of ps) b → Prints (slice_range (plain_of ps) a b) → AreGood Keep (interleaved_pieces test a b ps)
interleaved-good [] test a b good from to is = tt
interleaved-good (Text w ∷ ps) test a b good from to is =
    let n = length w in
    let x = plain_of ps in
    let here = good.0.2 in
    let rest = good-utf8 ps good.1 in
    let whole = IsUtf8-append w x here rest in
    let part = slice-utf8 w a b here (boundary-first w x a here whole from) (boundary-first w x b here whole to) in
    let parts = Prints-parts (slice_range w a b) (slice_range x (a - n) (b - n)) part (subst Prints (slice_range-append w x a b) is) in
    AreGood-append Keep (one_text (slice_range w a b)) (interleaved_pieces (λ p. test (n + p)) (a - n) (b - n) ps) (good-printing (slice_range w a b) parts.0)
    (interleaved-good ps (λ p. test (n + p)) (a - n) (b - n) good.1 (boundary-second w x a rest whole from) (boundary-second w x b rest whole to) parts.1)
interleaved-good (Sequence w ∷ ps) test a b good from to is =
    let more = interleaved-good ps test a b good.1 from to is in
    cond_both (test 0) (Sequence w ∷ []) [] (λ qs. AreGood Keep (qs ++ interleaved_pieces test a b ps)) (λ yes. (good.0, more)) (λ no. more)
interleaved-good (LoneEscape ∷ ps) test a b good from to is = absurd good.0

plain_of-interleaved : (ps : List Piece) (test : ℕ → Bool) (a b : ℕ) → plain_of (interleaved_pieces test a b ps) ≡ slice_range (plain_of ps) a b
plain_of-interleaved [] test a b = sym (slice_range-from_past [] a b (omega arith))
plain_of-interleaved (Text w ∷ ps) test a b =
    let n = length w in
    let later : ℕ → Bool = λ p. test (n + p) in
    flat_map-append plain_bytes (one_text (slice_range w a b)) (interleaved_pieces later (a - n) (b - n) ps)
    ∙ ap₂ ◌++◌ (plain_of-one_text (slice_range w a b)) (plain_of-interleaved ps later (a - n) (b - n)) ∙ sym (slice_range-append w (plain_of ps) a b)
plain_of-interleaved (p ∷ ps) test a b =
    flat_map-append plain_bytes (piece_when (test 0) p) (interleaved_pieces test a b ps)
    ∙ cond_both (test 0) (p ∷ []) [] (λ qs. plain_of qs ++ plain_of (interleaved_pieces test a b ps) ≡ plain_of (interleaved_pieces test a b ps)) (λ yes. refl) (λ no. refl)
    ∙ plain_of-interleaved ps test a b

pub clean-interleaved : (t : List ℕ) (test : ℕ → Bool) (a b : ℕ) → IsUtf8 t → is_safe Keep t ≡ true → IsCharBoundary (plain t) a → IsCharBoundary (plain t) b → Prints (slice_range (plain t) a b)
    → IsClean (interleaved (plain t) a b (at_places test (marks t)))
clean-interleaved t test a b utf8 safe from to is = record {
  pieces = interleaved_pieces test a b (pieces_of t);
  good = interleaved-good (pieces_of t) test a b (safe_are_good t utf8 safe) from to is;
  spell = spelled-interleaved_pieces (pieces_of t) test a b;
  prints = subst Prints (sym (plain_of-interleaved (pieces_of t) test a b)) is;
}

-- ---- the link at a place of a safe text

abbrev AreClean : List Mark → Type 0
AreClean ms = AllByRecursion (λ (m : Mark). IsClean m.bytes) ms

clean-further : (n : ℕ) (ms : List Mark) → AreClean ms → AreClean (map (mark_further_on n) ms)
clean-further n [] all = tt
clean-further n (m ∷ ms) all = (all.0, clean-further n ms all.1)

clean-filter : (test : Mark → Bool) (ms : List Mark) → AreClean ms → AreClean (filter test ms)
clean-filter test [] all = tt
clean-filter test (m ∷ ms) all =
    cond_both (test m) (m ∷ filter test ms) (filter test ms) AreClean (λ yes. (all.0, clean-filter test ms all.1)) (λ no. clean-filter test ms all.1)

marks-clean : (ps : List Piece) → AreGood Keep ps → AreClean (marks_of ps)
marks-clean [] good = tt
marks-clean (Text w ∷ ps) good = subst AreClean (sym (marks_of-text w ps)) (clean-further (length w) (marks_of ps) (marks-clean ps good.1))
marks-clean (Sequence w ∷ ps) good = subst AreClean (sym (marks_of-mark (Sequence w) ps refl)) (clean-sequence w good.0.0 good.0.1, marks-clean ps good.1)
marks-clean (LoneEscape ∷ ps) good = absurd good.0

link-clean : (ms : List Mark) (link : List ℕ) → AreClean ms → IsClean link → IsClean (link_after_all link ms)
link-clean [] link all is = is
link-clean (m ∷ ms) link all is =
    link-clean ms (link_after link m.bytes) all.1
    (cond_both (is_link m.bytes) (if opens_link m.bytes then m.bytes else []) link IsClean (λ yes. cond_both (opens_link m.bytes) m.bytes [] IsClean (λ opens. all.0) (λ ends. clean-nil)) (λ no. is))

-- the link after marks of it at places that pass a test
pub clean-link : (t : List ℕ) (test : ℕ → Bool) (link : List ℕ) → IsUtf8 t → is_safe Keep t ≡ true → IsClean link → IsClean (link_after_all link (at_places test (marks t)))
clean-link t test link utf8 safe is = link-clean (at_places test (marks t)) link (clean-filter (λ (m : Mark). test m.place) (marks t) (marks-clean (pieces_of t) (safe_are_good t utf8 safe))) is

pub clean-link_at : (t : List ℕ) (i : ℕ) → IsUtf8 t → is_safe Keep t ≡ true → IsClean (link_at t i)
clean-link_at t i utf8 safe = subst IsClean (sym (link_of-fold (marks_up_to i (marks t)))) (clean-link t (λ p. nat_le p i) [] utf8 safe clean-nil)

-- ---- the text of a cell

cell_char-printing : (c : ℕ) → list_all is_printing (cell_char c) ≡ true
cell_char-printing c = by (is_printing c) (c == byte "\t" || c == byte "\n") refl
  where
    by : (p w : Bool) → is_printing c ≡ p → list_all is_printing (if p then c ∷ [] else if w then byte " " ∷ [] else []) ≡ true
    by true w printing = and_from _ _ printing refl
    by false true other = refl
    by false false other = refl

cell_chars-printing : (cs : List ℕ) → list_all is_printing (flat_map cell_char cs) ≡ true
cell_chars-printing [] = refl
cell_chars-printing (c ∷ cs) = list_all-append is_printing (cell_char c) (flat_map cell_char cs) ∙ and_from _ _ (cell_char-printing c) (cell_chars-printing cs)

pub Prints-cell : (t : List ℕ) → IsUtf8 t → Prints (plain (cell t))
Prints-cell t utf8 =
    let cs = flat_map cell_char (chars (plain t)) in
    let are = cell_chars-allowed (chars (plain t)) (scalars-chars (plain t) (IsUtf8-plain t utf8)) in
    record {
      utf8 = IsUtf8-plain (cell t) (IsUtf8-cell t utf8);
      all = ap (λ x. list_all is_printing (chars x)) (plain-cell t utf8) ∙ ap (list_all is_printing) (chars-encodes cs are.scalar) ∙ cell_chars-printing (chars (plain t));
    }

-- and so with a text that is one
pub cell-prints : {t u : List ℕ} → IsUtf8 t → u ≡ cell t → list_all is_printing (chars (plain u)) ≡ true
cell-prints {t} utf8 is = ap (λ v. list_all is_printing (chars (plain v))) is ∙ (Prints-cell t utf8).all

pub safe-cell : (t : List ℕ) → IsUtf8 t → is_safe Keep (cell t) ≡ true
safe-cell t utf8 = search (placed-is_safe, utf8)

pub safe-paragraph : (t : List ℕ) → IsUtf8 t → is_safe Keep (paragraph t) ≡ true
safe-paragraph t utf8 = search (placed-is_safe, utf8)

pub clean-cell : (t : List ℕ) → IsUtf8 t → IsClean (cell t)
clean-cell t utf8 = record {
  pieces = pieces_of (cell t);
  good = safe_are_good (cell t) (IsUtf8-cell t utf8) (safe-cell t utf8);
  spell = spelled-pieces_of (cell t);
  prints = Prints-cell t utf8;
}

-- A safe text that is changed in ranges is safe, if no range begins or ends between a carriage return and a line feed.
use Rattle.std.proofs.Common.{◌≡◌, ℕ, ◌+◌, ◌-◌, ◌<◌, ◌≤◌, ◌==◌, inl, inr, Bool, true, false, not, ◌&&◌, ◌||◌, List, [], ◌∷◌, ◌++◌, length, take, drop, chars, encode_utf8, encode_utf8_all, slice_index, refl, sym, ◌∙◌, ap, ap₂, subst, arith, append_assoc, length-append}
use Rattle.std.proofs.lemmas.Bool.{and_parts, and_from, cases_lt, eqb-true, not-true}
use Rattle.std.proofs.lemmas.Bool.Decides.{nat_tests}
use Rattle.std.proofs.lemmas.Grind.{flat_map-append}
use Rattle.std.proofs.lemmas.List.{take-append-drop, length-take-le, get_or-take, get_or-drop, get_or_append_left, get_or-append-add, get_or-append_right}
use Rattle.std.proofs.lemmas.List.Folds.{list_all-append}
use Rattle.std.proofs.lemmas.Str.{IsUtf8-take, IsUtf8-drop, chars-append, encodes-chars}
use Rattle.std.specs.List.{list_all}
use Rattle.std.specs.Str.{IsUtf8, IsCharBoundary}
use Rattle.ansi_items.specs.Bytes.{is_plain_byte}
use Rattle.ansi_items.specs.Pieces.{Piece, Text, Sequence, LoneEscape, ArePieces, spelling, pieces_of}
use Rattle.ansi_items.specs.Plain.{plain, plain_of}
use Rattle.ansi_items.proofs.PieceLemmas.{pieces_are}
use Rattle.ansi_items.proofs.PlainLemmas.{one_text}
use Rattle.ansi_items.proofs.JoinLemmas.{spelled, AllStandAnywhere, spelled-pieces_of}
use Rattle.ansi_style.specs.declared.state.rendition.Rendition.{Rendition}
use Rattle.ansi_style.specs.Rendition.{IsStyle, plain_style}
use Rattle.ansi_style.specs.Sgr.{apply}
use Rattle.ansi_style.specs.Reading.{style_within}
use Rattle.ansi_style.specs.Written.{written, start_codes, close_codes}
use Rattle.ansi_style.proofs.ReadBackLemmas.{code_pieces, start_codes_are, close_codes_are}
use Rattle.ansi_style.proofs.StyleLemmas.{IsStyle-plain_style, IsStyle-apply, IsStyle-style_after_from}
use Rattle.ansi_search.specs.Positions.{no_character_goes_on}
use Rattle.ansi_search.proofs.SliceLemmas.{list_all-parts}
use Rattle.ansi_search.proofs.OffsetLemmas.{after_of, after_of-last, after_of-text, pieces_of-after, drop-nonempty}
use Rattle.ansi_search.proofs.PositionLemmas.{no_character_goes_on-append, no_character_goes_on-after, no_character_goes_on-drop, good_is_boundary}
use Rattle.ansi_safe.specs.declared.policy.Links.{Links}
use Rattle.ansi_safe.specs.Safe.{is_printing, is_allowed, all_allowed, keeps_links, is_clean_link, may_stay, is_safe}
use Rattle.ansi_safe.proofs.SafeLemmas.{piece_and_rest, AreGood, AreGood-append, good_are_safe, stays-good}
use Rattle.ansi_restyle.specs.Ranges.{are_in_turn, parts_line_end, keep_line_ends}
use Rattle.ansi_restyle.specs.Restyled.{is_change, changed_pieces, front, rest, restyled_from, restyled}
use Rattle.ansi_restyle.proofs.OtherLemmas.{change_is_sgr}
use Rattle.ansi_restyle.proofs.FrontLemmas.{front_pieces, front_pieces-last, front_pieces-text, pieces_of-front, style_after-front, plain-rest}
use Rattle.ansi_restyle.proofs.RangeLemmas.{are_first}
use Rattle.ansi_restyle.proofs.ChangeLemmas.{codes_after, codes_after_stand, pieces_changed, spelled-pieces_changed, change_stands}
use Rattle.ansi_restyle.proofs.RestyledLemmas.{drop-further}

-- Characters that are allowed together: those at the front are alone too, unless a CR at their end and a LF after it are parted.

abbrev ends_cr : List ℕ → Bool
ends_cr [] = false
ends_cr (c ∷ []) = c == 13
ends_cr (c ∷ d ∷ cs) = ends_cr (d ∷ cs)

allowed-last : (c : ℕ) (ds : List ℕ) → is_allowed c ds ≡ true → ((c == 13) && (slice_index ds 0 == 10)) ≡ false → is_allowed c [] ≡ true
allowed-last c ds here apart = by (is_printing c) (c == 9) (c == 10) (c == 13) (slice_index ds 0 == 10) here apart
  where
    by : (p t n r f : Bool) → (p || (t || (n || (r && f)))) ≡ true → (r && f) ≡ false → (p || (t || (n || (r && false)))) ≡ true
    by true t n r f here apart = refl
    by false true n r f here apart = refl
    by false false true r f here apart = refl
    by false false false r f here apart = absurd (cc (here, apart))

allowed-front : (cs ds : List ℕ) → all_allowed (cs ++ ds) ≡ true → (ends_cr cs && (slice_index ds 0 == 10)) ≡ false → all_allowed cs ≡ true
allowed-front [] ds all apart = refl
allowed-front (c ∷ []) ds all apart = and_from (is_allowed c []) true (allowed-last c ds (and_parts (is_allowed c ds) (all_allowed ds) all).0 apart) refl
allowed-front (c ∷ d ∷ cs) ds all apart =
    let both = and_parts (is_allowed c (d ∷ (cs ++ ds))) (all_allowed (d ∷ (cs ++ ds))) all in
    and_from (is_allowed c (d ∷ cs)) (all_allowed (d ∷ cs)) both.0 (allowed-front (d ∷ cs) ds both.1 apart)

allowed-rest : (cs ds : List ℕ) → all_allowed (cs ++ ds) ≡ true → all_allowed ds ≡ true
allowed-rest [] ds all = all
allowed-rest (c ∷ cs) ds all = allowed-rest cs ds (and_parts (is_allowed c (cs ++ ds)) (all_allowed (cs ++ ds)) all).1

-- Both by their bytes.

cr_bytes : (cs : List ℕ) → ends_cr cs ≡ true → (us : List ℕ) × (encode_utf8_all cs ≡ us ++ 13 ∷ [])
unfolding lib.Utf8.encode
cr_bytes [] is = absurd (cc is)
cr_bytes (c ∷ []) is = ([], subst (λ k. encode_utf8_all (k ∷ []) ≡ 13 ∷ []) (sym (eqb-true c 13 is)) refl)
cr_bytes (c ∷ d ∷ cs) is =
    let more = cr_bytes (d ∷ cs) is in
    (encode_utf8 c ++ more.0, ap (λ v. encode_utf8 c ++ v) more.1 ∙ sym (append_assoc (encode_utf8 c) more.0 (13 ∷ [])))

lf_bytes : (ds : List ℕ) → (slice_index ds 0 == 10) ≡ true → (vs : List ℕ) × (encode_utf8_all ds ≡ 10 ∷ vs)
unfolding lib.Utf8.encode
lf_bytes [] is = absurd (cc is)
lf_bytes (d ∷ ds) is = (encode_utf8_all ds, subst (λ k. encode_utf8_all (k ∷ ds) ≡ 10 ∷ encode_utf8_all ds) (sym (eqb-true d 10 is)) refl)

module _ (w : List ℕ) (n : ℕ) (utf8 : IsUtf8 w) (boundary : IsCharBoundary w n) where
  both_chars : chars w ≡ chars (take n w) ++ chars (drop n w)
  both_chars = ap chars (sym (take-append-drop n w)) ∙ chars-append (take n w) (drop n w) (IsUtf8-take w n utf8 boundary)

  -- a CR at the end of the front, and a LF after it, are parted at n
  cr_there : ends_cr (chars (take n w)) ≡ true → slice_index w (n - 1) ≡ 13
  cr_there is =
      let found = cr_bytes (chars (take n w)) is in
      let bytes : take n w ≡ found.0 ++ 13 ∷ [] = sym (encodes-chars (take n w) (IsUtf8-take w n utf8 boundary)) ∙ found.1 in
      let size : n ≡ length found.0 + 1 = omega (arith, length-take-le n w boundary.0, ap length bytes, length-append found.0 (13 ∷ [])) in
      let at : n - 1 ≡ length found.0 + 0 = omega (arith, size) in
      sym (get_or-take n w (n - 1) 0 (omega (arith, size))) ∙ ap₂ (λ u i. slice_index u i) bytes at ∙ get_or-append-add found.0 (13 ∷ []) 0 0

  lf_there : (slice_index (chars (drop n w)) 0 == 10) ≡ true → slice_index w n ≡ 10
  lf_there is =
      let found = lf_bytes (chars (drop n w)) is in
      let bytes : drop n w ≡ 10 ∷ found.0 = sym (encodes-chars (drop n w) (IsUtf8-drop w n utf8 boundary)) ∙ found.1 in
      let at : n ≡ n + 0 = omega arith in
      ap (slice_index w) at ∙ sym (get_or-drop n w 0 0) ∙ ap (λ u. slice_index u 0) bytes

  run_apart : parts_line_end w n ≡ false → (ends_cr (chars (take n w)) && (slice_index (chars (drop n w)) 0 == 10)) ≡ false
  run_apart apart = by (ends_cr (chars (take n w))) (slice_index (chars (drop n w)) 0 == 10) refl refl
    where
      by : (a b : Bool) → ends_cr (chars (take n w)) ≡ a → (slice_index (chars (drop n w)) 0 == 10) ≡ b → (a && b) ≡ false
      by true true cr lf = absurd (cc (apart, ap₂ (λ i j. (i == 13) && (j == 10)) (cr_there cr) (lf_there lf)))
      by true false cr lf = refl
      by false b cr lf = refl

  pub run_front : all_allowed (chars w) ≡ true → parts_line_end w n ≡ false → all_allowed (chars (take n w)) ≡ true
  run_front all apart = allowed-front (chars (take n w)) (chars (drop n w)) (sym (ap all_allowed both_chars) ∙ all) (run_apart apart)

  pub run_rest : all_allowed (chars w) ≡ true → all_allowed (chars (drop n w)) ≡ true
  run_rest all = allowed-rest (chars (take n w)) (chars (drop n w)) (sym (ap all_allowed both_chars) ∙ all)

-- Where a text is parted.

never_both : (b : ℕ) → ((b == 13) && (b == 10)) ≡ false
never_both b = grind (arith, nat_tests)

pub parts-front : (x : List ℕ) (n : ℕ) → n ≡ 0 → parts_line_end x n ≡ false
parts-front x n none = ap (parts_line_end x) none ∙ never_both (slice_index x 0)

pub parts-drop : (x : List ℕ) (k n : ℕ) → parts_line_end x (k + n) ≡ false → parts_line_end (drop k x) n ≡ false
parts-drop x k n apart = elim (cases_lt 0 n) [
  | inl some ↦ (
      let before : k + (n - 1) ≡ k + n - 1 = omega arith in
      ap₂ (λ i j. (i == 13) && (j == 10)) (get_or-drop k x (n - 1) 0 ∙ ap (slice_index x) before) (get_or-drop k x n 0) ∙ apart)
  | inr none ↦ parts-front (drop k x) n (omega (arith, none))
]

pub parts-within : (w y : List ℕ) (n : ℕ) → n < length w → parts_line_end w n ≡ parts_line_end (w ++ y) n
parts-within w y n within =
    sym (ap₂ (λ i j. (i == 13) && (j == 10)) (get_or_append_left w y 0 (n - 1) (omega (arith, within))) (get_or_append_left w y 0 n within))

pub parts-after : (w y : List ℕ) (n : ℕ) → length w ≤ n → parts_line_end (w ++ y) n ≡ false → parts_line_end y (n - length w) ≡ false
parts-after w y n past apart = elim (cases_lt (length w) n) [
  | inl more ↦ (
      let before : n - 1 - length w ≡ n - length w - 1 = omega arith in
      sym (ap₂ (λ i j. (i == 13) && (j == 10))
      (get_or-append_right w y (length w) (n - 1) 0 refl (omega (arith, more)) ∙ ap (slice_index y) before)
      (get_or-append_right w y (length w) n 0 refl past)) ∙ apart)
  | inr none ↦ parts-front y (n - length w) (omega (arith, none))
]

-- Good pieces.

module _ (links : Links) where
  pub one_text_good : (v : List ℕ) → list_all is_plain_byte v ≡ true → IsUtf8 v → all_allowed (chars v) ≡ true → AreGood links (one_text v)
  one_text_good [] bare utf8 all = tt
  one_text_good (b ∷ v) bare utf8 all = ((λ e. cc, bare, utf8, all), tt)

  pub front_good : (n : ℕ) (ps : List Piece) → AreGood links ps → no_character_goes_on (plain_of ps) n ≡ true → parts_line_end (plain_of ps) n ≡ false → AreGood links (front_pieces n ps)
  front_good n [] good here apart = tt
  front_good n (Text w ∷ ps) good here apart = elim (cases_lt n (length w)) [
    | inl last ↦ (
        let y = plain_of ps in
        let utf8 : IsUtf8 w = good.0.2 in
        let boundary = good_is_boundary w n (omega (arith, last)) (sym (no_character_goes_on-append w y n last) ∙ here) in
        rw (front_pieces-last n w ps last)
        (one_text_good (take n w) (list_all-parts is_plain_byte n w good.0.1).0 (IsUtf8-take w n utf8 boundary) (run_front w n utf8 boundary good.0.3 (parts-within w y n last ∙ apart))))
    | inr within ↦
        rw (front_pieces-text n w ps within)
        (good.0, front_good (n - length w) ps good.1 (sym (no_character_goes_on-after w (plain_of ps) n within) ∙ here) (parts-after w (plain_of ps) n within apart))
  ]
  front_good n (Sequence w ∷ ps) good here apart = (good.0, front_good n ps good.1 here apart)
  front_good n (LoneEscape ∷ ps) good here apart = absurd good.0

  pub after_good : (n : ℕ) (ps : List Piece) → AreGood links ps → no_character_goes_on (plain_of ps) n ≡ true → AreGood links (after_of n ps)
  after_good n [] good here = tt
  after_good n (Text w ∷ ps) good here = elim (cases_lt n (length w)) [
    | inl last ↦ (
        let utf8 : IsUtf8 w = good.0.2 in
        let boundary = good_is_boundary w n (omega (arith, last)) (sym (no_character_goes_on-append w (plain_of ps) n last) ∙ here) in
        rw (after_of-last n w ps last)
        ((drop-nonempty n w last, (list_all-parts is_plain_byte n w good.0.1).1, IsUtf8-drop w n utf8 boundary, run_rest w n utf8 boundary good.0.3), good.1))
    | inr within ↦ rw (after_of-text n w ps within) (after_good (n - length w) ps good.1 (sym (no_character_goes_on-after w (plain_of ps) n within) ∙ here))
  ]
  after_good n (Sequence w ∷ ps) good here = after_good n ps good.1 here
  after_good n (LoneEscape ∷ ps) good here = absurd good.0

  sgr_stays : (codes : List ℕ) → is_change codes ≡ true → may_stay links (Sequence (written codes)) ≡ true
  sgr_stays codes is = ap (λ b. b || (keeps_links links && is_clean_link (written codes))) (change_is_sgr codes is)

  pub codes_good : (xs : List (List ℕ)) → list_all is_change xs ≡ true → AllStandAnywhere (code_pieces xs) → AreGood links (code_pieces xs)
  codes_good [] each stand = tt
  codes_good (x ∷ xs) each stand =
      let both = and_parts (is_change x) (list_all is_change xs) each in
      ((stand.0, sgr_stays x both.0), codes_good xs both.1 stand.1)

  changed_good : (codes : List ℕ) (s : Rendition) (ps : List Piece) → is_change codes ≡ true → IsStyle s → AreGood links ps → AreGood links (pieces_changed codes s ps)
  changed_good codes s [] change is good = tt
  changed_good codes s (Text v ∷ ps) change is good =
      let c = apply s (written codes) in
      let each = list_all-append is_change (close_codes c) (start_codes s) ∙ and_from _ _ (close_codes_are c).each (start_codes_are s is).each in (
        ((change_stands codes change).0, sgr_stays codes change),
        (good.0, AreGood-append links (code_pieces (codes_after codes s)) (pieces_changed codes s ps) (codes_good (codes_after codes s) each (codes_after_stand codes s is)) (changed_good codes s ps change is good.1)),
      )
  changed_good codes s (Sequence w ∷ ps) change is good = (good.0, changed_good codes (apply s w) ps change (IsStyle-apply s w is) good.1)
  changed_good codes s (LoneEscape ∷ ps) change is good = absurd good.0

  -- the text u is made of good pieces
  pub record IsMade (u : List ℕ) : Type 0 where
    pub pieces : List Piece
    pub bytes : spelled pieces ≡ u
    pub good : AreGood links pieces

  pub made-append : {u v : List ℕ} → IsMade u → IsMade v → IsMade (u ++ v)
  made-append first second = record {
    pieces = first.pieces ++ second.pieces;
    bytes = flat_map-append spelling first.pieces second.pieces ∙ ap₂ (λ x y. x ++ y) first.bytes second.bytes;
    good = AreGood-append links first.pieces second.pieces first.good second.good;
  }

  pub keep_parts : (x : List ℕ) (r : ℕ × ℕ) (rs : List (ℕ × ℕ)) → keep_line_ends x (r ∷ rs) ≡ true → (parts_line_end x r.0 ≡ false) × (parts_line_end x r.1 ≡ false) × (keep_line_ends x rs ≡ true)
  keep_parts x r rs kept =
      let both = and_parts (not (parts_line_end x r.0) && not (parts_line_end x r.1)) (keep_line_ends x rs) kept in
      let ends = and_parts (not (parts_line_end x r.0)) (not (parts_line_end x r.1)) both.0 in
      (not-true (parts_line_end x r.0) ends.0, not-true (parts_line_end x r.1) ends.1, both.1)

  restyled_made : (x codes : List ℕ) → is_change codes ≡ true → (rs : List (ℕ × ℕ)) (n : ℕ) (t : List ℕ) (s : Rendition) → IsStyle s → AreGood links (pieces_of t) → plain t ≡ drop n x → are_in_turn x n rs ≡ true → keep_line_ends x rs ≡ true
      → IsMade (restyled_from (written codes) s n t rs)
  restyled_made x codes change [] n t s is good there turn kept = record { pieces = pieces_of t; bytes = spelled-pieces_of t; good = good }
  restyled_made x codes change (r ∷ rs) n t s is good there turn kept =
      let w = written codes in
      let first = are_first x n r rs turn in
      let parts = keep_parts x r rs kept in
      let begins : n ≤ r.0 = first.begins in
      let ends : r.0 ≤ r.1 = first.ends in
      let before = r.0 - n in
      let within = r.1 - r.0 in
      let style = style_within s t before in
      let here = rest before t in
      let part = front within here in
      let last = style_within style here within in
      let after = rest within here in
      let at_start : n + before ≡ r.0 = omega arith in
      let at_end : r.0 + within ≡ r.1 = omega arith in
      let plain_here : plain here ≡ drop r.0 x = plain-rest t before ∙ ap (drop before) there ∙ drop-further x n r.0 begins in
      let plain_after : plain after ≡ drop r.1 x = plain-rest here within ∙ ap (drop within) plain_here ∙ drop-further x r.0 r.1 ends in
      let is_there : IsStyle style = subst IsStyle (style_after-front s t before) (IsStyle-style_after_from s (front before t) is) in
      let is_last : IsStyle last = subst IsStyle (style_after-front style here within) (IsStyle-style_after_from style part is_there) in
      let good_start : no_character_goes_on (plain t) before ≡ true
      = ap (λ u. no_character_goes_on u before) there ∙ no_character_goes_on-drop x n before ∙ ap (no_character_goes_on x) at_start ∙ first.good_start in
      let good_end : no_character_goes_on (plain here) within ≡ true
      = ap (λ u. no_character_goes_on u within) plain_here ∙ no_character_goes_on-drop x r.0 within ∙ ap (no_character_goes_on x) at_end ∙ first.good_end in
      let apart_start : parts_line_end (plain t) before ≡ false = ap (λ u. parts_line_end u before) there ∙ parts-drop x n before (ap (parts_line_end x) at_start ∙ parts.0) in
      let apart_end : parts_line_end (plain here) within ≡ false = ap (λ u. parts_line_end u within) plain_here ∙ parts-drop x r.0 within (ap (parts_line_end x) at_end ∙ parts.1) in
      let good_here = subst (AreGood links) (sym (pieces_of-after t before)) (after_good before (pieces_of t) good good_start) in
      let good_part = subst (AreGood links) (sym (pieces_of-front here within)) (front_good within (pieces_of here) good_here good_end apart_end) in
      let good_after = subst (AreGood links) (sym (pieces_of-after here within)) (after_good within (pieces_of here) good_here good_end) in
      let one : IsMade (front before t) = record {
        pieces = front_pieces before (pieces_of t);
        bytes = ap spelled (sym (pieces_of-front t before)) ∙ spelled-pieces_of (front before t);
        good = front_good before (pieces_of t) good good_start apart_start;
      } in
      let two : IsMade (changed_pieces w style (pieces_of part)) = record {
        pieces = pieces_changed codes style (pieces_of part);
        bytes = spelled-pieces_changed codes style (pieces_of part);
        good = changed_good codes style (pieces_of part) change is_there good_part;
      } in
      made-append (made-append one two) (restyled_made x codes change rs r.1 after last is_last good_after plain_after first.later parts.2)

  pub safe_good : (t : List ℕ) (ps : List Piece) → ArePieces t ps → IsUtf8 t → list_all (may_stay links) ps ≡ true → AreGood links ps
  safe_good t [] are utf8 all = tt
  safe_good t (p ∷ ps) are utf8 all =
      let both = and_parts (may_stay links p) (list_all (may_stay links) ps) all in
      let parts = piece_and_rest p are.0 are.2 (subst IsUtf8 are.1 utf8) in
      (stays-good links p are.0 are.2 parts.0 both.0, safe_good are.0 ps are.3 parts.1 both.1)

  pub safe-restyled : (t codes : List ℕ) (rs : List (ℕ × ℕ)) → IsUtf8 t → is_change codes ≡ true → are_in_turn (plain t) 0 rs ≡ true → is_safe links t ≡ true → keep_line_ends (plain t) rs ≡ true
      → is_safe links (restyled t (written codes) rs) ≡ true
  safe-restyled t codes rs utf8 change turn safe kept =
      let made = restyled_made (plain t) codes change rs 0 t plain_style IsStyle-plain_style (safe_good t (pieces_of t) (pieces_are t) utf8 safe) refl turn kept in
      subst (λ u. is_safe links u ≡ true) made.bytes (good_are_safe links made.pieces made.good)

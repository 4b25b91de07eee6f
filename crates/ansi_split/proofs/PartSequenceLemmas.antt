-- Each sequence of a whole text that is no SGR is in one of its parts, and the sequences stay in order.
use Rattle.ansi_split.proofs.Common.{◌≡◌, ℕ, ◌+◌, ◌-◌, ◌≤◌, Bool, true, not, ◌&&◌, ◌==◌, List, [], ◌∷◌, ◌++◌, map, flat_map, filter, zip, length, nat_le, Option, Some, None, is_some, refl, sym, ◌∙◌, ap, ap₂, arith, IsTrue, append-nil, append_assoc, length-append, if◌then◌else◌, cond_both, cond-false, and_parts, eqb-true, le-leb, filter-append, list_all, is_sgr, Piece, Text, Sequence, after_text, merged, pieces_of, Mark, plain_of, plain, marks, marks_up_to, is_whole, is_other, other_sequences, Rendition, IsStyle, written, start_codes, start, close_if_any, style_at, interleaved, match_places, without_overlaps, parts, marks_past, carried, part_over, all_parts, one_text, slice_range-none, interleaved-bare, spelled, AllStandAnywhere, pieces_of-spelled, AreCodes, code_pieces, start_codes_are, dressed_pieces, interleaved_pieces, part_from, plain_style}
use Rattle.ansi_style.proofs.ColorLemmas.{is_code_byte, sgr_parameters-written}
use Rattle.ansi_split.proofs.IntervalLemmas.{ComesAfter, ComeAfter, all_parts_come_after}
use Rattle.ansi_split.proofs.PartSliceLemmas.{interleaved_pieces-nothing, earlier_places, own_pieces, spelled-own_pieces, own_pieces_stand, all_pieces, closing_codes, closing_codes_are, IsStyle-carried, part_pieces, spelled-part_pieces, part_pieces_stand}
use Rattle.ansi_split.proofs.PartTextLemmas.{parts_over, all_parts-over}

-- Among pieces.

abbrev other_pieces : List Piece → List Piece
other_pieces ps = filter is_other ps

others-after_text : (w : List ℕ) (ps : List Piece) → other_pieces (after_text w ps) ≡ other_pieces ps
others-after_text w (Text v ∷ ps) = refl
others-after_text w ps = refl

others-merged : (ps : List Piece) → other_pieces (merged ps) ≡ other_pieces ps
others-merged [] = refl
others-merged (Text w ∷ ps) = others-after_text w (merged ps) ∙ others-merged ps
others-merged (p ∷ ps) = ap (λ qs. if is_other p then p ∷ qs else qs) (others-merged ps)

other_sequences-spelled : (ps : List Piece) → AllStandAnywhere ps → other_sequences (spelled ps) ≡ other_pieces ps
other_sequences-spelled ps stand = ap other_pieces (pieces_of-spelled ps stand) ∙ others-merged ps

-- what is written for codes is SGRs alone
others-code_pieces : {n : ℕ} (xs : List (List ℕ)) → AreCodes xs n → other_pieces (code_pieces xs) ≡ []
others-code_pieces xs are = by_each xs are.each
  where
    by_each : (xs : List (List ℕ)) → list_all (list_all is_code_byte) xs ≡ true → other_pieces (code_pieces xs) ≡ []
    by_each [] each = refl
    by_each (x ∷ xs) each =
        let both = and_parts (list_all is_code_byte x) (list_all (list_all is_code_byte) xs) each in
        let sgr : is_sgr (written x) ≡ true = ap is_some (sgr_parameters-written x both.0) in
        cond-false (is_other (Sequence (written x))) (Sequence (written x) ∷ other_pieces (code_pieces xs)) (other_pieces (code_pieces xs)) (ap not sgr) ∙ by_each xs both.1

others-dressed_pieces : {n : ℕ} (s : Rendition) (ps : List Piece) (xs : List (List ℕ)) → IsStyle s → AreCodes xs n → other_pieces (dressed_pieces s ps xs) ≡ other_pieces ps
others-dressed_pieces s ps xs is are =
    filter-append is_other (code_pieces (start_codes s) ++ ps) (code_pieces xs)
    ∙ ap₂ (λ u v. u ++ v)
    (filter-append is_other (code_pieces (start_codes s)) ps ∙ ap (λ u. u ++ other_pieces ps) (others-code_pieces (start_codes s) (start_codes_are s is)))
    (others-code_pieces xs are)
    ∙ append-nil (other_pieces ps)

-- Among what is shown of pieces: which bytes are shown doesn't matter.

others-one_text : (w : List ℕ) → other_pieces (one_text w) ≡ []
others-one_text [] = refl
others-one_text (b ∷ w) = refl

others-interleaved_pieces : (ps : List Piece) (test : ℕ → Bool) (a b c d : ℕ) → other_pieces (interleaved_pieces test a b ps) ≡ other_pieces (interleaved_pieces test c d ps)
others-interleaved_pieces [] test a b c d = refl
others-interleaved_pieces (Text w ∷ ps) test a b c d = grind (arith, filter-append, others-one_text, others-interleaved_pieces ps (λ p. test (length w + p)) (a - length w) (b - length w) (c - length w) (d - length w))
others-interleaved_pieces (p ∷ ps) test a b c d = grind (arith, filter-append, others-interleaved_pieces ps test a b c d)

-- if each place up to the end passes, they are all
others-interleaved_all : (ps : List Piece) (test : ℕ → Bool) → ((p : ℕ) → p ≤ length (plain_of ps) → test p ≡ true) → other_pieces (interleaved_pieces test 0 0 ps) ≡ other_pieces ps
others-interleaved_all [] test all = refl
others-interleaved_all (Text w ∷ ps) test all = grind (arith, filter-append, length-append, others-one_text, others-interleaved_pieces, others-interleaved_all ps (λ p. test (length w + p)) (λ p within. all (length w + p) (omega (arith, within, length-append w (plain_of ps)))))
others-interleaved_all (p ∷ ps) test all = grind (arith, others-interleaved_all ps test all)

-- In a part they are those that it shows.

no_marks_if_length_0 : (ms : List Mark) → length ms ≡ 0 → ms ≡ []
no_marks_if_length_0 [] none = refl
no_marks_if_length_0 (m ∷ ms) none = absurd (omega (arith, none))

other_sequences-part_over : (t : List ℕ) (before : Option ℕ) (i : ℕ × ℕ) → IsTrue (is_whole t) → other_sequences (part_over t before i) ≡ other_pieces (own_pieces t before i)
unfolding part_from
other_sequences-part_over t before i whole =
    let x = plain t in
    let own = marks_past before (marks_up_to i.1 (marks t)) in
    let q = style_at t i.1 in
    cond_both (i.0 == i.1 && length own == 0) [] (start (carried plain_style t before) ++ interleaved x i.0 i.1 own ++ close_if_any q) (λ u. other_sequences u ≡ other_pieces (own_pieces t before i))
    (λ none.
    let both = and_parts (i.0 == i.1) (length own == 0) none in
    let same : i.0 ≡ i.1 = eqb-true i.0 i.1 both.0 in
    let nothing : spelled (own_pieces t before i) ≡ []
    = spelled-own_pieces t before i ∙ ap (interleaved x i.0 i.1) (no_marks_if_length_0 own (eqb-true (length own) 0 both.1)) ∙ interleaved-bare x i.0 i.1 ∙ slice_range-none x i.0 i.1 (omega (arith, same)) in
    ap other_sequences (sym nothing) ∙ other_sequences-spelled (own_pieces t before i) (own_pieces_stand t before i whole))
    (λ some. ap other_sequences (sym (spelled-part_pieces t before i))
    ∙ other_sequences-spelled (part_pieces t before i) (part_pieces_stand t before i whole)
    ∙ others-dressed_pieces (carried plain_style t before) (own_pieces t before i) (closing_codes q) (IsStyle-carried t before) (closing_codes_are q))

-- So in the parts in turn, after those of the parts before, they are those up to the end of the last.

abbrev others_up_to : List ℕ → Option ℕ → List Piece
others_up_to t end = other_pieces (interleaved_pieces (earlier_places end) 0 0 (pieces_of t))

others-next : (t : List ℕ) (before : Option ℕ) (i : ℕ × ℕ) → ComesAfter before i → others_up_to t before ++ other_pieces (own_pieces t before i) ≡ others_up_to t (Some i.1)
others-next t before i after =
    sym (filter-append is_other (interleaved_pieces (earlier_places before) 0 0 (pieces_of t)) (own_pieces t before i))
    ∙ ap other_pieces (all_pieces t before i after) ∙ others-interleaved_pieces (pieces_of t) (λ p. nat_le p i.1) i.0 i.1 0 0

-- where the last of the intervals ends, or else those before
abbrev last_end : Option ℕ → List (ℕ × ℕ) → Option ℕ
last_end before [] = before
last_end before (i ∷ is) = last_end (Some i.1) is

others-parts_over : (t : List ℕ) (before : Option ℕ) (is : List (ℕ × ℕ)) → IsTrue (is_whole t) → ComeAfter before is
    → others_up_to t before ++ flat_map other_sequences (parts_over t before is) ≡ others_up_to t (last_end before is)
others-parts_over t before [] whole after = append-nil (others_up_to t before)
others-parts_over t before (i ∷ is) whole after =
    let rest = flat_map other_sequences (parts_over t (Some i.1) is) in
    sym (append_assoc (others_up_to t before) (other_sequences (part_over t before i)) rest)
    ∙ ap (λ v. v ++ rest) (ap (λ v. others_up_to t before ++ v) (other_sequences-part_over t before i whole) ∙ others-next t before i after.0)
    ∙ others-parts_over t (Some i.1) is whole after.1

last_end-intervals : (before : Option ℕ) (n first last : ℕ) (taken : List ℕ) → last_end before (zip (first ∷ map (λ m. m + n) taken) (taken ++ last ∷ [])) ≡ Some last
last_end-intervals before n first last [] = refl
last_end-intervals before n first last (m ∷ ms) = last_end-intervals (Some m) n (m + n) last ms

pub other_sequences-all_parts : (t p : List ℕ) → IsTrue (is_whole t) → flat_map other_sequences (all_parts t p) ≡ other_sequences t
other_sequences-all_parts t p whole =
    let x = plain t in
    let is = parts x p in
    let given = flat_map other_sequences (parts_over t None is) in
    ap (flat_map other_sequences) (all_parts-over t p)
    ∙ ap (λ qs. other_pieces qs ++ given) (sym (interleaved_pieces-nothing (earlier_places None) 0 0 (pieces_of t) (λ p. refl) (omega arith)))
    ∙ others-parts_over t None is whole (all_parts_come_after x p)
    ∙ ap (others_up_to t) (last_end-intervals None (length p) 0 (length x) (without_overlaps (length p) 0 (match_places x p)))
    ∙ others-interleaved_all (pieces_of t) (λ p. nat_le p (length x)) (λ p within. le-leb p (length x) within)

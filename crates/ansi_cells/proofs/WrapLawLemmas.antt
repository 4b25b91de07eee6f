-- Each line of a wrapped text is whole, has the slices of the styled and of the linked bytes of its paragraph, and leaves no known style and no link open.
use Rattle.std.proofs.Common.{◌≡◌, ℕ, ◌+◌, ◌<◌, ◌≤◌, max, ◌==◌, ◌⊎◌, inl, inr, Bool, true, false, ◌&&◌, List, [], ◌∷◌, ◌++◌, length, map, filter, slice_range, nat_le, nat_lt, Some, codes, encode_utf8_all, if◌then◌else◌, IsTrue, refl, sym, ◌∙◌, ap, ap₂, subst, arith, append_assoc, append-nil}
use Rattle.std.specs.List.{AllByRecursion, All}
use Rattle.std.specs.Prelude.{bytes_eq}
use Rattle.std.specs.Str.{byte}
use Rattle.std.proofs.lemmas.Bool.{cond_both, and_parts, eqb-true, le-leb, false_from_ne_true}
use Rattle.std.proofs.lemmas.Bool.Decides.{nat_tests}
use Rattle.std.proofs.lemmas.Grind.{flat_map-append}
use Rattle.std.proofs.lemmas.List.Elements.{All-from_recursion}
use Rattle.ansi_items.specs.Bytes.{escape}
use Rattle.ansi_items.specs.Sequences.{IsSequence, IsControlString}
use Rattle.ansi_items.specs.Pieces.{Piece, Text, Sequence, LoneEscape, spelling, pieces_of}
use Rattle.ansi_items.specs.Plain.{Mark, plain, marks_of, marks, marks_up_to, is_whole}
use Rattle.ansi_items.proofs.JoinLemmas.{spelled, AllStandAnywhere, stand-append, pieces_stand}
use Rattle.ansi_style.specs.declared.state.rendition.Rendition.{Rendition}
use Rattle.ansi_style.specs.Rendition.{IsStyle, plain_style, known}
use Rattle.ansi_style.specs.Sgr.{apply}
use Rattle.ansi_style.specs.Reading.{after_marks}
use Rattle.ansi_style.specs.Styled.{StyledByte, styled, residue}
use Rattle.ansi_style.specs.Written.{start, start_codes, close, close_codes}
use Rattle.ansi_style.proofs.DressedLemmas.{GiveAlone, IsClosed, closed-spelled, dressed_pieces, spelled-dressed_pieces, dressed_pieces_stand, dressed_pieces_give}
use Rattle.ansi_style.proofs.MarkLemmas.{mark_further_on, marks_of-text, marks_of-mark}
use Rattle.ansi_style.proofs.CloseLemmas.{close_codes_clear}
use Rattle.ansi_style.proofs.ReadBackLemmas.{start_codes_are, close_codes_are}
use Rattle.ansi_style.proofs.SgrLemmas.{apply-no_sgr}
use Rattle.ansi_style.proofs.StyleLemmas.{IsStyle-apply_all, IsStyle-plain_style}
use Rattle.ansi_style.proofs.StyledLemmas.{styled_byte, style_through, style_through-append, styled_through, styled_through-append, styled-pieces}
use Rattle.ansi_search.proofs.SliceLemmas.{slice_range-none}
use Rattle.ansi_slice.specs.Cut.{interleaved}
use Rattle.ansi_split.specs.Parts.{marks_past}
use Rattle.ansi_slice.proofs.ShownLemmas.{at_places, interleaved_pieces, spelled-interleaved_pieces, interleaved_pieces_stand, style_through-interleaved_pieces, state_through-interleaved_pieces}
use Rattle.ansi_split.proofs.PartSliceLemmas.{Divides, state-divided, seen-divided, at_places-never, at_places-at_places}
use Rattle.ansi_cells.specs.Addresses.{LinkedByte, linked}
use Rattle.ansi_clusters.specs.Columns.{cluster_width, clusters}
use Rattle.ansi_clusters.specs.Lines.{lines, lines_from}
use Rattle.ansi_safe.specs.declared.policy.Links.TheVariants.{Keep}
use Rattle.ansi_safe.specs.Cells.{paragraph}
use Rattle.ansi_safe.specs.Safe.{is_safe}
use Rattle.ansi_safe.proofs.MadeLemmas.{whole-safe}
use Rattle.ansi_safe.specs.Links.{is_link, opens_link, link_of, link_after, link_after_all, link_end}
use Rattle.ansi_cells.specs.Wrapped.{CarriedPart, pen_end, line_over, lines_over, lent_lines, wrapped, lines_of}
use Rattle.ansi_clusters.proofs.LineLemmas.{line-any, line-last}
use Rattle.ansi_safe.proofs.LinkLemmas.{is_link-sgr, link_of-pieces, link_through}
use Rattle.ansi_cells.proofs.LinkedLawLemmas.{linked_byte, linked_through, linked-pieces, IsLinked, IsLinked-append, IsLinked-nil, IsLinked-spelled, IsLinked-interleaved, IsLinked-codes, IsLinked-link_end}
use Rattle.ansi_cells.proofs.WrapLemmas.{has_no_lines-cons}

-- Marks that are sequences.

abbrev pub AreSequences : List Mark → Type 0
AreSequences ms = AllByRecursion (λ (m : Mark). IsSequence m.bytes) ms

sequences-further : (n : ℕ) (ms : List Mark) → AreSequences ms → AreSequences (map (mark_further_on n) ms)
sequences-further n [] all = tt
sequences-further n (m ∷ ms) all = (all.0, sequences-further n ms all.1)

pub sequences-filter : (test : Mark → Bool) (ms : List Mark) → AreSequences ms → AreSequences (filter test ms)
sequences-filter test [] all = tt
sequences-filter test (m ∷ ms) all =
    cond_both (test m) (m ∷ filter test ms) (filter test ms) AreSequences (λ yes. (all.0, sequences-filter test ms all.1)) (λ no. sequences-filter test ms all.1)

pub marks_are_sequences : (ps : List Piece) → AllStandAnywhere ps → AreSequences (marks_of ps)
marks_are_sequences [] all = tt
marks_are_sequences (Text w ∷ ps) all = subst AreSequences (sym (marks_of-text w ps)) (sequences-further (length w) (marks_of ps) (marks_are_sequences ps all.1))
marks_are_sequences (Sequence w ∷ ps) all = subst AreSequences (sym (marks_of-mark (Sequence w) ps refl)) (all.0, marks_are_sequences ps all.1)
marks_are_sequences (LoneEscape ∷ ps) all = absurd all.0

-- A sequence that opens a link or ends one, or nothing.

abbrev pub one_sequence : List ℕ → List Piece
one_sequence [] = []
one_sequence (b ∷ w) = Sequence (b ∷ w) ∷ []

pub spelled-one_sequence : (w : List ℕ) → spelled (one_sequence w) ≡ w
spelled-one_sequence [] = refl
spelled-one_sequence (b ∷ w) = append-nil (b ∷ w)

pub styled_through-one_sequence : (s : Rendition) (w : List ℕ) → styled_through s (one_sequence w) ≡ []
styled_through-one_sequence s [] = refl
styled_through-one_sequence s (b ∷ w) = refl

linked_through-one_sequence : (w : List ℕ) → linked_through [] (one_sequence w) ≡ []
linked_through-one_sequence [] = refl
linked_through-one_sequence (b ∷ w) = refl

abbrev pub IsNoneOrLink : List ℕ → Type 0
IsNoneOrLink w = (w ≡ []) ⊎ (IsSequence w × (is_link w ≡ true))

pub one_sequence_stands : (w : List ℕ) → IsNoneOrLink w → AllStandAnywhere (one_sequence w)
one_sequence_stands [] is = tt
one_sequence_stands (b ∷ w) (inl none) = absurd (cc none)
one_sequence_stands (b ∷ w) (inr is) = (is.0, tt)

-- it changes no style
pub link_keeps : (s : Rendition) (w : List ℕ) → IsNoneOrLink w → style_through s (one_sequence w) ≡ s
link_keeps s [] is = refl
link_keeps s (b ∷ w) (inl none) = absurd (cc none)
link_keeps s (b ∷ w) (inr is) = apply-no_sgr s (b ∷ w) (false_from_ne_true _ (λ sgr. (let no = is_link-sgr (b ∷ w) sgr in cc (no, is.1))))

IsControlString-link_end : IsControlString (codes "\u{1b}]8;;\u{1b}\\")
IsControlString-link_end = record { opener = byte "]"; body = codes "8;;"; terminator = escape ∷ byte "\\" ∷ []; spelled = refl; opens = refl; is_body = refl; ends = inl refl }

pub link_end_is_link : (link : List ℕ) → IsNoneOrLink (link_end link)
link_end_is_link link = cond_both (length link == 0) [] (codes "\u{1b}]8;;\u{1b}\\") IsNoneOrLink (λ none. inl refl) (λ some. inr (inr (inl IsControlString-link_end), refl))

-- A link that is carried: it opens itself.

pub record IsCarried (link : List ℕ) : Type 0 where
  pub is : IsNoneOrLink link
  pub opens : link_after [] link ≡ link

pub IsCarried-nil : IsCarried []
IsCarried-nil = record { is = inl refl; opens = refl }

carried-step : (link w : List ℕ) → IsSequence w → IsCarried link → IsCarried (link_after link w)
carried-step link w is carried =
    cond_both (is_link w) (if opens_link w then w else []) link IsCarried
    (λ yes. cond_both (opens_link w) w [] IsCarried
    (λ opens. record { is = inr (is, yes); opens = ap₂ (λ a b. if a then (if b then w else []) else []) yes opens })
    (λ ends. IsCarried-nil))
    (λ no. carried)

pub IsCarried-after : (link : List ℕ) (ms : List Mark) → AreSequences ms → IsCarried link → IsCarried (link_after_all link ms)
IsCarried-after link [] all carried = carried
IsCarried-after link (m ∷ ms) all carried = IsCarried-after (link_after link m.bytes) ms all.1 (carried-step link m.bytes all.0 carried)

pub IsLinked-carried : (link : List ℕ) → IsCarried link → IsLinked [] link [] link
IsLinked-carried link carried =
    let made = IsLinked-spelled [] (one_sequence link) link (spelled-one_sequence link) (one_sequence_stands link carried.is) in
    record { whole = made.whole; bytes = made.bytes ∙ linked_through-one_sequence link; after = made.after ∙ through link ∙ carried.opens }
  where
    through : (w : List ℕ) → link_through [] (one_sequence w) ≡ link_after [] w
    through [] = refl
    through (b ∷ w) = refl

-- ---- a line is a start, the link, what is shown, the end of the link and a close

-- the text is whole, has these styled and these linked bytes, and leaves no known style and no link open
record IsEnded (bs : List StyledByte) (ls : List LinkedByte) (u : List ℕ) : Type 0 where
  closed : IsClosed bs u
  linked : IsLinked [] u ls []

append_assoc-five : (s l v e c : List ℕ) → s ++ (l ++ (v ++ e)) ++ c ≡ s ++ l ++ v ++ (e ++ c)
append_assoc-five s l v e c = simp append_assoc

module _ (t : List ℕ) (style : Rendition) (link : List ℕ) (test : ℕ → Bool) (a b : ℕ) (whole : IsTrue (is_whole t)) (is_style : IsStyle style) (carried : IsCarried link) where
  abbrev own : List Mark
  own = at_places test (marks t)

  abbrev shown : List Piece
  shown = interleaved_pieces test a b (pieces_of t)

  abbrev after : Rendition
  after = after_marks style own

  abbrev last : List ℕ
  last = link_after_all link own

  abbrev written : List ℕ
  written = start style ++ link ++ interleaved (plain t) a b own ++ pen_end last after

  abbrev rest : List Piece
  rest = shown ++ one_sequence (link_end last)

  abbrev inside : List Piece
  inside = one_sequence link ++ rest

  inside_stands : AllStandAnywhere inside
  inside_stands =
      stand-append (one_sequence link) rest (one_sequence_stands link carried.is)
      (stand-append shown (one_sequence (link_end last)) (interleaved_pieces_stand (pieces_of t) test a b (pieces_stand t whole)) (one_sequence_stands (link_end last) (link_end_is_link last)))

  style_inside : style_through style inside ≡ after
  style_inside =
      style_through-append style (one_sequence link) rest ∙ ap (λ s. style_through s rest) (link_keeps style link carried.is)
      ∙ style_through-append style shown (one_sequence (link_end last))
      ∙ link_keeps (style_through style shown) (link_end last) (link_end_is_link last)
      ∙ style_through-interleaved_pieces (pieces_of t) style test a b

  styled_inside : styled_through style inside ≡ styled_through style shown
  styled_inside =
      styled_through-append style (one_sequence link) rest
      ∙ ap₂ (λ u s. u ++ styled_through s rest) (styled_through-one_sequence style link) (link_keeps style link carried.is)
      ∙ styled_through-append style shown (one_sequence (link_end last))
      ∙ ap (λ v. styled_through style shown ++ v) (styled_through-one_sequence (style_through style shown) (link_end last))
      ∙ append-nil (styled_through style shown)

  spelled_inside : spelled inside ≡ link ++ (interleaved (plain t) a b own ++ link_end last)
  spelled_inside =
      flat_map-append spelling (one_sequence link) rest
      ∙ ap₂ (λ u v. u ++ v) (spelled-one_sequence link)
      (flat_map-append spelling shown (one_sequence (link_end last)) ∙ ap₂ (λ u v. u ++ v) (spelled-interleaved_pieces (pieces_of t) test a b) (spelled-one_sequence (link_end last)))

  spelled_all : spelled (dressed_pieces style inside (close_codes after)) ≡ written
  spelled_all =
      spelled-dressed_pieces style inside (close_codes after) ∙ ap (λ u. start style ++ u ++ close after) spelled_inside
      ∙ append_assoc-five (start style) link (interleaved (plain t) a b own) (link_end last) (close after)

  written_closed : IsClosed (styled_through style shown) written
  written_closed =
      let ps = dressed_pieces style inside (close_codes after) in
      subst (IsClosed (styled_through style shown)) spelled_all
      (closed-spelled ps (styled_through style shown) (dressed_pieces_stand style inside (close_codes after) is_style inside_stands (close_codes_are after))
      (subst (GiveAlone ps) styled_inside (dressed_pieces_give style after inside (close_codes after) is_style (ap known style_inside) (λ p same. close_codes_clear p after same))))

  written_linked : IsLinked [] written (linked_through link shown) []
  written_linked =
      let ends = IsLinked-append (IsLinked-link_end last) (IsLinked-codes [] (close_codes after) (close_codes_are after)) in
      let made = IsLinked-append (IsLinked-append (IsLinked-append (IsLinked-codes [] (start_codes style) (start_codes_are style is_style)) (IsLinked-carried link carried)) (IsLinked-interleaved t link test a b whole)) ends in
      record { whole = made.whole; bytes = made.bytes ∙ append-nil (linked_through link shown); after = made.after }

  written_ended : IsEnded (styled_through style shown) (linked_through link shown) written
  written_ended = record { closed = written_closed; linked = written_linked }

-- ---- what a line shows, if the marks before it are at places that pass `early`, its own at those that pass `here`, and both at those that pass `together`

-- this style and this link are open after the marks before it
record AreOpen (t : List ℕ) (early : ℕ → Bool) (style : Rendition) (link : List ℕ) : Type 0 where
  styled : style ≡ after_marks plain_style (at_places early (marks t))
  linked : link ≡ link_after_all [] (at_places early (marks t))

record IsNext (k : ℕ) (early here together : ℕ → Bool) (i : ℕ × ℕ) : Type 0 where
  divides : Divides k early here together
  after : k ≤ i.0 + 1
  covers : (p : ℕ) → p < i.1 → together p ≡ true

module _ (t : List ℕ) (k : ℕ) (early here together : ℕ → Bool) (style : Rendition) (link : List ℕ) (i : ℕ × ℕ) (here_open : AreOpen t early style link) (next : IsNext k early here together i) where
  abbrev shown_here : List Piece
  shown_here = interleaved_pieces here i.0 i.1 (pieces_of t)

  styled_here : styled_through style shown_here ≡ slice_range (styled t) i.0 i.1
  styled_here =
      ap (λ s. styled_through s shown_here) here_open.styled ∙ seen-divided apply plain_style t k early here together i next.divides next.after styled_byte next.covers
      ∙ ap (λ bs. slice_range bs i.0 i.1) (sym (styled-pieces t))

  linked_here : linked_through link shown_here ≡ slice_range (linked t) i.0 i.1
  linked_here =
      ap (λ l. linked_through l shown_here) here_open.linked ∙ seen-divided link_after [] t k early here together i next.divides next.after linked_byte next.covers
      ∙ ap (λ bs. slice_range bs i.0 i.1) (sym (linked-pieces t))

  open_after : AreOpen t together (after_marks style (at_places here (marks t))) (link_after_all link (at_places here (marks t)))
  open_after = record {
    styled = sym (style_through-interleaved_pieces (pieces_of t) style here i.0 i.1) ∙ ap (λ s. style_through s shown_here) here_open.styled
        ∙ state-divided apply plain_style t k early here together i next.divides next.after;
    linked = sym (state_through-interleaved_pieces link_after (pieces_of t) link here i.0 i.1) ∙ ap (λ l. link_through l shown_here) here_open.linked
        ∙ state-divided link_after [] t k early here together i next.divides next.after;
  }

  is_style_before : IsStyle style
  is_style_before = subst IsStyle (sym here_open.styled) (IsStyle-apply_all plain_style (map (λ (m : Mark). m.bytes) (at_places early (marks t))) IsStyle-plain_style)

  carried_before : IsTrue (is_whole t) → IsCarried link
  carried_before whole =
      subst IsCarried (sym here_open.linked)
      (IsCarried-after [] (at_places early (marks t)) (sequences-filter (λ (m : Mark). early m.place) (marks t) (marks_are_sequences (pieces_of t) (pieces_stand t whole))) IsCarried-nil)

  nothing_ended : i.0 ≡ i.1 → IsEnded (slice_range (styled t) i.0 i.1) (slice_range (linked t) i.0 i.1) []
  nothing_ended same = record {
    closed = record { styled_bytes = sym (slice_range-none (styled t) i.0 i.1 (omega (arith, same))); whole = refl; closed = refl };
    linked = subst (λ ls. IsLinked [] [] ls []) (sym (slice_range-none (linked t) i.0 i.1 (omega (arith, same)))) (IsLinked-nil []);
  }

  line_ended : IsTrue (is_whole t) → IsEnded (slice_range (styled t) i.0 i.1) (slice_range (linked t) i.0 i.1) (line_over style link (plain t) (at_places here (marks t)) i).bytes
  unfolding line_over
  line_ended whole =
      let some_line = written t style link here i.0 i.1 whole is_style_before (carried_before whole) in
      cond_both (i.0 == i.1 && length (at_places here (marks t)) == 0) [] some_line (IsEnded (slice_range (styled t) i.0 i.1) (slice_range (linked t) i.0 i.1))
      (λ none. nothing_ended (eqb-true i.0 i.1 (and_parts (i.0 == i.1) (length (at_places here (marks t)) == 0) none).0))
      (λ some. subst (λ bs. IsEnded bs (slice_range (linked t) i.0 i.1) some_line) styled_here
      (subst (λ ls. IsEnded (styled_through style shown_here) ls some_line) linked_here (written_ended t style link here i.0 i.1 whole is_style_before (carried_before whole))))

-- ---- so each line has the slices over its interval

-- the intervals follow each other from the place e on
abbrev AreInTurn : ℕ → List (ℕ × ℕ) → Type 0
AreInTurn e [] = Unit
AreInTurn e (i ∷ is) = (e ≤ i.0) × (i.0 ≤ i.1) × AreInTurn i.1 is

lines_in_turn : (width e start end here columns : ℕ) (cs : List (List ℕ)) → e ≤ start → start ≤ end → end ≤ here → AreInTurn e (lines_from width start end here columns cs)
lines_in_turn width e start end here columns [] after ordered read = subst (AreInTurn e) (sym (line-last width start end here columns)) (after, ordered, tt)
lines_in_turn width e start end here columns (c ∷ cs) after ordered read =
    let next = here + length (encode_utf8_all c) in
    let wider = columns + cluster_width c in
    line-any width start end here columns c cs (AreInTurn e)
    (after, ordered, lines_in_turn width end next next next 0 cs (omega (arith, read)) (omega arith) (omega arith))
    (lines_in_turn width e start end next wider cs after ordered (omega (arith, read)))
    (lines_in_turn width e start next next wider cs after (omega (arith, ordered, read)) (omega arith))
    (lines_in_turn width e here next next (cluster_width c) cs (omega (arith, after, ordered, read)) (omega arith) (omega arith))
    (after, ordered, lines_in_turn width end here next next (cluster_width c) cs read (omega arith) (omega arith))

abbrev AreEnded : List ℕ → List (ℕ × ℕ) → List CarriedPart → Type 0
AreEnded t [] [] = Unit
AreEnded t [] (l ∷ ls) = ⊥
AreEnded t (i ∷ is) [] = ⊥
AreEnded t (i ∷ is) (l ∷ ls) = IsEnded (slice_range (styled t) i.0 i.1) (slice_range (linked t) i.0 i.1) l.bytes × AreEnded t is ls

-- the marks that are left are those from the place k on
abbrev AreLeft : ℕ → (ℕ → Bool) → (ℕ → Bool) → Type 0
AreLeft k early late = Divides k early late (λ p. true)

up_to_end : (k e : ℕ) (early late : ℕ → Bool) → AreLeft k early late → k ≤ e + 1 → Divides k early (λ p. late p && nat_le p e) (λ p. nat_le p e)
up_to_end k e early late left after = record {
  early_before = left.early_before;
  early_from = left.early_from;
  late_before = λ p before. ap (λ b. b && nat_le p e) (left.late_before p before);
  late_from = λ p from. ap (λ b. b && nat_le p e) (left.late_from p from);
  both_before = λ p before. le-leb p e (omega (arith, before, after));
}

left_after : (k e : ℕ) (early late : ℕ → Bool) → AreLeft k early late → k ≤ e + 1 → AreLeft (e + 1) (λ p. nat_le p e) (λ p. late p && nat_lt e p)
left_after k e early late left after = record {
  early_before = λ p before. le-leb p e (omega (arith, before));
  early_from = λ p from. grind (arith, nat_tests);
  late_before = λ p before. (let none : nat_lt e p ≡ false = grind (arith, nat_tests) in and-none (late p) (nat_lt e p) none);
  late_from = λ p from. (let some : nat_lt e p ≡ true = grind (arith, nat_tests) in ap₂ (λ a b. a && b) (left.late_from p (omega (arith, from, after))) some);
  both_before = λ p before. refl;
}
  where
    and-none : (a b : Bool) → b ≡ false → (a && b) ≡ false
    and-none true b none = none
    and-none false b none = refl

lines_ended : (t : List ℕ) (k e : ℕ) (early late : ℕ → Bool) (style : Rendition) (link : List ℕ) (ms : List Mark) (is : List (ℕ × ℕ)) → IsTrue (is_whole t)
    → ms ≡ at_places late (marks t) → AreOpen t early style link → AreLeft k early late → k ≤ e + 1 → AreInTurn e is → AreEnded t is (lines_over style link (plain t) ms is)
unfolding lines_over
lines_ended t k e early late style link ms [] whole ms_are here_open left after turn = tt
lines_ended t k e early late style link ms (i ∷ []) whole ms_are here_open left after turn =
    let next : IsNext k early late (λ p. true) i = record { divides = left; after = omega (arith, after, turn.0); covers = λ p below. refl } in (
      subst (λ own. IsEnded (slice_range (styled t) i.0 i.1) (slice_range (linked t) i.0 i.1) (line_over style link (plain t) own i).bytes) (sym ms_are)
          (line_ended t k early late (λ p. true) style link i here_open next whole),
      tt,
    )
lines_ended t k e early late style link ms (i ∷ j ∷ is) whole ms_are here_open left after turn =
    let here : ℕ → Bool = λ p. late p && nat_le p i.1 in
    let end : k ≤ i.1 + 1 = omega (arith, after, turn.0, turn.1) in
    let own_are : marks_up_to i.1 ms ≡ at_places here (marks t) = ap (marks_up_to i.1) ms_are ∙ at_places-at_places (λ p. nat_le p i.1) late (marks t) in
    let rest_are : marks_past (Some i.1) ms ≡ at_places (λ p. late p && nat_lt i.1 p) (marks t) = ap (marks_past (Some i.1)) ms_are ∙ at_places-at_places (λ p. nat_lt i.1 p) late (marks t) in
    let next : IsNext k early here (λ p. nat_le p i.1) i
    = record { divides = up_to_end k i.1 early late left end; after = omega (arith, after, turn.0); covers = λ p below. le-leb p i.1 (omega (arith, below)) } in
    subst (λ own. AreEnded t (i ∷ j ∷ is) (line_over style link (plain t) own i ∷ lines_over (after_marks style own) (link_after_all link own) (plain t) (marks_past (Some i.1) ms) (j ∷ is)))
    (sym (ap (λ b. if b then ms else marks_up_to i.1 ms) (has_no_lines-cons j is) ∙ own_are)) (
      line_ended t k early here (λ p. nat_le p i.1) style link i here_open next whole,
      lines_ended t (i.1 + 1) i.1 (λ p. nat_le p i.1) (λ p. late p && nat_lt i.1 p) (after_marks style (at_places here (marks t))) (link_after_all link (at_places here (marks t))) (marks_past (Some i.1) ms) (j ∷ is) whole
          rest_are (open_after t k early here (λ p. nat_le p i.1) style link i here_open next) (left_after k i.1 early late left end) (omega arith) turn.2,
    )

at_places-every : (ms : List Mark) → ms ≡ at_places (λ p. true) ms
at_places-every [] = refl
at_places-every (m ∷ ms) = ap (λ ks. m ∷ ks) (at_places-every ms)

AreEnded-lines : (t : List ℕ) (width : ℕ) → IsTrue (is_whole t) → AreEnded t (lines width (plain t)) (lines_of t width)
AreEnded-lines t width whole =
    let none = at_places-never (marks t) in
    lines_ended t 0 0 (λ p. false) (λ p. true) plain_style [] (marks t) (lines width (plain t)) whole (at_places-every (marks t))
    (record { styled = ap (after_marks plain_style) (sym none); linked = ap (link_after_all []) (sym none) })
    (record {
      early_before = λ p below. absurd (omega (arith, below));
      early_from = λ p from. refl;
      late_before = λ p below. absurd (omega (arith, below));
      late_from = λ p from. refl;
      both_before = λ p below. refl;
    })
    (omega arith) (lines_in_turn (max width 1) 0 0 0 0 0 (clusters (plain t)) (omega arith) (omega arith) (omega arith))

-- whether they are lent or not
AreEnded-lent : (t : List ℕ) (lent : Bool) (is : List (ℕ × ℕ)) (ls : List CarriedPart) → AreEnded t is ls → AreEnded t is (lent_lines lent ls)
AreEnded-lent t lent [] [] ended = tt
AreEnded-lent t lent [] (l ∷ ls) ended = absurd ended
AreEnded-lent t lent (i ∷ is) [] ended = absurd ended
AreEnded-lent t lent (i ∷ is) (l ∷ ls) ended = (ended.0, AreEnded-lent t lent is ls ended.1)

-- a paragraph is safe, and so whole
AreEnded-wrapped : (t : List ℕ) (width : ℕ) → IsTrue (is_safe Keep (paragraph t)) → AreEnded (paragraph t) (lines width (plain (paragraph t))) (wrapped t width)
AreEnded-wrapped t width safe =
    let p = paragraph t in
    AreEnded-lent p (bytes_eq p t) (lines width (plain p)) (lines_of p width) (AreEnded-lines p width (whole-safe Keep p safe))

-- what is so of each such text is so of each line

abbrev Ended : List ℕ → ℕ × ℕ → List ℕ → Type 0
Ended t i u = IsEnded (slice_range (styled t) i.0 i.1) (slice_range (linked t) i.0 i.1) u

AllByRecursion-lines : (t : List ℕ) (P : List ℕ → Type 0) → ((i : ℕ × ℕ) (u : List ℕ) → Ended t i u → P u) → (is : List (ℕ × ℕ)) (ls : List CarriedPart) → AreEnded t is ls → AllByRecursion (λ (l : CarriedPart). P l.bytes) ls
AllByRecursion-lines t P so [] [] ended = tt
AllByRecursion-lines t P so [] (l ∷ ls) ended = absurd ended
AllByRecursion-lines t P so (i ∷ is) [] ended = absurd ended
AllByRecursion-lines t P so (i ∷ is) (l ∷ ls) ended = (so i l.bytes ended.0, AllByRecursion-lines t P so is ls ended.1)

All-wrapped : (t : List ℕ) (width : ℕ) (P : List ℕ → Type 0) → IsTrue (is_safe Keep (paragraph t)) → ((i : ℕ × ℕ) (u : List ℕ) → Ended (paragraph t) i u → P u) → All (λ (l : CarriedPart). P l.bytes) (wrapped t width)
All-wrapped t width P safe so = All-from_recursion _ (wrapped t width) (AllByRecursion-lines (paragraph t) P so (lines width (plain (paragraph t))) (wrapped t width) (AreEnded-wrapped t width safe))

lines_are_slices : {X : Type 0} (t : List ℕ) (f : List ℕ → List X) (xs : List X) → ((i : ℕ × ℕ) (u : List ℕ) → Ended t i u → f u ≡ slice_range xs i.0 i.1) → (is : List (ℕ × ℕ)) (ls : List CarriedPart)
    → AreEnded t is ls → map (λ (l : CarriedPart). f l.bytes) ls ≡ map (λ (i : ℕ × ℕ). slice_range xs i.0 i.1) is
lines_are_slices t f xs so [] [] ended = refl
lines_are_slices t f xs so [] (l ∷ ls) ended = absurd ended
lines_are_slices t f xs so (i ∷ is) [] ended = absurd ended
lines_are_slices t f xs so (i ∷ is) (l ∷ ls) ended = ap₂ (λ v vs. v ∷ vs) (so i l.bytes ended.0) (lines_are_slices t f xs so is ls ended.1)

pub wrapped_are_whole : (t : List ℕ) (width : ℕ) → IsTrue (is_safe Keep (paragraph t)) → All (λ (l : CarriedPart). IsTrue (is_whole l.bytes)) (wrapped t width)
wrapped_are_whole t width safe = All-wrapped t width (λ u. IsTrue (is_whole u)) safe (λ i u ended. ended.closed.whole)

pub wrapped_are_closed : (t : List ℕ) (width : ℕ) → IsTrue (is_safe Keep (paragraph t)) → All (λ (l : CarriedPart). residue l.bytes ≡ plain_style) (wrapped t width)
wrapped_are_closed t width safe = All-wrapped t width (λ u. residue u ≡ plain_style) safe (λ i u ended. ended.closed.closed)

pub wrapped_end_links : (t : List ℕ) (width : ℕ) → IsTrue (is_safe Keep (paragraph t)) → All (λ (l : CarriedPart). link_of (marks l.bytes) ≡ []) (wrapped t width)
wrapped_end_links t width safe = All-wrapped t width (λ u. link_of (marks u) ≡ []) safe (λ i u ended. link_of-pieces (pieces_of u) ∙ ended.linked.after)

pub wrapped-styled : (t : List ℕ) (width : ℕ) → IsTrue (is_safe Keep (paragraph t)) → map (λ (l : CarriedPart). styled l.bytes) (wrapped t width) ≡ map (λ (i : ℕ × ℕ). slice_range (styled (paragraph t)) i.0 i.1) (lines width (plain (paragraph t)))
wrapped-styled t width safe = lines_are_slices (paragraph t) styled (styled (paragraph t)) (λ i u ended. ended.closed.styled_bytes) (lines width (plain (paragraph t))) (wrapped t width) (AreEnded-wrapped t width safe)

pub wrapped-linked : (t : List ℕ) (width : ℕ) → IsTrue (is_safe Keep (paragraph t)) → map (λ (l : CarriedPart). linked l.bytes) (wrapped t width) ≡ map (λ (i : ℕ × ℕ). slice_range (linked (paragraph t)) i.0 i.1) (lines width (plain (paragraph t)))
wrapped-linked t width safe = lines_are_slices (paragraph t) linked (linked (paragraph t)) (λ i u ended. linked-pieces u ∙ ended.linked.bytes) (lines width (plain (paragraph t))) (wrapped t width) (AreEnded-wrapped t width safe)

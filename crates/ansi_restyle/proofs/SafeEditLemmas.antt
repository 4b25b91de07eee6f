-- A safe text without its links, or without a range, is safe.
use Rattle.std.proofs.Common.{◌≡◌, ℕ, ◌+◌, ◌-◌, ◌≤◌, inl, inr, Bool, true, false, not, ◌&&◌, ◌||◌, List, [], ◌∷◌, length, take, slice_range, nat_le, unwrap_or, refl, sym, ◌∙◌, ap, subst, arith, if◌then◌else◌}
use Rattle.std.proofs.lemmas.Bool.{cases_lt}
use Rattle.std.specs.List.{list_all}
use Rattle.std.specs.Str.{IsUtf8}
use Rattle.ansi_items.specs.Pieces.{Piece, Text, Sequence, LoneEscape, pieces_of}
use Rattle.ansi_items.specs.Plain.{plain}
use Rattle.ansi_items.specs.Sequences.{is_sgr}
use Rattle.ansi_items.proofs.PieceLemmas.{pieces_are}
use Rattle.ansi_items.proofs.PlainLemmas.{one_text}
use Rattle.ansi_items.proofs.JoinLemmas.{spelled-pieces_of}
use Rattle.ansi_search.specs.Positions.{no_character_goes_on}
use Rattle.ansi_search.proofs.OffsetLemmas.{pieces_of-after}
use Rattle.ansi_search.proofs.PositionLemmas.{no_character_goes_on-drop}
use Rattle.ansi_safe.specs.declared.policy.Links.{Links}
use Rattle.ansi_safe.specs.Links.{longest_address, longest_parameters, address_of, parameters_len, is_link, terminator_len}
use Rattle.ansi_safe.specs.Safe.{is_printable_byte, is_clean_link, keeps_links, may_stay, is_safe}
use Rattle.ansi_safe.proofs.SafeLemmas.{AreGood, good_are_safe}
use Rattle.ansi_restyle.specs.Links.{without_links}
use Rattle.ansi_restyle.specs.Ranges.{are_in_turn, parts_line_end}
use Rattle.ansi_restyle.specs.Removed.{sequences, removed}
use Rattle.ansi_restyle.specs.Restyled.{front, rest}
use Rattle.ansi_restyle.proofs.FrontLemmas.{front_pieces, front_pieces-last, front_pieces-text, pieces_of-front, plain-rest}
use Rattle.ansi_restyle.proofs.RangeLemmas.{are_first}
use Rattle.ansi_restyle.proofs.RemovedLemmas.{mark_pieces}
use Rattle.ansi_restyle.proofs.SafeRangeLemmas.{front_good, after_good, IsMade, made-append, safe_good}
use Rattle.ansi_restyle.proofs.WithoutLinksLemmas.{unlinked, is_link-text}

-- Without its links, a text has no sequence but SGRs.

is_sgr_left : (links other : Links) (w : List ℕ) → is_link w ≡ false → may_stay links (Sequence w) ≡ true → may_stay other (Sequence w) ≡ true
is_sgr_left links other w none stays = by (is_sgr w) (keeps_links links) (is_clean_link w) (ap (λ l. (l && (nat_le (parameters_len w) longest_parameters && nat_le (length (unwrap_or (address_of w) [])) longest_address)) && list_all is_printable_byte (slice_range w 2 (length w - terminator_len w))) none) stays
  where
    by : (s k c : Bool) → c ≡ false → (s || (k && c)) ≡ true → (s || (keeps_links other && c)) ≡ true
    by true k c none stays = refl
    by false k true none stays = absurd (cc none)
    by false true false none stays = absurd (cc stays)
    by false false false none stays = absurd (cc stays)

pub unlinked_good : (links other : Links) (ps : List Piece) → AreGood links ps → AreGood other (unlinked ps)
unlinked_good links other [] good = tt
unlinked_good links other (Text w ∷ ps) good =
    subst (λ b. AreGood other (if not b then Text w ∷ unlinked ps else unlinked ps)) (sym (is_link-text w good.0.0 good.0.1)) (good.0, unlinked_good links other ps good.1)
unlinked_good links other (Sequence w ∷ ps) good = by_test (is_link w) refl (unlinked_good links other ps good.1)
  where
    by_test : (b : Bool) → is_link w ≡ b → AreGood other (unlinked ps) → AreGood other (if not b then Sequence w ∷ unlinked ps else unlinked ps)
    by_test true link more = more
    by_test false none more = ((good.0.0, is_sgr_left links other w none good.0.1), more)
unlinked_good links other (LoneEscape ∷ ps) good = absurd good.0

pub safe-without_links : (links other : Links) (t : List ℕ) → IsUtf8 t → is_safe links t ≡ true → is_safe other (without_links t) ≡ true
safe-without_links links other t utf8 safe =
    good_are_safe other (unlinked (pieces_of t)) (unlinked_good links other (pieces_of t) (safe_good links t (pieces_of t) (pieces_are t) utf8 safe))

-- Without a range: what is before it, its sequences, and what follows it.

module _ (links : Links) where
  no_marks : (v : List ℕ) → AreGood links (mark_pieces (one_text v))
  no_marks [] = tt
  no_marks (b ∷ v) = tt

  pub front_marks_good : (n : ℕ) (ps : List Piece) → AreGood links ps → AreGood links (mark_pieces (front_pieces n ps))
  front_marks_good n [] good = tt
  front_marks_good n (Text w ∷ ps) good = elim (cases_lt n (length w)) [
    | inl last ↦ rw (front_pieces-last n w ps last) (no_marks (take n w))
    | inr within ↦ rw (front_pieces-text n w ps within) (front_marks_good (n - length w) ps good.1)
  ]
  front_marks_good n (Sequence w ∷ ps) good = (good.0, front_marks_good n ps good.1)
  front_marks_good n (LoneEscape ∷ ps) good = absurd good.0

  pub rest_good : (t : List ℕ) (n : ℕ) → AreGood links (pieces_of t) → no_character_goes_on (plain t) n ≡ true → AreGood links (pieces_of (rest n t))
  rest_good t n good here = subst (AreGood links) (sym (pieces_of-after t n)) (after_good links n (pieces_of t) good here)

  pub made-good : (t : List ℕ) → AreGood links (pieces_of t) → IsMade links t
  made-good t good = record { pieces = pieces_of t; bytes = spelled-pieces_of t; good = good }

  pub front_is_good : (t : List ℕ) (n : ℕ) → AreGood links (pieces_of t) → no_character_goes_on (plain t) n ≡ true → parts_line_end (plain t) n ≡ false → AreGood links (pieces_of (front n t))
  front_is_good t n good here apart = subst (AreGood links) (sym (pieces_of-front t n)) (front_good links n (pieces_of t) good here apart)

  pub made-front : (t : List ℕ) (n : ℕ) → AreGood links (pieces_of t) → no_character_goes_on (plain t) n ≡ true → parts_line_end (plain t) n ≡ false → IsMade links (front n t)
  made-front t n good here apart = made-good (front n t) (front_is_good t n good here apart)

  pub made-sequences : (t : List ℕ) (n : ℕ) → AreGood links (pieces_of t) → IsMade links (sequences (front n t))
  made-sequences t n good = record {
    pieces = mark_pieces (pieces_of (front n t));
    bytes = refl;
    good = subst (λ ps. AreGood links (mark_pieces ps)) (sym (pieces_of-front t n)) (front_marks_good n (pieces_of t) good);
  }

  pub safe-removed : (t : List ℕ) (r : ℕ × ℕ) → IsUtf8 t → are_in_turn (plain t) 0 (r ∷ []) ≡ true → is_safe links t ≡ true → parts_line_end (plain t) r.0 ≡ false → is_safe links (removed t r.0 r.1) ≡ true
  safe-removed t r utf8 turn safe apart =
      let first = are_first (plain t) 0 r [] turn in
      let within = r.1 - r.0 in
      let here = rest r.0 t in
      let ends : r.0 ≤ r.1 = first.ends in
      let at_end : r.0 + within ≡ r.1 = omega arith in
      let good = safe_good links t (pieces_of t) (pieces_are t) utf8 safe in
      let good_here = rest_good t r.0 good first.good_start in
      let good_end : no_character_goes_on (plain here) within ≡ true
      = ap (λ u. no_character_goes_on u within) (plain-rest t r.0) ∙ no_character_goes_on-drop (plain t) r.0 within ∙ ap (no_character_goes_on (plain t)) at_end ∙ first.good_end in
      let made = made-append links (made-append links (made-front t r.0 good first.good_start apart) (made-sequences here within good_here)) (made-good (rest within here) (rest_good here within good_here good_end)) in
      subst (λ u. is_safe links u ≡ true) made.bytes (good_are_safe links made.pieces made.good)

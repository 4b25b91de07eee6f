-- A safe text with a range linked is safe if links are kept, if the range neither begins nor ends between a carriage return and a line feed.
use Rattle.std.proofs.Common.{◌≡◌, ℕ, ◌+◌, ◌-◌, ◌≤◌, ◌==◌, Bool, true, false, not, ◌&&◌, ◌||◌, List, [], ◌∷◌, ◌++◌, length, take, slice_range, nat_le, unwrap_or, refl, ◌∙◌, ap, subst, arith, length-append}
use Rattle.std.proofs.Math.Seq.{take-append_seam}
use Rattle.std.proofs.lemmas.Bool.{and_from, and_parts}
use Rattle.std.specs.List.{list_all, prefix_len}
use Rattle.std.specs.Int.{is_in_range}
use Rattle.std.specs.Str.{IsUtf8, byte}
use Rattle.std.proofs.lemmas.Bool.Decides.{nat_tests}
use Rattle.ansi_items.specs.Pieces.{Piece, Text, Sequence, LoneEscape, pieces_of}
use Rattle.ansi_items.specs.Plain.{plain}
use Rattle.ansi_items.specs.Sequences.{is_sgr}
use Rattle.ansi_items.proofs.PieceLemmas.{pieces_are}
use Rattle.ansi_search.specs.Positions.{no_character_goes_on}
use Rattle.ansi_search.proofs.PositionLemmas.{no_character_goes_on-drop}
use Rattle.ansi_safe.specs.declared.policy.Links.{Links}
use Rattle.ansi_safe.specs.declared.policy.Links.TheVariants.{Keep, Remove}
use Rattle.ansi_safe.specs.Links.{longest_address, longest_parameters, terminator_len, is_short_link, link_at}
use Rattle.ansi_safe.specs.Safe.{is_printable_byte, is_clean_link, may_stay, is_safe}
use Rattle.ansi_safe.proofs.SafeLemmas.{IsGood, AreGood, good_are_safe}
use Rattle.ansi_restyle.specs.Links.{is_clean_address, link_to, as_link, without_links}
use Rattle.ansi_restyle.specs.Ranges.{are_in_turn, parts_line_end, keep_line_ends}
use Rattle.ansi_restyle.specs.Restyled.{front, rest}
use Rattle.ansi_restyle.proofs.FrontLemmas.{plain-rest}
use Rattle.ansi_restyle.proofs.LinkRangeLemmas.{clean_parts, link_to-sequence, link_to-terminator, link_to-fields, link_to-address, link_to-is_link, full}
use Rattle.ansi_restyle.proofs.RangeLemmas.{are_first}
use Rattle.ansi_restyle.proofs.SafeRangeLemmas.{IsMade, made-append, safe_good, keep_parts, parts-drop}
use Rattle.ansi_restyle.proofs.SafeEditLemmas.{unlinked_good, rest_good, front_is_good, made-good, made-front}
use Rattle.ansi_restyle.proofs.SafePutLemmas.{made-sequence, made-end, made-link_end, made-open, open_good-at}
use Rattle.ansi_restyle.proofs.WithoutLinksLemmas.{unlinked}

-- A safe text stays safe if links are kept.

stays_kept : (links : Links) (p : Piece) → may_stay links p ≡ true → may_stay Keep p ≡ true
stays_kept links (Text w) stays = stays
stays_kept Keep (Sequence w) stays = stays
stays_kept Remove (Sequence w) stays = by (is_sgr w) (is_clean_link w) stays
  where
    by : (s c : Bool) → (s || (false && c)) ≡ true → (s || (true && c)) ≡ true
    by true c stays = refl
    by false c stays = absurd (cc stays)
stays_kept links LoneEscape stays = stays

pub safe-kept : (links : Links) (t : List ℕ) → is_safe links t ≡ true → is_safe Keep t ≡ true
safe-kept links t = each (pieces_of t)
  where
    each : (ps : List Piece) → list_all (may_stay links) ps ≡ true → list_all (may_stay Keep) ps ≡ true
    each [] all = refl
    each (p ∷ ps) all =
        let both = and_parts (may_stay links p) (list_all (may_stay links) ps) all in
        and_from (may_stay Keep p) (list_all (may_stay Keep) ps) (stays_kept links p both.0) (each ps both.1)

-- The sequence that opens a link to a clean address is good, so a good text as one link is.

link_to-printable : (a : List ℕ) → is_clean_address a ≡ true → list_all is_printable_byte (slice_range (link_to a) 2 (length (link_to a) - terminator_len (link_to a))) ≡ true
link_to-printable a clean =
    let w = link_to a in
    let within = 56 ∷ 59 ∷ 59 ∷ a in
    let size : length w ≡ 2 + length (within ++ 27 ∷ 92 ∷ []) = omega (arith, length-append a (27 ∷ 92 ∷ [])) in
    let n : length w - terminator_len w - 2 ≡ length within = omega (arith, link_to-terminator a, size, length-append within (27 ∷ 92 ∷ [])) in
    ap (list_all is_printable_byte) (ap (λ k. take k (within ++ 27 ∷ 92 ∷ [])) n ∙ take-append_seam within (27 ∷ 92 ∷ []))
    ∙ (and_parts _ (list_all is_printable_byte a) clean).1

link_to-short : (a : List ℕ) → is_clean_address a ≡ true → is_short_link (link_to a) ≡ true
link_to-short a clean =
    and_from _ _ (link_to-is_link a)
    (and_from _ _ (ap (λ fields. nat_le (prefix_len (λ b. not (b == byte ";")) fields) longest_parameters) (link_to-fields a))
    (ap (λ o. nat_le (length (unwrap_or o [])) longest_address) (link_to-address a) ∙ short (length a) (clean_parts a clean).0))
  where
    short : (n : ℕ) → is_in_range 1 longest_address n ≡ true → nat_le n longest_address ≡ true
    short n is = grind (arith, nat_tests)

link_to-good : (a : List ℕ) → is_clean_address a ≡ true → IsGood Keep (Sequence (link_to a))
link_to-good a clean = (link_to-sequence a clean, by (is_sgr (link_to a)) (and_from _ _ (link_to-short a clean) (link_to-printable a clean)))
  where
    by : (s : Bool) → is_clean_link (link_to a) ≡ true → (s || is_clean_link (link_to a)) ≡ true
    by true is = refl
    by false is = is

made-as_link : (a t : List ℕ) → is_clean_address a ≡ true → AreGood Keep (pieces_of t) → IsMade Keep (as_link a t)
made-as_link a t clean good =
    let bare : IsMade Keep (without_links t) = record { pieces = unlinked (pieces_of t); bytes = refl; good = unlinked_good Keep Keep (pieces_of t) good } in
    made-append Keep (made-append Keep (made-sequence Keep (link_to a) (link_to-good a clean)) bare) (made-end Keep refl)

pub safe-linked : (t : List ℕ) (r : ℕ × ℕ) (address : List ℕ) → IsUtf8 t → are_in_turn (plain t) 0 (r ∷ []) ≡ true → is_clean_address address ≡ true → is_safe Keep t ≡ true → keep_line_ends (plain t) (r ∷ []) ≡ true
    → is_safe Keep (full t r address) ≡ true
safe-linked t r address utf8 turn clean safe kept =
    let x = plain t in
    let first = are_first x 0 r [] turn in
    let parts = keep_parts Keep x r [] kept in
    let n = r.1 - r.0 in
    let here = rest r.0 t in
    let ends : r.0 ≤ r.1 = first.ends in
    let at_end : r.0 + n ≡ r.1 = omega arith in
    let good = safe_good Keep t (pieces_of t) (pieces_are t) utf8 safe in
    let good_here = rest_good Keep t r.0 good first.good_start in
    let good_end : no_character_goes_on (plain here) n ≡ true
    = ap (λ u. no_character_goes_on u n) (plain-rest t r.0) ∙ no_character_goes_on-drop x r.0 n ∙ ap (no_character_goes_on x) at_end ∙ first.good_end in
    let apart_end : parts_line_end (plain here) n ≡ false
    = ap (λ u. parts_line_end u n) (plain-rest t r.0) ∙ parts-drop x r.0 n (ap (parts_line_end x) at_end ∙ parts.1) in
    let good_part = front_is_good Keep here n good_here good_end apart_end in
    let made = made-append Keep (made-append Keep (made-append Keep (made-append Keep
    (made-front Keep t r.0 good first.good_start parts.0)
    (made-link_end Keep (link_at t r.0) (open_good-at Keep t r.0 good)))
    (made-as_link address (front n here) clean good_part))
    (made-open Keep (link_at t r.1) (open_good-at Keep t r.1 good)))
    (made-good Keep (rest n here) (rest_good Keep here n good_here good_end)) in
    subst (λ u. is_safe Keep u ≡ true) made.bytes (good_are_safe Keep made.pieces made.good)

-- The ranges of the links of a text are in turn.
use Rattle.std.proofs.Common.{◌≡◌, ℕ, ◌+◌, ◌≤◌, Bool, true, false, ◌&&◌, List, [], ◌∷◌, ◌++◌, length, map, drop, nat_lt, refl, sym, ◌∙◌, ap, subst, arith, if◌then◌else◌, append-nil, length-append}
use Rattle.std.proofs.Math.Seq.{drop-append_seam}
use Rattle.std.proofs.lemmas.Bool.{leb-true, le-leb}
use Rattle.std.proofs.lemmas.List.{drop-drop}
use Rattle.std.specs.Str.{IsUtf8}
use Rattle.ansi_items.specs.Pieces.{Piece, Text, ArePieces, spelling, pieces_of}
use Rattle.ansi_items.specs.Plain.{plain, plain_of}
use Rattle.ansi_items.proofs.PieceLemmas.{pieces_are, pieces_of-unique}
use Rattle.ansi_items.proofs.Utf8Lemmas.{IsUtf8-plain}
use Rattle.ansi_search.specs.Positions.{no_character_goes_on}
use Rattle.ansi_search.proofs.PositionLemmas.{no_character_goes_on-drop, is_good_position-utf8}
use Rattle.ansi_safe.specs.Links.{is_link}
use Rattle.ansi_safe.proofs.SafeLemmas.{piece_and_rest}
use Rattle.ansi_restyle.specs.Links.{LinkedRange, link_between, links}
use Rattle.ansi_restyle.specs.Ranges.{are_in_turn}
use Rattle.ansi_restyle.proofs.LinkWalkLemmas.{address_or, links_through, left-through, left-all}
use Rattle.ansi_restyle.proofs.MatchLemmas.{in_turn-first}
use Rattle.ansi_restyle.proofs.RangeLemmas.{are_first}

abbrev ranges : List LinkedRange → List (ℕ × ℕ)
ranges ls = map (λ (l : LinkedRange). l.range) ls

-- ranges that begin later are in turn from an earlier position too
in_turn-earlier : (x : List ℕ) (m n : ℕ) (rs : List (ℕ × ℕ)) → m ≤ n → are_in_turn x n rs ≡ true → are_in_turn x m rs ≡ true
in_turn-earlier x m n [] before turn = le-leb m (length x) (omega (arith, before, leb-true n (length x) turn))
in_turn-earlier x m n (r ∷ rs) before turn =
    let first = are_first x n r rs turn in
    in_turn-first x m r rs (omega (arith, before, first.begins)) first.ends first.good_start first.good_end first.later

-- Where a piece of a UTF-8 text begins, no character of its plain text goes on.

begins_good : (t : List ℕ) (ps : List Piece) → ArePieces t ps → IsUtf8 t → no_character_goes_on (plain_of ps) 0 ≡ true
begins_good t ps are utf8 =
    let x = plain_of ps in
    let is : IsUtf8 x = subst (λ qs. IsUtf8 (plain_of qs)) (sym (pieces_of-unique t ps are)) (IsUtf8-plain t utf8) in
    sym (is_good_position-utf8 x 0 is)

good_there : (x : List ℕ) (n : ℕ) (t : List ℕ) (ps : List Piece) → ArePieces t ps → IsUtf8 t → drop n x ≡ plain_of ps → no_character_goes_on x n ≡ true
good_there x n t ps are utf8 there =
    let same : n ≡ n + 0 = omega arith in
    ap (no_character_goes_on x) same ∙ sym (no_character_goes_on-drop x n 0) ∙ ap (λ y. no_character_goes_on y 0) there ∙ begins_good t ps are utf8

module _ (x : List ℕ) where
  -- a link before others
  link_turn : (m a n : ℕ) (address : List ℕ) (ls : List LinkedRange) → m ≤ a → a ≤ n → no_character_goes_on x a ≡ true → no_character_goes_on x n ≡ true → are_in_turn x n (ranges ls) ≡ true
      → are_in_turn x m (ranges (link_between a n address ++ ls)) ≡ true
  link_turn m a n address ls begins ends good_start good_end later = by_test (nat_lt a n && nat_lt 0 (length address))
    where
      by_test : (b : Bool) → are_in_turn x m (ranges ((if b then record { range = (a, n); address = address } ∷ [] else []) ++ ls)) ≡ true
      by_test true = in_turn-first x m (a, n) (ranges ls) begins ends good_start good_end later
      by_test false = in_turn-earlier x m n (ranges ls) (omega (arith, begins, ends)) later

  -- the state of a walk: the pieces ps of t follow n plain bytes of x
  record IsThere (n : ℕ) (t : List ℕ) (ps : List Piece) : Type 0 where
    are : ArePieces t ps
    utf8 : IsUtf8 t
    there : drop n x ≡ plain_of ps
    size : n + length (plain_of ps) ≡ length x

  mark_turn : (m n a : ℕ) (address w : List ℕ) (ps : List Piece) → m ≤ a → a ≤ n → no_character_goes_on x a ≡ true → no_character_goes_on x n ≡ true
      → ((k j : ℕ) (v : List ℕ) → k ≤ j → j ≤ n → no_character_goes_on x j ≡ true → are_in_turn x k (ranges (links_through n j v ps)) ≡ true)
      → are_in_turn x m (ranges (if is_link w then link_between a n address ++ links_through n n (address_or w) ps else links_through n a address ps)) ≡ true
  mark_turn m n a address w ps begins ends good_start good_end more = by_test (is_link w)
    where
      by_test : (b : Bool) → are_in_turn x m (ranges (if b then link_between a n address ++ links_through n n (address_or w) ps else links_through n a address ps)) ≡ true
      by_test true = link_turn m a n address (links_through n n (address_or w) ps) begins ends good_start good_end (more n n (address_or w) (omega arith) (omega arith) good_end)
      by_test false = more m a address begins ends good_start

  through_turn : (m n a : ℕ) (address t : List ℕ) (ps : List Piece) → IsThere n t ps → m ≤ a → a ≤ n → no_character_goes_on x a ≡ true → are_in_turn x m (ranges (links_through n a address ps)) ≡ true
  through_turn m n a address t [] is begins ends good_start =
      let end : n ≤ length x = omega (arith, is.size) in
      ap (λ ls. are_in_turn x m (ranges ls)) (sym (append-nil (link_between a n address)))
      ∙ link_turn m a n address [] begins ends good_start (good_there x n t [] is.are is.utf8 is.there) (le-leb n (length x) end)
  through_turn m n a address t (Text w ∷ ps) is begins ends good_start =
      let are = is.are in
      let parts = piece_and_rest (Text w) are.0 are.2 (subst IsUtf8 are.1 is.utf8) in
      let after : IsThere (n + length w) are.0 ps = record {
        are = are.3;
        utf8 = parts.1;
        there = sym (drop-drop (length w) n x) ∙ ap (drop (length w)) is.there ∙ drop-append_seam w (plain_of ps);
        size = omega (arith, is.size, length-append w (plain_of ps));
      } in
      through_turn m (n + length w) a address are.0 ps after begins (omega (arith, ends)) good_start
  through_turn m n a address t (p ∷ ps) is begins ends good_start =
      let are = is.are in
      let parts = piece_and_rest p are.0 are.2 (subst IsUtf8 are.1 is.utf8) in
      let after : IsThere n are.0 ps = record { are = are.3; utf8 = parts.1; there = is.there; size = is.size } in
      mark_turn m n a address (spelling p) ps begins ends good_start (good_there x n are.0 ps are.3 parts.1 is.there) (λ k j v first last good. through_turn k n j v are.0 ps after first last good)

pub links_in_turn : (t : List ℕ) → IsUtf8 t → are_in_turn (plain t) 0 (map (λ (l : LinkedRange). l.range) (links t)) ≡ true
links_in_turn t utf8 =
    let ps = pieces_of t in
    let are = pieces_are t in
    ap (λ ls. are_in_turn (plain t) 0 (ranges ls)) (sym (left-all t) ∙ left-through 0 0 [] t)
    ∙ through_turn (plain t) 0 0 0 [] t ps (record { are = are; utf8 = utf8; there = refl; size = omega arith }) (omega arith) (omega arith) (begins_good t ps are utf8)

-- A slice of a whole text is whole, has the slices of its styled and of its linked bytes between blanks, and leaves no known style and no link open.
use Rattle.std.proofs.Common.{◌≡◌, ◌≢◌, ℕ, zero, suc, ◌+◌, ◌<◌, ◌≤◌, ◌⊎◌, ◌==◌, inl, inr, Bool, false, List, [], ◌∷◌, ◌++◌, length, map, slice_range, nat_le, Option, Some, None, if◌then◌else◌, IsTrue, refl, sym, ◌∙◌, ap, ap₂, subst, arith, append_assoc, append-nil}
use Rattle.std.specs.Option.{option_map_or}
use Rattle.std.specs.Str.{IsUtf8, chars}
use Rattle.std.proofs.lemmas.Str.{encodes-chars}
use Rattle.ansi_items.proofs.Utf8Lemmas.{IsUtf8-plain}
use Rattle.std.proofs.lemmas.Bool.{cases_Bool, leb-false, or_parts, le-leb}
use Rattle.std.proofs.lemmas.Grind.{flat_map-append}
use Rattle.ansi_items.specs.Pieces.{Piece, pieces_of, spelling}
use Rattle.ansi_items.specs.Plain.{Mark, plain, marks, marks_up_to, is_whole}
use Rattle.ansi_items.proofs.PlainLemmas.{one_text}
use Rattle.ansi_items.proofs.JoinLemmas.{spelled, AllStandAnywhere, pieces_stand, stand-append}
use Rattle.ansi_style.specs.declared.state.rendition.Rendition.{Rendition}
use Rattle.ansi_style.specs.Rendition.{IsStyle, plain_style, known}
use Rattle.ansi_style.specs.Sgr.{apply}
use Rattle.ansi_style.specs.Styled.{StyledByte, styled, style_at}
use Rattle.ansi_style.specs.Written.{start, start_codes, close, close_codes}
use Rattle.ansi_style.proofs.CloseLemmas.{close_codes_clear}
use Rattle.ansi_style.proofs.DressedLemmas.{GiveAlone, IsClosed, closed-spelled, dressed_pieces, spelled-dressed_pieces, dressed_pieces_stand, dressed_pieces_give}
use Rattle.ansi_style.proofs.MarkLemmas.{state_after}
use Rattle.ansi_style.proofs.ReadBackLemmas.{start_codes_are, close_codes_are}
use Rattle.ansi_style.proofs.StyleLemmas.{IsStyle-apply_all, IsStyle-plain_style}
use Rattle.ansi_style.proofs.StyledLemmas.{styled_byte, style_through, style_through-append, styled_through, styled_through-append, styled-pieces}
use Rattle.ansi_style.proofs.ThroughLemmas.{state_through, state_through-append, seen_through, seen_through-append}
use Rattle.ansi_slice.specs.Cut.{interleaved}
use Rattle.ansi_slice.proofs.ShownLemmas.{at_places, interleaved_pieces, spelled-interleaved_pieces, interleaved_pieces_stand, spelled-one_text}
use Rattle.ansi_split.specs.Parts.{marks_past}
use Rattle.ansi_split.proofs.PartSliceLemmas.{state-divided, seen-divided, own_places, earlier_places, marks_past-places, at_places-never}
use Rattle.ansi_safe.specs.Links.{IsClosed as IsEnded, link_after, link_end}
use Rattle.ansi_safe.proofs.LinkLemmas.{link_of-fold, link_of-pieces}
use Rattle.ansi_cells.specs.Addresses.{LinkedByte, linked}
use Rattle.ansi_clusters.specs.Lines.{blanks}
use Rattle.ansi_clusters.specs.Columns.{clusters, columns}
use Rattle.ansi_cells.specs.Slices.{has_no_column, column_place, bytes_from, bytes_up_to, blanks_before, blanks_after, opened_at, pen_open, slice_opening, slice_middle, slice_closing, sliced_up_to}
use Rattle.ansi_cells.proofs.LinkedLawLemmas.{linked_byte, linked-pieces, IsLinked, IsLinked-append, IsLinked-spelled, IsLinked-codes, IsLinked-link_end, blanks_are_plain}
use Rattle.ansi_clusters.proofs.ClusterLawLemmas.{clusters_after-bytes}
use Rattle.ansi_cells.proofs.EdgeLemmas.{ended-begun, ended-bytes, ended-ordered}
use Rattle.ansi_cells.proofs.SliceLemmas.{part_divides, sliced-nothing}
use Rattle.ansi_cells.proofs.WrapLawLemmas.{sequences-filter, marks_are_sequences, one_sequence, spelled-one_sequence, styled_through-one_sequence, one_sequence_stands, link_keeps, link_end_is_link, IsCarried, IsCarried-nil, IsCarried-after, IsLinked-carried}

blanks_stand : (n : ℕ) → AllStandAnywhere (one_text (blanks n))
blanks_stand zero = tt
blanks_stand (suc n) = (let filled : blanks (suc n) ≢ [] = λ e. cc in ((filled, blanks_are_plain (suc n)), tt))

-- What is read of the marks and bytes of a slice between blanks, from the state that is open before them.

module _ {S : Type 0} (step : S → List ℕ → S) (first : S) (t : List ℕ) (before : Option ℕ) (k s e p q : ℕ) (which : (before ≡ None) ⊎ (before ≡ Some k)) (from_after : k ≤ s) (ordered : k ≤ e) where
  abbrev own : ℕ → Bool
  own = own_places before e

  abbrev shown : List Piece
  shown = interleaved_pieces own s e (pieces_of t)

  abbrev pub middle_pieces : List Piece
  middle_pieces = one_text (blanks p) ++ (shown ++ one_text (blanks q))

  abbrev pub open_before : S
  open_before = state_after step first (at_places (earlier_places before) (marks t))

  abbrev pub open_after : S
  open_after = state_after step first (marks_up_to e (marks t))

  state-text : (r : S) (w : List ℕ) → state_through step r (one_text w) ≡ r
  state-text r [] = refl
  state-text r (b ∷ w) = refl

  begins : (option_map_or (λ i. i + 1) before 0 ≤ s + 1) × (option_map_or (λ i. i + 1) before 0 ≤ e + 1)
  begins = by_case which
    where
      by_case : (before ≡ None) ⊎ (before ≡ Some k) → (option_map_or (λ i. i + 1) before 0 ≤ s + 1) × (option_map_or (λ i. i + 1) before 0 ≤ e + 1)
      by_case (inl none) = (let is = ap (λ o. option_map_or (λ i. i + 1) o 0) none in (omega (arith, is), omega (arith, is)))
      by_case (inr some) = (let is = ap (λ o. option_map_or (λ i. i + 1) o 0) some in (omega (arith, is, from_after), omega (arith, is, ordered)))

  state-shown : state_through step open_before shown ≡ open_after
  state-shown = state-divided step first t (option_map_or (λ i. i + 1) before 0) (earlier_places before) own (λ i. nat_le i e) (s, e) (part_divides before k e which ordered) begins.0

  pub state-middle : state_through step open_before middle_pieces ≡ open_after
  state-middle =
      state_through-append step open_before (one_text (blanks p)) (shown ++ one_text (blanks q))
      ∙ ap (λ r. state_through step r (shown ++ one_text (blanks q))) (state-text open_before (blanks p))
      ∙ state_through-append step open_before shown (one_text (blanks q))
      ∙ state-text (state_through step open_before shown) (blanks q)
      ∙ state-shown

  module _ {B : Type 0} (seen : S → ℕ → B) where
    seen-text : (r : S) (w : List ℕ) → seen_through step seen r (one_text w) ≡ map (seen r) w
    seen-text r [] = refl
    seen-text r (b ∷ w) = append-nil (map (seen r) (b ∷ w))

    abbrev pub middle_seen : List B
    middle_seen = map (seen open_before) (blanks p) ++ (slice_range (seen_through step seen first (pieces_of t)) s e ++ map (seen open_after) (blanks q))

    pub seen-middle : seen_through step seen open_before middle_pieces ≡ middle_seen
    seen-middle =
        seen_through-append step seen open_before (one_text (blanks p)) (shown ++ one_text (blanks q))
        ∙ ap₂ (λ u r. u ++ seen_through step seen r (shown ++ one_text (blanks q))) (seen-text open_before (blanks p)) (state-text open_before (blanks p))
        ∙ ap (λ u. map (seen open_before) (blanks p) ++ u) (
        seen_through-append step seen open_before shown (one_text (blanks q))
        ∙ ap₂ (λ u r. u ++ seen_through step seen r (one_text (blanks q)))
        (seen-divided step first t (option_map_or (λ i. i + 1) before 0) (earlier_places before) own (λ i. nat_le i e) (s, e) (part_divides before k e which ordered) begins.0 seen (λ i below. le-leb i e (omega arith)))
        state-shown
        ∙ ap (λ u. slice_range (seen_through step seen first (pieces_of t)) s e ++ u) (seen-text open_after (blanks q)))

-- So it is with the pen opened before them, and closed after them.

append_assoc-seven : (s l p m q e c : List ℕ) → s ++ (l ++ ((p ++ (m ++ q)) ++ e)) ++ c ≡ ((s ++ l) ++ p) ++ m ++ (q ++ (e ++ c))
append_assoc-seven s l p m q e c = simp append_assoc

append_assoc-open : (o p m q c : List ℕ) → (o ++ (p ++ (m ++ q))) ++ c ≡ (o ++ p) ++ m ++ (q ++ c)
append_assoc-open o p m q c = simp append_assoc

module _ (t : List ℕ) (before : Option ℕ) (k s e p q : ℕ) (which : (before ≡ None) ⊎ (before ≡ Some k)) (from_after : k ≤ s) (ordered : k ≤ e) (whole : IsTrue (is_whole t)) where
  abbrev style : Rendition
  style = open_before apply plain_style t before k s e p q which from_after ordered

  abbrev link : List ℕ
  link = open_before link_after [] t before k s e p q which from_after ordered

  abbrev after : Rendition
  after = open_after apply plain_style t before k s e p q which from_after ordered

  abbrev last : List ℕ
  last = open_after link_after [] t before k s e p q which from_after ordered

  abbrev core : List Piece
  core = middle_pieces apply plain_style t before k s e p q which from_after ordered

  abbrev middle : List ℕ
  middle = interleaved (plain t) s e (marks_past before (marks_up_to e (marks t)))

  abbrev pub dressed : List ℕ
  dressed = ((start style ++ link) ++ blanks p) ++ middle ++ (blanks q ++ (link_end last ++ close after))

  abbrev pub styled_dressed : List StyledByte
  styled_dressed = map (styled_byte style) (blanks p) ++ (slice_range (styled t) s e ++ map (styled_byte after) (blanks q))

  abbrev pub linked_dressed : List LinkedByte
  linked_dressed = map (linked_byte link) (blanks p) ++ (slice_range (linked t) s e ++ map (linked_byte last) (blanks q))

  is_style : IsStyle style
  is_style = IsStyle-apply_all plain_style (map (λ (m : Mark). m.bytes) (at_places (earlier_places before) (marks t))) IsStyle-plain_style

  carried : IsCarried link
  carried = IsCarried-after [] (at_places (earlier_places before) (marks t)) (sequences-filter (λ (m : Mark). earlier_places before m.place) (marks t) (marks_are_sequences (pieces_of t) (pieces_stand t whole))) IsCarried-nil

  core_stands : AllStandAnywhere core
  core_stands =
      let shown = interleaved_pieces (own_places before e) s e (pieces_of t) in
      stand-append (one_text (blanks p)) (shown ++ one_text (blanks q)) (blanks_stand p)
      (stand-append shown (one_text (blanks q)) (interleaved_pieces_stand (pieces_of t) (own_places before e) s e (pieces_stand t whole)) (blanks_stand q))

  spelled_core : spelled core ≡ blanks p ++ (middle ++ blanks q)
  spelled_core =
      let shown = interleaved_pieces (own_places before e) s e (pieces_of t) in
      flat_map-append spelling (one_text (blanks p)) (shown ++ one_text (blanks q))
      ∙ ap₂ (λ u v. u ++ v) (spelled-one_text (blanks p))
      (flat_map-append spelling shown (one_text (blanks q))
      ∙ ap₂ (λ u v. u ++ v) (spelled-interleaved_pieces (pieces_of t) (own_places before e) s e ∙ ap (interleaved (plain t) s e) (sym (marks_past-places before e (marks t)))) (spelled-one_text (blanks q)))

  abbrev ends : List Piece
  ends = core ++ one_sequence (link_end last)

  abbrev inside : List Piece
  inside = one_sequence link ++ ends

  inside_stands : AllStandAnywhere inside
  inside_stands =
      stand-append (one_sequence link) ends (one_sequence_stands link carried.is)
      (stand-append core (one_sequence (link_end last)) core_stands (one_sequence_stands (link_end last) (link_end_is_link last)))

  style_inside : style_through style inside ≡ after
  style_inside =
      style_through-append style (one_sequence link) ends ∙ ap (λ r. style_through r ends) (link_keeps style link carried.is)
      ∙ style_through-append style core (one_sequence (link_end last))
      ∙ link_keeps (style_through style core) (link_end last) (link_end_is_link last)
      ∙ state-middle apply plain_style t before k s e p q which from_after ordered

  styled_inside : styled_through style inside ≡ styled_dressed
  styled_inside =
      styled_through-append style (one_sequence link) ends
      ∙ ap₂ (λ u r. u ++ styled_through r ends) (styled_through-one_sequence style link) (link_keeps style link carried.is)
      ∙ styled_through-append style core (one_sequence (link_end last))
      ∙ ap (λ v. styled_through style core ++ v) (styled_through-one_sequence (style_through style core) (link_end last))
      ∙ append-nil (styled_through style core)
      ∙ seen-middle apply plain_style t before k s e p q which from_after ordered styled_byte
      ∙ ap (λ bs. map (styled_byte style) (blanks p) ++ (slice_range bs s e ++ map (styled_byte after) (blanks q))) (sym (styled-pieces t))

  spelled_inside : spelled inside ≡ link ++ ((blanks p ++ (middle ++ blanks q)) ++ link_end last)
  spelled_inside =
      flat_map-append spelling (one_sequence link) ends
      ∙ ap₂ (λ u v. u ++ v) (spelled-one_sequence link)
      (flat_map-append spelling core (one_sequence (link_end last)) ∙ ap₂ (λ u v. u ++ v) spelled_core (spelled-one_sequence (link_end last)))

  spelled_all : spelled (dressed_pieces style inside (close_codes after)) ≡ dressed
  spelled_all =
      spelled-dressed_pieces style inside (close_codes after) ∙ ap (λ u. start style ++ u ++ close after) spelled_inside
      ∙ append_assoc-seven (start style) link (blanks p) middle (blanks q) (link_end last) (close after)

  pub dressed_closed : IsClosed styled_dressed dressed
  dressed_closed =
      let ps = dressed_pieces style inside (close_codes after) in
      subst (IsClosed styled_dressed) spelled_all
      (closed-spelled ps styled_dressed (dressed_pieces_stand style inside (close_codes after) is_style inside_stands (close_codes_are after))
      (subst (GiveAlone ps) styled_inside (dressed_pieces_give style after inside (close_codes after) is_style (ap known style_inside) (λ r same. close_codes_clear r after same))))

  pub dressed_linked : IsLinked [] dressed linked_dressed []
  dressed_linked =
      let opened = IsLinked-append (IsLinked-codes [] (start_codes style) (start_codes_are style is_style)) (IsLinked-carried link carried) in
      let made = IsLinked-spelled link core (blanks p ++ (middle ++ blanks q)) spelled_core core_stands in
      let shown : IsLinked link (blanks p ++ (middle ++ blanks q)) linked_dressed last = record {
        whole = made.whole;
        bytes = made.bytes ∙ seen-middle link_after [] t before k s e p q which from_after ordered linked_byte
            ∙ ap (λ bs. map (linked_byte link) (blanks p) ++ (slice_range bs s e ++ map (linked_byte last) (blanks q))) (sym (linked-pieces t));
        after = made.after ∙ state-middle link_after [] t before k s e p q which from_after ordered;
      } in
      let ended = IsLinked-append (IsLinked-link_end last) (IsLinked-codes [] (close_codes after) (close_codes_are after)) in
      let all = IsLinked-append (IsLinked-append opened shown) ended in
      subst (λ u. IsLinked [] u linked_dressed []) (append_assoc-open (start style ++ link) (blanks p) middle (blanks q) (link_end last ++ close after)) (record { whole = all.whole; bytes = all.bytes ∙ append-nil linked_dressed; after = all.after })

-- ---- a slice is dressed so

opened-is : (t : List ℕ) (before : Option ℕ) → start (state_after apply plain_style (at_places (earlier_places before) (marks t))) ++ state_after link_after [] (at_places (earlier_places before) (marks t)) ≡ pen_open t before
opened-is t None = (let none = at_places-never (marks t) in ap₂ (λ ms ls. start (state_after apply plain_style ms) ++ state_after link_after [] ls) none none)
opened-is t (Some k) = ap (λ l. start (style_at t k) ++ l) (sym (link_of-fold (marks_up_to k (marks t))))

-- its places, if it has a column
module _ (t : List ℕ) (a b : ℕ) (utf8 : IsUtf8 t) (some : has_no_column (plain t) a b ≡ false) where
  abbrev x : List ℕ
  x = plain t

  abbrev place : ℕ
  place = column_place x a

  abbrev from : ℕ
  from = bytes_from x a

  abbrev to : ℕ
  to = bytes_up_to x b

  abbrev before : Option ℕ
  before = opened_at x a

  pub which : (before ≡ None) ⊎ (before ≡ Some place)
  which = elim (cases_Bool (a == 0)) [
    | inl zero_is ↦ inl (ap (λ c. if c then None else Some place) zero_is)
    | inr other ↦ inr (ap (λ c. if c then None else Some place) other)
  ]

  pub from-after : place ≤ from
  from-after = ended-begun a (clusters x)

  pub to-after : place ≤ to
  to-after = elim (cases_Bool (nat_le (columns x) b)) [
    | inl all ↦ omega (
      arith,
      ap (λ c. if c then length x else column_place x b) all,
      ended-bytes a (clusters x),
      ap length (clusters_after-bytes [] (chars x)),
      ap length (encodes-chars x (IsUtf8-plain t utf8)),
    )
    | inr part ↦
        let ordered : a < b = leb-false b a (or_parts (nat_le b a) (nat_le (columns x) a) some).0 in
        omega (arith, ap (λ c. if c then length x else column_place x b) part, ended-ordered a b (clusters x) (omega (arith, ordered)))
  ]

  module _ (whole : IsTrue (is_whole t)) where
    abbrev p : ℕ
    p = blanks_before x a b

    abbrev q : ℕ
    q = blanks_after x a b

    dressed-is : dressed t before place from to p q which from-after to-after whole ≡ sliced_up_to t a b
    unfolding sliced_up_to
    dressed-is =
        ap₂ (λ o l. (o ++ blanks p) ++ slice_middle t a b ++ (blanks q ++ (link_end l ++ close (style_at t to)))) (opened-is t before) (sym (link_of-fold (marks_up_to to (marks t))))
        ∙ sym (ap (λ c. if c then [] else slice_opening t a b ++ slice_middle t a b ++ slice_closing t a b) some)

    pub slice_styled : IsClosed (styled_dressed t before place from to p q which from-after to-after whole) (sliced_up_to t a b)
    slice_styled = subst (IsClosed (styled_dressed t before place from to p q which from-after to-after whole)) dressed-is (dressed_closed t before place from to p q which from-after to-after whole)

    pub slice_linked : IsLinked [] (sliced_up_to t a b) (linked_dressed t before place from to p q which from-after to-after whole) []
    slice_linked =
        subst (λ u. IsLinked [] u (linked_dressed t before place from to p q which from-after to-after whole) []) dressed-is
        (dressed_linked t before place from to p q which from-after to-after whole)

pub sliced-whole : (t : List ℕ) (a b : ℕ) → IsUtf8 t → IsTrue (is_whole t) → IsTrue (is_whole (sliced_up_to t a b))
sliced-whole t a b utf8 whole = elim (cases_Bool (has_no_column (plain t) a b)) [
  | inl none ↦ subst (λ u. IsTrue (is_whole u)) (sliced-nothing t a b none) refl
  | inr some ↦ (slice_styled t a b utf8 some whole).whole
]

pub sliced-closed : (t : List ℕ) (a b : ℕ) → IsUtf8 t → IsTrue (is_whole t) → IsEnded (sliced_up_to t a b)
sliced-closed t a b utf8 whole = elim (cases_Bool (has_no_column (plain t) a b)) [
  | inl none ↦ subst IsEnded (sliced-nothing t a b none) (record { style = refl; link = refl })
  | inr some ↦ record { style = (slice_styled t a b utf8 some whole).closed; link = link_of-pieces (pieces_of (sliced_up_to t a b)) ∙ (slice_linked t a b utf8 some whole).after }
]

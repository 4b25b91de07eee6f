-- A text with another text in place of each of many ranges.
use Rattle.std.proofs.Common.{◌≡◌, Bool, ◌&&◌, ℕ, zero, suc, ◌+◌, ◌-◌, ◌<◌, ◌≤◌, inl, inr, true, false, List, [], ◌∷◌, ◌++◌, length, take, drop, refl, sym, ◌∙◌, ap, ap₂, subst, arith, IsTrue, append-nil, append_assoc, slice_range, get_or, nat_le, nat_lt, if◌then◌else◌}
use Rattle.std.specs.Prelude.{IsFalse, ◌==◌}
use Rattle.std.specs.Str.{IsCharBoundary}
use Rattle.std.proofs.lemmas.Bool.Decides.{nat_tests}
use Rattle.std.proofs.lemmas.Bool.{cases_lt, eqb-true, leb-true, and_from, and_parts, le-leb, lt-ltb, le-ltb}
use Rattle.std.proofs.lemmas.List.{take-append-drop, take-append-le, take_all, map-append, drop-drop, length-drop, length-take, length-take-le, get_or-drop, nil_from_length, drop_more, drop_all}
use Rattle.std.proofs.lemmas.List.FromFn.{get_or-map-range_with_len}
use Rattle.std.proofs.lemmas.Str.{IsCharBoundary-start}
use Rattle.std.specs.Str.{IsUtf8}
use Rattle.std.specs.List.{take-map, drop-map}
use Rattle.ansi_items.specs.Bytes.{is_plain_byte}
use Rattle.ansi_items.specs.Pieces.{Piece, Text, ArePieces, spelling, pieces_of}
use Rattle.ansi_items.specs.Plain.{plain, plain_of, has_escape, marks, marks_up_to, is_whole}
use Rattle.ansi_items.proofs.PieceLemmas.{pieces_are, pieces_of-unique}
use Rattle.ansi_items.proofs.PlainLemmas.{has_escape-bare, one_text, one_text_are}
use Rattle.ansi_items.proofs.JoinLemmas.{pieces_stand}
use Rattle.ansi_items.proofs.Utf8Lemmas.{IsUtf8-plain}
use Rattle.ansi_style.specs.declared.state.rendition.Rendition.{Rendition}
use Rattle.ansi_style.specs.Rendition.{IsStyle, plain_style, known}
use Rattle.ansi_style.specs.Reading.{style_within, styled_from, style_after_from}
use Rattle.ansi_style.specs.Styled.{StyledByte, styled, style_at, style_after, residue, unstyled}
use Rattle.ansi_style.proofs.MarkLemmas.{marks-bare}
use Rattle.ansi_style.proofs.StyleLemmas.{IsStyle-plain_style, IsStyle-style_after_from}
use Rattle.ansi_style.proofs.StyledLemmas.{unstyled-styled}
use Rattle.ansi_style.proofs.SpelledLemmas.{styled_from-append, style_after_from-append, styled_from-alike}
use Rattle.ansi_search.specs.Offsets.{bytes_before, offset_of}
use Rattle.ansi_search.specs.Positions.{is_char_boundary, no_character_goes_on}
use Rattle.ansi_search.proofs.SliceLemmas.{list_all-parts, take-append}
use Rattle.ansi_search.proofs.OffsetLemmas.{bytes_before-last, bytes_before-text}
use Rattle.ansi_search.proofs.PositionLemmas.{good_is_boundary, no_character_goes_on-append, no_character_goes_on-drop, no_character_goes_on-past, no_character_goes_on-boundary}
use Rattle.ansi_slice.specs.Stretches.{sequences_up_to}
use Rattle.ansi_split.proofs.AfterLemmas.{is_cut_after}
use Rattle.ansi_safe.specs.Links.{link_of, link_at, link_after_all}
use Rattle.ansi_safe.proofs.LinkLemmas.{link_after_all-none}
use Rattle.ansi_restyle.specs.Linked.{links_in, links_from}
use Rattle.ansi_restyle.specs.Ranges.{are_in_turn}
use Rattle.ansi_restyle.specs.Removed.{sequences}
use Rattle.ansi_restyle.specs.Replaced.{place_of, place_after, put}
use Rattle.ansi_restyle.specs.ReplacedEach.{Swap, swaps_of, ranges_of, are_whole, swap_nothing, with_each, without_front, replaced_from, replaced_each, IsReplacedEach}
use Rattle.ansi_restyle.specs.Replacing.{made_of_left, AreUtf8}
use Rattle.ansi_restyle.specs.declared.replace_each.Replacement.{Replacement}
use Rattle.ansi_restyle.specs.declared.replace_each.Replacing.{Replacing}
use Rattle.ansi_restyle.specs.Restyled.{front, rest}
use Rattle.ansi_restyle.specs.Rests.{IsDivided}
use Rattle.ansi_restyle.proofs.OtherLemmas.{kept_of}
use Rattle.ansi_restyle.proofs.ChangeLemmas.{Reads, reads-itself, reads-append}
use Rattle.ansi_restyle.proofs.FrontLemmas.{piece_before, is_whole-front, is_whole-rest, style_after-front, style_after-parts, length-styled_from}
use Rattle.ansi_restyle.proofs.LinkedLemmas.{SeesLinks, sees-append, sees-itself, sees-sequences, sees-rest, links_in-from, links_from-append, link_after-append, length-links_from, after-pieces, GoodLink, good_link-through}
use Rattle.ansi_restyle.proofs.PlaceLemmas.{begins, one, up_to_byte, whole-bare, style_after-bare, place_of-front, place_of-later, is_place, plain-after_place, take_seam, drop_seam}
use Rattle.ansi_restyle.proofs.RangeLemmas.{AreFirst, are_first, in_turn-within}
use Rattle.ansi_restyle.proofs.RemovedLemmas.{up_to-all, length-part, is_whole-sequences, styled_from-sequences, style_after-sequences, styled_from-rest}
use Rattle.ansi_restyle.proofs.RestLemmas.{offset_in_run, good_in_run}
use Rattle.ansi_restyle.proofs.ReplacedLemmas.{reads-put, unstyled-styled_from, sequences-front_0}

drop_of_take : {A : Type 0} (m d : ℕ) (xs : List A) → drop m (take d xs) ≡ take (d - m) (drop m xs)
drop_of_take zero d xs = (let same : d ≡ d - 0 = omega arith in ap (λ i. take i xs) same)
drop_of_take (suc m) zero xs = (let none : 0 ≡ 0 - suc m = omega arith in ap (λ i. take i (drop (suc m) xs)) none)
drop_of_take (suc m) (suc d) [] = sym (take_all (suc d - suc m) [] (omega arith))
drop_of_take (suc m) (suc d) (x ∷ xs) = (let same : d - m ≡ suc d - suc m = omega arith in drop_of_take m d xs ∙ ap (λ i. take i (drop m xs)) same)

-- What is left of a text without its front.

pub reads-without_front : (s : Rendition) (t : List ℕ) (m : ℕ) → IsTrue (is_whole t) → Reads s (style_after_from s t) (drop m (styled_from s t)) (kept_of (pieces_of (without_front m t))) (without_front m t)
reads-without_front s t m whole =
    let part = front m t in
    let last = rest m t in
    let g = sequences part in
    let q = style_within s t m in
    let whole_part = is_whole-front t m whole in
    let one : Reads s q [] (kept_of (pieces_of g)) g
    = subst (λ r. Reads s r [] (kept_of (pieces_of g)) g) (style_after-sequences part whole_part s ∙ style_after-front s t m)
    (subst (λ bs. Reads s (style_after_from s g) bs (kept_of (pieces_of g)) g) (styled_from-sequences part whole_part s) (reads-itself s g (is_whole-sequences part whole_part))) in
    let two = subst (λ r. Reads q r (drop m (styled_from s t)) (kept_of (pieces_of last)) last) (sym (style_after-parts s t m whole))
    (subst (λ bs. Reads q (style_after_from q last) bs (kept_of (pieces_of last)) last) (styled_from-rest s t m whole) (reads-itself q last (is_whole-rest t m whole))) in
    let all = reads-append one two in
    record { whole = all.whole; others = refl; given = all.given; left = all.left }

pub sees-without_front : (l t : List ℕ) (m : ℕ) → m ≤ length (plain t) → IsTrue (is_whole t) → SeesLinks l (link_after_all l (marks t)) (drop m (links_from l t)) (without_front m t)
sees-without_front l t m within whole = sees-append (sees-sequences l (front m t) (is_whole-front t m whole)) (sees-rest l t m within whole)

-- The style and the link after a text up to a place are those of the plain byte before it.

pub style-up_to_place : (s : Rendition) (t : List ℕ) (d : ℕ) → d ≤ length (plain t) → IsTrue (is_whole t) → style_after_from s (take (place_of d t) t) ≡ style_within s t (d - 1)
style-up_to_place s t d within whole = elim (cases_lt 0 d) [
  | inl some ↦ (
      let n = d - 1 in
      let inside : n < length (plain t) = omega arith in
      let bare = (begins t n inside).bare in
      ap (λ k. style_after_from s (take k t)) (place_of-later t d some) ∙ ap (style_after_from s) (up_to_byte t n inside)
      ∙ style_after_from-append s (front n t) (one t n inside) (is_whole-front t n whole) (whole-bare (one t n inside) bare)
      ∙ style_after-bare (style_after_from s (front n t)) (one t n inside) bare ∙ style_after-front s t n)
  | inr none ↦ (
      let zero_is : d ≡ 0 = omega arith in
      let first : 0 ≡ d - 1 = omega arith in
      ap (λ k. style_after_from s (take k t)) (place_of-front t d zero_is) ∙ style_after-front s t 0 ∙ ap (style_within s t) first)
]

pub link-up_to_place : (l t : List ℕ) (d : ℕ) → d ≤ length (plain t) → IsTrue (is_whole t) → link_after_all l (marks (take (place_of d t) t)) ≡ link_after_all l (marks_up_to (d - 1) (marks t))
link-up_to_place l t d within whole = elim (cases_lt 0 d) [
  | inl some ↦ (
      let n = d - 1 in
      let inside : n < length (plain t) = omega arith in
      let v = one t n inside in
      let bare = (begins t n inside).bare in
      let m = link_after_all l (marks (front n t)) in
      ap (λ k. link_after_all l (marks (take k t))) (place_of-later t d some) ∙ ap (λ u. link_after_all l (marks u)) (up_to_byte t n inside)
      ∙ link_after-append l (front n t) v (is_whole-front t n whole) (whole-bare v bare)
      ∙ ap (link_after_all m) (marks-bare v (has_escape-bare v bare)) ∙ ap (link_after_all l) (is_cut_after t n (offset_of t n) refl).marks_front)
  | inr none ↦ (
      let zero_is : d ≡ 0 = omega arith in
      let first : 0 ≡ d - 1 = omega arith in
      ap (λ k. link_after_all l (marks (take k t))) (place_of-front t d zero_is) ∙ ap (link_after_all l) (is_cut_after t 0 (offset_of t 0) refl).marks_front
      ∙ ap (λ k. link_after_all l (marks_up_to k (marks t))) first)
]

-- y is what is left of a whole text t after its first n plain bytes; s and l are open before it
pub record IsLeftOf (t : List ℕ) (n : ℕ) (s : Rendition) (l y : List ℕ) : Type 0 where
  pub whole : IsTrue (is_whole y)
  pub is_style : IsStyle s
  pub is_link : GoodLink l
  pub plain_left : plain y ≡ drop n (plain t)
  pub styled_left : styled_from s y ≡ drop n (styled t)
  pub links_left : links_from l y ≡ drop n (links_in t)
  pub style_end : known (style_after_from s y) ≡ residue t
  pub link_end : link_after_all l (marks y) ≡ link_of (marks t)

pub all_left : (t : List ℕ) → IsTrue (is_whole t) → IsLeftOf t 0 plain_style [] t
all_left t whole = record {
  whole = whole;
  is_style = IsStyle-plain_style;
  is_link = inl refl;
  plain_left = refl;
  styled_left = refl;
  links_left = sym (links_in-from t);
  style_end = refl;
  link_end = link_after_all-none (marks t);
}

-- the pen at the byte before a position
pub record IsPen (t : List ℕ) (a : ℕ) (s : Rendition) (l : List ℕ) : Type 0 where
  pub style : known s ≡ known (style_at t (a - 1))
  pub link : l ≡ link_at t (a - 1)

-- a whole text is in two after its first d plain bytes
pub record IsCut (y : List ℕ) (d k : ℕ) : Type 0 where
  pub whole_front : IsTrue (is_whole (take k y))
  pub whole_after : IsTrue (is_whole (drop k y))
  pub size : length (plain (take k y)) ≡ d
  pub plain_after : plain (drop k y) ≡ drop d (plain y)

cut_at_place : (y : List ℕ) (d : ℕ) → d ≤ length (plain y) → IsTrue (is_whole y) → IsCut y d (place_of d y)
cut_at_place y d fits whole =
    let place = is_place y d fits whole in
    record {
      whole_front = place.whole_front;
      whole_after = place.whole_after;
      size =
          sym (length-styled_from plain_style (take (place_of d y) y)) ∙ ap length place.styled_front
          ∙ length-take-le d (styled y) (omega (arith, length-styled_from plain_style y, fits));
      plain_after = plain-after_place y d fits;
    }

place_after-later : (y : List ℕ) (d : ℕ) → 0 < d → place_after d y ≡ place_of d y
place_after-later y d some =
    let later : (d == 0) ≡ false = grind (arith, nat_tests) in
    ap (λ b. if b then 0 else offset_of y (d - 1) + 1) later ∙ sym (place_of-later y d some)

place_after-once : (y : List ℕ) (d : ℕ) → d ≡ 0 → place_after d y ≡ 0
place_after-once y d none = ap (λ n. place_after n y) none

cut_after : (y : List ℕ) (d : ℕ) → d ≤ length (plain y) → IsTrue (is_whole y) → IsCut y d (place_after d y)
cut_after y d fits whole = elim (cases_lt 0 d) [
  | inl some ↦ subst (IsCut y d) (sym (place_after-later y d some)) (cut_at_place y d fits whole)
  | inr none ↦ (
      let zero_is : d ≡ 0 = omega arith in
      subst (IsCut y d) (sym (place_after-once y d zero_is)) (record { whole_front = refl; whole_after = whole; size = sym zero_is; plain_after = ap (λ k. drop k (plain y)) (sym zero_is) }))
]

fits_left_of : {t : List ℕ} {n : ℕ} {s : Rendition} {l y : List ℕ} → IsLeftOf t n s l y → (a : ℕ) → n ≤ a → a ≤ length (plain t) → a - n ≤ length (plain y)
fits_left_of {t} {n} left a from inside = omega (arith, ap length left.plain_left, length-drop n (plain t), from, inside)

module _ {t : List ℕ} {n : ℕ} {s : Rendition} {l y : List ℕ} (left : IsLeftOf t n s l y) (a : ℕ) (from : n ≤ a) {k : ℕ} (cut : IsCut y (a - n) k) where
  abbrev d : ℕ
  d = a - n

  abbrev before : List ℕ
  before = take k y

  abbrev after : List ℕ
  after = drop k y

  abbrev there : Rendition
  there = style_after_from s before

  abbrev linked : List ℕ
  linked = link_after_all l (marks before)

  both : before ++ after ≡ y
  both = take-append-drop k y

  whole_before : IsTrue (is_whole before)
  whole_before = cut.whole_front

  whole_after : IsTrue (is_whole after)
  whole_after = cut.whole_after

  size_before : length (plain before) ≡ a - n
  size_before = cut.size

  further : {A : Type 0} (xs : List A) → drop d (drop n xs) ≡ drop a xs
  further xs = (let sum : n + d ≡ a = omega (arith, from) in drop-drop d n xs ∙ ap (λ i. drop i xs) sum)

  styled_parts : drop n (styled t) ≡ styled_from s before ++ styled_from there after
  styled_parts = sym left.styled_left ∙ ap (styled_from s) (sym both) ∙ styled_from-append s before after whole_before whole_after

  links_parts : drop n (links_in t) ≡ links_from l before ++ links_from linked after
  links_parts = sym left.links_left ∙ ap (links_from l) (sym both) ∙ links_from-append l before after whole_before whole_after

  size_styled : length (styled_from s before) ≡ d
  size_styled = length-styled_from s before ∙ size_before

  size_links : length (links_from l before) ≡ d
  size_links = length-links_from l before ∙ size_before

  pub styled_before : styled_from s before ≡ take (a - n) (drop n (styled t))
  styled_before = sym (ap (take d) styled_parts ∙ take_seam d (styled_from s before) (styled_from there after) size_styled)

  pub links_before : links_from l before ≡ take (a - n) (drop n (links_in t))
  links_before = sym (ap (take d) links_parts ∙ take_seam d (links_from l before) (links_from linked after) size_links)

  pub left_after : IsLeftOf t a there linked after
  left_after = record {
    whole = whole_after;
    is_style = IsStyle-style_after_from s before left.is_style;
    is_link = subst GoodLink (sym (after-pieces l before)) (good_link-through l (pieces_of before) left.is_link (pieces_stand before whole_before));
    plain_left = cut.plain_after ∙ ap (drop d) left.plain_left ∙ further (plain t);
    styled_left = sym (ap (drop d) styled_parts ∙ drop_seam d (styled_from s before) (styled_from there after) size_styled) ∙ further (styled t);
    links_left = sym (ap (drop d) links_parts ∙ drop_seam d (links_from l before) (links_from linked after) size_links) ∙ further (links_in t);
    style_end = ap known (sym (style_after_from-append s before after whole_before whole_after)) ∙ ap (λ u. known (style_after_from s u)) both ∙ left.style_end;
    link_end = sym (link_after-append l before after whole_before whole_after) ∙ ap (λ u. link_after_all l (marks u)) both ∙ left.link_end;
  }

nothing : StyledByte
nothing = record { byte = 0; style = plain_style }

-- there is a byte before it in what is left
pen_later : {t : List ℕ} {n : ℕ} {s : Rendition} {l y : List ℕ} → IsLeftOf t n s l y → (a : ℕ) → n < a → a ≤ length (plain t) → IsPen t a (style_after_from s (take (place_of (a - n) y) y)) (link_after_all l (marks (take (place_of (a - n) y) y)))
pen_later {t} {n} {s} {l} {y} left a some inside =
    let d = a - n in
    let i = d - 1 in
    let fits : d ≤ length (plain y) = fits_left_of left a (omega (arith, some)) inside in
    let has : i < length (plain y) = omega (arith, fits, some) in
    let has_all : a - 1 < length (plain t) = omega (arith, inside, some) in
    let sum : n + i ≡ a - 1 = omega (arith, some) in
    record {
      style =
          ap known (style-up_to_place s y d fits left.whole)
          ∙ sym (ap (λ (b : StyledByte). b.style) (get_or-map-range_with_len _ 0 (length (plain y)) i i nothing has (omega arith)))
          ∙ ap (λ bs. (get_or bs i nothing).style) left.styled_left
          ∙ ap (λ (b : StyledByte). b.style) (get_or-drop n (styled t) i nothing ∙ ap (λ j. get_or (styled t) j nothing) sum)
          ∙ ap (λ (b : StyledByte). b.style) (get_or-map-range_with_len _ 0 (length (plain t)) (a - 1) (a - 1) nothing has_all (omega arith));
      link =
          link-up_to_place l y d fits left.whole
          ∙ sym (get_or-map-range_with_len _ 0 (length (plain y)) i i [] has (omega arith))
          ∙ ap (λ ls. get_or ls i []) left.links_left
          ∙ get_or-drop n (links_in t) i [] ∙ ap (λ j. get_or (links_in t) j []) sum
          ∙ get_or-map-range_with_len _ 0 (length (plain t)) (a - 1) (a - 1) [] has_all (omega arith);
    }

-- there is, or the pen is that of the range before
pub pen_after : {t : List ℕ} {n : ℕ} {s : Rendition} {l y : List ℕ} → IsLeftOf t n s l y → IsPen t n s l → (a : ℕ) → n ≤ a → a ≤ length (plain t) → IsPen t a (style_after_from s (take (place_after (a - n) y) y)) (link_after_all l (marks (take (place_after (a - n) y) y)))
pen_after {t} {n} {s} {l} {y} left pen a from inside = elim (cases_lt n a) [
  | inl some ↦ (
      let further : 0 < a - n = omega (arith, some) in
      subst (λ k. IsPen t a (style_after_from s (take k y)) (link_after_all l (marks (take k y)))) (sym (place_after-later y (a - n) further)) (pen_later left a some inside))
  | inr here ↦ (
      let zero_is : a - n ≡ 0 = omega arith in
      let same : n ≡ a = omega (arith, from, here) in
      subst (λ k. IsPen t a (style_after_from s (take k y)) (link_after_all l (marks (take k y)))) (sym (place_after-once y (a - n) zero_is)) (subst (λ i. IsPen t i s l) same pen))
]

-- what is before the first plain byte, and what is left after it

first_style : (t : List ℕ) → IsTrue (is_whole t) → style_after_from plain_style (front 0 t) ≡ style_at t 0
first_style t whole = style-up_to_place plain_style t 0 (omega arith) whole

first_link : (t : List ℕ) → IsTrue (is_whole t) → link_after_all [] (marks (front 0 t)) ≡ link_at t 0
first_link t whole = link-up_to_place [] t 0 (omega arith) whole ∙ link_after_all-none (marks_up_to 0 (marks t))

first_left : (t : List ℕ) → IsTrue (is_whole t) → IsLeftOf t 0 (style_at t 0) (link_at t 0) (rest 0 t)
first_left t whole =
    subst (λ s. IsLeftOf t 0 s (link_at t 0) (rest 0 t)) (first_style t whole)
    (subst (λ l. IsLeftOf t 0 (style_after_from plain_style (front 0 t)) l (rest 0 t)) (first_link t whole) (left_after (all_left t whole) 0 (omega arith) (cut_at_place t 0 (omega arith) whole)))

first_pen : (t : List ℕ) → IsPen t 0 (style_at t 0) (link_at t 0)
first_pen t = record { style = refl; link = refl }

-- What is written.

abbrev new_bytes : List ℕ → Swap → List StyledByte
new_bytes t e = styled_from (style_at t (e.range.0 - 1)) e.text

abbrev new_links : List ℕ → Swap → List (List ℕ)
new_links t e = links_from (link_at t (e.range.0 - 1)) e.text

-- u is what is written for what is left after n plain bytes, m of which are replaced
pub record IsWritten (t : List ℕ) (s : Rendition) (l : List ℕ) (n m : ℕ) (es : List Swap) (u : List ℕ) : Type 0 where
  pub reads : Reads s (style_after t) (with_each (new_bytes t) (n + m) (styled t) es) (kept_of (pieces_of u)) u
  pub sees : SeesLinks l (link_of (marks t)) (with_each (new_links t) (n + m) (links_in t) es) u

written-last : (t : List ℕ) (s : Rendition) (l y : List ℕ) (n m : ℕ) → IsLeftOf t n s l y → n + m ≤ length (plain t) → IsWritten t s l n m [] (without_front m y)
written-last t s l y n m left inside =
    let u = without_front m y in
    let fits : m ≤ length (plain y) = omega (arith, ap length left.plain_left, length-drop n (plain t), inside) in
    let reads = reads-without_front s y m left.whole in
    let sees = sees-without_front l y m fits left.whole in
    record {
      reads = record {
        whole = reads.whole;
        others = refl;
        given = λ p same. reads.given p same ∙ ap (drop m) left.styled_left ∙ drop-drop m n (styled t);
        left = λ p same. reads.left p same ∙ left.style_end;
      };
      sees = record { whole = sees.whole; given = sees.given ∙ ap (drop m) left.links_left ∙ drop-drop m n (links_in t); left = sees.left ∙ left.link_end };
    }

slice_is : {A : Type 0} (xs : List A) (n m a : ℕ) → n + m ≤ a → drop m (take (a - n) (drop n xs)) ≡ slice_range xs (n + m) a
slice_is xs n m a ordered =
    let size : a - n - m ≡ a - (n + m) = omega (arith, ordered) in
    drop_of_take m (a - n) (drop n xs) ∙ ap₂ (λ i v. take i v) size (drop-drop m n xs)

written-next : (t : List ℕ) (s : Rendition) (l y : List ℕ) (n m : ℕ) (e : Swap) (es : List Swap) → (left : IsLeftOf t n s l y) → (from : n + m ≤ e.range.0) → (ordered : e.range.0 ≤ e.range.1) → (inside : e.range.1 ≤ length (plain t)) → IsTrue (is_whole e.text)
    → IsPen t e.range.0 (style_after_from s (take (place_after (e.range.0 - n) y) y)) (link_after_all l (marks (take (place_after (e.range.0 - n) y) y)))
    → (v : List ℕ) → IsWritten t (style_after_from s (take (place_after (e.range.0 - n) y) y)) (link_after_all l (marks (take (place_after (e.range.0 - n) y) y))) e.range.0 (e.range.1 - e.range.0) es v
    → IsWritten t s l n m (e ∷ es) (without_front m (take (place_after (e.range.0 - n) y) y) ++ put (style_after_from s (take (place_after (e.range.0 - n) y) y)) (link_after_all l (marks (take (place_after (e.range.0 - n) y) y))) e.text ++ v)
written-next t s l y n m e es left from ordered inside whole_w pen v later =
    let a = e.range.0 in
    let w = e.text in
    let f = take (place_after (a - n) y) y in
    let q = style_after_from s f in
    let k = link_after_all l (marks f) in
    let behind : n ≤ a = omega (arith, from) in
    let within : a ≤ length (plain t) = omega (arith, ordered, inside) in
    let cut = cut_after y (a - n) (fits_left_of left a behind within) left.whole in
    let size : m ≤ length (plain f) = omega (arith, cut.size, from) in
    let next = left_after left a behind cut in
    let middle = reads-put q next.is_style k next.is_link w whole_w in
    let p = put q k w in
    let sum : a + (e.range.1 - a) ≡ e.range.1 = omega (arith, ordered) in
    let one = reads-without_front s f m cut.whole_front in
    let two : Reads q q (styled_from q w) (kept_of (pieces_of p)) p = record { whole = middle.whole; others = refl; given = middle.given; left = middle.left } in
    let all = reads-append (reads-append one two) later.reads in
    let sees = sees-append (sees-append (sees-without_front l f m size cut.whole_front) middle.sees) later.sees in
    record {
      reads = record {
        whole = all.whole;
        others = refl;
        given = λ p same.
            all.given p same
            ∙ ap₂ (λ x z. x ++ z)
            (ap₂ (λ x z. x ++ z) (ap (drop m) (styled_before left a behind cut) ∙ slice_is (styled t) n m a from) (styled_from-alike q (style_at t (a - 1)) w pen.style))
            (ap (λ i. with_each (new_bytes t) i (styled t) es) sum);
        left = all.left;
      };
      sees = record {
        whole = sees.whole;
        given =
            sees.given
            ∙ ap₂ (λ x z. x ++ z)
            (ap₂ (λ x z. x ++ z) (ap (drop m) (links_before left a behind cut) ∙ slice_is (links_in t) n m a from) (ap (λ x. links_from x w) pen.link))
            (ap (λ i. with_each (new_links t) i (links_in t) es) sum);
        left = sees.left;
      };
    }

written-each : (t : List ℕ) (es : List Swap) (s : Rendition) (l y : List ℕ) (n m : ℕ) → IsLeftOf t n s l y → IsPen t n s l → are_in_turn (plain t) (n + m) (ranges_of es) ≡ true → IsTrue (are_whole es) → IsWritten t s l n m es (replaced_from s l n m y es)
written-each t [] s l y n m left pen turn whole = written-last t s l y n m left (in_turn-within (plain t) (n + m) [] turn)
written-each t (e ∷ es) s l y n m left pen turn whole =
    let a = e.range.0 in
    let first = are_first (plain t) (n + m) e.range (ranges_of es) turn in
    let begins : n + m ≤ a = first.begins in
    let ends : a ≤ e.range.1 = first.ends in
    let inside : e.range.1 ≤ length (plain t) = in_turn-within (plain t) e.range.1 (ranges_of es) first.later in
    let behind : n ≤ a = omega (arith, begins) in
    let within : a ≤ length (plain t) = omega (arith, ends, inside) in
    let f = take (place_after (a - n) y) y in
    let sum : e.range.1 ≡ a + (e.range.1 - a) = omega (arith, ends) in
    let both = and_parts (is_whole e.text) (are_whole es) whole in
    let here = pen_after left pen a behind within in
    let cut = cut_after y (a - n) (fits_left_of left a behind within) left.whole in
    written-next t s l y n m e es left begins ends inside both.0 here _
    (written-each t es (style_after_from s f) (link_after_all l (marks f)) (drop (place_after (a - n) y) y) a (e.range.1 - a) (left_after left a behind cut) here
    (subst (λ i. are_in_turn (plain t) i (ranges_of es) ≡ true) sum first.later) both.1)

-- The plain bytes of what is written.

unstyled-with_each : (t : List ℕ) (bs : List StyledByte) (n : ℕ) (es : List Swap) → unstyled (with_each (new_bytes t) n bs es) ≡ with_each (λ (e : Swap). plain e.text) n (unstyled bs) es
unstyled-with_each t bs n [] = sym (drop-map (λ (c : StyledByte). c.byte) n bs)
unstyled-with_each t bs n (e ∷ es) =
    let byte = λ (c : StyledByte). c.byte in
    let a = e.range.0 in
    map-append byte (slice_range bs n a ++ new_bytes t e) (with_each (new_bytes t) e.range.1 bs es)
    ∙ ap₂ (λ x z. x ++ z)
    (map-append byte (slice_range bs n a) (new_bytes t e)
    ∙ ap₂ (λ x z. x ++ z) (sym (ap (take (a - n)) (drop-map byte n bs) ∙ take-map byte (a - n) (drop n bs))) (unstyled-styled_from (style_at t (a - 1)) e.text))
    (unstyled-with_each t bs e.range.1 es)

-- what is written of all: what is before the first plain byte shows nothing
pub is_replaced_each : (t : List ℕ) (es : List Swap) → are_in_turn (plain t) 0 (ranges_of es) ≡ true → IsTrue (is_whole t) → IsTrue (are_whole es) → IsReplacedEach t es (replaced_each t es)
is_replaced_each t es turn whole whole_es =
    let u = replaced_each t es in
    let f = front 0 t in
    let s = style_at t 0 in
    let l = link_at t 0 in
    let cut = cut_at_place t 0 (omega arith) whole in
    let all = all_left t whole in
    let written = written-each t es s l (rest 0 t) 0 0 (first_left t whole) (first_pen t) turn whole_es in
    let reads_front = subst (λ r. Reads plain_style r [] (kept_of (pieces_of f)) f) (first_style t whole)
    (subst (λ bs. Reads plain_style (style_after_from plain_style f) bs (kept_of (pieces_of f)) f) (styled_before all 0 (omega arith) cut) (reads-itself plain_style f cut.whole_front)) in
    let sees_front = subst (λ k. SeesLinks [] k [] f) (first_link t whole)
    (subst (λ ls. SeesLinks [] (link_after_all [] (marks f)) ls f) (links_before all 0 (omega arith) cut) (sees-itself [] f cut.whole_front)) in
    let reads = reads-append reads_front written.reads in
    let sees = sees-append sees_front written.sees in
    let bytes : styled u ≡ with_each (new_bytes t) 0 (styled t) es = reads.given plain_style refl in
    record {
      styled_bytes = bytes;
      plain_text = sym (unstyled-styled u) ∙ ap unstyled bytes ∙ unstyled-with_each t (styled t) 0 es ∙ ap (λ x. with_each (λ (e : Swap). plain e.text) 0 x es) (unstyled-styled t);
      links = links_in-from u ∙ sees.given;
      whole = reads.whole;
      open_at_end = reads.left plain_style refl;
      link_at_end = sym (link_after_all-none (marks u)) ∙ sees.left;
    }

-- The pieces of a text up to a plain byte, with it.

abbrev byte_pieces : ℕ → List Piece → List Piece
byte_pieces n [] = []
byte_pieces n (Text w ∷ ps) = if nat_lt n (length w) then one_text (take (n + 1) w) else Text w ∷ byte_pieces (n - length w) ps
byte_pieces n (p ∷ ps) = p ∷ byte_pieces n ps

byte_pieces-last : (n : ℕ) (w : List ℕ) (ps : List Piece) → n < length w → byte_pieces n (Text w ∷ ps) ≡ one_text (take (n + 1) w)
byte_pieces-last n w ps last = ap (λ b. if b then one_text (take (n + 1) w) else Text w ∷ byte_pieces (n - length w) ps) (lt-ltb n (length w) last)

byte_pieces-text : (n : ℕ) (w : List ℕ) (ps : List Piece) → length w ≤ n → byte_pieces n (Text w ∷ ps) ≡ Text w ∷ byte_pieces (n - length w) ps
byte_pieces-text n w ps within = ap (λ b. if b then one_text (take (n + 1) w) else Text w ∷ byte_pieces (n - length w) ps) (le-ltb n (length w) within)

byte_are : (n : ℕ) (t : List ℕ) (ps : List Piece) → ArePieces t ps → ArePieces (take (bytes_before n ps + 1) t) (byte_pieces n ps)
byte_are n t [] are = ap (take 1) are
byte_are n t (Text w ∷ ps) are = elim (cases_lt n (length w)) [
  | inl last ↦ (
      let cut : take (n + 1) t ≡ take (n + 1) w = ap (take (n + 1)) are.1 ∙ take-append-le (n + 1) w are.0 (omega arith) in
      rw (bytes_before-last n w ps last, byte_pieces-last n w ps last, cut) (one_text_are (take (n + 1) w) (list_all-parts is_plain_byte (n + 1) w are.2.1).0))
  | inr within ↦ (
      let i = bytes_before (n - length w) ps in
      let sum : length w + i + 1 ≡ length w + (i + 1) = omega arith in
      rw (bytes_before-text n w ps within, byte_pieces-text n w ps within, sum)
      (piece_before t (Text w) are.0 (i + 1) (byte_pieces (n - length w) ps) are.1 are.2 (byte_are (n - length w) are.0 ps are.3)))
]
byte_are n t (p ∷ ps) are =
    let i = bytes_before n ps in
    let sum : length (spelling p) + (i + 1) ≡ length (spelling p) + i + 1 = omega arith in
    subst (λ k. ArePieces (take k t) (p ∷ byte_pieces n ps)) sum (piece_before t p are.0 (i + 1) (byte_pieces n ps) are.1 are.2 (byte_are n are.0 ps are.3))

plain_of-one_text : (w : List ℕ) → plain_of (one_text w) ≡ w
plain_of-one_text [] = refl
plain_of-one_text (b ∷ w) = append-nil (b ∷ w)

plain_of-byte : (n : ℕ) (ps : List Piece) → plain_of (byte_pieces n ps) ≡ take (n + 1) (plain_of ps)
plain_of-byte n [] = sym (take_all (n + 1) [] (omega arith))
plain_of-byte n (Text w ∷ ps) = elim (cases_lt n (length w)) [
  | inl last ↦ ap plain_of (byte_pieces-last n w ps last) ∙ plain_of-one_text (take (n + 1) w) ∙ sym (take-append-le (n + 1) w (plain_of ps) (omega arith))
  | inr within ↦ (
      let size : n + 1 - length w ≡ n - length w + 1 = omega arith in
      ap plain_of (byte_pieces-text n w ps within) ∙ ap (λ v. w ++ v) (plain_of-byte (n - length w) ps)
      ∙ sym (take-append (n + 1) w (plain_of ps) ∙ ap₂ (λ u k. u ++ take k (plain_of ps)) (take_all (n + 1) w (omega arith)) size))
]
plain_of-byte n (p ∷ ps) = plain_of-byte n ps

pub plain-up_to_place : (t : List ℕ) (d : ℕ) → plain (take (place_of d t) t) ≡ take d (plain t)
plain-up_to_place t d = elim (cases_lt 0 d) [
  | inl some ↦ (
      let n = d - 1 in
      let sum : n + 1 ≡ d = omega arith in
      ap (λ k. plain (take k t)) (place_of-later t d some) ∙ ap plain_of (sym (pieces_of-unique _ _ (byte_are n t (pieces_of t) (pieces_are t)))) ∙ plain_of-byte n (pieces_of t) ∙ ap (λ k. take k (plain t)) sum)
  | inr none ↦ (
      let zero_is : d ≡ 0 = omega arith in
      ap (λ k. plain (take k t)) (place_of-front t d zero_is) ∙ (is_cut_after t 0 (offset_of t 0) refl).plain_front ∙ ap (λ k. take k (plain t)) (sym zero_is))
]

-- How far the text is written.

pub without_front-written : (t old mid new part last : List ℕ) (n : ℕ) → mid ≡ old ++ sequences_up_to n (pieces_of part) → new ≡ mid ++ last → IsDivided t n part last → new ≡ old ++ without_front n t
without_front-written t old mid new part last n first second divided =
    second ∙ ap (λ u. u ++ last) first ∙ append_assoc old (sequences_up_to n (pieces_of part)) last
    ∙ ap (λ v. old ++ v) (ap₂ (λ u v. u ++ v) (up_to-all (pieces_of part) n (length-part n divided) ∙ ap sequences divided.front_is) divided.rest_is)

-- what is written and what is made of what is left are all
pub record IsReplacedSoFar (x goal out : List ℕ) (s : Replacing) (es : List Swap) : Type 0 where
  pub made : out ++ made_of_left s es ≡ goal
  pub there : plain s.rest.text.now ≡ drop s.place x
  pub turn : are_in_turn x (s.place + s.len) (ranges_of es) ≡ true
  pub good : no_character_goes_on x (s.place + s.len) ≡ true

pub replaced-begin : (t : List ℕ) (es : List Swap) (old out : List ℕ) (s : Replacing) → IsUtf8 (plain t) → are_in_turn (plain t) 0 (ranges_of es) ≡ true → out ++ made_of_left s es ≡ old ++ replaced_each t es → plain s.rest.text.now ≡ plain t → s.place ≡ 0 → s.len ≡ 0
    → IsReplacedSoFar (plain t) (old ++ replaced_each t es) out s es
replaced-begin t es old out s utf8 turn made is place len =
    let sum : 0 ≡ s.place + s.len = omega (arith, place, len) in
    record {
      made = made;
      there = is ∙ ap (λ k. drop k (plain t)) (sym place);
      turn = subst (λ k. are_in_turn (plain t) k (ranges_of es) ≡ true) sum turn;
      good = subst (λ k. no_character_goes_on (plain t) k ≡ true) sum (no_character_goes_on-boundary (plain t) 0 (IsCharBoundary-start (plain t) utf8));
    }

module _ {x goal out : List ℕ} {s : Replacing} where
  pub replaced-end : {es : List Swap} → IsReplacedSoFar x goal out s es → es ≡ [] → {new : List ℕ} → new ≡ out ++ without_front s.len s.rest.text.now → new ≡ goal
  replaced-end so_far none new_is = new_is ∙ sym (ap (λ qs. out ++ made_of_left s qs) none) ∙ so_far.made

  pub good_last : {es : List Swap} → IsReplacedSoFar x goal out s es → no_character_goes_on (plain s.rest.text.now) s.len ≡ true
  good_last so_far = ap (λ u. no_character_goes_on u s.len) so_far.there ∙ no_character_goes_on-drop x s.place s.len ∙ so_far.good

  module _ {e : Swap} {es qs : List Swap} (so_far : IsReplacedSoFar x goal out s qs) (is : qs ≡ e ∷ es) where
    first : AreFirst x (s.place + s.len) e.range (ranges_of es)
    first = are_first x (s.place + s.len) e.range (ranges_of es) (sym (ap (λ ps. are_in_turn x (s.place + s.len) (ranges_of ps)) is) ∙ so_far.turn)

    pub begins_at : s.place + s.len ≤ e.range.0
    begins_at = first.begins

    pub ends_at : e.range.0 ≤ e.range.1
    ends_at = first.ends

    pub good_place : is_char_boundary (plain s.rest.text.now) (e.range.0 - s.place) ≡ true
    good_place =
        let n = s.place in
        let y = s.rest.text.now in
        let a = e.range.0 in
        let sum : n + (a - n) ≡ a = omega (arith, begins_at) in
        let fits : a - n ≤ length (plain y) = omega (arith, ap length so_far.there, length-drop n x, ends_at, in_turn-within x e.range.1 (ranges_of es) first.later) in
        and_from (nat_le (a - n) (length (plain y))) (no_character_goes_on (plain y) (a - n)) (le-leb (a - n) (length (plain y)) fits)
        (ap (λ u. no_character_goes_on u (a - n)) so_far.there ∙ no_character_goes_on-drop x n (a - n) ∙ ap (no_character_goes_on x) sum ∙ first.good_start)

    -- after one more
    pub replaced-step : {new : List ℕ} {later : Replacing} → new ++ made_of_left later es ≡ out ++ made_of_left s (e ∷ es) → plain later.rest.text.now ≡ drop (e.range.0 - s.place) (plain s.rest.text.now) → later.place ≡ e.range.0 → later.len ≡ e.range.1 - e.range.0
        → IsReplacedSoFar x goal new later es
    replaced-step {new} {later} made left place len =
        let a = e.range.0 in
        let n = s.place in
        let further : n + (a - n) ≡ a = omega (arith, begins_at) in
        let sum : e.range.1 ≡ later.place + later.len = omega (arith, ends_at, place, len) in
        record {
          made = made ∙ ap (λ ps. out ++ made_of_left s ps) (sym is) ∙ so_far.made;
          there = left ∙ ap (drop (a - n)) so_far.there ∙ drop-drop (a - n) n x ∙ ap (λ j. drop j x) further ∙ ap (λ j. drop j x) (sym place);
          turn = subst (λ j. are_in_turn x j (ranges_of es) ≡ true) sum first.later;
          good = ap (no_character_goes_on x) (sym sum) ∙ first.good_end;
        }

-- The texts that are written are UTF-8: if those that are left are, all are.

abbrev pub MakesUtf8 : List Swap → List Swap → Type 0
MakesUtf8 left all = AreUtf8 left → AreUtf8 all

pub utf8-step : (all : List Swap) {left es : List Swap} {e : Swap} → MakesUtf8 left all → left ≡ e ∷ es → IsUtf8 e.text → MakesUtf8 es all
utf8-step all so_far is here = λ later. so_far (subst AreUtf8 (sym is) (here, later))

pub utf8-end : (all : List Swap) {left : List Swap} → MakesUtf8 left all → left ≡ [] → AreUtf8 all
utf8-end all so_far none = so_far (subst AreUtf8 (sym none) tt)

-- One step.

plain-after : (y : List ℕ) (d : ℕ) → d ≤ length (plain y) → plain (drop (place_after d y) y) ≡ drop d (plain y)
plain-after y d fits = elim (cases_lt 0 d) [
  | inl some ↦ ap (λ k. plain (drop k y)) (place_after-later y d some) ∙ plain-after_place y d fits
  | inr none ↦ (
      let zero_is : d ≡ 0 = omega arith in
      ap (λ k. plain (drop k y)) (place_after-once y d zero_is) ∙ ap (λ k. drop k (plain y)) (sym zero_is))
]

plain-up_to : (y : List ℕ) (d : ℕ) → plain (take (place_after d y) y) ≡ take d (plain y)
plain-up_to y d = elim (cases_lt 0 d) [
  | inl some ↦ ap (λ k. plain (take k y)) (place_after-later y d some) ∙ plain-up_to_place y d
  | inr none ↦ (
      let zero_is : d ≡ 0 = omega arith in
      ap (λ k. plain (take k y)) (place_after-once y d zero_is) ∙ ap (λ k. take k (plain y)) (sym zero_is))
]

pub left_at_place : (y : List ℕ) (d : ℕ) → is_char_boundary (plain y) d ≡ true → plain (drop (place_after d y) y) ≡ drop d (plain y)
left_at_place y d good = plain-after y d (leb-true d (length (plain y)) (and_parts (nat_le d (length (plain y))) (no_character_goes_on (plain y) d) good).0)

pub good_before : (y : List ℕ) (m d : ℕ) → is_char_boundary (plain y) d ≡ true → no_character_goes_on (plain y) m ≡ true → no_character_goes_on (plain (take (place_after d y) y)) m ≡ true
good_before y m d place good =
    let z = plain y in
    let fits : d ≤ length z = leb-true d (length z) (and_parts (nat_le d (length z)) (no_character_goes_on z d) place).0 in
    ap (λ u. no_character_goes_on u m) (plain-up_to y d) ∙ elim (cases_lt m d) [
      | inl some ↦ (
          let size : length (take d z) ≡ d = length-take-le d z fits in
          sym (no_character_goes_on-append (take d z) (drop d z) m (omega (arith, size, some))) ∙ ap (λ u. no_character_goes_on u m) (take-append-drop d z) ∙ good)
      | inr past ↦ no_character_goes_on-past (take d z) m (omega (arith, length-take d z, past))
    ]

-- Nothing in place of nothing.

without_front_0 : (y : List ℕ) → without_front 0 y ≡ y
without_front_0 y = ap (λ u. u ++ rest 0 y) (sequences-front_0 y) ∙ take-append-drop (offset_of y 0) y

nothing-from : (s : Rendition) (l : List ℕ) (n : ℕ) (y : List ℕ) (es : List Swap) → IsTrue (swap_nothing es) → replaced_from s l n 0 y es ≡ y
nothing-from s l n y [] none = without_front_0 y
nothing-from s l n y (e ∷ es) none =
    let i = place_after (e.range.0 - n) y in
    let f = take i y in
    let both = and_parts (e.range.0 == e.range.1 && length e.text == 0) (swap_nothing es) none in
    let here = and_parts (e.range.0 == e.range.1) (length e.text == 0) both.0 in
    let same : e.range.0 ≡ e.range.1 = eqb-true e.range.0 e.range.1 here.0 in
    let empty : e.text ≡ [] = nil_from_length e.text (eqb-true (length e.text) 0 here.1) in
    let zero_is : e.range.1 - e.range.0 ≡ 0 = omega (arith, same) in
    let q = style_after_from s f in
    let k = link_after_all l (marks f) in
    ap₂ (λ u v. u ++ v) (ap₂ (λ u v. u ++ v) (without_front_0 f) (ap (put q k) empty) ∙ append-nil f) (ap (λ m. replaced_from q k e.range.0 m (drop i y) es) zero_is ∙ nothing-from q k e.range.0 (drop i y) es both.1)
    ∙ take-append-drop i y

pub replaced-nothing : (t : List ℕ) (es : List Swap) → IsTrue (swap_nothing es) → replaced_each t es ≡ t
replaced-nothing t es none = ap (λ u. front 0 t ++ u) (nothing-from (style_at t 0) (link_at t 0) 0 (rest 0 t) es none) ∙ take-append-drop (offset_of t 0) t

-- in a run, and at its end, the place of a position is the position
pub place_in_run : (t : List ℕ) (run n : ℕ) → run ≤ length t → IsFalse (has_escape (take run t)) → n ≤ run → n ≡ place_after n t
place_in_run t run n within none inside = elim (cases_lt 0 n) [
  | inl some ↦ (
      let sum : n ≡ n - 1 + 1 = omega (arith, some) in
      sum ∙ ap (λ k. k + 1) (offset_in_run t run (n - 1) within none (omega (arith, some, inside))) ∙ sym (place_of-later t n some) ∙ sym (place_after-later t n some))
  | inr first ↦ (
      let zero_is : n ≡ 0 = omega arith in
      zero_is ∙ sym (place_after-once t n zero_is))
]

pub place_past_run : (t : List ℕ) (n run k : ℕ) → run < n → k ≡ place_of n t → k ≡ place_after n t
place_past_run t n run k past is = is ∙ sym (place_after-later t n (omega (arith, past)))

pub good_in_run_or_end : (t : List ℕ) (run n : ℕ) → IsCharBoundary t run → IsFalse (has_escape (take run t)) → n ≤ run → is_char_boundary (plain t) n ≡ true → IsCharBoundary t n
good_in_run_or_end t run n ends none inside good = elim (cases_lt n run) [
  | inl before ↦ good_is_boundary t n (omega (arith, before, ends.0)) (good_in_run t run n ends.0 none before ∙ (and_parts (nat_le n (length (plain t))) (no_character_goes_on (plain t) n) good).1)
  | inr at_end ↦ (
      let same : run ≡ n = omega (arith, inside, at_end) in
      subst (IsCharBoundary t) same ends)
]

-- the front of a plain text is a good position
pub good_front : (t : List ℕ) → IsUtf8 t → is_char_boundary (plain t) 0 ≡ true
good_front t utf8 =
    let utf8_plain = IsUtf8-plain t utf8 in
    and_from (nat_le 0 (length (plain t))) (no_character_goes_on (plain t) 0) (le-leb 0 (length (plain t)) (omega arith)) (no_character_goes_on-boundary (plain t) 0 (IsCharBoundary-start (plain t) utf8_plain))

-- What replacements say, in order.

pub next_swaps : (edits : List Replacement) (i : ℕ) (d : Replacement) → i < length edits → swaps_of (drop i edits) ≡ record { range = (get_or edits i d).range; text = (get_or edits i d).with.now } ∷ swaps_of (drop (i + 1) edits)
next_swaps edits i d below = ap swaps_of (drop_more edits i d below)

pub next_ranges : (edits : List Replacement) (i : ℕ) (d : Replacement) → i < length edits → ranges_of (swaps_of (drop i edits)) ≡ (get_or edits i d).range ∷ ranges_of (swaps_of (drop (i + 1) edits))
next_ranges edits i d below = ap (λ v. ranges_of (swaps_of v)) (drop_more edits i d below)

pub no_swaps : (edits : List Replacement) (i : ℕ) → length edits ≤ i → swaps_of (drop i edits) ≡ []
no_swaps edits i past = ap swaps_of (drop_all i edits past)

pub no_ranges : (edits : List Replacement) (i : ℕ) → length edits ≤ i → ranges_of (swaps_of (drop i edits)) ≡ []
no_ranges edits i past = ap ranges_of (no_swaps edits i past)

pub next_nothing : (edits : List Replacement) (i : ℕ) (d : Replacement) (b : Bool) → i < length edits → b ≡ ((get_or edits i d).range.0 == (get_or edits i d).range.1 && length (get_or edits i d).with.now == 0)
    → swap_nothing (swaps_of (drop i edits)) ≡ (b && swap_nothing (swaps_of (drop (i + 1) edits)))
next_nothing edits i d b below is = ap (λ v. swap_nothing (swaps_of v)) (drop_more edits i d below) ∙ ap (λ a. a && swap_nothing (swaps_of (drop (i + 1) edits))) (sym is)

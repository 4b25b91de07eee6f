-- Where a text is put: the text up to there and what follows it, and what is read of them.
use Rattle.std.proofs.Common.{◌≡◌, ℕ, ◌+◌, ◌-◌, ◌<◌, ◌≤◌, inl, inr, true, false, List, [], ◌∷◌, ◌++◌, length, take, drop, take-add, refl, sym, ◌∙◌, ap, ap₂, subst, arith, IsTrue, length-append, if◌then◌else◌, ◌==◌, nat_le}
use Rattle.std.proofs.lemmas.Bool.{cases_lt, and_parts, and_from, leb-true}
use Rattle.std.proofs.lemmas.Bool.Decides.{nat_tests}
use Rattle.std.proofs.lemmas.List.{take-append-le, take_all, drop_all, drop-drop, length-drop}
use Rattle.std.specs.List.{list_all}
use Rattle.std.specs.Str.{IsCharBoundary}
use Rattle.ansi_items.specs.Bytes.{is_plain_byte}
use Rattle.ansi_items.specs.Pieces.{Piece, Text, Sequence, LoneEscape, ArePieces, pieces_of, after_text}
use Rattle.ansi_items.specs.Sequences.{is_sgr}
use Rattle.ansi_items.specs.Plain.{plain, plain_of, are_whole, is_whole, marks, marks_up_to}
use Rattle.ansi_items.specs.declared.ansitok.Kind.{Kind}
use Rattle.ansi_items.proofs.PieceLemmas.{pieces_are, sequence_front}
use Rattle.ansi_items.proofs.PlainLemmas.{has_escape-bare, plain-bare, is_whole-plain}
use Rattle.ansi_items.proofs.JoinLemmas.{pieces_of-run, plain-run, is_whole-append}
use Rattle.ansi_items.proofs.StepLemmas.{plain_of-mark}
use Rattle.ansi_style.specs.declared.state.rendition.Rendition.{Rendition}
use Rattle.ansi_style.specs.Rendition.{plain_style}
use Rattle.ansi_style.specs.Sgr.{apply}
use Rattle.ansi_style.specs.Reading.{after_marks, style_within, styled_from, style_after_from}
use Rattle.ansi_style.specs.Styled.{styled, style_at, style_after}
use Rattle.ansi_style.proofs.MarkLemmas.{marks-bare, state_by_marks, state_by_marks-before, state_by_marks-text, state_by_marks-mark}
use Rattle.ansi_style.proofs.SpelledLemmas.{styled_from-append, style_after_from-append}
use Rattle.ansi_search.specs.Offsets.{bytes_before, offset_of}
use Rattle.ansi_search.specs.Positions.{no_character_goes_on, is_char_boundary}
use Rattle.ansi_search.proofs.SliceLemmas.{drop-append}
use Rattle.ansi_search.proofs.OffsetLemmas.{IsOverText, IsOverMark, IsOffsetWalk, offset_walk-begin, offset_walk-text, offset_walk-mark, offset_walk-last, offset_walk-boundary, offset_walk-end}
use Rattle.ansi_safe.specs.Links.{opens_link, link_at, link_after}
use Rattle.ansi_safe.proofs.LinkLemmas.{link_of-fold, is_link-sgr}
use Rattle.ansi_restyle.specs.Restyled.{front, rest}
use Rattle.ansi_restyle.specs.Replaced.{place_of}
use Rattle.ansi_restyle.proofs.EmptyLemmas.{offset-rest}
use Rattle.ansi_restyle.proofs.FrontLemmas.{is_whole-front, is_whole-rest, style_after-front, style_after-parts, length-styled_from, plain-rest}
use Rattle.ansi_restyle.proofs.RemovedLemmas.{styled_from-front, styled_from-rest}

pub place_of-front : (t : List ℕ) (a : ℕ) → a ≡ 0 → place_of a t ≡ offset_of t 0
place_of-front t a none = ap (λ n. place_of n t) none

pub place_of-later : (t : List ℕ) (a : ℕ) → 0 < a → place_of a t ≡ offset_of t (a - 1) + 1
place_of-later t a some =
    let later : (a == 0) ≡ false = grind (arith, nat_tests) in
    ap (λ b. if b then offset_of t 0 else offset_of t (a - 1) + 1) later

-- What follows a position of the plain text begins with the plain byte there.

pub record BeginsPlain (u : List ℕ) : Type 0 where
  pub byte : ℕ
  pub after : List ℕ
  pub is : u ≡ byte ∷ after
  pub bare : list_all is_plain_byte (byte ∷ []) ≡ true

begins_plain : (u : List ℕ) (ps : List Piece) → ArePieces u ps → bytes_before 0 ps ≡ 0 → 0 < length (plain_of ps) → BeginsPlain u
begins_plain u [] are none some = absurd (omega (arith, some))
begins_plain u (Text [] ∷ ps) are none some = absurd (are.2.0 refl)
begins_plain u (Text (b ∷ w) ∷ ps) are none some =
    record { byte = b; after = w ++ are.0; is = are.1; bare = and_from (is_plain_byte b) true (and_parts (is_plain_byte b) (list_all is_plain_byte w) are.2.1).0 refl }
begins_plain u (Sequence w ∷ ps) are none some = (let first = sequence_front w are.2 in absurd (omega (arith, none, ap length first.1)))
begins_plain u (LoneEscape ∷ ps) are none some = absurd (omega (arith, none))

pub rest_begins : (t : List ℕ) (n : ℕ) → n < length (plain t) → BeginsPlain (rest n t)
rest_begins t n within =
    let u = rest n t in
    begins_plain u (pieces_of u) (pieces_are u) (offset-rest t n) (omega (arith, ap length (plain-rest t n), length-drop n (plain t), within))

-- One plain byte is a whole text, and changes no style.

pub whole-bare : (v : List ℕ) → list_all is_plain_byte v ≡ true → IsTrue (is_whole v)
whole-bare v bare = ap is_whole (sym (plain-bare v (has_escape-bare v bare))) ∙ is_whole-plain v

pub style_after-bare : (s : Rendition) (v : List ℕ) → list_all is_plain_byte v ≡ true → style_after_from s v ≡ s
style_after-bare s v bare = ap (after_marks s) (marks-bare v (has_escape-bare v bare))

are_whole-after_text : (w : List ℕ) (ps : List Piece) → are_whole (after_text w ps) ≡ are_whole ps
are_whole-after_text w (Text v ∷ ps) = refl
are_whole-after_text w ps = refl

pub take_seam : {A : Type 0} (n : ℕ) (u v : List A) → length u ≡ n → take n (u ++ v) ≡ u
take_seam n u v size = take-append-le n u v (omega (arith, size)) ∙ take_all n u (omega (arith, size))

pub drop_seam : {A : Type 0} (n : ℕ) (u v : List A) → length u ≡ n → drop n (u ++ v) ≡ v
drop_seam n u v size =
    let none : n - length u ≡ 0 = omega (arith, size) in
    drop-append n u v ∙ ap₂ (λ w k. w ++ drop k v) (drop_all n u (omega (arith, size))) none

-- A text in two after the plain byte at the position n.

module _ (t : List ℕ) (n : ℕ) (within : n < length (plain t)) where
  abbrev pub begins : BeginsPlain (rest n t)
  begins = rest_begins t n within

  abbrev pub one : List ℕ
  one = begins.byte ∷ []

  pub up_to_byte : take (offset_of t n + 1) t ≡ front n t ++ one
  up_to_byte = take-add (offset_of t n) 1 t ∙ ap (λ u. front n t ++ take 1 u) begins.is

  pub after_byte : drop (offset_of t n + 1) t ≡ begins.after
  after_byte = sym (drop-drop 1 (offset_of t n) t) ∙ ap (drop 1) begins.is

  both : rest n t ≡ one ++ begins.after
  both = begins.is

  pub plain_after_byte : plain (drop (offset_of t n + 1) t) ≡ drop (n + 1) (plain t)
  plain_after_byte =
      ap plain after_byte ∙ sym (ap (drop 1) (sym (plain-rest t n) ∙ ap plain both ∙ plain-run one begins.after begins.bare))
      ∙ drop-drop 1 n (plain t)

  module _ (whole : IsTrue (is_whole t)) where
    abbrev pub s : Rendition
    s = style_within plain_style t n

    whole_one : IsTrue (is_whole one)
    whole_one = whole-bare one begins.bare

    whole_after : IsTrue (is_whole begins.after)
    whole_after =
        sym (are_whole-after_text one (pieces_of begins.after)) ∙ sym (ap are_whole (pieces_of-run one begins.after (λ e. cc) begins.bare))
        ∙ sym (ap is_whole both) ∙ is_whole-rest t n whole

    bytes_rest : styled_from s (rest n t) ≡ styled_from s one ++ styled_from s begins.after
    bytes_rest =
        ap (styled_from s) both ∙ styled_from-append s one begins.after whole_one whole_after
        ∙ ap (λ r. styled_from s one ++ styled_from r begins.after) (style_after-bare s one begins.bare)

    is_rest : styled_from s one ++ styled_from s begins.after ≡ drop n (styled t)
    is_rest = sym bytes_rest ∙ styled_from-rest plain_style t n whole

    size_one : length (styled_from s one) ≡ 1
    size_one = length-styled_from s one ∙ ap length (plain-bare one (has_escape-bare one begins.bare))

    pub whole_up_to_byte : IsTrue (is_whole (front n t ++ one))
    whole_up_to_byte = is_whole-append (front n t) one (is_whole-front t n whole) whole_one

    pub whole_after_byte : IsTrue (is_whole begins.after)
    whole_after_byte = whole_after

    pub style_up_to_byte : style_after_from plain_style (front n t ++ one) ≡ s
    style_up_to_byte =
        style_after_from-append plain_style (front n t) one (is_whole-front t n whole) whole_one
        ∙ style_after-bare (style_after_from plain_style (front n t)) one begins.bare ∙ style_after-front plain_style t n

    pub styled_up_to_byte : styled (front n t ++ one) ≡ take (n + 1) (styled t)
    styled_up_to_byte =
        styled_from-append plain_style (front n t) one (is_whole-front t n whole) whole_one
        ∙ ap₂ (λ u v. u ++ v) (styled_from-front plain_style t n whole)
        (ap (λ r. styled_from r one) (style_after-front plain_style t n)
        ∙ sym (ap (take 1) (sym is_rest) ∙ take_seam 1 (styled_from s one) (styled_from s begins.after) size_one))
        ∙ sym (take-add n 1 (styled t))

    pub styled_after_byte : styled_from s begins.after ≡ drop (n + 1) (styled t)
    styled_after_byte =
        sym (ap (drop 1) (sym is_rest) ∙ drop_seam 1 (styled_from s one) (styled_from s begins.after) size_one) ∙ drop-drop 1 n (styled t)

    pub left_after_byte : style_after t ≡ style_after_from s begins.after
    left_after_byte =
        style_after-parts plain_style t n whole ∙ ap (style_after_from s) both ∙ style_after_from-append s one begins.after whole_one whole_after
        ∙ ap (λ r. style_after_from r begins.after) (style_after-bare s one begins.bare)

-- So it is in two at a place.

pub plain-after_place : (t : List ℕ) (a : ℕ) → a ≤ length (plain t) → plain (drop (place_of a t) t) ≡ drop a (plain t)
plain-after_place t a within = elim (cases_lt 0 a) [
  | inl some ↦ (
      let sum : a - 1 + 1 ≡ a = omega arith in
      ap (λ k. plain (drop k t)) (place_of-later t a some) ∙ plain_after_byte t (a - 1) (omega arith) ∙ ap (λ k. drop k (plain t)) sum)
  | inr none ↦ (
      let zero_is : a ≡ 0 = omega arith in
      ap (λ k. plain (drop k t)) (place_of-front t a zero_is) ∙ plain-rest t 0 ∙ ap (λ k. drop k (plain t)) (sym zero_is))
]

-- the text f up to the place at a, and g after it, and what is read of both
pub record IsPlace (t : List ℕ) (a : ℕ) (f g : List ℕ) : Type 0 where
  pub whole_front : IsTrue (is_whole f)
  pub whole_after : IsTrue (is_whole g)
  pub style : style_after_from plain_style f ≡ style_at t (a - 1)
  pub styled_front : styled f ≡ take a (styled t)
  pub styled_after : styled_from (style_at t (a - 1)) g ≡ drop a (styled t)
  pub left : style_after t ≡ style_after_from (style_at t (a - 1)) g

at_front : (t : List ℕ) → IsTrue (is_whole t) → IsPlace t 0 (front 0 t) (rest 0 t)
at_front t whole = record {
  whole_front = is_whole-front t 0 whole;
  whole_after = is_whole-rest t 0 whole;
  style = style_after-front plain_style t 0;
  styled_front = styled_from-front plain_style t 0 whole;
  styled_after = styled_from-rest plain_style t 0 whole;
  left = style_after-parts plain_style t 0 whole;
}

at_byte : (t : List ℕ) (a : ℕ) → 0 < a → a ≤ length (plain t) → IsTrue (is_whole t) → IsPlace t a (take (offset_of t (a - 1) + 1) t) (drop (offset_of t (a - 1) + 1) t)
at_byte t a some within whole =
    let n = a - 1 in
    let inside : n < length (plain t) = omega arith in
    let sum : n + 1 ≡ a = omega arith in
    rw (up_to_byte t n inside, after_byte t n inside) (record {
      whole_front = whole_up_to_byte t n inside whole;
      whole_after = whole_after_byte t n inside whole;
      style = style_up_to_byte t n inside whole;
      styled_front = styled_up_to_byte t n inside whole ∙ ap (λ k. take k (styled t)) sum;
      styled_after = styled_after_byte t n inside whole ∙ ap (λ k. drop k (styled t)) sum;
      left = left_after_byte t n inside whole;
    })

pub is_place : (t : List ℕ) (a : ℕ) → a ≤ length (plain t) → IsTrue (is_whole t) → IsPlace t a (take (place_of a t) t) (drop (place_of a t) t)
is_place t a within whole = elim (cases_lt 0 a) [
  | inl some ↦ subst (λ k. IsPlace t a (take k t) (drop k t)) (sym (place_of-later t a some)) (at_byte t a some within whole)
  | inr none ↦ (
      let zero_is : 0 ≡ a = omega arith in
      subst (λ n. IsPlace t n (take (place_of n t) t) (drop (place_of n t) t)) zero_is (at_front t whole))
]

-- How far a walk to the place has come.

pub record IsPlaceWalk (t : List ℕ) (a passed remaining : ℕ) (style : Rendition) (link : List ℕ) (ps : List Piece) : Type 0 where
  pub here : IsOffsetWalk t a plain_style passed remaining style ps
  pub before : IsOffsetWalk t (a - 1) plain_style passed (remaining - 1) style ps
  pub linked : state_by_marks link_after link ps (remaining - 1) ≡ link_at t (a - 1)
  pub within : remaining ≤ length (plain_of ps)
  pub some : 0 < a → 0 < remaining
  pub few : remaining ≤ a

boundary_parts : (x : List ℕ) (n : ℕ) → is_char_boundary x n ≡ true → (n ≤ length x) × IsTrue (no_character_goes_on x n)
boundary_parts x n is = (let both = and_parts (nat_le n (length x)) (no_character_goes_on x n) is in (leb-true n (length x) both.0, both.1))

pub place_walk-begin : (t : List ℕ) (a : ℕ) (s : Rendition) → is_char_boundary (plain t) a ≡ true → s ≡ plain_style → IsPlaceWalk t a 0 a s [] (pieces_of t)
place_walk-begin t a s is plain_is = subst (λ r. IsPlaceWalk t a 0 a r [] (pieces_of t)) (sym plain_is) (record {
  here = offset_walk-begin t a plain_style;
  before = offset_walk-begin t (a - 1) plain_style;
  linked = sym (link_of-fold (marks_up_to (a - 1) (marks t)));
  within = (boundary_parts (plain t) a is).0;
  some = λ is. is;
  few = omega arith;
})

pub place_walk-text : {t : List ℕ} {a passed at remaining next : ℕ} {style : Rendition} {link w : List ℕ} {old ps : List Piece} → IsPlaceWalk t a passed remaining style link old → IsOverText t w passed at old ps
    → length w < remaining → next ≡ remaining - length w → IsPlaceWalk t a at next style link ps
place_walk-text {remaining = remaining} {next = next} {link = link} {w = w} {ps = ps} walk over far next_is =
    let sum : length w + (next - 1) ≡ remaining - 1 = omega (arith, far, next_is) in
    record {
      here = offset_walk-text walk.here over (omega (arith, far)) next_is;
      before = offset_walk-text walk.before over (omega (arith, far)) (omega (arith, next_is));
      linked = sym (state_by_marks-text link_after link w ps (next - 1)) ∙ ap₂ (λ qs i. state_by_marks link_after link qs i) (sym over.first) sum ∙ walk.linked;
      within = omega (arith, walk.within, next_is, ap (λ qs. length (plain_of qs)) over.first, length-append w (plain_of ps));
      some = λ _. omega (arith, far, next_is);
      few = omega (arith, next_is, walk.few);
    }

pub place_walk-mark : {t : List ℕ} {a passed at remaining : ℕ} {style next : Rendition} {link opened : List ℕ} {kind : Kind} {w : List ℕ} {old ps : List Piece} → IsPlaceWalk t a passed remaining style link old → IsOverMark kind t w passed at old ps
    → next ≡ apply style w → opened ≡ link_after link w → IsPlaceWalk t a at remaining next opened ps
place_walk-mark {remaining = remaining} {link = link} {ps = ps} walk over next_is opened_is =
    let mark = over.first.mark in
    record {
      here = offset_walk-mark walk.here over next_is;
      before = offset_walk-mark walk.before over next_is;
      linked =
          ap (λ l. state_by_marks link_after l ps (remaining - 1)) (opened_is ∙ ap (link_after link) (sym over.first.bytes))
          ∙ sym (state_by_marks-mark link_after link mark ps (remaining - 1) over.first.is_mark)
          ∙ ap (λ qs. state_by_marks link_after link qs (remaining - 1)) (sym over.first.pieces) ∙ walk.linked;
      within = omega (arith, walk.within, ap (λ qs. length (plain_of qs)) over.first.pieces, ap length (plain_of-mark mark ps over.first.is_mark));
      some = walk.some;
      few = walk.few;
    }

-- an SGR leaves the link as it is
pub link-sgr : (link w : List ℕ) → is_sgr w ≡ true → link ≡ link_after link w
link-sgr link w is = sym (ap (λ b. if b then (if opens_link w then w else []) else link) (is_link-sgr w is))

-- the place is in the text that comes next, or right after it
pub place_walk-last : {t : List ℕ} {a passed at remaining i : ℕ} {style : Rendition} {link w : List ℕ} {old ps : List Piece} → IsPlaceWalk t a passed remaining style link old → IsOverText t w passed at old ps
    → remaining ≤ length w → passed < at → i ≡ passed + remaining → (i ≡ place_of a t) × (style ≡ style_at t (a - 1)) × (link ≡ link_at t (a - 1))
place_walk-last {t} {a} {passed} {at} {remaining} {i} {style} {link} {w} {old} {ps} walk over last forward is =
    let inside : remaining - 1 < length w = omega (arith, over.count, forward, last) in
    let found = offset_walk-last walk.before over inside in (
      elim (cases_lt 0 a) [
        | inl some ↦ omega (arith, is, found.0, place_of-later t a some, walk.some some)
        | inr none ↦ (
            let zero_is : a ≡ 0 = omega arith in
            let first = offset_walk-last walk.here over (omega (arith, walk.few, inside)) in
            is ∙ first.0 ∙ ap (offset_of t) zero_is ∙ sym (place_of-front t a zero_is))
      ],
      found.1,
      sym (ap (λ qs. state_by_marks link_after link qs (remaining - 1)) over.first ∙ state_by_marks-before link_after link w ps (remaining - 1) inside) ∙ walk.linked,
    )

pub place_walk-boundary : {t : List ℕ} {a passed at remaining i : ℕ} {style : Rendition} {link w : List ℕ} {old ps : List Piece} → IsPlaceWalk t a passed remaining style link old → IsOverText t w passed at old ps
    → remaining ≤ length w → i ≡ passed + remaining → is_char_boundary (plain t) a ≡ true → IsCharBoundary t at → IsCharBoundary t i
place_walk-boundary {t} {a} {passed} {at} {remaining} {i} {style} {link} {w} walk over last is good end = elim (cases_lt remaining (length w)) [
  | inl inside ↦ offset_walk-boundary walk.here over inside is (boundary_parts (plain t) a good).1
  | inr all ↦ (
      let at_end : at ≡ i = omega (arith, is, last, all, over.count) in
      subst (IsCharBoundary t) at_end end)
]

-- there is no plain byte, and the place is at the end
pub place_walk-end : {t : List ℕ} {a passed remaining : ℕ} {style : Rendition} {link : List ℕ} {old : List Piece} → IsPlaceWalk t a passed remaining style link old → old ≡ []
    → (passed ≡ place_of a t) × (style ≡ style_at t (a - 1)) × (link ≡ link_at t (a - 1))
place_walk-end {t} {a} {passed} {remaining} {style} {link} walk none =
    let out : remaining ≡ 0 = omega (arith, walk.within, ap (λ qs. length (plain_of qs)) none) in
    let here = offset_walk-end walk.here none in
    let before = offset_walk-end walk.before none in
    let zero_is : a ≡ 0 = elim (cases_lt 0 a) [ inl some ↦ absurd (omega (arith, walk.some some, out)) | inr front ↦ omega arith ] in (
      here.0 ∙ ap (offset_of t) zero_is ∙ sym (place_of-front t a zero_is),
      before.2,
      sym (ap (λ qs. state_by_marks link_after link qs (remaining - 1)) none) ∙ walk.linked,
    )

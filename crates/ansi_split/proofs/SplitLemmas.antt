-- The parts that a split gives: those of the text, each by its index; and a part that is written or borrowed.
use Rattle.ansi_style.specs.Written.{close}
use Rattle.ansi_split.proofs.Common.{◌≡◌, Bool, unwrap_or, ℕ, zero, suc, ◌+◌, ◌-◌, ◌≤◌, take, or_parts, take-append-drop, length-drop, nat_tests, true, false, not, ◌&&◌, ◌||◌, ◌==◌, List, [], ◌∷◌, ◌++◌, length, map, drop, Option, Some, None, option_map, refl, sym, ◌∙◌, ap, ap₂, arith, IsTrue, IsFalse, if◌then◌else◌, slice_get, append-nil, eqb-true, eq-eqb, ne_eqb, cond_both, or_from, and_parts, and_from, and-false, or-true, none-some, same_Some, drop_all, list_any-append, range_with_len, list_all, escape, Piece, Text, ArePieces, pieces_of, Mark, plain, marks_of, marks, marks_up_to, has_escape, Rendition, plain_style, has_any, start, close_if_any, style_of, style_at, parts, end_before, carried, part, all_parts, part_from, source_len, is_part_borrowed, CarriedPart, split_part, split_parts, parts_from, parts_left, span_part, span_text, pieces_are, has_escape-bare, plain-bare, slice_range-past, mark_further_on, marks-bare, marks_of-text, marks_of-mark, marks_up_to-marks_past, interleaved-bare, start-unset, close_if_any-unset}
use Rattle.std.proofs.lemmas.Bool.{true≢false}
use Rattle.ansi_split.proofs.IntervalLemmas.{end_before_index, end_before_index-suc, end_before_index-none}
use Rattle.ansi_split.proofs.PartTextLemmas.{length-parts, all_parts-over}
use Rattle.ansi_split.proofs.SpanLemmas.{own-whole}

-- What a split has left at first are the parts of the text.

pub parts_left-begin : (t p : List ℕ) → parts_left plain_style t p 0 0 ≡ parts_from plain_style t None (parts (plain t) p)
unfolding parts_left
parts_left-begin t p = refl

pub bytes-parts_left : (t p : List ℕ) → map (λ (q : CarriedPart). q.bytes) (parts_left plain_style t p 0 0) ≡ all_parts t p
bytes-parts_left t p = ap (map (λ (q : CarriedPart). q.bytes)) (parts_left-begin t p) ∙ sym (all_parts-over t p)

length-parts_from : (c : Rendition) (t : List ℕ) (before : Option ℕ) (is : List (ℕ × ℕ)) → length (parts_from c t before is) ≡ length is
length-parts_from c t before [] = refl
length-parts_from c t before (i ∷ is) = ap suc (length-parts_from c t (Some i.1) is)

pub length-parts_left : (t p : List ℕ) → length (parts_left plain_style t p 0 0) ≤ length (plain t) + 2
length-parts_left t p = omega (arith, ap length (parts_left-begin t p) ∙ length-parts_from plain_style t None (parts (plain t) p), length-parts (plain t) p)

-- By index.

slice_get-parts_from : (c : Rendition) (t : List ℕ) (before : Option ℕ) (is : List (ℕ × ℕ)) (k : ℕ) → slice_get (parts_from c t before is) k ≡ option_map (part_from c t (end_before_index before is k)) (slice_get is k)
slice_get-parts_from c t before [] k = refl
slice_get-parts_from c t before (i ∷ is) zero = refl
slice_get-parts_from c t before (i ∷ is) (suc k) = grind (arith, end_before_index-suc, slice_get-parts_from c t (Some i.1) is k)

slice_get-parts_left : (t p : List ℕ) (k : ℕ)
    → slice_get (parts_left plain_style t p 0 0) k ≡ option_map (part_from plain_style t (end_before (parts (plain t) p) k)) (slice_get (parts (plain t) p) k)
slice_get-parts_left t p k =
    let is = parts (plain t) p in
    ap (λ qs. slice_get qs k) (parts_left-begin t p) ∙ slice_get-parts_from plain_style t None is k
    ∙ ap (λ b. option_map (part_from plain_style t b) (slice_get is k)) (end_before_index-none is k)

-- Each part of a text without ESC is a borrow.

pub style_at-bare : (t : List ℕ) (i : ℕ) → IsFalse (has_escape t) → style_at t i ≡ plain_style
style_at-bare t i none = ap (λ ms. style_of (marks_up_to i ms)) (marks-bare t none)

pub carried-bare : (t : List ℕ) (before : Option ℕ) → IsFalse (has_escape t) → carried plain_style t before ≡ plain_style
carried-bare t None none = refl
carried-bare t (Some e) none = style_at-bare t e none

borrowed-bare : (t : List ℕ) (before : Option ℕ) (i : ℕ × ℕ) → IsFalse (has_escape t) → (part_from plain_style t before i).borrowed ≡ true
unfolding part_from
borrowed-bare t before i none = grind (arith, carried-bare, marks-bare, or-true)

bare_are_borrowed : (t : List ℕ) (before : Option ℕ) (is : List (ℕ × ℕ)) → IsFalse (has_escape t) → list_all (λ (q : CarriedPart). q.borrowed) (parts_from plain_style t before is) ≡ true
bare_are_borrowed t before [] none = refl
bare_are_borrowed t before (i ∷ is) none = grind (arith, and_from, borrowed-bare, bare_are_borrowed t (Some i.1) is none)

pub parts_left-bare : (t p : List ℕ) → IsFalse (has_escape t) → IsTrue (list_all (λ (q : CarriedPart). q.borrowed) (parts_left plain_style t p 0 0))
parts_left-bare t p none = ap (list_all (λ (q : CarriedPart). q.borrowed)) (parts_left-begin t p) ∙ bare_are_borrowed t None (parts (plain t) p) none

-- A text without marks has no ESC.

no_escape_after : (t : List ℕ) (ps : List Piece) → ArePieces t ps → marks_of ps ≡ [] → has_escape t ≡ false
no_escape_after t [] are none = ap has_escape are
no_escape_after t (Text w ∷ ps) are none =
    ap has_escape are.1 ∙ list_any-append (λ b. b == escape) w are.0
    ∙ or_from _ _ (has_escape-bare w are.2.1) (no_escape_after are.0 ps are.3 (no_marks (marks_of ps) (sym (marks_of-text w ps) ∙ none)))
  where
    no_marks : (ms : List Mark) → map (mark_further_on (length w)) ms ≡ [] → ms ≡ []
    no_marks [] none = refl
    no_marks (m ∷ ms) none = absurd (cc none)
no_escape_after t (p ∷ ps) are none = (let mark = sym (marks_of-mark p ps refl) ∙ none in absurd (cc mark))

pub escape_is_marked : (t : List ℕ) → has_escape t ≡ true → (length (marks t) == 0) ≡ false
escape_is_marked t some = by_marks (marks t) (λ none. no_escape_after t (pieces_of t) (pieces_are t) none)
  where
    by_marks : (ms : List Mark) → (ms ≡ [] → has_escape t ≡ false) → (length ms == 0) ≡ false
    by_marks [] bare = absurd (true≢false (sym some ∙ bare refl))
    by_marks (m ∷ ms) bare = ne_eqb (length (m ∷ ms)) 0 (λ e. omega (arith, e))

-- A part that is all of a text but its first bytes: whether it is a borrow, and what is written if it isn't.

span_part-borrowed : (c : Rendition) (t : List ℕ) (skip : ℕ) → (span_part c t skip).borrowed ≡ (length (marks t) == 0 && (skip == length (plain t) || not (has_any c)))
unfolding part_from
span_part-borrowed c t skip = ap (λ (own : List Mark). length own == 0 && (skip == length (plain t) || not (has_any c))) (own-whole t)

pub bytes-owned : (c : Rendition) (t : List ℕ) (skip : ℕ) → (span_part c t skip).borrowed ≡ false → (span_part c t skip).bytes ≡ span_text c t skip
unfolding part_from span_text
bytes-owned c t skip owned = grind (arith, own-whole, span_part-borrowed, true≢false, marks_up_to-marks_past)

-- It is no borrow if it has a sequence, or if it isn't empty and a style is carried,

pub owned-escape : (c : Rendition) (t : List ℕ) (skip : ℕ) → has_escape t ≡ true → (span_part c t skip).borrowed ≡ false
owned-escape c t skip some = span_part-borrowed c t skip ∙ ap (λ b. b && (skip == length (plain t) || not (has_any c))) (escape_is_marked t some)

pub owned-styled : (c : Rendition) (t : List ℕ) (skip : ℕ) → has_escape t ≡ false → (skip == length t) ≡ false → has_any c ≡ true → (span_part c t skip).borrowed ≡ false
owned-styled c t skip none filled any = grind (arith, and-false, plain-bare, span_part-borrowed)

-- and else it is a slice of the text.

pub record IsBare (c : Rendition) (t : List ℕ) (skip : ℕ) : Type 0 where
  pub bytes : (span_part c t skip).bytes ≡ drop skip t
  pub borrowed : (span_part c t skip).borrowed ≡ true

bare_part : (c : Rendition) (t : List ℕ) (skip : ℕ) → has_escape t ≡ false → (span_part c t skip).bytes ≡ (if skip == length t && true then [] else start c ++ drop skip t ++ close_if_any c)
unfolding part_from
bare_part c t skip none = grind (arith, marks-bare, plain-bare, interleaved-bare, slice_range-past)

-- without the bytes that are left out, it is the same part
pub span_part-drop : (c : Rendition) (t : List ℕ) (skip : ℕ) → has_escape t ≡ false → skip ≤ length t → span_part c t skip ≡ span_part c (drop skip t) 0
unfolding part_from
span_part-drop c t skip none inside =
    let none_after : has_escape (drop skip t) ≡ false = (or_parts (has_escape (take skip t)) (has_escape (drop skip t)) (sym (list_any-append (λ b. b == escape) (take skip t) (drop skip t)) ∙ ap has_escape (take-append-drop skip t) ∙ none)).1 in
    let size : length (drop skip t) ≡ length t - skip = length-drop skip t in
    let same : (skip == length t) ≡ (0 == length (drop skip t)) = grind (arith, nat_tests) in
    grind (arith, marks-bare, plain-bare, interleaved-bare, slice_range-past)

pub bare-empty : (c : Rendition) (t : List ℕ) (skip : ℕ) → has_escape t ≡ false → skip ≡ length t → IsBare c t skip
bare-empty c t skip none end = grind (arith, bare_part, drop_all, eq-eqb, marks-bare, plain-bare, span_part-borrowed)

pub bare-unstyled : (c : Rendition) (t : List ℕ) (skip : ℕ) → has_escape t ≡ false → skip ≤ length t → has_any c ≡ false → IsBare c t skip
bare-unstyled c t skip none inside unset =
    record {
      bytes = bare_part c t skip none
          ∙ cond_both (skip == length t && true) [] (start c ++ drop skip t ++ close_if_any c) (λ w. w ≡ drop skip t)
          (λ empty. sym (drop_all skip t (omega (arith, eqb-true skip (length t) (and_parts (skip == length t) true empty).0))))
          (λ some. ap₂ (λ u v. u ++ drop skip t ++ v) (start-unset c unset) (close_if_any-unset c unset) ∙ append-nil (drop skip t));
      borrowed = span_part-borrowed c t skip ∙ ap₂ (λ (ms : List Mark) b. length ms == 0 && (skip == length (plain t) || not b)) (marks-bare t none) unset
          ∙ or-true (skip == length (plain t));
    }

-- If a style is carried into it, it is between the start and the close of that.
pub bytes-styled : (c : Rendition) (t : List ℕ) → has_escape t ≡ false → (0 == length t) ≡ false → has_any c ≡ true → (span_part c t 0).bytes ≡ start c ++ t ++ close c
bytes-styled c t none filled any =
    bare_part c t 0 none ∙ ap (λ b. if b && true then [] else start c ++ t ++ close_if_any c) filled ∙ ap (λ b. start c ++ t ++ (if b then close c else [])) any

-- The part of an index.

pub record IsPartAt (t p : List ℕ) (k : ℕ) (q : CarriedPart) : Type 0 where
  pub interval : ℕ × ℕ
  pub found : slice_get (parts (plain t) p) k ≡ Some interval
  pub bytes : part t p k ≡ Some q.bytes
  pub borrowed : is_part_borrowed t p k ≡ q.borrowed
  pub source_len : source_len t p k ≡ q.source_len
  pub bare : IsFalse (has_escape t) → q.borrowed ≡ true

pub part_at : (t p : List ℕ) (k : ℕ) (q : CarriedPart) → slice_get (parts_left plain_style t p 0 0) k ≡ Some q → IsPartAt t p k q
part_at t p k q at = grind (arith, borrowed-bare, none-some, same_Some, slice_get-parts_left)

pub no_part_at : (t p : List ℕ) (k : ℕ) → slice_get (parts_left plain_style t p 0 0) k ≡ None → slice_get (parts (plain t) p) k ≡ None
no_part_at t p k none = grind (arith, none-some, slice_get-parts_left)

-- The parts left at first are all of them.

-- a list is what h gives for each index, from a on, if h gives each element for its index
by_index : {X : Type 0} (h : ℕ → X) (xs : List X) (a : ℕ) → ((j : ℕ) (x : X) → slice_get xs j ≡ Some x → h (a + j) ≡ x) → xs ≡ map h (range_with_len a (length xs))
by_index h [] a gives = refl
by_index h (x ∷ xs) a gives =
    let same : a ≡ a + 0 = omega arith in
    let next : (j : ℕ) → a + 1 + j ≡ a + suc j = λ j. omega arith in
    ap₂ (λ b bs. b ∷ bs) (sym (ap h same ∙ gives 0 x refl)) (by_index h xs (a + 1) (λ j y at. ap h (next j) ∙ gives (suc j) y at))

split_part-at : (t p : List ℕ) (k : ℕ) (q : CarriedPart) → slice_get (parts_left plain_style t p 0 0) k ≡ Some q → split_part t p k ≡ q
split_part-at t p k q at =
    let is = part_at t p k q at in
    let made : Option (List ℕ) → Bool → ℕ → CarriedPart = λ bytes borrowed source_len. record { bytes = unwrap_or bytes []; borrowed = borrowed; source_len = source_len } in
    ap₂ (λ bytes borrowed. made bytes borrowed (source_len t p k)) is.bytes is.borrowed ∙ ap (made (Some q.bytes) q.borrowed) is.source_len

pub parts_left-parts : (t p : List ℕ) → parts_left plain_style t p 0 0 ≡ split_parts t p
parts_left-parts t p =
    let first : (j : ℕ) → 0 + j ≡ j = λ j. omega arith in
    by_index (split_part t p) (parts_left plain_style t p 0 0) 0 (λ j q at. ap (split_part t p) (first j) ∙ split_part-at t p j q at)
    ∙ ap (λ n. map (split_part t p) (range_with_len 0 n)) (ap length (parts_left-begin t p) ∙ length-parts_from plain_style t None (parts (plain t) p))

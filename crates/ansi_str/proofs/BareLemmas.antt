-- For a text without ESC each call returns std's slice.
use Rattle.ansi_str.proofs.Common.{◌≡◌, ◌≢◌, ℕ, ◌-◌, min, Bool, true, false, ◌&&◌, List, [], ◌∷◌, ◌++◌, map, take, drop, length, Option, Some, None, option_map, is_some, refl, sym, ◌∙◌, ap, subst, arith, IsTrue, IsFalse, slice_range, slice_get, nat_eq, append-nil, if◌then◌else◌, IfSome, option_and_then, unwrap_or, starts_with, ends_with, encode_utf8, IsUtf8, chars, trim, option_map_or, map-id, take_min, drop_min, and_parts, and_from, eqb-true, plain, has_escape, is_whole, styled, unstyled, cut, left_side, right_side, kept, without_prefix, without_suffix, trim_interval, trimmed, parts, part_over, part_from, end_before, part, all_parts, Change, interval_of, meaning, changed_text, edited_by, edited, gives_borrow, stay_borrowed, slice_range-none, slice_range-past, slice_range-min, unstyled-styled, slice_range-trim_interval, kept-bare, plain-kept, plain-without_prefix, plain-without_suffix, parts_are_split, slices_over-parts-empty, map-all_parts}
use Rattle.std.specs.Str.Pattern.{FindsTextPrefix, FindsTextSuffix, StripsPrefix, StripsSuffix}
use Rattle.ansi_split.specs.StdSplit.{AreSplit, slices_over}
use Rattle.ansi_items.proofs.PlainLemmas.{plain-bare, has_escape-plain, is_whole-plain}
use Rattle.ansi_style.proofs.MarkLemmas.{marks-bare}
use Rattle.ansi_slice.proofs.InterleavedLemmas.{interleaved-bare}
use Rattle.ansi_slice.proofs.CutLemmas.{cut_up_to-bare}
use Rattle.ansi_slice.proofs.SideLemmas.{left_side-bare, right_side-bare}
use Rattle.ansi_split.proofs.SplitLemmas.{style_at-bare, carried-bare}
use Rattle.ansi_str.proofs.ChangeLemmas.{edited_by-part}
use Rattle.ansi_str.proofs.EditLemmas.{edited_is_slice}

pub is_whole-bare : (t : List ℕ) → IsFalse (has_escape t) → IsTrue (is_whole t)
is_whole-bare t none = ap is_whole (sym (plain-bare t none)) ∙ is_whole-plain t

-- a slice of it has no ESC either, for it is a plain text
has_escape-slice_range : (t : List ℕ) (a b : ℕ) → IsFalse (has_escape t) → IsFalse (has_escape (slice_range t a b))
has_escape-slice_range t a b none =
    ap has_escape (ap (λ x. slice_range x a b) (sym (plain-bare t none)) ∙ sym (plain-kept t a b (is_whole-bare t none))) ∙ has_escape-plain (kept t a b)

-- Cuts and sides.

cut-bare : (t : List ℕ) (s : ℕ) (e : Option ℕ) → IsFalse (has_escape t) → cut t s e ≡ slice_range t s (unwrap_or e (length t))
unfolding cut
cut-bare t s e none =
    cut_up_to-bare t s (unwrap_or e (length (plain t))) none ∙ ap (λ x. slice_range t s (unwrap_or e (length x))) (plain-bare t none)

-- the same if a position past the end counts as the end

pub cut_inside-bare : (t : List ℕ) (s : ℕ) (e : Option ℕ) → IsFalse (has_escape t) → cut t s e ≡ slice_range t (min s (length t)) (min (unwrap_or e (length t)) (length t))
cut_inside-bare t s e none = cut-bare t s e none ∙ sym (slice_range-min t s (unwrap_or e (length t)))

pub left_inside-bare : (t : List ℕ) (mid : ℕ) → IsFalse (has_escape t) → left_side t mid ≡ take (min mid (length t)) t
left_inside-bare t mid none = left_side-bare t mid none ∙ sym (take_min mid t)

pub right_inside-bare : (t : List ℕ) (mid : ℕ) → IsFalse (has_escape t) → right_side t mid ≡ drop (min mid (length t)) t
right_inside-bare t mid none = right_side-bare t mid none ∙ sym (drop_min mid t)

-- What is kept.

trimmed-slice : (t : List ℕ) → IsFalse (has_escape t) → trimmed t ≡ slice_range t (trim_interval t).0 (trim_interval t).1
trimmed-slice t none = grind (arith, kept-bare, plain-bare)

pub trimmed-bare : (t : List ℕ) → IsUtf8 t → IsFalse (has_escape t) → trimmed t ≡ trim t
trimmed-bare t utf8 none = trimmed-slice t none ∙ slice_range-trim_interval t utf8

plain-kept_bare : (t : List ℕ) (a b : ℕ) → IsFalse (has_escape t) → plain (kept t a b) ≡ kept t a b
plain-kept_bare t a b none = plain-bare (kept t a b) (ap has_escape (kept-bare t a b none) ∙ has_escape-slice_range t a b none)

pub without_prefix-bare : (t p : List ℕ) → IsUtf8 t → IsUtf8 p → IsFalse (has_escape t) → IsTrue (starts_with nat_eq t p) → StripsPrefix (FindsTextPrefix p) t (without_prefix t p)
without_prefix-bare t p utf8_t utf8_p none begins =
    let x = plain t in
    let is = plain-bare t none in
    let strips = plain-without_prefix t p utf8_t utf8_p (is_whole-bare t none) (subst (λ x. IsTrue (starts_with nat_eq x p)) (sym is) begins) in
    subst (λ u. StripsPrefix (FindsTextPrefix p) t u) (plain-kept_bare t (length p) (length x) none)
    (subst (λ x. StripsPrefix (FindsTextPrefix p) x (plain (without_prefix t p))) is strips)

pub without_suffix-bare : (t p : List ℕ) → IsUtf8 p → IsFalse (has_escape t) → IsTrue (ends_with nat_eq t p) → StripsSuffix (FindsTextSuffix p) t (without_suffix t p)
without_suffix-bare t p utf8_p none ends =
    let x = plain t in
    let is = plain-bare t none in
    let strips = plain-without_suffix t p utf8_p (is_whole-bare t none) (subst (λ x. IsTrue (ends_with nat_eq x p)) (sym is) ends) in
    subst (λ u. StripsSuffix (FindsTextSuffix p) t u) (plain-kept_bare t 0 (length x - length p) none)
    (subst (λ x. StripsSuffix (FindsTextSuffix p) x (plain (without_suffix t p))) is strips)

-- Parts.

part_over-bare : (t : List ℕ) (before : Option ℕ) (i : ℕ × ℕ) → IsFalse (has_escape t) → part_over t before i ≡ slice_range t i.0 i.1
unfolding part_from
part_over-bare t before i none = grind (arith, and_parts, append-nil, carried-bare, eqb-true, marks-bare, plain-bare, interleaved-bare, slice_range-none, style_at-bare)

pub part-bare : (t p : List ℕ) (k : ℕ) → IsFalse (has_escape t) → part t p k ≡ option_map (λ (i : ℕ × ℕ). slice_range t i.0 i.1) (slice_get (parts t p) k)
part-bare t p k none = grind (arith, part_over-bare, plain-bare)

pub all_parts-bare : (t p : List ℕ) → IsFalse (has_escape t) → all_parts t p ≡ slices_over t (parts t p)
all_parts-bare t p none =
    sym (map-id (all_parts t p))
    ∙ map-all_parts t p (λ u. u) (λ i. slice_range t i.0 i.1) (λ k i found. part_over-bare t (end_before (parts (plain t) p) k) i none)
    ∙ ap (λ x. slices_over t (parts x p)) (plain-bare t none)

pub all_parts_are_split-bare : (t p : List ℕ) → IsUtf8 t → IsUtf8 p → IsFalse (has_escape t) → p ≢ [] → AreSplit p t (all_parts t p)
all_parts_are_split-bare t p utf8_t utf8_p none some = subst (AreSplit p t) (sym (all_parts-bare t p none)) (parts_are_split t p utf8_t utf8_p some)

pub all_parts-empty-bare : (t : List ℕ) → IsUtf8 t → IsFalse (has_escape t) → all_parts t [] ≡ [] ∷ (map encode_utf8 (chars t) ++ [] ∷ [])
all_parts-empty-bare t utf8 none = all_parts-bare t [] none ∙ slices_over-parts-empty t utf8

-- Changes: each gives the slice over the interval that it keeps.

-- if a test lets a change through, its text is the slice
slice_range-if_found : (test : Bool) (t u : List ℕ) (i : ℕ × ℕ) → u ≡ slice_range t i.0 i.1
    → (if is_some (if test then Some i else None) then Some u else None) ≡ option_map (λ (i : ℕ × ℕ). slice_range t i.0 i.1) (if test then Some i else None)
slice_range-if_found true t u i is = ap Some is
slice_range-if_found false t u i is = refl

-- the change of t, if x is taken for its plain text
abbrev edited_on : Change → List ℕ → List ℕ → Option (List ℕ)
edited_on e t x = if is_some (interval_of e x) then Some (changed_text e t) else None

edited_on-bare : (e : Change) (t : List ℕ) → IsFalse (has_escape t) → edited_on e t t ≡ option_map (λ (i : ℕ × ℕ). slice_range t i.0 i.1) (interval_of e t)
edited_on-bare e t none = grind (arith, cut-bare, edited_by-part, kept-bare, left_side-bare, part-bare, plain-bare, right_side-bare, slice_range-past, slice_range-if_found, trimmed-slice)

pub edited_by-bare : (e : Change) (t : List ℕ) → IsFalse (has_escape t) → edited_by e t ≡ option_map (λ (i : ℕ × ℕ). slice_range t i.0 i.1) (interval_of e t)
edited_by-bare e t none = ap (edited_on e t) (plain-bare t none) ∙ edited_on-bare e t none

-- Changes in turn: each is of a text without ESC again.

edited_by_has_no_escape : (e : Change) (t : List ℕ) → IsFalse (has_escape t) → IfSome (edited_by e t) (λ u. IsFalse (has_escape u))
edited_by_has_no_escape e t none = grind (arith, edited_by-bare, has_escape-slice_range)

edited_has_no_escape : (es : List Change) (t : List ℕ) → IsFalse (has_escape t) → IfSome (edited es t) (λ u. IsFalse (has_escape u))
edited_has_no_escape [] t none = none
edited_has_no_escape (e ∷ es) t none = next (edited_by e t) (edited_by_has_no_escape e t none) (λ u bare. edited_has_no_escape es u bare)
  where
    next : (o : Option (List ℕ)) → IfSome o (λ u. IsFalse (has_escape u)) → ((u : List ℕ) → IsFalse (has_escape u) → IfSome (edited es u) (λ v. IsFalse (has_escape v)))
        → IfSome (option_and_then (edited es) o) (λ v. IsFalse (has_escape v))
    next None first others = tt
    next (Some u) first others = others u first

-- the bytes of the slice that they name
pub edited-bare : (es : List Change) (t : List ℕ) → IsFalse (has_escape t) → edited es t ≡ option_map unstyled (meaning es (styled t))
edited-bare es t none =
    sym (ap (option_map unstyled) (edited_is_slice es t (is_whole-bare t none)).slice ∙ over (edited es t) (edited_has_no_escape es t none))
  where
    over : (o : Option (List ℕ)) → IfSome o (λ u. IsFalse (has_escape u)) → option_map unstyled (option_map styled o) ≡ o
    over None is = refl
    over (Some u) is = ap Some (unstyled-styled u ∙ plain-bare u is)

gives_borrow-bare : (e : Change) (t : List ℕ) → IsFalse (has_escape t) → gives_borrow e t ≡ true
gives_borrow-bare e t none = grind arith

pub stay_borrowed-bare : (es : List Change) (t : List ℕ) → IsFalse (has_escape t) → stay_borrowed es t ≡ true
stay_borrowed-bare [] t none = refl
stay_borrowed-bare (e ∷ es) t none = next (edited_by e t) (edited_by_has_no_escape e t none) (λ u bare. stay_borrowed-bare es u bare)
  where
    next : (o : Option (List ℕ)) → IfSome o (λ u. IsFalse (has_escape u)) → ((u : List ℕ) → IsFalse (has_escape u) → stay_borrowed es u ≡ true)
        → option_map_or (λ u. gives_borrow e t && stay_borrowed es u) o true ≡ true
    next None first others = refl
    next (Some u) first others = and_from _ _ (gives_borrow-bare e t none) (others u first)

-- The parts of a text that is read with a style already open, and after the match before.
use Rattle.std.specs.Prelude.{◌≡◌, ℕ, ◌+◌, ◌≤◌, Bool, List, [], ◌∷◌, ◌++◌, length, map, zip, drop, take, Option, Some, None, not, is_some, IsTrue}
use Rattle.ansi_style.specs.declared.state.rendition.Rendition.{Rendition}
use Rattle.ansi_items.specs.Plain.{Mark, plain, marks, marks_up_to, has_escape}
use Rattle.ansi_style.specs.Written.{start, close, close_if_any, longest_start_and_close}
use Rattle.ansi_style.specs.Reading.{style_after_from, style_within}
use Rattle.ansi_slice.specs.Cut.{interleaved}
use Rattle.ansi_search.specs.Positions.{is_char_boundary}
use Rattle.ansi_search.specs.Matches.{match_places, first_match_from}
use Rattle.ansi_split.specs.Parts.{without_overlaps, marks_past, CarriedPart, part_from}

-- marks with n plain bytes more before each
abbrev pub marks_further_on : ℕ → List Mark → List Mark
marks_further_on n ms = map (λ (m : Mark). record m { place = n + m.place }) ms

-- t is cut after its last mark at the position e: what is shown up to there is the front, and what follows is read on from there in the style there
pub record IsCutAfter (t : List ℕ) (e : ℕ) (front after : List ℕ) : Type 0 where
  pub plain_front : plain front ≡ take e (plain t)
  pub marks_front : marks front ≡ marks_up_to e (marks t)
  pub interleaved_front : (a : ℕ) → interleaved (plain t) a e (marks_up_to e (marks t)) ≡ interleaved (plain front) a e (marks front)
  pub plain_after : plain after ≡ drop e (plain t)
  pub marks_after : marks_past (Some e) (marks t) ≡ marks_further_on e (marks after)
  pub styles_after_from : (c : Rendition) (i : ℕ) → style_within c t (e + i) ≡ style_within (style_within c t e) after i

-- t is cut after its last mark at the first match of p that doesn't begin before `from`, and a character begins, or the text ends, after the match
pub record IsCutAtMatch (t p : List ℕ) (from : ℕ) (front after : List ℕ) : Type 0 where
  pub place : ℕ
  pub first : first_match_from (plain t) p from ≡ Some place
  pub cut : IsCutAfter t place front after
  pub match_end : IsTrue (is_char_boundary (plain after) (length p))

-- the parts over intervals of t in order, the first after a part that ends at `before`
abbrev pub parts_from : Rendition → List ℕ → Option ℕ → List (ℕ × ℕ) → List CarriedPart
parts_from c t before [] = []
parts_from c t before (i ∷ is) = part_from c t before i ∷ parts_from c t (Some i.1) is

-- the parts left of t; its first `skip` plain bytes are in no part, and the next match begins at or past `from`
unfoldable pub parts_left : Rendition → List ℕ → List ℕ → ℕ → ℕ → List CarriedPart
parts_left c t p skip from =
    let taken = without_overlaps (length p) from (match_places (plain t) p) in
    parts_from c t None (zip (skip ∷ map (λ m. m + length p) taken) (taken ++ length (plain t) ∷ []))

-- the first of these parts is the text `bare`, a borrow, which is at most as long as its source, a start and a close; the others are left
abbrev pub IsBareFirst : List CarriedPart → List ℕ → List CarriedPart → Type 0
IsBareFirst old bare new = (p : CarriedPart) × (old ≡ p ∷ new) × (p.bytes ≡ bare) × IsTrue p.borrowed × (length p.bytes ≤ p.source_len + longest_start_and_close)

-- a run as a part: itself, or between the start and the close of a style
abbrev pub dressed_run : Option Rendition → List ℕ → List ℕ
dressed_run None x = x
dressed_run (Some c) x = start c ++ x ++ close c

-- the first of these parts is the run x with this style around it, a borrow if there is none; the others are left
abbrev pub IsRunFirst : List CarriedPart → Option Rendition → List ℕ → List CarriedPart → Type 0
IsRunFirst old style x new = (p : CarriedPart) × (old ≡ p ∷ new) × (p.borrowed ≡ not (is_some style)) × (p.bytes ≡ dressed_run style x)

-- a stretch as a part: itself, or between the start of the style before it and the close of the style after it
abbrev pub dressed_stretch : Option (Rendition × Rendition) → List ℕ → List ℕ
dressed_stretch None x = x
dressed_stretch (Some (c, d)) x = start c ++ x ++ close_if_any d

-- the part is the stretch x with these styles around it, a borrow if there are none
abbrev pub IsStretch : CarriedPart → Option (Rendition × Rendition) → List ℕ → Type 0
IsStretch p styles x = (p.borrowed ≡ not (is_some styles)) × (p.bytes ≡ dressed_stretch styles x)

-- the first of these parts is that; the others are left
abbrev pub IsStretchFirst : List CarriedPart → Option (Rendition × Rendition) → List ℕ → List CarriedPart → Type 0
IsStretchFirst old styles x new = (p : CarriedPart) × (old ≡ p ∷ new) × IsStretch p styles x

-- all of t without its first `skip` plain bytes, with every mark, between the start of c and the close of the style then
unfoldable pub span_text : Rendition → List ℕ → ℕ → List ℕ
span_text c t skip = start c ++ interleaved (plain t) skip (length (plain t)) (marks t) ++ close_if_any (style_after_from c t)

-- the part that all of t makes, without its first `skip` plain bytes
abbrev pub span_part : Rendition → List ℕ → ℕ → CarriedPart
span_part c t skip = part_from c t None (skip, length (plain t))

-- What is kept of that part besides: whether t has an ESC, and the style after it. The first bytes, which are left out, end at a character boundary.
pub record AreSpanFacts (c : Rendition) (t : List ℕ) (skip : ℕ) (is_marked : Bool) (after : Rendition) : Type 0 where
  pub marked : is_marked ≡ has_escape t
  pub skip_is_boundary : IsTrue (is_char_boundary (plain t) skip)
  pub is_after : after ≡ style_after_from c t

-- The parts of a text between the matches of a pattern.
use Rattle.std.specs.Prelude.{ℕ, zero, suc, ◌+◌, ◌==◌, Bool, true, false, not, ◌&&◌, ◌||◌, List, [], ◌∷◌, ◌++◌, map, length, filter, filter_map, zip, nat_le, nat_lt, Option, None, option_map, if◌then◌else◌, slice_get}
use Rattle.std.specs.List.{range_with_len}
use Rattle.std.specs.Option.{option_map_or}
use Rattle.ansi_style.specs.declared.state.rendition.Rendition.{Rendition}
use Rattle.ansi_style.specs.Rendition.{plain_style, has_any}
use Rattle.ansi_items.specs.Plain.{Mark, plain, marks, marks_up_to}
use Rattle.ansi_style.specs.Reading.{style_within}
use Rattle.ansi_style.specs.Written.{start, close_if_any}
use Rattle.ansi_search.specs.Matches.{match_places}
use Rattle.ansi_slice.specs.Cut.{interleaved}

-- of matches of n bytes, in order, those that don't begin before the end of the one taken before, which is `end`
abbrev pub without_overlaps : ℕ → ℕ → List ℕ → List ℕ
without_overlaps n end [] = []
without_overlaps n end (m ∷ ms) =
    let more = without_overlaps n (if nat_le end m then m + n else end) ms in
    if nat_le end m then m ∷ more else more

-- the parts of x are the intervals before, between and after the matches of p (std's `split`)
abbrev pub parts : List ℕ → List ℕ → List (ℕ × ℕ)
parts x p =
    let taken = without_overlaps (length p) 0 (match_places x p) in
    zip (0 ∷ map (λ m. m + length p) taken) (taken ++ length x ∷ [])

-- the end of the interval before that of index k, if there is one
abbrev pub end_before : List (ℕ × ℕ) → ℕ → Option ℕ
end_before intervals zero = None
end_before intervals (suc k) = option_map (λ (i : ℕ × ℕ). i.1) (slice_get intervals k)

-- the marks at places past the end of the part before, if there is one
abbrev pub marks_past : Option ℕ → List Mark → List Mark
marks_past before ms = filter (λ m. option_map_or (λ e. nat_lt e m.place) before true) ms

-- a part of a text with what is carried into it, as a split or a wrap gives it: its bytes, whether it is a borrow, and its source length, which is the number of its bytes that come from the text or from a link that is carried
pub record CarriedPart : Type 0 where
  pub bytes : List ℕ
  pub borrowed : Bool
  pub source_len : ℕ

-- the style that the parts up to the end of the one before leave open; c is the style before t
abbrev pub carried : Rendition → List ℕ → Option ℕ → Rendition
carried c t before = option_map_or (style_within c t) before c

-- The part over the interval i, after a part that ends at `before`; c is the style before t. It is the start of the style that is carried, the text with its marks, and the close of the style then. A mark belongs to the first part whose end isn't before its place. A part is a borrow, a slice of t, if it has no mark, and is empty or carries no style. (The Rust crate; the places, own)
unfoldable pub part_from : Rendition → List ℕ → Option ℕ → ℕ × ℕ → CarriedPart
part_from c t before i =
    let own = marks_past before (marks_up_to i.1 (marks t)) in
    let style = carried c t before in
    let shown = interleaved (plain t) i.0 i.1 own in
    record {
      bytes = if i.0 == i.1 && length own == 0 then [] else start style ++ shown ++ close_if_any (style_within c t i.1);
      borrowed = length own == 0 && (i.0 == i.1 || not (has_any style));
      source_len = length shown;
    }

-- the bytes of a part of t alone, before which the style is plain
abbrev pub part_over : List ℕ → Option ℕ → ℕ × ℕ → List ℕ
part_over t before i = (part_from plain_style t before i).bytes

-- the part of index k, if there is one
abbrev pub part : List ℕ → List ℕ → ℕ → Option (List ℕ)
part t p k =
    let intervals = parts (plain t) p in
    option_map (part_over t (end_before intervals k)) (slice_get intervals k)

-- all parts, in order
abbrev pub all_parts : List ℕ → List ℕ → List (List ℕ)
all_parts t p = filter_map (part t p) (range_with_len 0 (length (parts (plain t) p)))

-- the source length of the part of index k
abbrev pub source_len : List ℕ → List ℕ → ℕ → ℕ
source_len t p k =
    let intervals = parts (plain t) p in
    option_map_or (λ i. (part_from plain_style t (end_before intervals k) i).source_len) (slice_get intervals k) 0

-- the part of index k is a slice of t
abbrev pub is_part_borrowed : List ℕ → List ℕ → ℕ → Bool
is_part_borrowed t p k =
    let intervals = parts (plain t) p in
    option_map_or (λ i. (part_from plain_style t (end_before intervals k) i).borrowed) (slice_get intervals k) false

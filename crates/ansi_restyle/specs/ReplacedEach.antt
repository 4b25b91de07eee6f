-- A text with another text in place of each of many ranges.
use Rattle.std.specs.Prelude.{◌≡◌, ℕ, ◌-◌, ◌==◌, ◌&&◌, Bool, List, [], ◌∷◌, ◌++◌, length, map, take, drop, IsTrue, slice_range}
use Rattle.std.specs.List.{list_all}
use Rattle.ansi_items.specs.Plain.{plain, marks, is_whole}
use Rattle.ansi_style.specs.declared.state.rendition.Rendition.{Rendition}
use Rattle.ansi_style.specs.Reading.{style_after_from, styled_from}
use Rattle.ansi_style.specs.Styled.{styled, style_at, residue}
use Rattle.ansi_safe.specs.declared.policy.Links.{Links}
use Rattle.ansi_safe.specs.Links.{link_of, link_at, link_after_all}
use Rattle.ansi_safe.specs.Safe.{is_safe}
use Rattle.ansi_restyle.specs.Linked.{links_in, links_from}
use Rattle.ansi_restyle.specs.Restyled.{front, rest}
use Rattle.ansi_restyle.specs.Removed.{sequences}
use Rattle.ansi_restyle.specs.Replaced.{place_after, put}
use Rattle.ansi_restyle.specs.declared.replace_each.Replacement.{Replacement}

-- a range of a plain text, and the text in its place
pub record Swap : Type 0 where
  pub range : ℕ × ℕ
  pub text : List ℕ

-- what `Replacement`s say
abbrev pub swaps_of : List Replacement → List Swap
swaps_of edits = map (λ (e : Replacement). record { range = e.range; text = e.with.now }) edits

-- the same text in place of each of the ranges
abbrev pub swaps_with : List ℕ → List (ℕ × ℕ) → List Swap
swaps_with w rs = map (λ r. record { range = r; text = w }) rs

abbrev pub ranges_of : List Swap → List (ℕ × ℕ)
ranges_of es = map (λ (e : Swap). e.range) es

-- each of the texts is whole
abbrev pub are_whole : List Swap → Bool
are_whole es = list_all (λ (e : Swap). is_whole e.text) es

-- each of the texts is safe
abbrev pub are_safe : Links → List Swap → Bool
are_safe links es = list_all (λ (e : Swap). is_safe links e.text) es

-- each of the ranges is empty, and so is the text in its place
abbrev pub swap_nothing : List Swap → Bool
swap_nothing es = list_all (λ (e : Swap). e.range.0 == e.range.1 && length e.text == 0) es

-- the elements of xs from the position n on, with new ones in place of those in each range (std's `replace`)
abbrev pub with_each : {A : Type 0} → (Swap → List A) → ℕ → List A → List Swap → List A
with_each new n xs [] = drop n xs
with_each new n xs (e ∷ es) = slice_range xs n e.range.0 ++ new e ++ with_each new e.range.1 xs es

-- The headline: u is t with each text in place of its range. Each plain byte of t outside of the ranges has its style and its link. A new text is read in the style and the link of the byte of t before its range; at the front, of the first one. It is a whole text, and leaves open the style and the link that t does. (own)
pub record IsReplacedEach (t : List ℕ) (es : List Swap) (u : List ℕ) : Type 0 where
  pub styled_bytes : styled u ≡ with_each (λ (e : Swap). styled_from (style_at t (e.range.0 - 1)) e.text) 0 (styled t) es
  pub plain_text : plain u ≡ with_each (λ (e : Swap). plain e.text) 0 (plain t) es
  pub links : links_in u ≡ with_each (λ (e : Swap). links_from (link_at t (e.range.0 - 1)) e.text) 0 (links_in t) es
  pub whole : IsTrue (is_whole u)
  pub open_at_end : residue u ≡ residue t
  pub link_at_end : link_of (marks u) ≡ link_of (marks t)

-- The bytes.

-- t without its first n plain bytes, with every sequence
abbrev pub without_front : ℕ → List ℕ → List ℕ
without_front n t = sequences (front n t) ++ rest n t

-- t, which begins at the position n of a plain text, without its first m plain bytes and with each text in place of its range, as one alone is replaced; s and `link` are open before t
abbrev pub replaced_from : Rendition → List ℕ → ℕ → ℕ → List ℕ → List Swap → List ℕ
replaced_from s link n m t [] = without_front m t
replaced_from s link n m t (e ∷ es) =
    let place = place_after (e.range.0 - n) t in
    let before = take place t in
    let there = style_after_from s before in
    let linked = link_after_all link (marks before) in
    without_front m before ++ put there linked e.text ++ replaced_from there linked e.range.0 (e.range.1 - e.range.0) (drop place t) es

-- t with each text in place of its range: what is before its first plain byte, and the rest
abbrev pub replaced_each : List ℕ → List Swap → List ℕ
replaced_each t es = front 0 t ++ replaced_from (style_at t 0) (link_at t 0) 0 0 (rest 0 t) es

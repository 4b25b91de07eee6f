-- A text with another text in place of a range of its plain text.
use Rattle.std.specs.Prelude.{◌≡◌, ℕ, ◌+◌, ◌-◌, ◌==◌, List, [], ◌++◌, length, take, drop, IsTrue, if◌then◌else◌}
use Rattle.std.specs.Str.{bytes_eq}
use Rattle.ansi_items.specs.Plain.{plain, marks, is_whole, has_escape, joined}
use Rattle.ansi_style.specs.declared.state.rendition.Rendition.{Rendition}
use Rattle.ansi_style.specs.Reading.{style_after_from, styled_from}
use Rattle.ansi_style.specs.Styled.{styled, style_at, residue}
use Rattle.ansi_style.specs.Written.{start, close}
use Rattle.ansi_search.specs.Offsets.{offset_of}
use Rattle.ansi_safe.specs.Links.{link_of, link_at, link_after_all, link_end}
use Rattle.ansi_restyle.specs.Linked.{links_in, links_from}
use Rattle.ansi_restyle.specs.Restyled.{front, rest, other_marks}
use Rattle.ansi_restyle.specs.Removed.{sequences}

-- where text is put at the position a of the plain text of t: right after the plain byte before it; at the front, right before the first one
abbrev pub place_of : ℕ → List ℕ → ℕ
place_of a t = if a == 0 then offset_of t 0 else offset_of t (a - 1) + 1

-- where text is put after the first n plain bytes of what is left of a text: right after the last of them; at once if n is 0
abbrev pub place_after : ℕ → List ℕ → ℕ
place_after n t = if n == 0 then 0 else offset_of t (n - 1) + 1

-- what brings the link back where `other` is open: nothing if both are the same, the end of the other if no link was open, or the sequence that opened the link (own)
abbrev pub link_back : List ℕ → List ℕ → List ℕ
link_back link other = if bytes_eq other link then [] else (if length link == 0 then link_end other else link)

-- w put where the style s and the link are open: w, and if it has an ESC, what brings the link back, the close of the style after w, and the start of s (own)
abbrev pub put : Rendition → List ℕ → List ℕ → List ℕ
put s link w = w ++ (if has_escape w then link_back link (link_after_all link (marks w)) ++ (close (style_after_from s w) ++ start s) else [])

-- The headline: u is t with w in place of its plain bytes from a to b. Its plain bytes are those of t before a, those of w, and those of t from b on. Those of t have their styles and their links. Those of w are read in the style and the link of the byte before a; at the front, of the first one. Its sequences that aren't SGRs are those of t up to the place of w, those that are put there, and those of t after it. It is a whole text, and leaves open the style and the link that t does. (own)
pub record IsReplaced (t : List ℕ) (a b : ℕ) (w u : List ℕ) : Type 0 where
  pub styled_bytes : styled u ≡ take a (styled t) ++ styled_from (style_at t (a - 1)) w ++ drop b (styled t)
  pub plain_text : plain u ≡ take a (plain t) ++ plain w ++ drop b (plain t)
  pub links : links_in u ≡ take a (links_in t) ++ links_from (link_at t (a - 1)) w ++ drop b (links_in t)
  pub others : joined (other_marks u) ≡ joined (other_marks (take (place_of a t) t)) ++ joined (other_marks (put (style_at t (a - 1)) (link_at t (a - 1)) w)) ++ joined (other_marks (drop (place_of a t) t))
  pub whole : IsTrue (is_whole u)
  pub open_at_end : residue u ≡ residue t
  pub link_at_end : link_of (marks u) ≡ link_of (marks t)

-- The bytes.

-- t with w in place of its plain bytes from a to b: t up to the place, w put there, the sequences in the range, and the rest
abbrev pub replaced : List ℕ → ℕ → ℕ → List ℕ → List ℕ
replaced t a b w =
    let after = drop (place_of a t) t in
    take (place_of a t) t ++ put (style_at t (a - 1)) (link_at t (a - 1)) w ++ sequences (front (b - a) after) ++ rest (b - a) after

-- What is left of a text after a position. No public contract cites it.
use Rattle.std.specs.Prelude.{◌≡◌, ℕ, ◌+◌, ◌-◌, ◌<◌, ◌≤◌, Bool, ◌&&◌, List, length, take, drop, nat_le, Some, IsTrue}
use Rattle.memchr.specs.Find.{Nowhere, OccursAt}
use Rattle.ansi_items.specs.Plain.{plain}
use Rattle.ansi_search.specs.Positions.{no_character_goes_on}
use Rattle.ansi_search.specs.Offsets.{offset_of}
use Rattle.ansi_search.specs.Matches.{first_match_from}
use Rattle.ansi_style.specs.declared.state.rendition.Rendition.{Rendition}
use Rattle.ansi_style.specs.Reading.{style_within}

-- no character of the plain text of t goes on at the position n, and t is in two there: its plain bytes before n with every sequence up to there, and the rest
pub record IsDivided (t : List ℕ) (n : ℕ) (front rest : List ℕ) : Type 0 where
  pub good : IsTrue (no_character_goes_on (plain t) n)
  pub front_is : front ≡ take (offset_of t n) t
  pub rest_is : rest ≡ drop (offset_of t n) t

-- a range begins at n or later, ends where it begins or later, and no character of x goes on at either, if x is what is left of a plain text after its first n bytes
abbrev pub is_range_left : List ℕ → ℕ → ℕ × ℕ → Bool
is_range_left x n r = nat_le n r.0 && (nat_le r.0 r.1 && (no_character_goes_on x (r.0 - n) && no_character_goes_on x (r.1 - n)))

-- t is in two at the first match of p; s is the style before t, and `there` that at the match
pub record IsAtMatch (t p front rest : List ℕ) (s there : Rendition) : Type 0 where
  pub place : ℕ
  pub first : first_match_from (plain t) p 0 ≡ Some place
  pub divided : IsDivided t place front rest
  pub style : there ≡ style_within s t place

-- t is in two at the first match of p in what t has from the offset i on; s is the style before that
pub record IsAtMatchPast (t p : List ℕ) (i : ℕ) (front rest : List ℕ) (s there : Rendition) : Type 0 where
  pub place : ℕ
  pub first : first_match_from (plain (drop i t)) p 0 ≡ Some place
  pub front_is : front ≡ take (i + offset_of (drop i t) place) t
  pub rest_is : rest ≡ drop (i + offset_of (drop i t) place) t
  pub style : there ≡ style_within s (drop i t) place

-- the bytes of p occur in those of t at no offset from i up to k, and at k, unless k is past the end
pub record IsNextPlace (t p : List ℕ) (i k : ℕ) : Type 0 where
  pub within : k ≤ length t
  pub before : Nowhere (OccursAt t p) i k
  pub here : k < length t → OccursAt t p k

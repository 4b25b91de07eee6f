-- A text without a range of its plain text.
use Rattle.std.specs.Prelude.{◌≡◌, ℕ, ◌-◌, not, List, ◌++◌, filter, flat_map, take, drop, IsTrue}
use Rattle.ansi_items.specs.Pieces.{spelling, pieces_of}
use Rattle.ansi_items.specs.Plain.{plain, marks, is_text, is_whole}
use Rattle.ansi_style.specs.Styled.{styled, residue}
use Rattle.ansi_safe.specs.Links.{link_of}
use Rattle.ansi_restyle.specs.Linked.{links_in}
use Rattle.ansi_restyle.specs.Restyled.{front, rest}

-- the sequences of t and its lone escapes, in order
abbrev pub sequences : List ℕ → List ℕ
sequences t = flat_map spelling (filter (λ p. not (is_text p)) (pieces_of t))

-- The headline: u is t without its plain bytes from a to b. Its plain bytes are those of t before a and from b on, and each has its style and its link. It has the sequences of t, all of them and in order. It is a whole text, and leaves open the style and the link that t does. (own)
pub record IsRemoved (t : List ℕ) (a b : ℕ) (u : List ℕ) : Type 0 where
  pub styled_bytes : styled u ≡ take a (styled t) ++ drop b (styled t)
  pub plain_text : plain u ≡ take a (plain t) ++ drop b (plain t)
  pub links : links_in u ≡ take a (links_in t) ++ drop b (links_in t)
  pub all_sequences : sequences u ≡ sequences t
  pub whole : IsTrue (is_whole u)
  pub open_at_end : residue u ≡ residue t
  pub link_at_end : link_of (marks u) ≡ link_of (marks t)

-- The bytes.

-- t without its plain bytes from a to b: its front, the sequences in the range, and the rest
abbrev pub removed : List ℕ → ℕ → ℕ → List ℕ
removed t a b =
    let here = rest a t in
    front a t ++ sequences (front (b - a) here) ++ rest (b - a) here

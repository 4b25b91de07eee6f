-- The links of a text, and the text without them or with a range linked.
use Rattle.std.specs.Prelude.{◌≡◌, ℕ, ◌+◌, ◌-◌, ◌==◌, ◌&&◌, Bool, not, List, [], ◌∷◌, ◌++◌, length, map, filter, flat_map, take, drop, replicate, nat_lt, unwrap_or, IsTrue, if◌then◌else◌, codes}
use Rattle.std.specs.Int.{is_in_range}
use Rattle.std.specs.List.{list_all, list_any}
use Rattle.ansi_items.specs.Pieces.{spelling, pieces_of}
use Rattle.ansi_items.specs.Plain.{Mark, plain, marks, is_whole}
use Rattle.ansi_style.specs.Styled.{styled, residue}
use Rattle.ansi_safe.specs.Links.{longest_address, address_of, is_link, link_at, link_end, link_of}
use Rattle.ansi_safe.specs.Safe.{is_printable_byte}
use Rattle.ansi_restyle.specs.Linked.{links_in}
use Rattle.ansi_restyle.specs.Ranges.{are_in_turn}
use Rattle.ansi_restyle.specs.Restyled.{front, rest}
use Rattle.ansi_restyle.specs.declared.links.Link.{Link}
use Rattle.ansi_restyle.specs.declared.links.LinkWalk.{LinkWalk}

-- a piece of t is a link sequence, which opens or closes a link (OSC 8)
abbrev pub has_link : List ℕ → Bool
has_link t = list_any (λ p. is_link (spelling p)) (pieces_of t)

-- t without its link sequences
abbrev pub without_links : List ℕ → List ℕ
without_links t = flat_map spelling (filter (λ p. not (is_link (spelling p))) (pieces_of t))

-- The headline: u is t without its links. Its plain text is that of t, and each byte has its style. It has each sequence of t that is no link sequence at its place, and no other. It is a whole text, and leaves open the style that t does. (own)
pub record IsWithoutLinks (t u : List ℕ) : Type 0 where
  pub styled_bytes : styled u ≡ styled t
  pub plain_text : plain u ≡ plain t
  pub other_marks : marks u ≡ filter (λ (m : Mark). not (is_link m.bytes)) (marks t)
  pub whole : IsTrue (is_whole u)
  pub open_at_end : residue u ≡ residue t

-- Which ranges are linked.

-- a link of a text: the range of the plain text that it links, and its address
pub record LinkedRange : Type 0 where
  pub range : ℕ × ℕ
  pub address : List ℕ

-- what a `Link` says
abbrev pub linked_range : Link → LinkedRange
linked_range link = record { range = link.range; address = link.address.now }

-- the link from a to b, if there is text and the address isn't empty
abbrev pub link_between : ℕ → ℕ → List ℕ → List LinkedRange
link_between a b address = if nat_lt a b && nat_lt 0 (length address) then record { range = (a, b); address = address } ∷ [] else []

-- the links that these link sequences make of a plain text that ends at b, if a link with this address is open before them from a on: each goes on up to the next link sequence (OSC 8)
abbrev pub links_from : ℕ → List ℕ → ℕ → List Mark → List LinkedRange
links_from a address b [] = link_between a b address
links_from a address b (m ∷ ms) = link_between a m.place address ++ links_from m.place (unwrap_or (address_of m.bytes) []) b ms

-- the link sequences of t, each at its place
abbrev pub link_marks : List ℕ → List Mark
link_marks t = filter (λ (m : Mark). is_link m.bytes) (marks t)

-- the links of t, in order
abbrev pub links : List ℕ → List LinkedRange
links t = links_from 0 [] (length (plain t)) (link_marks t)

-- those that end after a place of a walk: a link with its address is open there from its start on
abbrev pub links_of_walk : LinkWalk → List LinkedRange
links_of_walk walk =
    let n = walk.position in
    let t = walk.rest.now in
    links_from walk.start walk.address.now (n + length (plain t)) (map (λ (m : Mark). record m { place = n + m.place }) (link_marks t))

-- A text with a range linked.

-- an address is clean if it has at least one byte, no more than `longest_address`, and each is printable ASCII, as in a clean link sequence
abbrev pub is_clean_address : List ℕ → Bool
is_clean_address address = is_in_range 1 longest_address (length address) && list_all is_printable_byte address

-- the sequence that opens a link to an address (OSC 8)
abbrev pub link_to : List ℕ → List ℕ
link_to address = codes "\u{1b}]8;;" ++ address ++ codes "\u{1b}\\"

-- The headline: u is t with the range r linked to an address. Each byte in the range has that link, and each other byte has the link that it has in t. Without links both are the same text, so the plain text, the styles and all other sequences stay. It is a whole text, and leaves open the link and the style that t does. (own)
pub record IsLinked (t : List ℕ) (r : ℕ × ℕ) (address u : List ℕ) : Type 0 where
  pub linked_bytes : links_in u ≡ take r.0 (links_in t) ++ replicate (r.1 - r.0) (link_to address) ++ drop r.1 (links_in t)
  pub open_link : link_of (marks u) ≡ link_of (marks t)
  pub others : without_links u ≡ without_links t
  pub styled_bytes : styled u ≡ styled t
  pub plain_text : plain u ≡ plain t
  pub whole : IsTrue (is_whole u)
  pub open_at_end : residue u ≡ residue t

-- The bytes.

-- the text t as one link to an address, without its own links
abbrev pub as_link : List ℕ → List ℕ → List ℕ
as_link address t = link_to address ++ without_links t ++ codes "\u{1b}]8;;\u{1b}\\"

-- t with the range r linked to an address: a link that is open where the range begins is ended there, and one that is open where it ends is opened again
abbrev pub with_link : List ℕ → ℕ × ℕ → List ℕ → List ℕ
with_link t r address =
    let n = r.1 - r.0 in
    let here = rest r.0 t in
    if r.0 == r.1 then t else front r.0 t ++ link_end (link_at t r.0) ++ as_link address (front n here) ++ link_at t r.1 ++ rest n here

-- the range r of the plain text of t is good, and t is in three there: up to its start, up to its end, and the rest; no public contract cites it
pub record IsInThree (t : List ℕ) (r : ℕ × ℕ) (before within after : List ℕ) : Type 0 where
  pub good : IsTrue (are_in_turn (plain t) 0 (r ∷ []))
  pub before_is : before ≡ front r.0 t
  pub within_is : within ≡ front (r.1 - r.0) (rest r.0 t)
  pub after_is : after ≡ rest (r.1 - r.0) (rest r.0 t)

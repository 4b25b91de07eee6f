-- The address of the hyperlink at a position, and the plain bytes with their links.
use Rattle.std.specs.Prelude.{ℕ, List, [], length, map, nat_lt, slice_index, Option, None, if◌then◌else◌}
use Rattle.std.specs.List.{range_with_len}
use Rattle.ansi_items.specs.Plain.{plain}
use Rattle.ansi_safe.specs.Links.{address_of, link_at}

-- the address at the position i of t is that of the link that is open at the plain byte there; at and after the end of the plain text there is none (OSC 8; the positions, own)
abbrev pub address_at : List ℕ → ℕ → Option (List ℕ)
address_at t i = if nat_lt i (length (plain t)) then address_of (link_at t i) else None

-- a linked byte is a plain byte with the sequence that opened its link, which is empty if the byte is in no link
pub record LinkedByte : Type 0 where
  pub byte : ℕ
  pub link : List ℕ

-- the linked bytes of t are its plain bytes, each with the link at its place (own)
abbrev pub linked : List ℕ → List LinkedByte
linked t =
    let x = plain t in
    map (λ i. record { byte = slice_index x i; link = link_at t i }) (range_with_len 0 (length x))

-- bytes that are in no link
abbrev pub without_link : List ℕ → List LinkedByte
without_link x = map (λ b. record { byte = b; link = [] }) x

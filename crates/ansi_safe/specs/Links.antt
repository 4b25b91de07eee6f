-- The hyperlink at a place of a text, and the sequence that closes it.
use Rattle.std.specs.Prelude.{◌≡◌, ℕ, ◌+◌, ◌-◌, ◌==◌, Bool, not, ◌&&◌, List, [], ◌++◌, length, map, drop, filter, reverse, slice_range, slice_get, nat_eq, nat_lt, nat_le, Option, Some, None, is_some, unwrap_or, fold, if◌then◌else◌, codes}
use Rattle.std.specs.List.{prefix_len, starts_with, ends_with}
use Rattle.std.specs.Str.{byte}
use Rattle.ansi_items.specs.Plain.{Mark, marks, marks_up_to}
use Rattle.ansi_style.specs.Rendition.{plain_style}
use Rattle.ansi_style.specs.Styled.{style_at, style_after, residue}
use Rattle.ansi_style.specs.Written.{close}

-- the length of the terminator of an operating system command: BEL is one byte, ESC `\` is two
abbrev pub terminator_len : List ℕ → ℕ
terminator_len w = if ends_with nat_eq w (codes "\u{7}") then 1 else 2

-- what the sequence w has between its `8;` and its terminator, if it is a link sequence: parameters, `;` and an address (OSC 8)
abbrev pub fields_of : List ℕ → List ℕ
fields_of w = slice_range w 4 (length w - terminator_len w)

-- how many bytes its parameters have, which end before the first `;`
abbrev pub parameters_len : List ℕ → ℕ
parameters_len w = prefix_len (λ b. not (b == byte ";")) (fields_of w)

-- the address of the whole sequence w, if it is a link sequence: ESC `]8;`, parameters, `;` and an address (OSC 8)
abbrev pub address_of : List ℕ → Option (List ℕ)
address_of w =
    if starts_with nat_eq w (codes "\u{1b}]8;") && nat_lt (parameters_len w) (length (fields_of w))
    then Some (drop (parameters_len w + 1) (fields_of w)) else None

-- the sequence w opens or closes a link
abbrev pub is_link : List ℕ → Bool
is_link w = is_some (address_of w)

-- a link sequence opens a link if its address isn't empty
abbrev pub opens_link : List ℕ → Bool
opens_link w = nat_lt 0 (length (unwrap_or (address_of w) []))

-- the greatest length of the address of a short link, in bytes (what Internet Explorer and VTE take)
abbrev pub longest_address : ℕ
longest_address = 2083

-- the greatest length of its parameters: `id=` and 250 bytes (VTE)
abbrev pub longest_parameters : ℕ
longest_parameters = 253

-- the greatest length of its sequence: ESC `]8;`, the parameters, `;`, the address and a terminator
abbrev pub longest_link : ℕ
longest_link = 4 + longest_parameters + 1 + longest_address + 2

-- the sequence w is a link sequence whose parameters and address are no longer than that
abbrev pub is_short_link : List ℕ → Bool
is_short_link w = is_link w && (nat_le (parameters_len w) longest_parameters && nat_le (length (unwrap_or (address_of w) [])) longest_address)

-- the link after marks is the last link sequence among them, if that opens one; else it is empty (own)
abbrev pub link_of : List Mark → List ℕ
link_of ms =
    let last = unwrap_or (slice_get (reverse (filter is_link (map (λ (m : Mark). m.bytes) ms))) 0) [] in
    if opens_link last then last else []

-- the link after the sequence w, if `link` is open before it
abbrev pub link_after : List ℕ → List ℕ → List ℕ
link_after link w = if is_link w then (if opens_link w then w else []) else link

-- the link after marks, if `link` is open before them
abbrev pub link_after_all : List ℕ → List Mark → List ℕ
link_after_all link ms = fold link_after link (map (λ (m : Mark). m.bytes) ms)

-- the link at the place i of t is that after every mark at a place up to i (own)
abbrev pub link_at : List ℕ → ℕ → List ℕ
link_at t i = link_of (marks_up_to i (marks t))

-- the sequence that closes a link, if one is open (OSC 8)
abbrev pub link_end : List ℕ → List ℕ
link_end link = if length link == 0 then [] else codes "\u{1b}]8;;\u{1b}\\"

-- the greatest length of that sequence, in bytes
abbrev pub longest_link_end : ℕ
longest_link_end = 7

-- what closes the pen at the place i of t: the end of the link, and then the close of the style (own)
abbrev pub pen_close : List ℕ → ℕ → List ℕ
pen_close t i = link_end (link_at t i) ++ close (style_at t i)

-- what ends what is open at the end of t: the end of its link, and then the close of its style (own)
abbrev pub ending : List ℕ → List ℕ
ending t = link_end (link_of (marks t)) ++ close (style_after t)

-- no known style and no link is open at the end of t
pub record IsClosed (t : List ℕ) : Type 0 where
  pub style : residue t ≡ plain_style
  pub link : link_of (marks t) ≡ []

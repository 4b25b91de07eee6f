-- What is allowed in a safe text.
use Rattle.std.specs.Prelude.{ℕ, ◌-◌, ◌==◌, Bool, true, false, not, ◌&&◌, ◌||◌, List, [], ◌∷◌, length, slice_index, slice_range, nat_lt, nat_le, chars}
use Rattle.std.specs.Int.{is_in_range}
use Rattle.std.specs.List.{list_all}
use Rattle.std.specs.Str.{byte}
use Rattle.ansi_items.specs.Sequences.{is_sgr}
use Rattle.ansi_items.specs.Pieces.{Piece, Text, Sequence, LoneEscape, pieces_of}
use Rattle.ansi_safe.specs.declared.front.ByteSet.{ByteSet}
use Rattle.ansi_safe.specs.declared.front.ByteSet.TheVariants.{Printable, Ordinary}
use Rattle.ansi_safe.specs.declared.policy.Links.{Links}
use Rattle.ansi_safe.specs.declared.policy.Links.TheVariants.{Keep, Remove}
use Rattle.ansi_safe.specs.Links.{terminator_len, is_short_link}

-- a control character is one of U+0000 to U+001F, or of U+007F to U+009F (Unicode, section 23.1)
abbrev pub is_control : ℕ → Bool
is_control c = nat_lt c 0x20 || is_in_range 0x7F 0x9F c

-- U+202A to U+202E embed a direction or override it, and U+2066 to U+2069 isolate it (UAX #9, section 2)
abbrev pub is_bidi_control : ℕ → Bool
is_bidi_control c = is_in_range 0x202A 0x202E c || is_in_range 0x2066 0x2069 c

-- any other character is a printing one (own)
abbrev pub is_printing : ℕ → Bool
is_printing c = not (is_control c || is_bidi_control c)

-- in front of these characters of its run a printing character is allowed, a TAB, a line feed, and a carriage return directly before a line feed (own)
abbrev pub is_allowed : ℕ → List ℕ → Bool
is_allowed c after = is_printing c || (c == byte "\t" || (c == byte "\n" || (c == byte "\r" && slice_index after 0 == byte "\n")))

-- each of these characters of a run is allowed where it is
abbrev pub all_allowed : List ℕ → Bool
all_allowed [] = true
all_allowed (c ∷ cs) = is_allowed c cs && all_allowed cs

-- links are kept
abbrev pub keeps_links : Links → Bool
keeps_links Keep = true
keeps_links Remove = false

-- a printable byte of ASCII (ISO/IEC 646; U+0020 included)
abbrev pub is_printable_byte : ℕ → Bool
is_printable_byte b = is_in_range 0x20 0x7E b

-- a byte of ordinary characters: printable ASCII, TAB and LF if `white` is set, and 80 to FF but C2 and E2, which begin U+0080 to U+00BF and U+2000 to U+2FFF (UTF-8)
abbrev pub is_ordinary_byte : Bool → ℕ → Bool
is_ordinary_byte white b = is_printable_byte b || ((white && (b == byte "\t" || b == byte "\n")) || (nat_le 0x80 b && not (b == 0xC2 || b == 0xE2)))

-- a byte is in a set
abbrev pub is_in : ByteSet → ℕ → Bool
is_in Printable = is_printable_byte
is_in (Ordinary white) = is_ordinary_byte white

-- a link sequence is clean if it is short, and each byte between its ESC `]` and its terminator is printable ASCII (OSC 8)
abbrev pub is_clean_link : List ℕ → Bool
is_clean_link w = is_short_link w && list_all is_printable_byte (slice_range w 2 (length w - terminator_len w))

-- a run may stay if each of its characters is allowed where it is; an SGR may stay, and a clean link sequence if links are kept; no other sequence, and no lone escape
abbrev pub may_stay : Links → Piece → Bool
may_stay links (Text w) = all_allowed (chars w)
may_stay links (Sequence w) = is_sgr w || (keeps_links links && is_clean_link w)
may_stay links LoneEscape = false

-- a text is safe if each of its pieces may stay (own)
abbrev pub is_safe : Links → List ℕ → Bool
is_safe links t = list_all (may_stay links) (pieces_of t)

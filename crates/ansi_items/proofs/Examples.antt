-- Worked examples of the definitions, each by computation.
use Rattle.ansi_items.proofs.Common.{◌≡◌, ℕ, Bool, List, refl, codes, [], ◌∷◌, Some, None, true, false, not, map, filter, replicate, length, repeat, range_with_len, is_parameter_byte, is_intermediate_byte, is_final_byte, is_escape_final_byte, opens_control_sequence, opens_control_string, opens_command, is_body_byte, is_plain_byte, are_private, sgr_parameters, is_sgr, Text, Sequence, LoneEscape, pieces_of, plain, marks, is_whole}
use Rattle.ansi_items.proofs.Tables.{MakesRows}

-- Classes of bytes: of each what there is among all bytes, and of what differs by the opener of a control string, for each opener.

abbrev all_bytes : List ℕ
all_bytes = range_with_len 0 256

abbrev openers : List ℕ
openers = codes "PX]^_"

classes_of_bytes : MakesRows (λ (is : ℕ → Bool). filter is all_bytes) (
    (is_parameter_byte, range_with_len 0x30 16)
    ∷ (λ b. are_private (b ∷ []), range_with_len 0x3C 4)
    ∷ (is_intermediate_byte, range_with_len 0x20 16)
    ∷ (is_final_byte, range_with_len 0x40 63)
    ∷ (is_escape_final_byte, range_with_len 0x30 79)
    ∷ (opens_control_sequence, codes "[")
    ∷ (opens_control_string, openers)
    ∷ (opens_command, codes "]")
    ∷ (λ b. not (is_plain_byte b), 0x1B ∷ [])
    ∷ (λ b. is_sgr (0x1B ∷ 0x5B ∷ b ∷ []), codes "m")  -- the final byte of an SGR
    ∷ [])
classes_of_bytes = refl

-- what ends a body, what ends the string after an ESC, and what ends it alone
classes_by_opener : MakesRows (λ (is : ℕ → ℕ → Bool). map (λ opener. filter (is opener) all_bytes) openers) (
    (λ opener b. not (is_body_byte opener b), (0x1B ∷ []) ∷ (0x1B ∷ []) ∷ (0x07 ∷ 0x1B ∷ []) ∷ (0x1B ∷ []) ∷ (0x1B ∷ []) ∷ [])
    ∷ (λ opener b. is_whole (0x1B ∷ opener ∷ 0x1B ∷ b ∷ []), replicate 5 (0x5C ∷ []))
    ∷ (λ opener b. is_whole (0x1B ∷ opener ∷ b ∷ []), [] ∷ [] ∷ (0x07 ∷ []) ∷ [] ∷ [] ∷ [])
    ∷ [])
classes_by_opener = refl

pieces : MakesRows pieces_of (
    ([], [])
    ∷ (
      codes "\u{1b}Pa\u{1b}\\\u{1b}Xb\u{1b}\\\u{1b}]c\u{1b}\\\u{1b}^d\u{1b}\\\u{1b}_e\u{1b}\\",
      Sequence (codes "\u{1b}Pa\u{1b}\\") ∷ Sequence (codes "\u{1b}Xb\u{1b}\\") ∷ Sequence (codes "\u{1b}]c\u{1b}\\") ∷ Sequence (codes "\u{1b}^d\u{1b}\\") ∷ Sequence (codes "\u{1b}_e\u{1b}\\") ∷ [],
    )
    ∷ (
      codes "a\u{1b}[31mb\u{1b}(B\u{1b}\u{1b}[1 m\u{1b}",
      Text (codes "a") ∷ Sequence (codes "\u{1b}[31m") ∷ Text (codes "b") ∷ Sequence (codes "\u{1b}(B") ∷ LoneEscape ∷ Sequence (codes "\u{1b}[1 m") ∷ LoneEscape ∷ [],
    )
    ∷ (codes "\u{1b}\\", Sequence (codes "\u{1b}\\") ∷ [])
    ∷ (0x1B ∷ 0xC3 ∷ 0xA9 ∷ codes "[m", LoneEscape ∷ Text (0xC3 ∷ 0xA9 ∷ codes "[m") ∷ [])
    ∷ [])
pieces = refl

parameters_of_sgrs : MakesRows sgr_parameters (
    (codes "\u{1b}[31m", Some (codes "31"))
    ∷ (codes "\u{1b}[m", Some [])
    ∷ (codes "\u{1b}[>4;2m", None)
    ∷ (codes "\u{1b}[:1m", Some (codes ":1"))
    ∷ (codes "\u{1b}[1<=>?;?2m", Some (codes "1<=>?;?2"))
    ∷ (codes "\u{1b}[1 m", None)
    ∷ [])
parameters_of_sgrs = refl

plain_texts : MakesRows plain (
    (codes "\u{1b}[31m", [])
    ∷ (codes "\u{1b}Pa\u{1b}Xb\u{1b}]c\u{1b}^d\u{1b}_e", codes "PaXb]c^d_e")
    ∷ (codes "\u{1b} P\u{1b} X\u{1b} [\u{1b} ]\u{1b} ^\u{1b} _x", codes "x")
    ∷ (codes "\u{1b}P\u{7}\u{1b}\\x", codes "x")
    ∷ (codes "\u{1b}(Ba\u{1b}7b", codes "ab")
    ∷ (codes "\u{1b}]a\u{1b}b", codes "]a")
    ∷ (codes "\u{1b}(", codes "(")
    ∷ (codes "\u{1b}]0;title\u{1b}[31mx", codes "]0;titlex")
    ∷ (codes "\u{1b}[31", codes "[31")
    ∷ (codes "\u{1b}\u{1b}[1mx", codes "x")
    ∷ (codes "\u{1b}[1\u{7f}m", codes "[1\u{7f}m")  -- DEL is no final byte
    ∷ (0xC2 ∷ 0x9B ∷ codes "31m", 0xC2 ∷ 0x9B ∷ codes "31m")  -- CSI in eight bits is text
    ∷ (replicate 1000 0x1B, [])
    ∷ [])
plain_texts = refl

many_unfinished_commands : length (plain (repeat 1000 (codes "\u{1b}]"))) ≡ 1000
many_unfinished_commands = refl

marks_at_their_places : marks (codes "a\u{1b}[1mb\u{1b}]0;t\u{7}\u{1b}")
    ≡ record { place = 1; bytes = codes "\u{1b}[1m" } ∷ record { place = 2; bytes = codes "\u{1b}]0;t\u{7}" } ∷ record { place = 2; bytes = codes "\u{1b}" } ∷ []
marks_at_their_places = refl

whole_texts : MakesRows is_whole (
    (codes "\u{1b}(Ba\u{1b}7b", true)
    ∷ (codes "\u{1b}]0;title\u{1b}[31mx", false)
    ∷ (codes "\u{1b}\u{1b}[1mx", false)
    ∷ [])
whole_texts = refl

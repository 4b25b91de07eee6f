-- The bytes that sequences are made of, by their classes.
use Rattle.std.specs.Prelude.{ℕ, Bool, ◌&&◌, ◌||◌, not, ◌==◌, codes}
use Rattle.std.specs.Int.{is_in_range}
use Rattle.std.specs.List.{list_any}
use Rattle.std.specs.Str.{byte}

-- ESC begins every sequence (ECMA-48, section 8.3.48)
abbrev pub escape : ℕ
escape = 0x1B

-- BEL rings a bell (ECMA-48, section 8.3.3), or ends an operating system command (this profile)
abbrev pub bell : ℕ
bell = 0x07

-- parameter bytes of a control sequence (ECMA-48, section 5.4)
abbrev pub is_parameter_byte : ℕ → Bool
is_parameter_byte b = is_in_range 0x30 0x3F b

-- intermediate bytes of a control sequence (ECMA-48, section 5.4) and of an escape sequence (ECMA-35, section 13)
abbrev pub is_intermediate_byte : ℕ → Bool
is_intermediate_byte b = is_in_range 0x20 0x2F b

-- final bytes of a control sequence (ECMA-48, section 5.4)
abbrev pub is_final_byte : ℕ → Bool
is_final_byte b = is_in_range 0x40 0x7E b

-- final bytes of an escape sequence (ECMA-35, section 13)
abbrev pub is_escape_final_byte : ℕ → Bool
is_escape_final_byte b = is_in_range 0x30 0x7E b

-- after ESC, `[` opens a control sequence (ECMA-48, section 5.4)
abbrev pub opens_control_sequence : ℕ → Bool
opens_control_sequence b = b == byte "["

-- after ESC, `P` `X` `]` `^` `_` open a control string: DCS, SOS, OSC, PM, APC (ECMA-48, section 5.6)
abbrev pub opens_control_string : ℕ → Bool
opens_control_string b = list_any (λ opener. opener == b) (codes "PX]^_")

-- after ESC, `]` opens an operating system command, OSC (ECMA-48, section 8.3.89)
abbrev pub opens_command : ℕ → Bool
opens_command b = b == byte "]"

-- the body of a control string holds any byte but ESC, and that of an operating system command no BEL either (this profile)
abbrev pub is_body_byte : ℕ → ℕ → Bool
is_body_byte opener b = not (b == escape || (opens_command opener && b == bell))

-- a plain byte is any but ESC (this profile)
abbrev pub is_plain_byte : ℕ → Bool
is_plain_byte b = not (b == escape)

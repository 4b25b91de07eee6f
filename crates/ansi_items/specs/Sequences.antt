-- Whole sequences: control sequences, control strings and escape sequences.
use Rattle.std.specs.Prelude.{◌≡◌, ℕ, ◌-◌, Bool, false, ◌&&◌, ◌||◌, not, List, [], ◌∷◌, ◌++◌, length, drop, slice_range, ◌==◌, nat_eq, Option, Some, None, IsTrue, ◌⊎◌, if◌then◌else◌, codes, is_some}
use Rattle.std.specs.List.{list_all, prefix_len, starts_with, ends_with}
use Rattle.std.specs.Int.{is_in_range}
use Rattle.std.specs.Str.{byte}
use Rattle.ansi_items.specs.Bytes.{escape, bell, is_parameter_byte, is_intermediate_byte, is_final_byte, is_escape_final_byte, opens_control_sequence, opens_control_string, opens_command, is_body_byte}

-- a control sequence is ESC `[`, parameter bytes, intermediate bytes and a final byte (ECMA-48, section 5.4)
pub record IsControlSequence (w : List ℕ) : Type 0 where
  pub parameters : List ℕ
  pub intermediates : List ℕ
  pub final : ℕ
  pub spelled : w ≡ escape ∷ byte "[" ∷ (parameters ++ intermediates ++ final ∷ [])
  pub are_parameters : IsTrue (list_all is_parameter_byte parameters)
  pub are_intermediates : IsTrue (list_all is_intermediate_byte intermediates)
  pub is_final : IsTrue (is_final_byte final)

-- a control string is ESC and an opener, a body, and ESC `\` at the end, or BEL at that of an operating system command (ECMA-48, section 5.6; bodies and BEL are this profile's)
pub record IsControlString (w : List ℕ) : Type 0 where
  pub opener : ℕ
  pub body : List ℕ
  pub terminator : List ℕ
  pub spelled : w ≡ escape ∷ opener ∷ (body ++ terminator)
  pub opens : IsTrue (opens_control_string opener)
  pub is_body : IsTrue (list_all (is_body_byte opener) body)
  pub ends : (terminator ≡ escape ∷ byte "\\" ∷ []) ⊎ (IsTrue (opens_command opener) × (terminator ≡ bell ∷ []))

-- an escape sequence is ESC, intermediate bytes and a final byte, which alone opens nothing longer (ECMA-35, section 13)
pub record IsEscapeSequence (w : List ℕ) : Type 0 where
  pub intermediates : List ℕ
  pub final : ℕ
  pub spelled : w ≡ escape ∷ (intermediates ++ final ∷ [])
  pub are_intermediates : IsTrue (list_all is_intermediate_byte intermediates)
  pub is_final : IsTrue (is_escape_final_byte final)
  pub opens_nothing : intermediates ≡ [] → IsTrue (not (opens_control_string final || opens_control_sequence final))

-- a whole sequence is one of the three
abbrev pub IsSequence : List ℕ → Type 0
IsSequence w = IsControlSequence w ⊎ IsControlString w ⊎ IsEscapeSequence w

-- parameter bytes are for private use if the first is one of 3C to 3F (ECMA-48, section 5.4.2)
abbrev pub are_private : List ℕ → Bool
are_private [] = false
are_private (b ∷ more) = is_in_range 0x3C 0x3F b

-- an SGR, select graphic rendition, is a control sequence with no intermediate byte and the final byte `m` (ECMA-48, section 8.3.117) whose parameter bytes aren't for private use: these
abbrev pub sgr_parameters : List ℕ → Option (List ℕ)
sgr_parameters w =
    let parameters = slice_range w 2 (length w - 1) in
    if starts_with nat_eq w (escape ∷ byte "[" ∷ []) && ends_with nat_eq w (codes "m") && list_all is_parameter_byte parameters && not (are_private parameters)
    then Some parameters else None

-- the whole sequence w is an SGR
abbrev pub is_sgr : List ℕ → Bool
is_sgr w = is_some (sgr_parameters w)

-- What is left of a text after the whole sequence that begins it, if one does. `IsSequence` decides what is right; this computes it.

-- t without the bytes at its front that pass the test
abbrev pub skip : (ℕ → Bool) → List ℕ → List ℕ
skip test t = drop (prefix_len test t) t

-- t without its first byte, if that passes the test
abbrev pub after_one : (ℕ → Bool) → List ℕ → Option (List ℕ)
after_one test [] = None
after_one test (b ∷ t) = if test b then Some t else None

-- what is left after a control sequence, if t follows its ESC `[`
abbrev pub after_control_sequence : List ℕ → Option (List ℕ)
after_control_sequence t = after_one is_final_byte (skip is_intermediate_byte (skip is_parameter_byte t))

-- what is left after the end of a control string, if t follows its body, which only ESC or BEL can stop
abbrev pub after_terminator : List ℕ → Option (List ℕ)
after_terminator [] = None
after_terminator (b ∷ t) = if b == bell then Some t else after_one (λ c. c == byte "\\") t

-- what is left after a control string, if t follows its ESC and opener
abbrev pub after_control_string : ℕ → List ℕ → Option (List ℕ)
after_control_string opener t = after_terminator (skip (is_body_byte opener) t)

-- what is left after an escape sequence, if t follows its ESC
abbrev pub after_escape_sequence : List ℕ → Option (List ℕ)
after_escape_sequence t = after_one is_escape_final_byte (skip is_intermediate_byte t)

-- what is left after a sequence of any kind, if t follows its ESC
abbrev pub after_escape : List ℕ → Option (List ℕ)
after_escape [] = None
after_escape (b ∷ t) =
    if opens_control_sequence b then after_control_sequence t
    else (if opens_control_string b then after_control_string b t else after_escape_sequence (b ∷ t))

-- after the whole sequence that begins t
abbrev pub after_sequence : List ℕ → Option (List ℕ)
after_sequence [] = None
after_sequence (b ∷ t) = if b == escape then after_escape t else None

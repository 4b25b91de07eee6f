-- The kind and the length of what a text begins with, as the private functions of the scanner read it.
-- No public contract cites this. That it is the first piece of the text is `front_is_first` in proofs/FrontLemmas.antt.
use Rattle.std.specs.Prelude.{ℕ, ◌+◌, ◌==◌, ◌&&◌, List, ◌∷◌, Option, Some, None, if◌then◌else◌, slice_index, take, drop, unwrap_or}
use Rattle.std.specs.List.{prefix_len}
use Rattle.std.specs.Str.{byte}
use Rattle.ansi_items.specs.declared.ansitok.Kind.{Kind}
use Rattle.ansi_items.specs.declared.ansitok.Kind.TheVariants.{Text, Sgr, Other, Lone}
use Rattle.ansi_items.specs.declared.ansitok.grammar.Front.{Front}
use Rattle.ansi_items.specs.Bytes.{escape, bell, is_parameter_byte, is_intermediate_byte, is_final_byte, is_escape_final_byte, opens_control_string, opens_control_sequence, is_body_byte, is_plain_byte}
use Rattle.ansi_items.specs.Sequences.{is_sgr}

-- a front of this kind and length
abbrev pub front_of : Kind → ℕ → Front
front_of kind len = record { kind = kind; len = len }

-- the control sequence whose bytes after ESC `[` these begin with
unfoldable pub control_at : List ℕ → Option Front
control_at bs =
    let parameters = prefix_len is_parameter_byte bs in
    let intermediates = prefix_len is_intermediate_byte (drop parameters bs) in
    let len = parameters + intermediates + 3 in
    let kind = if is_sgr (take len (escape ∷ byte "[" ∷ bs)) then Sgr else Other in
    if is_final_byte (slice_index bs (parameters + intermediates)) then Some (front_of kind len) else None

-- the control string whose body, after its opener, has this many bytes
unfoldable pub string_at : List ℕ → ℕ → Option Front
string_at bs body =
    let stop = slice_index bs body in
    if stop == bell then Some (front_of Other (body + 3))
    else if (stop == escape) && (slice_index bs (body + 1) == byte "\\") then Some (front_of Other (body + 4))
    else None

-- the escape sequence whose bytes after ESC these begin with
unfoldable pub escape_at : List ℕ → Option Front
escape_at bs =
    let intermediates = prefix_len is_intermediate_byte bs in
    if is_escape_final_byte (slice_index bs intermediates) then Some (front_of Other (intermediates + 2)) else None

-- the whole sequence that these bytes, the first of them ESC, begin with
unfoldable pub sequence_at : List ℕ → Option Front
sequence_at bs =
    let second = slice_index bs 1 in
    if opens_control_sequence second then control_at (drop 2 bs)
    else if opens_control_string second then string_at (drop 2 bs) (prefix_len (is_body_byte second) (drop 2 bs))
    else escape_at (drop 1 bs)

-- the front of these bytes, of which there is one at least
unfoldable pub front_at : List ℕ → Front
front_at bs =
    if slice_index bs 0 == escape then unwrap_or (sequence_at bs) (front_of Lone 1)
    else front_of Text (prefix_len is_plain_byte bs)

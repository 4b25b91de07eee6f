-- Worked examples of the SGR table, of starts and of closes, each by computation.
use Rattle.ansi_style.proofs.Common.{◌≡◌, ℕ, [], ◌∷◌, refl, codes, ◌+◌, Bool, filter, ◌++◌, true, false, Some, length, range_with_len, digits, Bit4, Bit8, Bit24, Rendition, plain_style, known, effect_of_code, perform, apply_parameters, apply, start, close, longest_start, longest_close, longest_start_and_close}
use Rattle.ansi_items.proofs.Tables.{MakesRows}

-- a style in which everything is set
abbrev full_style : Rendition
full_style = record (apply_parameters plain_style (codes "1;2;3;4;5;6;7;8;9;11;20;21;26;38;2;255;255;255;48;2;255;255;255;58;2;255;255;255;51;52;53;60;61;62;63;64;73;74")) {
  reset = true;
  unknown = true;
}

-- the codes below 300 that the table lacks
abbrev is_unknown : ℕ → Bool
is_unknown code = (perform (effect_of_code code) plain_style []).0.unknown

unknown_codes : filter is_unknown (range_with_len 0 300) ≡
    56 ∷ 57 ∷ range_with_len 66 7 ++ range_with_len 76 14 ++ 98 ∷ 99 ∷ range_with_len 108 192
unknown_codes = refl

colors_read : MakesRows (apply_parameters plain_style) (
    (codes "38;7;1", record plain_style { bold = true })  -- no such selector
    ∷ (codes "38", plain_style)
    ∷ (codes "38;5", plain_style)
    ∷ (codes "38;2;1;2", plain_style)
    ∷ (codes "38;5;256", record plain_style { foreground = Some (Bit8 0) })
    ∷ (codes "48;2;023;011;100", record plain_style { background = Some (Bit24 23 11 100) })
    ∷ (codes "38;5;;1", record plain_style { foreground = Some (Bit8 0); bold = true })
    ∷ (codes "58;5;255;4", record plain_style { underline_color = Some (Bit8 255); underline = true })
    ∷ [])
colors_read = refl

empty_fields_and_leading_zeros : MakesRows (apply_parameters plain_style) (
    ([], record plain_style { reset = true })
    ∷ (codes "31;", record plain_style { reset = true })
    ∷ (codes "1;;4", record plain_style { underline = true; reset = true })
    ∷ (codes "38;;1", record plain_style { bold = true })
    ∷ (codes "000", record plain_style { reset = true })
    ∷ (codes "01", record plain_style { bold = true })
    ∷ (codes "0031", record plain_style { foreground = Some (Bit4 31) })
    ∷ (codes "038;05;7", record plain_style { foreground = Some (Bit8 7) })
    ∷ (codes "048;02;1;2;3", record plain_style { background = Some (Bit24 1 2 3) })
    ∷ (codes "099", record plain_style { unknown = true })
    ∷ [])
empty_fields_and_leading_zeros = refl

fields_that_are_no_codes : MakesRows (apply_parameters plain_style) (
    (codes "38:5:1", record plain_style { unknown = true })
    ∷ (codes "1;?2", record plain_style { bold = true; unknown = true })
    ∷ (codes "257", record plain_style { unknown = true })
    ∷ [])
fields_that_are_no_codes = refl

resets_and_unknown_codes : MakesRows (apply_parameters plain_style) (
    (codes "1;0", record plain_style { reset = true })
    ∷ (codes "99;0", record plain_style { reset = true })
    ∷ (codes "0;99", record plain_style { reset = true; unknown = true })
    ∷ [])
resets_and_unknown_codes = refl

sgrs_and_other_sequences : MakesRows (apply plain_style) (
    (codes "\u{1b}[1 m", plain_style)
    ∷ (codes "\u{1b}[>4;2m", plain_style)
    ∷ (codes "\u{1b}[1;31m", record plain_style { bold = true; foreground = Some (Bit4 31) })
    ∷ [])
sgrs_and_other_sequences = refl

-- Starts and closes.

full_start : start full_style ≡ codes "\u{1b}[1m\u{1b}[2m\u{1b}[3m\u{1b}[4m\u{1b}[5m\u{1b}[6m\u{1b}[7m\u{1b}[8m\u{1b}[9m\u{1b}[11m\u{1b}[20m\u{1b}[21m\u{1b}[26m\u{1b}[38;2;255;255;255m\u{1b}[48;2;255;255;255m\u{1b}[58;2;255;255;255m\u{1b}[51m\u{1b}[52m\u{1b}[53m\u{1b}[60m\u{1b}[61m\u{1b}[62m\u{1b}[63m\u{1b}[64m\u{1b}[73m\u{1b}[74m"
unfolding digits
full_start = refl

full_close : close full_style ≡ codes "\u{1b}[0m\u{1b}[10m\u{1b}[22m\u{1b}[23m\u{1b}[24m\u{1b}[25m\u{1b}[27m\u{1b}[28m\u{1b}[29m\u{1b}[39m\u{1b}[49m\u{1b}[50m\u{1b}[54m\u{1b}[55m\u{1b}[65m\u{1b}[59m\u{1b}[75m\u{1b}[0m"
full_close = refl

longest_lengths : MakesRows length ((start full_style, longest_start) ∷ (close full_style, longest_close) ∷ [])
unfolding digits
longest_lengths = refl

both_lengths_together : longest_start + longest_close ≡ longest_start_and_close
both_lengths_together = refl

start_of_colors : start (record plain_style { font = Some 19; foreground = Some (Bit4 97); background = Some (Bit8 7) }) ≡ codes "\u{1b}[19m\u{1b}[97m\u{1b}[48;5;7m"
unfolding digits
start_of_colors = refl

known_forgets_the_two_marks : known (record full_style { bold = false }) ≡ record full_style { bold = false; reset = false; unknown = false }
known_forgets_the_two_marks = refl

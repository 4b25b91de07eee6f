-- The names that most proofs here cite, passed on from one place.
pub use Rattle.std.proofs.Common.{Bool, IfSome, IsFalse, IsTrue, List, None, Option, Some, [], ap, append-nil, append_assoc, ap₂, arith, bit_and, bit_or, bytes_eq, codes, cond, decimal, drop, false, filter, filter_map, flat_map, fold, get_or, if◌then◌else◌, inl, inr, is_some, length, length-append, map, min, nat_eq, nat_le, nat_lt, not, refl, rules, slice_index, subst, suc, sym, take, true, true≢false, w32, zero, ℕ, ◌&&◌, ◌*◌, ◌++◌, ◌+◌, ◌-◌, ◌<◌, ◌==◌, ◌^◌, ◌||◌, ◌∙◌, ◌∷◌, ◌≡◌, ◌≢◌, ◌≤◌}
pub use Rattle.std.proofs.Math.Bool.{and-true, not-not, or-false, or-true, or_assoc, or_self}
pub use Rattle.std.proofs.Math.Nat.{one-mul, zero-mul}
pub use Rattle.std.proofs.Math.Seq.{drop-append_seam, take-append_seam}
pub use Rattle.std.proofs.lemmas.Bool.{agree_below_at, and_from, and_parts, cases_Bool, cases_eq, cases_lt, cond-true, cond_both, eq-eqb, eqb-true, leb-true, lt-leb, lt-ltb, ltb-true, ne_eqb, not-true, or_cases, or_left, or_parts, or_right}
pub use Rattle.std.proofs.lemmas.Bool.Decides.{Decides-below_and, Decides-eqb, Decides-like, nat_tests, same_from_decides}
pub use Rattle.std.proofs.lemmas.Fmt.{length-decimal-le}
pub use Rattle.std.proofs.lemmas.Grind.{common_steps, flat_map-append, put_five, put_six}
pub use Rattle.std.proofs.lemmas.List.{map-append, take_all, take_rest}
pub use Rattle.std.proofs.lemmas.List.Folds.{list_all-append}
pub use Rattle.std.proofs.lemmas.List.Splits.{slice_split-cons_no, slice_split-cons_yes, slice_split_at, slice_split_none}
pub use Rattle.std.proofs.lemmas.List.Sums.{AllPass-from_list_all, fold-append}
pub use Rattle.std.proofs.lemmas.Nat.{and_assoc, and_le_r, pow_pos}
pub use Rattle.std.proofs.lemmas.Nat.Bits.{and_pow, bit_at-lt, bit_at-zero, bit_at_above, bit_at_and, bit_at_not, bit_at_or, same_from_bits}
pub use Rattle.std.proofs.lemmas.Option.{IfSome_then}
pub use Rattle.std.proofs.lemmas.Str.{digit_value_digit}
pub use Rattle.std.specs.Bool.{Decides}
pub use Rattle.std.specs.Char.{digit_value, is_ascii_digit}
pub use Rattle.std.specs.Fmt.{HasWritten, IsPlainFormatter}
unfoldable pub use Rattle.std.specs.Fmt.{digits}
pub use Rattle.std.specs.Int.{bit_at, is_in_range}
pub use Rattle.std.specs.List.{All, AllByRecursion, ends_with, list_all, onto_first, range_with_len, slice_index_or}
pub use Rattle.std.specs.Option.{ForSome, option_cmp, option_map_or, unwrap_or}
pub use Rattle.std.specs.Ordering.{bool_cmp, nat_cmp}
pub use Rattle.std.specs.Prelude.{find}
pub use Rattle.std.specs.Str.{all_ascii_digits, byte}
pub use Rattle.std.specs.Str.Parse.{digits_value_after}
pub use Rattle.ansi_items.proofs.AnsiColorLemmas.{ordering_then-equal, same_ansi_color}
pub use Rattle.ansi_items.proofs.JoinLemmas.{AllStandAnywhere, is_whole-spelled, pieces_of-append, pieces_of-spelled, spelled, stand-append}
pub use Rattle.ansi_items.proofs.PlainLemmas.{one_text, pieces_of-bare}
pub use Rattle.ansi_items.proofs.StepLemmas.{is_mark}
pub use Rattle.ansi_items.specs.AnsiColors.{compared}
pub use Rattle.ansi_items.specs.Bytes.{escape, is_parameter_byte}
pub use Rattle.ansi_items.specs.Pieces.{LoneEscape, Piece, Sequence, Text, after_text, merged, pieces_of, spelling}
pub use Rattle.ansi_items.specs.Plain.{Mark, Placed, has_escape, is_whole, joined, mark_of, marks, marks_of, placed_further_on, places, plain, plain_of, marks_up_to}
pub use Rattle.ansi_items.specs.Sequences.{IsSequence, are_private, is_sgr, sgr_parameters}
pub use Rattle.ansi_items.specs.contracts.ansitok.AnsiColorOrd.TheImpl.{ghosts}
pub use Rattle.ansi_items.specs.declared.ansitok.AnsiColor.{AnsiColor}
pub use Rattle.ansi_items.specs.declared.ansitok.AnsiColor.TheVariants.{Bit24, Bit4, Bit8}
pub use Rattle.ansi_style.specs.Colors.{color_of}
pub use Rattle.ansi_style.specs.Fields.{first_field, with_digit}
pub use Rattle.ansi_style.specs.Orders.{part_of_attribute, part_of_color, part_of_font}
pub use Rattle.ansi_style.specs.Reading.{after_marks, style_after_from, styled_from}
pub use Rattle.ansi_style.specs.Rendition.{IsStyle, Rendition, has_any, has_ideogram_attribute, has_known, is_background, is_extended_color, is_foreground, known, plain_style}
pub use Rattle.ansi_style.specs.Sgr.{Changes, Effect, ReadsColor, Rows, apply, apply_all, apply_parameters, code_of, color_by_number, color_by_parts, color_number, effect_of, effect_of_code, fields_of, is_code, perform, read_color, rows, step, steps, table, unknown_code}
pub use Rattle.ansi_style.specs.States.{has, has_one, with_attributes}
unfoldable pub use Rattle.ansi_style.specs.States.{rendition_of}
pub use Rattle.ansi_style.specs.Styled.{StyledByte, unstyled, residue, style_after, style_at, styled}
pub use Rattle.ansi_style.specs.Written.{close, close_codes, close_if_any, color_code, color_codes, font_codes, longest_close, longest_start, longest_start_and_close, start, start_codes, code_if, written, written_all}
pub use Rattle.ansi_style.specs.declared.state.Style.{Style}
pub use Rattle.ansi_style.specs.declared.state.attributes.Attributes.{Attributes}
pub use Rattle.ansi_style.specs.declared.state.attributes.TheConstants.Attributes.{ENDS, FRAMES, IDEOGRAM, INTENSITY, LETTERS, RARE, SHAPES}
pub use Rattle.ansi_style.specs.declared.state.written.TheConstants.{CLOSE_ENDS, CLOSE_FRAMES, CLOSE_LETTERS, START_FRAMES, START_INTENSITY, START_LETTERS, START_SHAPES}
pub use Rattle.ansi_style.specs.declared.style.color.Color.TheVariants.{Black, Blue, BrightBlack, BrightBlue, BrightCyan, BrightGreen, BrightMagenta, BrightRed, BrightWhite, BrightYellow, Cyan, Fixed, Green, Magenta, Red, Rgb, White, Yellow}

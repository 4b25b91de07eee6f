-- The names that most proofs here cite, passed on from one place.
pub use denote.Enum.Bare.{same_true, sameb}
pub use Rattle.std.proofs.Common.{Bool, IsTrue, List, None, Option, Some, [], ap, append-nil, append_assoc, ap₂, arith, codes, drop, eqb, false, filter, flat_map, get_or, inl, inr, length, length-append, map, not, one-add, refl, replicate, rules, slice_index, subst, suc, sym, take, true, true≢false, zero, ℕ, ⊎_elim, ◌&&◌, ◌*◌, ◌++◌, ◌+◌, ◌-◌, ◌<◌, ◌==◌, ◌||◌, ◌∙◌, ◌∷◌, ◌≡◌, ◌≢◌, ◌≤◌, ◌⊎◌}
pub use Rattle.std.proofs.Math.Seq.{drop-append_seam, take-append_seam}
pub use Rattle.std.proofs.lemmas.Bool.{and_from, and_parts, both_ways, cases_Bool, cases_lt, cond-false, cond-true, cond_both, eqb-false, eqb-true, false_from_ne_true, ne_eqb, not-false, not-true, not_from_false, or_cases, or_from, or_parts}
pub use Rattle.std.proofs.lemmas.Bool.Decides.{nat_tests}
pub use Rattle.std.proofs.lemmas.Grind.{common_steps, flat_map-append}
pub use Rattle.std.proofs.lemmas.List.{drop-drop, drop_all, drop_at, drop_more, drop-append-le, get_or-append-add, get_or-drop, get_or_append_left, get_or_at, get_or_past, length-drop, length-take-le, take-append-drop, take-append-le, take_at, take_rest}
pub use Rattle.std.proofs.lemmas.List.Folds.{length-prefix_len, list_all-append, prefix_len-append}
pub use Rattle.std.proofs.lemmas.List.Sums.{prefix_len-drop_all, prefix_len-drop_no, prefix_len-drop_yes, prefix_len-le-length, prefix_len_is, prefix_len_passes, prefix_len_stops}
pub use Rattle.std.proofs.lemmas.Option.{cond_some, none-some}
pub use Rattle.std.proofs.lemmas.Str.{IsCharBoundary-after_ascii, IsCharBoundary-before_ascii, IsCharBoundary-end, IsCharBoundary-from_rest, IsCharBoundary-start, IsUtf8-append, IsUtf8-drop, IsUtf8-nil, IsUtf8-take}
pub use Rattle.std.specs.Cmp.Lexicographic.{pointwise}
pub use Rattle.std.specs.List.{AllByRecursion, ends_with, list_all, prefix_len, range_with_len, repeat, slice_range}
pub use Rattle.std.specs.Option.{option_map_or}
pub use Rattle.std.specs.Ordering.{nat_cmp, ordering_then}
pub use Rattle.std.specs.Prelude.{if◌then◌else◌, is_some, nat_eq, unwrap_or, ◌↔◌}
pub use Rattle.std.specs.Str.{IsCharBoundary, IsUtf8, byte}
pub use Rattle.std.specs.declared.cmp.Ordering.{Ordering}
pub use Rattle.std.specs.declared.cmp.Ordering.TheVariants.{Equal, Greater, Less}
pub use Rattle.memchr.specs.Find.{IsFirstByte, is_byte, is_byte2}
pub use Rattle.ansi_items.specs.AnsiColors.{ansi_color_key, compared}
pub use Rattle.ansi_items.specs.Bytes.{bell, escape, is_body_byte, is_escape_final_byte, is_final_byte, is_intermediate_byte, is_parameter_byte, is_plain_byte, opens_command, opens_control_sequence, opens_control_string}
pub use Rattle.ansi_items.specs.Counts.{IsScanning, before_bell, before_escape}
pub use Rattle.ansi_items.specs.Fronts.{front_of}
unfoldable pub use Rattle.ansi_items.specs.Fronts.{control_at, escape_at, front_at, sequence_at, string_at}
pub use Rattle.ansi_items.specs.Pieces.{ArePieces, LoneEscape, Piece, Sequence, StandsBefore, Text, after_text, first_piece, first_pieces, merged, pieces_of, spelling, text_or_lone}
pub use Rattle.ansi_items.specs.Plain.{are_whole, has_escape, is_whole, mark_of, marks, plain, plain_bytes, plain_of}
pub use Rattle.ansi_items.specs.Scans.{GivesItem, Scan, kind_of, piece_of, piece_of_kind, pieces_left}
pub use Rattle.ansi_items.specs.Sequences.{IsControlSequence, IsControlString, IsEscapeSequence, IsSequence, after_control_sequence, after_control_string, after_escape, after_escape_sequence, after_one, after_sequence, after_terminator, are_private, is_sgr, sgr_parameters, skip}
pub use Rattle.ansi_items.specs.declared.ansitok.AnsiColor.{AnsiColor}
pub use Rattle.ansi_items.specs.declared.ansitok.AnsiColor.TheVariants.{Bit24, Bit4, Bit8}
pub use Rattle.ansi_items.specs.declared.ansitok.Item.{Item}
pub use Rattle.ansi_items.specs.declared.ansitok.Kind.{Kind}
pub use Rattle.ansi_items.specs.declared.ansitok.Kind.TheVariants.{Lone, Other, Sgr}
pub use Rattle.ansi_items.specs.declared.ansitok.grammar.Front.{Front}

-- The names that most proofs here cite, passed on from one place.
pub use Rattle.std.proofs.Common.{min, ◌≡◌, ◌≢◌, ℕ, zero, suc, ◌+◌, ◌-◌, ◌<◌, ◌≤◌, inl, inr, true, false, List, [], ◌∷◌, ◌++◌, length, map, take, drop, Some, refl, sym, ◌∙◌, ap, ap₂, subst, arith, IsTrue, if◌then◌else◌, nat_lt, nat_le, slice_index, slice_range, length-append, append_assoc, append-nil, Bool, filter, zip, true≢false, ◌%◌, Option, None, option_map, slice_get, ◌||◌, ◌==◌, IsFalse, length-take, not, ◌&&◌, flat_map, is_some, filter_map, nat_eq, max, rules, string_bytes}
pub use Rattle.std.specs.Str.{IsCharBoundary, IsUtf8, chars, encode_utf8_all, all_scalars}
pub use Rattle.std.specs.List.{range_with_len, list_all, AllByRecursion, sum_by, cons_option, starts_with}
pub use Rattle.std.specs.Str.Pattern.{LacksTextAt, HasTextAt, FindsText, IsSplitAtFirstMatch}
unfoldable pub use Rattle.std.specs.Char.{encode_utf8}
pub use Rattle.std.specs.Prelude.{unwrap_or}
pub use Rattle.std.specs.Option.{option_map_or, MatchOption}
pub use Rattle.std.proofs.Math.Seq.{take-nil, take-append_seam, drop-append_seam, take-add}
pub use Rattle.std.proofs.lemmas.Bool.{cases_lt, lt-ltb, le-ltb, cond_both, le-leb, lt-leb, and_parts, and_from, and_right, cond-true, cond-false, not_from_true, leb-true, eqb-true, or_parts, eq-eqb, ne_eqb, or_from, cases_order, eqb-false}
pub use Rattle.std.proofs.lemmas.Bool.Decides.{nat_tests}
pub use Rattle.std.proofs.lemmas.List.{take_all, take-take, take-append-le, take-append-drop, map-append, length-drop, drop-drop, get_or-drop, drop_at, drop_all, length-take-le, get_or_append_left, length-map, get_or-take, take_at, drop-append-le, take_rest}
pub use Rattle.std.proofs.lemmas.List.Elements.{filter-append, filter_agree}
pub use Rattle.std.proofs.lemmas.List.Sums.{fold-append, sum_by-cons, length-filter, count_by-le-length}
pub use Rattle.std.proofs.lemmas.Str.{IsCharBoundary-from_rest, IsCharBoundary-start, IsCharBoundary-end, encodes-chars, scalars-chars, IsCharBoundary-from_drop, IsUtf8-drop, IsCharBoundary-from_take}
pub use Rattle.std.proofs.Math.Bool.{and-true, or-false, or-true, and-false}
pub use Rattle.std.proofs.lemmas.Option.{cond_some, none-some, same_Some}
pub use Rattle.std.proofs.lemmas.List.Folds.{list_any-append}
pub use Rattle.ansi_items.specs.Bytes.{escape, is_plain_byte}
pub use Rattle.ansi_items.specs.Sequences.{IsSequence, is_sgr}
pub use Rattle.ansi_items.specs.Pieces.{Piece, Text, Sequence, LoneEscape, spelling, ArePieces, StandsBefore, pieces_of, after_text, merged}
pub use Rattle.ansi_items.specs.Plain.{Mark, plain_of, plain, marks_of, marks, marks_up_to, has_escape, joined, is_whole, is_other, other_sequences}
pub use Rattle.ansi_items.specs.declared.ansitok.Kind.{Kind}
pub use Rattle.ansi_items.specs.Scans.{pieces_left}
pub use Rattle.ansi_items.proofs.PieceLemmas.{pieces_are, pieces_of-unique, sequence_front}
pub use Rattle.ansi_items.proofs.PlainLemmas.{one_text, one_text_are, plain_of-one_text, has_escape-bare, all_plain_bytes, plain-bare, length-plain}
pub use Rattle.ansi_items.proofs.StepLemmas.{is_mark, plain_of-mark, BeginsWithMark, gives_text, kind_is_text, gives_mark}
pub use Rattle.ansi_items.proofs.JoinLemmas.{spelled, spelled-pieces_of, AllStandAnywhere, pieces_of-spelled, pieces_stand, after_text_are}
pub use Rattle.ansi_items.proofs.Utf8Lemmas.{IsUtf8-plain}
pub use Rattle.ansi_style.specs.Sgr.{apply, apply_all}
pub use Rattle.ansi_style.specs.Reading.{after_marks, style_after_from, style_within}
pub use Rattle.ansi_style.specs.declared.state.rendition.Rendition.{Rendition}
pub use Rattle.ansi_style.specs.Rendition.{IsStyle, plain_style, has_any, known}
pub use Rattle.ansi_style.specs.Written.{close, start, close_if_any, written, start_codes, written_all, close_codes, longest_close, longest_start_and_close}
pub use Rattle.ansi_style.specs.Styled.{style_at, styled, StyledByte, unstyled, style_of}
pub use Rattle.ansi_style.specs.States.{rendition_of}
pub use Rattle.ansi_style.proofs.MarkLemmas.{mark_further_on, marks_of-text, marks_of-mark, marks_up_to-none, marks_up_to-further, after_marks-further, style_by_marks, style_by_marks-before, style_by_marks-text, style_by_marks-mark, marks-bare}
pub use Rattle.ansi_style.proofs.ReadBackLemmas.{AreCodes, code_pieces, start_codes_are, close_codes_are}
pub use Rattle.ansi_style.proofs.DressedLemmas.{dressed_pieces, GiveAlone, IsClosed, closed-spelled, Clears, spelled-dressed_pieces, dressed_pieces_stand, dressed_pieces_give}
pub use Rattle.ansi_style.proofs.StyleLemmas.{IsStyle-plain_style, IsStyle-style_at, IsStyle-rendition_of}
pub use Rattle.ansi_style.proofs.StyledLemmas.{styled_through, style_through, styled_through-append, style_through-append, styled-pieces, unstyled-styled}
pub use Rattle.ansi_style.proofs.UnsetLemmas.{known-unset, start-unset, close_if_any-unset}
pub use Rattle.ansi_search.specs.Positions.{no_character_goes_on, is_char_boundary, is_continuation_byte}
pub use Rattle.ansi_slice.specs.Cut.{interleaved}
pub use Rattle.ansi_split.specs.Parts.{marks_past, without_overlaps, parts, end_before, part, part_over, source_len, carried, all_parts, is_part_borrowed}
pub use Rattle.ansi_search.specs.Matches.{is_match, match_places, first_match_from}
unfoldable pub use Rattle.ansi_split.specs.Parts.{part_from}
pub use Rattle.ansi_search.specs.Offsets.{bytes_before, offset_of}
pub use Rattle.ansi_search.proofs.SliceLemmas.{list_all-parts, take-append, slice_range-none, slice_range-from_past, slice_range-append, slice_range-map, slice_range-past}
pub use Rattle.ansi_slice.proofs.InterleavedLemmas.{interleaved-bare, interleaved-text, interleaved-mark, interleaved-nil}
pub use Rattle.ansi_search.proofs.PositionLemmas.{no_character_goes_on-append, good_is_boundary, char_boundary_is, no_character_goes_on-past, is_char_boundary-from, no_character_goes_on-after}
pub use Rattle.ansi_slice.proofs.CutLemmas.{marks_up_to-marks_past}
pub use Rattle.ansi_search.proofs.OffsetLemmas.{bytes_before-last, bytes_before-mark, bytes_before-text, after_of, after_of-last, after_of-text, take-after, pieces_of-after, plain-after, IsOverText, IsOverMark, over_text, over_mark}
pub use Rattle.ansi_search.proofs.MatchLemmas.{boundary_at, IsMatch, is_match-drop, is_match-after, first_match_from-first, first_match_from-is, empty_at_end, none_at_end, match_fits, first_in_front, is_match-front, starts_with-splits}
pub use Rattle.ansi_slice.proofs.ShownLemmas.{interleaved_pieces, piece_when, at_places, at_places-further, spelled-interleaved_pieces, interleaved_pieces_stand, style_through-interleaved_pieces, styled_through-interleaved_pieces}
pub use Rattle.ansi_split.specs.Spans.{marks_further_on, IsCutAfter, IsCutAtMatch, parts_from, span_part}
unfoldable pub use Rattle.ansi_split.specs.Spans.{parts_left, span_text}
pub use Rattle.ansi_split.specs.StdSplit.{AreBetween, AreInTurn, slices_over, AreSplit, GoesOn}
pub use Rattle.memchr.specs.Find.{NoneBefore, IsFirst, Nowhere, Passes, is_byte}
pub use Rattle.ansi_split.specs.Splits.{CarriedPart, split_part, split_parts}

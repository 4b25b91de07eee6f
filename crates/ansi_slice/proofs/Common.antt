-- The names that most proofs here cite, passed on from one place.
pub use Rattle.std.proofs.Common.{Bool, IsFalse, IsTrue, List, None, Option, Some, [], ap, append-nil, append_assoc, ap₂, arith, codes, cond, drop, false, filter, flat_map, if◌then◌else◌, inl, inr, length, length-append, map, nat_eq, nat_le, nat_lt, not, refl, string_bytes, subst, suc, sym, take, take-add, true, zero, ℕ, ◌&&◌, ◌*◌, ◌++◌, ◌+◌, ◌-◌, ◌<◌, ◌==◌, ◌∙◌, ◌∷◌, ◌≡◌, ◌≢◌, ◌≤◌}
pub use Rattle.std.proofs.Math.Seq.{drop-append_seam, drop-nil, take-append_seam, take-nil}
pub use Rattle.std.proofs.lemmas.Bool.{and_parts, cases_lt, cond-false, cond_both, eqb-false, eqb-true, le-leb, le-ltb, lt-leb, lt-ltb, ne_eqb}
pub use Rattle.std.proofs.lemmas.Bool.Decides.{Decides-eqb, nat_tests}
pub use Rattle.std.proofs.lemmas.Grind.{flat_map-append}
pub use Rattle.std.proofs.lemmas.List.{drop-drop, drop-map, drop_all, drop_min, length-drop, length-map, length-take, take-append-drop, take-append-le, take-map, take_all, take_min}
pub use Rattle.std.proofs.lemmas.Slice.Eq.{ends_is}
pub use Rattle.std.proofs.lemmas.Str.{IsCharBoundary-at_seam, IsCharBoundary-from_drop, IsCharBoundary-from_take, IsUtf8-append, IsUtf8-drop, IsUtf8-take, chars-append, chars-encodes, chars-nil, encodes-append, encodes-chars, length-le-encodes}
pub use Rattle.std.specs.Char.{is_whitespace}
unfoldable pub use Rattle.std.specs.Char.{encode_utf8}
unfoldable pub use Rattle.std.specs.Fmt.{digits}
pub use Rattle.std.specs.List.{ends_with, list_all, range_with_len, slice_range, starts_with}
pub use Rattle.std.specs.Prelude.{encode_utf8_all, unwrap_or}
pub use Rattle.std.specs.Str.{IsCharBoundary, IsUtf8, all_scalars, drop_trailing_whitespace, skip_leading_whitespace, trim}
unfoldable pub use Rattle.std.specs.Str.{chars, trim_end, trim_start}
pub use Rattle.std.specs.Str.Pattern.{FindsTextPrefix, FindsTextSuffix, StripsPrefix, StripsSuffix}
pub use Rattle.ansi_items.proofs.JoinLemmas.{AllStandAnywhere, is_whole-spelled, pieces_stand, spelled, spelled-pieces_of, stand-append}
pub use Rattle.ansi_items.proofs.PieceLemmas.{pieces_are, pieces_of-unique}
pub use Rattle.ansi_items.proofs.PlainLemmas.{length-plain, one_text, pieces_of-bare, plain-bare}
pub use Rattle.ansi_items.proofs.StepLemmas.{BeginsWithMark, gives_text, is_mark, kind_is_text, plain_of-mark}
pub use Rattle.ansi_items.proofs.Utf8Lemmas.{IsUtf8-plain}
pub use Rattle.ansi_items.specs.Bytes.{escape, is_plain_byte}
pub use Rattle.ansi_items.specs.Pieces.{ArePieces, LoneEscape, Piece, Sequence, Text, pieces_of, spelling}
pub use Rattle.ansi_items.specs.Plain.{Mark, Placed, marks_at, copied, has_escape, is_whole, joined, marks, marks_of, placed_further_on, places, plain, plain_bytes, plain_of, marks_up_to}
pub use Rattle.ansi_items.specs.Scans.{GivesItem, Scan, pieces_left}
pub use Rattle.ansi_items.specs.Sequences.{is_sgr}
pub use Rattle.ansi_items.specs.declared.ansitok.Item.{Item}
pub use Rattle.ansi_items.specs.declared.ansitok.Kind.{Kind}
pub use Rattle.ansi_style.proofs.CloseLemmas.{close_codes_clear}
pub use Rattle.ansi_style.proofs.DressedLemmas.{GiveAlone, IsClosed, closed-spelled, dressed_pieces, dressed_pieces_give, dressed_pieces_stand, give-append, give-nothing, spelled-dressed_pieces}
pub use Rattle.ansi_style.proofs.MarkLemmas.{after_marks-further, bytes-further, mark_further_on, map-further-0, map-further-suc, marks-bare, marks_of-mark, marks_of-text, style_by_marks, style_by_marks-before, style_by_marks-mark, style_by_marks-text, marks_up_to-further, marks_up_to-here, marks_up_to-none}
pub use Rattle.ansi_style.proofs.ReadBackLemmas.{close_codes_are, code_pieces, code_pieces_stand, spelled-code_pieces, start_codes_are, style_through-codes, styled_through-codes}
pub use Rattle.ansi_style.proofs.SgrLemmas.{apply-no_sgr}
pub use Rattle.ansi_style.proofs.SpelledLemmas.{residue-spelled, styled-append, styled-spelled}
pub use Rattle.ansi_style.proofs.StyleLemmas.{IsStyle-apply, IsStyle-plain_style}
pub use Rattle.ansi_style.proofs.StyledLemmas.{unstyled-styled, in_style, style_through, style_through-append, styled-pieces, styled_through, styled_through-append}
pub use Rattle.ansi_style.specs.Reading.{after_marks, style_within}
pub use Rattle.ansi_style.specs.Rendition.{IsStyle, known, plain_style}
pub use Rattle.ansi_style.specs.Sgr.{apply}
pub use Rattle.ansi_style.specs.States.{rendition_of}
pub use Rattle.ansi_style.specs.Styled.{StyledByte, unstyled, residue, style_at, style_of, styled}
pub use Rattle.ansi_style.specs.Written.{close, close_codes, longest_close, longest_start, longest_start_and_close, start}
pub use Rattle.ansi_style.specs.declared.state.rendition.Rendition.{Rendition}
pub use Rattle.ansi_slice.specs.Cut.{cut_up_to, interleaved, interleaved_at}
unfoldable pub use Rattle.ansi_slice.specs.Cut.{cut}
pub use Rattle.ansi_slice.specs.Kept.{IsKept, trim_interval, trimmed, without_prefix, without_suffix}
unfoldable pub use Rattle.ansi_slice.specs.Kept.{kept}
pub use Rattle.ansi_slice.specs.Stretches.{KeepsUpTo, sequences_up_to}
pub use Rattle.ansi_search.specs.Offsets.{StandsIn, bytes_before, offset_of}
pub use Rattle.ansi_search.specs.Positions.{no_character_goes_on, is_good_range}
pub use Rattle.ansi_slice.specs.Ranges.{past_inclusive}
pub use Rattle.ansi_slice.specs.Sides.{dressed, left_part, right_part, side_up_to}
unfoldable pub use Rattle.ansi_slice.specs.Sides.{left_side, right_side}

-- The names that most proofs here cite, passed on from one place.
pub use denote.Enum.Bare.{same_false, sameb}
pub use denote.Shadow.{shadow}
pub use denote.Text.{Utf8}
pub use Rattle.std.proofs.Common.{Bool, IsFalse, IsTrue, List, MatchOption, None, Option, Some, [], ap, append_assoc, ap₂, arith, codes, drop, false, filter, if◌then◌else◌, inl, inr, length, length-append, map, max, min, nat_eq, nat_le, nat_lt, not, refl, rules, slice_get, slice_index, subst, suc, sym, take, take-add, true, zero, ℕ, ◌&&◌, ◌*◌, ◌++◌, ◌+◌, ◌-◌, ◌<◌, ◌==◌, ◌^◌, ◌||◌, ◌↔◌, ◌∙◌, ◌∷◌, ◌≡◌, ◌≢◌, ◌≤◌, ◌⊎◌}
pub use Rattle.std.proofs.Math.Bool.{and_assoc}
pub use Rattle.std.proofs.Math.Seq.{drop-append_seam, drop-nil, take-nil}
pub use Rattle.std.proofs.lemmas.Bool.{and_cases, and_from, and_left, and_parts, and_right, cases_eq, cases_lt, cond_both, eq-eqb, eqb-false, eqb-true, le-leb, le-ltb, leb-false, leb-true, lt-leb, lt-ltb, ltb-false, ltb-true, not-true, not_from_false, true≢false}
pub use Rattle.std.proofs.lemmas.Cmp.{nat_eq_equiv}
pub use Rattle.std.proofs.lemmas.List.{drop-append-le, drop-drop, drop-map, drop-take, drop_all, drop_at, get_or-append-add, get_or-append_right, get_or-drop, get_or-take, get_or_append_left, get_or_past, length-drop, length-take, length-take-le, take-append-drop, take-append-le, take-map, take_all, take_at, take_rest}
pub use Rattle.std.proofs.lemmas.List.Folds.{list_all-append}
pub use Rattle.std.proofs.lemmas.Slice.Eq.{bytes_eq-Decides}
pub use Rattle.std.proofs.lemmas.Str.{IsCharBoundary-end, IsCharBoundary-from_drop, IsCharBoundary-from_rest, IsCharBoundary-from_take, IsCharBoundary-start, IsUtf8-drop}
unfoldable pub use Rattle.std.specs.Char.{encode_utf8}
pub use Rattle.std.specs.Cmp.{both_ways}
pub use Rattle.std.specs.Cmp.Lexicographic.{pointwise, same_text}
pub use Rattle.std.specs.List.{ends_with, list_all, range_with_len, slice_range, starts_with}
pub use Rattle.std.specs.Prelude.{IfSome, unwrap_or}
pub use Rattle.std.specs.Str.{IsCharBoundary, IsUtf8}
pub use Rattle.std.specs.Str.Pattern.{FindsText, HasTextAt, LacksTextAt, MatchBeginsAt}
pub use Rattle.memchr.proofs.lemmas.CriticalLemmas.{IsCutPlace-of, NoPeriodBelow-least, NoPeriodBelow-rest}
pub use Rattle.memchr.proofs.lemmas.FindLemmas.{IsFirst-agree, IsFirst-wider, Nowhere-more, Nowhere-then, OccursAt-byte, byte-OccursAt}
pub use Rattle.memchr.proofs.lemmas.MatchLemmas.{OccursAt-from_part, OccursAt-split}
pub use Rattle.memchr.proofs.lemmas.SearchLemmas.{Nowhere-left, Nowhere-right, known-next}
pub use Rattle.memchr.proofs.lemmas.SuffixLemmas.{IsScan, IsScan-accept, IsScan-block, IsScan-end, IsScan-push, IsScan-skip}
pub use Rattle.memchr.specs.Critical.{IsCutPlace, IsPeriod}
pub use Rattle.memchr.specs.Find.{FindsNeedle, IsFirst, Nowhere, OccursAt, Passes, is_byte}
pub use Rattle.memchr.specs.TwoWay.{OccursIn}
pub use Rattle.ansi_items.proofs.JoinLemmas.{after_text_are, spelled}
pub use Rattle.ansi_items.proofs.PieceLemmas.{pieces_are, pieces_of-unique}
pub use Rattle.ansi_items.proofs.PlainLemmas.{all_plain_bytes, length-plain, plain-bare}
pub use Rattle.ansi_items.proofs.StepLemmas.{BeginsWithMark, gives_mark, gives_text, is_mark, kind_is_text, plain_of-mark}
pub use Rattle.ansi_items.proofs.Utf8Lemmas.{IsUtf8-plain}
pub use Rattle.ansi_items.specs.Bytes.{escape, is_plain_byte}
pub use Rattle.ansi_items.specs.Pieces.{ArePieces, LoneEscape, Piece, Sequence, Text, after_text, pieces_of, spelling}
pub use Rattle.ansi_items.specs.Plain.{has_escape, plain, plain_of}
pub use Rattle.ansi_items.specs.Scans.{GivesItem, Scan, pieces_left}
pub use Rattle.ansi_items.specs.contracts.ansitok.Kind.{the_type}
pub use Rattle.ansi_items.specs.declared.ansitok.Item.{Item}
pub use Rattle.ansi_items.specs.declared.ansitok.Kind.{Kind}
pub use Rattle.ansi_style.proofs.MarkLemmas.{style_by_marks, style_by_marks-before, style_by_marks-mark, style_by_marks-text}
pub use Rattle.ansi_style.proofs.SgrLemmas.{apply-no_sgr}
pub use Rattle.ansi_style.specs.Reading.{style_within}
pub use Rattle.ansi_style.specs.Sgr.{apply}
pub use Rattle.ansi_style.specs.States.{rendition_of}
pub use Rattle.ansi_style.specs.declared.state.rendition.Rendition.{Rendition}
pub use Rattle.ansi_search.specs.Offsets.{StandsIn, bytes_before, offset_of}
pub use Rattle.ansi_search.specs.Matches.{first_match_from, is_match}
pub use Rattle.ansi_search.specs.Positions.{is_char_boundary, is_continuation_byte, no_character_goes_on, is_good_position, is_good_range, is_position_in, is_range_in}
pub use Rattle.ansi_search.specs.Searches.{IsWindow, LacksRareByte, IsMismatch, IsCut, IsPoint, IsReached, MatchesBetween, StandsNowhere}
unfoldable pub use Rattle.ansi_search.specs.Searches.{Precedes}
pub use Rattle.ansi_search.specs.declared.search.critical.CriticalCut.{CriticalCut}
pub use Rattle.ansi_search.specs.declared.search.two_way.Point.{Point}
pub use Rattle.ansi_search.specs.declared.search.two_way.Window.{Window}

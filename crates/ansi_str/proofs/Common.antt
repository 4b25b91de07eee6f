-- The names that most proofs here cite, passed on from one place.
pub use Rattle.std.proofs.Common.{◌≡◌, ◌≢◌, ℕ, ◌-◌, min, Bool, true, false, ◌&&◌, ◌||◌, List, [], ◌∷◌, ◌++◌, map, take, drop, length, Option, Some, None, option_map, is_some, refl, sym, ◌∙◌, ap, subst, arith, IsTrue, IsFalse, slice_range, slice_get, nat_eq, append-nil, if◌then◌else◌, codes, ◌↔◌, ◌⊎◌, inl, inr, ◌+◌, ◌<◌, ◌≤◌, get_or, true≢false}
pub use Rattle.std.specs.Prelude.{IfSome, option_and_then, unwrap_or, IsNone}
pub use Rattle.std.specs.List.{starts_with, ends_with, list_any}
unfoldable pub use Rattle.std.specs.Char.{encode_utf8}
pub use Rattle.std.specs.Str.{IsUtf8, trim}
unfoldable pub use Rattle.std.specs.Str.{chars, trim_start, trim_end}
pub use Rattle.std.specs.Option.{option_map_or}
unfoldable pub use Rattle.std.specs.Fmt.{digits}
pub use Rattle.std.specs.Cow.{cow_str_bytes, IsBorrowedStr}
pub use Rattle.std.proofs.lemmas.List.{map-id, take_min, drop_min, length-map, drop_all}
pub use Rattle.std.proofs.lemmas.Bool.{and_parts, and_from, eqb-true, cond-true}
pub use Rattle.ansi_items.specs.Plain.{plain, has_escape, is_whole, are_whole}
pub use Rattle.ansi_items.specs.Pieces.{pieces_of, Sequence, Text, merged, LoneEscape}
pub use Rattle.ansi_items.specs.Scans.{pieces_left}
pub use Rattle.ansi_style.specs.declared.state.rendition.Rendition.{Rendition}
pub use Rattle.ansi_style.specs.Written.{start, close}
pub use Rattle.ansi_style.specs.Styled.{styled, unstyled, StyledByte, residue}
pub use Rattle.ansi_style.specs.Rendition.{plain_style}
pub use Rattle.ansi_style.proofs.StyledLemmas.{unstyled-styled}
pub use Rattle.ansi_search.specs.Positions.{is_good_position, is_good_range}
unfoldable pub use Rattle.ansi_slice.specs.Cut.{cut}
unfoldable pub use Rattle.ansi_slice.specs.Sides.{left_side, right_side}
pub use Rattle.ansi_slice.specs.Kept.{without_prefix, without_suffix, trim_interval, trimmed}
unfoldable pub use Rattle.ansi_slice.specs.Kept.{kept}
pub use Rattle.ansi_split.specs.Parts.{parts, end_before, part, part_over, all_parts}
unfoldable pub use Rattle.ansi_split.specs.Parts.{part_from}
pub use Rattle.ansi_search.proofs.SliceLemmas.{slice_range-none, slice_range-past, slice_range-min, slice_range-map}
pub use Rattle.ansi_slice.proofs.TrimLemmas.{slice_range-trim_interval, trim_interval_boundaries}
pub use Rattle.ansi_slice.proofs.KeptWalkLemmas.{kept-bare, kept-all}
pub use Rattle.ansi_slice.proofs.KeptLemmas.{plain-kept, styled-kept, is_whole-kept, residue-kept, is_kept}
pub use Rattle.ansi_slice.proofs.KeptAsStdLemmas.{plain-without_prefix, plain-without_suffix, plain-trimmed}
pub use Rattle.ansi_slice.proofs.CutSliceLemmas.{styled-cut, is_whole-cut, residue-cut}
pub use Rattle.ansi_slice.proofs.SideSliceLemmas.{left_side_is, right_side_is}
pub use Rattle.ansi_str.specs.Changes.{Change, CutRange, LeftOf, RightOf, PartOf, WithoutPrefix, WithoutSuffix, Trimmed, interval_of, slice_of}
pub use Rattle.ansi_str.specs.Edited.{meaning, changed_text, edited_by, edited, gives_borrow, stay_borrowed, closes, IsSliceNamed}
pub use Rattle.ansi_str.specs.Edits.{change_of, changes_of}
pub use Rattle.ansi_split.proofs.StdSplitLemmas.{parts_are_split, split_is_one}
pub use Rattle.ansi_split.proofs.CharacterLemmas.{slices_over-parts-empty, parts_in_turn}
pub use Rattle.ansi_split.proofs.PartTextLemmas.{map-all_parts, length-parts, plain-all_parts, length-all_parts, plain_parts_are_split, plain-all_parts-empty}

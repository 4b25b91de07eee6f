-- The names that most proofs here cite, passed on from one place.
pub use Rattle.std.proofs.Common.{◌≡◌, refl, codes, [], ◌∷◌, Some, List, ℕ, Bool, true, false, IsTrue, zero, suc, ◌≤◌, ◌+◌, ◌<◌, not, ◌==◌, ◌++◌, map, filter, filter_map, length, sym, ◌∙◌, ap, ap₂, subst, arith, if◌then◌else◌, append_assoc, append-nil, ◌≢◌, flat_map, length-append, rules, string_bytes}
pub use Rattle.std.specs.List.{list_all}
pub use Rattle.std.proofs.lemmas.Bool.Decides.{nat_tests}
pub use Rattle.std.proofs.lemmas.Bool.{and_parts, ne_eqb}
pub use Rattle.ansi_items.specs.Bytes.{escape, is_plain_byte}
pub use Rattle.ansi_items.specs.Sequences.{is_sgr}
pub use Rattle.ansi_items.specs.Pieces.{Piece, Text, Sequence, LoneEscape, ArePieces, first_piece, first_pieces, pieces_of, spelling}
pub use Rattle.ansi_items.specs.Plain.{Mark, Placed, placed_further_on, places, marks_of, joined, has_escape, marks_at, copied, plain_of, plain, is_text}
pub use Rattle.ansi_items.specs.Scans.{pieces_left}
pub use Rattle.ansi_items.proofs.PieceLemmas.{pieces_are}
pub use Rattle.ansi_items.proofs.StepLemmas.{is_mark, BeginsWithMark, gives_text, gives_rest, gives_mark}
pub use Rattle.ansi_style.specs.declared.state.rendition.Rendition.{Rendition}
pub use Rattle.ansi_style.specs.Rendition.{plain_style}
pub use Rattle.ansi_style.specs.Sgr.{apply}
pub use Rattle.ansi_style.specs.Reading.{style_within}
pub use Rattle.ansi_style.specs.States.{rendition_of}
pub use Rattle.ansi_style.proofs.MarkLemmas.{mark_further_on, marks_of-text, marks_of-mark, style_by_marks, style_by_marks-before, style_by_marks-text, style_by_marks-mark}
pub use Rattle.ansi_blocks.specs.Blocks.{Block, blocks, sequences_before, block_after, block_of, runs, without_sgrs}
unfoldable pub use Rattle.ansi_blocks.specs.Blocks.{blocks_from}

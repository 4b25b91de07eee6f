use Rattle.std.proofs.Common.{string_bytes, length}
use denote.Text.{Utf8}
use denote.Shadow.{shadow}
use Rattle.ansi_style.specs.States.{rendition_of}
use Rattle.ansi_restyle.specs.Styles.{codes_of}
use Rattle.ansi_restyle.proofs.CodeListLemmas.{IsJoinedSoFar}
use Rattle.ansi_restyle.proofs.styles.codes_of.Given as goal

-- what is written, and the codes of the sequences that are left, are all
abbrev pub invariant-loop-sequence : goal.invariant-loop-sequence
invariant-loop-sequence g l = record {
  separator_text : shadow (Utf8 l.separator);
  rest_text : shadow (Utf8 l.rest);
  so_far : IsJoinedSoFar (codes_of (rendition_of l.style)) (string_bytes l.codes) l.separator l.rest;
}

abbrev pub decreases-loop-sequence : goal.decreases-loop-sequence
decreases-loop-sequence g l = length l.rest

use Rattle.ansi_slice.proofs.Common.{◌≡◌, ℕ, true, List, sym, ◌∙◌, arith, length, nat_eq, eqb-true, starts_with, plain, plain-bare, IsUtf8-plain, IsUtf8, IsCharBoundary}
use Rattle.ansi_search.proofs.PositionLemmas.{none_if_bad, some_if_good}
use Rattle.ansi_search.proofs.EndLemmas.{starts_with-boundary}
use Rattle.ansi_search.proofs.SliceLemmas.{slice_range-past}
use Rattle.ansi_slice.proofs.KeptWalkLemmas.{kept-all, kept-bare}
use Rattle.ansi_slice.proofs.StretchLemmas.{first_run-starts, first_run-prefix, kept-first_run}
use Rattle.ansi_slice.proofs.slice.kept.strip_prefix_in.Goals as goal

-- without an empty prefix all is kept
pub returns-then-is_empty-clause-bytes : goal.returns-then-is_empty-clause-bytes
returns-then-is_empty-clause-bytes g c = grind (arith, eqb-true, kept-all)

-- a character begins after the prefix
IsCharBoundary-after_prefix : (t p : List ℕ) → IsUtf8 t → IsUtf8 p → starts_with nat_eq (plain t) p ≡ true → IsCharBoundary (plain t) (length p)
IsCharBoundary-after_prefix t p utf8 prefix_utf8 starts = starts_with-boundary (plain t) p (IsUtf8-plain t utf8) prefix_utf8 starts

pub write_from-requires : goal.write_from-requires
write_from-requires g c = IsCharBoundary-after_prefix c.args.text.now c.args.prefix.now c.utf8.text c.utf8.prefix (sym c.starts_with-2.ensures ∙ c.if-not-starts_with-3.false)

-- a text without ESC is its own plain text, and what is left of it is a slice

pub returns-then-not-starts_with-clause-none : goal.returns-then-not-starts_with-clause-none
returns-then-not-starts_with-clause-none g c = grind (arith, none_if_bad, plain-bare)

pub range_from-requires : goal.range_from-requires
range_from-requires g c = grind (arith, starts_with-boundary)

pub returns-then-not-has_any-clause-none : goal.returns-then-not-has_any-clause-none
returns-then-not-has_any-clause-none g c = grind (arith, plain-bare, some_if_good)

pub returns-then-not-has_any-clause-bytes : goal.returns-then-not-has_any-clause-bytes
returns-then-not-has_any-clause-bytes g c = grind (arith, kept-bare, plain-bare, slice_range-past)

-- a prefix that is shorter than the first run ends in it, and what is left are the sequences before that run and the rest

pub write_without-requires-clause-to : goal.write_without-requires-clause-to
write_without-requires-clause-to g c = (
    let is = c.first_run-marks.ensures in
    let starts = first_run-starts c.args.prefix.now is c.if-from-end.true c.as_bytes-then-from-end.ensures.value c.as_bytes-then-from-end-2.ensures.value c.starts_with-then-from-end.ensures.value c.if-not-starts_with-2.false in
    (first_run-prefix c.utf8.text c.utf8.prefix is c.if-from-end.true starts).boundary)

pub returns-then-from-end-clause-bytes : goal.returns-then-from-end-clause-bytes
returns-then-from-end-clause-bytes g c = (
    let is = c.first_run-marks.ensures in
    let starts = first_run-starts c.args.prefix.now is c.if-from-end.true c.as_bytes-then-from-end.ensures.value c.as_bytes-then-from-end-2.ensures.value c.starts_with-then-from-end.ensures.value c.if-not-starts_with-2.false in
    c.in_ok-kept.ensures ∙ kept-first_run c.utf8.text c.utf8.prefix is c.if-from-end.true starts)

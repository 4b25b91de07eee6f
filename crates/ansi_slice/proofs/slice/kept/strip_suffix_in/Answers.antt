use Rattle.ansi_slice.proofs.Common.{◌++◌, length, sym, ◌∙◌, ap₂, arith, eqb-true, plain-bare}
use Rattle.ansi_search.proofs.PositionLemmas.{none_if_bad, some_if_good}
use Rattle.ansi_search.proofs.EndLemmas.{ends_with-boundary}
use Rattle.ansi_slice.proofs.StretchLemmas.{keeps-at}
use Rattle.ansi_slice.proofs.LastRunLemmas.{kept-last_run, last_run-test, last_run-cut}
use Rattle.ansi_slice.proofs.KeptWalkLemmas.{kept-all, kept-bare}
use Rattle.ansi_slice.proofs.slice.kept.strip_suffix_in.Goals as goal

-- without an empty suffix all is kept
pub returns-then-is_empty-clause-bytes : goal.returns-then-is_empty-clause-bytes
returns-then-is_empty-clause-bytes g c = grind (arith, eqb-true, kept-all)

-- a text without ESC is its own plain text, and what is left of it is a slice

pub returns-then-not-ends_with-clause-none : goal.returns-then-not-ends_with-clause-none
returns-then-not-ends_with-clause-none g c = grind (arith, none_if_bad, plain-bare)

pub range-requires-clause-end_boundary : goal.range-requires-clause-end_boundary
range-requires-clause-end_boundary g c = grind (arith, ends_with-boundary)

pub returns-then-not-has_any-clause-none : goal.returns-then-not-has_any-clause-none
returns-then-not-has_any-clause-none g c = grind (arith, plain-bare, some_if_good)

pub returns-then-not-has_any-clause-bytes : goal.returns-then-not-has_any-clause-bytes
returns-then-not-has_any-clause-bytes g c = grind (arith, kept-bare, plain-bare)

-- up to the suffix all is kept, and after that the sequences
pub returns-clause-bytes : goal.returns-clause-bytes
returns-clause-bytes g c = c.in_ok-push_up_to.ensures ∙ ap₂ (λ u v. u ++ v) c.in_ok-kept-2.ensures.bytes (sym (keeps-at c.in-Some.ensures.1).bytes)

-- a suffix that is shorter than the last run begins in it, and what is left are the text before it and the sequences after that run

pub write_without-requires-clause-from : goal.write_without-requires-clause-from
write_without-requires-clause-from g c = (
    let is = c.last_run-start.ensures.run (omega (arith, c.if-from-end.true)) in
    let ends = sym (last_run-test c.args.suffix.now is c.if-from-end.true c.as_bytes-then-from-end.ensures.value c.as_bytes-then-from-end-2.ensures.value c.ends_with-then-from-end.ensures.value) ∙ c.if-not-ends_with-2.false in
    last_run-cut c.utf8.text c.utf8.suffix is c.if-from-end.true ends)

pub returns-then-from-end-clause-bytes : goal.returns-then-from-end-clause-bytes
returns-then-from-end-clause-bytes g c = (
    let is = c.last_run-start.ensures.run (omega (arith, c.if-from-end.true)) in
    c.in_ok-kept.ensures ∙ sym (kept-last_run c.args.text.now c.last_run-start.result.0 c.last_run-start.result.1 is (omega (arith, c.if-from-end.true)) (length c.args.suffix.now) (omega (arith, c.if-from-end.true))))

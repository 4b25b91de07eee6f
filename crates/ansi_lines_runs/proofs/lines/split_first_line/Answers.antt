use Rattle.std.proofs.Common.{◌≡◌, ◌∙◌, ap, arith, get_or, take, Some}
use Rattle.std.proofs.lemmas.Bool.{eqb-true}
use Rattle.std.proofs.lemmas.Bool.Decides.{nat_tests}
use Rattle.std.proofs.lemmas.Str.{IsCharBoundary-after_ascii}
use Rattle.memchr.specs.Find.{IsFirstByte, is_byte}
use Rattle.ansi_lines_runs.specs.Lines.{line_feed}
use Rattle.ansi_lines_runs.proofs.LineLemmas.{lines-first, lines-last}
use Rattle.ansi_lines_runs.proofs.lines.split_first_line.Goals as goal

-- a character begins after a line feed
pub range_from-requires : goal.range_from-requires
range_from-requires c =
    let found : IsFirstByte (is_byte line_feed) c.args.text.now (Some c.in-Some.end) = rw c.as_bytes.ensures.value at c.in-Some.ensures in
    let ascii = eqb-true (get_or c.args.text.now c.in-Some.end 0) line_feed found.1 in
    λ _. IsCharBoundary-after_ascii c.args.text.now c.in-Some.end c.utf8.text found.0.high (omega (arith, ascii))

pub returns-in-Some-clause-first : goal.returns-in-Some-clause-first
returns-in-Some-clause-first c =
    let line : c.range.result.now ≡ take c.in-Some.end c.args.text.now = c.range.ensures.value ∙ ap (λ k. take k c.args.text.now) (omega arith) in
    rw (line, c.range_from.ensures.value) (lines-first c.args.text.now c.in-Some.end (rw c.as_bytes.ensures.value at c.in-Some.ensures))

pub returns-in-None-clause-first : goal.returns-in-None-clause-first
returns-in-None-clause-first c =
    lines-last c.args.text.now (rw c.as_bytes.ensures.value at c.in-None.ensures) (grind (arith, nat_tests, c.if-is_empty.false, c.is_empty.ensures))

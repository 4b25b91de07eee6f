use Rattle.std.proofs.Common.{◌≡◌, ◌+◌, length, drop, slice_index, sym, ◌∙◌, ap, arith}
use Rattle.std.proofs.lemmas.Bool.{eqb-true}
use Rattle.std.proofs.lemmas.List.{take_rest}
use Rattle.std.proofs.lemmas.List.Sums.{prefix_len-le-length}
use Rattle.ansi_items.specs.Bytes.{is_plain_byte}
use Rattle.ansi_items.specs.Counts.{before_escape}
use Rattle.ansi_items.proofs.EscapeLemmas.{escape_found}
use Rattle.ansi_clusters.proofs.StepLemmas.{escape-past, escape-first}
use Rattle.ansi_clusters.proofs.steps.run_len.Goals.{then-is_empty-via-then-is_empty, then-is_empty-via-else-is_empty+then-others-eq-ESC}
use Rattle.ansi_clusters.proofs.steps.run_len.Goals as goal

-- nothing follows, or the next ESC does
pub returns-then-is_empty : goal.returns-then-is_empty
returns-then-is_empty c =
    let bytes = c.args.bytes.now in
    let n = c.args.printable in
    let rest = take_rest bytes n in
    let past : before_escape bytes ≡ n + before_escape (drop n bytes) = escape-past bytes ∙ ap (λ n. n + before_escape (drop n bytes)) (sym c.requires.printable) in
    elim c.then-is_empty.branch [
      | then-is_empty-via-then-is_empty w ↦ (
          let none : length (drop n bytes) ≡ 0 = ap length (sym rest) ∙ eqb-true _ 0 (sym c.is_empty.ensures ∙ w.if-is_empty.true) in
          omega (arith, past, none, prefix_len-le-length is_plain_byte (drop n bytes)))
      | then-is_empty-via-else-is_empty+then-others-eq-ESC w ↦ (
          let first : slice_index (drop n bytes) 0 ≡ 0x1B = ap (λ v. slice_index v 0) (sym rest) ∙ w.if-others-eq-ESC.true in
          let none : before_escape (drop n bytes) ≡ 0 = escape-first (drop n bytes) first in
          omega (arith, past, none))
    ]

-- another byte follows
pub returns : goal.returns
returns c =
    ap (λ n. c.args.printable + n) (c.unwrap_or.ensures ∙ escape_found _ c.memchr.result c.memchr.ensures ∙ ap before_escape (take_rest c.args.bytes.now c.args.printable))
    ∙ ap (λ n. n + before_escape (drop n c.args.bytes.now)) c.requires.printable ∙ sym (escape-past c.args.bytes.now)

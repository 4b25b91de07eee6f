use Rattle.std.proofs.Common.{◌≡◌, ◌++◌, length, encode_utf8, sym, ◌∙◌, ap}
use Rattle.std.specs.Str.{chars}
use Rattle.std.proofs.lemmas.Bool.{eqb-true, eqb-false}
use Rattle.ansi_clusters.proofs.FromEndLemmas.{nothing_left, last_char}
use Rattle.ansi_clusters.proofs.from_end.split_last_char.Goals.{then-runs-test+else-not-is_empty, else-runs-test}
use Rattle.ansi_clusters.proofs.from_end.split_last_char.Goals as goal

pub returns-in_err-last-clause-chars : goal.returns-in_err-last-clause-chars
returns-in_err-last-clause-chars c =
    let run_none : length c.runs.run.now ≡ 0 = ap length (sym c.chars-chars.ensures.rest) ∙ c.in_err-last.ensures.steps.0 in
    let rest_none : length c.runs.rest.now ≡ 0 = elim c.runs-test.branch [
      | then-runs-test+else-not-is_empty w ↦ eqb-true _ 0 (sym w.is_empty-in-runs.ensures ∙ w.if-not-is_empty.false)
      | else-runs-test w ↦ absurd (eqb-false _ 0 (sym c.is_empty.ensures ∙ w.runs-test.false) run_none)
    ] in
    rw c.from_residual.ensures (ap chars (sym c.runs.invariant.bytes) ∙ nothing_left c.runs.rest.now c.runs.run.now rest_none run_none)

pub returns-clause-chars : goal.returns-clause-chars
returns-clause-chars c =
    let inv = c.runs.invariant in
    let run : c.runs.run.now ≡ c.as_str.result.now ++ encode_utf8 c.in_ok-last.last
    = sym c.chars-chars.ensures.rest ∙ c.in_ok-last.ensures.steps ∙ ap (λ u. u ++ encode_utf8 c.in_ok-last.last) (sym c.as_str.ensures) in
    ap chars (sym inv.bytes) ∙ last_char c.runs.rest.now c.runs.run.now c.as_str.result.now c.in_ok-last.last inv.rest_utf8 inv.run_utf8 c.as_str.utf8 run

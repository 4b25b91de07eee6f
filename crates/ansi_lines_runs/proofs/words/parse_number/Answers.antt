use Rattle.std.proofs.Common.{◌∙◌, sym, ap, arith, ◌==◌}
use Rattle.std.proofs.lemmas.Bool.{false≢true, eqb-true}
use Rattle.ansi_lines_runs.proofs.WordLemmas.{field_number-parsed, field_number-signed}
use Rattle.ansi_lines_runs.proofs.words.parse_number.Goals as goal

-- a plus is in front
pub returns-then-starts_with : goal.returns-then-starts_with
returns-then-starts_with c =
    sym (field_number-signed c.args.field.now (eqb-true _ 43 (sym (c.if-starts_with.ensures.byte (omega arith) (omega arith) (λ w o found. found)))))

-- std's reading, if no plus is in front
pub returns : goal.returns
returns c =
    c.ok.ensures.value
    ∙ field_number-parsed c.args.field.now c.parse.result
    (λ plus. false≢true (c.if-starts_with.ensures.byte (omega arith) (omega arith) (λ w o found. found) ∙ ap (λ b. b == 43) plus))
    c.parse.ensures.value.0

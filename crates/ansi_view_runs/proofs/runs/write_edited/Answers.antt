use Rattle.std.proofs.Common.{◌∙◌, sym, length}
use Rattle.std.specs.Cow.{cow_str_bytes}
use Rattle.std.proofs.lemmas.Bool.{eqb-true}
use Rattle.std.proofs.lemmas.List.{nil_from_length}
use Rattle.ansi_view_runs.proofs.StageLemmas.{last-line}
use Rattle.ansi_view_runs.proofs.runs.write_edited.Goals as goal

-- without a wrap
pub returns-then-is_empty : goal.returns-then-is_empty
returns-then-is_empty g c =
    let job = c.args.job.now in
    let given = c.as_slice-stages.result.now in
    let none = sym c.as_slice-stages.ensures.value ∙ nil_from_length given (eqb-true (length given) 0 (sym c.is_empty.ensures ∙ c.if-is_empty.true)) in
    let becomes = last-line job.stages.items c.as_slice.result.now job.last.items (cow_str_bytes c.args.text) (cow_str_bytes c.in_ok-edited.edited) c.args.end.now none c.as_slice.ensures.value c.in_ok-edited.ensures.bytes in
    rw becomes at c.write_at_once.ensures

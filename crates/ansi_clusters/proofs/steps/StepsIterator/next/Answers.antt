use Rattle.std.proofs.Common.{ap, subst, arith, length, drop, take, ◌-◌}
use Rattle.std.specs.Str.{IsUtf8}
use Rattle.std.proofs.lemmas.List.Sums.{prefix_len-le-length}
use Rattle.ansi_safe.specs.Safe.{is_printable_byte}
use Rattle.ansi_clusters.proofs.StepLemmas.{run-gives}
use Rattle.ansi_clusters.proofs.steps.StepsIterator.next.Goals as goal

pub run_len-requires-clause-inside : goal.run_len-requires-clause-inside
run_len-requires-clause-inside c =
    let bytes = c.as_bytes-bytes.result.now in
    omega (arith, c.printable_len-printable.ensures, prefix_len-le-length is_printable_byte (take (length bytes - c.self.inside.offset) (drop c.self.inside.offset bytes)))

-- over a run

pub overflow_add-self : goal.overflow_add-self
overflow_add-self c =
    let step = run-gives c.self.inside.text.now c.as_bytes-bytes.result.now c.self.inside.offset c.printable_len-printable.result c.run_len.result c.as_bytes-bytes.ensures.value (subst IsUtf8 c.as_bytes-bytes.ensures.value c.as_bytes-bytes.ensures.utf8) c.self.invariant c.if-start-bytes.false c.if-bytes-start-eq-ESC.false c.printable_len-printable.ensures c.run_len.ensures in
    omega (arith, step.gives.end_boundary.0, c.self.told.0)

pub invariant_of-self-2 : goal.invariant_of-self-2
invariant_of-self-2 c =
    let step = run-gives c.self.inside.text.now c.as_bytes-bytes.result.now c.self.inside.offset c.printable_len-printable.result c.run_len.result c.as_bytes-bytes.ensures.value (subst IsUtf8 c.as_bytes-bytes.ensures.value c.as_bytes-bytes.ensures.utf8) c.self.invariant c.if-start-bytes.false c.if-bytes-start-eq-ESC.false c.printable_len-printable.ensures c.run_len.ensures in
    step.gives.end_boundary

pub returns-clause-steps : goal.returns-clause-steps
returns-clause-steps c =
    let step = run-gives c.self.inside.text.now c.as_bytes-bytes.result.now c.self.inside.offset c.printable_len-printable.result c.run_len.result c.as_bytes-bytes.ensures.value (subst IsUtf8 c.as_bytes-bytes.ensures.value c.as_bytes-bytes.ensures.utf8) c.self.invariant c.if-start-bytes.false c.if-bytes-start-eq-ESC.false c.printable_len-printable.ensures c.run_len.ensures in
    rw (← c.self.view_is) step

pub returns-clause-goes : goal.returns-clause-goes
returns-clause-goes c =
    let step = run-gives c.self.inside.text.now c.as_bytes-bytes.result.now c.self.inside.offset c.printable_len-printable.result c.run_len.result c.as_bytes-bytes.ensures.value (subst IsUtf8 c.as_bytes-bytes.ensures.value c.as_bytes-bytes.ensures.utf8) c.self.invariant c.if-start-bytes.false c.if-bytes-start-eq-ESC.false c.printable_len-printable.ensures c.run_len.ensures in
    let fewer = ap length step.gives.piece in
    rw (← c.self.view_is) (record { on = λ _. (tt, tt, omega arith); keeps = tt; rests = λ _. tt })

use Rattle.std.proofs.Common.{◌≡◌, ◌∙◌, ap, sym, subst, arith, length, [], string_bytes}
use Rattle.std.specs.Io.KnownBytes.{append_known}
use Rattle.std.proofs.lemmas.Bool.{eqb-true}
use Rattle.std.proofs.lemmas.Bool.Decides.{nat_tests}
use Rattle.std.proofs.lemmas.List.{nil_from_length}
use Rattle.ansi_io.proofs.Known.{append_known-nil}
use Rattle.ansi_view_runs.specs.SafeJobs.{work_of}
use Rattle.ansi_view_runs.specs.Lines.{HasNoLineFeed}
use Rattle.ansi_view_runs.specs.Runs.{to_come}
use Rattle.ansi_view_runs.proofs.Shown.{to_come-nothing, to_come-last}
use Rattle.ansi_view_runs.proofs.runs.write_last.Goals.{then-not-is_empty+in_ok-write_line, else-not-is_empty}
use Rattle.ansi_view_runs.proofs.runs.write_last.Goals as goal

-- the bytes held are the last line, or none
pub returns-clause-done : goal.returns-clause-done
returns-clause-done g c =
    let work = work_of c.args.job.now in
    let opening = string_bytes c.args.held.now.opening in
    let b = c.args.held.now.rest.items in
    let old = g.W.Sink.taken c.args.output.now in
    let text = c.as_slice-text.result.now in
    let is : text ≡ b = c.as_slice-text.ensures.value in
    let taken : g.W.Sink.taken c.if-not-is_empty.output ≡ append_known old (to_come work opening b []) =
    elim c.if-not-is_empty.branch [
      | then-not-is_empty+in_ok-write_line w ↦ rw w.output-is (w.in_ok-write_line.ensures.written.all
          ∙ ap (append_known old) (sym (to_come-last work opening text (grind (arith, nat_tests, w.if-not-is_empty.true, c.is_empty.ensures)) (subst HasNoLineFeed (sym is) c.requires.0) (omega (arith, c.requires.1, ap length is)))
          ∙ ap (λ t. to_come work opening t []) is))
      | else-not-is_empty w ↦ rw w.output-is (let none : b ≡ [] = sym is ∙ nil_from_length text (eqb-true (length text) 0 (sym w.if-not-is_empty.ensures)) in
          sym (ap (append_known old) (ap (λ t. to_come work opening t []) none ∙ to_come-nothing work opening) ∙ append_known-nil old))
    ] in
    c.in_ok-flush.ensures.taken ∙ taken

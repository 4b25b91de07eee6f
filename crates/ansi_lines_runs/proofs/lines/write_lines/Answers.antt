use Rattle.std.proofs.Common.{rules, ◌≡◌, ◌∙◌, sym, arith, refl, ◌++◌, ◌∷◌, [], Some, if◌then◌else◌}
use Rattle.std.specs.Io.KnownBytes.{append_known}
use Rattle.ansi_lines_runs.specs.Jobs.{work_of}
use Rattle.ansi_lines_runs.specs.Lines.{Line, line_feed, answers, first_refused}
use Rattle.ansi_io.proofs.Known.{append_known-nil, append_known-twice}
use Rattle.ansi_lines_runs.proofs.Written.{HasWritten-start, HasWritten-more, HasWritten-all, flag_unchanged}
use Rattle.ansi_lines_runs.proofs.LineLemmas.{line-answered, line-refused, answers-none}
use Rattle.ansi_lines_runs.proofs.lines.write_lines.Given.{Over}
use Rattle.ansi_lines_runs.proofs.lines.write_lines.Goals.{then-ended+in_ok-write, else-ended}
use Rattle.ansi_lines_runs.proofs.lines.write_lines.Goals as goal

-- nothing is written
pub loop-line-init : goal.loop-line-init
loop-line-init g c = record {
  text = search rules;
  written = HasWritten-start _ _;
  none_refused = refl;
  counted = omega arith;
  flushes = refl;
  unfailed = refl;
}

-- the first line's result and its line feed are written, and the results of the other lines aren't
pub loop-line-preserved : goal.loop-line-preserved
loop-line-preserved g c =
    let work = work_of c.args.job.now in
    let before = c.write_answer.new.output in
    let after = c.if-ended.output in
    let line : Line = record { text = c.in-Some.line.now; ended = c.in-Some.ended } in
    let (answer, wrote, splits, goes_on) = line-answered _ _ work c.loop-line.number c.loop-line.rest.now line c.in-Some.more.now c.in-Some.ensures.first c.if-not-branch.false c.in_ok-write_answer.ensures.done in
    let (taken, same_flushes, same_failed) : (g.W.Sink.taken after ≡ append_known (g.W.Sink.taken before) (if line.ended then line_feed ∷ [] else []))
    × (g.W.Sink.flushes after ≡ g.W.Sink.flushes before) × (g.W.Sink.failed after ≡ g.W.Sink.failed before) =
    elim c.if-ended.branch [
      | then-ended+in_ok-write w ↦ rw (w.output-is, w.if-ended.true) (w.in_ok-write.ensures.taken, w.in_ok-write.ensures.flushes, flag_unchanged _ _ w.in_ok-write.ensures.failed)
      | else-ended w ↦ rw (w.output-is, w.if-ended.false) (sym (append_known-nil _), refl, refl)
    ] in
    record {
      text = search rules;
      written = HasWritten-more {all = answers work c.args.text.now} _ (answer ++ (if line.ended then line_feed ∷ [] else [])) _ c.loop-line.invariant.written (append_known-twice _ answer _ wrote taken) splits;
      none_refused = c.loop-line.invariant.none_refused ∙ goes_on;
      counted = omega (arith, c.in-Some.ensures.shorter);
      flushes = same_flushes ∙ c.in_ok-write_answer.ensures.flushes ∙ c.loop-line.invariant.flushes;
      unfailed = same_failed ∙ c.in_ok-write_answer.ensures.unfailed ∙ c.loop-line.invariant.unfailed;
    }

-- a line is refused: nothing of it or after it is written
nothing_after_a_refused_line : (g : Over) (c : goal.Then-not-branch g)
    → (g.W.Sink.taken c.write_answer.new.output ≡ g.W.Sink.taken c.loop-line.output) × (answers (work_of c.args.job.now) c.loop-line.rest.now ≡ []) × (first_refused c.loop-line.number (work_of c.args.job.now) c.loop-line.rest.now ≡ Some c.loop-line.number)
nothing_after_a_refused_line g c =
    line-refused _ _ (work_of c.args.job.now) c.loop-line.number c.loop-line.rest.now (record { text = c.in-Some.line.now; ended = c.in-Some.ended }) c.in-Some.more.now
    c.in-Some.ensures.first c.if-not-branch.true c.in_ok-write_answer.ensures.done

pub returns-then-not-branch-clause-done : goal.returns-then-not-branch-clause-done
returns-then-not-branch-clause-done g c =
    let (kept, none, number) = nothing_after_a_refused_line g c in
    HasWritten-all {all = answers (work_of c.args.job.now) c.args.text.now} c.loop-line.invariant.written kept none

pub returns-then-not-branch-clause-refused : goal.returns-then-not-branch-clause-refused
returns-then-not-branch-clause-refused g c =
    let (kept, none, number) = nothing_after_a_refused_line g c in
    rw (c.loop-line.invariant.none_refused, number)

-- no line is left
pub returns-clause-done : goal.returns-clause-done
returns-clause-done g c =
    HasWritten-all {all = answers (work_of c.args.job.now) c.args.text.now} c.loop-line.invariant.written refl (answers-none (work_of c.args.job.now) c.loop-line.number c.loop-line.rest.now c.in_default.ensures.none).0

pub returns-clause-refused : goal.returns-clause-refused
returns-clause-refused g c =
    sym (c.loop-line.invariant.none_refused ∙ (answers-none (work_of c.args.job.now) c.loop-line.number c.loop-line.rest.now c.in_default.ensures.none).1)

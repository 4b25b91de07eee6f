use Rattle.std.proofs.Common.{◌≡◌, ◌+◌, ◌∙◌, arith, refl, rules, inl, inr, take, string_bytes}
use Rattle.std.specs.Io.KnownBytes.{IsAtEnd}
use Rattle.ansi_lines_runs.proofs.Written.{flag_unchanged}
use Rattle.ansi_view_runs.specs.SafeJobs.{work_of}
use Rattle.ansi_view_runs.specs.Runs.{HasViewed}
use Rattle.ansi_view_runs.proofs.Viewed.{HasViewed-start, HasViewed-read, HasViewed-then, views_front, views_all, views_beginning, views_same, flags_then, failed_now, interrupted_now, nothing_taken, nothing_given}
use Rattle.ansi_view_runs.proofs.runs.view_all.Goals.{in-Ok+in_ok-take_bytes-in-Ok, in-Err-Interrupted}
use Rattle.ansi_view_runs.proofs.runs.view_all.Goals as goal

-- nothing is read, and nothing is written
pub loop-turn-init : goal.loop-turn-init
loop-turn-init g c = record {
  viewed = rw (c.new.ensures.bytes, c.new-2.ensures.items) (HasViewed-start (work_of c.args.job.now) _ _);
  no_line_feed = rw c.new-2.ensures.items refl;
  fits = rw c.new-2.ensures.items (omega arith);
  unfailed = refl;
  flags = record { failed = refl; closed = refl };
  reads = omega arith;
  flushes = omega arith;
  room = refl;
}

-- the end of the input
pub returns-in-Ok-eq0-clause-done : goal.returns-in-Ok-eq0-clause-done
returns-in-Ok-eq0-clause-done g c =
    let inv = c.loop-turn.invariant in
    let gave = c.in-Ok-eq0.ensures.bytes in
    let none : c.in-Ok-eq0.field-0 ≡ 0 = c.in-Ok-eq0.field-0-test in
    let end : IsAtEnd (g.S.Source.left c.read.new.self) = gave.1 none (omega (arith, inv.room, c.read.auto.room)) in
    let same = nothing_given _ (g.S.Source.left c.read.new.self) c.in-Ok-eq0.field-0 c.read.new.room none gave.0 in
    let now : HasViewed (work_of c.args.job.now) (string_bytes c.loop-turn.held.opening) c.loop-turn.held.rest.items (g.S.Source.left c.args.input.now) (g.S.Source.left c.read.new.self) (g.W.Sink.taken c.args.output.now) (g.W.Sink.taken c.loop-turn.output) =
    rw same inv.viewed in
    views_all now end c.in_ok-write_last-in-Ok-eq0.ensures.done

-- the bytes read so far are a front of the input
pub returns-in-Err-Failed-clause-read_failed : goal.returns-in-Err-Failed-clause-read_failed
returns-in-Err-Failed-clause-read_failed g c =
    let inv = c.loop-turn.invariant in
    let wrote = c.in_ok-write_last-in-Err-Failed.ensures in
    λ is. (
      inl (failed_now _ _ c.in-Err-Failed.field-0 c.in-Err-Failed.field-0-is c.in-Err-Failed.ensures.failed),
      views_front inv.viewed wrote.done,
      wrote.flushed,
      flags_then inv.flags wrote.flags,
    )

pub returns-clause-read_failed : goal.returns-clause-read_failed
returns-clause-read_failed g c =
    let inv = c.loop-turn.invariant in
    let wrote = c.in_ok-write_last.ensures in
    λ is. (inr (omega (arith, inv.reads)), views_front inv.viewed wrote.done, wrote.flushed, flags_then inv.flags wrote.flags)

-- memory runs out
pub returns-in_err-take_bytes-in-Ok-clause-out_of_memory : goal.returns-in_err-take_bytes-in-Ok-clause-out_of_memory
returns-in_err-take_bytes-in-Ok-clause-out_of_memory g c =
    let inv = c.loop-turn.invariant in
    let output = c.take_bytes.new.output in
    let so_far = HasViewed-read (take c.in-Ok.count c.read.new.room) _ inv.viewed c.in-Ok.ensures.bytes.0 in
    search (rules, views_beginning {new = g.W.Sink.taken output} so_far, flags_then {failed_new = g.W.Sink.failed output} {closed_new = g.W.Sink.closed output} inv.flags)

pub returns-in_err-write_last-in-Err-Failed-clause-out_of_memory : goal.returns-in_err-write_last-in-Err-Failed-clause-out_of_memory
returns-in_err-write_last-in-Err-Failed-clause-out_of_memory g c =
    let inv = c.loop-turn.invariant in
    let output = c.write_last-in-Err-Failed.new.output in
    search (rules, views_same {new = g.W.Sink.taken output} inv.viewed, flags_then {failed_new = g.W.Sink.failed output} {closed_new = g.W.Sink.closed output} inv.flags)

pub returns-in_err-write_last-clause-out_of_memory : goal.returns-in_err-write_last-clause-out_of_memory
returns-in_err-write_last-clause-out_of_memory g c =
    let inv = c.loop-turn.invariant in
    let output = c.write_last-2.new.output in
    search (rules, views_same {new = g.W.Sink.taken output} inv.viewed, flags_then {failed_new = g.W.Sink.failed output} {closed_new = g.W.Sink.closed output} inv.flags)

pub returns-in_err-write_last-in-Ok-eq0-clause-out_of_memory : goal.returns-in_err-write_last-in-Ok-eq0-clause-out_of_memory
returns-in_err-write_last-in-Ok-eq0-clause-out_of_memory g c =
    let inv = c.loop-turn.invariant in
    let output = c.write_last.new.output in
    search (rules, views_same {new = g.W.Sink.taken output} inv.viewed, flags_then {failed_new = g.W.Sink.failed output} {closed_new = g.W.Sink.closed output} inv.flags)

-- each turn makes one read, and one flush at most
pub returns-in_err-take_bytes-in-Ok-clause-most_flushes : goal.returns-in_err-take_bytes-in-Ok-clause-most_flushes
returns-in_err-take_bytes-in-Ok-clause-most_flushes g c =
    let inv = c.loop-turn.invariant in
    record {
      reads = c.loop-turn._turn + 1;
      counted = omega (arith, c.read.ensures.reads, inv.reads);
      most = elim c.take_bytes.ensures.most_flushes [ inl same ↦ omega (arith, same, inv.flushes) | inr one ↦ omega (arith, one, inv.flushes) ];
    }

-- one more turn
pub loop-turn-preserved : goal.loop-turn-preserved
loop-turn-preserved g c =
    let inv = c.loop-turn.invariant in
    elim c.match-read.branch [
      | in-Ok+in_ok-take_bytes-in-Ok w ↦ rw (w.output-is, w.held-is) (
          let took = w.in_ok-take_bytes-in-Ok.ensures in
          record {
            viewed = HasViewed-then (HasViewed-read (take w.in-Ok.count c.read.new.room) _ inv.viewed w.in-Ok.ensures.bytes.0) took.done;
            no_line_feed = took.rest.0;
            fits = omega (arith, took.rest.1);
            unfailed = flag_unchanged _ _ w.in-Ok.ensures.failed ∙ inv.unfailed;
            flags = flags_then inv.flags took.flags;
            reads = omega (arith, c.read.ensures.reads, inv.reads);
            flushes = omega (arith, took.flushes, inv.flushes);
            room = omega (arith, inv.room, c.read.auto.room);
          })
      | in-Err-Interrupted w ↦ rw (w.output-is, w.held-is) (record {
        viewed = rw (nothing_taken _ _ w.in-Err-Interrupted.field-0 _ w.in-Err-Interrupted.field-0-is w.in-Err-Interrupted.ensures.bytes) inv.viewed;
        no_line_feed = inv.no_line_feed;
        fits = inv.fits;
        unfailed = interrupted_now _ _ w.in-Err-Interrupted.field-0 w.in-Err-Interrupted.field-0-is w.in-Err-Interrupted.ensures.failed ∙ inv.unfailed;
        flags = inv.flags;
        reads = omega (arith, c.read.ensures.reads, inv.reads);
        flushes = omega (arith, inv.flushes);
        room = omega (arith, inv.room, c.read.auto.room);
      })
    ]

use Rattle.std.proofs.Common.{◌≡◌, ◌+◌, ◌-◌, [], subst, arith}
use Rattle.ansi_clusters.specs.BreakStates.{break_state_of}
use Rattle.ansi_clusters.specs.Walks.{IsPastByte}
use Rattle.ansi_clusters.proofs.PrintableLemmas.{IsPrintable-front, printable-shorter}
use Rattle.ansi_clusters.proofs.walks.Walk.past_run.Goals as goal

pub ends_ascii-requires : goal.ends_ascii-requires
ends_ascii-requires c = (c.requires.walk.0, c.next_run-next.ensures.walk c.requires.walk.0 c.requires.walk.1)

pub past_printable-requires-clause-ahead : goal.past_printable-requires-clause-ahead
past_printable-requires-clause-ahead c some =
    let w = c.args.self in
    let len = w.run_end - w.offset in
    printable-shorter len (len - 1) c.requires.walk.1 (omega arith) c.requires.bytes (omega (arith, c.requires.some))

-- all but the last byte
pub returns-clause-past : goal.returns-clause-past
returns-clause-past c =
    let w = c.args.self in
    let len = w.run_end - w.offset in
    let past = c.past_printable.ensures in
    record {
      front = IsPrintable-front (len - 1) c.requires.walk.1 (λ some. printable-shorter len (len - 1) c.requires.walk.1 (omega arith) c.requires.bytes (omega (arith, c.requires.some)));
      walk = past.walk;
      position = past.position;
      clusters = past.clusters;
      seen = past.seen;
    }

pub returns-clause-next : goal.returns-clause-next
returns-clause-next c view is some =
    let w = c.args.self in
    let t = c.args.text.now in
    let here = c.past_printable.result in
    let next = c.next_run-next.result in
    let more = c.next_run-next.ensures in
    let place : next.position ≡ here.position + 1 = omega (arith, c.past_printable.ensures.position, more.position, c.requires.some) in
    let there = more.last view is here (omega (arith, place, more.position)) (omega (arith, c.past_printable.ensures.offset, c.requires.some)) in
    let state = subst (λ s. IsPastByte view t here (record { position = next.position; offset = next.offset; run_end = next.run_end; break_state = s })) more.break_state there in
    subst (λ n. IsPastByte view t here (record { position = n; offset = next.offset; run_end = next.run_end; break_state = break_state_of [] })) place state

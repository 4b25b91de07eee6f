use Rattle.std.proofs.Common.{◌≡◌, ◌^◌, ◌<◌, ◌+◌, ◌-◌, length, slice_index, [], sym, subst, arith, rules}
use Rattle.ansi_items.proofs.PlainLemmas.{length-plain}
use Rattle.ansi_clusters.specs.Walks.{after, IsSeenNext}
use Rattle.ansi_clusters.proofs.AloneLemmas.{alone-last, alone-none, alone-test, alone-longer}
use Rattle.ansi_clusters.proofs.lines.is_alone.Goals as goal

pub returns-then-as_bytes-here-gt32-clause-feed : goal.returns-then-as_bytes-here-gt32-clause-feed
returns-then-as_bytes-here-gt32-clause-feed c =
    sym (alone-last c.args.view c.args.text.now c.utf8.text c.args.here.now c.args.next.now c.requires.here c.requires.next c.requires.ordered 10 (omega arith) c.if-len-here.true (subst (λ x. 32 < slice_index x (c.args.here.now.offset + (c.args.next.now.position - c.args.here.now.position) - 1)) c.as_bytes.ensures.value c.if-as_bytes-here-gt32.true))

pub returns-in_default-clause-feed : goal.returns-in_default-clause-feed
returns-in_default-clause-feed c =
    let t = c.args.text.now in
    let view = c.args.view in
    let start = c.next_seen-first.result.0 in
    let found = c.next_seen-first.ensures in
    let none : after t start.position ≡ [] = rw c.in_default.is at found.next in
    sym (alone-none view t c.utf8.text c.args.here.now c.args.next.now start c.requires.here c.requires.next c.requires.ordered found.walk found.ordered found.left_out 10 (omega arith) none)

pub returns-then-start-next-clause-feed : goal.returns-then-start-next-clause-feed
returns-then-start-next-clause-feed c =
    let t = c.args.text.now in
    let view = c.args.view in
    let start = c.next_seen-first.result.0 in
    let found = c.next_seen-first.ensures in
    let next : IsSeenNext view t start c.in-Some.first = rw c.in-Some.is at found.next in
    sym (alone-longer view t c.utf8.text c.args.here.now c.args.next.now start c.requires.here c.requires.next c.requires.ordered found.walk found.ordered found.left_out 10 (omega arith) c.in-Some.first next c.if-start-next.true)

pub returns-clause-feed : goal.returns-clause-feed
returns-clause-feed c =
    let t = c.args.text.now in
    let view = c.args.view in
    let start = c.next_seen-first.result.0 in
    let found = c.next_seen-first.ensures in
    let next : IsSeenNext view t start c.in-Some.first = rw c.in-Some.is at found.next in
    alone-test view t c.utf8.text c.args.here.now c.args.next.now start c.requires.here c.requires.next c.requires.ordered found.walk found.ordered found.left_out 10 (omega arith) c.in-Some.first next c.if-start-next.false

pub returns-then-as_bytes-here-gt32-clause-blank : goal.returns-then-as_bytes-here-gt32-clause-blank
returns-then-as_bytes-here-gt32-clause-blank c =
    sym (alone-last c.args.view c.args.text.now c.utf8.text c.args.here.now c.args.next.now c.requires.here c.requires.next c.requires.ordered 32 (omega arith) c.if-len-here.true (subst (λ x. 32 < slice_index x (c.args.here.now.offset + (c.args.next.now.position - c.args.here.now.position) - 1)) c.as_bytes.ensures.value c.if-as_bytes-here-gt32.true))

pub returns-in_default-clause-blank : goal.returns-in_default-clause-blank
returns-in_default-clause-blank c =
    let t = c.args.text.now in
    let view = c.args.view in
    let start = c.next_seen-first.result.0 in
    let found = c.next_seen-first.ensures in
    let none : after t start.position ≡ [] = rw c.in_default.is at found.next in
    sym (alone-none view t c.utf8.text c.args.here.now c.args.next.now start c.requires.here c.requires.next c.requires.ordered found.walk found.ordered found.left_out 32 (omega arith) none)

pub returns-then-start-next-clause-blank : goal.returns-then-start-next-clause-blank
returns-then-start-next-clause-blank c =
    let t = c.args.text.now in
    let view = c.args.view in
    let start = c.next_seen-first.result.0 in
    let found = c.next_seen-first.ensures in
    let next : IsSeenNext view t start c.in-Some.first = rw c.in-Some.is at found.next in
    sym (alone-longer view t c.utf8.text c.args.here.now c.args.next.now start c.requires.here c.requires.next c.requires.ordered found.walk found.ordered found.left_out 32 (omega arith) c.in-Some.first next c.if-start-next.true)

pub returns-clause-blank : goal.returns-clause-blank
returns-clause-blank c =
    let t = c.args.text.now in
    let view = c.args.view in
    let start = c.next_seen-first.result.0 in
    let found = c.next_seen-first.ensures in
    let next : IsSeenNext view t start c.in-Some.first = rw c.in-Some.is at found.next in
    alone-test view t c.utf8.text c.args.here.now c.args.next.now start c.requires.here c.requires.next c.requires.ordered found.walk found.ordered found.left_out 32 (omega arith) c.in-Some.first next c.if-start-next.false

pub overflow_add-start : goal.overflow_add-start
overflow_add-start c =
    let t = c.args.text.now in
    let size : length t < 2 ^ 63 = search rules in
    omega (arith, size, length-plain t, c.next_seen-first.ensures.walk.within)

use Rattle.std.proofs.Common.{◌≡◌, ◌+◌, length, encode_utf8, arith, ◌∙◌}
use Rattle.ansi_clusters.specs.Walks.{seen_before, IsWalkIn}
use Rattle.ansi_clusters.proofs.SingleWalkLemmas.{past-alone, state-alone, breaks-next, breaks-none}
use Rattle.ansi_clusters.proofs.walks.Walk.past_last.Goals as goal

pub moved-later-requires-clause-next : goal.moved-later-requires-clause-next
moved-later-requires-clause-next c = (c.args.c, c.requires.next, c.len_utf8.ensures.len)

pub next_char-requires : goal.next_char-requires
next_char-requires c =
    let t = c.args.text.now in
    let w = c.args.self in
    let view = c.requires.walk.0 in
    let walk = c.requires.walk.1 in
    let place : c.moved-later.result.position ≡ w.position + length (encode_utf8 c.args.c) = omega (arith, c.moved-later.ensures.position, c.len_utf8.ensures.len) in
    (view, c.moved-later.ensures.walk view (c.after_single.ensures (seen_before view t w.position) ∙ state-alone view t c.utf8.text w walk c.args.c c.requires.next c.moved-later.result place c.requires.shown.printing))

-- a single character follows
pub returns-in-Some-clause-past : goal.returns-in-Some-clause-past
returns-in-Some-clause-past c view walk =
    let t = c.args.text.now in
    let w = c.args.self in
    let place : c.moved-later.result.position ≡ w.position + length (encode_utf8 c.args.c) = omega (arith, c.moved-later.ensures.position, c.len_utf8.ensures.len) in
    let later : IsWalkIn view t c.moved-later.result = c.moved-later.ensures.walk view (c.after_single.ensures (seen_before view t w.position) ∙ state-alone view t c.utf8.text w walk c.args.c c.requires.next c.moved-later.result place c.requires.shown.printing) in
    let next = c.is_single.ensures in
    past-alone view t c.utf8.text w walk c.args.c c.requires.next c.moved-later.result place c.args.width c.requires.shown later
    (breaks-next view t c.utf8.text c.moved-later.result later (seen_before view t w.position) c.args.c c.in-Some.next c.requires.shown.single c.in-Some.ensures (next.single c.if-is_single.true) (next.printing c.if-is_single.true))

-- nothing follows
pub returns-in-None-clause-past : goal.returns-in-None-clause-past
returns-in-None-clause-past c view walk =
    let t = c.args.text.now in
    let w = c.args.self in
    let place : c.moved-later.result.position ≡ w.position + length (encode_utf8 c.args.c) = omega (arith, c.moved-later.ensures.position, c.len_utf8.ensures.len) in
    let later : IsWalkIn view t c.moved-later.result = c.moved-later.ensures.walk view (c.after_single.ensures (seen_before view t w.position) ∙ state-alone view t c.utf8.text w walk c.args.c c.requires.next c.moved-later.result place c.requires.shown.printing) in
    past-alone view t c.utf8.text w walk c.args.c c.requires.next c.moved-later.result place c.args.width c.requires.shown later (breaks-none view t c.moved-later.result (seen_before view t w.position) c.args.c c.in-None.ensures)

pub returns-in-Some-clause-position : goal.returns-in-Some-clause-position
returns-in-Some-clause-position c = omega (arith, c.moved-later.ensures.position, c.len_utf8.ensures.len)

pub returns-in-None-clause-position : goal.returns-in-None-clause-position
returns-in-None-clause-position c = omega (arith, c.moved-later.ensures.position, c.len_utf8.ensures.len)

use Rattle.std.proofs.Common.{◌^◌, ◌<◌, length, arith, rules}
use Rattle.ansi_items.proofs.PlainLemmas.{length-plain}
use Rattle.ansi_clusters.proofs.PrintableLemmas.{IsPrintable-front, clusters-printable, seen_len-printable, walk-past}
use Rattle.ansi_clusters.proofs.walks.Walk.past_printable.Goals as goal

pub overflow_add-result : goal.overflow_add-result
overflow_add-result c =
    let t = c.args.text.now in
    let size : length t < 2 ^ 63 = search rules in
    omega (arith, size, (walk-past c.requires.walk.0 t c.args.self c.args.len c.utf8.text c.requires.walk.1 (omega (arith, c.if-len-eq0.false)) c.requires.ahead).within, length-plain t)

pub returns-then-len-eq0-clause-clusters : goal.returns-then-len-eq0-clause-clusters
returns-then-len-eq0-clause-clusters c view = clusters-printable view c.args.text.now c.utf8.text c.args.self c.args.len c.requires.walk.1 c.requires.ahead

pub returns-clause-walk : goal.returns-clause-walk
returns-clause-walk c view walk = rw c.start.ensures (walk-past view c.args.text.now c.args.self c.args.len c.utf8.text walk (omega (arith, c.if-len-eq0.false)) c.requires.ahead)

pub returns-clause-clusters : goal.returns-clause-clusters
returns-clause-clusters c view = clusters-printable view c.args.text.now c.utf8.text c.args.self c.args.len c.requires.walk.1 c.requires.ahead

pub returns-clause-seen : goal.returns-clause-seen
returns-clause-seen c view =
    let walk = c.requires.walk in
    seen_len-printable view c.args.text.now c.args.self _ c.args.len c.utf8.text walk.1 (walk-past walk.0 c.args.text.now c.args.self c.args.len c.utf8.text walk.1 (omega (arith, c.if-len-eq0.false)) c.requires.ahead) (omega arith) (IsPrintable-front c.args.len walk.1 c.requires.ahead)

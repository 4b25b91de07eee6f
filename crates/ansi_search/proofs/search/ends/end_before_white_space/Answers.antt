use Rattle.ansi_search.proofs.Common.{rules, arith}
use Rattle.std.proofs.lemmas.Grind.{common_steps}
use Rattle.ansi_search.proofs.SplitLemmas.{end-item}
use Rattle.ansi_search.proofs.WhiteSpaceLemmas.{white-none, solid-after}
use Rattle.ansi_search.proofs.search.ends.end_before_white_space.Goals as goal

-- nothing is after the end
pub loop-start-init : goal.loop-start-init
loop-start-init c = record { boundary = search rules; begins = λ _. grind (arith, common_steps); white = white-none c.args.text.now }

-- a character that isn't white space is in this part
pub returns-then-end-gt0 : goal.returns-then-end-gt0
returns-then-end-gt0 c =
    let t = c.args.text.now in
    let part = c.item_before-start in
    let solid = c.solid_end-end.ensures in
    let found = solid-after t c.range_from.result.now part.result c.solid_end-end.result c.utf8.text part.ensures.boundary (end-item t part.result part.ensures.boundary part.ensures.begins)
    c.range_from.ensures.value (record { end = solid.end; white = solid.white; some = solid.some }) c.if-end-gt0.true in
    record { end = found.end; white = found.white }

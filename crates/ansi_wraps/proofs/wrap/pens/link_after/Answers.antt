use Rattle.std.proofs.Common.{arith}
use Rattle.std.proofs.lemmas.Str.{IsCharBoundary-start}
use Rattle.ansi_wraps.proofs.wrap.pens.link_after.Goals as goal

-- an empty address ends the link
pub returns-in-Some-clause-range : goal.returns-in-Some-clause-range
returns-in-Some-clause-range c =
    let start = IsCharBoundary-start c.args.text.now c.utf8.text in
    record { ordered = omega arith; start_boundary = start; end_boundary = start }

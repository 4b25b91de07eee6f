use Rattle.std.proofs.Common.{◌∷◌, sym, ◌∙◌, ap}
use Rattle.ansi_wraps.specs.WrapStates.{lines_next}
use Rattle.ansi_wraps.proofs.LentLemmas.{none-left, new-lines}
use Rattle.ansi_wraps.proofs.wrap.spans.Spans.next.Goals as goal

pub returns-in-Nothing-clause-lines : goal.returns-in-Nothing-clause-lines
returns-in-Nothing-clause-lines c = (let none = none-left c.args.text.now c.args.self.now c.in-Nothing.is in (none, none))

-- the only line

pub span-requires : goal.span-requires
span-requires c = (let are = rw c.in-Only.is at c.requires in (c.args.self.now.width, are.1))

pub returns-in-Only-clause-spans : goal.returns-in-Only-clause-spans
returns-in-Only-clause-spans c = c.finish.ensures.spans c.args.text.now

pub returns-in-Only-clause-lines : goal.returns-in-Only-clause-lines
returns-in-Only-clause-lines c =
    let t = c.args.text.now in
    let are = rw c.in-Only.is at c.requires in
    new-lines t c.args.self.now c.args.self.now.next (ap (lines_next t c.args.self.now.width) c.in-Only.is) are.0 ∙ c.span.ensures c.args.self.now.width are.1 ∙ ap (λ ls. c.span.result ∷ ls) (sym (c.finish.ensures.lines t))

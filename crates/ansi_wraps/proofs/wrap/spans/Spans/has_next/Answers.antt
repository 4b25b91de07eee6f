use Rattle.std.proofs.Common.{not, true≢false, sym, ◌∙◌, ap}
use Rattle.ansi_wraps.proofs.LentLemmas.{none-left}
use Rattle.ansi_wraps.proofs.wrap.spans.Spans.has_next.Goals.{in-Nothing, in_default}
use Rattle.ansi_wraps.proofs.wrap.spans.Spans.has_next.Goals as goal

pub returns-clause-none : goal.returns-clause-none
returns-clause-none c = λ none t. elim c.match-matches.branch [
  | in-Nothing w ↦ none-left t c.args.self.now w.in-Nothing.is
  | in_default w ↦ absurd (true≢false (sym (ap not w.matches-is) ∙ none))
]

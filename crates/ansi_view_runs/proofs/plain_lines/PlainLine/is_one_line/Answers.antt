use Rattle.std.proofs.Common.{not, ◌∙◌, sym, ap}
use Rattle.std.proofs.lemmas.Bool.{eq-eqb, false≢true}
use Rattle.ansi_view_runs.proofs.PlainLineLemmas.{left-wrapped}
use Rattle.ansi_view_runs.proofs.plain_lines.PlainLine.is_one_line.Goals as goal

pub returns-then-self-width : goal.returns-then-self-width
returns-then-self-width c solid =
    let line = c.requires in
    left-wrapped line.utf8 line.is_cell line.closed c.args.width c.if-self-width.true (λ blank. absurd (false≢true (ap not (sym (eq-eqb c.args.self.now.last 0x20 blank)) ∙ solid)))

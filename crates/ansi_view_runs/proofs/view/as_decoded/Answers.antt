use Rattle.std.proofs.Common.{◌∙◌, sym, rules}
use Rattle.ansi_view_runs.proofs.StayLemmas.{decoded-stays}
use Rattle.ansi_view_runs.proofs.view.as_decoded.Goals as goal

-- bytes that are UTF-8 are their own text
pub returns-in-Ok : goal.returns-in-Ok
returns-in-Ok c =
    let text = rw c.in-Ok.is at c.requires in
    text.0 ∙ sym (decoded-stays c.args.view c.args.bytes.now (search rules) text.1)

use Rattle.std.proofs.Common.{List, ℕ, true, map, ap, subst}
use Rattle.ansi_cells.specs.Wrapped.{CarriedPart}
use Rattle.ansi_text_calls.specs.Lists.{ends_from, GivesAll}
use Rattle.ansi_calls.specs.Columns.{GivesIndented}
use Rattle.ansi_text_calls.proofs.GivenLemmas.{joined_texts}
use Rattle.ansi_calls.proofs.lines.write_indented.Goals as goal

pub returns : goal.returns
unfolding GivesIndented
returns g c =
    subst (λ (ts : List (List ℕ)). GivesAll true (joined_texts ts) (ends_from 0 ts) c.write_texts.result c.args.buffer.now c.write_texts.new.buffer c.args.ends.now c.write_texts.new.ends)
    (ap (map (λ (l : CarriedPart). l.bytes)) c.wrap_with.ensures.lines)
    c.write_texts.ensures

use Rattle.std.proofs.Common.{rules}
use Rattle.ansi_calls.specs.Columns.{wrapped_lines}
use Rattle.ansi_calls.proofs.LineListLemmas.{bare-wrapped}
use Rattle.ansi_calls.proofs.lines.write_bare_lines.Goals as goal

-- the text has no fewer bytes than its lines, and no fewer than one less than there are lines
pub returns : goal.returns
returns g c =
    let t = c.args.text.now in
    c.write_copied.ensures (wrapped_lines t c.args.width) (λ old old_ends copied new new_ends post. search rules)
    (bare-wrapped t c.args.width c.requires.paragraph c.requires.bare c.utf8.text (c.lines_lose_blanks_and_line_ends.ensures.left_out t c.args.width c.utf8.text))

use Rattle.ansi_style.proofs.SpelledLemmas.{styled_from-append, style_after_from-append, styled_from-alike, style_after_from-alike}
use Rattle.ansi_str.proofs.laws.read_in_turn.Goals as goal

pub returns-clause-styled : goal.returns-clause-styled
returns-clause-styled c = styled_from-append

pub returns-clause-after_from : goal.returns-clause-after_from
returns-clause-after_from c = style_after_from-append

pub returns-clause-styled_alike : goal.returns-clause-styled_alike
returns-clause-styled_alike c = styled_from-alike

pub returns-clause-after_alike : goal.returns-clause-after_alike
returns-clause-after_alike c = style_after_from-alike

use Rattle.ansi_style.proofs.StyleLemmas.{IsStyle-apply, IsStyle-style_after_from, IsStyle-style_at, IsStyle-style_after}
use Rattle.ansi_str.proofs.laws.texts_have_styles.Goals as goal

pub returns-clause-sequence : goal.returns-clause-sequence
returns-clause-sequence c = IsStyle-apply

pub returns-clause-after_from : goal.returns-clause-after_from
returns-clause-after_from c = IsStyle-style_after_from

pub returns-clause-at : goal.returns-clause-at
returns-clause-at c = IsStyle-style_at

pub returns-clause-after : goal.returns-clause-after
returns-clause-after c = IsStyle-style_after

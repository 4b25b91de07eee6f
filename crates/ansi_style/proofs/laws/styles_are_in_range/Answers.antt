use Rattle.ansi_style.proofs.StyleLemmas.{IsStyle-rendition_of}
use Rattle.ansi_style.proofs.laws.styles_are_in_range.Goals as goal

pub returns : goal.returns
returns c = IsStyle-rendition_of

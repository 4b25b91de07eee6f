use Rattle.ansi_slice.proofs.LengthLemmas.{length-start, length-close, length-cut, length-kept, length-sides}
use Rattle.ansi_split.proofs.PartLengthLemmas.{length-part_over, length-part}
use Rattle.ansi_str.proofs.laws.written_texts_are_short.Goals as goal

pub returns-clause-start : goal.returns-clause-start
returns-clause-start c = length-start

pub returns-clause-close : goal.returns-clause-close
returns-clause-close c = length-close

pub returns-clause-cut : goal.returns-clause-cut
returns-clause-cut c = length-cut

pub returns-clause-part_over : goal.returns-clause-part_over
returns-clause-part_over c = length-part_over

pub returns-clause-part : goal.returns-clause-part
returns-clause-part c = length-part

pub returns-clause-sides : goal.returns-clause-sides
returns-clause-sides c = length-sides

pub returns-clause-kept : goal.returns-clause-kept
returns-clause-kept c = length-kept

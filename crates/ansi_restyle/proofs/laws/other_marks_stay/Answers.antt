use Rattle.ansi_restyle.proofs.StayLemmas.{other_marks-stay}
use Rattle.ansi_restyle.proofs.laws.other_marks_stay.Goals as goal

pub returns : goal.returns
returns c = λ t w rs u whole is. other_marks-stay t u whole is.whole is.others

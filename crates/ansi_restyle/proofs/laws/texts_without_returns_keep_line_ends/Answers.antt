use Rattle.ansi_restyle.proofs.LineEndLemmas.{parts_none, keep_any, begin_any}
use Rattle.ansi_restyle.proofs.laws.texts_without_returns_keep_line_ends.Goals as goal

pub returns-clause-parts : goal.returns-clause-parts
returns-clause-parts c = λ x n none. parts_none x none n

pub returns-clause-keep : goal.returns-clause-keep
returns-clause-keep c = λ x rs none. keep_any x none rs

pub returns-clause-begin : goal.returns-clause-begin
returns-clause-begin c = λ x rs none. begin_any x none rs

use Rattle.ansi_items.proofs.PlainLemmas.{plain-bare}
use Rattle.ansi_str.proofs.BareLemmas.{is_whole-bare, cut_inside-bare, left_inside-bare, right_inside-bare, part-bare, all_parts-bare, all_parts_are_split-bare, all_parts-empty-bare, without_prefix-bare, without_suffix-bare, trimmed-bare, edited_by-bare, edited-bare, stay_borrowed-bare}
use Rattle.ansi_str.proofs.laws.bare_texts_are_std.Goals as goal

pub returns-clause-strip : goal.returns-clause-strip
returns-clause-strip c = plain-bare

pub returns-clause-whole : goal.returns-clause-whole
returns-clause-whole c = is_whole-bare

pub returns-clause-cut : goal.returns-clause-cut
returns-clause-cut c = cut_inside-bare

pub returns-clause-left : goal.returns-clause-left
returns-clause-left c = left_inside-bare

pub returns-clause-right : goal.returns-clause-right
returns-clause-right c = right_inside-bare

pub returns-clause-part : goal.returns-clause-part
returns-clause-part c = part-bare

pub returns-clause-parts : goal.returns-clause-parts
returns-clause-parts c = all_parts-bare

pub returns-clause-split : goal.returns-clause-split
returns-clause-split c = all_parts_are_split-bare

pub returns-clause-characters : goal.returns-clause-characters
returns-clause-characters c = all_parts-empty-bare

pub returns-clause-prefix : goal.returns-clause-prefix
returns-clause-prefix c = without_prefix-bare

pub returns-clause-suffix : goal.returns-clause-suffix
returns-clause-suffix c = without_suffix-bare

pub returns-clause-trim : goal.returns-clause-trim
returns-clause-trim c = trimmed-bare

pub returns-clause-change : goal.returns-clause-change
returns-clause-change c = edited_by-bare

pub returns-clause-in_turn : goal.returns-clause-in_turn
returns-clause-in_turn c = edited-bare

pub returns-clause-borrowed : goal.returns-clause-borrowed
returns-clause-borrowed c = stay_borrowed-bare

use Rattle.std.proofs.Common.{◌-◌, sym, ◌∙◌, ap}
use Rattle.ansi_restyle.specs.Restyled.{front, rest}
use Rattle.ansi_restyle.proofs.RemovedLemmas.{range_divided, range_bad_start, range_bad_end}
use Rattle.ansi_restyle.proofs.links.in_three.Goals as goal

pub returns-in_default : goal.returns-in_default
returns-in_default c =
    let bad = rw c.new.ensures at c.in_default.ensures in
    range_bad_start c.args.text.now c.args.range c.if-end-start.false bad

pub returns-in_default-divide : goal.returns-in_default-divide
returns-in_default-divide c =
    let first = rw c.new.ensures at c.in-Some.ensures in
    range_bad_end c.args.text.now c.args.range c.if-end-start.false first c.in_default-divide.ensures

pub returns-then-not-is_char_boundary : goal.returns-then-not-is_char_boundary
returns-then-not-is_char_boundary c =
    let first = rw c.new.ensures at c.in-Some.ensures in
    range_divided c.args.text.now c.args.range c.if-end-start.false first c.in-Some-divide.ensures (sym c.is_char_boundary.ensures.value ∙ c.if-not-is_char_boundary.true)

pub returns : goal.returns
returns c =
    let n = c.args.range.1 - c.args.range.0 in
    let first = rw c.new.ensures at c.in-Some.ensures in
    let second = c.in-Some-divide.ensures in
    record {
      good = range_divided c.args.text.now c.args.range c.if-end-start.false first second (sym c.is_char_boundary.ensures.value ∙ c.if-not-is_char_boundary.false);
      before_is = first.front_is;
      within_is = second.front_is ∙ ap (front n) first.rest_is;
      after_is = second.rest_is ∙ ap (rest n) first.rest_is;
    }

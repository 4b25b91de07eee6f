use Rattle.std.proofs.Common.{rules}
use Rattle.ansi_slice.proofs.Common.{sym, ◌∙◌, ap, arith, length, cut_up_to, plain-bare, length-plain, is_good_range}
use Rattle.ansi_search.proofs.PositionLemmas.{is_good_range-top, none_if_bad, some_if_good}
use Rattle.ansi_slice.proofs.CutLemmas.{cut_up_to-unwrap_or, cut_up_to-bare}
use Rattle.ansi_slice.proofs.LengthLemmas.{length-cut}
use Rattle.ansi_slice.proofs.slice.cuts.get_in.Goals as goal

-- a text without ESC is its own plain text, and its cut is a slice

pub returns-in_default-clause-none : goal.returns-in_default-clause-none
returns-in_default-clause-none g c =
    let t = c.args.text.now in
    let bare = plain-bare t (sym c.has_any.ensures ∙ c.if-not-has_any.true) in
    none_if_bad (
    ap (λ x. is_good_range x c.args.start c.args.end) bare
    ∙ sym (is_good_range-top t c.args.start c.args.end _ c.unwrap_or-end.ensures (omega (arith, c.ranges.start.fits)) (omega arith)) ∙ c.in_default.ensures)

pub returns-then-not-has_any-clause-none : goal.returns-then-not-has_any-clause-none
returns-then-not-has_any-clause-none g c = grind (arith, is_good_range-top, plain-bare, some_if_good)

pub returns-then-not-has_any-clause-borrowed : goal.returns-then-not-has_any-clause-borrowed
returns-then-not-has_any-clause-borrowed g c = search rules

pub returns-then-not-has_any-clause-bytes : goal.returns-then-not-has_any-clause-bytes
returns-then-not-has_any-clause-bytes g c =
    let t = c.args.text.now in
    let s = c.args.start in
    c.in-Some.ensures.1 ∙ sym (cut_up_to-bare t s c.unwrap_or-end.result (sym c.has_any.ensures ∙ c.if-not-has_any.true))
    ∙ ap (cut_up_to t s) c.unwrap_or-end.ensures ∙ cut_up_to-unwrap_or t s c.args.end _ (omega arith)

-- the largest position lies past the end of each text

pub returns-in_default-2-clause-none : goal.returns-in_default-2-clause-none
returns-in_default-2-clause-none g c = grind (arith, is_good_range-top, length-plain, none_if_bad)

pub returns-clause-bytes : goal.returns-clause-bytes
returns-clause-bytes g c =
    let t = c.args.text.now in
    let both = rw c.in-Some-2.is at c.in_ok-cut.ensures.cut in
    both.1 ∙ ap (cut_up_to t c.args.start) c.unwrap_or-end.ensures ∙ cut_up_to-unwrap_or t c.args.start c.args.end _ (omega arith)

-- a cut has its text and a close at most
pub returns-clause-len : goal.returns-clause-len
returns-clause-len g c = omega (arith, ap length (returns-clause-bytes g c), length-cut c.args.text.now c.args.start c.args.end)

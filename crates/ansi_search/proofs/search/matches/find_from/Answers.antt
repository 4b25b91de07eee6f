use Rattle.ansi_search.proofs.Common.{◌≢◌, length, sym, ◌∙◌, ap, arith, IsFalse, eqb-false, plain, has_escape, first_match_from, plain-bare, length-plain}
use Rattle.ansi_search.proofs.MatchLemmas.{none-longer, first_of_all, no_escape-found}
use Rattle.ansi_search.proofs.search.matches.find_from.Goals as goal

-- the pattern is longer than the text
pub returns-then-text-pat : goal.returns-then-text-pat
returns-then-text-pat c = none-longer (plain c.args.text.now) c.args.pat.now c.args.from (omega (arith, c.if-text-pat.true, length-plain c.args.text.now))

-- the text has no ESC
pub returns-in-None : goal.returns-in-None
returns-in-None c =
    let t = c.args.text.now in
    let p = c.args.pat.now in
    let none : IsFalse (has_escape t) = ap has_escape (sym c.as_bytes.ensures.value) ∙ no_escape-found c.as_bytes.result.now c.in-None.ensures in
    let filled : length p ≢ 0 = eqb-false (length p) 0 (sym c.if-is_empty.ensures) in
    first_of_all t p c.args.from c.first_in_run.result (omega (arith, filled)) c.first_in_run.ensures ∙ ap (λ v. first_match_from v p c.args.from) (sym (plain-bare t none))

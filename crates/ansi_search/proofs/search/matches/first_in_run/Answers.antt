use Rattle.ansi_search.proofs.Common.{◌≡◌, ◌≢◌, None, Some, drop, length, ◌∙◌, ap, sym, arith, eqb-false, take_rest, FindsNeedle}
use Rattle.ansi_search.proofs.MatchLemmas.{found_inside, none_inside}
use Rattle.ansi_search.proofs.search.matches.first_in_run.Goals as goal

-- a match is found
pub returns : goal.returns
returns c =
    let w = c.args.run.now in
    let p = c.args.pat.now in
    let lookup = c.in_ok-rest.ensures.lookup.0 in
    let rest : c.in_ok-rest.rest.now ≡ drop c.args.from w = lookup.2 ∙ take_rest c.as_bytes.result.now c.args.from ∙ ap (drop c.args.from) c.as_bytes.ensures.value in
    let finds : FindsNeedle (drop c.args.from w) p 0 (Some c.in_ok-find_bytes.field-0) = rw (← rest, ← c.as_bytes-2.ensures.value) c.in_ok-find_bytes.ensures in
    let filled : length p ≢ 0 = eqb-false (length p) 0 (sym c.if-is_empty.ensures) in
    found_inside w p c.args.from c.in_ok-find_bytes.field-0 c.utf8.pat (omega (arith, filled)) (omega (arith, lookup.0, ap length c.as_bytes.ensures.value)) finds

pub returns-in_err-find_bytes : goal.returns-in_err-find_bytes
returns-in_err-find_bytes c =
    let w = c.args.run.now in
    let p = c.args.pat.now in
    let lookup = c.in_ok-rest.ensures.lookup.0 in
    let rest : c.in_ok-rest.rest.now ≡ drop c.args.from w = lookup.2 ∙ take_rest c.as_bytes.result.now c.args.from ∙ ap (drop c.args.from) c.as_bytes.ensures.value in
    let finds : FindsNeedle (drop c.args.from w) p 0 None = rw (← rest, ← c.as_bytes-2.ensures.value) c.in_err-find_bytes.ensures in
    let filled : length p ≢ 0 = eqb-false (length p) 0 (sym c.if-is_empty.ensures) in
    rw c.from_residual-in_err-find_bytes.ensures (none_inside w p c.args.from c.utf8.pat (omega (arith, filled)) (omega (arith, lookup.0, ap length c.as_bytes.ensures.value)) finds)

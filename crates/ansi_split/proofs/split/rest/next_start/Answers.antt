use Rattle.ansi_split.proofs.Common.{◌≡◌, ◌<◌, ◌≤◌, ℕ, Some, length, sym, ◌∙◌, ap, subst, arith, IsTrue, unwrap_or, plain, is_match, first_match_from, length-plain, NoneBefore}
use Rattle.ansi_split.proofs.RestLemmas.{start_in_run, first_match_from-match, start_after_run, first_or_past, first_or_past_later, here_or_past, match_boundary_in_run, cut_in_run}
use Rattle.ansi_split.proofs.split.rest.next_start.Goals as goal

-- a match in the run
pub returns-in-Some : goal.returns-in-Some
returns-in-Some c =
    let found = start_in_run c.args.text.now c.split_at.result.0.now c.args.pat.now c.args.run_len c.args.from c.in-Some.start c.split_at.ensures.front c.requires.plain c.in-Some.ensures in
    let first : NoneBefore (λ i. IsTrue (is_match c.split_at.result.0.now c.args.pat.now i)) c.args.from (length c.split_at.result.0.now) c.in-Some.start = c.in-Some.ensures.0 in
    record {
      later = first.low;
      same = first_match_from-match (plain c.args.text.now) c.args.pat.now c.args.from c.in-Some.start found;
      here = λ before. found;
      boundary = λ before. match_boundary_in_run c.args.text.now c.args.pat.now c.args.from c.args.run_len c.in-Some.start c.requires.ends.0 c.requires.plain before found;
      cut = λ before. cut_in_run c.args.text.now c.args.pat.now c.args.from c.args.run_len c.in-Some.start c.utf8.text c.utf8.pat c.requires.ends.0 c.requires.plain before found;
    }

-- a search of all
pub returns-then-may_go_on : goal.returns-then-may_go_on
returns-then-may_go_on c =
    let x = plain c.args.text.now in
    let past : ℕ = 18446744073709551615 in
    let below : length x < past = omega (arith, length-plain c.args.text.now, c.well_formed.0.0) in
    let is : c.unwrap_or.result ≡ unwrap_or (first_match_from x c.args.pat.now c.args.from) past = c.unwrap_or.ensures ∙ ap (λ r. unwrap_or r past) c.find_from.ensures in
    let here : c.unwrap_or.result < c.args.run_len → first_match_from x c.args.pat.now c.args.from ≡ Some c.unwrap_or.result
    = λ before. here_or_past (first_match_from x c.args.pat.now c.args.from) past c.args.run_len (omega (arith, c.requires.ends.0, c.well_formed.0.0)) (omega (arith, before, is)) ∙ ap Some (sym is) in
    record {
      later = subst (λ n. c.args.from ≤ n) (sym is) (first_or_past_later x c.args.pat.now c.args.from past (omega (arith, c.well_formed)));
      same = ap (first_match_from x c.args.pat.now) is ∙ first_or_past x c.args.pat.now c.args.from past below;
      here = here;
      boundary = λ before. match_boundary_in_run c.args.text.now c.args.pat.now c.args.from c.args.run_len c.unwrap_or.result c.requires.ends.0 c.requires.plain before (here before);
      cut = λ before. cut_in_run c.args.text.now c.args.pat.now c.args.from c.args.run_len c.unwrap_or.result c.utf8.text c.utf8.pat c.requires.ends.0 c.requires.plain before (here before);
    }

-- nothing in the run
pub returns-clause-same : goal.returns-clause-same
returns-clause-same c =
    start_after_run c.args.text.now c.split_at.result.0.now c.args.pat.now c.args.run_len c.args.from c.split_at.ensures.front c.requires.plain c.requires.ends.0 (omega arith) (λ y i. c.may_go_on.ensures c.if-may_go_on.false y i) c.in_default.ensures

use Rattle.std.proofs.Common.{◌≡◌, ◌≢◌, ◌≤◌, length, take, sym, ◌∙◌, ap, subst, arith, IsFalse}
use Rattle.std.proofs.lemmas.Bool.{eqb-false, eqb-true}
use Rattle.std.proofs.lemmas.List.{length-drop, take_all}
use Rattle.ansi_items.specs.Plain.{plain, has_escape}
use Rattle.ansi_items.proofs.PlainLemmas.{plain-bare}
use Rattle.ansi_search.specs.Matches.{first_match_from}
use Rattle.ansi_search.proofs.MatchLemmas.{first_of_all}
use Rattle.ansi_split.proofs.RestLemmas.{start_in_run}
use Rattle.ansi_restyle.proofs.rest.Rest.find.Goals as goal

-- a match in the run is the first of all
pub returns-in-Some : goal.returns-in-Some
returns-in-Some c =
    let s = c.args.self.now in
    sym (start_in_run s.text.now c.split_at.result.0.now c.args.pat.now s.run_len c.args.from c.in-Some.place c.split_at.ensures.front s.run_is_plain c.in-Some.ensures)

-- if the run is all of the text, there is no other
pub returns-then-not-is_empty : goal.returns-then-not-is_empty
returns-then-not-is_empty c =
    let s = c.args.self.now in
    let t = s.text.now in
    let p = c.args.pat.now in
    let run = c.split_at.result.0.now in
    let none_after : length (c.split_at.result.1.now) ≡ 0 = eqb-true (length (c.split_at.result.1.now)) 0 (sym c.is_empty.ensures ∙ c.if-is_empty.true) in
    let within : length t ≤ s.run_len = omega (arith, ap length c.split_at.ensures.back, none_after, length-drop s.run_len t) in
    let all : take s.run_len t ≡ t = take_all s.run_len t within in
    let filled : length p ≢ 0 = eqb-false (length p) 0 (sym c.is_empty-then-is_empty.ensures ∙ c.if-not-is_empty.true) in
    let is : run ≡ plain t = c.split_at.ensures.front ∙ all ∙ sym (plain-bare t (subst (λ u. IsFalse (has_escape u)) all s.run_is_plain)) in
    sym c.in_default.is ∙ first_of_all run p c.args.from c.first_in_run.result (omega (arith, filled)) c.first_in_run.ensures ∙ ap (λ x. first_match_from x p c.args.from) is

use Rattle.ansi_search.proofs.Common.{◌≡◌, ℕ, ◌+◌, ◌≤◌, ◌<◌, ◌^◌, List, length, Option, Some, None, sym, subst, arith, IfSome, IsFirst, plain, length-plain, IsUtf8-plain, first_match_from}
use Rattle.ansi_search.proofs.MatchLemmas.{IsMatch, first_match_from-first}
use Rattle.ansi_search.proofs.FindLemmas.{finds_text, finds_good_range, finds_good_before, finds_good_after, finds_within}
use Rattle.ansi_search.proofs.search.matches.find.Goals as goal

first_match_from-IsFirst : (x p : List ℕ) (r : Option ℕ) → r ≡ first_match_from x p 0 → IsFirst (IsMatch x p) 0 (length x + 1) r
first_match_from-IsFirst x p r is = subst (IsFirst (IsMatch x p) 0 (length x + 1)) (sym is) (first_match_from-first x p 0)

pub returns-clause-first : goal.returns-clause-first
returns-clause-first c =
    let x = plain c.args.text.now in
    finds_text x c.args.pat.now _ (IsUtf8-plain c.args.text.now c.utf8.text) c.utf8.pat (first_match_from-IsFirst x c.args.pat.now _ c.find_from.ensures)

pub returns-clause-good : goal.returns-clause-good
returns-clause-good c = grind (arith, IsUtf8-plain, finds_good_range, first_match_from-IsFirst)

pub returns-clause-good_before : goal.returns-clause-good_before
returns-clause-good_before c =
    let x = plain c.args.text.now in
    finds_good_before x c.args.pat.now _ (IsUtf8-plain c.args.text.now c.utf8.text) (first_match_from-IsFirst x c.args.pat.now _ c.find_from.ensures)

pub returns-clause-good_after : goal.returns-clause-good_after
returns-clause-good_after c = grind (arith, IsUtf8-plain, finds_good_after, first_match_from-IsFirst)

-- the plain text is no longer than the text, which is in memory
pub returns-clause-fits : goal.returns-clause-fits
returns-clause-fits c =
    let x = plain c.args.text.now in
    shorter c.find_from.result (finds_within x c.args.pat.now _ (IsUtf8-plain c.args.text.now c.utf8.text) c.utf8.pat (first_match_from-IsFirst x c.args.pat.now _ c.find_from.ensures))
  where
    shorter : (r : Option ℕ) → IfSome r (λ i. i + length c.args.pat.now ≤ length (plain c.args.text.now)) → IfSome r (λ i. i + length c.args.pat.now < 2 ^ 64)
    shorter None within = tt
    shorter (Some i) within = omega (arith, within, length-plain c.args.text.now, c.well_formed.0.0)

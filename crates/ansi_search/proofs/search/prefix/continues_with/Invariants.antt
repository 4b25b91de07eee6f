use Rattle.ansi_search.proofs.Common.{◌≡◌, ◌≤◌, length, drop, nat_eq, shadow, Utf8, starts_with, plain}
use Rattle.ansi_search.proofs.search.prefix.continues_with.Given as goal

-- what is left of the pattern is at the front of what is left of the plain text exactly if the whole pattern is at the front of the whole plain text
abbrev pub invariant-loop-wanted : goal.invariant-loop-wanted
invariant-loop-wanted l = record {
  text : shadow (Utf8 l.rest);
  within : length l.rest ≤ length l.text;
  met : starts_with nat_eq (drop l.before (plain l.rest)) l.wanted ≡ starts_with nat_eq (drop l.place (plain l.text)) l.pat;
}

abbrev pub decreases-loop-wanted : goal.decreases-loop-wanted
decreases-loop-wanted l = length l.rest

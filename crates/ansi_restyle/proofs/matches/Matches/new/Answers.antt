use Rattle.std.proofs.Common.{length, ap, arith}
use Rattle.ansi_items.specs.Plain.{plain}
use Rattle.ansi_items.proofs.PlainLemmas.{length-plain}
use Rattle.ansi_items.proofs.Utf8Lemmas.{IsUtf8-plain}
use Rattle.ansi_restyle.proofs.MatchLemmas.{length-matches_left, matches_in_turn, matches_left-all}
use Rattle.ansi_restyle.proofs.matches.Matches.new.Goals as goal

pub invariant_of-result : goal.invariant_of-result
invariant_of-result c =
    let size = length-plain c.args.text.now in
    let same = ap (λ t. length (plain t)) c.new.ensures in
    omega (arith, size, same, c.well_formed.0.0)

pub returns-clause-matches : goal.returns-clause-matches
returns-clause-matches c = rw c.new.ensures (matches_left-all (plain c.args.text.now) c.args.pat.now)

pub returns-clause-len : goal.returns-clause-len
returns-clause-len c = rw c.new.ensures (length-matches_left 0 (plain c.args.text.now) c.args.pat.now 0)

pub returns-clause-in_turn : goal.returns-clause-in_turn
returns-clause-in_turn c =
    let x = plain c.args.text.now in
    rw (c.new.ensures, matches_left-all x c.args.pat.now) (matches_in_turn x c.args.pat.now (IsUtf8-plain c.args.text.now c.utf8.text) c.utf8.pat)

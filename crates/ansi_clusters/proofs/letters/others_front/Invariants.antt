use Rattle.std.proofs.Common.{◌≡◌, ◌-◌, ◌≤◌, length, drop}
use Rattle.ansi_clusters.specs.Letters.{IsPlainFront}
use Rattle.ansi_clusters.proofs.letters.others_front.Given as goal

-- what was passed is such characters
abbrev pub invariant-characters : goal.invariant-characters
invariant-characters l = record {
  front : IsPlainFront l.text (length l.text - length l.rest) l.columns;
  within : length l.rest ≤ length l.text;
  same : l.chars.rest.now ≡ l.rest;
  rest : l.rest ≡ drop (length l.text - length l.rest) l.text;
}

abbrev pub decreases-characters : goal.decreases-characters
decreases-characters l = length l.chars.rest.now

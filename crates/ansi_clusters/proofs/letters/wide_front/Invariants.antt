use Rattle.std.proofs.Common.{◌≡◌, ◌-◌, ◌<◌, ◌≤◌, ℕ, List, length, take, encode_utf8_all}
use Rattle.ansi_clusters.specs.Letters.{AreWide, IsPlainFront, IsWideFront}
use Rattle.ansi_clusters.proofs.letters.wide_front.Given as goal

-- what was passed is wide
abbrev pub invariant-characters : goal.invariant-characters
invariant-characters l = record {
  plain : IsPlainFront l.text l.at l.columns;
  passed : (cs : List ℕ) × AreWide cs l.columns × (take l.at l.text ≡ encode_utf8_all cs);
  before : 0 < l.at → IsWideFront l.text l.at l.columns;
  most : l.columns ≤ l.most;
}

abbrev pub decreases-characters : goal.decreases-characters
decreases-characters l = length l.text - l.at

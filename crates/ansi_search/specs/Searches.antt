-- A search that reads a text once: where a pattern is cut, and which of its bytes agree with the text where a match may still begin.
use Rattle.std.specs.Prelude.{◌≡◌, ◌≢◌, ℕ, ◌+◌, ◌<◌, ◌≤◌, List, length, drop, slice_index, IsTrue, IsFalse}
use Rattle.std.specs.Prelude.{Bool, true, false}
use Rattle.std.specs.Str.{IsCharBoundary}
use Rattle.memchr.specs.Critical.{IsPeriod, IsCritical, NoPeriodBelow}
use Rattle.memchr.specs.Find.{Nowhere, OccursAt}
use Rattle.ansi_items.specs.Plain.{plain}
use Rattle.ansi_search.specs.declared.search.critical.CriticalCut.{CriticalCut}
use Rattle.ansi_search.specs.declared.search.two_way.Point.{Point}
use Rattle.ansi_search.specs.declared.search.two_way.Window.{Window}
use Rattle.ansi_search.specs.declared.search.two_way.RunResult.{RunResult}
use Rattle.ansi_search.specs.declared.search.two_way.RunResult.TheVariants.{Match, NoMatchYet}

-- the order of bytes, and the opposite one
unfoldable pub Precedes : Bool → ℕ → ℕ → Type 0
Precedes true a b = a < b
Precedes false a b = b < a

-- p is cut at a critical place: each repeat there is a period. No period is less than the shift. If the cut repeats, the shift is a period, past the cut; else it moves p over all that was compared (Crochemore and Perrin, 1991)
pub record IsCut (p : List ℕ) (cut : CriticalCut) : Type 0 where
  pub below : cut.at < length p
  pub critical : IsCritical (slice_index p) (length p) cut.at
  pub some : 0 < cut.shift
  pub fits : cut.shift ≤ length p
  pub least : NoPeriodBelow (slice_index p) (length p) cut.shift
  pub over : IsFalse cut.repeats → length p ≤ cut.at + cut.shift
  pub period : IsTrue cut.repeats → (cut.at < cut.shift) × (cut.at + cut.shift ≤ length p) × IsPeriod (slice_index p) (length p) cut.shift

-- the bytes of p from low up to high agree with x, if p begins at i
abbrev pub MatchesBetween : List ℕ → List ℕ → ℕ → ℕ → ℕ → Type 0
MatchesBetween x p i low high = (k : ℕ) → low ≤ k → k < high → slice_index p k ≡ slice_index x (i + k)

-- a search for p in the plain text of t has come from a position up to n, and no match begins before that
pub record IsReached (t p : List ℕ) (start n : ℕ) : Type 0 where
  pub forward : start ≤ n
  pub within : n ≤ length t
  pub none : Nowhere (OccursAt (plain t) p) start n

-- an item of t begins at the point, or t ends there, and it isn't past the position n
pub record IsPoint (t : List ℕ) (point : Point) (n : ℕ) : Type 0 where
  pub boundary : IsCharBoundary t point.offset
  pub rest : plain (drop point.offset t) ≡ drop point.position (plain t)
  pub before : point.position ≤ n

-- the search has come up to the window, which shows bytes of p on both sides of the place c or none
pub record IsWindow (t p : List ℕ) (c start : ℕ) (w : Window) : Type 0 where
  pub reached : IsReached t p start w.position
  pub point : IsPoint t w.point w.position
  pub low : w.low ≤ c
  pub cut : c ≤ w.met
  pub short : w.met < length p
  pub meets : MatchesBetween (plain t) p w.position w.low w.met

-- the window shows all of p from the place c on, and no match
pub record IsMismatch (t p : List ℕ) (c start : ℕ) (w : Window) : Type 0 where
  pub reached : IsReached t p start w.position
  pub point : IsPoint t w.point w.position
  pub meets : MatchesBetween (plain t) p w.position c (length p)
  pub fits : w.position + length p ≤ length (plain t)
  pub other : ¬ (OccursAt (plain t) p w.position)

-- the byte b doesn't occur in x from the place m up to n
abbrev pub StandsNowhere : ℕ → List ℕ → ℕ → ℕ → Type 0
StandsNowhere b x m n = (j : ℕ) → m ≤ j → j < n → slice_index x j ≢ b

-- the byte of p at the place r doesn't occur in t before w.next, from where it would be in a match at the window, if that is in a run that begins at the point or later
abbrev pub LacksRareByte : List ℕ → List ℕ → ℕ → Point → Window → Type 0
LacksRareByte t p r here w = (j : ℕ) → w.position + r + here.offset ≤ here.position + j → j < w.next → slice_index t j ≢ slice_index p r

-- what a run showed that begins at the point and ends at the position n
abbrev pub IsRunResult : List ℕ → List ℕ → ℕ → ℕ → ℕ → Point → ℕ → RunResult → Type 0
IsRunResult t p c r start here n (Match i) = IsReached t p start i × OccursAt (plain t) p i
IsRunResult t p c r start here n (NoMatchYet w) = IsWindow t p c start w × (n ≤ w.position + w.met) × LacksRareByte t p r here w

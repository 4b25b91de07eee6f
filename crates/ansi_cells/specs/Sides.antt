-- Truncation at the end, at the start or in the middle of a text.
use Rattle.std.specs.Prelude.{ℕ, ◌+◌, ◌-◌, ◌/◌, Bool, true, List, [], ◌++◌, nat_le, if◌then◌else◌}
use Rattle.ansi_items.specs.Plain.{plain}
use Rattle.ansi_cells.specs.declared.sides.Side.{Side}
use Rattle.ansi_cells.specs.declared.sides.Side.TheVariants.{End, Start, Middle}
use Rattle.ansi_clusters.specs.Columns.{columns}
use Rattle.ansi_cells.specs.Shown.{truncated}
use Rattle.ansi_cells.specs.Slices.{sliced_up_to}

-- the tail, unless it is wider than `width` (own)
abbrev pub fitting_tail : ℕ → List ℕ → List ℕ
fitting_tail width tail = if nat_le (columns (plain tail)) width then tail else []

-- the columns that the tail leaves of `width`
abbrev pub beside_tail : ℕ → List ℕ → ℕ
beside_tail width tail = width - columns (plain (fitting_tail width tail))

-- How many of n columns stay before the tail; the others stay after it. In the middle, one more stays before it if n is odd. (`cli-truncate`.)
abbrev pub before_tail : Side → ℕ → ℕ
before_tail End n = n
before_tail Start n = 0
before_tail Middle n = (n + 1) / 2

-- the first columns of the text t, as many as `first`, what is between, and its last columns, as many as `last` (own)
abbrev pub first_and_last : List ℕ → ℕ → List ℕ → ℕ → List ℕ
first_and_last t first between last =
    let all = columns (plain t) in
    sliced_up_to t 0 first ++ between ++ sliced_up_to t (all - last) all

-- the text t is truncated at its end: it is asked for, or the text fits
abbrev pub is_cut_at_end : Side → List ℕ → ℕ → Bool
is_cut_at_end End t width = true
is_cut_at_end Start t width = nat_le (columns (plain t)) width
is_cut_at_end Middle t width = nat_le (columns (plain t)) width

-- the text t cut to `width` columns at its start or in its middle: what fits beside the tail (own)
abbrev pub cut_before_end : Side → List ℕ → ℕ → List ℕ → List ℕ
cut_before_end side t width tail =
    let room = beside_tail width tail in
    first_and_last t (before_tail side room) (fitting_tail width tail) (room - before_tail side room)

-- the text t truncated to `width` columns at a side of it (own)
unfoldable pub truncated_at : Side → List ℕ → ℕ → List ℕ → List ℕ
truncated_at side t width tail = if is_cut_at_end side t width then truncated t width tail else cut_before_end side t width tail

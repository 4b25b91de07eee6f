-- The last mark of a text. No public contract cites it.
use Rattle.std.specs.Prelude.{◌≡◌, ℕ, ◌<◌, List, ◌++◌, take, drop}
use Rattle.std.specs.Str.{IsCharBoundary}
use Rattle.ansi_items.specs.Plain.{plain}

-- The text after the mark from `start` to `end` is plain. So the plain text of t is that of t before the mark, and then the text after it.
pub record IsLastMark (t : List ℕ) (start end : ℕ) : Type 0 where
  pub ordered : start < end
  pub start_boundary : IsCharBoundary t start
  pub end_boundary : IsCharBoundary t end
  pub plain : plain t ≡ plain (take start t) ++ drop end t

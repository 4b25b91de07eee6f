-- The lines of a wrapped text, ready for display, and what `next` returns of the lines that a wrap has left.
use Rattle.std.specs.Prelude.{◌≡◌, ℕ, ◌+◌, ◌≤◌, ◌==◌, ◌⊎◌, Bool, ◌&&◌, ◌||◌, List, [], ◌∷◌, ◌++◌, map, length, drop, bytes_eq, Option, Some, Result, if◌then◌else◌, IsTrue}
use Rattle.std.specs.Str.{IsCharBoundary}
use Rattle.std.specs.declared.borrow.CowStr.{CowStr}
use Rattle.ansi_items.specs.Plain.{Mark, plain, marks, marks_up_to, has_escape}
use Rattle.ansi_style.specs.declared.state.rendition.Rendition.{Rendition}
use Rattle.ansi_style.specs.Rendition.{plain_style}
use Rattle.ansi_style.specs.Reading.{after_marks, style_after_from}
use Rattle.ansi_style.specs.Written.{start, close, longest_start_and_close}
use Rattle.ansi_slice.specs.Cut.{interleaved}
use Rattle.ansi_search.specs.Offsets.{offset_of, StandsIn}
pub use Rattle.ansi_split.specs.Parts.{CarriedPart}
use Rattle.ansi_split.specs.Parts.{marks_past}
use Rattle.ansi_split.specs.Splits.{GivesCarriedPart}
use Rattle.ansi_search.specs.Positions.{no_character_goes_on}
use Rattle.ansi_split.specs.Spans.{marks_further_on}
use Rattle.ansi_clusters.specs.declared.walks.Walk.{Walk}
use Rattle.ansi_clusters.specs.Columns.{clusters}
use Rattle.ansi_clusters.specs.Lines.{lines}
use Rattle.ansi_clusters.specs.FirstFit.{IsFirstFit}
use Rattle.ansi_safe.specs.Cells.{paragraph}
use Rattle.ansi_safe.specs.Links.{link_after_all, link_end, longest_link_end}
use Rattle.ansi_clusters.specs.Walks.{IsWalk}

-- What ends a link and a style: the end of the link, and then the close of the style. (As a cut does; own.)
abbrev pub pen_end : List ℕ → Rendition → List ℕ
pen_end link style = link_end link ++ close style

-- The line over the interval i of the plain text x with these marks, if a style and a link are carried into it: the start of the style, the
-- sequence that opened the link, the text with its marks, and what ends the link and the style then open. It is a borrow if it has no mark,
-- and is empty or has nothing carried into it. (What is carried, as for the parts of a split; the rest, own.)
unfoldable pub line_over : Rendition → List ℕ → List ℕ → List Mark → ℕ × ℕ → CarriedPart
line_over style link x own i = record {
  bytes = if i.0 == i.1 && length own == 0 then [] else
      start style ++ link ++ interleaved x i.0 i.1 own ++ pen_end (link_after_all link own) (after_marks style own);
  borrowed = length own == 0 && (i.0 == i.1 || length (pen_end link style) == 0);
  source_len = length link + length (interleaved x i.0 i.1 own);
}

-- The lines over intervals of x in order, with the marks that are left. A mark belongs to the first line that doesn't end before
-- its place, and to the last line if every line does. The style and link open after a line are carried into the next. (Own.)
unfoldable pub lines_over : Rendition → List ℕ → List ℕ → List Mark → List (ℕ × ℕ) → List CarriedPart
lines_over style link x ms [] = []
lines_over style link x ms (i ∷ is) =
    let own = if length is == 0 then ms else marks_up_to i.1 ms in
    line_over style link x own i ∷ lines_over (after_marks style own) (link_after_all link own) x (marks_past (Some i.1) ms) is

-- these lines of a text; they may be borrowed only if it is the caller's, so that they are stretches of that
abbrev pub lent_lines : Bool → List CarriedPart → List CarriedPart
lent_lines lent ls = map (λ (l : CarriedPart). record l { borrowed = lent && l.borrowed }) ls

-- the lines over these intervals of the paragraph of the text t, of which t itself lends some only if it is that paragraph
abbrev pub paragraph_lines : List ℕ → List (ℕ × ℕ) → List CarriedPart
paragraph_lines t is = lent_lines (bytes_eq (paragraph t) t) (lines_over plain_style [] (plain (paragraph t)) (marks (paragraph t)) is)

-- the lines of the text t wrapped at a width are those over the intervals of first fit in its paragraph (`ansi_safe`, `Cells`)
abbrev pub IsWrapped : List ℕ → ℕ → List CarriedPart → Type 0
IsWrapped t width ls = (is : List (ℕ × ℕ)) × IsFirstFit width (clusters (plain (paragraph t))) is × (ls ≡ paragraph_lines t is)

-- these lines; first fit has no others
abbrev pub wrapped : List ℕ → ℕ → List CarriedPart
wrapped t width = paragraph_lines t (lines width (plain (paragraph t)))

-- a wrap gives its lines as a split gives its parts; they have a start, a close and the end of a link beside their source
abbrev pub GivesLine : {A E : Type 0} → List CarriedPart → Option (Result (CowStr A) E) → List CarriedPart → Type 0
GivesLine old given new = GivesCarriedPart (longest_start_and_close + longest_link_end) old given new

-- the marks of t from the offset `taken` on, at their places, with `before` plain bytes before that offset; no public contract cites what follows
abbrev pub marks_left : List ℕ → ℕ → ℕ → List Mark
marks_left t before taken = marks_further_on before (marks (drop taken t))

-- the lines before the walk end at the position `before`, and cover t up to the offset `taken`, with all marks up to there; or there are no lines yet
pub record IsTaken (t : List ℕ) (before taken : ℕ) (walk : Walk) : Type 0 where
  pub is_walk : IsWalk t walk
  pub place : ((before ≡ 0) × (taken ≡ 0)) ⊎ (taken ≡ offset_of t before)
  pub boundary : IsCharBoundary t taken
  pub ordered : before ≤ walk.position

-- the line over all marks of t and its plain bytes from `start` up to `end`, which is at an offset, and the style and link open after it
pub record IsLineSpan (style : Rendition) (link t : List ℕ) (start end offset : ℕ) (is_marked : Bool) (style_after : Rendition) (link_after : List ℕ) : Type 0 where
  pub marked : is_marked ≡ has_escape t
  pub ordered : start ≤ end
  pub start_good : IsTrue (no_character_goes_on (plain t) start)
  pub end_stands : StandsIn t end offset
  pub within : end ≤ length (plain t)
  pub styled : style_after ≡ style_after_from style t
  pub linked : link_after ≡ link_after_all link (marks t)

-- the lines of t as it is
abbrev pub lines_of : List ℕ → ℕ → List CarriedPart
lines_of t width = lines_over plain_style [] (plain t) (marks t) (lines width (plain t))

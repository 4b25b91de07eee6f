-- What a wrap has left of its text. No public contract cites it.
use Rattle.std.specs.Prelude.{◌≡◌, ◌≢◌, ℕ, ◌≤◌, Bool, true, false, List, [], length, slice_range, Option, Some, None, IsSome}
use Rattle.std.specs.Cow.{cow_str_bytes}
use Rattle.std.specs.Str.{byte, IsCharBoundary}
use Rattle.std.specs.declared.borrow.CowStr.{CowStr}
use Rattle.std.specs.declared.borrow.CowStr.TheVariants.{Borrowed, Owned}
use Rattle.ansi_items.specs.Plain.{plain, marks}
use Rattle.ansi_safe.specs.Cells.{paragraph}
use Rattle.ansi_style.specs.Rendition.{plain_style}
use Rattle.ansi_style.specs.States.{rendition_of}
use Rattle.ansi_wraps.specs.declared.wrap.pens.PenAt.{PenAt}
use Rattle.ansi_clusters.specs.declared.walks.Walk.{Walk}
use Rattle.ansi_wraps.specs.declared.wrap.spans.Next.{Next}
use Rattle.ansi_wraps.specs.declared.wrap.spans.Next.TheVariants.{Only, At, Nothing}
use Rattle.ansi_wraps.specs.declared.wrap.spans.OnlyLine.{OnlyLine}
use Rattle.ansi_wraps.specs.declared.wrap.spans.Spans.{Spans}
use Rattle.ansi_clusters.specs.Columns.{clusters}
use Rattle.ansi_clusters.specs.Lines.{lines_from, lines_left}
use Rattle.ansi_cells.specs.PlainCells.{IsPlainCell}
use Rattle.ansi_cells.specs.Wrapped.{CarriedPart, lines_over, marks_left, IsTaken}

-- the interval is a stretch of t: t may be cut at its beginning and at its end
pub record IsCharRange (t : List ℕ) (start end : ℕ) : Type 0 where
  pub ordered : start ≤ end
  pub start_boundary : IsCharBoundary t start
  pub end_boundary : IsCharBoundary t end

-- the sequence in t that opened the link
abbrev pub open_link : List ℕ → PenAt → List ℕ
open_link t pen = slice_range t pen.link_start pen.link_end

-- the lines of t as it is, at a width that isn't 0
abbrev pub lines_at : List ℕ → ℕ → List CarriedPart
lines_at t width = lines_over plain_style [] (plain t) (marks t) (lines_from width 0 0 0 0 (clusters (plain t)))

-- the positions of the next line of t and of those after it
abbrev pub lines_next : List ℕ → ℕ → Next → List (ℕ × ℕ)
lines_next t width (Only line) = lines_from width 0 0 0 0 (clusters (plain t))
lines_next t width (At walk) = lines_left t width (Some walk)
lines_next t width Nothing = []

-- a line is left
abbrev pub HasNext : Next → Type 0
HasNext (Only line) = Unit
HasNext (At walk) = Unit
HasNext Nothing = ⊥

-- the lines of t that spans have left, if this is the next one
abbrev pub lines_after : List ℕ → Spans → Next → List CarriedPart
lines_after t s next = lines_over (rendition_of s.pen.style) (open_link t s.pen) (plain t) (marks_left t s.before s.taken) (lines_next t s.width next)

-- the lines of t that these spans have left
abbrev pub span_lines : List ℕ → Spans → List CarriedPart
span_lines t s = lines_after t s s.next

-- no line has been taken
pub record AreNew (s : Spans) : Type 0 where
  pub before : s.before ≡ 0
  pub taken : s.taken ≡ 0
  pub style : rendition_of s.pen.style ≡ plain_style
  pub link_start : s.pen.link_start ≡ 0
  pub link_end : s.pen.link_end ≡ 0

-- the lines before the walk have been taken from t, and the link was opened in it
pub record AreTaken (t : List ℕ) (s : Spans) (walk : Walk) : Type 0 where
  pub taken : IsTaken t s.before s.taken walk
  pub link : IsCharRange t s.pen.link_start s.pen.link_end

-- the text is SGRs and characters that are clusters by themselves, fits into the width and doesn't end with a blank; the line is all of it
pub record IsOnlyLine (t : List ℕ) (width : ℕ) (line : OnlyLine) : Type 0 where
  pub left : ℕ
  pub last : ℕ
  pub is_cell : IsPlainCell t width left (rendition_of line.style) last
  pub solid : last ≢ byte " "
  pub len : line.len ≡ length (plain t)

-- they are spans of t, if this is the next line
abbrev pub AreSpansAt : List ℕ → Spans → Next → Type 0
AreSpansAt t s (Only line) = AreNew s × IsOnlyLine t s.width line
AreSpansAt t s (At walk) = AreTaken t s walk
AreSpansAt t s Nothing = Unit

-- they are spans of t
abbrev pub AreSpans : List ℕ → Spans → Type 0
AreSpans t s = AreSpansAt t s s.next

-- the text whose lines a wrap returns: the paragraph of the text that it holds, if that couldn't be made
abbrev pub shown_text : {A E : Type 0} → CowStr A → Option E → List ℕ
shown_text c None = cow_str_bytes c
shown_text c (Some e) = paragraph (cow_str_bytes c)

-- it is the caller's
abbrev pub is_lent : {A E : Type 0} → CowStr A → Option E → Bool
is_lent (Borrowed s) None = true
is_lent (Borrowed s) (Some e) = false
is_lent (Owned s) e = false

-- the text is the caller's, which may lend its lines
abbrev pub lends : {A : Type 0} → CowStr A → Bool
lends (Borrowed s) = true
lends (Owned s) = false

-- a wrap has these spans left; there are some before its failure is returned
pub record AreLeft {A E : Type 0} (c : CowStr A) (failure : Option E) (s : Spans) : Type 0 where
  pub spans : AreSpans (cow_str_bytes c) s
  pub some : IsSome failure → HasNext s.next

-- What one pass over a text of a cell, or of a paragraph of one line, finds, if that is SGRs and characters that are clusters by themselves beside each other. No public contract cites it.
use Rattle.std.specs.Prelude.{◌≡◌, ℕ, ◌+◌, ◌-◌, ◌<◌, Bool, List, [], length, take, drop, chars, slice_index, IsTrue, MatchOption}
use Rattle.std.specs.List.{list_all}
use Rattle.std.specs.Str.{IsUtf8}
use Rattle.ansi_items.specs.Pieces.{Piece, pieces_of}
use Rattle.ansi_items.specs.Plain.{plain, marks}
use Rattle.ansi_style.specs.declared.state.rendition.Rendition.{Rendition}
use Rattle.ansi_style.specs.States.{rendition_of}
use Rattle.ansi_style.specs.Styled.{style_after}
use Rattle.ansi_safe.specs.Cells.{cell}
use Rattle.ansi_safe.specs.Links.{link_of}
use Rattle.ansi_safe.specs.Safe.{is_safe}
use Rattle.ansi_safe.specs.declared.policy.Links.{Links}
use Rattle.ansi_clusters.specs.declared.views.View.TheVariants.{Shown}
use Rattle.ansi_cells.specs.declared.plain_cells.PlainFront.{PlainFront}
use Rattle.ansi_clusters.specs.declared.walks.Walk.{Walk}
use Rattle.ansi_clusters.specs.Columns.{columns}
use Rattle.ansi_clusters.specs.Letters.{ArePlain}
use Rattle.ansi_clusters.specs.Views.{seen_len, seen_text}
use Rattle.ansi_clusters.specs.Walks.{IsWalkIn, IsPrintableFront, IsPastAscii, IsFittingTo, SeesUpTo, EndsAscii}

-- The text stays as it is in a cell, and is safe, whatever is made of links. This style is open at its end, and no link.
pub record IsPlainText (t : List ℕ) (style : Rendition) : Type 0 where
  pub stays : cell t ≡ t
  pub safe : (links : Links) → IsTrue (is_safe links t)
  pub style_is : style ≡ style_after t
  pub link_is : link_of (marks t) ≡ []

-- the last byte of x, or 0
abbrev pub last_byte : List ℕ → ℕ
last_byte x = slice_index x (length x - 1)

-- Such a text fits, and leaves this many columns of the width. Each of its characters is a cluster by itself, and the last byte of its plain text is this one.
pub record IsPlainCell (t : List ℕ) (width left : ℕ) (style : Rendition) (last : ℕ) : Type 0 where
  pub text : IsPlainText t style
  pub sum : columns (plain t) + left ≡ width
  pub utf8 : IsUtf8 (plain t)
  pub singles : ArePlain (chars (plain t)) (columns (plain t))
  pub last_is : last ≡ last_byte (plain t)

-- The text before a walk is such a text, also with printable ASCII of the walk's run. If the run is the first, or begins with printable ASCII, or a cluster that ends in that ends there, the text before it fits and leaves this many columns. The pieces of the next k bytes are pieces of the text up to there.
pub record IsAtRun (t : List ℕ) (width left : ℕ) (style : Rendition) (walk : Walk) : Type 0 where
  pub is_walk : IsWalkIn Shown t walk
  pub front : (n : ℕ) → IsPrintableFront t walk n → IsPlainText (take (walk.offset + n) t) style
  pub first : walk.position ≡ 0 → IsFittingTo Shown t width walk.position left
  pub fitting : IsPrintableFront t walk 1 → IsFittingTo Shown t width walk.position left
  pub ends : EndsAscii t walk → IsFittingTo Shown t width walk.position left
  pub rest : (k : ℕ) (test : Piece → Bool) → IsTrue (list_all test (pieces_of (take (walk.offset + k) t))) → IsTrue (list_all test (pieces_of (take k (drop walk.offset t))))

-- The front is such a text, and all of it.
pub record IsWholeFront (t : List ℕ) (width : ℕ) (front : PlainFront) : Type 0 where
  pub is_cell : IsPlainCell t width front.left (rendition_of front.style) front.last
  pub len : front.len ≡ length (plain t)

-- What a pass over the front of a text finds.
abbrev pub IsFront : List ℕ → ℕ → PlainFront → Type 0
IsFront t width front = MatchOption front.run (IsWholeFront t width front) (IsAtRun t width front.left (rendition_of front.style))

-- The text before a walk is such a text and fits, and so it is with printable ASCII of the walk's run. More of that follows than the columns that it leaves, so all of the text doesn't fit.
pub record IsPlainBefore (t : List ℕ) (width left : ℕ) (style : Rendition) (walk : Walk) : Type 0 where
  pub is_walk : IsWalkIn Shown t walk
  pub front : (n : ℕ) → IsPrintableFront t walk n → IsPlainText (take (walk.offset + n) t) style
  pub fitting : IsFittingTo Shown t width walk.position left
  pub count : ℕ
  pub more : left < count
  pub later : Walk
  pub past : IsPastAscii t walk count later

-- What fits of a text into the width ends at a walk. Up to there it is such a text, and has as many columns.
pub record IsPlainCut (t : List ℕ) (width : ℕ) (style : Rendition) (walk : Walk) : Type 0 where
  pub is_walk : IsWalkIn Shown t walk
  pub text : IsPlainText (take walk.offset t) style
  pub sees : SeesUpTo Shown t width walk.position
  pub sum : columns (take (seen_len Shown t walk.position) (seen_text Shown t)) ≡ width

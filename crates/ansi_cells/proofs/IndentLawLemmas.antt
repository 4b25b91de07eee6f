-- Lines after indents are whole, and leave no known style and no link open.
use Rattle.std.proofs.Common.{◌≡◌, ℕ, List, [], ◌∷◌, ◌++◌, All, IsTrue, sym, ◌∙◌, ap, subst}
use Rattle.std.specs.Str.{IsUtf8}
use Rattle.std.proofs.lemmas.List.Elements.{All-head, All-tail, All-cons}
use Rattle.ansi_items.specs.Pieces.{pieces_of}
use Rattle.ansi_items.specs.Plain.{is_whole}
use Rattle.ansi_items.proofs.JoinLemmas.{is_whole-append, pieces_of-append}
use Rattle.ansi_style.specs.Rendition.{plain_style, known}
use Rattle.ansi_style.specs.Styled.{residue}
use Rattle.ansi_style.proofs.StyledLemmas.{style_through, style_through-append, style_through-merged, style_after_from-pieces}
use Rattle.ansi_safe.specs.Cells.{cell, paragraph}
use Rattle.ansi_safe.specs.Links.{IsClosed}
use Rattle.ansi_safe.specs.Safe.{is_safe}
use Rattle.ansi_safe.specs.declared.policy.Links.TheVariants.{Keep}
use Rattle.ansi_safe.proofs.CellTextLemmas.{whole-cell}
use Rattle.ansi_safe.proofs.LinkLemmas.{link_of-pieces}
use Rattle.ansi_cells.specs.declared.shown.Alignment.TheVariants.{Left}
use Rattle.ansi_cells.specs.Addresses.{linked}
use Rattle.ansi_cells.specs.Shown.{closed_cell}
use Rattle.ansi_cells.specs.Indents.{shown_indent, text_width, after_indent, indented, wrapped_with}
use Rattle.ansi_cells.specs.Wrapped.{CarriedPart, wrapped}
use Rattle.ansi_cells.proofs.IndentLemmas.{padded-closed_alone}
use Rattle.ansi_cells.proofs.LinkedLawLemmas.{IsLinked, IsLinked-append, linked-pieces, padded-whole}
use Rattle.ansi_cells.proofs.StyledLawLemmas.{style_through-alike, padded-is_closed}
use Rattle.ansi_cells.proofs.WrapLawLemmas.{wrapped_are_whole, wrapped_are_closed, wrapped_end_links}

-- a text is whole, and closed
pub record IsShut (t : List ℕ) : Type 0 where
  pub whole : IsTrue (is_whole t)
  pub closed : IsClosed t

-- one after another such text

styles-shut : (u v : List ℕ) → IsShut u → IsShut v → residue (u ++ v) ≡ plain_style
styles-shut u v first second =
    ap known (style_after_from-pieces plain_style (u ++ v) ∙ ap (style_through plain_style) (pieces_of-append u v first.whole second.whole) ∙ style_through-merged plain_style (pieces_of u ++ pieces_of v) ∙ style_through-append plain_style (pieces_of u) (pieces_of v))
    ∙ style_through-alike (style_through plain_style (pieces_of u)) plain_style (pieces_of v) (sym (ap known (style_after_from-pieces plain_style u)) ∙ first.closed.style)
    ∙ sym (ap known (style_after_from-pieces plain_style v)) ∙ second.closed.style

pub linked-shut : (t : List ℕ) → IsShut t → IsLinked [] t (linked t) []
linked-shut t shut = record { whole = shut.whole; bytes = sym (linked-pieces t); after = sym (link_of-pieces (pieces_of t)) ∙ shut.closed.link }

pub shut-append : (u v : List ℕ) → IsShut u → IsShut v → IsShut (u ++ v)
shut-append u v first second = record {
  whole = is_whole-append u v first.whole second.whole;
  closed = record {
    style = styles-shut u v first second;
    link = link_of-pieces (pieces_of (u ++ v)) ∙ (IsLinked-append (linked-shut u first) (linked-shut v second)).after;
  };
}

pub shut-cell : (t : List ℕ) → IsUtf8 t → IsShut (closed_cell t)
shut-cell t utf8 =
    let whole = whole-cell t utf8 in
    subst IsShut (padded-closed_alone (cell t)) (record {
      whole = padded-whole (cell t) 0 Left whole;
      closed = padded-is_closed (cell t) 0 Left whole;
    })

abbrev pub ShutLine : CarriedPart → Type 0
ShutLine l = IsShut l.bytes

shut-indented : (first later : List ℕ) (ls : List CarriedPart) → IsShut (shown_indent first) → IsShut (shown_indent later) → All ShutLine ls → All ShutLine (indented first later ls)
shut-indented first later [] begun others all = all
shut-indented first later (l ∷ ls) begun others all =
    All-cons ShutLine (after_indent first l) (indented later later ls) (shut-append (shown_indent first) l.bytes begun (All-head ShutLine l ls all)) (shut-indented later later ls others others (All-tail ShutLine l ls all))

-- each line of a wrapped text
pub wrapped_are_shut : (t : List ℕ) (width : ℕ) → IsTrue (is_safe Keep (paragraph t)) → All ShutLine (wrapped t width)
wrapped_are_shut t width safe = λ k d lt. record {
  whole = wrapped_are_whole t width safe k d lt;
  closed = record { style = wrapped_are_closed t width safe k d lt; link = wrapped_end_links t width safe k d lt };
}

-- and of one wrapped with indents
pub shut-wrapped_with : (t first later : List ℕ) (width : ℕ) → IsTrue (is_safe Keep (paragraph t)) → IsUtf8 first → IsUtf8 later → All (λ (l : CarriedPart). IsShut l.bytes) (wrapped_with t width first later)
shut-wrapped_with t first later width safe first_utf8 later_utf8 =
    let room = text_width width first later in
    shut-indented first later (wrapped t room) (shut-cell first first_utf8) (shut-cell later later_utf8) (wrapped_are_shut t room safe)

-- The lines of a wrapped text, and those with indents, are safe and on one line.
use Rattle.std.proofs.Common.{◌≡◌, ℕ, ◌==◌, Bool, true, ◌&&◌, List, [], ◌∷◌, ◌++◌, All, length, map, nat_le, nat_lt, Some, if◌then◌else◌, refl, sym, ◌∙◌, ap, subst}
use Rattle.std.specs.List.{AllByRecursion}
use Rattle.std.specs.Prelude.{bytes_eq}
use Rattle.std.specs.Str.{IsUtf8}
use Rattle.std.proofs.lemmas.Bool.{cond_both}
use Rattle.std.proofs.lemmas.List.Elements.{All-from_recursion}
use Rattle.ansi_items.specs.Plain.{Mark, plain, marks, marks_up_to}
use Rattle.ansi_style.specs.declared.state.rendition.Rendition.{Rendition}
use Rattle.ansi_style.specs.Rendition.{IsStyle, plain_style}
use Rattle.ansi_style.specs.Reading.{after_marks}
use Rattle.ansi_style.specs.Written.{start}
use Rattle.ansi_style.proofs.StyleLemmas.{IsStyle-apply_all, IsStyle-plain_style}
use Rattle.ansi_slice.specs.Cut.{interleaved}
use Rattle.ansi_slice.proofs.ShownLemmas.{at_places}
use Rattle.ansi_split.specs.Parts.{marks_past}
use Rattle.ansi_split.proofs.PartSliceLemmas.{at_places-at_places}
use Rattle.ansi_safe.specs.declared.policy.Links.TheVariants.{Keep}
use Rattle.ansi_safe.specs.Cells.{cell, paragraph}
use Rattle.ansi_safe.specs.Links.{link_after_all}
use Rattle.ansi_safe.specs.Safe.{is_safe}
use Rattle.ansi_safe.proofs.CellTextLemmas.{IsUtf8-paragraph}
use Rattle.ansi_cells.specs.Indents.{shown_indent, text_width, indented, wrapped_with}
use Rattle.ansi_clusters.specs.Lines.{lines}
use Rattle.ansi_cells.specs.Wrapped.{CarriedPart, pen_end, line_over, lines_over, lent_lines, wrapped}
use Rattle.ansi_wraps.proofs.LinePrintsLemmas.{IsPrinted, paragraph_is_printed}
use Rattle.ansi_cells.proofs.OneLineLemmas.{IsClean, clean-nil, clean-append, clean-start, clean-close, clean-link_end, clean-interleaved, clean-link, clean-cell, clean-closed, safe-paragraph}

abbrev pub CleanLine : CarriedPart → Type 0
CleanLine l = IsClean l.bytes

-- these are marks of t at some places
abbrev AreMarksOf : List ℕ → List Mark → Type 0
AreMarksOf t ms = (test : ℕ → Bool) × (ms ≡ at_places test (marks t))

marks_every : (ms : List Mark) → ms ≡ at_places (λ p. true) ms
marks_every [] = refl
marks_every (m ∷ ms) = ap (λ ks. m ∷ ks) (marks_every ms)

module _ (t : List ℕ) (utf8 : IsUtf8 t) (safe : is_safe Keep t ≡ true) where
  link-past : (link : List ℕ) (own : List Mark) → AreMarksOf t own → IsClean link → IsClean (link_after_all link own)
  link-past link own (test, are) is = subst (λ ms. IsClean (link_after_all link ms)) (sym are) (clean-link t test link utf8 safe is)

  line-clean : (style : Rendition) (link : List ℕ) (own : List Mark) (i : ℕ × ℕ) → AreMarksOf t own → IsStyle style → IsClean link → IsPrinted (plain t) i → IsClean (line_over style link (plain t) own i).bytes
  unfolding line_over
  line-clean style link own i (test, are) is_style is_link printed =
      let shown = interleaved (plain t) i.0 i.1 own in
      let text : IsClean shown = subst (λ ms. IsClean (interleaved (plain t) i.0 i.1 ms)) (sym are) (clean-interleaved t test i.0 i.1 utf8 safe printed.from printed.to printed.prints) in
      cond_both (i.0 == i.1 && length own == 0) [] (start style ++ link ++ shown ++ pen_end (link_after_all link own) (after_marks style own)) IsClean (λ none. clean-nil)
      (λ some. clean-append (clean-append (clean-append (clean-start style is_style) is_link) text) (clean-append (clean-link_end (link_after_all link own)) (clean-close (after_marks style own))))

  lines-clean : (style : Rendition) (link : List ℕ) (ms : List Mark) (is : List (ℕ × ℕ)) → AreMarksOf t ms → IsStyle style → IsClean link → AllByRecursion (IsPrinted (plain t)) is → AllByRecursion CleanLine (lines_over style link (plain t) ms is)
  unfolding lines_over
  lines-clean style link ms [] are is_style is_link printed = tt
  lines-clean style link ms (i ∷ is) are is_style is_link printed =
      let own = if length is == 0 then ms else marks_up_to i.1 ms in
      let up_to : AreMarksOf t (marks_up_to i.1 ms) = ((λ p. are.0 p && nat_le p i.1), ap (marks_up_to i.1) are.1 ∙ at_places-at_places (λ p. nat_le p i.1) are.0 (marks t)) in
      let past : AreMarksOf t (marks_past (Some i.1) ms) = ((λ p. are.0 p && nat_lt i.1 p), ap (marks_past (Some i.1)) are.1 ∙ at_places-at_places (λ p. nat_lt i.1 p) are.0 (marks t)) in
      let own_are : AreMarksOf t own = cond_both (length is == 0) ms (marks_up_to i.1 ms) (AreMarksOf t) (λ last. are) (λ more. up_to) in (
        line-clean style link own i own_are is_style is_link printed.0,
        lines-clean (after_marks style own) (link_after_all link own) (marks_past (Some i.1) ms) is past (IsStyle-apply_all style (map (λ (m : Mark). m.bytes) own) is_style) (link-past link own own_are is_link) printed.1,
      )

lent-clean : (lent : Bool) (ls : List CarriedPart) → AllByRecursion CleanLine ls → AllByRecursion CleanLine (lent_lines lent ls)
lent-clean lent [] all = tt
lent-clean lent (l ∷ ls) all = (all.0, lent-clean lent ls all.1)

wrapped-clean : (t : List ℕ) (width : ℕ) → IsUtf8 t → AllByRecursion CleanLine (wrapped t width)
wrapped-clean t width utf8 =
    let p = paragraph t in
    let is = lines width (plain p) in
    lent-clean (bytes_eq p t) (lines_over plain_style [] (plain p) (marks p) is)
    (lines-clean p (IsUtf8-paragraph t utf8) (safe-paragraph t utf8) plain_style [] (marks p) is ((λ p. true), marks_every (marks p)) IsStyle-plain_style clean-nil (paragraph_is_printed t width utf8))

pub clean-wrapped : (t : List ℕ) (width : ℕ) → IsUtf8 t → All CleanLine (wrapped t width)
clean-wrapped t width utf8 = All-from_recursion CleanLine (wrapped t width) (wrapped-clean t width utf8)

-- with indents

pub clean-indent : (t : List ℕ) → IsUtf8 t → IsClean (shown_indent t)
clean-indent t utf8 = clean-closed (cell t) (clean-cell t utf8)

indented-clean : (first later : List ℕ) (ls : List CarriedPart) → IsClean (shown_indent first) → IsClean (shown_indent later) → AllByRecursion CleanLine ls → AllByRecursion CleanLine (indented first later ls)
indented-clean first later [] begun others all = tt
indented-clean first later (l ∷ ls) begun others all = (clean-append begun all.0, indented-clean later later ls others others all.1)

pub clean-wrapped_with : (t first later : List ℕ) (width : ℕ) → IsUtf8 t → IsUtf8 first → IsUtf8 later → All CleanLine (wrapped_with t width first later)
clean-wrapped_with t first later width utf8 first_utf8 later_utf8 =
    All-from_recursion CleanLine (wrapped_with t width first later)
    (indented-clean first later (wrapped t (text_width width first later)) (clean-indent first first_utf8) (clean-indent later later_utf8) (wrapped-clean t (text_width width first later) utf8))

use Rattle.std.proofs.Common.{◌≡◌, ℕ, List, ◌==◌, ◌++◌, length, inl, inr, sym, ◌∙◌, ap, ap₂}
use Rattle.ansi_items.specs.Plain.{plain, marks}
use Rattle.ansi_style.proofs.StyleLemmas.{IsStyle-rendition_of}
use Rattle.ansi_style.specs.declared.state.Style.{Style}
use Rattle.ansi_style.specs.States.{rendition_of}
use Rattle.ansi_style.specs.Written.{close}
use Rattle.ansi_cells.specs.Wrapped.{CarriedPart, pen_end}
use Rattle.ansi_safe.specs.Links.{link_end}
use Rattle.ansi_cells.proofs.WrapLemmas.{line-bare, bare-boundary, owned-marked, owned-carried, length-line}
use Rattle.ansi_wraps.proofs.wrap.spans.Span.bare.Goals.{else-self-2-via-then-self-2+else-not-is_empty, else-self-2-via-else-self-2}
use Rattle.ansi_wraps.proofs.wrap.spans.Span.bare.Goals as goal

-- what ends the carried link and style
carried : (link end : List ℕ) (style style' : Style) → end ≡ link_end link → style' ≡ style → (length (pen_end link (rendition_of style)) == 0) ≡ (length (end ++ close (rendition_of style')) == 0)
carried link end style style' link_is style_is = ap₂ (λ l s. length (l ++ close (rendition_of s)) == 0) (sym link_is) (sym style_is)

pub returns-then-self : goal.returns-then-self
returns-then-self c =
    let s = c.self.inside in
    record {
      line = sym (ap (λ (l : CarriedPart). l.borrowed) c.self.view_is) ∙ owned-marked (rendition_of s.carried.style) s.carried.link.now s.text.now s.start s.end (sym c.self.invariant.marked ∙ c.if-self.true);
      len = length-line (rendition_of s.carried.style) s.carried.link.now (plain s.text.now) (marks s.text.now) (s.start, s.end) (IsStyle-rendition_of s.carried.style) c.self.view_is;
    }

pub returns-then-not-is_empty : goal.returns-then-not-is_empty
returns-then-not-is_empty c =
    let s = c.self.inside in
    record {
      line = sym (ap (λ (l : CarriedPart). l.borrowed) c.self.view_is)
          ∙ owned-carried (rendition_of s.carried.style) s.carried.link.now s.text.now s.start s.end c.if-self-2.true (carried s.carried.link.now c.ending.result.link_end.now s.carried.style c.ending.result.style c.ending.ensures.link_end c.ending.ensures.style ∙ sym c.is_empty.ensures ∙ c.if-not-is_empty.true);
      len = length-line (rendition_of s.carried.style) s.carried.link.now (plain s.text.now) (marks s.text.now) (s.start, s.end) (IsStyle-rendition_of s.carried.style) c.self.view_is;
    }

pub range-requires-clause-start_boundary : goal.range-requires-clause-start_boundary
range-requires-clause-start_boundary c = λ some. (bare-boundary c.self.invariant c.if-self.false).0

pub range-requires-clause-end_boundary : goal.range-requires-clause-end_boundary
range-requires-clause-end_boundary c = (bare-boundary c.self.invariant c.if-self.false).1

pub returns : goal.returns
returns c =
    let s = c.self.inside in
    let bare = line-bare c.self.invariant c.if-self.false (elim c.else-self-2.branch [
      | else-self-2-via-then-self-2+else-not-is_empty w ↦ inr (carried s.carried.link.now w.ending.result.link_end.now s.carried.style w.ending.result.style w.ending.ensures.link_end w.ending.ensures.style ∙ sym w.is_empty.ensures ∙ w.if-not-is_empty.false)
      | else-self-2-via-else-self-2 w ↦ inl w.if-self-2.false
    ]) in
    record {
      line = (c.range.ensures.value ∙ bare.0 ∙ ap (λ (l : CarriedPart). l.bytes) c.self.view_is, sym (ap (λ (l : CarriedPart). l.borrowed) c.self.view_is) ∙ bare.1);
      len = length-line (rendition_of s.carried.style) s.carried.link.now (plain s.text.now) (marks s.text.now) (s.start, s.end) (IsStyle-rendition_of s.carried.style) c.self.view_is;
    }

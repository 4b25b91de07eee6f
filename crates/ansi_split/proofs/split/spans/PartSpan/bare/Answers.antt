use Rattle.ansi_split.proofs.Common.{◌≡◌, ◌≤◌, ◌==◌, false, IsFalse, sym, ◌∙◌, ap, arith, length, eqb-true, eqb-false, ne_eqb, length-drop, has_escape, rendition_of, IsStyle-rendition_of, CarriedPart}
use Rattle.ansi_split.proofs.SpanWalkLemmas.{boundary-bare}
use Rattle.ansi_split.proofs.SplitLemmas.{IsBare, owned-escape, owned-styled, bare-empty, bare-unstyled}
use Rattle.ansi_split.proofs.PartLengthLemmas.{length-span_part}
use Rattle.ansi_split.proofs.split.spans.PartSpan.bare.Goals as goal
use Rattle.ansi_split.proofs.split.spans.PartSpan.bare.Goals.{then-is_empty-via-then-is_empty, then-is_empty-via-else-is_empty+then-not-has_any}

-- a part is at most as long as its source, a start and a close at most

pub returns-then-self : goal.returns-then-self
returns-then-self c =
    let s = c.self.inside in
    record {
      part = sym (ap (λ (q : CarriedPart). q.borrowed) c.self.view_is) ∙ owned-escape (rendition_of s.carried) s.text.now s.skip (sym c.self.invariant.marked ∙ c.if-self.true);
      len = length-span_part (rendition_of s.carried) s.text.now s.skip (IsStyle-rendition_of s.carried) c.self.view_is;
    }

-- a text without ESC is its own plain text
pub range_from-bare-requires : goal.range_from-bare-requires
range_from-bare-requires c =
    let s = c.self.inside in
    λ some. boundary-bare s.text.now s.skip (sym c.self.invariant.marked ∙ c.if-self.false) c.self.invariant.skip_is_boundary

pub returns-then-is_empty : goal.returns-then-is_empty
returns-then-is_empty c =
    let s = c.self.inside in
    let style = rendition_of s.carried in
    let t = s.text.now in
    let none : IsFalse (has_escape t) = sym c.self.invariant.marked ∙ c.if-self.false in
    let boundary = boundary-bare t s.skip none c.self.invariant.skip_is_boundary in
    let inside : s.skip ≤ length t = boundary.0 in
    let bare : IsBare style t s.skip = elim c.then-is_empty.branch [
      | then-is_empty-via-then-is_empty empty ↦ (
          let nothing : length c.range_from-bare.result.now ≡ 0 = eqb-true _ 0 (sym c.is_empty.ensures ∙ empty.if-is_empty.true) in
          bare-empty style t s.skip none (omega (arith, inside, nothing, ap length c.range_from-bare.ensures.value, length-drop s.skip t)))
      | then-is_empty-via-else-is_empty+then-not-has_any plain ↦ bare-unstyled style t s.skip none inside (sym plain.has_any.ensures ∙ plain.if-not-has_any.true)
    ] in
    record {
      part = (c.range_from-bare.ensures.value ∙ sym bare.bytes ∙ ap (λ (q : CarriedPart). q.bytes) c.self.view_is, sym (ap (λ (q : CarriedPart). q.borrowed) c.self.view_is) ∙ bare.borrowed);
      len = length-span_part style t s.skip (IsStyle-rendition_of s.carried) c.self.view_is;
    }

pub returns : goal.returns
returns c =
    let s = c.self.inside in
    let none : IsFalse (has_escape s.text.now) = sym c.self.invariant.marked ∙ c.if-self.false in
    let filled : (s.skip == length s.text.now) ≡ false
    = ne_eqb s.skip (length s.text.now) (λ end.
    omega (arith, end, eqb-false _ 0 (sym c.is_empty.ensures ∙ c.if-is_empty.false), ap length c.range_from-bare.ensures.value, length-drop s.skip s.text.now)) in
    record {
      part = sym (ap (λ (q : CarriedPart). q.borrowed) c.self.view_is) ∙ owned-styled (rendition_of s.carried) s.text.now s.skip none filled (sym c.has_any.ensures ∙ c.if-not-has_any.false);
      len = length-span_part (rendition_of s.carried) s.text.now s.skip (IsStyle-rendition_of s.carried) c.self.view_is;
    }

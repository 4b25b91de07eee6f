use Rattle.ansi_split.proofs.Common.{◌≡◌, ◌++◌, false, sym, ◌∙◌, ap, start, close_if_any, rendition_of, CarriedPart}
use Rattle.ansi_split.proofs.SplitLemmas.{bytes-owned}
use Rattle.ansi_split.proofs.SpanWalkLemmas.{span_text-is}
use Rattle.ansi_split.proofs.split.spans.PartSpan.stretch.Goals as goal

-- the start, what follows the bytes that are left out, and the close if the style has one
pub returns : goal.returns
returns c =
    let s = c.self.inside in
    let style = rendition_of s.carried in
    let owned : c.args.self.now.borrowed ≡ false = c.in_default.ensures.part in (
      owned,
      ap (λ (q : CarriedPart). q.bytes) (sym c.self.view_is) ∙ bytes-owned style s.text.now s.skip (ap (λ (q : CarriedPart). q.borrowed) c.self.view_is ∙ owned)
          ∙ sym (span_text-is style s.text.now s.skip (rendition_of s.after) c.self.invariant.is_after)
          ∙ ap (λ w. start style ++ w ++ close_if_any (rendition_of s.after)) (sym c.in_ok-text.ensures),
    )

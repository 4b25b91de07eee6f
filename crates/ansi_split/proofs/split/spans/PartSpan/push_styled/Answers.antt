use Rattle.ansi_split.proofs.Common.{◌≡◌, ◌++◌, List, ℕ, refl, sym, ◌∙◌, ap, string_bytes, append_assoc, pieces_of, start, close, rendition_of, CarriedPart, span_text}
use Rattle.ansi_split.proofs.SplitLemmas.{bytes-owned}
use Rattle.ansi_split.proofs.SpanWalkLemmas.{left_of, span-closed, span-open}
use Rattle.ansi_split.proofs.split.spans.PartSpan.push_styled.Goals as goal

-- three texts are appended in turn
joined : (out a b c : List ℕ) {first second third : List ℕ} → first ≡ out ++ a → second ≡ first ++ b → third ≡ second ++ c → third ≡ out ++ ((a ++ b) ++ c)
joined out a b c one two three =
    three ∙ ap (λ v. v ++ c) (two ∙ ap (λ v. v ++ b) one ∙ append_assoc out a b) ∙ append_assoc out (a ++ b) c

-- the start, the text, and the close if the style has one

pub returns-in_ok-write_close-clause-bytes : goal.returns-in_ok-write_close-clause-bytes
returns-in_ok-write_close-clause-bytes g c =
    let s = c.self.inside in
    let style = rendition_of s.carried in
    let t = s.text.now in
    let part : span_text style t s.skip ≡ c.args.self.now.bytes
    = sym (bytes-owned style t s.skip (ap (λ (q : CarriedPart). q.borrowed) c.self.view_is ∙ c.requires)) ∙ ap (λ (q : CarriedPart). q.bytes) c.self.view_is in
    let whole : (start style ++ left_of s.skip (pieces_of t)) ++ close (rendition_of s.after) ≡ span_text style t s.skip
    = span-closed style t s.skip (rendition_of s.after) c.self.invariant.is_after (sym c.has_any.ensures ∙ c.if-has_any.true) refl in
    joined _ _ _ _ c.in_ok-write_start.ensures.bytes c.in_ok-write_text.ensures.bytes c.in_ok-write_close.ensures.bytes ∙ ap (λ v. string_bytes c.args.out.now ++ v) (whole ∙ part)

pub returns-else-has_any-clause-bytes : goal.returns-else-has_any-clause-bytes
returns-else-has_any-clause-bytes g c =
    let s = c.self.inside in
    let style = rendition_of s.carried in
    let t = s.text.now in
    let part : span_text style t s.skip ≡ c.args.self.now.bytes
    = sym (bytes-owned style t s.skip (ap (λ (q : CarriedPart). q.borrowed) c.self.view_is ∙ c.requires)) ∙ ap (λ (q : CarriedPart). q.bytes) c.self.view_is in
    let whole : start style ++ left_of s.skip (pieces_of t) ≡ span_text style t s.skip
    = span-open style t s.skip (rendition_of s.after) c.self.invariant.is_after (sym c.has_any.ensures ∙ c.if-has_any.false) refl in
    c.in_ok-write_text.ensures.bytes ∙ ap (λ v. v ++ left_of s.skip (pieces_of t)) c.in_ok-write_start.ensures.bytes ∙ append_assoc (string_bytes c.args.out.now) (start style) (left_of s.skip (pieces_of t))
    ∙ ap (λ v. string_bytes c.args.out.now ++ v) (whole ∙ part)

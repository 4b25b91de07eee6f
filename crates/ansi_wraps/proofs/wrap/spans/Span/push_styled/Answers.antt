use Rattle.std.proofs.Common.{◌≡◌, ℕ, ◌^◌, ◌<◌, List, ◌++◌, append_assoc, length, drop, slice_range, Result, Ok, Err, OnOk, ◌∙◌, ap, ap₂, arith, rules, string_bytes}
use Rattle.ansi_items.specs.Pieces.{pieces_of}
use Rattle.ansi_items.specs.Plain.{plain}
use Rattle.ansi_style.specs.States.{rendition_of}
use Rattle.ansi_style.specs.Written.{start, close}
use Rattle.ansi_slice.specs.Stretches.{sequences_up_to}
use Rattle.ansi_items.proofs.PlainLemmas.{length-plain}
use Rattle.ansi_search.proofs.PositionLemmas.{no_character_goes_on-past}
use Rattle.ansi_cells.specs.Wrapped.{CarriedPart, pen_end}
use Rattle.ansi_style.proofs.FrontLemmas.{begins_more}
use Rattle.ansi_cells.proofs.WrapLemmas.{line-written, line-ordered}
use Rattle.ansi_wraps.proofs.wrap.spans.Span.push_styled.Goals as goal

pub range-requires-clause-start_le_end : goal.range-requires-clause-start_le_end
range-requires-clause-start_le_end g c = line-ordered c.self.invariant c.in_ok-start.ensures.offset

-- a position past the end is good
pub push_sequences-requires-2 : goal.push_sequences-requires-2
push_sequences-requires-2 g c =
    let rest = c.range_from.result.now in
    let size : length rest < 2 ^ 63 = search rules in
    no_character_goes_on-past (plain rest) _ (omega (arith, size, length-plain rest))

append_assoc-seven : (old s l f z e p : List ℕ) → old ++ s ++ l ++ f ++ z ++ e ++ p ≡ old ++ (s ++ l ++ f ++ z ++ e ++ p)
append_assoc-seven old s l f z e p = simp append_assoc

OnOk-same : {U E : Type 0} (r : Result U E) (new old all : List ℕ) → OnOk r (new ≡ old) → old ≡ all → OnOk r (new ≡ all)
OnOk-same (Ok u) new old all is same = is ∙ same
OnOk-same (Err e) new old all is same = tt

-- what is written, one part after another
pub returns-clause-bytes : goal.returns-clause-bytes
returns-clause-bytes g c =
    let s = c.self.inside in
    let t = s.text.now in
    let size : length t < 2 ^ 63 = search rules in
    let view = c.self.view_is in
    let style = rendition_of s.carried.style in
    let link = s.carried.link.now in
    let top : ℕ = 18446744073709551615 in
    let from = sequences_up_to s.start (pieces_of t) in
    let old = string_bytes c.args.out.now in
    let pen : string_bytes c.push_str.new.self ≡ old ++ start style ++ link
    = c.in_ok-push_str.ensures.bytes ∙ ap (λ u. u ++ link) c.in_ok-write_start.ensures.bytes in
    let text : string_bytes c.push_str-2.new.self ≡ old ++ start style ++ link ++ from ++ slice_range t c.in_ok-start.start s.end_offset
    = c.in_ok-push_str-2.ensures.bytes ∙ ap₂ (λ u v. u ++ v) (c.in_ok-start.ensures.bytes ∙ ap (λ u. u ++ from) pen) c.range.ensures.value in
    let last = sequences_up_to top (pieces_of (drop s.end_offset t)) in
    let ended = pen_end s.after.link.now (rendition_of s.after.style) in
    OnOk-same c.push_to.result _ _ _ c.push_to.ensures.bytes
    (ap₂ (λ l r. string_bytes c.push_sequences-2.new.out ++ (l ++ close (rendition_of r))) c.ending.ensures.link_end c.ending.ensures.style
    ∙ ap (λ u. u ++ ended) (c.in_ok-push_sequences.ensures.bytes ∙ ap₂ (λ u v. u ++ sequences_up_to top (pieces_of v)) text c.range_from.ensures.value)
    ∙ append_assoc-seven old (start style) link from (slice_range t c.in_ok-start.start s.end_offset) last ended
    ∙ ap (λ u. old ++ u)
    (line-written {top = top} c.self.invariant c.in_ok-start.ensures.offset (omega (arith, size)) (ap (λ (l : CarriedPart). l.borrowed) view ∙ c.requires)
    ∙ ap (λ (l : CarriedPart). l.bytes) view))

-- each appends
pub returns-clause-kept : goal.returns-clause-kept
returns-clause-kept g c = λ front begins.
    let pen = begins_more _ _ _ front c.in_ok-push_str.ensures.bytes (begins_more _ _ _ front c.in_ok-write_start.ensures.bytes begins) in
    let text = begins_more _ _ _ front c.in_ok-push_str-2.ensures.bytes (c.in_ok-start.ensures.kept front pen) in
    c.push_to.ensures.kept front (c.in_ok-push_sequences.ensures.kept front text)

use Rattle.std.proofs.Common.{◌≡◌, ◌∷◌, refl, sym, ◌∙◌, ap}
use Rattle.std.specs.Io.KnownBytes.{append_known}
use Rattle.ansi_str.specs.Pieces.{Text}
use Rattle.ansi_str.specs.Plain.{plain_of}
use Rattle.ansi_str.specs.Scans.{pieces_left}
use Rattle.ansi_items.proofs.StepLemmas.{kind_is_text, gives_text, gives_mark, plain_of-mark}
use Rattle.ansi_search.proofs.OffsetLemmas.{item_range, kind_differs}
use Rattle.ansi_io.proofs.Known.{append_known-append}
use Rattle.ansi_lines_runs.proofs.Written.{flag_unchanged}
use Rattle.ansi_lines_runs.proofs.lines.write_plain.Goals as goal

pub range-requires : goal.range-requires
range-requires g c = item_range c.in-Some.ensures.steps c.loop-item.invariant.text

-- over a text
pub loop-item-preserved-in-Continue-1 : goal.loop-item-preserved-in-Continue-1
loop-item-preserved-in-Continue-1 g c =
    let gives = c.in-Some.ensures.steps in
    let w = c.range.result.now in
    let now = g.W.Sink.taken c.loop-item.output in
    let left : pieces_left c.loop-item.item-iterator ≡ Text w ∷ pieces_left c.next.new.self = gives_text gives c.loop-item.invariant.text c.range.ensures.value (kind_is_text c.if-eq.ensures) in
    record {
      text = gives.text ∙ c.loop-item.invariant.text;
      written = ap (λ k. append_known k (plain_of (pieces_left c.next.new.self))) (c.in_ok-write.ensures.taken ∙ ap (append_known now) c.as_bytes.ensures.value)
          ∙ append_known-append now w (plain_of (pieces_left c.next.new.self))
          ∙ ap (λ ps. append_known now (plain_of ps)) (sym left) ∙ c.loop-item.invariant.written;
      flushes = c.in_ok-write.ensures.flushes ∙ c.loop-item.invariant.flushes;
      unfailed = flag_unchanged _ _ c.in_ok-write.ensures.failed ∙ c.loop-item.invariant.unfailed;
    }

-- over a mark
pub loop-item-preserved : goal.loop-item-preserved
loop-item-preserved g c =
    let gives = c.in-Some.ensures.steps in
    let mark = gives_mark gives c.loop-item.invariant.text refl (kind_differs c.if-eq.ensures) in
    record {
      text = gives.text ∙ c.loop-item.invariant.text;
      written = ap (append_known (g.W.Sink.taken c.loop-item.output)) (sym (ap plain_of mark.pieces ∙ plain_of-mark mark.mark (pieces_left c.next.new.self) mark.is_mark)) ∙ c.loop-item.invariant.written;
      flushes = c.loop-item.invariant.flushes;
      unfailed = c.loop-item.invariant.unfailed;
    }

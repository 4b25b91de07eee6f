use Rattle.std.proofs.Common.{◌≡◌, ◌∙◌, ◌+◌, ◌∷◌, ◌++◌, List, ℕ, length, take, drop, sym, ap, arith, append_assoc, length-append}
use Rattle.std.specs.Prelude.{slice_range}
use Rattle.ansi_items.specs.Pieces.{Piece, Text}
use Rattle.ansi_items.specs.Plain.{plain, plain_of}
use Rattle.ansi_items.specs.Scans.{pieces_left}
use Rattle.ansi_items.proofs.PlainLemmas.{length-plain}
use Rattle.ansi_items.proofs.StepLemmas.{gives_text, kind_is_text}
use Rattle.ansi_text_calls.proofs.GivenLemmas.{written-more}
use Rattle.ansi_text_calls.proofs.texts.copy_plain.Goals as goal

-- a run follows the plain bytes so far
with-run : (done w t : List ℕ) (old new : List Piece) → old ≡ Text w ∷ new → done ++ plain_of old ≡ plain t → (done ++ w) ++ plain_of new ≡ plain t
with-run done w t old new first all = append_assoc done w (plain_of new) ∙ ap (λ ps. done ++ plain_of ps) (sym first) ∙ all

-- the plain text is no longer than the text
pub put_run-len-requires : goal.put_run-len-requires
put_run-len-requires c =
    let bytes = ap (λ u. slice_range u c.in-Some.item.start c.in-Some.item.end) c.as_bytes-bytes.ensures.value in
    let w = slice_range c.as_bytes-bytes.result.now c.in-Some.item.start c.in-Some.item.end in
    let first = gives_text c.in-Some.ensures.steps c.loop-item.invariant.text bytes (kind_is_text c.if-eq.ensures) in
    let so_far = c.loop-item.invariant.copied in
    let all = with-run so_far.0 w c.args.text.now _ _ first so_far.1 in
    let left = plain_of (pieces_left c.next.new.self) in
    omega (arith, so_far.2, ap length all, length-append (so_far.0 ++ w) left, length-append so_far.0 w, length-plain c.args.text.now)

-- a run more is counted and written
pub loop-item-preserved-then-eq : goal.loop-item-preserved-then-eq
loop-item-preserved-then-eq c =
    let gives = c.in-Some.ensures.steps in
    let bytes = ap (λ u. slice_range u c.in-Some.item.start c.in-Some.item.end) c.as_bytes-bytes.ensures.value in
    let w = slice_range c.as_bytes-bytes.result.now c.in-Some.item.start c.in-Some.item.end in
    let first = gives_text gives c.loop-item.invariant.text bytes (kind_is_text c.if-eq.ensures) in
    let so_far = c.loop-item.invariant.copied in
    let size = length-append so_far.0 w in
    record {
      text = gives.text ∙ c.loop-item.invariant.text;
      copied = (
        so_far.0 ++ w,
        with-run so_far.0 w c.args.text.now _ _ first so_far.1,
        c.put_run-len.ensures.after ∙ omega (arith, so_far.2, size),
        λ room.
            written-more c.args.buffer.now c.loop-item.buffer c.put_run-len.new.buffer so_far.0 w
            (so_far.3 (omega (arith, room, size)))
            (c.put_run-len.ensures.bytes (omega (arith, room, size, so_far.2, c.loop-item.auto.buffer))
            ∙ ap (λ n. take n c.loop-item.buffer ++ w ++ drop (n + length w) c.loop-item.buffer) so_far.2),
      );
    }

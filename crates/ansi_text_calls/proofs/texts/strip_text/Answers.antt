use Rattle.std.proofs.Common.{◌≡◌, ◌≤◌, ◌∙◌, length, inl, ap, sym, subst, arith}
use Rattle.ansi_items.specs.Plain.{plain}
use Rattle.ansi_items.proofs.PlainLemmas.{length-plain, plain-bare}
use Rattle.ansi_text_calls.specs.Answers.{done, IsWritten}
use Rattle.ansi_text_calls.proofs.texts.strip_text.Goals as goal

-- a text without ESC is its own plain text
pub returns-then-not-has_any : goal.returns-then-not-has_any
returns-then-not-has_any g c =
    let t = c.args.text.now in
    let bare : plain t ≡ t = plain-bare t (sym c.has_any.ensures ∙ c.if-not-has_any.true) in
    inl (subst (λ u. IsWritten u c.write.result c.args.buffer.now c.write.new.buffer) (c.as_bytes.ensures.value ∙ sym bare) c.write.ensures)

-- the plain text is no longer than the text
pub returns-then-text-buffer : goal.returns-then-text-buffer
returns-then-text-buffer g c =
    let room : length (plain c.args.text.now) ≤ length c.args.buffer.now = omega (arith, length-plain c.args.text.now, c.if-text-buffer.true) in
    inl (inl (room, c.done.ensures ∙ ap done c.copy_plain.ensures.len, c.copy_plain.ensures.bytes room))

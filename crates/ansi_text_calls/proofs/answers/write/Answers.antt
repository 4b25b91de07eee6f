use Rattle.std.proofs.Common.{◌++◌, length, drop, ap, inl, inr, refl}
use Rattle.ansi_text_calls.proofs.answers.write.Goals as goal

-- there is no room
pub returns-then-len-buffer : goal.returns-then-len-buffer
returns-then-len-buffer c = inr (c.if-len-buffer.true, refl, refl)

-- the text takes the place of as many bytes
pub returns : goal.returns
returns c = inl (c.if-len-buffer.false, c.done.ensures, ap (λ front. front ++ drop (length c.args.text.now) c.args.buffer.now) c.copy_from_slice.ensures.after)

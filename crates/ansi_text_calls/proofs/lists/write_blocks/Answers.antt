use Rattle.std.proofs.Common.{◌≡◌, ◌∙◌, true, false, sym, refl, inl}
use Rattle.ansi_str.specs.Plain.{has_escape}
use Rattle.ansi_text_calls.proofs.ListLemmas.{one_block_written, Gives-joined}
use Rattle.ansi_text_calls.proofs.lists.write_blocks.Goals as goal

-- a text without ESC is one block
pub returns-then-not-ansi_has_any : goal.returns-then-not-ansi_has_any
returns-then-not-ansi_has_any g c =
    let t = c.in-Ok.text.now in
    let none : has_escape t ≡ false = sym c.ansi_has_any.ensures ∙ c.if-not-ansi_has_any.true in
    let written = one_block_written g.T.Listed.text g.T.Listed.IsEntry c.alone.result t _ _ _ _ _ none (g.met.T.Listed.stays t)
    (c.alone.ensures t refl) c.write_one_block.ensures in
    inl (c.in-Ok.ensures.1, rw c.in-Ok.ensures.0 at written)

-- all blocks are joined
pub returns : goal.returns
returns g c =
    let some : has_escape c.in-Ok.text.now ≡ true = sym c.ansi_has_any.ensures ∙ c.if-not-ansi_has_any.false in
    inl (c.in-Ok.ensures.1, rw c.in-Ok.ensures.0 at (Gives-joined _ _ _ c.join_blocks.result _ _ _ _ _ some c.join_blocks.ensures.texts c.join_blocks.ensures.entries c.write_joined.ensures))

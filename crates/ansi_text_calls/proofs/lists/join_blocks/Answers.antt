use Rattle.std.proofs.Common.{refl}
use Rattle.ansi_text_calls.proofs.ListLemmas.{block-taken, texts-more, length-joined, entries-more, entries-all}
use Rattle.ansi_text_calls.proofs.lists.join_blocks.Goals as goal

-- a block more is written, with its entry
pub loop-block-preserved-in_ok-push : goal.loop-block-preserved-in_ok-push
loop-block-preserved-in_ok-push g c =
    let text = g.T.Listed.text in
    let taken = block-taken c.in-Some.ensures.steps c.in_ok-block.was in
    let more = c.in_ok-entry.ensures.bytes in
    record {
      texts = texts-more text _ _ _ _ _ _ _ taken more refl c.loop-block.invariant.texts;
      entries = entries-more text g.T.Listed.IsEntry _ _ _ _ _ _ _ _ _
          taken (length-joined _ _ _ more) c.in_ok-push.ensures.items c.in_ok-entry.ensures.entry c.loop-block.invariant.entries;
    }

pub loop-block-preserved : goal.loop-block-preserved
loop-block-preserved g c =
    let text = g.T.Listed.text in
    let taken = block-taken c.in-Some.ensures.steps c.in_ok-block.was in
    let more = c.in_ok-entry.ensures.bytes in
    record {
      texts = texts-more text _ _ _ _ _ _ _ taken more refl c.loop-block.invariant.texts;
      entries = entries-more text g.T.Listed.IsEntry _ _ _ _ _ _ _ _ _
          taken (length-joined _ _ _ more) c.in_ok-push.ensures.items c.in_ok-entry.ensures.entry c.loop-block.invariant.entries;
    }

-- at the end no block is left
pub returns-clause-entries : goal.returns-clause-entries
returns-clause-entries g c = entries-all g.T.Listed.text g.T.Listed.IsEntry _ _ _ _ c.in-None.ensures.steps.0 c.loop-block.invariant.entries

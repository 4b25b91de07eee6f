use Rattle.ansi_blocks.proofs.Common.{rules, ◌≡◌, ◌∙◌, ap, gives_mark}
use Rattle.ansi_blocks.proofs.BlockLemmas.{sequences_before-front}
use Rattle.ansi_blocks.proofs.BlockWalkLemmas.{joined-other}
use Rattle.ansi_blocks.proofs.runs.sequences_before.Goals as goal

pub loop-item-init : goal.loop-item-init
loop-item-init g c =
    let begins : c.into_iter-item-iterator.result ≡ record { text = c.args.text.now; offset = 0 } = c.into_iter-item-iterator.ensures.into_iter_gives ∙ c.new-item-items.ensures.start in
    record {
      text = ap (λ s. s.text) begins;
      so_far = rw (c.in_ok-joined.ensures.bytes, begins) (record { bytes = rw (sequences_before-front c.args.text.now) });
    }

-- over another sequence, or a lone escape
pub loop-item-preserved : goal.loop-item-preserved
loop-item-preserved g c =
    let gives = c.in-Some.ensures.steps in
    record {
      text = gives.text ∙ c.loop-item.invariant.text;
      so_far = joined-other c.loop-item.invariant.so_far (gives_mark gives c.loop-item.invariant.text c.range.ensures.value (search rules)) (search rules) c.in_ok-push_str-in-Other.ensures.bytes;
    }

-- Walks that return the blocks and the parts of a text one by one.
use Rattle.std.specs.Prelude.{◌≡◌, ◌⊎◌, ℕ, true, not, IsTrue, IsFalse, List, [], ◌∷◌, ◌==◌, length, Some, IsUtf8}
use Rattle.ansi_style.specs.declared.state.rendition.Rendition.{Rendition}
use Rattle.ansi_str.specs.Rendition.{plain_style}
use Rattle.ansi_str.specs.States.{rendition_of_numbers}
use Rattle.ansi_str.specs.Blocks.{Block, blocks_from, block_after, sequences_before}
use Rattle.ansi_str.specs.Splits.{CarriedPart}
use Rattle.ansi_split.specs.Walks.{parts_of_walk}
use Rattle.ansi_split.specs.declared.walks.PartWalk.{PartWalk}
use Rattle.ansi_text_calls.specs.declared.walks.NextPart.{NextPart}
use Rattle.ansi_text_calls.specs.declared.answers.Answer.{Answer}
use Rattle.ansi_text_calls.specs.declared.walks.BlockWalk.{BlockWalk}
use Rattle.ansi_text_calls.specs.declared.walks.NextBlock.{NextBlock}
use Rattle.ansi_text_calls.specs.Answers.{ok, no, done, HasFailed, Gives}
use Rattle.ansi_text_calls.specs.Styles.{IsStyleOf}

-- the blocks that a walk has left
abbrev pub blocks_left : BlockWalk → List Block
blocks_left w = blocks_from (rendition_of_numbers w.style) w.rest.now

-- a walk is at the beginning of a text
abbrev pub IsOver : List ℕ → BlockWalk → Type 0
IsOver t w = (w.rest.now ≡ t) × IsStyleOf plain_style w.style

-- the sequences in the first of these blocks, before its run
abbrev pub sequences_left : BlockWalk → List ℕ
sequences_left w = sequences_before w.rest.now 0

-- a call returns this run and its style, and these blocks are left
abbrev pub IsTold : List ℕ → Rendition → List Block → BlockWalk → NextBlock → Type 0
IsTold w s bs walk block =
    (block.text.now ≡ w) × IsUtf8 w × IsStyleOf s block.style × IsStyleOf s walk.style × (blocks_left walk ≡ bs)

-- a call takes the first block off the walk: it writes the sequences in the block and returns its run and its style, and the other blocks are left; if there is no block, no room or no memory, everything is unchanged
abbrev pub GivesNext : BlockWalk → BlockWalk → NextBlock → NextBlock → Answer → List ℕ → List ℕ → Type 0
GivesNext old new old_block block answer old_buffer buffer =
    ((blocks_left old ≡ []) × HasFailed no answer old_buffer buffer × (new ≡ old) × (block ≡ old_block))
    ⊎ ((w : List ℕ) × (s : Rendition) × (bs : List Block) × (blocks_left old ≡ block_after (sequences_left old) w s ∷ bs)
    × Gives no (not (length (sequences_left old) == 0)) (Some (sequences_left old)) answer old_buffer buffer
    × (((answer.status ≡ ok) × IsTold w s bs new block) ⊎ ((¬ (answer.status ≡ ok)) × (new ≡ old) × (block ≡ old_block))))

-- a call takes the first part off the walk: it returns a part that is a stretch of the text, and writes any other part, and the other parts are left; if there is no part, no room or no memory, everything is unchanged
abbrev pub GivesNextPart : PartWalk → PartWalk → NextPart → NextPart → Answer → List ℕ → List ℕ → Type 0
GivesNextPart old new old_part part answer old_buffer buffer =
    ((parts_of_walk old ≡ []) × HasFailed no answer old_buffer buffer × (new ≡ old) × (part ≡ old_part))
    ⊎ ((p : CarriedPart) × (ps : List CarriedPart) × (parts_of_walk old ≡ p ∷ ps)
    × ((IsTrue p.borrowed × (part.text.now ≡ p.bytes) × IsUtf8 p.bytes × (answer ≡ done 0) × (buffer ≡ old_buffer) × (parts_of_walk new ≡ ps))
    ⊎ (IsFalse p.borrowed × (part ≡ old_part) × Gives no true (Some p.bytes) answer old_buffer buffer
    × (((answer.status ≡ ok) × (parts_of_walk new ≡ ps)) ⊎ ((¬ (answer.status ≡ ok)) × (new ≡ old))))))

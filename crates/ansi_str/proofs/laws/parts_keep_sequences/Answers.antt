use Rattle.ansi_split.proofs.PartSequenceLemmas.{other_sequences-all_parts}
use Rattle.ansi_str.proofs.laws.parts_keep_sequences.Goals as goal

pub returns : goal.returns
returns c = other_sequences-all_parts

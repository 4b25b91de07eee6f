use Rattle.ansi_items.proofs.SequenceLemmas.{no_sequence_begins_another}
use Rattle.ansi_items.proofs.PieceLemmas.{are_pieces}
use Rattle.ansi_str.proofs.laws.one_reading.Goals as goal

pub returns-clause-apart : goal.returns-clause-apart
returns-clause-apart c = no_sequence_begins_another

pub returns-clause-pieces : goal.returns-clause-pieces
returns-clause-pieces c = are_pieces

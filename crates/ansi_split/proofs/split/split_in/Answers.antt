use Rattle.ansi_split.proofs.Common.{arith, length-plain}
use Rattle.ansi_split.proofs.SplitLemmas.{parts_left-parts, bytes-parts_left, length-parts_left, parts_left-bare}
use Rattle.ansi_split.proofs.PartLengthLemmas.{source_lens_within}
use Rattle.ansi_split.proofs.split.split_in.Goals as goal

pub returns-clause-parts : goal.returns-clause-parts
returns-clause-parts g c = rw c.new-spans.ensures (parts_left-parts c.args.text.now c.args.pat.now)

pub returns-clause-bytes : goal.returns-clause-bytes
returns-clause-bytes g c = rw c.new-spans.ensures (bytes-parts_left c.args.text.now c.args.pat.now)

pub returns-clause-len : goal.returns-clause-len
returns-clause-len g c = rw c.new-spans.ensures (length-parts_left c.args.text.now c.args.pat.now)

pub returns-clause-takes_no_memory : goal.returns-clause-takes_no_memory
returns-clause-takes_no_memory g c = λ none. rw c.new-spans.ensures (parts_left-bare c.args.text.now c.args.pat.now none)

-- the plain text is no longer than the text, and no text in memory fills half of it
pub returns-clause-fits : goal.returns-clause-fits
returns-clause-fits g c = grind (arith, length-parts_left, length-plain)

pub returns-clause-within : goal.returns-clause-within
returns-clause-within g c = rw c.new-spans.ensures (source_lens_within c.args.text.now c.args.pat.now)

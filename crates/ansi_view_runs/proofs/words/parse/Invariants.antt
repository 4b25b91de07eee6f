use Rattle.std.proofs.Common.{◌≡◌, drop}
use Rattle.std.specs.Prelude.{fold}
use Rattle.ansi_lines_runs.specs.Runs.{words_of}
use Rattle.ansi_view_runs.specs.Edits.{changes_of}
use Rattle.ansi_view_runs.specs.Words.{bad_word, with_word, work_named}
use Rattle.ansi_view_runs.proofs.words.parse.Given as goal

-- the words so far are good, and the other words ask for the rest
abbrev pub invariant-loop-word : goal.invariant-loop-word
invariant-loop-word g l = record {
  asked : fold with_word (record { view = record { policy = l.policy; plain = l.plain }; changes = changes_of l.edits.items }) (words_of (drop l.word-index l.words)) ≡ work_named (words_of l.words);
  none_bad : bad_word (words_of (drop l.word-index l.words)) ≡ bad_word (words_of l.words);
}

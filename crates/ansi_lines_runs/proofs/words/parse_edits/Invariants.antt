use Rattle.std.proofs.Common.{◌≡◌, ◌++◌, drop}
use Rattle.std.specs.Option.{option_map}
use Rattle.ansi_str.specs.Edits.{changes_of}
use Rattle.ansi_lines_runs.specs.Runs.{words_of}
use Rattle.ansi_lines_runs.specs.Words.{changes_asked}
use Rattle.ansi_lines_runs.proofs.words.parse_edits.Given as goal

-- the words so far ask for these changes, and the other words for those that follow
abbrev pub invariant-loop-word : goal.invariant-loop-word
invariant-loop-word g l = record {
  asked : changes_asked (words_of l.words) ≡ option_map (λ more. changes_of l.edits.items ++ more) (changes_asked (words_of (drop l.word-index l.words)));
}

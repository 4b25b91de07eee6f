use Rattle.std.proofs.Common.{rules, refl}
use Rattle.ansi_lines_runs.specs.Runs.{output_of, words_of}
use Rattle.ansi_lines_runs.proofs.Written.{nothing-beginning}
use Rattle.ansi_lines_runs.proofs.runs.perform.Goals as goal

-- nothing is read before the words are known to be good
pub returns-in_err-parse-clause-untouched : goal.returns-in_err-parse-clause-untouched
returns-in_err-parse-clause-untouched g c = λ bad. (refl, refl)

pub returns-in_err-job-clause-untouched : goal.returns-in_err-job-clause-untouched
returns-in_err-job-clause-untouched g c = λ bad. (refl, refl)

-- nothing is written before all is read
pub returns-in_err-parse-clause-out_of_memory : goal.returns-in_err-parse-clause-out_of_memory
returns-in_err-parse-clause-out_of_memory g c = λ stop. nothing-beginning _ _ (output_of (words_of c.args.words.now))

pub returns-in_err-text-clause-out_of_memory : goal.returns-in_err-text-clause-out_of_memory
returns-in_err-text-clause-out_of_memory g c = λ stop. nothing-beginning _ _ (output_of (words_of c.args.words.now))

-- the input is read only if the words are good
pub returns-in_err-text-clause-words : goal.returns-in_err-text-clause-words
returns-in_err-text-clause-words g c = search rules

pub returns-in_err-text-clause-untouched : goal.returns-in_err-text-clause-untouched
returns-in_err-text-clause-untouched g c = search rules

-- one flush passes on all that is written
pub returns-clause-flushed : goal.returns-clause-flushed
returns-clause-flushed g c = search rules

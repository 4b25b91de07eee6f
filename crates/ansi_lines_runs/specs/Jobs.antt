-- What definitions say of a job.
use Rattle.ansi_str.specs.Edits.{changes_of}
use Rattle.ansi_lines_runs.specs.Words.{Work, Stripped, Changed}
use Rattle.ansi_lines_runs.specs.declared.words.Job.{Job}
use Rattle.ansi_lines_runs.specs.declared.words.Job.TheVariants.{Strip, Edits}

-- the work of a job, whatever allocator its list of edits has
abbrev pub work_of : {A : Type 0} → Job A → Work
work_of Strip = Stripped
work_of (Edits edits) = Changed (changes_of edits.items)

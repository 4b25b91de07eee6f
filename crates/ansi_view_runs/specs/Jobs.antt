-- What definitions say of a job.
use Rattle.ansi_view_runs.specs.declared.view.Job.{Job}
use Rattle.ansi_view_runs.specs.Edits.{changes_of}
use Rattle.ansi_view_runs.specs.Views.{Work}

-- the work of a job, whatever allocator its list of edits has
abbrev pub work_of : {A : Type 0} → Job A → Work
work_of job = record { view = job.view; changes = changes_of job.edits.items }

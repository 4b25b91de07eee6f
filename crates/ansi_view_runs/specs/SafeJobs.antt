-- What definitions say of a job with safe tails.
use Rattle.std.specs.Prelude.{List, [], ◌∷◌, ◌++◌, map}
use Rattle.ansi_columns.specs.declared.edits.ColumnEdit.{ColumnEdit}
use Rattle.ansi_columns.specs.Edits as columns
use Rattle.ansi_view_runs.specs.declared.edits.Stage.{Stage}
use Rattle.ansi_view_runs.specs.declared.view.SafeJob.{SafeJob}
use Rattle.ansi_view_runs.specs.Edits.{Change, OnColumns, Wrapped}
use Rattle.ansi_view_runs.specs.Views.{Work}

-- edits by columns in turn are changes in turn
abbrev pub on_columns : List ColumnEdit → List Change
on_columns edits = map (λ e. OnColumns (columns.change_of e)) edits

-- so are those of stages, each with its wrap, and then the last edits
abbrev pub changes_then : {A : Type 0} → List (Stage A) → List ColumnEdit → List Change
changes_then [] last = on_columns last
changes_then (stage ∷ stages) last = on_columns stage.edits.items ++ Wrapped stage.width ∷ changes_then stages last

-- the work of such a job, whatever allocator its lists have
abbrev pub work_of : {A : Type 0} → SafeJob A → Work
work_of job = record { view = job.view; changes = changes_then job.stages.items job.last.items }

use Rattle.std.proofs.Common.{◌∙◌, sym, ap₂}
use Rattle.ansi_view_runs.specs.SafeJobs.{changes_then}
use Rattle.ansi_view_runs.proofs.PlainLineLemmas.{one-edit}
use Rattle.ansi_view_runs.proofs.plain_lines.only_edit.Goals as goal

pub returns-in-len1-as_slice : goal.returns-in-len1-as_slice
returns-in-len1-as_slice g c =
    ap₂ changes_then (sym c.as_slice.ensures.value) (sym c.as_slice-in-empty.ensures.value)
    ∙ one-edit _ c.as_slice.result.now c.as_slice-in-empty.result.now c.in-empty.len_below c.in-len1-as_slice.len_at_least c.in-len1-as_slice.len_below

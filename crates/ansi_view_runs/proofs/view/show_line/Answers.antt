use Rattle.ansi_view_runs.proofs.view.show_line.Goals as goal

-- an empty line shows nothing
pub returns-then-is_empty-clause-bytes : goal.returns-then-is_empty-clause-bytes
returns-then-is_empty-clause-bytes g c = rw (← c.is_empty.ensures, c.if-is_empty.true) c.new.ensures.bytes

use Rattle.ansi_lines_runs.proofs.words.parse_named.Goals as goal

-- a suffix is removed
pub returns-in-suffix : goal.returns-in-suffix
returns-in-suffix c = rw c.in-suffix.is

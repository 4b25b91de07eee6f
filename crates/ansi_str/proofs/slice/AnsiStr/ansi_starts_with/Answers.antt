use Rattle.ansi_str.proofs.slice.AnsiStr.ansi_starts_with.Goals as goal

-- the plain text is read
pub returns : goal.returns
returns g c = rw c.as_text.ensures at c.starts_with.ensures

-- A line of SGRs and characters that are clusters by themselves alone. No public contract cites it.
use Rattle.std.specs.Prelude.{◌≡◌, []}
use Rattle.std.specs.Str.{IsUtf8}
use Rattle.ansi_style.specs.declared.state.rendition.Rendition.{Rendition}
use Rattle.ansi_style.specs.Written.{close}
use Rattle.ansi_cells.specs.PlainCells.{IsPlainCell}
use Rattle.ansi_view_runs.specs.declared.plain_lines.PlainLine.{PlainLine}

-- the text is SGRs and characters that are clusters by themselves alone, has this many columns and this last byte, and leaves nothing open
pub record IsPlainLine (line : PlainLine) : Type 0 where
  pub style : Rendition
  pub utf8 : IsUtf8 line.text.now
  pub is_cell : IsPlainCell line.text.now line.columns 0 style line.last
  pub closed : close style ≡ []

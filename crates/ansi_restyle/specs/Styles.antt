-- Styles that a caller makes.
use Rattle.std.specs.Prelude.{ℕ, List, codes}
use Rattle.std.specs.List.{join_by}
use Rattle.ansi_style.specs.declared.state.rendition.Rendition.{Rendition}
use Rattle.ansi_style.specs.Rendition.{plain_style}
use Rattle.ansi_style.specs.Sgr.{apply}
use Rattle.ansi_style.specs.Written.{written, start_codes}

-- the style that SGR codes select: that after their SGR, from the plain style (ECMA-48, section 8.3.117)
abbrev pub selected : List ℕ → Rendition
selected codes = apply plain_style (written codes)

-- the SGR codes that select a style from the plain style, one for each thing that is set, in the order of a start, with `;` between (own)
abbrev pub codes_of : Rendition → List ℕ
codes_of s = join_by (λ code. code) (codes ";") (start_codes s)

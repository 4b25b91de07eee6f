-- How far the replacement of ranges has come. No public contract cites it.
use Rattle.std.specs.Prelude.{List, ℕ}
use Rattle.std.specs.List.{AllByRecursion}
use Rattle.std.specs.Str.{IsUtf8}
use Rattle.ansi_style.specs.States.{rendition_of}
use Rattle.ansi_restyle.specs.ReplacedEach.{Swap, replaced_from}
use Rattle.ansi_restyle.specs.declared.replace_each.Replacing.{Replacing}

-- what is made of the text that is left
abbrev pub made_of_left : Replacing → List Swap → List ℕ
made_of_left s es = replaced_from (rendition_of s.pen.style) s.pen.link.now s.place s.len s.rest.text.now es

-- each of the texts is UTF-8, as every `&str` is
abbrev pub AreUtf8 : List Swap → Type 0
AreUtf8 es = AllByRecursion (λ (e : Swap). IsUtf8 e.text) es

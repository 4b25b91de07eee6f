-- Styles as numbers.
use Rattle.std.specs.Prelude.{◌≡◌, ◌⊎◌, ℕ, Bool, Option, None, Some, IsTrue}
use Rattle.ansi_style.specs.declared.state.rendition.Rendition.{Rendition}
use Rattle.ansi_style.specs.Sets.{union, difference}
use Rattle.ansi_str.specs.Rendition.{plain_style}
use Rattle.ansi_str.specs.States.{rendition_of_numbers, AreExact}
use Rattle.ansi_style.specs.declared.numbers.StyleNumbers.{StyleNumbers}
use Rattle.ansi_text_calls.specs.declared.blocks.StyleAnswer.{StyleAnswer}
use Rattle.ansi_text_calls.specs.Answers.{ok, no, out_of_memory}

-- these are the numbers of the style, and each bit and each byte that it doesn't need is 0. So the style determines all of them (`exact_numbers_are_determined`)
abbrev pub IsStyleOf : Rendition → StyleNumbers → Type 0
IsStyleOf s n = (rendition_of_numbers n ≡ s) × AreExact n

-- a call returns a status and a style
abbrev pub HasStyle : ℕ → Rendition → StyleAnswer → Type 0
HasStyle status s answer = (answer.status ≡ status) × IsStyleOf s answer.style

-- a call returns no style
abbrev pub HasNoStyle : ℕ → StyleAnswer → Type 0
HasNoStyle status answer = HasStyle status plain_style answer

-- a call returns the style that it finds, or that there is none
abbrev pub IsStyleFound : Option Rendition → StyleAnswer → Type 0
IsStyleFound None answer = HasNoStyle no answer
IsStyleFound (Some s) answer = HasStyle ok s answer

-- the same, or the call runs out of memory, if it allocates
abbrev pub TellsStyle : Bool → Option Rendition → StyleAnswer → Type 0
TellsStyle takes_memory found answer = IsStyleFound found answer ⊎ (IsTrue takes_memory × HasNoStyle out_of_memory answer)

-- `style_union` returns what is set in either of two styles; a color or a font of the second is taken before that of the first
abbrev pub IsUnion : StyleNumbers → StyleNumbers → StyleNumbers → Type 0
IsUnion first second made = IsStyleOf (union (rendition_of_numbers first) (rendition_of_numbers second)) made

-- `style_difference` returns what is set in the first of two styles and isn't set so in the second
abbrev pub IsDifference : StyleNumbers → StyleNumbers → StyleNumbers → Type 0
IsDifference first second made = IsStyleOf (difference (rendition_of_numbers first) (rendition_of_numbers second)) made

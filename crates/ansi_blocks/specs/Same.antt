-- Blocks that are the same by their text and their style.
use Rattle.std.specs.Prelude.{Bool, ◌&&◌, nat_eq}
use Rattle.std.specs.Cmp.Lexicographic.{pointwise}
use Rattle.ansi_blocks.specs.Blocks.{Block}
use Rattle.ansi_style.specs.contracts.state.rendition.RenditionPartialEq.TheImpl.{ghosts}

-- two blocks with the same text and the same style, as `==` compares them
abbrev pub are_same : Block → Block → Bool
are_same a b = pointwise nat_eq a.text b.text && ghosts.eq a.style b.style

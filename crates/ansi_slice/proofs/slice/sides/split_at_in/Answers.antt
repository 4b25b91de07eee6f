use Rattle.std.proofs.Common.{sym, ◌∙◌, ap, arith, length, List, ℕ, IsTrue}
use Rattle.std.specs.Str.{IsUtf8}
use Rattle.ansi_slice.proofs.Common.{plain, IsUtf8-plain}
use Rattle.ansi_search.specs.Positions.{is_position_in, no_character_goes_on}
use Rattle.ansi_slice.proofs.LengthLemmas.{length-sides}
use Rattle.ansi_search.proofs.PositionLemmas.{is_position_in-good, is_good_position-utf8}
use Rattle.ansi_slice.proofs.slice.sides.split_at_in.Goals as goal

-- if the text may be divided there, no character of its plain text goes on
no_character_goes_on-if_divided : (t : List ℕ) (n : ℕ) → IsUtf8 t → IsTrue (is_position_in t n) → IsTrue (no_character_goes_on (plain t) n)
no_character_goes_on-if_divided t n utf8 good = sym (is_good_position-utf8 (plain t) n (IsUtf8-plain t utf8)) ∙ sym (is_position_in-good t n utf8) ∙ good

pub bare_sides-requires-clause-good : goal.bare_sides-requires-clause-good
bare_sides-requires-clause-good g c = no_character_goes_on-if_divided c.args.text.now c.args.mid c.utf8.text c.requires

pub write_sides-requires : goal.write_sides-requires
write_sides-requires g c = no_character_goes_on-if_divided c.args.text.now c.args.mid c.utf8.text c.requires

-- both sides have their text, and a start and a close for each text item and for the one that is divided

pub returns-then-not-has_any-clause-len : goal.returns-then-not-has_any-clause-len
returns-then-not-has_any-clause-len g c =
    omega (
      arith,
      ap length c.bare_sides.ensures.left,
      ap length c.bare_sides.ensures.right,
      length-sides c.args.text.now c.args.mid,
    )

pub returns-clause-len : goal.returns-clause-len
returns-clause-len g c =
    omega (arith, ap length c.in_ok-left.ensures.left, ap length c.in_ok-left.ensures.right, length-sides c.args.text.now c.args.mid)

use Rattle.std.proofs.Common.{Bool, Option, Some, None, ◌↔◌, refl, sym, ◌∙◌, IsTrue, IsFalse, IsSome, IsNone}
use Rattle.ansi_search.proofs.PositionLemmas.{is_range_in-good}
use Rattle.ansi_slice.proofs.slice.cuts.cut_in.Goals as goal

IsSome-if_good : {T : Type 0} (o : Option T) (good : Bool) → IsNone o ↔ IsFalse good → IsTrue good → IsSome o
IsSome-if_good (Some x) good test holds = refl
IsSome-if_good None good test holds = absurd (cc (test.0 refl, holds))

-- a good range is cut
pub unwrap-requires : goal.unwrap-requires
unwrap-requires g c = IsSome-if_good _ _ c.in_ok-get_in.ensures.none (sym (is_range_in-good c.args.text.now c.args.start c.args.end c.utf8.text) ∙ c.requires)

use Rattle.std.proofs.Common.{◌≡◌, ◌+◌, ◌≤◌, length, drop, sym, ◌∙◌, ap, subst, arith}
use Rattle.std.proofs.lemmas.List.{length-drop}
use Rattle.ansi_items.specs.Plain.{plain}
use Rattle.ansi_items.proofs.Utf8Lemmas.{IsUtf8-plain}
use Rattle.memchr.specs.Find.{OccursAt}
use Rattle.ansi_search.specs.Offsets.{StandsIn}
use Rattle.ansi_search.proofs.PositionLemmas.{is_good_position-utf8}
use Rattle.ansi_restyle.proofs.MatchLemmas.{match_begins_good, some_if_good}
use Rattle.ansi_restyle.proofs.UnmarkedLemmas.{next-seen_after}
use Rattle.ansi_restyle.proofs.unmarked.cut_across.Goals as goal

-- a match begins at a good position
pub unwrap-requires : goal.unwrap-requires
unwrap-requires c =
    let x = plain c.range_from-left.result.now in
    some_if_good c.walk_to.result _ _ c.walk_to.ensures.offset
    (is_good_position-utf8 x c.in-Some.place (IsUtf8-plain c.range_from-left.result.now c.range_from-left.utf8) ∙ match_begins_good x c.args.pat.now 0 c.in-Some.place (sym c.in-Some.ensures))

-- what was seen of the text
pub invariant_of-rest : goal.invariant_of-rest
invariant_of-rest c =
    let t = c.args.text.now in
    let p = c.args.pat.now in
    let n = c.args.start + c.unwrap.result in
    let rest : c.new.result.text.now ≡ drop n t = c.new.ensures ∙ c.split_at.ensures.back in
    let len = length-drop n t in
    let stands : StandsIn c.range_from-left.result.now c.in-Some.place c.unwrap.result = rw c.unwrap.ensures at c.walk_to.ensures.offset in
    let within : n ≤ length t = omega (arith, stands.boundary.0, ap length c.range_from-left.ensures.value, length-drop c.args.start t, c.requires.start.0) in
    let kept = next-seen_after t p c.args.start c.args.near n (omega arith) within c.requires.near in
    record {
      seen_within = omega (arith, c.saturating_sub.ensures, ap length rest, len, c.requires.near.within);
      is_seen = λ k low high at. kept k low (omega (arith, high, c.saturating_sub.ensures)) (subst (λ u. OccursAt u p k) rest at);
    }

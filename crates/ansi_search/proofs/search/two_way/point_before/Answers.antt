use Rattle.ansi_search.proofs.Common.{◌≡◌, ◌+◌, drop, refl, ◌∙◌, subst, arith, plain, plain_of, pieces_left, kind_is_text}
use Rattle.ansi_search.proofs.WindowLemmas.{run-left, run-length}
use Rattle.ansi_search.proofs.search.two_way.point_before.Goals as goal

-- over a run
pub loop-item-preserved-then-eq : goal.loop-item-preserved-then-eq
loop-item-preserved-then-eq c =
    let gives = c.in-Some.ensures.steps in
    let so_far = c.loop-item.invariant in
    let size = run-length gives so_far.text in
    let left = run-left (plain c.args.text.now) c.loop-item.place gives so_far.text (kind_is_text c.if-eq.ensures) so_far.left refl in
    record {
      text = gives.text ∙ so_far.text;
      left = subst (λ n. plain_of (pieces_left c.next.new.self) ≡ drop (c.loop-item.place + n) (plain c.args.text.now)) size left;
      before = omega (arith, so_far.before, c.if-position-place.false);
    }

use Rattle.std.proofs.Common.{sym, ◌∙◌}
use Rattle.ansi_items.proofs.StepLemmas.{kind_is_text, gives_text, gives_mark}
use Rattle.ansi_style.proofs.SgrLemmas.{apply-no_sgr}
use Rattle.ansi_search.proofs.OffsetLemmas.{kind_differs}
use Rattle.ansi_restyle.proofs.RestyleWalkLemmas.{changed-text, changed-mark}
use Rattle.ansi_restyle.proofs.restyle.push_changed.Goals as goal

-- over a run
pub loop-item-preserved-in-Continue-1 : goal.loop-item-preserved-in-Continue-1
loop-item-preserved-in-Continue-1 g c =
    let gives = c.in-Some.ensures.steps in
    let same = c.loop-item.invariant.text in
    record {
      text = gives.text ∙ same;
      so_far = changed-text c.loop-item.invariant.so_far (gives_text gives same c.range-piece.ensures.value (kind_is_text c.if-eq.ensures)) c.in_ok-push_changed_run.ensures;
    }

-- over an SGR
pub loop-item-preserved-in-Continue-branch-2 : goal.loop-item-preserved-in-Continue-branch-2
loop-item-preserved-in-Continue-branch-2 g c =
    let gives = c.in-Some.ensures.steps in
    let same = c.loop-item.invariant.text in
    record {
      text = gives.text ∙ same;
      so_far = changed-mark c.loop-item.invariant.so_far (gives_mark gives same c.range-piece.ensures.value (kind_differs c.if-eq.ensures)) c.in_ok-push_str.ensures.bytes c.apply.ensures;
    }

-- over another sequence, or a lone escape
pub loop-item-preserved : goal.loop-item-preserved
loop-item-preserved g c =
    let gives = c.in-Some.ensures.steps in
    let same = c.loop-item.invariant.text in
    let begins = gives_mark gives same c.range-piece.ensures.value (kind_differs c.if-eq.ensures) in
    record {
      text = gives.text ∙ same;
      so_far = changed-mark c.loop-item.invariant.so_far begins c.in_ok-push_str-2.ensures.bytes (sym (apply-no_sgr _ c.range-piece.result.now (begins.no_sgr (kind_differs c.if-eq-2.ensures))));
    }

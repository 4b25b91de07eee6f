use Rattle.ansi_split.proofs.Common.{rules, ◌≡◌, ◌∷◌, ◌++◌, ◌+◌, Some, length, drop, refl, sym, ◌∙◌, ap, subst, arith, IsFalse, eqb-true, eqb-false, IsCharBoundary, Text, pieces_of, plain_of, plain, has_escape, pieces_left, rendition_of, first_match_from, IsCutAtMatch, gives_text, over_text, over_mark}
use Rattle.ansi_style.proofs.SgrLemmas.{apply-no_sgr}
use Rattle.ansi_split.proofs.RestLemmas.{boundary-drop, no_escape-later, no_escape-text}
use Rattle.ansi_split.proofs.MatchWalkLemmas.{walked-begin, walked-text, walked-mark, walked-cut, walked-end, walked-none, walked-empty}
use Rattle.ansi_split.proofs.split.rest.cut_from.Goals as goal
use Rattle.ansi_split.proofs.split.rest.cut_from.Goals.{then-is_empty+then-ahead-eq0, else-is_empty, else-is_empty-via-then-is_empty+else-ahead-eq0, else-is_empty-via-else-is_empty}

pub loop-item-init : goal.loop-item-init
loop-item-init c =
    let begins : c.into_iter-item-iterator.result ≡ record { text = c.args.text.now; offset = 0 } = c.into_iter-item-iterator.ensures.into_iter_gives ∙ c.new-item-items.ensures.start in
    record {
      text = ap (λ s. s.text) begins;
      so_far = rw begins (walked-begin (rendition_of c.args.style.now) c.args.text.now c.args.pat.now c.args.from c.args.ahead c.requires);
    }

-- a text has no ESC
pub next_start-ahead-requires-clause-plain : goal.next_start-ahead-requires-clause-plain
next_start-ahead-requires-clause-plain c = grind (arith, gives_text, no_escape-text)

-- what is left of the run goes on after the cut
pub invariant_of-result : goal.invariant_of-result
invariant_of-result c =
    let t = c.args.text.now in
    let gives = c.in-Some.ensures.steps in
    let w = c.range-piece.result.now in
    let first : pieces_left c.loop-item.item-iterator ≡ Text w ∷ pieces_left c.next.new.self = gives_text gives c.loop-item.invariant.text c.range-piece.ensures.value c.in-Text.is in
    let s = c.loop-item.item-iterator in
    let item = c.in-Some.item in
    let ahead = c.next_start-ahead.result in
    let bare : IsFalse (has_escape w) = no_escape-text (drop s.offset s.text) w (pieces_left c.next.new.self) first in
    rw c.split_at.ensures.back (record {
      run_ends = boundary-drop t (item.start + ahead) item.end (omega (arith, gives.forward, c.range-piece.ensures.len, c.if-ahead-piece.true)) (subst (λ v. IsCharBoundary v item.end) c.loop-item.invariant.text gives.end_boundary);
      run_is_plain = no_escape-later t item.start item.end ahead (ap has_escape (sym c.range-piece.ensures.value) ∙ bare);
    })

-- the match begins in the run
pub returns-then-ahead-piece : goal.returns-then-ahead-piece
returns-then-ahead-piece c =
    let gives = c.in-Some.ensures.steps in
    let w = c.range-piece.result.now in
    let over = over_text gives c.loop-item.invariant.text c.range-piece.ensures.value c.in-Text.is in
    let here : plain c.range_from.result.now ≡ w ++ plain_of (pieces_left c.next.new.self)
    = ap plain (c.range_from.ensures.value ∙ ap (λ n. drop n c.args.text.now) gives.start) ∙ ap plain_of (over.there ∙ over.first) in
    let found : first_match_from (w ++ plain_of (pieces_left c.next.new.self)) c.args.pat.now c.loop-item.ahead ≡ Some c.next_start-ahead.result
    = ap (λ x. first_match_from x c.args.pat.now c.loop-item.ahead) (sym here) ∙ c.next_start-ahead.ensures.here c.if-ahead-piece.true in
    let cut = walked-cut c.loop-item.invariant.so_far over found c.if-ahead-piece.true (ap (λ n. n + c.next_start-ahead.result) gives.start) c.utf8.text c.utf8.pat in
    record {
      rest = rw (c.split_at.ensures.front, c.split_at.ensures.back) cut.0;
      marked = rw c.split_at.ensures.front cut.1.is_marked;
      style = rw c.split_at.ensures.front cut.1.is_style;
    }

-- over a run
pub loop-item-preserved-in-Text : goal.loop-item-preserved-in-Text
loop-item-preserved-in-Text c =
    let gives = c.in-Some.ensures.steps in
    let over = over_text gives c.loop-item.invariant.text c.range-piece.ensures.value c.in-Text.is in
    let here : plain c.range_from.result.now ≡ c.range-piece.result.now ++ plain_of (pieces_left c.next.new.self)
    = ap plain (c.range_from.ensures.value ∙ ap (λ n. drop n c.args.text.now) gives.start) ∙ ap plain_of (over.there ∙ over.first) in
    record {
      text = gives.text ∙ c.loop-item.invariant.text;
      so_far = walked-text c.loop-item.invariant.so_far over
          (subst (λ x. first_match_from x c.args.pat.now c.next_start-ahead.result ≡ first_match_from x c.args.pat.now c.loop-item.ahead) here c.next_start-ahead.ensures.same)
          c.if-ahead-piece.false refl;
    }

-- over an SGR
pub loop-item-preserved-in-Sgr : goal.loop-item-preserved-in-Sgr
loop-item-preserved-in-Sgr c =
    let gives = c.in-Some.ensures.steps in
    let same = c.loop-item.invariant.text in
    record {
      text = gives.text ∙ same;
      so_far = walked-mark c.loop-item.invariant.so_far (over_mark gives same c.range-piece.ensures.value (search rules)) (ap (λ t. pieces_of (drop c.loop-item.item-iterator.offset t)) (sym same)) c.apply.ensures;
    }

-- over another sequence, or a lone escape
pub loop-item-preserved : goal.loop-item-preserved
loop-item-preserved c =
    let gives = c.in-Some.ensures.steps in
    let same = c.loop-item.invariant.text in
    let over = over_mark gives same c.range-piece.ensures.value (search rules) in
    record {
      text = gives.text ∙ same;
      so_far = walked-mark c.loop-item.invariant.so_far over (ap (λ t. pieces_of (drop c.loop-item.item-iterator.offset t)) (sym same)) (sym (apply-no_sgr _ c.range-piece.result.now (over.first.no_sgr (search rules))));
    }

-- nothing is left: the pattern is at the end if it is empty
pub returns : goal.returns
returns c =
    let end = c.in-None.ensures.steps in
    let so_far = c.loop-item.invariant.so_far in
    let all : c.loop-item.item-iterator.offset ≡ length c.args.text.now = end.1 ∙ ap length c.loop-item.invariant.text in
    let front = walked-end so_far end.2 all in
    record {
      rest = elim c.if-is_empty.branch [
        | then-is_empty+then-ahead-eq0 last ↦
            rw last.rest-is (subst (λ v. IsCutAtMatch c.args.text.now c.args.pat.now c.args.from c.args.text.now v) (sym last.new.ensures)
            (walked-empty so_far end.2 all (eqb-true _ 0 (sym c.is_empty.ensures ∙ last.if-is_empty.true)) last.if-ahead-eq0.true c.utf8.text c.utf8.pat))
        | else-is_empty none ↦ rw none.rest-is (elim none.else-is_empty.branch [
          | else-is_empty-via-then-is_empty+else-ahead-eq0 more ↦ (walked-none so_far end.2 (λ _. more.if-ahead-eq0.false), refl)
          | else-is_empty-via-else-is_empty some ↦ (walked-none so_far end.2 (λ e. absurd (eqb-false _ 0 (sym c.is_empty.ensures ∙ some.if-is_empty.false) e)), refl)
        ])
      ];
      marked = front.is_marked;
      style = front.is_style;
    }

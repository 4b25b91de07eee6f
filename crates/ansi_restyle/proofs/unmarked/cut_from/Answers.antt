use Rattle.std.proofs.Common.{◌≡◌, ◌∷◌, ◌++◌, ◌+◌, ◌-◌, ◌<◌, ◌≤◌, length, take, drop, refl, sym, ◌∙◌, ap, subst, arith, IsFalse, rules}
use Rattle.std.specs.Str.{IsCharBoundary}
use Rattle.ansi_items.specs.Pieces.{Text, pieces_of}
use Rattle.ansi_items.specs.Plain.{plain, plain_of, has_escape}
use Rattle.ansi_items.specs.Scans.{pieces_left}
use Rattle.ansi_items.proofs.StepLemmas.{gives_text}
use Rattle.ansi_style.specs.States.{rendition_of}
use Rattle.ansi_style.proofs.SgrLemmas.{apply-no_sgr}
use Rattle.ansi_search.specs.Matches.{first_match_from}
use Rattle.ansi_search.proofs.OffsetLemmas.{over_text, over_mark}
use Rattle.ansi_split.proofs.RestLemmas.{boundary-drop, no_escape-later, no_escape-text}
use Rattle.ansi_split.proofs.MatchWalkLemmas.{walked-begin, walked-text, walked-mark, walked-none}
use Rattle.ansi_restyle.specs.Rests.{IsAtMatchPast, IsNextPlace}
use Rattle.ansi_restyle.proofs.UnmarkedLemmas.{next-later, settled, match_in_item, no_match_in_item, none_in_last, match_option-map, walked-at_match, walked-past, walked-past_none}
use Rattle.ansi_restyle.proofs.unmarked.cut_from.Goals as goal
use Rattle.ansi_restyle.proofs.unmarked.cut_from.Goals.{else-near-item-via-then-near-item+else-pat-item, else-near-item-via-else-near-item}

pub loop-item-init : goal.loop-item-init
loop-item-init c =
    let begins : c.into_iter-item-iterator.result ≡ record { text = c.args.text.now; offset = 0 } = c.into_iter-item-iterator.ensures.into_iter_gives ∙ c.new-item-items.ensures.start in
    record {
      text = ap (λ s. s.text) begins;
      near = rw begins c.requires.near;
      so_far = rw begins (settled (walked-begin (rendition_of c.args.style.now) c.args.text.now c.args.pat.now 0 0 refl));
    }

-- over an SGR
pub loop-item-preserved-in-Sgr : goal.loop-item-preserved-in-Sgr
loop-item-preserved-in-Sgr c =
    let gives = c.in-Some.ensures.steps in
    let same = c.loop-item.invariant.text in
    record {
      text = gives.text ∙ same;
      near = next-later c.args.text.now c.args.pat.now c.loop-item.item-iterator.offset _ c.loop-item.near (omega (arith, gives.start, gives.end, gives.forward)) c.loop-item.invariant.near;
      so_far = settled (walked-mark c.loop-item.invariant.so_far (over_mark gives same c.range-piece.ensures.value (search rules)) (ap (λ t. pieces_of (drop c.loop-item.item-iterator.offset t)) (sym same)) c.apply.ensures);
    }

-- over another sequence, or a lone escape
pub loop-item-preserved : goal.loop-item-preserved
loop-item-preserved c =
    let gives = c.in-Some.ensures.steps in
    let same = c.loop-item.invariant.text in
    let over = over_mark gives same c.range-piece.ensures.value (search rules) in
    record {
      text = gives.text ∙ same;
      near = next-later c.args.text.now c.args.pat.now c.loop-item.item-iterator.offset _ c.loop-item.near (omega (arith, gives.start, gives.end, gives.forward)) c.loop-item.invariant.near;
      so_far = settled (walked-mark c.loop-item.invariant.so_far over (ap (λ t. pieces_of (drop c.loop-item.item-iterator.offset t)) (sym same)) (sym (apply-no_sgr _ c.range-piece.result.now (over.first.no_sgr (search rules)))));
    }

-- the match begins in the run

pub split_at-requires : goal.split_at-requires
split_at-requires c =
    let t = c.args.text.now in
    let w = c.range-piece.result.now in
    let s = c.loop-item.item-iterator in
    let gives = c.in-Some.ensures.steps in
    let same = c.loop-item.invariant.text in
    let first : pieces_left s ≡ Text w ∷ pieces_left c.next.new.self = gives_text gives same c.range-piece.ensures.value c.in-Text.is in
    let bare : IsFalse (has_escape w) = no_escape-text (drop s.offset s.text) w (pieces_left c.next.new.self) first in
    let next : IsNextPlace t c.args.pat.now c.in-Some.item.start c.next_place-near.result = rw (c.as_bytes.ensures.value, c.requires.finder) at c.next_place-near.ensures.next in
    let end : IsCharBoundary t c.in-Some.item.end = subst (λ v. IsCharBoundary v c.in-Some.item.end) same gives.end_boundary in
    (match_in_item t c.args.pat.now w c.in-Some.item.start c.in-Some.item.end c.next_place-near.result c.utf8.pat c.requires.some (omega (arith, gives.forward)) end.0
    c.range-piece.ensures.value bare next c.next_place-near.ensures.low c.if-near-item.true c.if-pat-item.true).1

pub invariant_of-new : goal.invariant_of-new
invariant_of-new c =
    let t = c.args.text.now in
    let w = c.range-piece.result.now in
    let s = c.loop-item.item-iterator in
    let gives = c.in-Some.ensures.steps in
    let same = c.loop-item.invariant.text in
    let item = c.in-Some.item in
    let near = c.next_place-near.result in
    let first : pieces_left s ≡ Text w ∷ pieces_left c.next.new.self = gives_text gives same c.range-piece.ensures.value c.in-Text.is in
    let bare : IsFalse (has_escape w) = no_escape-text (drop s.offset s.text) w (pieces_left c.next.new.self) first in
    let sum : item.start + (near - item.start) ≡ near = omega (arith, c.next_place-near.ensures.low) in
    rw c.split_at.ensures.back (record {
      run_ends = boundary-drop t near item.end (omega (arith, c.if-near-item.true)) (subst (λ v. IsCharBoundary v item.end) same gives.end_boundary);
      run_is_plain = subst (λ n. IsFalse (has_escape (take (item.end - n) (drop n t)))) sum (no_escape-later t item.start item.end (near - item.start) (ap has_escape (sym c.range-piece.ensures.value) ∙ bare));
    })

pub returns-then-pat-item : goal.returns-then-pat-item
returns-then-pat-item c =
    let t = c.args.text.now in
    let p = c.args.pat.now in
    let w = c.range-piece.result.now in
    let s = c.loop-item.item-iterator in
    let gives = c.in-Some.ensures.steps in
    let same = c.loop-item.invariant.text in
    let item = c.in-Some.item in
    let near = c.next_place-near.result in
    let over = over_text gives same c.range-piece.ensures.value c.in-Text.is in
    let bare : IsFalse (has_escape w) = no_escape-text (drop s.offset s.text) w (pieces_left c.next.new.self) (gives_text gives same c.range-piece.ensures.value c.in-Text.is) in
    let next : IsNextPlace t p item.start near = rw (c.as_bytes.ensures.value, c.requires.finder) at c.next_place-near.ensures.next in
    let end : IsCharBoundary t item.end = subst (λ v. IsCharBoundary v item.end) same gives.end_boundary in
    let found = (match_in_item t p w item.start item.end near c.utf8.pat c.requires.some (omega (arith, gives.forward)) end.0 c.range-piece.ensures.value bare next c.next_place-near.ensures.low c.if-near-item.true c.if-pat-item.true).0 in
    let here : plain (drop item.start t) ≡ w ++ plain_of (pieces_left c.next.new.self) = ap (λ n. plain (drop n t)) gives.start ∙ ap plain_of (over.there ∙ over.first) in
    let low = c.next_place-near.ensures.low in (
      c.new-rest.ensures.pat,
      rw (c.new-rest.ensures.text, c.split_at.ensures.front, c.split_at.ensures.back) (walked-at_match c.loop-item.invariant.so_far over (ap (λ x. first_match_from x p 0) (sym here) ∙ found)
          (omega (arith, low, c.if-near-item.true, c.range-piece.ensures.len)) (omega (arith, low, gives.start))),
    )

-- nothing follows the run
pub returns-then-item-text : goal.returns-then-item-text
returns-then-item-text c =
    let t = c.args.text.now in
    let p = c.args.pat.now in
    let w = c.range-piece.result.now in
    let s = c.loop-item.item-iterator in
    let gives = c.in-Some.ensures.steps in
    let same = c.loop-item.invariant.text in
    let item = c.in-Some.item in
    let near = c.next_place-near.result in
    let over = over_text gives same c.range-piece.ensures.value c.in-Text.is in
    let bare : IsFalse (has_escape w) = no_escape-text (drop s.offset s.text) w (pieces_left c.next.new.self) (gives_text gives same c.range-piece.ensures.value c.in-Text.is) in
    let next : IsNextPlace t p item.start near = rw (c.as_bytes.ensures.value, c.requires.finder) at c.next_place-near.ensures.next in
    let past : near < item.end → length p ≤ item.end - near → ⊥
    = λ inside fits. elim c.else-near-item.branch [
      | else-near-item-via-then-near-item+else-pat-item longer ↦ (let over_end = longer.if-pat-item.false in omega (arith, fits, over_end))
      | else-near-item-via-else-near-item after ↦ (let is_after = after.if-near-item.false in omega (arith, inside, is_after))
    ] in
    walked-past_none c.loop-item.invariant.so_far over.there (ap (λ n. first_match_from (plain (drop n t)) p 0) (sym gives.start)
    ∙ none_in_last t p w item.start item.end near c.utf8.pat c.requires.some (omega (arith, gives.forward)) c.if-item-text.true c.range-piece.ensures.value bare next c.next_place-near.ensures.low past)

-- it may go on after it
pub returns-then-may_go_on : goal.returns-then-may_go_on
returns-then-may_go_on c =
    let t = c.args.text.now in
    let p = c.args.pat.now in
    let gives = c.in-Some.ensures.steps in
    let over = over_text gives c.loop-item.invariant.text c.range-piece.ensures.value c.in-Text.is in
    let so_far = c.loop-item.invariant.so_far in
    match_option-map c.cut_across.result
    (λ none. walked-past_none so_far over.there (ap (λ n. first_match_from (plain (drop n t)) p 0) (sym gives.start) ∙ none))
    (λ at past. (past.0, walked-past so_far over.there (subst (λ n. IsAtMatchPast t p n at.front.now at.rest.rest.text.now (rendition_of c.loop-item.style) (rendition_of c.cut_across.new.style)) gives.start past.1)))
    c.cut_across.ensures

-- over a run
pub loop-item-preserved-else-may_go_on : goal.loop-item-preserved-else-may_go_on
loop-item-preserved-else-may_go_on c =
    let t = c.args.text.now in
    let p = c.args.pat.now in
    let w = c.range-piece.result.now in
    let s = c.loop-item.item-iterator in
    let gives = c.in-Some.ensures.steps in
    let same = c.loop-item.invariant.text in
    let item = c.in-Some.item in
    let near = c.next_place-near.result in
    let over = over_text gives same c.range-piece.ensures.value c.in-Text.is in
    let bare : IsFalse (has_escape w) = no_escape-text (drop s.offset s.text) w (pieces_left c.next.new.self) (gives_text gives same c.range-piece.ensures.value c.in-Text.is) in
    let next : IsNextPlace t p item.start near = rw (c.as_bytes.ensures.value, c.requires.finder) at c.next_place-near.ensures.next in
    let end : IsCharBoundary t item.end = subst (λ v. IsCharBoundary v item.end) same gives.end_boundary in
    let past : near < item.end → length p ≤ item.end - near → ⊥
    = λ inside fits. elim c.else-near-item.branch [
      | else-near-item-via-then-near-item+else-pat-item longer ↦ (let over_end = longer.if-pat-item.false in omega (arith, fits, over_end))
      | else-near-item-via-else-near-item after ↦ (let is_after = after.if-near-item.false in omega (arith, inside, is_after))
    ] in
    let none = no_match_in_item t p w item.start item.end near c.utf8.pat c.requires.some (omega (arith, gives.forward)) end.0 c.range-piece.ensures.value bare next c.next_place-near.ensures.low past
    (λ y i. c.may_go_on.ensures c.if-may_go_on.false y i) in
    let here : plain (drop item.start t) ≡ w ++ plain_of (pieces_left c.next.new.self) = ap (λ n. plain (drop n t)) gives.start ∙ ap plain_of (over.there ∙ over.first) in
    record {
      text = gives.text ∙ same;
      near = next-later t p item.start _ near (omega (arith, gives.end, gives.forward)) next;
      so_far = settled (walked-text c.loop-item.invariant.so_far over (subst (λ x. first_match_from x p (length w) ≡ first_match_from x p 0) here none) (omega arith) (omega arith));
    }

-- nothing is left
pub returns : goal.returns
returns c =
    let some = c.requires.some in
    walked-none c.loop-item.invariant.so_far c.in-None.ensures.steps.2 (λ empty. absurd (omega (arith, empty, some)))

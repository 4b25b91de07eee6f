use Rattle.std.specs.Str.{IsCharBoundary}
use Rattle.ansi_blocks.proofs.Common.{rules, ◌≡◌, ◌∷◌, length, sym, ◌∙◌, ap, subst, arith, Text, sequences_before, rendition_of, gives_text, gives_rest, gives_mark}
use Rattle.ansi_blocks.proofs.BlockWalkLemmas.{run-begin, run-sgr, run-other, run-text, run-together, if_three}
use Rattle.ansi_blocks.proofs.runs.first_styled_run.Goals as goal

pub loop-item-init : goal.loop-item-init
loop-item-init c =
    let begins : c.into_iter-item-iterator.result ≡ record { text = c.args.text.now; offset = 0 } = c.into_iter-item-iterator.ensures.into_iter_gives ∙ c.new-item-items.ensures.start in
    record {
      text = ap (λ s. s.text) begins;
      so_far = rw begins (run-begin (rendition_of c.args.style.now) c.args.text.now);
      boundary = search rules;
      within = omega arith;
    }

-- over an SGR
pub loop-item-preserved-in-Sgr : goal.loop-item-preserved-in-Sgr
loop-item-preserved-in-Sgr c =
    let gives = c.in-Some.ensures.steps in
    let same = c.loop-item.invariant.text in
    record {
      text = gives.text ∙ same;
      so_far = run-sgr c.in-Some.item.end c.loop-item.invariant.so_far (gives_mark gives same c.range-piece.ensures.value (search rules)) c.in-Sgr.is gives.end c.apply.ensures;
      boundary = subst (λ t. IsCharBoundary t c.in-Some.item.end) same gives.end_boundary;
      within = omega (arith, gives.forward, gives.start, gives.end, c.loop-item.invariant.within);
    }

-- over a sequence that is no SGR, or a lone escape
pub loop-item-preserved : goal.loop-item-preserved
loop-item-preserved c =
    let gives = c.in-Some.ensures.steps in
    let same = c.loop-item.invariant.text in
    record {
      text = gives.text ∙ same;
      so_far = run-other c.in-Some.item.start c.in-Some.item.end c.loop-item.invariant.so_far (gives_mark gives same c.range-piece.ensures.value (search rules)) (search rules) gives.start gives.end c.range-piece.ensures.value (omega (arith, gives.forward, c.range-piece.ensures.len));
      boundary = c.loop-item.invariant.boundary;
      within = omega (arith, gives.forward, gives.start, gives.end, c.range-piece.ensures.len, c.loop-item.invariant.within);
    }

-- at the run
pub returns-in-Text : goal.returns-in-Text
returns-in-Text c =
    let gives = c.in-Some.ensures.steps in
    let same = c.loop-item.invariant.text in
    let first = gives_text gives same c.range-piece.ensures.value c.in-Text.is in
    let so_far = c.loop-item.invariant.so_far in
    let pieces = first ∙ ap (λ ps. Text c.range-piece.result.now ∷ ps) (sym (gives_rest gives same c.range_from.ensures.value)) in
    let run = run-text c.range_from.result.now so_far pieces in
    record {
      none = tt;
      first = run.0;
      awaited = run.1;
      together = if_three c.stretch_of.result c.stretch_of.ensures.stretch c.stretch_of.ensures.end c.stretch_of.ensures.len
          (λ before is reach same. run-together c.range_from.result.now before.now so_far pieces gives.start is reach same);
    }

-- at the end there is none
pub returns-clause-first : goal.returns-clause-first
returns-clause-first c = tt

use Rattle.ansi_search.proofs.Common.{rules, ◌↔◌, ◌≡◌, ◌++◌, ◌+◌, ◌-◌, ◌<◌, ◌≤◌, ◌^◌, ℕ, List, take, drop, length, sym, ◌∙◌, ap, subst, arith, drop_at, drop-drop, refl, length-append, length-drop, IsCharBoundary, plain, IsUtf8-plain}
use Rattle.std.proofs.Math.Seq.{take-append_seam}
use Rattle.ansi_search.proofs.PositionLemmas.{boundary_in_run, good_before, boundary_is_good}
use Rattle.ansi_search.proofs.search.floor_char_boundary.Goals as goal

-- over a run before the index
pub loop-rest-preserved : goal.loop-rest-preserved
loop-rest-preserved c =
    let x = plain c.args.text.now in
    let run = c.run_front.result.0.now in
    let after = plain c.run_front.result.1.now in
    let place = c.loop-rest.place in
    let size : length c.args.text.now < 2 ^ 63 = search rules in
    let short : length run < c.saturating_add.result = omega (arith, size, c.loop-rest.invariant.fits, c.run_front.ensures.within, c.saturating_add.ensures, c.if-remaining-run.false) in
    let is : drop place x ≡ run ++ after = sym c.loop-rest.invariant.left ∙ c.run_front.ensures.all short in
    record {
      text = search rules;
      fits = omega (arith, c.loop-rest.invariant.fits, c.run_front.ensures.within);
      left = sym (drop_at run after (length run) refl) ∙ ap (drop (length run)) (sym is) ∙ drop-drop (length run) place x;
      within = omega (arith, ap length is, length-drop place x, length-append run after, c.loop-rest.invariant.within);
      before = omega (arith, c.loop-rest.invariant.before, c.if-remaining-run.false);
    }

-- the index is in a run, whose boundaries are those of the plain text

run_there : (x rest run after : List ℕ) (place most : ℕ) → rest ≡ drop place x → take most rest ≡ take most (run ++ after) → most ≡ length run → take (length run) (drop place x) ≡ run
run_there x rest run after place most is front all = ap (take (length run)) (sym is) ∙ ap (λ m. take m rest) (sym all) ∙ front ∙ ap (λ m. take m (run ++ after)) all ∙ take-append_seam run after

pub returns-then-remaining-run : goal.returns-then-remaining-run
returns-then-remaining-run c =
    let x = plain c.args.text.now in
    let place = c.loop-rest.place in
    let run = c.run_front.result.0.now in
    let front = c.run_front.ensures in
    let floor = c.floor_char_boundary.ensures in
    let all : c.saturating_add.result ≡ length run = omega (arith, c.saturating_add.ensures, front.most, c.if-remaining-run.true) in
    let there = run_there x (plain c.loop-rest.rest.now) run (plain c.run_front.result.1.now) place c.saturating_add.result c.loop-rest.invariant.left front.front all in
    let same : (k : ℕ) → k ≤ c.args.index - place → IsCharBoundary c.loop-rest.rest.now k ↔ IsCharBoundary x (place + k)
    = λ k below. boundary_in_run x c.loop-rest.rest.now run place k front.bytes there (omega (arith, below, c.if-remaining-run.true)) in
    let boundary = (same c.floor_char_boundary.result floor.bound).0 floor.boundary in
    record {
      bound = omega (arith, floor.bound, c.loop-rest.invariant.before);
      boundary = boundary;
      nearest = λ i above below is. (
          let at : i ≡ place + (i - place) = omega (arith, above) in
          floor.nearest (i - place) (omega (arith, above)) (omega (arith, below)) ((same (i - place) (omega (arith, below))).1 (subst (IsCharBoundary x) at is)));
      good_before = good_before _ _ (IsUtf8-plain c.args.text.now c.utf8.text) boundary;
      good_after = boundary_is_good _ _ boundary;
    }

use Rattle.ansi_search.proofs.Common.{◌≡◌, ◌≤◌, drop, length, sym, ◌∙◌, ap, ap₂, subst, arith, slice_index, length-drop, OccursAt, is_byte, plain, plain_of, length-plain, kind_is_text, IsCut, IsReached, IsWindow, first_match_from, []}
use Rattle.ansi_search.proofs.WindowLemmas.{none-past, none-without, run-occurs, run-left, run-length, reached-then, comes-then, reached-match, reached-end}
use Rattle.ansi_search.proofs.search.matches.find_across.Goals as goal

pub returns-then-text-from : goal.returns-then-text-from
returns-then-text-from c = none-past (plain c.args.text.now) c.args.pat.now c.args.from (omega (arith, c.if-text-from.true, length-plain c.args.text.now))

-- a byte of the pattern doesn't occur
pub returns-in_err-first : goal.returns-in_err-first
returns-in_err-first c =
    let t = c.args.text.now in
    let p = c.args.pat.now in
    rw c.from_residual.ensures
    (none-without t p c.args.from c.rare_place.result (omega (arith, c.rare_place.ensures, ap length c.as_bytes-2.ensures.value))
    (λ j low high passes. c.in_err-first.ensures j low (omega (arith, high, ap length c.as_bytes-3.ensures.value)) (ap₂ (λ b v. is_byte b (slice_index v j)) (ap (λ v. slice_index v c.rare_place.result) c.as_bytes.ensures.value) c.as_bytes-3.ensures.value ∙ passes)))

-- the rare byte doesn't occur
pub returns-in_err-next : goal.returns-in_err-next
returns-in_err-next c =
    let p = c.new-pattern.result.bytes.now in
    let is_cut : IsCut p c.new-pattern.result.cut = c.new-pattern.result.is_cut in
    let within : c.new-pattern.result.rare ≤ c.new-pattern.result.cut.at = c.new-pattern.result.rare_within in
    rw c.from_residual-in_err-next.ensures
    (none-without c.args.text.now p c.args.from c.new-pattern.result.rare (omega (arith, within, is_cut.below))
    (λ j low high passes. c.in_err-next.ensures j low (omega (arith, high, ap length c.as_bytes-else-rare_byte-rare.ensures.value)) (ap₂ (λ b v. is_byte b (slice_index v j)) c.rare_byte-else-rare_byte-rare.ensures c.as_bytes-else-rare_byte-rare.ensures.value ∙ passes))
    ∙ ap (λ q. first_match_from (plain c.args.text.now) q c.args.from) c.new-pattern.ensures)

pub read-requires-clause-run : goal.read-requires-clause-run
read-requires-clause-run c = grind (arith, run-occurs)

-- a match ends in the run
pub returns-in-Match : goal.returns-in-Match
returns-in-Match c =
    let t = c.args.text.now in
    let p = c.args.pat.now in
    let same = c.new-pattern.ensures in
    let from = c.args.from in
    let i = c.in-Match.position in
    reached-match c.utf8.pat c.requires.some (subst (λ q. IsReached t q from i) same (reached-then c.loop-item.invariant.comes.reached c.in-Match.ensures.0)) (subst (λ q. OccursAt (plain t) q i) same c.in-Match.ensures.1)

-- no match ends in it
pub loop-item-preserved-then-eq : goal.loop-item-preserved-then-eq
loop-item-preserved-then-eq c =
    let so_far = c.loop-item.invariant in
    let gives = c.in-Some.ensures.steps in
    let is = c.as_bytes-run.ensures.value ∙ c.range.ensures.value in
    let x = plain c.args.text.now in
    let occurs = run-occurs x c.loop-item.place gives so_far.text (kind_is_text c.if-eq.ensures) so_far.left is so_far.within in
    let size = run-length gives so_far.text in
    record {
      text = gives.text ∙ so_far.text;
      left = run-left x c.loop-item.place gives so_far.text (kind_is_text c.if-eq.ensures) so_far.left is;
      within = occurs.fits;
      comes = comes-then so_far.comes.reached c.in-NoMatchYet.ensures.0;
      read = c.in-NoMatchYet.ensures.1;
      ahead = λ j low high. c.in-NoMatchYet.ensures.2 j (omega (arith, low, gives.start, gives.end, gives.forward, size, ap length is)) high;
    }

-- nothing is left
pub returns : goal.returns
returns c =
    let x = plain c.args.text.now in
    let so_far = c.loop-item.invariant in
    let place = c.loop-item.place in
    let rest : drop place x ≡ [] = sym so_far.left ∙ ap plain_of c.in-None.ensures.steps.2 in
    let end : place ≡ length x = omega (arith, ap length rest, length-drop place x, so_far.within) in
    reached-end c.requires.some (subst (λ q. IsWindow c.args.text.now q c.new-pattern.result.cut.at c.args.from c.loop-item.window) c.new-pattern.ensures so_far.comes) (omega (arith, end, so_far.read))

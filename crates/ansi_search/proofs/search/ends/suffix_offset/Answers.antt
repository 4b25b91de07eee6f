use Rattle.ansi_search.proofs.Common.{sym, ◌∙◌, ap, arith, nat_eq, starts_with, plain}
use Rattle.ansi_search.proofs.EndLemmas.{end-inside, end-matches, end-stands}
use Rattle.ansi_search.proofs.search.ends.suffix_offset.Goals as goal

-- a character goes on where the pattern would begin
pub returns-in_err-offset : goal.returns-in_err-offset
returns-in_err-offset c =
    let given = c.plain_end-start.ensures in
    rw c.from_residual-in_err-offset.ensures
    (end-inside c.args.text.now c.range_from.result.now c.args.pat.now c.plain_end-start.result.0 c.in_ok-place.place given.end c.range_from.ensures.value (omega (arith, given.len)) c.utf8.pat c.in_err-offset.ensures)

-- it isn't there
pub returns-then-not-starts_with : goal.returns-then-not-starts_with
returns-then-not-starts_with c =
    let given = c.plain_end-start.ensures in
    sym (end-matches c.args.text.now c.range_from.result.now c.args.pat.now c.plain_end-start.result.0 c.in_ok-place.place given.end c.range_from.ensures.value (omega (arith, given.len)) c.in_ok-offset.ensures)
    ∙ ap (λ u. starts_with nat_eq (plain u) c.args.pat.now) (sym c.range_from-2.ensures.value) ∙ sym c.starts_with.ensures ∙ c.if-not-starts_with.true

-- it is
pub returns : goal.returns
returns c =
    let given = c.plain_end-start.ensures in (
      sym (end-matches c.args.text.now c.range_from.result.now c.args.pat.now c.plain_end-start.result.0 c.in_ok-place.place given.end c.range_from.ensures.value (omega (arith, given.len)) c.in_ok-offset.ensures)
          ∙ ap (λ u. starts_with nat_eq (plain u) c.args.pat.now) (sym c.range_from-2.ensures.value) ∙ sym c.starts_with.ensures ∙ c.if-not-starts_with.false,
      end-stands c.args.text.now c.range_from.result.now c.args.pat.now c.plain_end-start.result.0 c.in_ok-place.place given.end c.range_from.ensures.value (omega (arith, given.len)) c.in_ok-offset.ensures,
    )

use Rattle.std.proofs.Common.{length, ap, sym, ◌∙◌, append-nil, arith}
use Rattle.std.proofs.lemmas.Bool.{false≢true}
use Rattle.std.proofs.lemmas.Result.{IfOk-weaker}
use Rattle.ansi_cells.proofs.BareLemmas.{bare-fits, bare-kept}
use Rattle.ansi_cells.proofs.shown.truncate_beside.Goals as goal

-- the text is printable ASCII alone, and fits

pub returns-in-Some-clause-bytes : goal.returns-in-Some-clause-bytes
returns-in-Some-clause-bytes g c = sym (append-nil c.args.text.now) ∙ (bare-fits c.args.tail.now c.utf8.text c.in-Some.ensures.bare).truncated_is

pub returns-in-Some-clause-borrowed : goal.returns-in-Some-clause-borrowed
returns-in-Some-clause-borrowed g c = (λ _. bare-kept c.args.tail.now c.utf8.text c.in-Some.ensures.bare, λ _. tt)

-- it isn't

pub returns-clause-bytes : goal.returns-clause-bytes
returns-clause-bytes g c = IfOk-weaker c.join.result _ _ (λ s is. is ∙ c.in_ok-shown.ensures.bytes) c.join.ensures.bytes

pub returns-clause-borrowed : goal.returns-clause-borrowed
returns-clause-borrowed g c =
    let both = c.in_ok-shown.ensures.borrowed in
    IfOk-weaker c.join.result _ _ (λ s iff. (λ b. both.0 (iff.0 b), λ all. iff.1 (both.1 all))) c.join.ensures.borrowed

pub returns-clause-len : goal.returns-clause-len
returns-clause-len g c = IfOk-weaker c.join.result _ _ (λ s is. omega (arith, ap length is, c.in_ok-shown.ensures.len)) c.join.ensures.bytes

pub returns-clause-takes_no_memory : goal.returns-clause-takes_no_memory
returns-clause-takes_no_memory g c = λ all. c.join.ensures.takes_no_memory (c.in_ok-shown.ensures.borrowed.1 all)

pub returns-in_err-shown-clause-takes_no_memory : goal.returns-in_err-shown-clause-takes_no_memory
returns-in_err-shown-clause-takes_no_memory g c = λ all. absurd (false≢true (rw c.in_err-shown.was at (c.truncate_shown.ensures.takes_no_memory all.0)))

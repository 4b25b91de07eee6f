use Rattle.std.proofs.Common.{[], ◌++◌, length, sym, ap, ◌∙◌, append-nil, arith}
use Rattle.std.proofs.lemmas.Bool.{false≢true}
use Rattle.std.proofs.lemmas.Result.{IfOk-weaker}
use Rattle.ansi_style.specs.States.{rendition_of}
use Rattle.ansi_style.specs.Written.{close}
use Rattle.ansi_cells.specs.Shown.{between_blanks}
use Rattle.ansi_cells.proofs.ShownLemmas.{length-between}
use Rattle.ansi_cells.proofs.BareLemmas.{bare-fits, bare-kept, bare-lack}
use Rattle.ansi_cells.proofs.fit.fit_beside.Goals as goal

-- the text is printable ASCII alone, and fits

pub returns-in-Some-clause-bytes : goal.returns-in-Some-clause-bytes
returns-in-Some-clause-bytes g c =
    let t = c.args.text.now in
    let between = between_blanks c.in-Some.front.left c.args.alignment in
    let same = ap (λ s. between ((t ++ close s) ++ [])) c.plain_style.ensures ∙ ap between (append-nil (t ++ [])) in
    IfOk-weaker c.join.result _ _ (λ s is. is ∙ same ∙ (bare-fits c.args.tail.now c.utf8.text c.in-Some.ensures.bare).fitted_is c.args.alignment) c.join.ensures.bytes

pub returns-in-Some-clause-borrowed : goal.returns-in-Some-clause-borrowed
returns-in-Some-clause-borrowed g c =
    let kept = bare-kept c.args.tail.now c.utf8.text c.in-Some.ensures.bare in
    let lack = bare-lack c.args.tail.now c.utf8.text c.in-Some.ensures.bare in
    let nothing = ap (λ s. close s ++ []) c.plain_style.ensures in
    IfOk-weaker c.join.result _ _ (λ s iff. (λ b. (kept.0, kept.1, sym lack.0 ∙ (iff.0 b).2, lack.1), λ all. iff.1 (tt, nothing, lack.0 ∙ all.2))) c.join.ensures.borrowed

pub returns-in-Some-clause-len : goal.returns-in-Some-clause-len
returns-in-Some-clause-len g c =
    let t = c.args.text.now in
    let left = c.in-Some.front.left in
    let same = ap (λ s. length ((t ++ close s) ++ [])) c.plain_style.ensures ∙ ap length (append-nil (t ++ []) ∙ append-nil t) in
    let lack = bare-lack c.args.tail.now c.utf8.text c.in-Some.ensures.bare in
    IfOk-weaker c.join.result _ _ (λ s is. omega (arith, ap length is, length-between left c.args.alignment ((t ++ close (rendition_of c.plain_style.result)) ++ []), same, lack.0)) c.join.ensures.bytes

pub returns-in-Some-clause-takes_no_memory : goal.returns-in-Some-clause-takes_no_memory
returns-in-Some-clause-takes_no_memory g c =
    let lack = bare-lack c.args.tail.now c.utf8.text c.in-Some.ensures.bare in
    λ all. c.join.ensures.takes_no_memory (tt, ap (λ s. close s ++ []) c.plain_style.ensures, lack.0 ∙ all.2)

-- it isn't

pub returns-clause-bytes : goal.returns-clause-bytes
returns-clause-bytes g c = IfOk-weaker c.join-2.result _ _ (λ s is. is ∙ c.in_ok-shown.ensures.bytes) c.join-2.ensures.bytes

pub returns-clause-borrowed : goal.returns-clause-borrowed
returns-clause-borrowed g c =
    let both = c.in_ok-shown.ensures.borrowed in
    IfOk-weaker c.join-2.result _ _ (λ s iff. (λ b. both.0 (iff.0 b), λ all. iff.1 (both.1 all))) c.join-2.ensures.borrowed

pub returns-clause-len : goal.returns-clause-len
returns-clause-len g c = IfOk-weaker c.join-2.result _ _ (λ s is. omega (arith, ap length is, c.in_ok-shown.ensures.len)) c.join-2.ensures.bytes

pub returns-clause-takes_no_memory : goal.returns-clause-takes_no_memory
returns-clause-takes_no_memory g c = λ all. c.join-2.ensures.takes_no_memory (c.in_ok-shown.ensures.borrowed.1 all)

pub returns-in_err-shown-clause-takes_no_memory : goal.returns-in_err-shown-clause-takes_no_memory
returns-in_err-shown-clause-takes_no_memory g c = λ all. absurd (false≢true (rw c.in_err-shown.was at (c.fit_shown.ensures.takes_no_memory (all.0, all.1))))

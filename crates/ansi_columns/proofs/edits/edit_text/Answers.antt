use Rattle.std.proofs.Common.{◌↔◌, ◌+◌, ◌≤◌, length, IfOk, IsOk, sym, subst, arith}
use Rattle.std.specs.Cow.{cow_str_bytes, IsBorrowedStr}
use Rattle.std.proofs.lemmas.Result.{IfOk-weaker}
use Rattle.ansi_safe.proofs.CellTextLemmas.{length-cell}
use Rattle.ansi_columns.specs.Edits.{change_of, IsLent, most_added}
use Rattle.ansi_columns.proofs.edits.edit_text.Goals as goal

pub returns-in-Slice-clause-len : goal.returns-in-Slice-clause-len
returns-in-Slice-clause-len g c =
    let t = c.args.text.now in
    subst (λ e. IfOk c.slice.result (λ s. length (cow_str_bytes s) ≤ length t + most_added (change_of e) t)) (sym c.in-Slice.is)
    (IfOk-weaker c.slice.result _ _ (λ s most. omega (arith, most, length-cell t c.utf8.text)) c.slice.ensures.len)

pub returns-in-Fit-clause-borrowed : goal.returns-in-Fit-clause-borrowed
returns-in-Fit-clause-borrowed g c = subst (λ e. IfOk c.fit.result (λ s. IsBorrowedStr s ↔ IsLent (change_of e) c.args.text.now)) (sym c.in-Fit.is) c.fit.ensures.borrowed

pub returns-in-Fit-clause-len : goal.returns-in-Fit-clause-len
returns-in-Fit-clause-len g c =
    let t = c.args.text.now in
    subst (λ e. IfOk c.fit.result (λ s. length (cow_str_bytes s) ≤ length t + most_added (change_of e) t)) (sym c.in-Fit.is)
    (IfOk-weaker c.fit.result _ _ (λ s most. omega (arith, most)) c.fit.ensures.len)

pub returns-in-Fit-clause-takes_no_memory : goal.returns-in-Fit-clause-takes_no_memory
returns-in-Fit-clause-takes_no_memory g c =
    subst (λ e. IsLent (change_of e) c.args.text.now → IsOk c.fit.result) (sym c.in-Fit.is) (λ lent. c.fit.ensures.takes_no_memory lent)

pub returns-in-Truncate-clause-borrowed : goal.returns-in-Truncate-clause-borrowed
returns-in-Truncate-clause-borrowed g c = subst (λ e. IfOk c.truncate_with.result (λ s. IsBorrowedStr s ↔ IsLent (change_of e) c.args.text.now)) (sym c.in-Truncate.is) c.truncate_with.ensures.borrowed

pub returns-in-Truncate-clause-len : goal.returns-in-Truncate-clause-len
returns-in-Truncate-clause-len g c =
    let t = c.args.text.now in
    subst (λ e. IfOk c.truncate_with.result (λ s. length (cow_str_bytes s) ≤ length t + most_added (change_of e) t)) (sym c.in-Truncate.is)
    (IfOk-weaker c.truncate_with.result _ _ (λ s most. omega (arith, most)) c.truncate_with.ensures.len)

pub returns-in-Truncate-clause-takes_no_memory : goal.returns-in-Truncate-clause-takes_no_memory
returns-in-Truncate-clause-takes_no_memory g c =
    subst (λ e. IsLent (change_of e) c.args.text.now → IsOk c.truncate_with.result) (sym c.in-Truncate.is) (λ lent. c.truncate_with.ensures.takes_no_memory lent)

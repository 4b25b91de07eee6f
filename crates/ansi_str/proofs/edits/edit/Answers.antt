use Rattle.ansi_str.proofs.Common.{Some, None, refl, sym, ◌∙◌, ap, is_some, true≢false, cow_str_bytes, change_of, changes_of}
use Rattle.ansi_str.proofs.EditLemmas.{is_slice_named}
use Rattle.ansi_str.proofs.EditWalkLemmas.{so_far-refused, so_far-lent, so_far-end}
use Rattle.ansi_str.proofs.edits.edit.Goals as goal

-- an edit that is refused
pub returns-in-None : goal.returns-in-None
returns-in-None g c =
    let is = so_far-refused change_of c.args.edits.now c.loop-edit.edit-index _ c.loop-edit.invariant c.loop-edit-test.true (rw c.in-None.is at c.in_ok-next.ensures.bytes) in
    record {
      headline = λ whole. is_slice_named (changes_of c.args.edits.now) c.args.text.now None whole is;
      none = (λ e. ap is_some (sym is), λ e. refl);
      bytes = is;
      borrowed = tt;
      takes_no_memory = λ stays. refl;
    }

-- an edit that gives a borrow, or is refused, is never an `Err`
pub returns-in_err-next-clause-takes_no_memory : goal.returns-in_err-next-clause-takes_no_memory
returns-in_err-next-clause-takes_no_memory g c = λ stays.
    absurd (true≢false (sym (c.in_err-next.ensures.takes_no_memory (so_far-lent change_of c.args.edits.now c.loop-edit.edit-index _ c.loop-edit.invariant c.loop-edit-test.true stays))))

-- all are done
pub returns : goal.returns
returns g c =
    let is = so_far-end change_of c.args.edits.now c.loop-edit.edit-index c.loop-edit.invariant c.loop-edit-test.false in
    record {
      headline = λ whole. is_slice_named (changes_of c.args.edits.now) c.args.text.now (Some (cow_str_bytes c.loop-edit.edited)) whole is.0;
      none = (λ e. absurd (true≢false e), λ none. ap is_some is.0 ∙ none);
      bytes = is.0;
      borrowed = is.1;
      takes_no_memory = λ stays. refl;
    }

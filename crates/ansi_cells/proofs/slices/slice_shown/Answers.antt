use Rattle.std.proofs.Common.{IsTrue, IsOk, length, sym, ◌∙◌, ap, subst, arith, rules}
use Rattle.std.specs.Cow.{cow_str_bytes, IsBorrowedStr}
use Rattle.ansi_safe.specs.Safe.{is_safe}
use Rattle.ansi_safe.specs.declared.policy.Links.TheVariants.{Keep}
use Rattle.ansi_cells.proofs.OneLineLemmas.{cell-prints}
use Rattle.ansi_cells.proofs.SliceCellLemmas.{IsCellUpTo, cell-sliced, cell-blanks, cell-stretch, cell-borrowed}
use Rattle.ansi_cells.proofs.slices.slice_shown.Goals as goal

-- the text is ASCII, and stays as it is

pub returns-in-Some-clause-bytes : goal.returns-in-Some-clause-bytes
returns-in-Some-clause-bytes g c =
    let is = c.in-Some.ensures in
    let cut : IsCellUpTo c.args.text.now c.args.end c.args.text.now c.unwrap_or-end.result = record { utf8 = c.utf8.text; size = search rules; text = sym is.stays; up_to = c.unwrap_or-end.ensures } in
    is.bytes ∙ cell-sliced c.args.start cut

pub returns-in-Some-clause-borrowed : goal.returns-in-Some-clause-borrowed
returns-in-Some-clause-borrowed g c =
    let is = c.in-Some.ensures in
    let cut : IsCellUpTo c.args.text.now c.args.end c.args.text.now c.unwrap_or-end.result = record { utf8 = c.utf8.text; size = search rules; text = sym is.stays; up_to = c.unwrap_or-end.ensures } in
    cell-borrowed c.args.start cut is.stays is.lent

pub returns-in-Some-clause-len : goal.returns-in-Some-clause-len
returns-in-Some-clause-len g c =
    let is = c.in-Some.ensures in
    let cut : IsCellUpTo c.args.text.now c.args.end c.args.text.now c.unwrap_or-end.result = record { utf8 = c.utf8.text; size = search rules; text = sym is.stays; up_to = c.unwrap_or-end.ensures } in
    omega (arith, is.len, cell-blanks c.args.start cut, ap length is.stays)

-- the cell is borrowed, so it is the text

pub returns-in_ok-slice_up_to-in-Borrowed-clause-bytes : goal.returns-in_ok-slice_up_to-in-Borrowed-clause-bytes
returns-in_ok-slice_up_to-in-Borrowed-clause-bytes g c =
    let text = sym (ap cow_str_bytes c.in-Borrowed.is) ∙ c.in_ok-cell.ensures.bytes in
    let cut : IsCellUpTo c.args.text.now c.args.end c.in-Borrowed.cell.now c.unwrap_or-end.result = record { utf8 = c.utf8.text; size = search rules; text = text; up_to = c.unwrap_or-end.ensures } in
    c.in_ok-slice_up_to-in-Borrowed.ensures.bytes ∙ cell-sliced c.args.start cut

pub returns-in_ok-slice_up_to-in-Borrowed-clause-borrowed : goal.returns-in_ok-slice_up_to-in-Borrowed-clause-borrowed
returns-in_ok-slice_up_to-in-Borrowed-clause-borrowed g c =
    let text = sym (ap cow_str_bytes c.in-Borrowed.is) ∙ c.in_ok-cell.ensures.bytes in
    let cut : IsCellUpTo c.args.text.now c.args.end c.in-Borrowed.cell.now c.unwrap_or-end.result = record { utf8 = c.utf8.text; size = search rules; text = text; up_to = c.unwrap_or-end.ensures } in
    let stays = c.in_ok-cell.ensures.borrowed.0 (subst IsBorrowedStr (sym c.in-Borrowed.is) tt) in
    cell-borrowed c.args.start cut stays c.in_ok-slice_up_to-in-Borrowed.ensures.borrowed

pub returns-in_ok-slice_up_to-in-Borrowed-clause-len : goal.returns-in_ok-slice_up_to-in-Borrowed-clause-len
returns-in_ok-slice_up_to-in-Borrowed-clause-len g c =
    let text = sym (ap cow_str_bytes c.in-Borrowed.is) ∙ c.in_ok-cell.ensures.bytes in
    let cut : IsCellUpTo c.args.text.now c.args.end c.in-Borrowed.cell.now c.unwrap_or-end.result = record { utf8 = c.utf8.text; size = search rules; text = text; up_to = c.unwrap_or-end.ensures } in
    omega (arith, c.in_ok-slice_up_to-in-Borrowed.ensures.len, cell-blanks c.args.start cut, ap length text)

pub returns-in_err-slice_up_to-in-Borrowed-clause-takes_no_memory : goal.returns-in_err-slice_up_to-in-Borrowed-clause-takes_no_memory
returns-in_err-slice_up_to-in-Borrowed-clause-takes_no_memory g c =
    let text = sym (ap cow_str_bytes c.in-Borrowed.is) ∙ c.in_ok-cell.ensures.bytes in
    let cut : IsCellUpTo c.args.text.now c.args.end c.in-Borrowed.cell.now c.unwrap_or-end.result = record { utf8 = c.utf8.text; size = search rules; text = text; up_to = c.unwrap_or-end.ensures } in
    λ all. absurd (cc (subst IsOk c.in_err-slice_up_to-in-Borrowed.was (c.slice_up_to.ensures.takes_no_memory (subst IsTrue (sym (cell-stretch c.args.start cut all.0)) all.1))))

-- it is owned

pub slice_cell-requires : goal.slice_cell-requires
slice_cell-requires g c =
    let text = c.as_str.ensures.value ∙ sym (ap cow_str_bytes c.in-Owned.is) in
    record { prints = cell-prints c.utf8.text (text ∙ c.in_ok-cell.ensures.bytes); safe = subst (λ u. IsTrue (is_safe Keep u)) (sym text) c.in_ok-cell.ensures.safe }

pub returns-in_ok-into_owned-in-Owned-clause-bytes : goal.returns-in_ok-into_owned-in-Owned-clause-bytes
returns-in_ok-into_owned-in-Owned-clause-bytes g c =
    let text = c.as_str.ensures.value ∙ sym (ap cow_str_bytes c.in-Owned.is) ∙ c.in_ok-cell.ensures.bytes in
    let cut : IsCellUpTo c.args.text.now c.args.end c.as_str.result.now c.unwrap_or-end.result = record { utf8 = c.utf8.text; size = search rules; text = text; up_to = c.unwrap_or-end.ensures } in
    c.in_ok-into_owned-in-Owned.ensures.ok ∙ c.in_ok-slice-in-Owned.ensures.bytes ∙ c.in_ok-slice_cell-in-Owned.ensures.bytes ∙ cell-sliced c.args.start cut

pub returns-in_ok-into_owned-in-Owned-clause-len : goal.returns-in_ok-into_owned-in-Owned-clause-len
returns-in_ok-into_owned-in-Owned-clause-len g c =
    let text = c.as_str.ensures.value ∙ sym (ap cow_str_bytes c.in-Owned.is) ∙ c.in_ok-cell.ensures.bytes in
    let cut : IsCellUpTo c.args.text.now c.args.end c.as_str.result.now c.unwrap_or-end.result = record { utf8 = c.utf8.text; size = search rules; text = text; up_to = c.unwrap_or-end.ensures } in
    omega (
      arith,
      ap length (c.in_ok-into_owned-in-Owned.ensures.ok ∙ c.in_ok-slice-in-Owned.ensures.bytes),
      c.in_ok-slice_cell-in-Owned.ensures.len,
      cell-blanks c.args.start cut,
      ap length text,
    )

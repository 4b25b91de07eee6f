use Rattle.std.proofs.Common.{◌≡◌, ℕ, ◌+◌, ◌≤◌, List, [], ◌++◌, length, IfSome, refl, sym, ◌∙◌, ap, subst, append-nil, arith}
use Rattle.std.specs.Cow.{cow_str_bytes}
use Rattle.ansi_safe.specs.Cells.{cell}
use Rattle.ansi_style.specs.States.{rendition_of}
use Rattle.ansi_style.specs.Written.{close, longest_close}
use Rattle.ansi_safe.specs.Links.{longest_link_end}
use Rattle.ansi_cells.specs.Shown.{truncated, missing, closing, padded}
use Rattle.ansi_cells.proofs.MissingLemmas.{IsLack}
use Rattle.ansi_cells.proofs.ShownLemmas.{ending-closing, between-none, padded-between, length-between, length-padded}
use Rattle.ansi_cells.proofs.fit.fit_shown.Goals as goal

-- what is missing is known
pub returns-in-Some-clause-bytes : goal.returns-in-Some-clause-bytes
returns-in-Some-clause-bytes g c =
    let t = truncated (cell c.args.text.now) c.args.width c.args.tail.now in
    let known : IsLack (cell c.args.text.now) c.args.width c.args.tail.now c.in-Some.missing = subst (λ o. IfSome o (IsLack (cell c.args.text.now) c.args.width c.args.tail.now)) c.in-Some.is c.in_ok-front.ensures.missing in
    padded-between t c.args.width c.args.alignment (c.in_ok-front.ensures.bytes ∙ sym (append-nil t) ∙ ap (λ u. t ++ u) (sym known.1)) known.0

pub returns-in-Some-clause-len : goal.returns-in-Some-clause-len
returns-in-Some-clause-len g c =
    let known : IsLack (cell c.args.text.now) c.args.width c.args.tail.now c.in-Some.missing = subst (λ o. IfSome o (IsLack (cell c.args.text.now) c.args.width c.args.tail.now)) c.in-Some.is c.in_ok-front.ensures.missing in
    let parts = c.in_ok-front.field-0 in
    let u = (cow_str_bytes parts.front ++ (parts.ending.link_end.now ++ close (rendition_of parts.ending.style))) ++ parts.tail.now in
    let most : length u ≤ length c.args.text.now + length c.args.tail.now + longest_link_end + longest_close = c.in_ok-front.ensures.len in
    let lack : c.in-Some.missing ≡ missing (truncated (cell c.args.text.now) c.args.width c.args.tail.now) c.args.width = known.0 in
    omega (arith, length-between c.in-Some.missing c.args.alignment u, most, lack)

-- what is cut is measured
pub pad_cell-requires : goal.pad_cell-requires
pad_cell-requires g c =
    let pen = c.pen_after.ensures in
    ending-closing c.as_str.ensures.value pen.style pen.link c.ending-ending.ensures.link_end (ap rendition_of c.ending-ending.ensures.style)

pub returns-clause-bytes : goal.returns-clause-bytes
returns-clause-bytes g c =
    let same = c.in_ok-cut.ensures.bytes ∙ between-none c.args.alignment _ ∙ c.in_ok-front.ensures.bytes in
    c.pad_cell.ensures.bytes ∙ ap (λ u. padded u c.args.width c.args.alignment) same

pub returns-clause-borrowed : goal.returns-clause-borrowed
returns-clause-borrowed g c =
    let full : List ℕ → Type 0 = λ t. missing t c.args.width ≡ 0 in
    let closed : List ℕ → Type 0 = λ t. closing t ≡ [] in
    let parts = c.in_ok-front.ensures in
    let same = c.in_ok-cut.ensures.bytes ∙ between-none c.args.alignment _ ∙ parts.bytes in
    let cut = c.in_ok-cut.ensures.borrowed in
    let iff = c.pad_cell.ensures.borrowed in (
      λ b. (parts.borrowed.0 (cut.0 (iff.0 b).0).0, sym parts.ending ∙ (cut.0 (iff.0 b).0).1, subst full same (iff.0 b).1, subst closed same (iff.0 b).2),
      λ all. iff.1 (cut.1 (parts.borrowed.1 all.0, parts.ending ∙ all.1, refl), subst full (sym same) all.2, subst closed (sym same) all.3),
    )

pub returns-clause-len : goal.returns-clause-len
returns-clause-len g c =
    let parts = c.in_ok-front.ensures in
    let cut = cow_str_bytes c.in_ok-cut.cut in
    let whole = c.in_ok-cut.ensures.bytes ∙ between-none c.args.alignment _ in
    let same = whole ∙ parts.bytes in
    omega (arith, ap length c.pad_cell.ensures.bytes, length-padded cut c.args.width c.args.alignment, ap length whole, parts.len, ap (λ t. missing t c.args.width) same)

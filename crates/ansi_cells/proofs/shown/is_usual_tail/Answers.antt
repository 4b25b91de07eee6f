use Rattle.std.proofs.Common.{◌≡◌, true, length, take, sym, ◌∙◌, ap, subst, arith, take_all}
use Rattle.std.specs.List.{list_all, prefix_len}
use Rattle.std.proofs.lemmas.Bool.{eqb-true}
use Rattle.ansi_items.proofs.SequenceLemmas.{all-run}
use Rattle.ansi_safe.specs.Safe.{is_printable_byte}
use Rattle.ansi_cells.specs.Shown.{closed_cell}
use Rattle.ansi_cells.proofs.TailLemmas.{closed_cell-printing, Prints-printable, Prints-ellipsis}
use Rattle.ansi_cells.proofs.shown.is_usual_tail.Goals as goal

pub returns-then-is_ellipsis : goal.returns-then-is_ellipsis
returns-then-is_ellipsis c =
    λ yes.
    subst (λ t. closed_cell t ≡ t) (sym (c.is_ellipsis.ensures yes)) (closed_cell-printing _ Prints-ellipsis)

pub returns-else-is_ellipsis : goal.returns-else-is_ellipsis
returns-else-is_ellipsis c =
    λ same.
    let t = c.args.text.now in
    let whole : prefix_len is_printable_byte t ≡ length t = ap (prefix_len is_printable_byte) (sym c.as_bytes.ensures.value) ∙ sym c.printable_len.ensures ∙ eqb-true _ _ same in
    let all : list_all is_printable_byte t ≡ true
    = subst (λ u. list_all is_printable_byte u ≡ true) (ap (λ n. take n t) whole ∙ take_all (length t) t (omega arith)) (all-run is_printable_byte t) in
    closed_cell-printing t (Prints-printable t c.utf8.text all)

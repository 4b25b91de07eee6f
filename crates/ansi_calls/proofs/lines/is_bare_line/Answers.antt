use Rattle.std.proofs.Common.{◌≡◌, ◌≢◌, ◌-◌, true, length, slice_index, sym, ◌∙◌, ap, arith}
use Rattle.std.specs.List.{list_all, prefix_len}
use Rattle.std.proofs.lemmas.Bool.{eqb-true, le-leb}
use Rattle.std.proofs.lemmas.List.{take_all}
use Rattle.ansi_safe.specs.Safe.{is_printable_byte}
use Rattle.ansi_cells.specs.PlainCells.{last_byte}
use Rattle.ansi_cells.proofs.PlainCellLemmas.{printable-front}
use Rattle.ansi_calls.proofs.BareLineLemmas.{only-bare}
use Rattle.ansi_calls.proofs.lines.is_bare_line.Goals as goal

pub returns : goal.returns
returns c = λ whole.
    let t = c.args.text.now in
    let n = length t in
    let front : c.printable_len.result ≡ prefix_len is_printable_byte t = c.printable_len.ensures ∙ ap (prefix_len is_printable_byte) c.as_bytes-2.ensures.value in
    let all : list_all is_printable_byte t ≡ true
    = ap (list_all is_printable_byte) (sym (take_all n t (omega arith))) ∙ sym (printable-front n t (omega arith)) ∙ le-leb n (prefix_len is_printable_byte t) (omega (arith, front, eqb-true _ _ whole)) in
    let last = ap (λ b. slice_index b (n - 1)) c.as_bytes.ensures.value in
    let solid : last_byte t ≢ 0x20 = λ blank. absurd (omega (arith, last, blank, c.if-last-le32.false)) in
    only-bare t c.args.width c.utf8.text (omega (arith, c.if-len-eq0.false)) (omega (arith, c.if-width-len.false)) all solid

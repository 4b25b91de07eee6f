use Rattle.std.proofs.Common.{◌≡◌, ◌-◌, length, take, slice_index, slice_range, refl, sym, ◌∙◌, ap, arith}
use Rattle.std.specs.List.{list_all}
use Rattle.std.proofs.lemmas.List.{take_all}
use Rattle.ansi_clusters.proofs.AsciiLemmas.{is_printable}
use Rattle.ansi_cells.proofs.PlainCellLemmas.{plain-bare}
use Rattle.ansi_cells.proofs.plain_cells.bare_front.Goals as goal

pub returns-clause-cell : goal.returns-clause-cell
returns-clause-cell c =
    let t = c.args.text.now in
    let size : length t - 0 ≡ length t = omega arith in
    let whole : slice_range t 0 (length t) ≡ t = ap (λ n. take n t) size ∙ take_all (length t) t (omega arith) in
    plain-bare t c.utf8.text (omega (arith, c.if-len-eq0.false)) (ap (list_all is_printable) (sym whole) ∙ sym c.is_printable.ensures ∙ c.if-not-is_printable.false) (omega (arith, c.if-width-len.false)) c.plain_style.ensures (ap (λ b. slice_index b (length t - 1)) c.as_bytes.ensures.value)

pub returns-clause-bare : goal.returns-clause-bare
returns-clause-bare c =
    let t = c.args.text.now in
    let size : length t - 0 ≡ length t = omega arith in
    let whole : slice_range t 0 (length t) ≡ t = ap (λ n. take n t) size ∙ take_all (length t) t (omega arith) in
    plain-bare t c.utf8.text (omega (arith, c.if-len-eq0.false)) (ap (list_all is_printable) (sym whole) ∙ sym c.is_printable.ensures ∙ c.if-not-is_printable.false) (omega (arith, c.if-width-len.false)) refl (ap (λ b. slice_index b (length t - 1)) c.as_bytes.ensures.value)

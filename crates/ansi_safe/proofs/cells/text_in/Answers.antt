use Rattle.std.proofs.Common.{length, sym, ◌∙◌, ap, arith}
use Rattle.std.proofs.lemmas.Bool.{false≢true}
use Rattle.ansi_safe.proofs.CellLemmas.{placed-stays, placed_stays}
use Rattle.ansi_safe.proofs.CellTextLemmas.{length-placed}
use Rattle.ansi_safe.proofs.cells.text_in.Goals as goal

-- the text stays as it is

pub returns-then-is_placed-clause-bytes : goal.returns-then-is_placed-clause-bytes
returns-then-is_placed-clause-bytes g c = sym (placed-stays c.args.place c.args.text.now c.utf8.text (sym c.is_placed.ensures ∙ c.if-is_placed.true))

pub returns-then-is_placed-clause-borrowed : goal.returns-then-is_placed-clause-borrowed
returns-then-is_placed-clause-borrowed g c =
    (λ _. placed-stays c.args.place c.args.text.now c.utf8.text (sym c.is_placed.ensures ∙ c.if-is_placed.true), λ _. tt)

-- it doesn't

pub returns-in_err-write_placed-clause-takes_no_memory : goal.returns-in_err-write_placed-clause-takes_no_memory
returns-in_err-write_placed-clause-takes_no_memory g c =
    λ same. absurd (false≢true (sym c.if-is_placed.false ∙ c.is_placed.ensures ∙ placed_stays c.args.place c.args.text.now c.utf8.text same))

pub returns-clause-borrowed : goal.returns-clause-borrowed
returns-clause-borrowed g c =
    (λ no. absurd no, λ same. absurd (false≢true (sym c.if-is_placed.false ∙ c.is_placed.ensures ∙ placed_stays c.args.place c.args.text.now c.utf8.text same)))

pub returns-clause-len : goal.returns-clause-len
returns-clause-len g c = omega (arith, ap length c.in_ok-write_placed.ensures, length-placed c.args.place c.args.text.now c.utf8.text)

use Rattle.std.proofs.Common.{eqb-true, bit_and, w32, ap, sym, ◌∙◌}
use Rattle.std.specs.Int.{from_le_bytes}
use Rattle.ansi_safe.proofs.AsciiLemmas.{ascii_4}
use Rattle.ansi_safe.proofs.utf8.begins_ascii_4.Goals as goal

pub returns-in-Some : goal.returns-in-Some
returns-in-Some c = λ none.
    ascii_4 c.args.bytes.now c.type_inv.bytes
    (ap (λ w. bit_and (from_le_bytes w32 w) 0x8080_8080) (sym c.in-Some.ensures.cases.same) ∙ ap (λ w. bit_and w 0x8080_8080) (sym c.from_le_bytes.ensures) ∙ eqb-true _ 0 none)

use Rattle.std.proofs.Common.{◌≡◌, ◌-◌, Some, None, length, slice_range, sym, ◌∙◌, ap, arith, length-take}
use Rattle.std.specs.List.{prefix_len}
use Rattle.memchr.specs.Find.{IsFirstByte, is_byte}
use Rattle.ansi_safe.specs.Links.{fields_of}
use Rattle.ansi_safe.proofs.LinkLemmas.{has_no_semicolon, parameters-found, address-found, address-none}
use Rattle.ansi_safe.proofs.links.fields_of.Goals as goal

pub returns-in_err-parameters-clause-address : goal.returns-in_err-parameters-clause-address
returns-in_err-parameters-clause-address c =
    let w = c.args.sequence.now in
    let none : IsFirstByte (is_byte 59) c.in_ok-fields.fields.now None = rw c.in_err-parameters.was at c.memchr.ensures in
    rw c.from_residual-in_err-parameters.ensures (address-none w c.in_ok-fields.fields.now (sym c.starts_with.ensures.value ∙ c.if-not-starts_with.false)
    (c.in_ok-fields.ensures.lookup.0.2 ∙ ap (λ n. slice_range w 4 (length w - n)) c.terminator_len.ensures) none)

-- where the first semicolon is
pub returns-clause-parameters : goal.returns-clause-parameters
returns-clause-parameters c =
    let w = c.args.sequence.now in
    let fields = c.in_ok-fields.fields.now in
    let n = c.in_ok-parameters.parameters in
    let first : IsFirstByte (is_byte 59) fields (Some n) = rw c.in_ok-parameters.was at c.memchr.ensures in
    let same : fields ≡ fields_of w = c.in_ok-fields.ensures.lookup.0.2 ∙ ap (λ k. slice_range w 4 (length w - k)) c.terminator_len.ensures in
    let before : prefix_len has_no_semicolon (fields_of w) ≡ n = ap (prefix_len has_no_semicolon) (sym same) ∙ parameters-found fields n first in
    omega (arith, length-take n fields, first.0.high, before)

pub returns-clause-address : goal.returns-clause-address
returns-clause-address c =
    let w = c.args.sequence.now in
    let first : IsFirstByte (is_byte 59) c.in_ok-fields.fields.now (Some c.in_ok-parameters.parameters) = rw c.in_ok-parameters.was at c.memchr.ensures in
    address-found w c.in_ok-fields.fields.now c.in_ok-parameters.parameters (sym c.starts_with.ensures.value ∙ c.if-not-starts_with.false)
    (c.in_ok-fields.ensures.lookup.0.2 ∙ ap (λ n. slice_range w 4 (length w - n)) c.terminator_len.ensures) first

use Rattle.std.proofs.Common.{◌≡◌, ◌-◌, Some, length, slice_range, sym, ◌∙◌, ap, subst}
use Rattle.std.specs.Str.{IsCharBoundary}
use Rattle.ansi_safe.specs.Links.{terminator_len, address_of}
use Rattle.ansi_cells.proofs.AddressLemmas.{address-stands}
use Rattle.ansi_cells.proofs.addresses.address.Goals as goal

pub range-requires-clause-start_boundary : goal.range-requires-clause-start_boundary
range-requires-clause-start_boundary c =
    let w = c.args.sequence.now in
    let a = c.in_ok-address.address.now in
    let is : Some a ≡ address_of w = (rw c.in_ok-address.was at c.address_of.ensures) ∙ ap address_of c.as_bytes.ensures.value in
    let n : c.terminator_len.result ≡ terminator_len w = c.terminator_len.ensures ∙ ap terminator_len c.as_bytes-2.ensures.value in
    λ _. subst (λ k. IsCharBoundary w (length w - k - length a)) (sym n) (address-stands w a c.utf8.sequence c.requires is).begins

pub range-requires-clause-end_boundary : goal.range-requires-clause-end_boundary
range-requires-clause-end_boundary c =
    let w = c.args.sequence.now in
    let a = c.in_ok-address.address.now in
    let is : Some a ≡ address_of w = (rw c.in_ok-address.was at c.address_of.ensures) ∙ ap address_of c.as_bytes.ensures.value in
    let n : c.terminator_len.result ≡ terminator_len w = c.terminator_len.ensures ∙ ap terminator_len c.as_bytes-2.ensures.value in
    subst (λ k. IsCharBoundary w (length w - k)) (sym n) (address-stands w a c.utf8.sequence c.requires is).ends

pub returns : goal.returns
returns c =
    let w = c.args.sequence.now in
    let a = c.in_ok-address.address.now in
    let is : Some a ≡ address_of w = (rw c.in_ok-address.was at c.address_of.ensures) ∙ ap address_of c.as_bytes.ensures.value in
    let n : c.terminator_len.result ≡ terminator_len w = c.terminator_len.ensures ∙ ap terminator_len c.as_bytes-2.ensures.value in
    ap Some (c.range.ensures.value ∙ ap (λ k. slice_range w (length w - k - length a) (length w - k)) n ∙ sym (address-stands w a c.utf8.sequence c.requires is).is) ∙ is

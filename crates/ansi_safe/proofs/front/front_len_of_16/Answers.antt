use Rattle.std.proofs.Common.{◌≡◌, take, length, sym, ◌∙◌, subst, arith}
use Rattle.std.proofs.lemmas.List.{length-take-le}
use Rattle.std.proofs.lemmas.List.Sums.{prefix_len-le-length}
use Rattle.std.specs.List.{prefix_len}
use Rattle.ansi_safe.specs.Safe.{is_printable_byte, is_in}
use Rattle.ansi_safe.proofs.FrontLemmas.{printable-ordinary}
use Rattle.ansi_safe.proofs.front.front_len_of_16.Goals as goal

-- all 16 are printable, and so ordinary
pub returns-in_default : goal.returns-in_default
returns-in_default c =
    let v = take 16 c.args.bytes.now in
    let size : length v ≡ 16 = length-take-le 16 c.args.bytes.now c.requires in
    let is = c.printable_len_of_16-printable.ensures in
    let all : prefix_len is_printable_byte v ≡ length v = omega (arith, is, size, prefix_len-le-length is_printable_byte v, c.if-printable-lt16.false) in
    subst (λ s. c.printable_len_of_16-printable.result ≡ prefix_len (is_in s) v) (sym c.in-Ordinary.is) (is ∙ all ∙ sym (printable-ordinary c.in-Ordinary.white v all))

use Rattle.std.proofs.Common.{◌++◌, chars, length, encode_utf8_all, length-append, append_assoc, string_bytes, sym, ◌∙◌, ap, arith}
use Rattle.ansi_safe.specs.Cells.{run_in}
use Rattle.ansi_safe.proofs.CellLemmas.{in_after_ordinary}
use Rattle.ansi_safe.proofs.cells.push_ordinary.Goals as goal

pub returns-clause-written : goal.returns-clause-written
returns-clause-written g c =
    let w = c.split_ordinary.result.0.now in
    let cs = chars c.split_ordinary.result.1.now in
    let before = string_bytes c.args.out.now in
    λ place. ap (λ u. u ++ encode_utf8_all (run_in place cs)) c.in_ok-push_str.ensures.bytes ∙ append_assoc before w (encode_utf8_all (run_in place cs))
    ∙ ap (λ v. before ++ v) (sym (in_after_ordinary place (chars c.args.run.now) w cs c.split_ordinary.ensures.utf8 c.split_ordinary.ensures.ordinary c.split_ordinary.ensures.chars))

pub returns-clause-shorter : goal.returns-clause-shorter
returns-clause-shorter g c =
    omega (arith, ap length c.split_ordinary.ensures.chars, length-append (chars c.split_ordinary.result.0.now) (chars c.split_ordinary.result.1.now))

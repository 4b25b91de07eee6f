use Rattle.std.proofs.Common.{◌++◌, string_bytes, length, sym, ◌∙◌, ap, arith, append-nil, length-append}
use Rattle.std.proofs.lemmas.Result.{on_ok_weaker}
use Rattle.ansi_cells.specs.Slices.{joined_parts}
use Rattle.ansi_cells.proofs.SliceLemmas.{sliced-nothing}
use Rattle.ansi_cells.proofs.slices.push_slice.Goals as goal

pub returns-in-Some-clause-bytes : goal.returns-in-Some-clause-bytes
returns-in-Some-clause-bytes g c =
    on_ok_weaker c.push_to.result (λ written. written ∙ ap (λ u. string_bytes c.args.out.now ++ u) c.in-Some.ensures.bytes) c.push_to.ensures

pub returns-in-Some-clause-len : goal.returns-in-Some-clause-len
returns-in-Some-clause-len g c =
    on_ok_weaker c.push_to.result (λ written. omega (
      arith,
      ap length written,
      length-append (string_bytes c.args.out.now) (joined_parts c.in-Some.parts),
      c.in-Some.ensures.len,
    )) c.push_to.ensures

pub returns-in-None-clause-bytes : goal.returns-in-None-clause-bytes
returns-in-None-clause-bytes g c =
    let old = string_bytes c.args.out.now in
    sym (append-nil old) ∙ ap (λ u. old ++ u) (sliced-nothing c.args.text.now c.args.start c.args.end c.in-None.ensures)

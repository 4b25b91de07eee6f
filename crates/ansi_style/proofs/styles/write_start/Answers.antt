use Rattle.std.proofs.Common.{ap, ◌∙◌}
use Rattle.std.proofs.lemmas.Fmt.{contents_after_writes}
use Rattle.std.proofs.lemmas.Result.{on_err_weaker, on_ok_weaker}
use Rattle.std.specs.Prelude.{string_bytes}
use Rattle.ansi_style.proofs.FrontLemmas.{front_boundary, front_left}
use Rattle.ansi_style.proofs.styles.write_start.Goals as goal

-- each write appends
pub returns-clause-bytes : goal.returns-clause-bytes
returns-clause-bytes g c =
    on_ok_weaker c.keep_if_written.result
    (λ kept. ap string_bytes kept.1 ∙ contents_after_writes _ string_bytes (λ s bs t call. call) _ _ _ (c.write_start-written.ensures.wrote kept.0))
    c.keep_if_written.ensures.written

-- what was there stays, and all after it is taken back
pub keep_if_written-requires : goal.keep_if_written-requires
keep_if_written-requires g c = front_boundary c.args.out.now c.write_start-written.new.out _ c.len-len.ensures c.write_start-written.ensures.kept

pub returns-clause-kept : goal.returns-clause-kept
returns-clause-kept g c =
    on_err_weaker c.keep_if_written.result (λ left. left ∙ front_left c.args.out.now c.write_start-written.new.out _ c.len-len.ensures c.write_start-written.ensures.kept) c.keep_if_written.ensures.kept

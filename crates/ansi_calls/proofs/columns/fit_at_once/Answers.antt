use Rattle.std.proofs.Common.{◌≡◌, List, ℕ, subst}
use Rattle.std.specs.Option.{MatchOption}
use Rattle.ansi_text_calls.specs.Answers.{IsWritten}
use Rattle.ansi_calls.proofs.columns.fit_at_once.Goals as goal

pub returns : goal.returns
returns c =
    let written = λ (u : List ℕ). MatchOption c.write_bare.result (c.write_bare.new.buffer ≡ c.args.buffer.now) (λ answer. IsWritten u answer c.args.buffer.now c.write_bare.new.buffer) in
    subst written (c.in_ok-truncate_bare.ensures.fitted c.args.alignment) c.write_bare.ensures

use Rattle.std.proofs.Common.{◌≡◌, List, ℕ, subst, ◌∙◌, ap, append-nil}
use Rattle.std.specs.Option.{MatchOption}
use Rattle.ansi_cells.specs.Shown.{between_blanks}
use Rattle.ansi_text_calls.specs.Answers.{IsWritten}
use Rattle.ansi_calls.proofs.columns.pad_at_once.Goals as goal

pub returns : goal.returns
returns c =
    let written = λ (u : List ℕ). MatchOption c.write_bare.result (c.write_bare.new.buffer ≡ c.args.buffer.now) (λ answer. IsWritten u answer c.args.buffer.now c.write_bare.new.buffer) in
    subst written (ap (between_blanks c.in_ok-missing.missing c.args.alignment) (append-nil c.args.text.now) ∙ c.in_ok-missing.ensures c.args.alignment) c.write_bare.ensures

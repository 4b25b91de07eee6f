use Rattle.ansi_style.proofs.Common.{◌≡◌, ◌≢◌, ℕ, ◌<◌, fold, take, get_or, byte, with_digit}
use Rattle.ansi_style.proofs.state.fields.any_field.Given as goal

-- no semicolon so far, and the digits so far are read
abbrev pub invariant-loop-i : goal.invariant-loop-i
invariant-loop-i l = record {
  number : l.number.0 ≡ fold with_digit 0 (take l.i l.parameters);
  none : (k : ℕ) → k < l.i → get_or l.parameters k 0 ≢ byte ";";
}

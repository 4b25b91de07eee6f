use Rattle.ansi_split.proofs.Common.{List, ℕ, length, subst, escape, IsFirst, Passes, is_byte}
use Rattle.ansi_split.proofs.RestLemmas.{run_ends, run_is_plain}
use Rattle.ansi_split.proofs.split.rest.Rest.new.Goals as goal

-- up to the first ESC
pub invariant_of-result : goal.invariant_of-result
invariant_of-result c =
    let t = c.args.text.now in
    let found = c.memchr.result in
    let first : IsFirst (Passes (is_byte escape) t) 0 (length t) found = subst (λ (v : List ℕ). IsFirst (Passes (is_byte escape) v) 0 (length v) found) c.as_bytes.ensures.value c.memchr.ensures in
    record { run_ends = rw c.unwrap_or-run_len.ensures (run_ends t found first); run_is_plain = rw c.unwrap_or-run_len.ensures (run_is_plain t found first) }

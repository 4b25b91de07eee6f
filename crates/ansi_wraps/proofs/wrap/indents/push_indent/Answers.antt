use Rattle.std.proofs.Common.{◌≡◌, List, ℕ, ◌++◌, Result, Ok, Err, OnOk, string_bytes, ◌∙◌, ap}
use Rattle.std.specs.Prelude.{if◌then◌else◌}
use Rattle.std.specs.Result.{is_ok}
use Rattle.ansi_wraps.proofs.wrap.indents.push_indent.Goals as goal

OnOk-pushed : {U E : Type 0} (old new more all : List ℕ) (r : Result U E) → new ≡ (if is_ok r then more else old) → more ≡ all → OnOk r (new ≡ all)
OnOk-pushed old new more all (Ok u) is same = is ∙ same
OnOk-pushed old new more all (Err e) is same = tt

pub returns-clause-bytes : goal.returns-clause-bytes
returns-clause-bytes g c =
    OnOk-pushed _ _ _ _ c.push_str.result c.push_str.ensures.bytes
    (ap (λ u. string_bytes c.args.out.now ++ u) (c.as_str.ensures.value ∙ c.in_ok-shown.ensures.bytes))

use Rattle.std.proofs.Common.{length, ◌&&◌, ◌==◌, IsTrue, IsOk}
use Rattle.std.proofs.lemmas.Bool.{and_parts, eqb-true}
use Rattle.std.proofs.lemmas.List.{nil_from_length}
use Rattle.ansi_safe.specs.Links.{ending}
use Rattle.ansi_safe.specs.Safe.{is_safe}
use Rattle.ansi_text_calls.specs.Answers.{no}
use Rattle.ansi_text_calls.specs.Safe.{GivesSanitized}
use Rattle.ansi_text_calls.proofs.Utf8Lemmas.{Gives-text}
use Rattle.ansi_text_calls.proofs.safe.sanitize_text.Goals as goal

-- a safe text with nothing open is written without an allocation
pub returns : goal.returns
unfolding GivesSanitized
returns g c =
    let t = c.args.text.now in
    let fits : IsTrue (is_safe c.args.policy.links t && length (ending t) == 0) → IsOk c.sanitize.result
    = λ both.
    let parts = and_parts (is_safe c.args.policy.links t) (length (ending t) == 0) both in
    c.sanitize.ensures.takes_no_memory (parts.0, nil_from_length _ (eqb-true _ 0 parts.1)) in
    Gives-text no _ _ c.sanitize.result _ _ _ c.sanitize.ensures.bytes fits c.write_text.ensures

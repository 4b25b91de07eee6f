use Rattle.std.proofs.Common.{◌≡◌, ◌++◌, ◌∙◌, ap₂}
use Rattle.std.proofs.lemmas.Bool.Decides.{Decides-eqb}
use Rattle.std.proofs.lemmas.Slice.Eq.{slice_eq-Decides, strip_prefix_is}
use Rattle.ansi_view_runs.proofs.runs.are_text_and_end.Goals as goal

pub returns-in-Some : goal.returns-in-Some
returns-in-Some c same =
    let bytes = c.args.bytes.now in
    let text = c.as_bytes.result.now in
    let split : bytes ≡ text ++ c.in-Some.rest.now = rw c.in-Some.is at (strip_prefix_is Decides-eqb bytes text c.strip_prefix.result c.strip_prefix.ensures.cases) in
    let rest : c.in-Some.rest.now ≡ c.as_bytes-in-Some.result.now = (slice_eq-Decides Decides-eqb _ _ _ c.eq.ensures).0 same in
    split ∙ ap₂ (λ t e. t ++ e) c.as_bytes.ensures.value (rest ∙ c.as_bytes-in-Some.ensures.value)

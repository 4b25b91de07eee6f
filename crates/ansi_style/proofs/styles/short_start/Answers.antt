use Rattle.std.proofs.Common.{ap, ◌∙◌, ◌++◌}
use Rattle.std.proofs.lemmas.Fmt.{contents_after_writes}
use Rattle.ansi_style.specs.Written.{start}
use Rattle.ansi_style.specs.States.{rendition_of}
use Rattle.ansi_style.proofs.styles.short_start.Goals as goal

-- each write appends
pub returns-in-Ok : goal.returns-in-Ok
returns-in-Ok c =
    contents_after_writes _ (λ s. s.bytes) (λ s bs t call. call) _ _ _ (c.write_start.ensures.wrote (search))
    ∙ ap (λ b. b ++ start (rendition_of c.args.style.now)) c.new-start.ensures

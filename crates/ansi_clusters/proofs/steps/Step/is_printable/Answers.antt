use Rattle.ansi_clusters.proofs.StepLemmas.{step-printable}
use Rattle.ansi_clusters.proofs.steps.Step.is_printable.Goals as goal

pub returns : goal.returns
returns c t is = step-printable t c.args.self is

use Rattle.std.proofs.Common.{◌∷◌, [], sym, ◌∙◌, ap}
use Rattle.ansi_clusters.proofs.walks.breaks_after_ascii.Goals as goal

pub returns : goal.returns
returns c holds = record {
  seen = c.in-Some.ensures ∙ ap (λ d. d ∷ []) c.if-seen-c.false;
  breaks = λ before rest some state. sym (c.ends_before.ensures before rest some (c.start.ensures ∙ state)) ∙ holds;
}

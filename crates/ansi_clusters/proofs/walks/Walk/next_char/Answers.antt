use Rattle.std.proofs.Common.{◌≡◌, ◌∙◌}
use Rattle.ansi_clusters.proofs.WalkLemmas.{next-of}
use Rattle.ansi_clusters.proofs.walks.Walk.next_char.Goals as goal

pub returns : goal.returns
returns c =
    next-of c.args.text.now c.utf8.text c.args.self c.requires.1 c.next.result c.chars.result.rest.now c.next.new.self.rest.now (c.next.new.self ≡ c.chars.result)
    (c.chars.ensures.rest ∙ c.range.ensures.value) c.next.ensures.steps.0

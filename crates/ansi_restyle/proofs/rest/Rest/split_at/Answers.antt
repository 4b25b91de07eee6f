use Rattle.std.proofs.lemmas.Bool.{or_parts}
use Rattle.ansi_style.specs.States.{rendition_of}
use Rattle.ansi_restyle.proofs.RestLemmas.{style_in_run, if_some}
use Rattle.ansi_restyle.proofs.rest.Rest.split_at.Goals as goal

-- nothing in the run changes the style
pub returns-then-position-self-clause-style : goal.returns-then-position-self-clause-style
returns-then-position-self-clause-style c =
    let s = c.args.self.now in
    if_some c.divide_run.result (style_in_run (rendition_of c.args.style.now) s.text.now s.run_len c.args.position s.run_ends.0 s.run_is_plain c.if-position-self.true)

-- past the run no good position is refused
pub returns-in_default-clause-divided : goal.returns-in_default-clause-divided
returns-in_default-clause-divided c = (or_parts _ _ c.in_default.ensures.offset).1

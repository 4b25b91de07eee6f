use Rattle.std.specs.Cow.{cow_str_bytes}
use Rattle.ansi_wraps.proofs.wrap.AnsiWrap.finish.Goals as goal

pub invariant_of-self : goal.invariant_of-self
invariant_of-self g c = record { spans = c.finish.ensures.spans (cow_str_bytes c.self.inside.text); some = λ failed. absurd (cc failed) }

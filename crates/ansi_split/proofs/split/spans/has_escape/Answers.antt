use Rattle.ansi_split.proofs.Common.{◌≡◌, ℕ, List, false, sym, ◌∙◌, has_escape, escape, is_byte, is_some, Option, Some, None}
use Rattle.memchr.specs.Find.{IsFirstByte}
use Rattle.ansi_search.proofs.MatchLemmas.{no_escape-found}
use Rattle.ansi_split.proofs.split.spans.has_escape.Goals as goal

none_found : (w : List ℕ) (r : Option ℕ) → is_some r ≡ false → IsFirstByte (is_byte escape) w r → has_escape w ≡ false
none_found w None none first = no_escape-found w first
none_found w (Some n) none first = absurd (cc none)

pub returns-in_default : goal.returns-in_default
returns-in_default c = λ no. none_found _ _ (sym c.is_some.ensures ∙ no) c.memchr.ensures

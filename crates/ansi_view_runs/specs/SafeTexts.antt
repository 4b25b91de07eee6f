-- Texts that a terminal may be given.
use Rattle.std.specs.Prelude.{List, ℕ, IsTrue}
use Rattle.std.specs.Str.{IsUtf8}
use Rattle.ansi_safe.specs.declared.policy.Links.TheVariants.{Keep}
use Rattle.ansi_safe.specs.Links.{IsClosed}
use Rattle.ansi_safe.specs.Safe.{is_safe}

-- a text is UTF-8 and safe, and no style and no link is open at its end (own)
pub record IsSafeText (t : List ℕ) : Type 0 where
  pub utf8 : IsUtf8 t
  pub safe : IsTrue (is_safe Keep t)
  pub closed : IsClosed t

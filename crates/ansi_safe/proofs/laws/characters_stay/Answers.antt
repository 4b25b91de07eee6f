use Rattle.ansi_safe.proofs.CharacterLemmas.{sanitized-characters}
use Rattle.ansi_safe.proofs.laws.characters_stay.Goals as goal

pub returns : goal.returns
returns c = sanitized-characters

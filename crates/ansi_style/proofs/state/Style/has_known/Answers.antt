use Rattle.ansi_style.proofs.Common.{or_assoc, or-false, rendition_of}
use Rattle.ansi_style.proofs.BitsLemmas.{has_one-places}
use Rattle.ansi_style.proofs.state.Style.has_known.Goals as goal

pub returns : goal.returns
unfolding rendition_of
returns c =
    rw (c.is_some.ensures, c.is_some-2.ensures, c.is_some-3.ensures, c.has_font.ensures, c.intersects.ensures) (simp (has_one-places, or_assoc, or-false))

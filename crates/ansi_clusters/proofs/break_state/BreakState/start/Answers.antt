use Rattle.unicode_segmentation.specs.Grapheme.{ends_in_linker, ends_in_pictograph, ends_in_half_flag}
use Rattle.ansi_clusters.proofs.break_state.BreakState.start.Goals as goal

pub returns : goal.returns
unfolding ends_in_linker ends_in_pictograph ends_in_half_flag
returns c = c.of.ensures

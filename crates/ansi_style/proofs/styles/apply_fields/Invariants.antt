use Rattle.ansi_style.proofs.Common.{◌≡◌, length, rendition_of}
use Rattle.ansi_style.proofs.StateLemmas.{after_fields}
use Rattle.ansi_style.proofs.styles.apply_fields.Given as goal

-- the fields that are left lead from the style so far to the style after all
abbrev pub invariant-loop-field : goal.invariant-loop-field
invariant-loop-field l = after_fields (rendition_of l.style) l.fields ≡ after_fields (rendition_of l.initial.style) l.initial.fields

abbrev pub decreases-loop-field : goal.decreases-loop-field
decreases-loop-field l = length l.fields

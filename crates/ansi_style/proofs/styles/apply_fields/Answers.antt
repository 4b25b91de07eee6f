use Rattle.ansi_style.proofs.Common.{◌∙◌, [], Some, fields_of, rendition_of}
use Rattle.ansi_style.proofs.StateLemmas.{after_fields-code}
use Rattle.ansi_style.proofs.styles.apply_fields.Goals as goal

-- a step reads the field that was next, and leaves fewer
pub loop-field-smaller : goal.loop-field-smaller
loop-field-smaller c = (after_fields-code (rendition_of c.loop-field.style) _ c.loop-field.fields _ _ _ c.in-Some-next_field.ensures c.step.ensures).1

pub loop-field-preserved : goal.loop-field-preserved
loop-field-preserved c = (after_fields-code (rendition_of c.loop-field.style) _ c.loop-field.fields _ _ _ c.in-Some-next_field.ensures c.step.ensures).0 ∙ c.loop-field.invariant

-- a color alone is all that the fields are
pub returns : goal.returns
returns c = (after_fields-code (rendition_of c.args.style.now) _ (fields_of c.args.parameters.now) _ [] (Some c.in-Some.code) c.in-Some.ensures.first (c.put_color.ensures _ _ c.in-Some-lone_color.ensures.read)).0

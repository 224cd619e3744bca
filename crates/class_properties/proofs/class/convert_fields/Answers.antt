use Rattle.class_properties.proofs.Mapped.{lowered_next}
use Rattle.class_properties.specs.Form.{IsField}
use Rattle.class_properties.specs.Lowering.{definition}
use Rattle.class_properties.proofs.class.convert_fields.Goals as goal

pub loop-field-preserved : goal.loop-field-preserved
loop-field-preserved c = lowered_next definition IsField c.args.fields _ _ _ _ _ _ c.loop-field.invariant c.in-Some.ensures.steps.0 c.in_ok-push.ensures.ok c.in_ok-convert_instance_property.ensures

use Rattle.class_properties.proofs.Mapped.{IsLoweredUpTo}
use Rattle.class_properties.specs.Form.{IsField}
use Rattle.class_properties.specs.Lowering.{definition}
use Rattle.class_properties.proofs.class.convert_fields.Given as goal

abbrev pub invariant-loop-field : goal.invariant-loop-field
invariant-loop-field l = IsLoweredUpTo definition IsField l.fn.fields l.field-iterator.rest.items l.statements

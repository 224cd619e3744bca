-- What properties and new operations in code are.
use Rattle.es_codes.specs.CodeView.{code_of, codes_of}
use Rattle.es_codes.specs.View.{operation_of}
use Rattle.es_steps.specs.Code.{Code, Codes}
use Rattle.es_steps.specs.Events.{Operation}
use Rattle.es_code_new_literals.specs.declared.operation.NewOperation.{NewOperation}
use Rattle.es_code_new_literals.specs.declared.operation.NewOperationRef.{NewOperationRef}
use Rattle.es_code_new_literals.specs.declared.property.Property.{Property}

-- the key and the value
abbrev pub property_of : Property → Code × Code
property_of p = (code_of p.key, code_of p.value)

-- the operation and its operands
abbrev pub operation_in : NewOperation → Operation × Codes
operation_in o = (operation_of o.operation, codes_of o.operands)

abbrev pub operation_seen : NewOperationRef → Operation × Codes
operation_seen o = (operation_of o.operation.now, codes_of o.operands.now)

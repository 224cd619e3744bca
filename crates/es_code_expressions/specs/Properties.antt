-- What stands in a property of an object: its key, and what is beside it.
use Rattle.std.specs.Prelude.{List, [], ◌∷◌, Bool, true, false}
use Rattle.es_steps.specs.Code.{Code, Codes, key_of, done, one}
use Rattle.es_steps.specs.Events.{Detail, Operand, Spelled, Flag}
use Rattle.es_steps.specs.Values.{String}

-- what stands behind the key
abbrev pub value_details : String → Bool → List Detail
value_details kind is_method = Operand ∷ Spelled kind ∷ Flag is_method ∷ []

-- a key that is an operand is converted
abbrev pub converted_operands : Bool → Code → Codes
converted_operands true k = one (key_of k)
converted_operands false k = done

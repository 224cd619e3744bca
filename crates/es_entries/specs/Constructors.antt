-- The constructor that the source of a class has, if it has one.
use Rattle.std.specs.Prelude.{Bool, true, false, Option, Some, None, option_map}
use Rattle.es_codes.specs.CodeView.{codes_of, form_of}
use Rattle.es_steps.specs.Code as of
use Rattle.es_steps.specs.Entries.{plain_form}
use Rattle.es_entries.specs.declared.constructor.Constructor.{Constructor}

-- its form and its parameters
abbrev pub constructor_in : Option Constructor → Option (of.FunctionForm × of.Codes)
constructor_in c = option_map (λ x. (form_of x.form, codes_of x.parameters.now)) c

abbrev pub function_in : of.Code → Option (of.FunctionForm × of.Codes)
function_in (of.function f form own_name ps body) = Some (form, ps)
function_in c = None

abbrev pub constructor_at : of.Code → Option (of.FunctionForm × of.Codes)
constructor_at (of.constructor f) = function_in f
constructor_at c = None

abbrev pub is_constructor : of.Code → Bool
is_constructor (of.constructor f) = true
is_constructor c = false

abbrev pub form_in : Option (of.FunctionForm × of.Codes) → of.FunctionForm
form_in None = plain_form
form_in (Some c) = c.0

abbrev pub parameter_codes_in : Option (of.FunctionForm × of.Codes) → of.Codes
parameter_codes_in None = of.done
parameter_codes_in (Some c) = c.1

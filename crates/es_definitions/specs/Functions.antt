-- What a generated name defines that is given a function, and what it is of a private member.
use Rattle.std.specs.Prelude.{ℕ, List, []}
use Rattle.es_base.specs.declared.ledger.GeneratedKind.{GeneratedKind}
use Rattle.es_steps.specs.Code.{Code, new_function}
use Rattle.es_steps.specs.Meaning.{function_of}
use Rattle.es_steps.specs.Opening.{Definition, function_definition}
use Rattle.es_steps.specs.Values.{String}

abbrev pub defined_as : String → GeneratedKind → Code → List Definition
defined_as s g (new_function f form ps body) = function_definition s g form ps body
defined_as s g c = []

-- the function of a private member that a name is given which was generated like this
abbrev pub private_function_as : GeneratedKind → Code → List (ℕ × ℕ)
private_function_as (GeneratedKind.Method d) f = function_of d.0 f
private_function_as g f = []

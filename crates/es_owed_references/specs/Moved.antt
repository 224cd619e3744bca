-- Functions of generated names in code, as definitions see them.
use Rattle.std.specs.Prelude.{ℕ, List, map}
use Rattle.std.specs.Str.{chars}
use Rattle.std.proofs.Common.{Bor}
use Rattle.es_lowered.specs.ClassNames as spec
use Rattle.es_steps.specs.Values.{String}
use Rattle.es_owed_references.specs.declared.moved.MovedFunction.{MovedFunction}

abbrev pub function_of : MovedFunction → spec.MovedFunction
function_of f = record { name = chars f.name.now; numbers = f.numbers.items }

abbrev pub functions_of : List MovedFunction → List spec.MovedFunction
functions_of fs = map function_of fs

abbrev pub names_of : List (Bor (List ℕ)) → List String
names_of ss = map (λ s. chars s.now) ss

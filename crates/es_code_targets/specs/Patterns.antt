-- One element of an array pattern.
use Rattle.std.specs.Prelude.{ℕ, [], ◌∷◌}
use Rattle.es_steps.specs.Code.{Code, operation, done}
use Rattle.es_steps.specs.Events.{Operation, Empty, Index, Take}
use Rattle.es_steps.specs.Members.{Member, code}
use Rattle.es_steps.specs.Statements.{taken_element}

abbrev pub hole : ℕ → Operation
hole i = Take (Index i ∷ Empty ∷ [])

abbrev pub taken_item : ℕ → ℕ → Member → Code
taken_item m i (code c) = taken_element m i c
taken_item m i p = operation m (hole i) done done

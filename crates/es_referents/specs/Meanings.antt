-- What references mean, as code has it.
use Rattle.std.specs.Prelude.{ℕ, List, [], ◌∷◌, ◌++◌, Bool, false, cond, ◌||◌, nat_eq, Option, Some, None}
use Rattle.es_references.specs.References.{reference_of}
use Rattle.es_references.specs.declared.references.Reference.{Reference}
use Rattle.es_steps.specs.Values.{Referent}

abbrev pub referent_in : Option Reference → Option Referent
referent_in None = None
referent_in (Some r) = Some (reference_of r).to

-- those of a number
abbrev pub of_number : ℕ → List Reference → List Reference
of_number m [] = []
of_number m (r ∷ rs) = cond (nat_eq m r.node.0) (r ∷ []) [] ++ of_number m rs

abbrev pub first_of : List Reference → Option Reference
first_of [] = None
first_of (r ∷ rs) = Some r

abbrev pub any_writes : List Reference → Bool
any_writes [] = false
any_writes (r ∷ rs) = r.writes || any_writes rs

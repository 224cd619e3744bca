-- Names of a scope by their spelling.
use Rattle.std.specs.Prelude.{ℕ, List, [], ◌∷◌, cond, bytes_eq, map, Option, Some, None}
use Rattle.es_base.specs.declared.ids.NodeId.{NodeId}
use Rattle.es_steps.specs.Scopes.{Declaration}
use Rattle.es_steps.specs.Values.{String, Referent, Bound, Free}

-- the number of the first of this spelling
abbrev pub first_number : String → List Declaration → Option ℕ
first_number s [] = None
first_number s (d ∷ ds) = cond (bytes_eq s d.spelling) (Some d.number) (first_number s ds)

abbrev pub if_spelled : String → String → ℕ → Option ℕ
if_spelled s name n = cond (bytes_eq s name) (Some n) None

abbrev pub or_else : Option ℕ → Option ℕ → Option ℕ
or_else None o = o
or_else (Some n) o = Some n

-- ---- what is meant, as code has it

abbrev pub node_id : ℕ → NodeId
node_id n = record { 0 = n }

abbrev pub ids : List NodeId → List ℕ
ids ns = map (λ x. x.0) ns

abbrev pub binding_of : Referent → Option NodeId
binding_of (Bound b) = Some (node_id b)
binding_of (Free s) = None

-- The first of each name.
use Rattle.std.proofs.Common.{◌≡◌, refl, List, [], ◌∷◌, Bool, true, false, cond, bytes_eq, Some, option_map}
use Rattle.es_steps.specs.References.{declared, referent}
use Rattle.es_steps.specs.Scopes.{Declaration}
use Rattle.es_steps.specs.Values.{String}
use Rattle.es_references.specs.Frames.{binding_of, node_id, first_number}

pub bound_number : (s : String) (ds : List Declaration) → binding_of (referent s (declared s ds)) ≡ option_map node_id (first_number s ds)
bound_number s [] = refl
bound_number s (d ∷ ds) = here (bytes_eq s d.spelling) (bound_number s ds)
  where
    here : (b : Bool) → binding_of (referent s (declared s ds)) ≡ option_map node_id (first_number s ds)
        → binding_of (referent s (cond b (Some d) (declared s ds))) ≡ option_map node_id (cond b (Some d.number) (first_number s ds))
    here true h = refl
    here false h = h

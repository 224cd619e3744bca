-- What references mean, by their numbers.
use Rattle.std.specs.Prelude.{ℕ, List, [], ◌∷◌, cond, nat_eq, option_map, Option, Some, None}
use Rattle.es_base.specs.declared.ids.NodeId.{NodeId}
use Rattle.es_references.specs.declared.references.Reference.{Reference}

abbrev pub number_of : Option NodeId → Option ℕ
number_of b = option_map (λ n. n.0) b

-- of the first of this number
abbrev pub binding_in : ℕ → List (ℕ × Option ℕ) → Option ℕ
binding_in m [] = None
binding_in m (e ∷ es) = cond (nat_eq m e.0) e.1 (binding_in m es)

abbrev pub first_binding : ℕ → List Reference → Option ℕ
first_binding m [] = None
first_binding m (r ∷ rs) = cond (nat_eq m r.node.0) (number_of r.binding) (first_binding m rs)

-- the value of a key in a map of optional values
abbrev pub flat : Option (Option ℕ) → Option ℕ
flat None = None
flat (Some b) = b

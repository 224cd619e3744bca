-- Which declarations repeat a name, by the least number of each name; and what code has collected.
use Rattle.std.specs.Prelude.{ℕ, List, [], ◌∷◌, filter, map, Bool, false, cond, nat_lt, bytes_eq, Option, Some, None}
use Rattle.es_base.specs.Tree.{Tree, Node}
use Rattle.es_base.specs.declared.ids.NodeId.{NodeId}
use Rattle.es_steps.specs.References.{has_number}
use Rattle.es_steps.specs.Scopes.{Declaration, scope_form}
use Rattle.es_validity.specs.Facts.{counted, not_among, repeats}
use Rattle.es_binding_faults.specs.Leasts.{lesser}

abbrev pub numbers : List NodeId → List ℕ
numbers ns = map (λ n. n.0) ns

-- the least number of declarations of this name, and of one that is known before
abbrev pub least_from : List ℕ → Option ℕ → List Declaration → Option ℕ
least_from s o [] = o
least_from s o (d ∷ ds) = least_from s (cond (bytes_eq s d.spelling) (Some (lesser o d.number)) o) ds

abbrev pub is_below : Option ℕ → ℕ → Bool
is_below None n = false
is_below (Some m) n = nat_lt m n

abbrev pub is_lexical : List ℕ → Declaration → Bool
is_lexical lexical d = has_number d.number lexical

-- those that are repeated in the scope of a node
abbrev pub repeats_in : List ℕ → List ℕ → Tree → List ℕ
repeats_in lexical branches (Node kind m span semantic_id ps) = repeats lexical (filter (not_among branches) (counted (scope_form kind) m ps))

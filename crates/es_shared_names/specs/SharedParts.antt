-- Shared bindings, part by part.
use Rattle.std.specs.Prelude.{ℕ, ◌+◌, List, [], ◌++◌, Bool}
use Rattle.es_base.specs.Tree.{Parts, end, more}
use Rattle.es_base.specs.declared.kind.Kind.{Kind}
use Rattle.es_steps.specs.Scopes.{scope_names, scope_of}
use Rattle.es_steps.specs.Shared.{caught_names, hoisted_past, shared_at, shared_behind}

-- those among the names of one node
abbrev pub shared_here : Bool → Kind → ℕ → Parts → List (ℕ × ℕ)
shared_here is_body kind m ps = shared_behind [] (scope_names (scope_of kind is_body) m ps) ++ (shared_behind [] (caught_names kind ps) ++ hoisted_past is_body kind ps)

-- those of the parts from the i-th on
abbrev pub shared_from : (ℕ → Bool) → ℕ → Parts → List (ℕ × ℕ)
shared_from bodies i end = []
shared_from bodies i (more p ps) = shared_at (bodies i) p ++ shared_from bodies (i + 1) ps

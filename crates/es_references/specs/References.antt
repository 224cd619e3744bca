-- References in code, as definitions see them.
use Rattle.std.specs.Prelude.{ℕ, ◌+◌, List, [], ◌∷◌, ◌++◌, Bool, false, cond, map, Option, Some, None}
use Rattle.std.specs.Str.{chars}
use Rattle.es_base.specs.Table.{Field, members_of}
use Rattle.es_base.specs.Tree.{Tree, Part, Parts, Node, end, more, child, list}
use Rattle.es_base.specs.declared.ids.NodeId.{NodeId}
use Rattle.es_base.specs.declared.kind.Kind.{Kind}
use Rattle.es_binding_faults.specs.Named.{named, plain}
use Rattle.es_references.specs.declared.references.Reference.{Reference}
use Rattle.es_references.specs.declared.references.Scope as scope
use Rattle.es_references.specs.declared.references.Scope.{Scope}
use Rattle.es_steps.specs.Parts.{at, string_of}
use Rattle.es_steps.specs.References as spec
use Rattle.es_steps.specs.References.{declared, referent, is_reference, is_target}
use Rattle.es_steps.specs.Scopes.{Declaration, names_at, is_body_part}
use Rattle.es_steps.specs.Values.{String, Referent, Bound, Free}

abbrev pub referent_of : String → Option NodeId → Referent
referent_of s None = Free s
referent_of s (Some b) = Bound b.0

abbrev pub reference_of : Reference → spec.Reference
reference_of r = record { number = r.node.0; spelling = chars r.name.now; to = referent_of (chars r.name.now) r.binding; writes = r.writes }

abbrev pub references_of : List Reference → List spec.Reference
references_of rs = map reference_of rs

-- the names that are seen, the nearest first
abbrev pub names_in : Scope → List Declaration
names_in scope.Outside = []
names_in (scope.Inside' frame at outer) = named frame.now.names.items ++ names_in outer

abbrev pub meaning : List Declaration → Bool → ℕ → String → spec.Reference
meaning names target m s = record { number = m; spelling = s; to = referent s (declared s names); writes = target }

-- what the i-th part of a node sees
abbrev pub names_inside : List Declaration → Bool → Kind → Parts → ℕ → List Declaration
names_inside names is_body kind ps i = plain (names_at is_body kind 0 ps i) ++ names

-- the references of a tree, where these names are seen, without the classes that names may name: whether it stands where something
-- is assigned to, and whether it is the body of a function
abbrev mutual
  pub meant_in : List Declaration → Bool → Bool → Tree → List spec.Reference
  meant_in names target is_body (Node kind m span semantic_id ps) = cond (is_reference kind) (meaning names target m (string_of (at 0 ps)) ∷ []) (meant_from (names_inside names is_body kind ps) (is_body_part kind) 0 (members_of kind) ps)

  -- of the parts from the i-th on, which have these members
  pub meant_from : (ℕ → List Declaration) → (ℕ → Bool) → ℕ → List Field → Parts → List spec.Reference
  meant_from names bodies i fs end = []
  meant_from names bodies i [] (more p ps) = []
  meant_from names bodies i (f ∷ fs) (more p ps) = meant_at (names i) (is_target f.sort) (bodies i) p ++ meant_from names bodies (i + 1) fs ps

  pub meant_at : List Declaration → Bool → Bool → Part → List spec.Reference
  meant_at names target is_body (child t) = meant_in names target is_body t
  meant_at names target is_body (list ps) = meant_of names target ps
  meant_at names target is_body p = []

  pub meant_of : List Declaration → Bool → Parts → List spec.Reference
  meant_of names target end = []
  meant_of names target (more p ps) = meant_at names target false p ++ meant_of names target ps

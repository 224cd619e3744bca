-- The scopes of a tree that stand in no other scope of it.
use Rattle.std.specs.Prelude.{ℕ, List, [], ◌∷◌, ◌++◌, cond, Option, Some, None}
use Rattle.es_base.specs.Tree.{Tree, Part, Parts, Node, end, more, child, list}
use Rattle.es_base.specs.declared.ids.ScopeId.{ScopeId}
use Rattle.es_base.specs.declared.kind.Kind.{Kind}
use Rattle.es_scopes.specs.NodeScopes.{has_scope}

abbrev pub own_scope : Kind → Option ℕ → Option ℕ
own_scope kind id = cond (has_scope kind) id None

-- the scope of a node with those that stand outside it, or, where it has none, those below
abbrev pub own_or_below : Option ℕ → List ScopeId → List ScopeId → List ScopeId
own_or_below (Some s) outside below = record { 0 = s } ∷ outside
own_or_below None outside below = below

abbrev mutual
  pub first_scopes : Tree → List ScopeId
  first_scopes (Node kind m span id ps) = own_or_below (own_scope kind id) (outside_scopes kind ps) (scopes_in ps)

  -- the discriminant of a `switch` stands outside its scope
  pub outside_scopes : Kind → Parts → List ScopeId
  outside_scopes Kind.SwitchStatement (more p ps) = part_scopes p
  outside_scopes kind ps = []

  pub scopes_in : Parts → List ScopeId
  scopes_in end = []
  scopes_in (more p ps) = part_scopes p ++ scopes_in ps

  pub part_scopes : Part → List ScopeId
  part_scopes (child t) = first_scopes t
  part_scopes (list all) = scopes_in all
  part_scopes p = []

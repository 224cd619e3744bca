-- The nodes of a tree that have a scope, in preorder.
use Rattle.std.specs.Prelude.{ℕ, suc, List, [], ◌∷◌, ◌++◌, Bool, false, cond, None}
use Rattle.es_base.specs.Tree.{Tree, Part, Parts, Node, end, more, child, absent, list, string, no_string, boolean, literal}
use Rattle.es_base.specs.declared.kind.Kind.{Kind}
use Rattle.es_scopes.specs.NodeScopes.{opens, is_body_place}

-- a node has a scope, as the body of a function or not
abbrev pub opens_at : Kind → Bool → Bool
opens_at kind is_body = opens kind (record { around = None; strict = false; is_body = is_body; given = 0 })

abbrev mutual
  pub opened : Bool → Tree → List Tree
  opened is_body (Node kind m span id ps) = cond (opens_at kind is_body) (Node kind m span id ps ∷ []) [] ++ opened_parts (is_body_place kind) ps

  pub opened_parts : (ℕ → Bool) → Parts → List Tree
  opened_parts bodies end = []
  opened_parts bodies (more p ps) = opened_part (bodies 0) p ++ opened_parts (λ i. bodies (suc i)) ps

  pub opened_part : Bool → Part → List Tree
  opened_part is_body (child t) = opened is_body t
  opened_part is_body absent = []
  opened_part is_body (list ps) = opened_items is_body ps
  opened_part is_body (string s) = []
  opened_part is_body no_string = []
  opened_part is_body (boolean b) = []
  opened_part is_body (literal v) = []

  pub opened_items : Bool → Parts → List Tree
  opened_items is_body end = []
  opened_items is_body (more p ps) = opened_part is_body p ++ opened_items is_body ps

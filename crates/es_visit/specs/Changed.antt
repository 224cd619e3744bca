-- What becomes of a tree where the hooks that leave nodes change them as a function of the node, and those
-- that enter them answer as one.
use Rattle.std.specs.Prelude.{ℕ, ◌+◌, Bool, true, false, Option, Some, None}
use Rattle.es_base.specs.Table.{members_of}
use Rattle.es_base.specs.Tree.{Tree, Part, Parts, Node, end, more, child, absent, list, string, no_string, boolean, literal}
use Rattle.es_base.specs.declared.kind.Kind.{Kind}
use Rattle.es_visit.specs.Roles.{role_at, is_computed}
use Rattle.es_visit.specs.Visited.{hook_of_role, hook_of_kind}
use Rattle.es_visit.specs.declared.roles.Role.{Role}
use Rattle.es_visit.specs.declared.visit_mut.Hook.{Hook}

abbrev pub chosen : Bool → Tree → Tree → Tree
chosen true t u = t
chosen false t u = u

module _ (goes : Hook → Tree → Bool) (change : Hook → Tree → Tree) where
  -- a node around which a hook is called: u is what becomes of it before it is left
  abbrev pub around : Option Hook → Tree → Tree → Tree
  around (Some hook) t u = chosen (goes hook t) (change hook u) t
  around None t u = u

  abbrev mutual
    pub changed : Role → Tree → Tree
    changed role (Node k i sp si ps) = around (hook_of_role role k) (Node k i sp si ps) (around (hook_of_kind k) (Node k i sp si ps) (Node k i sp si (changed_below k (is_computed k ps) 0 ps)))

    pub changed_below : Kind → Bool → ℕ → Parts → Parts
    changed_below k computed at end = end
    changed_below k computed at (more p ps) = more (changed_part (role_at computed (members_of k) at) p) (changed_below k computed (at + 1) ps)

    pub changed_part : Role → Part → Part
    changed_part role (child t) = child (changed role t)
    changed_part role absent = absent
    changed_part role (list all) = list (changed_items role all)
    changed_part role (string s) = string s
    changed_part role no_string = no_string
    changed_part role (boolean b) = boolean b
    changed_part role (literal v) = literal v

    pub changed_items : Role → Parts → Parts
    changed_items role end = end
    changed_items role (more p ps) = more (changed_part role p) (changed_items role ps)

  -- what becomes of a node but for the hook of its place, and but for both its hooks
  abbrev pub changed_inside : Tree → Tree
  changed_inside (Node k i sp si ps) = Node k i sp si (changed_below k (is_computed k ps) 0 ps)

  abbrev pub changed_by_kind : Tree → Tree
  changed_by_kind (Node k i sp si ps) = around (hook_of_kind k) (Node k i sp si ps) (Node k i sp si (changed_below k (is_computed k ps) 0 ps))

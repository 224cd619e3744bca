-- A tree with semantic ids from a list, one for each node that may bear one, in preorder.
use Rattle.std.specs.Prelude.{ℕ, ◌+◌, List, cond, Option, slice_get, option_and_then}
use Rattle.es_base.specs.Preorder.{one_if}
use Rattle.es_base.specs.Tree.{Tree, Part, Parts, Node, end, more, child, absent, list, string, no_string, boolean, literal}
use Rattle.es_node.specs.Bearing.{bears_semantic_id}

-- how many nodes may bear one
abbrev mutual
  pub bearers : Tree → ℕ
  bearers (Node kind m span id ps) = one_if (bears_semantic_id kind) + bearers_of ps

  pub bearers_of_part : Part → ℕ
  bearers_of_part (child t) = bearers t
  bearers_of_part absent = 0
  bearers_of_part (list ps) = bearers_of ps
  bearers_of_part (string s) = 0
  bearers_of_part no_string = 0
  bearers_of_part (boolean b) = 0
  bearers_of_part (literal v) = 0

  pub bearers_of : Parts → ℕ
  bearers_of end = 0
  bearers_of (more p ps) = bearers_of_part p + bearers_of ps

abbrev pub id_at : List (Option ℕ) → ℕ → Option ℕ
id_at ids n = option_and_then (λ id. id) (slice_get ids n)

-- the tree with those from the n-th on
abbrev mutual
  pub written : List (Option ℕ) → ℕ → Tree → Tree
  written ids n (Node kind m span id ps) = Node kind m span (cond (bears_semantic_id kind) (id_at ids n) id) (written_parts ids (n + one_if (bears_semantic_id kind)) ps)

  pub written_part : List (Option ℕ) → ℕ → Part → Part
  written_part ids n (child t) = child (written ids n t)
  written_part ids n absent = absent
  written_part ids n (list ps) = list (written_parts ids n ps)
  written_part ids n (string s) = string s
  written_part ids n no_string = no_string
  written_part ids n (boolean b) = boolean b
  written_part ids n (literal v) = literal v

  pub written_parts : List (Option ℕ) → ℕ → Parts → Parts
  written_parts ids n end = end
  written_parts ids n (more p ps) = more (written_part ids n p) (written_parts ids (n + bearers_of_part p) ps)

-- Numbers on nodes are all that a tree with numbers written on it differs by.
use Rattle.std.proofs.Common.{◌≡◌, refl, ap, ℕ, ◌+◌, List, Option, None}
use Rattle.es_base.specs.Carried.{stripped, stripped_part, stripped_parts}
use Rattle.es_base.specs.Preorder.{one_if}
use Rattle.es_base.specs.Tree.{Tree, Part, Parts, Node, end, more, child, absent, list, string, no_string, boolean, literal}
use Rattle.es_node.specs.Bearing.{bears_semantic_id}
use Rattle.es_scopes_law.specs.Written.{written, written_part, written_parts, bearers_of_part}

mutual
  pub stripped-written : (ids : List (Option ℕ)) (n : ℕ) (t : Tree) → stripped (written ids n t) ≡ stripped t
  stripped-written ids n (Node kind m span id ps) = ap (Node kind m span None) (stripped-parts ids (n + one_if (bears_semantic_id kind)) ps)

  stripped-parts : (ids : List (Option ℕ)) (n : ℕ) (ps : Parts) → stripped_parts (written_parts ids n ps) ≡ stripped_parts ps
  stripped-parts ids n end = refl
  stripped-parts ids n (more p ps) = λ i. more (stripped-part ids n p i) (stripped-parts ids (n + bearers_of_part p) ps i)

  stripped-part : (ids : List (Option ℕ)) (n : ℕ) (p : Part) → stripped_part (written_part ids n p) ≡ stripped_part p
  stripped-part ids n (child t) = ap child (stripped-written ids n t)
  stripped-part ids n absent = refl
  stripped-part ids n (list ps) = ap list (stripped-parts ids n ps)
  stripped-part ids n (string s) = refl
  stripped-part ids n no_string = refl
  stripped-part ids n (boolean b) = refl
  stripped-part ids n (literal v) = refl

-- Printed by tools/tree.py from tools/kinds.py.
-- Patterns that declare, and patterns that are assigned to: the tree of each kind by its members (ESTree; the order of members is our own).
use Rattle.std.specs.Prelude.{ℕ, List, Bool, false, Option, None, codes}
use Rattle.es_base.specs.Tree.{Tree, Node, end, more, child, list, string, boolean, trees, nullable_trees}
use Rattle.es_base.specs.declared.kind.Kind.{Kind}

-- `{ properties }` that declares (ECMA-262, 14.3.3).
abbrev pub object_pattern : ℕ → Option (ℕ × ℕ) → List Tree → Tree
object_pattern node_id span properties =
    Node Kind.ObjectPattern node_id span None (more (list (trees properties)) end)

-- `key: value` in an object pattern that declares (ECMA-262, 14.3.3).
abbrev pub binding_property : ℕ → Option (ℕ × ℕ) → Tree → Tree → Bool → Bool → Tree
binding_property node_id span key value shorthand computed =
    Node Kind.BindingProperty node_id span None (more (child key) (more (child value)
    (more (string (codes "init")) (more (boolean false) (more (boolean shorthand)
    (more (boolean computed) end))))))

-- `[elements]` that declares (ECMA-262, 14.3.3).
abbrev pub array_pattern : ℕ → Option (ℕ × ℕ) → List (Option Tree) → Tree
array_pattern node_id span elements =
    Node Kind.ArrayPattern node_id span None (more (list (nullable_trees elements)) end)

-- `left = right` in a pattern that declares: a default value (ECMA-262, 14.3.3).
abbrev pub assignment_pattern : ℕ → Option (ℕ × ℕ) → Tree → Tree → Tree
assignment_pattern node_id span left right =
    Node Kind.AssignmentPattern node_id span None (more (child left) (more (child right) end))

-- `...argument` in a pattern that declares, or the last parameter (ECMA-262, 14.3.3 and 15.1).
abbrev pub rest_element : ℕ → Option (ℕ × ℕ) → Tree → Tree
rest_element node_id span argument =
    Node Kind.RestElement node_id span None (more (child argument) end)

-- `{ properties }` that is assigned to (ECMA-262, 13.15.5).
abbrev pub object_assignment_target : ℕ → Option (ℕ × ℕ) → List Tree → Tree
object_assignment_target node_id span properties =
    Node Kind.ObjectAssignmentTarget node_id span None (more (list (trees properties)) end)

-- `key: value` in an object pattern that is assigned to (ECMA-262, 13.15.5).
abbrev pub assignment_target_property : ℕ → Option (ℕ × ℕ) → Tree → Tree → Bool → Bool → Tree
assignment_target_property node_id span key value shorthand computed =
    Node Kind.AssignmentTargetProperty node_id span None (more (child key) (more (child value)
    (more (string (codes "init")) (more (boolean false) (more (boolean shorthand)
    (more (boolean computed) end))))))

-- `[elements]` that is assigned to (ECMA-262, 13.15.5).
abbrev pub array_assignment_target : ℕ → Option (ℕ × ℕ) → List (Option Tree) → Tree
array_assignment_target node_id span elements =
    Node Kind.ArrayAssignmentTarget node_id span None (more (list (nullable_trees elements)) end)

-- `left = right` in a pattern that is assigned to: a default value (ECMA-262, 13.15.5).
abbrev pub assignment_target_with_default : ℕ → Option (ℕ × ℕ) → Tree → Tree → Tree
assignment_target_with_default node_id span left right =
    Node Kind.AssignmentTargetWithDefault node_id span None (more (child left) (more (child right)
    end))

-- `...argument` in a pattern that is assigned to (ECMA-262, 13.15.5).
abbrev pub assignment_target_rest : ℕ → Option (ℕ × ℕ) → Tree → Tree
assignment_target_rest node_id span argument =
    Node Kind.AssignmentTargetRest node_id span None (more (child argument) end)

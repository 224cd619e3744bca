-- Printed by tools/tree.py from tools/kinds.py.
-- Functions: the tree of each kind by its members (ESTree; the order of members is our own).
use Rattle.std.specs.Prelude.{ℕ, List, Bool, Option}
use Rattle.es_base.specs.Tree.{Tree, Node, end, more, child, list, boolean, trees, nullable}
use Rattle.es_base.specs.declared.kind.Kind.{Kind}

-- A function that is no arrow, and the value of a method (ECMA-262, 15.2, 15.4 to 15.6 and 15.8).
abbrev pub function_declaration : ℕ → Option (ℕ × ℕ) → Option ℕ → Option Tree → List Tree → Tree
    → Bool → Bool → Tree
function_declaration node_id span scope_id id params body is_async generator =
    Node Kind.FunctionDeclaration node_id span scope_id (more (nullable id)
    (more (list (trees params)) (more (child body) (more (boolean is_async)
    (more (boolean generator) end)))))

-- A function that is no arrow, and the value of a method (ECMA-262, 15.2, 15.4 to 15.6 and 15.8).
abbrev pub function_expression : ℕ → Option (ℕ × ℕ) → Option ℕ → Option Tree → List Tree → Tree
    → Bool → Bool → Tree
function_expression node_id span scope_id id params body is_async generator =
    Node Kind.FunctionExpression node_id span scope_id (more (nullable id)
    (more (list (trees params)) (more (child body) (more (boolean is_async)
    (more (boolean generator) end)))))

-- `(params) => body` (ECMA-262, 15.3 and 15.9).
abbrev pub arrow_function_expression : ℕ → Option (ℕ × ℕ) → Option ℕ → List Tree → Tree → Bool
    → Tree
arrow_function_expression node_id span scope_id params body is_async =
    Node Kind.ArrowFunctionExpression node_id span scope_id (more (list (trees params))
    (more (child body) (more (boolean is_async) end)))

-- Printed by tools/tree.py from tools/kinds.py.
-- Classes and their elements: the tree of each kind by its members (ESTree; the order of members is our own).
use Rattle.std.specs.Prelude.{ℕ, List, Bool, Option, None}
use Rattle.es_base.specs.Tree.{Tree, Node, end, more, child, list, string, boolean, trees, nullable}
use Rattle.es_base.specs.Words.{method_definition_kind_string}
use Rattle.es_base.specs.declared.kind.Kind.{Kind}
use Rattle.es_base.specs.declared.operator.MethodDefinitionKind.{MethodDefinitionKind}

-- `class id extends superClass body` (ECMA-262, 15.7).
abbrev pub class_declaration : ℕ → Option (ℕ × ℕ) → Option ℕ → Option Tree → Option Tree → Tree
    → Tree
class_declaration node_id span scope_id id super_class body =
    Node Kind.ClassDeclaration node_id span scope_id (more (nullable id)
    (more (nullable super_class) (more (child body) end)))

-- `class id extends superClass body` (ECMA-262, 15.7).
abbrev pub class_expression : ℕ → Option (ℕ × ℕ) → Option ℕ → Option Tree → Option Tree → Tree
    → Tree
class_expression node_id span scope_id id super_class body =
    Node Kind.ClassExpression node_id span scope_id (more (nullable id) (more (nullable super_class)
    (more (child body) end)))

-- The elements of a class, in braces (ECMA-262, 15.7).
abbrev pub class_body : ℕ → Option (ℕ × ℕ) → List Tree → Tree
class_body node_id span body =
    Node Kind.ClassBody node_id span None (more (list (trees body)) end)

-- A method, an accessor or the constructor of a class (ECMA-262, 15.4 and 15.7).
abbrev pub method_definition : ℕ → Option (ℕ × ℕ) → Tree → Tree → MethodDefinitionKind → Bool → Bool
    → Tree
method_definition node_id span key value kind computed is_static =
    Node Kind.MethodDefinition node_id span None (more (child key) (more (child value)
    (more (string (method_definition_kind_string kind)) (more (boolean computed)
    (more (boolean is_static) end)))))

-- A field of a class (ECMA-262, 15.7, FieldDefinition).
abbrev pub property_definition : ℕ → Option (ℕ × ℕ) → Tree → Option Tree → Bool → Bool → Tree
property_definition node_id span key value computed is_static =
    Node Kind.PropertyDefinition node_id span None (more (child key) (more (nullable value)
    (more (boolean computed) (more (boolean is_static) end))))

-- `static { body }` (ECMA-262, 15.7, ClassStaticBlock).
abbrev pub static_block : ℕ → Option (ℕ × ℕ) → Option ℕ → List Tree → Tree
static_block node_id span scope_id body =
    Node Kind.StaticBlock node_id span scope_id (more (list (trees body)) end)

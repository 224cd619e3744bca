-- Printed by tools/tree.py from tools/kinds.py.
-- Expressions: the tree of each kind by its members (ESTree; the order of members is our own).
use Rattle.std.specs.Prelude.{ℕ, List, Bool, false, Option, None, codes}
use Rattle.es_base.specs.Tree.{Tree, Node, end, more, child, list, string, boolean, trees, nullable_trees, nullable, nullable_string}
use Rattle.es_base.specs.Words.{property_kind_string, unary_operator_string, update_operator_string, binary_operator_string, logical_operator_string, assignment_operator_string}
use Rattle.es_base.specs.declared.kind.Kind.{Kind}
use Rattle.es_base.specs.declared.operator.PropertyKind.{PropertyKind}
use Rattle.es_base.specs.declared.operator.UnaryOperator.{UnaryOperator}
use Rattle.es_base.specs.declared.operator.UpdateOperator.{UpdateOperator}
use Rattle.es_base.specs.declared.operator.BinaryOperator.{BinaryOperator}
use Rattle.es_base.specs.declared.operator.LogicalOperator.{LogicalOperator}
use Rattle.es_base.specs.declared.operator.AssignmentOperator.{AssignmentOperator}

-- `this` (ECMA-262, 13.2.1).
abbrev pub this_expression : ℕ → Option (ℕ × ℕ) → Tree
this_expression node_id span =
    Node Kind.ThisExpression node_id span None end

-- `super`, as an object or a callee (ECMA-262, 13.3.7).
abbrev pub super : ℕ → Option (ℕ × ℕ) → Tree
super node_id span =
    Node Kind.Super node_id span None end

-- `[elements]`, which may have holes (ECMA-262, 13.2.4).
abbrev pub array_expression : ℕ → Option (ℕ × ℕ) → List (Option Tree) → Tree
array_expression node_id span elements =
    Node Kind.ArrayExpression node_id span None (more (list (nullable_trees elements)) end)

-- `{ properties }` (ECMA-262, 13.2.5).
abbrev pub object_expression : ℕ → Option (ℕ × ℕ) → List Tree → Tree
object_expression node_id span properties =
    Node Kind.ObjectExpression node_id span None (more (list (trees properties)) end)

-- A property, a method or an accessor of an object literal (ECMA-262, 13.2.5).
abbrev pub property : ℕ → Option (ℕ × ℕ) → Tree → Tree → PropertyKind → Bool → Bool → Bool → Tree
property node_id span key value kind method shorthand computed =
    Node Kind.Property node_id span None (more (child key) (more (child value)
    (more (string (property_kind_string kind)) (more (boolean method) (more (boolean shorthand)
    (more (boolean computed) end))))))

-- `...argument` in an array, an object or a call (ECMA-262, 13.2.4, 13.2.5 and 13.3.8).
abbrev pub spread_element : ℕ → Option (ℕ × ℕ) → Tree → Tree
spread_element node_id span argument =
    Node Kind.SpreadElement node_id span None (more (child argument) end)

-- A template: its strings, and the expressions between them (ECMA-262, 13.2.8).
abbrev pub template_literal : ℕ → Option (ℕ × ℕ) → List Tree → List Tree → Tree
template_literal node_id span quasis expressions =
    Node Kind.TemplateLiteral node_id span None (more (list (trees quasis))
    (more (list (trees expressions)) end))

-- A string of a template; `cooked` is absent where an escape is not valid (ECMA-262, 12.8.6).
abbrev pub template_element : ℕ → Option (ℕ × ℕ) → List ℕ → Option (List ℕ) → Bool → Tree
template_element node_id span raw cooked tail =
    Node Kind.TemplateElement node_id span None (more (string raw) (more (nullable_string cooked)
    (more (boolean tail) end)))

-- `tag` before a template (ECMA-262, 13.3.11).
abbrev pub tagged_template_expression : ℕ → Option (ℕ × ℕ) → Tree → Tree → Tree
tagged_template_expression node_id span tag quasi =
    Node Kind.TaggedTemplateExpression node_id span None (more (child tag) (more (child quasi) end))

-- `object.property` or `object[property]` (ECMA-262, 13.3.2 and 13.3.9).
abbrev pub member_expression : ℕ → Option (ℕ × ℕ) → Tree → Tree → Bool → Bool → Tree
member_expression node_id span object property computed optional =
    Node Kind.MemberExpression node_id span None (more (child object) (more (child property)
    (more (boolean computed) (more (boolean optional) end))))

-- `object.#property` (ECMA-262, 13.3.2 and 13.3.9).
abbrev pub private_field : ℕ → Option (ℕ × ℕ) → Tree → Tree → Bool → Tree
private_field node_id span object property optional =
    Node Kind.PrivateField node_id span None (more (child object) (more (child property)
    (more (boolean false) (more (boolean optional) end))))

-- An operator before its operand (ECMA-262, 13.5).
abbrev pub unary_expression : ℕ → Option (ℕ × ℕ) → UnaryOperator → Tree → Tree
unary_expression node_id span operator argument =
    Node Kind.UnaryExpression node_id span None (more (string (unary_operator_string operator))
    (more (child argument) end))

-- `++` or `--`, before or after its target (ECMA-262, 13.4).
abbrev pub update_expression : ℕ → Option (ℕ × ℕ) → UpdateOperator → Tree → Bool → Tree
update_expression node_id span operator argument prefix =
    Node Kind.UpdateExpression node_id span None (more (string (update_operator_string operator))
    (more (child argument) (more (boolean prefix) end)))

-- An operator between two operands (ECMA-262, 13.6 to 13.12).
abbrev pub binary_expression : ℕ → Option (ℕ × ℕ) → BinaryOperator → Tree → Tree → Tree
binary_expression node_id span operator left right =
    Node Kind.BinaryExpression node_id span None (more (string (binary_operator_string operator))
    (more (child left) (more (child right) end)))

-- `#left in right` (ECMA-262, 13.10).
abbrev pub private_in : ℕ → Option (ℕ × ℕ) → Tree → Tree → Tree
private_in node_id span left right =
    Node Kind.PrivateIn node_id span None (more (string (codes "in")) (more (child left)
    (more (child right) end)))

-- `||`, `&&` or `??` between two operands (ECMA-262, 13.13).
abbrev pub logical_expression : ℕ → Option (ℕ × ℕ) → LogicalOperator → Tree → Tree → Tree
logical_expression node_id span operator left right =
    Node Kind.LogicalExpression node_id span None (more (string (logical_operator_string operator))
    (more (child left) (more (child right) end)))

-- `left = right`, or with another operator (ECMA-262, 13.15).
abbrev pub assignment_expression : ℕ → Option (ℕ × ℕ) → AssignmentOperator → Tree → Tree → Tree
assignment_expression node_id span operator left right =
    Node Kind.AssignmentExpression node_id span None
    (more (string (assignment_operator_string operator)) (more (child left) (more (child right)
    end)))

-- `test ? consequent : alternate` (ECMA-262, 13.14).
abbrev pub conditional_expression : ℕ → Option (ℕ × ℕ) → Tree → Tree → Tree → Tree
conditional_expression node_id span test consequent alternate =
    Node Kind.ConditionalExpression node_id span None (more (child test) (more (child consequent)
    (more (child alternate) end)))

-- `callee(arguments)` (ECMA-262, 13.3.6, 13.3.7 and 13.3.9).
abbrev pub call_expression : ℕ → Option (ℕ × ℕ) → Tree → List Tree → Bool → Tree
call_expression node_id span callee arguments optional =
    Node Kind.CallExpression node_id span None (more (child callee) (more (list (trees arguments))
    (more (boolean optional) end)))

-- `new callee(arguments)` (ECMA-262, 13.3.5).
abbrev pub new_expression : ℕ → Option (ℕ × ℕ) → Tree → List Tree → Tree
new_expression node_id span callee arguments =
    Node Kind.NewExpression node_id span None (more (child callee) (more (list (trees arguments))
    end))

-- Expressions with commas between them; there is at least one (ECMA-262, 13.16).
abbrev pub sequence_expression : ℕ → Option (ℕ × ℕ) → List Tree → Tree
sequence_expression node_id span expressions =
    Node Kind.SequenceExpression node_id span None (more (list (trees expressions)) end)

-- `yield argument` or `yield* argument` (ECMA-262, 15.5).
abbrev pub yield_expression : ℕ → Option (ℕ × ℕ) → Option Tree → Bool → Tree
yield_expression node_id span argument delegate =
    Node Kind.YieldExpression node_id span None (more (nullable argument) (more (boolean delegate)
    end))

-- `await argument` (ECMA-262, 15.8).
abbrev pub await_expression : ℕ → Option (ℕ × ℕ) → Tree → Tree
await_expression node_id span argument =
    Node Kind.AwaitExpression node_id span None (more (child argument) end)

-- `import(source)` (ECMA-262, 13.3.10).
abbrev pub import_expression : ℕ → Option (ℕ × ℕ) → Tree → Tree
import_expression node_id span source =
    Node Kind.ImportExpression node_id span None (more (child source) end)

-- `new.target` or `import.meta` (ECMA-262, 13.3.12).
abbrev pub meta_property : ℕ → Option (ℕ × ℕ) → Tree → Tree → Tree
meta_property node_id span meta property =
    Node Kind.MetaProperty node_id span None (more (child meta) (more (child property) end))

-- A chain of members and calls with `?.` in it, whole (ECMA-262, 13.3.9).
abbrev pub chain_expression : ℕ → Option (ℕ × ℕ) → Tree → Tree
chain_expression node_id span expression =
    Node Kind.ChainExpression node_id span None (more (child expression) end)

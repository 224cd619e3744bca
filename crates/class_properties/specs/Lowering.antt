-- What a program of the first form is lowered to: the fields of each class are defined by a constructor, in their order.
-- (ECMA-262, 15.7.14 and 7.3.32, DefineField; the helper is Babel's.)
use Rattle.std.specs.Prelude.{List, [], ◌∷◌, map, false, codes, None}
use Rattle.es_base.specs.Numbered.{unnumbered}
use Rattle.es_base.specs.Preorder.{nodes, renumbered}
use Rattle.es_base.specs.Tree.{Tree, Part, Parts, Node, end, more, child, list, trees}
use Rattle.es_base.specs.declared.literal.LiteralValue.TheVariants as literal_value
use Rattle.es_base.specs.declared.operator.MethodDefinitionKind.{MethodDefinitionKind}
use Rattle.es_base.specs.declared.operator.UnaryOperator.{UnaryOperator}
use Rattle.es_steps.specs.Parts.{at, string_of}
use Rattle.es_steps.specs.Values.{String}
use Rattle.es_declaration.specs.Class.{method_definition}
use Rattle.es_declaration.specs.Function.{function_expression}
use Rattle.es_expression.specs.Expression.{this_expression, member_expression, unary_expression, call_expression}
use Rattle.es_expression.specs.Identifier.{identifier_reference, identifier_name}
use Rattle.es_expression.specs.Literal.{literal}
use Rattle.es_statement.specs.Statement.{expression_statement, block_statement}

-- the nodes of a list
abbrev pub children : Parts → List Tree
children end = []
children (more (child t) ps) = t ∷ children ps
children (more p ps) = children ps

-- `void 0`
abbrev pub void_0 : Tree
void_0 = unary_expression unnumbered None UnaryOperator.Void (literal unnumbered None (literal_value.Number (codes "0")))

-- `babelHelpers.defineProperty`
abbrev pub define_property_helper : Tree
define_property_helper =
    member_expression unnumbered None
    (identifier_reference unnumbered None None (codes "babelHelpers"))
    (identifier_name unnumbered None (codes "defineProperty"))
    false
    false

-- `babelHelpers.defineProperty(this, "key", value);`
abbrev pub define_property : String → Tree → Tree
define_property key value =
    expression_statement unnumbered None
    (call_expression unnumbered None
    define_property_helper
    (this_expression unnumbered None ∷ literal unnumbered None (literal_value.String key None) ∷ value ∷ [])
    false)
    None

-- `constructor() { statements }`
abbrev pub constructor : List Tree → Tree
constructor statements =
    method_definition unnumbered None
    (identifier_name unnumbered None (codes "constructor"))
    (function_expression unnumbered None None None [] (block_statement unnumbered None None statements) false false)
    MethodDefinitionKind.Constructor
    false
    false

-- the name that is a key
abbrev pub key_name : Tree → String
key_name (Node kind id span semantic_id ps) = string_of (at 0 ps)

-- the value of a field, or `void 0` where it has none
abbrev pub value_or_void : Part → Tree
value_or_void (child t) = t
value_or_void p = void_0

-- `key = value;` becomes `babelHelpers.defineProperty(this, "key", value);`, and `key;` the same with `void 0`
abbrev pub definition : Tree → Tree
definition (Node kind id span semantic_id (more (child key) (more value ps))) = define_property (key_name key) (value_or_void value)
definition t = t

-- `x = 1; y;` become `constructor() { .. }`; where there are no fields, there is no constructor
abbrev pub lowered_elements : List Tree → List Tree
lowered_elements [] = []
lowered_elements (field ∷ fields) = constructor (map definition (field ∷ fields)) ∷ []

-- `{ x = 1; }` becomes `{ constructor() { .. } }`
abbrev pub lowered_body : Tree → Tree
lowered_body (Node kind id span semantic_id (more (list elements) ps)) = Node kind id span semantic_id (more (list (trees (lowered_elements (children elements)))) ps)
lowered_body t = t

-- `class C { x = 1; }` becomes `class C { constructor() { .. } }`
abbrev pub lowered_class : Tree → Tree
lowered_class (Node kind id span semantic_id (more name (more super_class (more (child body) ps)))) = Node kind id span semantic_id (more name (more super_class (more (child (lowered_body body)) ps)))
lowered_class t = t

-- each class of the program is lowered, and new nodes have no numbers yet
abbrev pub with_constructors : Tree → Tree
with_constructors (Node kind id span semantic_id (more source_type (more (list classes) ps))) = Node kind id span semantic_id (more source_type (more (list (trees (map lowered_class (children classes)))) ps))
with_constructors t = t

-- the program, whose new nodes have the numbers behind its own, in preorder
abbrev pub lowered : Tree → Tree
lowered t = renumbered (nodes t) (nodes t) (with_constructors t)

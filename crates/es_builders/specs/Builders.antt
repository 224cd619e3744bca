-- The nodes that a lowering makes, by what they are made of: without numbers and spans. A reference has its number.
use Rattle.std.specs.Prelude.{ℕ, List, [], ◌∷◌, false, Some, None, codes}
use Rattle.es_base.specs.Numbered.{unnumbered}
use Rattle.es_base.specs.Tree.{Tree}
use Rattle.es_base.specs.declared.literal.LiteralValue.TheVariants as literal_value
use Rattle.es_base.specs.declared.operator.AssignmentOperator.{AssignmentOperator}
use Rattle.es_base.specs.declared.operator.UnaryOperator.{UnaryOperator}
use Rattle.es_expression.specs.Expression.{member_expression, call_expression, assignment_expression, unary_expression}
use Rattle.es_expression.specs.Identifier.{identifier_reference, identifier_name}
use Rattle.es_expression.specs.Literal.{literal}

-- `object.name`
abbrev pub named_member : Tree → List ℕ → Tree
named_member object name = member_expression unnumbered None object (identifier_name unnumbered None name) false false

-- `babelHelpers.name`, where r is the number of the reference
abbrev pub helper : ℕ → List ℕ → Tree
helper r name = named_member (identifier_reference unnumbered None (Some r) (codes "babelHelpers")) name

-- `babelHelpers.name(args)`
abbrev pub helper_call : ℕ → List ℕ → List Tree → Tree
helper_call r name args = call_expression unnumbered None (helper r name) args false

-- `callee.call(this)`
abbrev pub call_call : Tree → Tree → Tree
call_call callee this = call_expression unnumbered None (named_member callee (codes "call")) (this ∷ []) false

-- `callee.bind(this)`
abbrev pub bind_call : Tree → Tree → Tree
bind_call callee this = call_expression unnumbered None (named_member callee (codes "bind")) (this ∷ []) false

-- `object.prototype`
abbrev pub prototype_member : Tree → Tree
prototype_member object = named_member object (codes "prototype")

-- `name = value`, where r is the number of the reference
abbrev pub assignment : ℕ → List ℕ → Tree → Tree
assignment r name value = assignment_expression unnumbered None AssignmentOperator.Assign (identifier_reference unnumbered None (Some r) name) value

-- `void 0`
abbrev pub void_0 : Tree
void_0 = unary_expression unnumbered None UnaryOperator.Void (literal unnumbered None (literal_value.Number (codes "0")))

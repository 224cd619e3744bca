-- The code of a tree: each node by the rule of its kind, over the codes of its children.
use Rattle.std.specs.Prelude.{ℕ, suc}
use Rattle.es_base.specs.Tree as tree
use Rattle.es_base.specs.Tree.{Tree, Part, Parts, Node}
use Rattle.es_base.specs.declared.kind.Kind.{Kind}
use Rattle.es_steps.specs.ClassHeads.{declared_or_named}
use Rattle.es_steps.specs.Code.{Code, nothing, no_rule, value, spelled, super, binding, sequence, steps, static_block}
use Rattle.es_steps.specs.Context.{Context, name_kind, inside}
use Rattle.es_steps.specs.Expressions.{literal_code, name_code, private_name_code, template_string_code, template_code, meta_code, member_code, private_field_code, private_in_code, assignment_code, update_code, unary_code, binary_code, logical_code, chain_code, call_code, tag_code, new_code, conditional_code, property_code, operation_of}
use Rattle.es_steps.specs.Members.{Member, Members, code, absent, list, string, no_string, boolean, literal, end, more, at, codes_in, codes_of, word_of}
use Rattle.es_steps.specs.Statements.{held_from, case_code, catch_code, expression_code, for_each_code, declarator_code, declaration_code, return_code, suspension_code, default_export_code, default_code, rest_code, pattern_property_code, array_pattern_code, object_pattern_code, function_expression_code, function_declaration_code, arrow_code, declared_by, declared_by_let, class_of, field_code, method_code}

-- statements that are their parts in order, and those with parts that may run or not, or again; `with` and nodes outside
-- the table have no rule
abbrev pub statement_code : Context → Kind → ℕ → Members → Code
statement_code c Kind.Program m ps = steps (codes_in ps)
statement_code c Kind.ExpressionStatement m ps = expression_code c m ps
statement_code c Kind.BlockStatement m ps = steps (codes_in ps)
statement_code c Kind.VariableDeclaration m ps = declaration_code ps
statement_code c Kind.CatchClause m ps = catch_code m ps
statement_code c Kind.EmptyStatement m ps = nothing
statement_code c Kind.VariableDeclarator m ps = declarator_code c m ps
statement_code c Kind.LabeledStatement m ps = held_from 1 Kind.LabeledStatement m ps
statement_code c Kind.IfStatement m ps = held_from 1 Kind.IfStatement m ps
statement_code c Kind.SwitchStatement m ps = held_from 1 Kind.SwitchStatement m ps
statement_code c Kind.SwitchCase m ps = case_code m ps
statement_code c Kind.TryStatement m ps = held_from 0 Kind.TryStatement m ps
statement_code c Kind.WhileStatement m ps = held_from 0 Kind.WhileStatement m ps
statement_code c Kind.DoWhileStatement m ps = held_from 0 Kind.DoWhileStatement m ps
statement_code c Kind.ForStatement m ps = held_from 1 Kind.ForStatement m ps
statement_code c Kind.ForInStatement m ps = for_each_code c Kind.ForInStatement m ps
statement_code c Kind.ForOfStatement m ps = for_each_code c Kind.ForOfStatement m ps
statement_code c Kind.DebuggerStatement m ps = operation_of Kind.DebuggerStatement m ps
statement_code c Kind.ReturnStatement m ps = return_code c m ps
statement_code c Kind.ThrowStatement m ps = operation_of Kind.ThrowStatement m ps
statement_code c Kind.BreakStatement m ps = operation_of Kind.BreakStatement m ps
statement_code c Kind.ContinueStatement m ps = operation_of Kind.ContinueStatement m ps
statement_code c Kind.ImportDeclaration m ps = nothing
statement_code c Kind.ExportAllDeclaration m ps = nothing
statement_code c Kind.ExportNamedDeclaration m ps = steps (codes_of (at 0 ps))
statement_code c Kind.ExportDefaultDeclaration m ps = default_export_code ps
statement_code c kind m ps = no_rule

-- patterns, which declare or are assigned to
abbrev pub pattern_code : Context → Kind → ℕ → Members → Code
pattern_code c Kind.ObjectPattern m ps = object_pattern_code m ps
pattern_code c Kind.ObjectAssignmentTarget m ps = object_pattern_code m ps
pattern_code c Kind.ArrayPattern m ps = array_pattern_code m ps
pattern_code c Kind.ArrayAssignmentTarget m ps = array_pattern_code m ps
pattern_code c Kind.AssignmentPattern m ps = default_code m ps
pattern_code c Kind.AssignmentTargetWithDefault m ps = default_code m ps
pattern_code c Kind.RestElement m ps = rest_code ps
pattern_code c Kind.AssignmentTargetRest m ps = rest_code ps
pattern_code c Kind.BindingProperty m ps = pattern_property_code m ps
pattern_code c Kind.AssignmentTargetProperty m ps = pattern_property_code m ps
pattern_code c kind m ps = statement_code c kind m ps

-- functions, classes and their parts
abbrev pub class_form_code : Context → Kind → ℕ → Members → Code
class_form_code c Kind.FunctionDeclaration m ps = function_declaration_code c m ps
class_form_code c Kind.FunctionExpression m ps = function_expression_code c m ps
class_form_code c Kind.ArrowFunctionExpression m ps = arrow_code c m ps
class_form_code c Kind.ClassDeclaration m ps = class_of (declared_or_named m c.named (declared_by (at 0 ps))) m ps
class_form_code c Kind.ClassExpression m ps = class_of (declared_by_let m c.named c.let_class) m ps
class_form_code c Kind.ClassBody m ps = steps (codes_in ps)
class_form_code c Kind.PropertyDefinition m ps = field_code c ps
class_form_code c Kind.MethodDefinition m ps = method_code c ps
class_form_code c Kind.StaticBlock m ps = static_block (codes_in ps)
class_form_code c kind m ps = pattern_code c kind m ps

-- expressions with a rule of their own, and those whose rule is that of all others
abbrev pub code_of : Context → Kind → ℕ → Members → Code
code_of c Kind.IdentifierReference m ps = name_code c m (word_of (at 0 ps))
code_of c Kind.BindingIdentifier m ps = binding m (word_of (at 0 ps)) (name_kind c (word_of (at 0 ps)))
code_of c Kind.IdentifierName m ps = spelled (word_of (at 0 ps))
code_of c Kind.PrivateIdentifier m ps = private_name_code c m (word_of (at 0 ps))
code_of c Kind.Literal m ps = literal_code m (at 0 ps)
code_of c Kind.ThisExpression m ps = value c.this
code_of c Kind.Super m ps = super
code_of c Kind.TemplateElement m ps = template_string_code ps
code_of c Kind.TemplateLiteral m ps = template_code m ps
code_of c Kind.TaggedTemplateExpression m ps = tag_code m ps
code_of c Kind.MetaProperty m ps = meta_code c m ps
code_of c Kind.MemberExpression m ps = member_code c m ps
code_of c Kind.PrivateField m ps = private_field_code c m ps
code_of c Kind.PrivateIn m ps = private_in_code c m ps
code_of c Kind.AssignmentExpression m ps = assignment_code c m ps
code_of c Kind.UpdateExpression m ps = update_code m ps
code_of c Kind.UnaryExpression m ps = unary_code m ps
code_of c Kind.BinaryExpression m ps = binary_code c m ps
code_of c Kind.LogicalExpression m ps = logical_code c m ps
code_of c Kind.ChainExpression m ps = chain_code m ps
code_of c Kind.CallExpression m ps = call_code c m ps
code_of c Kind.NewExpression m ps = new_code m ps
code_of c Kind.ConditionalExpression m ps = conditional_code c m ps
code_of c Kind.SequenceExpression m ps = sequence (codes_in ps)
code_of c Kind.Property m ps = property_code ps
code_of c Kind.ArrayExpression m ps = operation_of Kind.ArrayExpression m ps
code_of c Kind.ObjectExpression m ps = operation_of Kind.ObjectExpression m ps
code_of c Kind.SpreadElement m ps = operation_of Kind.SpreadElement m ps
code_of c Kind.YieldExpression m ps = suspension_code c Kind.YieldExpression m ps
code_of c Kind.AwaitExpression m ps = suspension_code c Kind.AwaitExpression m ps
code_of c Kind.ImportExpression m ps = operation_of Kind.ImportExpression m ps
code_of c kind m ps = class_form_code c kind m ps

abbrev mutual
  pub read : Context → Tree → Code
  read c (Node kind m span semantic_id ps) = code_of c kind m (read_parts (inside c kind m ps) ps)

  pub read_parts : (ℕ → Context) → Parts → Members
  read_parts c tree.end = end
  read_parts c (tree.more p ps) = more (read_part (c 0) p) (read_parts (λ i. c (suc i)) ps)

  pub read_part : Context → Part → Member
  read_part c (tree.child t) = code (read c t)
  read_part c tree.absent = absent
  read_part c (tree.list ps) = list (read_items c ps)
  read_part c (tree.string s) = string s
  read_part c tree.no_string = no_string
  read_part c (tree.boolean b) = boolean b
  read_part c (tree.literal v) = literal v

  pub read_items : Context → Parts → Members
  read_items c tree.end = end
  read_items c (tree.more p ps) = more (read_part c p) (read_items c ps)

-- Printed by tools/rows/witnesses.js.
use Rattle.std.specs.Prelude.{ℕ, List, [], ◌∷◌, false, codes, Some}
use Rattle.es_base.specs.Tree.{Tree, end, more, child, absent, list, string, no_string, boolean, literal, trees}
use Rattle.es_base.specs.declared.kind.Kind.{Kind}
use Rattle.es_base.specs.declared.ledger.GeneratedKind.{GeneratedKind}
use Rattle.es_base.specs.declared.ledger.LedgerEntry.{LedgerEntry}
use Rattle.es_base.specs.declared.literal.LiteralValue.TheVariants as literal_value
use Rattle.es_steps.specs.Generated.{node}
use Rattle.es_steps.specs.Options.{options_of}
use Rattle.es_steps.specs.declared.options.Options.{Options}

-- `f(function (a = class { #x = 1; }) { return a; });`
abbrev pub source_map_of_a_function_expression : Tree
source_map_of_a_function_expression = node Kind.Program 0 (more (string (codes "script")) (more (list (trees (node Kind.ExpressionStatement 1 (more (child (node Kind.CallExpression 2 (more (child (node Kind.IdentifierReference 3 (more (string (codes "f")) end))) (more (list (trees (node Kind.FunctionExpression 4 (more absent (more (list (trees (node Kind.AssignmentPattern 5 (more (child (node Kind.BindingIdentifier 6 (more (string (codes "a")) end))) (more (child (node Kind.ClassExpression 7 (more absent (more absent (more (child (node Kind.ClassBody 8 (more (list (trees (node Kind.PropertyDefinition 9 (more (child (node Kind.PrivateIdentifier 10 (more (string (codes "x")) end))) (more (child (node Kind.Literal 11 (more (literal (literal_value.Number (codes "1"))) end))) (more (boolean false) (more (boolean false) end)))) ∷ []))) end))) end))))) end)) ∷ []))) (more (child (node Kind.BlockStatement 12 (more (list (trees (node Kind.ReturnStatement 13 (more (child (node Kind.IdentifierReference 14 (more (string (codes "a")) end))) end) ∷ []))) end))) (more (boolean false) (more (boolean false) end))))) ∷ []))) (more (boolean false) end))))) (more no_string end)) ∷ []))) end))

-- a map given to the own name of a function expression, where `var _x; f(function (a = (_x = new WeakMap(), class { constructor() { B.classPrivateFieldInitSpec(this, _x, 1); } })) { return a; });` is right
abbrev pub output_map_of_a_function_expression : Tree
output_map_of_a_function_expression = node Kind.Program 0 (more (string (codes "script")) (more (list (trees (node Kind.ExpressionStatement 1 (more (child (node Kind.CallExpression 2 (more (child (node Kind.IdentifierReference 3 (more (string (codes "f")) end))) (more (list (trees (node Kind.FunctionExpression 4 (more (child (node Kind.BindingIdentifier 15 (more (string (codes "_x")) end))) (more (list (trees (node Kind.AssignmentPattern 5 (more (child (node Kind.BindingIdentifier 6 (more (string (codes "a")) end))) (more (child (node Kind.SequenceExpression 16 (more (list (trees (node Kind.AssignmentExpression 17 (more (string (codes "=")) (more (child (node Kind.IdentifierReference 18 (more (string (codes "_x")) end))) (more (child (node Kind.NewExpression 19 (more (child (node Kind.IdentifierReference 20 (more (string (codes "WeakMap")) end))) (more (list end) end)))) end))) ∷ node Kind.ClassExpression 7 (more absent (more absent (more (child (node Kind.ClassBody 8 (more (list (trees (node Kind.MethodDefinition 21 (more (child (node Kind.IdentifierName 22 (more (string (codes "constructor")) end))) (more (child (node Kind.FunctionExpression 23 (more absent (more (list end) (more (child (node Kind.BlockStatement 24 (more (list (trees (node Kind.ExpressionStatement 25 (more (child (node Kind.CallExpression 26 (more (child (node Kind.MemberExpression 27 (more (child (node Kind.IdentifierReference 28 (more (string (codes "babelHelpers")) end))) (more (child (node Kind.IdentifierName 29 (more (string (codes "classPrivateFieldInitSpec")) end))) (more (boolean false) (more (boolean false) end)))))) (more (list (trees (node Kind.ThisExpression 30 end ∷ node Kind.IdentifierReference 31 (more (string (codes "_x")) end) ∷ node Kind.Literal 11 (more (literal (literal_value.Number (codes "1"))) end) ∷ []))) (more (boolean false) end))))) (more no_string end)) ∷ []))) end))) (more (boolean false) (more (boolean false) end))))))) (more (string (codes "constructor")) (more (boolean false) (more (boolean false) end))))) ∷ []))) end))) end))) ∷ []))) end))) end)) ∷ []))) (more (child (node Kind.BlockStatement 12 (more (list (trees (node Kind.ReturnStatement 13 (more (child (node Kind.IdentifierReference 14 (more (string (codes "a")) end))) end) ∷ []))) end))) (more (boolean false) (more (boolean false) end))))) ∷ []))) (more (boolean false) end))))) (more no_string end)) ∷ []))) end))

abbrev pub generated_map_of_a_function_expression : List LedgerEntry
generated_map_of_a_function_expression = record { name = codes "_x"; kind = GeneratedKind.WeakMap (record { 0 = 10 }) } ∷ []

abbrev pub options_map_of_a_function_expression : Options
options_map_of_a_function_expression = options_of false (Some (record { loose = false })) false

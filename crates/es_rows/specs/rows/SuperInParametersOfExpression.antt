-- Printed by tools/rows/number-rows.js from `super_in_parameters_of_expression` of tools/rows/rows.json: a worked row with its numbers.
use Rattle.std.specs.Prelude.{ℕ, List, [], ◌∷◌, false, codes, Some, None}
use Rattle.es_base.specs.Tree.{Tree, end, more, child, absent, list, string, no_string, boolean, literal, trees}
use Rattle.es_base.specs.declared.kind.Kind.{Kind}
use Rattle.es_base.specs.declared.ledger.GeneratedKind.{GeneratedKind}
use Rattle.es_base.specs.declared.ledger.LedgerEntry.{LedgerEntry}
use Rattle.es_base.specs.declared.literal.LiteralValue.TheVariants as literal_value
use Rattle.es_steps.specs.Generated.{node}
use Rattle.es_steps.specs.Options.{options_of}
use Rattle.es_steps.specs.declared.options.Options.{Options}

-- `f = (y) => class extends P { x = y; constructor(a = super()) {} };`
abbrev pub source_super_in_parameters_of_expression : Tree
source_super_in_parameters_of_expression = node Kind.Program 0 (more (string (codes "script")) (more (list (trees (node Kind.ExpressionStatement 1 (more (child (node Kind.AssignmentExpression 2 (more (string (codes "=")) (more (child (node Kind.IdentifierReference 3 (more (string (codes "f")) end))) (more (child (node Kind.ArrowFunctionExpression 4 (more (list (trees (node Kind.BindingIdentifier 5 (more (string (codes "y")) end) ∷ []))) (more (child (node Kind.ClassExpression 6 (more absent (more (child (node Kind.IdentifierReference 7 (more (string (codes "P")) end))) (more (child (node Kind.ClassBody 8 (more (list (trees (node Kind.PropertyDefinition 9 (more (child (node Kind.IdentifierName 10 (more (string (codes "x")) end))) (more (child (node Kind.IdentifierReference 11 (more (string (codes "y")) end))) (more (boolean false) (more (boolean false) end)))) ∷ node Kind.MethodDefinition 12 (more (child (node Kind.IdentifierName 13 (more (string (codes "constructor")) end))) (more (child (node Kind.FunctionExpression 14 (more absent (more (list (trees (node Kind.AssignmentPattern 15 (more (child (node Kind.BindingIdentifier 16 (more (string (codes "a")) end))) (more (child (node Kind.CallExpression 17 (more (child (node Kind.Super 18 end)) (more (list end) (more (boolean false) end))))) end)) ∷ []))) (more (child (node Kind.BlockStatement 19 (more (list end) end))) (more (boolean false) (more (boolean false) end))))))) (more (string (codes "constructor")) (more (boolean false) (more (boolean false) end))))) ∷ []))) end))) end))))) (more (boolean false) end))))) end))))) (more no_string end)) ∷ []))) end))

-- the number of its nodes
abbrev pub nodes_super_in_parameters_of_expression : ℕ
nodes_super_in_parameters_of_expression = 20

-- `let _super; f = (y) => (_super = function() { "use strict"; B.defineProperty(this, "x", y); return this; }, class extends P { constructor(a = _super.call(super())) {} });`
abbrev pub output_super_in_parameters_of_expression : Tree
output_super_in_parameters_of_expression = node Kind.Program 0 (more (string (codes "script")) (more (list (trees (node Kind.VariableDeclaration 20 (more (string (codes "let")) (more (list (trees (node Kind.VariableDeclarator 21 (more (child (node Kind.BindingIdentifier 22 (more (string (codes "_super")) end))) (more absent end)) ∷ []))) end)) ∷ node Kind.ExpressionStatement 1 (more (child (node Kind.AssignmentExpression 2 (more (string (codes "=")) (more (child (node Kind.IdentifierReference 3 (more (string (codes "f")) end))) (more (child (node Kind.ArrowFunctionExpression 4 (more (list (trees (node Kind.BindingIdentifier 5 (more (string (codes "y")) end) ∷ []))) (more (child (node Kind.SequenceExpression 23 (more (list (trees (node Kind.AssignmentExpression 24 (more (string (codes "=")) (more (child (node Kind.IdentifierReference 25 (more (string (codes "_super")) end))) (more (child (node Kind.FunctionExpression 26 (more absent (more (list end) (more (child (node Kind.BlockStatement 27 (more (list (trees (node Kind.ExpressionStatement 28 (more (child (node Kind.Literal 29 (more (literal (literal_value.String (codes "use strict") None)) end))) (more (string (codes "use strict")) end)) ∷ node Kind.ExpressionStatement 30 (more (child (node Kind.CallExpression 31 (more (child (node Kind.MemberExpression 32 (more (child (node Kind.IdentifierReference 33 (more (string (codes "babelHelpers")) end))) (more (child (node Kind.IdentifierName 34 (more (string (codes "defineProperty")) end))) (more (boolean false) (more (boolean false) end)))))) (more (list (trees (node Kind.ThisExpression 35 end ∷ node Kind.Literal 36 (more (literal (literal_value.String (codes "x") None)) end) ∷ node Kind.IdentifierReference 11 (more (string (codes "y")) end) ∷ []))) (more (boolean false) end))))) (more no_string end)) ∷ node Kind.ReturnStatement 37 (more (child (node Kind.ThisExpression 38 end)) end) ∷ []))) end))) (more (boolean false) (more (boolean false) end))))))) end))) ∷ node Kind.ClassExpression 6 (more absent (more (child (node Kind.IdentifierReference 7 (more (string (codes "P")) end))) (more (child (node Kind.ClassBody 8 (more (list (trees (node Kind.MethodDefinition 12 (more (child (node Kind.IdentifierName 13 (more (string (codes "constructor")) end))) (more (child (node Kind.FunctionExpression 14 (more absent (more (list (trees (node Kind.AssignmentPattern 15 (more (child (node Kind.BindingIdentifier 16 (more (string (codes "a")) end))) (more (child (node Kind.CallExpression 17 (more (child (node Kind.MemberExpression 39 (more (child (node Kind.IdentifierReference 40 (more (string (codes "_super")) end))) (more (child (node Kind.IdentifierName 41 (more (string (codes "call")) end))) (more (boolean false) (more (boolean false) end)))))) (more (list (trees (node Kind.CallExpression 42 (more (child (node Kind.Super 18 end)) (more (list end) (more (boolean false) end))) ∷ []))) (more (boolean false) end))))) end)) ∷ []))) (more (child (node Kind.BlockStatement 19 (more (list end) end))) (more (boolean false) (more (boolean false) end))))))) (more (string (codes "constructor")) (more (boolean false) (more (boolean false) end))))) ∷ []))) end))) end))) ∷ []))) end))) (more (boolean false) end))))) end))))) (more no_string end)) ∷ []))) end))

abbrev pub generated_super_in_parameters_of_expression : List LedgerEntry
generated_super_in_parameters_of_expression = record { name = codes "_super"; kind = GeneratedKind.SuperFn (record { 0 = 6 }) } ∷ []

-- the numbers of its shapes
abbrev pub outside_super_in_parameters_of_expression : List ℕ
outside_super_in_parameters_of_expression = []

abbrev pub options_super_in_parameters_of_expression : Options
options_super_in_parameters_of_expression = options_of false (Some (record { loose = false })) false

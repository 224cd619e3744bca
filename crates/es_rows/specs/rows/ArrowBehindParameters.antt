-- Printed by tools/rows/number-rows.js from `arrow_behind_parameters` of tools/rows/forms.json: a worked row with its numbers.
use Rattle.std.specs.Prelude.{ℕ, List, [], ◌∷◌, false, codes, Some, None}
use Rattle.es_base.specs.Tree.{Tree, end, more, child, absent, list, string, no_string, boolean, literal, trees}
use Rattle.es_base.specs.declared.kind.Kind.{Kind}
use Rattle.es_base.specs.declared.ledger.LedgerEntry.{LedgerEntry}
use Rattle.es_base.specs.declared.literal.LiteralValue.TheVariants as literal_value
use Rattle.es_steps.specs.Generated.{node}
use Rattle.es_steps.specs.Options.{options_of}
use Rattle.es_steps.specs.declared.options.Options.{Options}

-- `class A { x = () => 1; constructor(y = g()) { h(); } }`
abbrev pub source_arrow_behind_parameters : Tree
source_arrow_behind_parameters = node Kind.Program 0 (more (string (codes "script")) (more (list (trees (node Kind.ClassDeclaration 1 (more (child (node Kind.BindingIdentifier 2 (more (string (codes "A")) end))) (more absent (more (child (node Kind.ClassBody 3 (more (list (trees (node Kind.PropertyDefinition 4 (more (child (node Kind.IdentifierName 5 (more (string (codes "x")) end))) (more (child (node Kind.ArrowFunctionExpression 6 (more (list end) (more (child (node Kind.Literal 7 (more (literal (literal_value.Number (codes "1"))) end))) (more (boolean false) end))))) (more (boolean false) (more (boolean false) end)))) ∷ node Kind.MethodDefinition 8 (more (child (node Kind.IdentifierName 9 (more (string (codes "constructor")) end))) (more (child (node Kind.FunctionExpression 10 (more absent (more (list (trees (node Kind.AssignmentPattern 11 (more (child (node Kind.BindingIdentifier 12 (more (string (codes "y")) end))) (more (child (node Kind.CallExpression 13 (more (child (node Kind.IdentifierReference 14 (more (string (codes "g")) end))) (more (list end) (more (boolean false) end))))) end)) ∷ []))) (more (child (node Kind.BlockStatement 15 (more (list (trees (node Kind.ExpressionStatement 16 (more (child (node Kind.CallExpression 17 (more (child (node Kind.IdentifierReference 18 (more (string (codes "h")) end))) (more (list end) (more (boolean false) end))))) (more no_string end)) ∷ []))) end))) (more (boolean false) (more (boolean false) end))))))) (more (string (codes "constructor")) (more (boolean false) (more (boolean false) end))))) ∷ []))) end))) end))) ∷ []))) end))

-- the number of its nodes
abbrev pub nodes_arrow_behind_parameters : ℕ
nodes_arrow_behind_parameters = 19

-- `class A { constructor(y = g()) { B.defineProperty(this, "x", () => 1); h(); } }`
abbrev pub output_arrow_behind_parameters : Tree
output_arrow_behind_parameters = node Kind.Program 0 (more (string (codes "script")) (more (list (trees (node Kind.ClassDeclaration 1 (more (child (node Kind.BindingIdentifier 2 (more (string (codes "A")) end))) (more absent (more (child (node Kind.ClassBody 3 (more (list (trees (node Kind.MethodDefinition 8 (more (child (node Kind.IdentifierName 9 (more (string (codes "constructor")) end))) (more (child (node Kind.FunctionExpression 10 (more absent (more (list (trees (node Kind.AssignmentPattern 11 (more (child (node Kind.BindingIdentifier 12 (more (string (codes "y")) end))) (more (child (node Kind.CallExpression 13 (more (child (node Kind.IdentifierReference 14 (more (string (codes "g")) end))) (more (list end) (more (boolean false) end))))) end)) ∷ []))) (more (child (node Kind.BlockStatement 15 (more (list (trees (node Kind.ExpressionStatement 19 (more (child (node Kind.CallExpression 20 (more (child (node Kind.MemberExpression 21 (more (child (node Kind.IdentifierReference 22 (more (string (codes "babelHelpers")) end))) (more (child (node Kind.IdentifierName 23 (more (string (codes "defineProperty")) end))) (more (boolean false) (more (boolean false) end)))))) (more (list (trees (node Kind.ThisExpression 24 end ∷ node Kind.Literal 25 (more (literal (literal_value.String (codes "x") None)) end) ∷ node Kind.ArrowFunctionExpression 6 (more (list end) (more (child (node Kind.Literal 7 (more (literal (literal_value.Number (codes "1"))) end))) (more (boolean false) end))) ∷ []))) (more (boolean false) end))))) (more no_string end)) ∷ node Kind.ExpressionStatement 16 (more (child (node Kind.CallExpression 17 (more (child (node Kind.IdentifierReference 18 (more (string (codes "h")) end))) (more (list end) (more (boolean false) end))))) (more no_string end)) ∷ []))) end))) (more (boolean false) (more (boolean false) end))))))) (more (string (codes "constructor")) (more (boolean false) (more (boolean false) end))))) ∷ []))) end))) end))) ∷ []))) end))

abbrev pub generated_arrow_behind_parameters : List LedgerEntry
generated_arrow_behind_parameters = []

-- the numbers of its shapes
abbrev pub outside_arrow_behind_parameters : List ℕ
outside_arrow_behind_parameters = 2 ∷ []

abbrev pub options_arrow_behind_parameters : Options
options_arrow_behind_parameters = options_of false (Some (record { loose = false })) false

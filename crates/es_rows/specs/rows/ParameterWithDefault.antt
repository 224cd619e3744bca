-- Printed by tools/rows/number-rows.js from `parameter_with_default` of tools/rows/rows.json: a worked row with its numbers.
use Rattle.std.specs.Prelude.{ℕ, List, [], ◌∷◌, false, codes, Some, None}
use Rattle.es_base.specs.Tree.{Tree, end, more, child, absent, list, string, no_string, boolean, literal, trees}
use Rattle.es_base.specs.declared.kind.Kind.{Kind}
use Rattle.es_base.specs.declared.ledger.LedgerEntry.{LedgerEntry}
use Rattle.es_base.specs.declared.literal.LiteralValue.TheVariants as literal_value
use Rattle.es_steps.specs.Generated.{node}
use Rattle.es_steps.specs.Options.{options_of}
use Rattle.es_steps.specs.declared.options.Options.{Options}

-- `class A { x = 1; constructor(y = g()) {} }`
abbrev pub source_parameter_with_default : Tree
source_parameter_with_default = node Kind.Program 0 (more (string (codes "script")) (more (list (trees (node Kind.ClassDeclaration 1 (more (child (node Kind.BindingIdentifier 2 (more (string (codes "A")) end))) (more absent (more (child (node Kind.ClassBody 3 (more (list (trees (node Kind.PropertyDefinition 4 (more (child (node Kind.IdentifierName 5 (more (string (codes "x")) end))) (more (child (node Kind.Literal 6 (more (literal (literal_value.Number (codes "1"))) end))) (more (boolean false) (more (boolean false) end)))) ∷ node Kind.MethodDefinition 7 (more (child (node Kind.IdentifierName 8 (more (string (codes "constructor")) end))) (more (child (node Kind.FunctionExpression 9 (more absent (more (list (trees (node Kind.AssignmentPattern 10 (more (child (node Kind.BindingIdentifier 11 (more (string (codes "y")) end))) (more (child (node Kind.CallExpression 12 (more (child (node Kind.IdentifierReference 13 (more (string (codes "g")) end))) (more (list end) (more (boolean false) end))))) end)) ∷ []))) (more (child (node Kind.BlockStatement 14 (more (list end) end))) (more (boolean false) (more (boolean false) end))))))) (more (string (codes "constructor")) (more (boolean false) (more (boolean false) end))))) ∷ []))) end))) end))) ∷ []))) end))

-- the number of its nodes
abbrev pub nodes_parameter_with_default : ℕ
nodes_parameter_with_default = 15

-- `class A { constructor(y = g()) { B.defineProperty(this, "x", 1); } }`
abbrev pub output_parameter_with_default : Tree
output_parameter_with_default = node Kind.Program 0 (more (string (codes "script")) (more (list (trees (node Kind.ClassDeclaration 1 (more (child (node Kind.BindingIdentifier 2 (more (string (codes "A")) end))) (more absent (more (child (node Kind.ClassBody 3 (more (list (trees (node Kind.MethodDefinition 7 (more (child (node Kind.IdentifierName 8 (more (string (codes "constructor")) end))) (more (child (node Kind.FunctionExpression 9 (more absent (more (list (trees (node Kind.AssignmentPattern 10 (more (child (node Kind.BindingIdentifier 11 (more (string (codes "y")) end))) (more (child (node Kind.CallExpression 12 (more (child (node Kind.IdentifierReference 13 (more (string (codes "g")) end))) (more (list end) (more (boolean false) end))))) end)) ∷ []))) (more (child (node Kind.BlockStatement 14 (more (list (trees (node Kind.ExpressionStatement 15 (more (child (node Kind.CallExpression 16 (more (child (node Kind.MemberExpression 17 (more (child (node Kind.IdentifierReference 18 (more (string (codes "babelHelpers")) end))) (more (child (node Kind.IdentifierName 19 (more (string (codes "defineProperty")) end))) (more (boolean false) (more (boolean false) end)))))) (more (list (trees (node Kind.ThisExpression 20 end ∷ node Kind.Literal 21 (more (literal (literal_value.String (codes "x") None)) end) ∷ node Kind.Literal 6 (more (literal (literal_value.Number (codes "1"))) end) ∷ []))) (more (boolean false) end))))) (more no_string end)) ∷ []))) end))) (more (boolean false) (more (boolean false) end))))))) (more (string (codes "constructor")) (more (boolean false) (more (boolean false) end))))) ∷ []))) end))) end))) ∷ []))) end))

abbrev pub generated_parameter_with_default : List LedgerEntry
generated_parameter_with_default = []

-- the numbers of its shapes
abbrev pub outside_parameter_with_default : List ℕ
outside_parameter_with_default = 2 ∷ []

abbrev pub options_parameter_with_default : Options
options_parameter_with_default = options_of false (Some (record { loose = false })) false

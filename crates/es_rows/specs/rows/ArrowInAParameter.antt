-- Printed by tools/rows/number-rows.js from `arrow_in_a_parameter` of tools/rows/forms.json: a worked row with its numbers.
use Rattle.std.specs.Prelude.{ℕ, List, [], ◌∷◌, false, codes, Some, None}
use Rattle.es_base.specs.Tree.{Tree, end, more, child, absent, list, string, no_string, boolean, literal, trees}
use Rattle.es_base.specs.declared.kind.Kind.{Kind}
use Rattle.es_base.specs.declared.ledger.LedgerEntry.{LedgerEntry}
use Rattle.es_base.specs.declared.literal.LiteralValue.TheVariants as literal_value
use Rattle.es_steps.specs.Generated.{node}
use Rattle.es_steps.specs.Options.{options_of}
use Rattle.es_steps.specs.declared.options.Options.{Options}

-- `class C { x = 1; m(a, g = () => a) { var b = a; return g(b); } }`
abbrev pub source_arrow_in_a_parameter : Tree
source_arrow_in_a_parameter = node Kind.Program 0 (more (string (codes "script")) (more (list (trees (node Kind.ClassDeclaration 1 (more (child (node Kind.BindingIdentifier 2 (more (string (codes "C")) end))) (more absent (more (child (node Kind.ClassBody 3 (more (list (trees (node Kind.PropertyDefinition 4 (more (child (node Kind.IdentifierName 5 (more (string (codes "x")) end))) (more (child (node Kind.Literal 6 (more (literal (literal_value.Number (codes "1"))) end))) (more (boolean false) (more (boolean false) end)))) ∷ node Kind.MethodDefinition 7 (more (child (node Kind.IdentifierName 8 (more (string (codes "m")) end))) (more (child (node Kind.FunctionExpression 9 (more absent (more (list (trees (node Kind.BindingIdentifier 10 (more (string (codes "a")) end) ∷ node Kind.AssignmentPattern 11 (more (child (node Kind.BindingIdentifier 12 (more (string (codes "g")) end))) (more (child (node Kind.ArrowFunctionExpression 13 (more (list end) (more (child (node Kind.IdentifierReference 14 (more (string (codes "a")) end))) (more (boolean false) end))))) end)) ∷ []))) (more (child (node Kind.BlockStatement 15 (more (list (trees (node Kind.VariableDeclaration 16 (more (string (codes "var")) (more (list (trees (node Kind.VariableDeclarator 17 (more (child (node Kind.BindingIdentifier 18 (more (string (codes "b")) end))) (more (child (node Kind.IdentifierReference 19 (more (string (codes "a")) end))) end)) ∷ []))) end)) ∷ node Kind.ReturnStatement 20 (more (child (node Kind.CallExpression 21 (more (child (node Kind.IdentifierReference 22 (more (string (codes "g")) end))) (more (list (trees (node Kind.IdentifierReference 23 (more (string (codes "b")) end) ∷ []))) (more (boolean false) end))))) end) ∷ []))) end))) (more (boolean false) (more (boolean false) end))))))) (more (string (codes "method")) (more (boolean false) (more (boolean false) end))))) ∷ []))) end))) end))) ∷ []))) end))

-- the number of its nodes
abbrev pub nodes_arrow_in_a_parameter : ℕ
nodes_arrow_in_a_parameter = 24

-- `class C { constructor() { B.defineProperty(this, "x", 1); } m(a, g = () => a) { var b = a; return g(b); } }`
abbrev pub output_arrow_in_a_parameter : Tree
output_arrow_in_a_parameter = node Kind.Program 0 (more (string (codes "script")) (more (list (trees (node Kind.ClassDeclaration 1 (more (child (node Kind.BindingIdentifier 2 (more (string (codes "C")) end))) (more absent (more (child (node Kind.ClassBody 3 (more (list (trees (node Kind.MethodDefinition 24 (more (child (node Kind.IdentifierName 25 (more (string (codes "constructor")) end))) (more (child (node Kind.FunctionExpression 26 (more absent (more (list end) (more (child (node Kind.BlockStatement 27 (more (list (trees (node Kind.ExpressionStatement 28 (more (child (node Kind.CallExpression 29 (more (child (node Kind.MemberExpression 30 (more (child (node Kind.IdentifierReference 31 (more (string (codes "babelHelpers")) end))) (more (child (node Kind.IdentifierName 32 (more (string (codes "defineProperty")) end))) (more (boolean false) (more (boolean false) end)))))) (more (list (trees (node Kind.ThisExpression 33 end ∷ node Kind.Literal 34 (more (literal (literal_value.String (codes "x") None)) end) ∷ node Kind.Literal 6 (more (literal (literal_value.Number (codes "1"))) end) ∷ []))) (more (boolean false) end))))) (more no_string end)) ∷ []))) end))) (more (boolean false) (more (boolean false) end))))))) (more (string (codes "constructor")) (more (boolean false) (more (boolean false) end))))) ∷ node Kind.MethodDefinition 7 (more (child (node Kind.IdentifierName 8 (more (string (codes "m")) end))) (more (child (node Kind.FunctionExpression 9 (more absent (more (list (trees (node Kind.BindingIdentifier 10 (more (string (codes "a")) end) ∷ node Kind.AssignmentPattern 11 (more (child (node Kind.BindingIdentifier 12 (more (string (codes "g")) end))) (more (child (node Kind.ArrowFunctionExpression 13 (more (list end) (more (child (node Kind.IdentifierReference 14 (more (string (codes "a")) end))) (more (boolean false) end))))) end)) ∷ []))) (more (child (node Kind.BlockStatement 15 (more (list (trees (node Kind.VariableDeclaration 16 (more (string (codes "var")) (more (list (trees (node Kind.VariableDeclarator 17 (more (child (node Kind.BindingIdentifier 18 (more (string (codes "b")) end))) (more (child (node Kind.IdentifierReference 19 (more (string (codes "a")) end))) end)) ∷ []))) end)) ∷ node Kind.ReturnStatement 20 (more (child (node Kind.CallExpression 21 (more (child (node Kind.IdentifierReference 22 (more (string (codes "g")) end))) (more (list (trees (node Kind.IdentifierReference 23 (more (string (codes "b")) end) ∷ []))) (more (boolean false) end))))) end) ∷ []))) end))) (more (boolean false) (more (boolean false) end))))))) (more (string (codes "method")) (more (boolean false) (more (boolean false) end))))) ∷ []))) end))) end))) ∷ []))) end))

abbrev pub generated_arrow_in_a_parameter : List LedgerEntry
generated_arrow_in_a_parameter = []

-- the numbers of its shapes
abbrev pub outside_arrow_in_a_parameter : List ℕ
outside_arrow_in_a_parameter = []

abbrev pub options_arrow_in_a_parameter : Options
options_arrow_in_a_parameter = options_of false (Some (record { loose = false })) false

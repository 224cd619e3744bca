-- Printed by tools/rows/witnesses.js.
use Rattle.std.specs.Prelude.{ℕ, List, [], ◌∷◌, false, codes, Some, None}
use Rattle.es_base.specs.Tree.{Tree, end, more, child, absent, list, string, no_string, boolean, literal, trees}
use Rattle.es_base.specs.declared.kind.Kind.{Kind}
use Rattle.es_base.specs.declared.ledger.GeneratedKind.{GeneratedKind}
use Rattle.es_base.specs.declared.ledger.LedgerEntry.{LedgerEntry}
use Rattle.es_base.specs.declared.literal.LiteralValue.TheVariants as literal_value
use Rattle.es_steps.specs.Generated.{node}
use Rattle.es_steps.specs.Options.{options_of}
use Rattle.es_steps.specs.declared.options.Options.{Options}

-- `var arguments = 1; class D { x = 1; m() { h(arguments); } }`
abbrev pub source_arguments_of_a_function_around : Tree
source_arguments_of_a_function_around = node Kind.Program 0 (more (string (codes "script")) (more (list (trees (node Kind.VariableDeclaration 1 (more (string (codes "var")) (more (list (trees (node Kind.VariableDeclarator 2 (more (child (node Kind.BindingIdentifier 3 (more (string (codes "arguments")) end))) (more (child (node Kind.Literal 4 (more (literal (literal_value.Number (codes "1"))) end))) end)) ∷ []))) end)) ∷ node Kind.ClassDeclaration 5 (more (child (node Kind.BindingIdentifier 6 (more (string (codes "D")) end))) (more absent (more (child (node Kind.ClassBody 7 (more (list (trees (node Kind.PropertyDefinition 8 (more (child (node Kind.IdentifierName 9 (more (string (codes "x")) end))) (more (child (node Kind.Literal 10 (more (literal (literal_value.Number (codes "1"))) end))) (more (boolean false) (more (boolean false) end)))) ∷ node Kind.MethodDefinition 11 (more (child (node Kind.IdentifierName 12 (more (string (codes "m")) end))) (more (child (node Kind.FunctionExpression 13 (more absent (more (list end) (more (child (node Kind.BlockStatement 14 (more (list (trees (node Kind.ExpressionStatement 15 (more (child (node Kind.CallExpression 16 (more (child (node Kind.IdentifierReference 17 (more (string (codes "h")) end))) (more (list (trees (node Kind.IdentifierReference 18 (more (string (codes "arguments")) end) ∷ []))) (more (boolean false) end))))) (more no_string end)) ∷ []))) end))) (more (boolean false) (more (boolean false) end))))))) (more (string (codes "method")) (more (boolean false) (more (boolean false) end))))) ∷ []))) end))) end))) ∷ []))) end))

-- `arguments` of a method, read in front of the class, where a `var` is spelled so, where `var arguments = 1; class D { constructor() { B.defineProperty(this, "x", 1); } m() { h(arguments); } }` is right
abbrev pub output_arguments_of_a_function_around : Tree
output_arguments_of_a_function_around = node Kind.Program 0 (more (string (codes "script")) (more (list (trees (node Kind.VariableDeclaration 1 (more (string (codes "var")) (more (list (trees (node Kind.VariableDeclarator 2 (more (child (node Kind.BindingIdentifier 3 (more (string (codes "arguments")) end))) (more (child (node Kind.Literal 4 (more (literal (literal_value.Number (codes "1"))) end))) end)) ∷ []))) end)) ∷ node Kind.VariableDeclaration 19 (more (string (codes "var")) (more (list (trees (node Kind.VariableDeclarator 20 (more (child (node Kind.BindingIdentifier 21 (more (string (codes "_t")) end))) (more absent end)) ∷ []))) end)) ∷ node Kind.ExpressionStatement 22 (more (child (node Kind.AssignmentExpression 23 (more (string (codes "=")) (more (child (node Kind.IdentifierReference 24 (more (string (codes "_t")) end))) (more (child (node Kind.IdentifierReference 18 (more (string (codes "arguments")) end))) end))))) (more no_string end)) ∷ node Kind.ClassDeclaration 5 (more (child (node Kind.BindingIdentifier 6 (more (string (codes "D")) end))) (more absent (more (child (node Kind.ClassBody 7 (more (list (trees (node Kind.MethodDefinition 25 (more (child (node Kind.IdentifierName 26 (more (string (codes "constructor")) end))) (more (child (node Kind.FunctionExpression 27 (more absent (more (list end) (more (child (node Kind.BlockStatement 28 (more (list (trees (node Kind.ExpressionStatement 29 (more (child (node Kind.CallExpression 30 (more (child (node Kind.MemberExpression 31 (more (child (node Kind.IdentifierReference 32 (more (string (codes "babelHelpers")) end))) (more (child (node Kind.IdentifierName 33 (more (string (codes "defineProperty")) end))) (more (boolean false) (more (boolean false) end)))))) (more (list (trees (node Kind.ThisExpression 34 end ∷ node Kind.Literal 35 (more (literal (literal_value.String (codes "x") None)) end) ∷ node Kind.Literal 10 (more (literal (literal_value.Number (codes "1"))) end) ∷ []))) (more (boolean false) end))))) (more no_string end)) ∷ []))) end))) (more (boolean false) (more (boolean false) end))))))) (more (string (codes "constructor")) (more (boolean false) (more (boolean false) end))))) ∷ node Kind.MethodDefinition 11 (more (child (node Kind.IdentifierName 12 (more (string (codes "m")) end))) (more (child (node Kind.FunctionExpression 13 (more absent (more (list end) (more (child (node Kind.BlockStatement 14 (more (list (trees (node Kind.ExpressionStatement 15 (more (child (node Kind.CallExpression 16 (more (child (node Kind.IdentifierReference 17 (more (string (codes "h")) end))) (more (list (trees (node Kind.IdentifierReference 36 (more (string (codes "_t")) end) ∷ []))) (more (boolean false) end))))) (more no_string end)) ∷ []))) end))) (more (boolean false) (more (boolean false) end))))))) (more (string (codes "method")) (more (boolean false) (more (boolean false) end))))) ∷ []))) end))) end))) ∷ []))) end))

abbrev pub generated_arguments_of_a_function_around : List LedgerEntry
generated_arguments_of_a_function_around = record { name = codes "_t"; kind = GeneratedKind.Temp } ∷ []

abbrev pub options_arguments_of_a_function_around : Options
options_arguments_of_a_function_around = options_of false (Some (record { loose = false })) false

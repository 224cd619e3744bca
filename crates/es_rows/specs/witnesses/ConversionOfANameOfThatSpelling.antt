-- Printed by tools/rows/witnesses.js.
use Rattle.std.specs.Prelude.{ℕ, List, [], ◌∷◌, true, false, codes, Some, None}
use Rattle.es_base.specs.Tree.{Tree, end, more, child, absent, list, string, no_string, boolean, literal, trees}
use Rattle.es_base.specs.declared.kind.Kind.{Kind}
use Rattle.es_base.specs.declared.ledger.LedgerEntry.{LedgerEntry}
use Rattle.es_base.specs.declared.literal.LiteralValue.TheVariants as literal_value
use Rattle.es_steps.specs.Generated.{node}
use Rattle.es_steps.specs.Options.{options_of}
use Rattle.es_steps.specs.declared.options.Options.{Options}

-- `const a = "m"; class A { [a]() {} x = 1; w(a) { g(a); } } new A().w(o());`
abbrev pub source_conversion_of_a_name_of_that_spelling : Tree
source_conversion_of_a_name_of_that_spelling = node Kind.Program 0 (more (string (codes "script")) (more (list (trees (node Kind.VariableDeclaration 1 (more (string (codes "const")) (more (list (trees (node Kind.VariableDeclarator 2 (more (child (node Kind.BindingIdentifier 3 (more (string (codes "a")) end))) (more (child (node Kind.Literal 4 (more (literal (literal_value.String (codes "m") (Some (codes "\"m\"")))) end))) end)) ∷ []))) end)) ∷ node Kind.ClassDeclaration 5 (more (child (node Kind.BindingIdentifier 6 (more (string (codes "A")) end))) (more absent (more (child (node Kind.ClassBody 7 (more (list (trees (node Kind.MethodDefinition 8 (more (child (node Kind.IdentifierReference 9 (more (string (codes "a")) end))) (more (child (node Kind.FunctionExpression 10 (more absent (more (list end) (more (child (node Kind.BlockStatement 11 (more (list end) end))) (more (boolean false) (more (boolean false) end))))))) (more (string (codes "method")) (more (boolean true) (more (boolean false) end))))) ∷ node Kind.PropertyDefinition 12 (more (child (node Kind.IdentifierName 13 (more (string (codes "x")) end))) (more (child (node Kind.Literal 14 (more (literal (literal_value.Number (codes "1"))) end))) (more (boolean false) (more (boolean false) end)))) ∷ node Kind.MethodDefinition 15 (more (child (node Kind.IdentifierName 16 (more (string (codes "w")) end))) (more (child (node Kind.FunctionExpression 17 (more absent (more (list (trees (node Kind.BindingIdentifier 18 (more (string (codes "a")) end) ∷ []))) (more (child (node Kind.BlockStatement 19 (more (list (trees (node Kind.ExpressionStatement 20 (more (child (node Kind.CallExpression 21 (more (child (node Kind.IdentifierReference 22 (more (string (codes "g")) end))) (more (list (trees (node Kind.IdentifierReference 23 (more (string (codes "a")) end) ∷ []))) (more (boolean false) end))))) (more no_string end)) ∷ []))) end))) (more (boolean false) (more (boolean false) end))))))) (more (string (codes "method")) (more (boolean false) (more (boolean false) end))))) ∷ []))) end))) end))) ∷ node Kind.ExpressionStatement 24 (more (child (node Kind.CallExpression 25 (more (child (node Kind.MemberExpression 26 (more (child (node Kind.NewExpression 27 (more (child (node Kind.IdentifierReference 28 (more (string (codes "A")) end))) (more (list end) end)))) (more (child (node Kind.IdentifierName 29 (more (string (codes "w")) end))) (more (boolean false) (more (boolean false) end)))))) (more (list (trees (node Kind.CallExpression 30 (more (child (node Kind.IdentifierReference 31 (more (string (codes "o")) end))) (more (list end) (more (boolean false) end))) ∷ []))) (more (boolean false) end))))) (more no_string end)) ∷ []))) end))

-- a conversion of another name of the spelling of a key, with its number, where `const a = "m"; class A { constructor() { B.defineProperty(this, "x", 1); } [a]() {} w(a) { g(a); } } new A().w(o());` is right
abbrev pub output_conversion_of_a_name_of_that_spelling : Tree
output_conversion_of_a_name_of_that_spelling = node Kind.Program 0 (more (string (codes "script")) (more (list (trees (node Kind.VariableDeclaration 1 (more (string (codes "const")) (more (list (trees (node Kind.VariableDeclarator 2 (more (child (node Kind.BindingIdentifier 3 (more (string (codes "a")) end))) (more (child (node Kind.Literal 4 (more (literal (literal_value.String (codes "m") (Some (codes "\"m\"")))) end))) end)) ∷ []))) end)) ∷ node Kind.ClassDeclaration 5 (more (child (node Kind.BindingIdentifier 6 (more (string (codes "A")) end))) (more absent (more (child (node Kind.ClassBody 7 (more (list (trees (node Kind.MethodDefinition 32 (more (child (node Kind.IdentifierName 33 (more (string (codes "constructor")) end))) (more (child (node Kind.FunctionExpression 34 (more absent (more (list end) (more (child (node Kind.BlockStatement 35 (more (list (trees (node Kind.ExpressionStatement 36 (more (child (node Kind.CallExpression 37 (more (child (node Kind.MemberExpression 38 (more (child (node Kind.IdentifierReference 39 (more (string (codes "babelHelpers")) end))) (more (child (node Kind.IdentifierName 40 (more (string (codes "defineProperty")) end))) (more (boolean false) (more (boolean false) end)))))) (more (list (trees (node Kind.ThisExpression 41 end ∷ node Kind.Literal 42 (more (literal (literal_value.String (codes "x") None)) end) ∷ node Kind.Literal 14 (more (literal (literal_value.Number (codes "1"))) end) ∷ []))) (more (boolean false) end))))) (more no_string end)) ∷ []))) end))) (more (boolean false) (more (boolean false) end))))))) (more (string (codes "constructor")) (more (boolean false) (more (boolean false) end))))) ∷ node Kind.MethodDefinition 8 (more (child (node Kind.IdentifierReference 43 (more (string (codes "a")) end))) (more (child (node Kind.FunctionExpression 10 (more absent (more (list end) (more (child (node Kind.BlockStatement 11 (more (list end) end))) (more (boolean false) (more (boolean false) end))))))) (more (string (codes "method")) (more (boolean true) (more (boolean false) end))))) ∷ node Kind.MethodDefinition 15 (more (child (node Kind.IdentifierName 16 (more (string (codes "w")) end))) (more (child (node Kind.FunctionExpression 17 (more absent (more (list (trees (node Kind.BindingIdentifier 18 (more (string (codes "a")) end) ∷ []))) (more (child (node Kind.BlockStatement 19 (more (list (trees (node Kind.ExpressionStatement 44 (more (child (node Kind.CallExpression 45 (more (child (node Kind.MemberExpression 46 (more (child (node Kind.IdentifierReference 47 (more (string (codes "babelHelpers")) end))) (more (child (node Kind.IdentifierName 48 (more (string (codes "toPropertyKey")) end))) (more (boolean false) (more (boolean false) end)))))) (more (list (trees (node Kind.IdentifierReference 9 (more (string (codes "a")) end) ∷ []))) (more (boolean false) end))))) (more no_string end)) ∷ node Kind.ExpressionStatement 20 (more (child (node Kind.CallExpression 21 (more (child (node Kind.IdentifierReference 22 (more (string (codes "g")) end))) (more (list (trees (node Kind.IdentifierReference 23 (more (string (codes "a")) end) ∷ []))) (more (boolean false) end))))) (more no_string end)) ∷ []))) end))) (more (boolean false) (more (boolean false) end))))))) (more (string (codes "method")) (more (boolean false) (more (boolean false) end))))) ∷ []))) end))) end))) ∷ node Kind.ExpressionStatement 24 (more (child (node Kind.CallExpression 25 (more (child (node Kind.MemberExpression 26 (more (child (node Kind.NewExpression 27 (more (child (node Kind.IdentifierReference 28 (more (string (codes "A")) end))) (more (list end) end)))) (more (child (node Kind.IdentifierName 29 (more (string (codes "w")) end))) (more (boolean false) (more (boolean false) end)))))) (more (list (trees (node Kind.CallExpression 30 (more (child (node Kind.IdentifierReference 31 (more (string (codes "o")) end))) (more (list end) (more (boolean false) end))) ∷ []))) (more (boolean false) end))))) (more no_string end)) ∷ []))) end))

abbrev pub generated_conversion_of_a_name_of_that_spelling : List LedgerEntry
generated_conversion_of_a_name_of_that_spelling = []

abbrev pub options_conversion_of_a_name_of_that_spelling : Options
options_conversion_of_a_name_of_that_spelling = options_of false (Some (record { loose = false })) false

-- Printed by tools/rows/witnesses.js.
use Rattle.std.specs.Prelude.{ℕ, List, [], ◌∷◌, true, false, codes, Some, None}
use Rattle.es_base.specs.Tree.{Tree, end, more, child, absent, list, string, no_string, boolean, literal, trees}
use Rattle.es_base.specs.declared.kind.Kind.{Kind}
use Rattle.es_base.specs.declared.ledger.LedgerEntry.{LedgerEntry}
use Rattle.es_base.specs.declared.literal.LiteralValue.TheVariants as literal_value
use Rattle.es_steps.specs.Generated.{node}
use Rattle.es_steps.specs.Options.{options_of}
use Rattle.es_steps.specs.declared.options.Options.{Options}

-- `const a = "m", o = { toString() { g("conv"); return "z"; } }; class A { [a]() {} x = 1; }`
abbrev pub source_conversion_with_the_number_of_a_key : Tree
source_conversion_with_the_number_of_a_key = node Kind.Program 0 (more (string (codes "script")) (more (list (trees (node Kind.VariableDeclaration 1 (more (string (codes "const")) (more (list (trees (node Kind.VariableDeclarator 2 (more (child (node Kind.BindingIdentifier 3 (more (string (codes "a")) end))) (more (child (node Kind.Literal 4 (more (literal (literal_value.String (codes "m") (Some (codes "\"m\"")))) end))) end)) ∷ node Kind.VariableDeclarator 5 (more (child (node Kind.BindingIdentifier 6 (more (string (codes "o")) end))) (more (child (node Kind.ObjectExpression 7 (more (list (trees (node Kind.Property 8 (more (child (node Kind.IdentifierName 9 (more (string (codes "toString")) end))) (more (child (node Kind.FunctionExpression 10 (more absent (more (list end) (more (child (node Kind.BlockStatement 11 (more (list (trees (node Kind.ExpressionStatement 12 (more (child (node Kind.CallExpression 13 (more (child (node Kind.IdentifierReference 14 (more (string (codes "g")) end))) (more (list (trees (node Kind.Literal 15 (more (literal (literal_value.String (codes "conv") (Some (codes "\"conv\"")))) end) ∷ []))) (more (boolean false) end))))) (more no_string end)) ∷ node Kind.ReturnStatement 16 (more (child (node Kind.Literal 17 (more (literal (literal_value.String (codes "z") (Some (codes "\"z\"")))) end))) end) ∷ []))) end))) (more (boolean false) (more (boolean false) end))))))) (more (string (codes "init")) (more (boolean true) (more (boolean false) (more (boolean false) end)))))) ∷ []))) end))) end)) ∷ []))) end)) ∷ node Kind.ClassDeclaration 18 (more (child (node Kind.BindingIdentifier 19 (more (string (codes "A")) end))) (more absent (more (child (node Kind.ClassBody 20 (more (list (trees (node Kind.MethodDefinition 21 (more (child (node Kind.IdentifierReference 22 (more (string (codes "a")) end))) (more (child (node Kind.FunctionExpression 23 (more absent (more (list end) (more (child (node Kind.BlockStatement 24 (more (list end) end))) (more (boolean false) (more (boolean false) end))))))) (more (string (codes "method")) (more (boolean true) (more (boolean false) end))))) ∷ node Kind.PropertyDefinition 25 (more (child (node Kind.IdentifierName 26 (more (string (codes "x")) end))) (more (child (node Kind.Literal 27 (more (literal (literal_value.Number (codes "1"))) end))) (more (boolean false) (more (boolean false) end)))) ∷ []))) end))) end))) ∷ []))) end))

-- a conversion of what is no key, by the number of one: `const a = "m", o = { toString() { g("conv"); return "z"; } }; class A { constructor() { B.defineProperty(this, "x", 1); } [a]() {} } B.toPropertyKey(o);`
abbrev pub output_conversion_with_the_number_of_a_key : Tree
output_conversion_with_the_number_of_a_key = node Kind.Program 0 (more (string (codes "script")) (more (list (trees (node Kind.VariableDeclaration 1 (more (string (codes "const")) (more (list (trees (node Kind.VariableDeclarator 2 (more (child (node Kind.BindingIdentifier 3 (more (string (codes "a")) end))) (more (child (node Kind.Literal 4 (more (literal (literal_value.String (codes "m") (Some (codes "\"m\"")))) end))) end)) ∷ node Kind.VariableDeclarator 5 (more (child (node Kind.BindingIdentifier 6 (more (string (codes "o")) end))) (more (child (node Kind.ObjectExpression 7 (more (list (trees (node Kind.Property 8 (more (child (node Kind.IdentifierName 9 (more (string (codes "toString")) end))) (more (child (node Kind.FunctionExpression 10 (more absent (more (list end) (more (child (node Kind.BlockStatement 11 (more (list (trees (node Kind.ExpressionStatement 12 (more (child (node Kind.CallExpression 13 (more (child (node Kind.IdentifierReference 14 (more (string (codes "g")) end))) (more (list (trees (node Kind.Literal 15 (more (literal (literal_value.String (codes "conv") (Some (codes "\"conv\"")))) end) ∷ []))) (more (boolean false) end))))) (more no_string end)) ∷ node Kind.ReturnStatement 16 (more (child (node Kind.Literal 17 (more (literal (literal_value.String (codes "z") (Some (codes "\"z\"")))) end))) end) ∷ []))) end))) (more (boolean false) (more (boolean false) end))))))) (more (string (codes "init")) (more (boolean true) (more (boolean false) (more (boolean false) end)))))) ∷ []))) end))) end)) ∷ []))) end)) ∷ node Kind.ClassDeclaration 18 (more (child (node Kind.BindingIdentifier 19 (more (string (codes "A")) end))) (more absent (more (child (node Kind.ClassBody 20 (more (list (trees (node Kind.MethodDefinition 28 (more (child (node Kind.IdentifierName 29 (more (string (codes "constructor")) end))) (more (child (node Kind.FunctionExpression 30 (more absent (more (list end) (more (child (node Kind.BlockStatement 31 (more (list (trees (node Kind.ExpressionStatement 32 (more (child (node Kind.CallExpression 33 (more (child (node Kind.MemberExpression 34 (more (child (node Kind.IdentifierReference 35 (more (string (codes "babelHelpers")) end))) (more (child (node Kind.IdentifierName 36 (more (string (codes "defineProperty")) end))) (more (boolean false) (more (boolean false) end)))))) (more (list (trees (node Kind.ThisExpression 37 end ∷ node Kind.Literal 38 (more (literal (literal_value.String (codes "x") None)) end) ∷ node Kind.Literal 27 (more (literal (literal_value.Number (codes "1"))) end) ∷ []))) (more (boolean false) end))))) (more no_string end)) ∷ []))) end))) (more (boolean false) (more (boolean false) end))))))) (more (string (codes "constructor")) (more (boolean false) (more (boolean false) end))))) ∷ node Kind.MethodDefinition 21 (more (child (node Kind.IdentifierReference 39 (more (string (codes "a")) end))) (more (child (node Kind.FunctionExpression 23 (more absent (more (list end) (more (child (node Kind.BlockStatement 24 (more (list end) end))) (more (boolean false) (more (boolean false) end))))))) (more (string (codes "method")) (more (boolean true) (more (boolean false) end))))) ∷ []))) end))) end))) ∷ node Kind.ExpressionStatement 40 (more (child (node Kind.CallExpression 41 (more (child (node Kind.MemberExpression 42 (more (child (node Kind.IdentifierReference 43 (more (string (codes "babelHelpers")) end))) (more (child (node Kind.IdentifierName 44 (more (string (codes "toPropertyKey")) end))) (more (boolean false) (more (boolean false) end)))))) (more (list (trees (node Kind.IdentifierReference 22 (more (string (codes "o")) end) ∷ []))) (more (boolean false) end))))) (more no_string end)) ∷ []))) end))

abbrev pub generated_conversion_with_the_number_of_a_key : List LedgerEntry
generated_conversion_with_the_number_of_a_key = []

abbrev pub options_conversion_with_the_number_of_a_key : Options
options_conversion_with_the_number_of_a_key = options_of false (Some (record { loose = false })) false

-- Printed by tools/rows/witnesses.js.
use Rattle.std.specs.Prelude.{ℕ, List, [], ◌∷◌, true, false, codes, Some, None}
use Rattle.es_base.specs.Tree.{Tree, end, more, child, absent, list, string, no_string, boolean, literal, trees}
use Rattle.es_base.specs.declared.kind.Kind.{Kind}
use Rattle.es_base.specs.declared.ledger.LedgerEntry.{LedgerEntry}
use Rattle.es_base.specs.declared.literal.LiteralValue.TheVariants as literal_value
use Rattle.es_steps.specs.Generated.{node}
use Rattle.es_steps.specs.Options.{options_of}
use Rattle.es_steps.specs.declared.options.Options.{Options}

-- `class A { [(0, "m")]() {} x = 1; w(a) { g(a); } } new A().w(o());`
abbrev pub source_conversion_of_a_sequence_with_the_number_of_a_key : Tree
source_conversion_of_a_sequence_with_the_number_of_a_key = node Kind.Program 0 (more (string (codes "script")) (more (list (trees (node Kind.ClassDeclaration 1 (more (child (node Kind.BindingIdentifier 2 (more (string (codes "A")) end))) (more absent (more (child (node Kind.ClassBody 3 (more (list (trees (node Kind.MethodDefinition 4 (more (child (node Kind.SequenceExpression 5 (more (list (trees (node Kind.Literal 6 (more (literal (literal_value.Number (codes "0"))) end) ∷ node Kind.Literal 7 (more (literal (literal_value.String (codes "m") (Some (codes "\"m\"")))) end) ∷ []))) end))) (more (child (node Kind.FunctionExpression 8 (more absent (more (list end) (more (child (node Kind.BlockStatement 9 (more (list end) end))) (more (boolean false) (more (boolean false) end))))))) (more (string (codes "method")) (more (boolean true) (more (boolean false) end))))) ∷ node Kind.PropertyDefinition 10 (more (child (node Kind.IdentifierName 11 (more (string (codes "x")) end))) (more (child (node Kind.Literal 12 (more (literal (literal_value.Number (codes "1"))) end))) (more (boolean false) (more (boolean false) end)))) ∷ node Kind.MethodDefinition 13 (more (child (node Kind.IdentifierName 14 (more (string (codes "w")) end))) (more (child (node Kind.FunctionExpression 15 (more absent (more (list (trees (node Kind.BindingIdentifier 16 (more (string (codes "a")) end) ∷ []))) (more (child (node Kind.BlockStatement 17 (more (list (trees (node Kind.ExpressionStatement 18 (more (child (node Kind.CallExpression 19 (more (child (node Kind.IdentifierReference 20 (more (string (codes "g")) end))) (more (list (trees (node Kind.IdentifierReference 21 (more (string (codes "a")) end) ∷ []))) (more (boolean false) end))))) (more no_string end)) ∷ []))) end))) (more (boolean false) (more (boolean false) end))))))) (more (string (codes "method")) (more (boolean false) (more (boolean false) end))))) ∷ []))) end))) end))) ∷ node Kind.ExpressionStatement 22 (more (child (node Kind.CallExpression 23 (more (child (node Kind.MemberExpression 24 (more (child (node Kind.NewExpression 25 (more (child (node Kind.IdentifierReference 26 (more (string (codes "A")) end))) (more (list end) end)))) (more (child (node Kind.IdentifierName 27 (more (string (codes "w")) end))) (more (boolean false) (more (boolean false) end)))))) (more (list (trees (node Kind.CallExpression 28 (more (child (node Kind.IdentifierReference 29 (more (string (codes "o")) end))) (more (list end) (more (boolean false) end))) ∷ []))) (more (boolean false) end))))) (more no_string end)) ∷ []))) end))

-- a conversion of another sequence, with the number of a key, where `class A { constructor() { B.defineProperty(this, "x", 1); } [(0, "m")]() {} w(a) { g(a); } } new A().w(o());` is right
abbrev pub output_conversion_of_a_sequence_with_the_number_of_a_key : Tree
output_conversion_of_a_sequence_with_the_number_of_a_key = node Kind.Program 0 (more (string (codes "script")) (more (list (trees (node Kind.ClassDeclaration 1 (more (child (node Kind.BindingIdentifier 2 (more (string (codes "A")) end))) (more absent (more (child (node Kind.ClassBody 3 (more (list (trees (node Kind.MethodDefinition 30 (more (child (node Kind.IdentifierName 31 (more (string (codes "constructor")) end))) (more (child (node Kind.FunctionExpression 32 (more absent (more (list end) (more (child (node Kind.BlockStatement 33 (more (list (trees (node Kind.ExpressionStatement 34 (more (child (node Kind.CallExpression 35 (more (child (node Kind.MemberExpression 36 (more (child (node Kind.IdentifierReference 37 (more (string (codes "babelHelpers")) end))) (more (child (node Kind.IdentifierName 38 (more (string (codes "defineProperty")) end))) (more (boolean false) (more (boolean false) end)))))) (more (list (trees (node Kind.ThisExpression 39 end ∷ node Kind.Literal 40 (more (literal (literal_value.String (codes "x") None)) end) ∷ node Kind.Literal 12 (more (literal (literal_value.Number (codes "1"))) end) ∷ []))) (more (boolean false) end))))) (more no_string end)) ∷ []))) end))) (more (boolean false) (more (boolean false) end))))))) (more (string (codes "constructor")) (more (boolean false) (more (boolean false) end))))) ∷ node Kind.MethodDefinition 4 (more (child (node Kind.SequenceExpression 41 (more (list (trees (node Kind.Literal 6 (more (literal (literal_value.Number (codes "0"))) end) ∷ node Kind.Literal 7 (more (literal (literal_value.String (codes "m") (Some (codes "\"m\"")))) end) ∷ []))) end))) (more (child (node Kind.FunctionExpression 8 (more absent (more (list end) (more (child (node Kind.BlockStatement 9 (more (list end) end))) (more (boolean false) (more (boolean false) end))))))) (more (string (codes "method")) (more (boolean true) (more (boolean false) end))))) ∷ node Kind.MethodDefinition 13 (more (child (node Kind.IdentifierName 14 (more (string (codes "w")) end))) (more (child (node Kind.FunctionExpression 15 (more absent (more (list (trees (node Kind.BindingIdentifier 16 (more (string (codes "a")) end) ∷ []))) (more (child (node Kind.BlockStatement 17 (more (list (trees (node Kind.ExpressionStatement 42 (more (child (node Kind.CallExpression 43 (more (child (node Kind.MemberExpression 44 (more (child (node Kind.IdentifierReference 45 (more (string (codes "babelHelpers")) end))) (more (child (node Kind.IdentifierName 46 (more (string (codes "toPropertyKey")) end))) (more (boolean false) (more (boolean false) end)))))) (more (list (trees (node Kind.SequenceExpression 5 (more (list (trees (node Kind.Literal 47 (more (literal (literal_value.Number (codes "0"))) end) ∷ node Kind.IdentifierReference 48 (more (string (codes "a")) end) ∷ []))) end) ∷ []))) (more (boolean false) end))))) (more no_string end)) ∷ node Kind.ExpressionStatement 18 (more (child (node Kind.CallExpression 19 (more (child (node Kind.IdentifierReference 20 (more (string (codes "g")) end))) (more (list (trees (node Kind.IdentifierReference 21 (more (string (codes "a")) end) ∷ []))) (more (boolean false) end))))) (more no_string end)) ∷ []))) end))) (more (boolean false) (more (boolean false) end))))))) (more (string (codes "method")) (more (boolean false) (more (boolean false) end))))) ∷ []))) end))) end))) ∷ node Kind.ExpressionStatement 22 (more (child (node Kind.CallExpression 23 (more (child (node Kind.MemberExpression 24 (more (child (node Kind.NewExpression 25 (more (child (node Kind.IdentifierReference 26 (more (string (codes "A")) end))) (more (list end) end)))) (more (child (node Kind.IdentifierName 27 (more (string (codes "w")) end))) (more (boolean false) (more (boolean false) end)))))) (more (list (trees (node Kind.CallExpression 28 (more (child (node Kind.IdentifierReference 29 (more (string (codes "o")) end))) (more (list end) (more (boolean false) end))) ∷ []))) (more (boolean false) end))))) (more no_string end)) ∷ []))) end))

abbrev pub generated_conversion_of_a_sequence_with_the_number_of_a_key : List LedgerEntry
generated_conversion_of_a_sequence_with_the_number_of_a_key = []

abbrev pub options_conversion_of_a_sequence_with_the_number_of_a_key : Options
options_conversion_of_a_sequence_with_the_number_of_a_key = options_of false (Some (record { loose = false })) false

-- Printed by tools/rows/witnesses.js.
use Rattle.std.specs.Prelude.{ℕ, List, [], ◌∷◌, true, false, codes, Some, None}
use Rattle.es_base.specs.Tree.{Tree, end, more, child, absent, list, string, no_string, boolean, literal, trees}
use Rattle.es_base.specs.declared.kind.Kind.{Kind}
use Rattle.es_base.specs.declared.ledger.GeneratedKind.{GeneratedKind}
use Rattle.es_base.specs.declared.ledger.LedgerEntry.{LedgerEntry}
use Rattle.es_base.specs.declared.literal.LiteralValue.TheVariants as literal_value
use Rattle.es_steps.specs.Generated.{node}
use Rattle.es_steps.specs.Options.{options_of}
use Rattle.es_steps.specs.declared.options.Options.{Options}

-- `const a = "m"; f(o(), class { [a]() {} x = 1; });`
abbrev pub source_conversion_of_a_name_with_the_number_of_a_key : Tree
source_conversion_of_a_name_with_the_number_of_a_key = node Kind.Program 0 (more (string (codes "script")) (more (list (trees (node Kind.VariableDeclaration 1 (more (string (codes "const")) (more (list (trees (node Kind.VariableDeclarator 2 (more (child (node Kind.BindingIdentifier 3 (more (string (codes "a")) end))) (more (child (node Kind.Literal 4 (more (literal (literal_value.String (codes "m") (Some (codes "\"m\"")))) end))) end)) ∷ []))) end)) ∷ node Kind.ExpressionStatement 5 (more (child (node Kind.CallExpression 6 (more (child (node Kind.IdentifierReference 7 (more (string (codes "f")) end))) (more (list (trees (node Kind.CallExpression 8 (more (child (node Kind.IdentifierReference 9 (more (string (codes "o")) end))) (more (list end) (more (boolean false) end))) ∷ node Kind.ClassExpression 10 (more absent (more absent (more (child (node Kind.ClassBody 11 (more (list (trees (node Kind.MethodDefinition 12 (more (child (node Kind.IdentifierReference 13 (more (string (codes "a")) end))) (more (child (node Kind.FunctionExpression 14 (more absent (more (list end) (more (child (node Kind.BlockStatement 15 (more (list end) end))) (more (boolean false) (more (boolean false) end))))))) (more (string (codes "method")) (more (boolean true) (more (boolean false) end))))) ∷ node Kind.PropertyDefinition 16 (more (child (node Kind.IdentifierName 17 (more (string (codes "x")) end))) (more (child (node Kind.Literal 18 (more (literal (literal_value.Number (codes "1"))) end))) (more (boolean false) (more (boolean false) end)))) ∷ []))) end))) end))) ∷ []))) (more (boolean false) end))))) (more no_string end)) ∷ []))) end))

-- a conversion of another value by a name that has the number of a key: `const a = "m"; var _t; f(_t = o(), (B.toPropertyKey(_t), class { constructor() { B.defineProperty(this, "x", 1); } [a]() {} }));`
abbrev pub output_conversion_of_a_name_with_the_number_of_a_key : Tree
output_conversion_of_a_name_with_the_number_of_a_key = node Kind.Program 0 (more (string (codes "script")) (more (list (trees (node Kind.VariableDeclaration 1 (more (string (codes "const")) (more (list (trees (node Kind.VariableDeclarator 2 (more (child (node Kind.BindingIdentifier 3 (more (string (codes "a")) end))) (more (child (node Kind.Literal 4 (more (literal (literal_value.String (codes "m") (Some (codes "\"m\"")))) end))) end)) ∷ []))) end)) ∷ node Kind.VariableDeclaration 19 (more (string (codes "var")) (more (list (trees (node Kind.VariableDeclarator 20 (more (child (node Kind.BindingIdentifier 21 (more (string (codes "_t")) end))) (more absent end)) ∷ []))) end)) ∷ node Kind.ExpressionStatement 5 (more (child (node Kind.CallExpression 6 (more (child (node Kind.IdentifierReference 7 (more (string (codes "f")) end))) (more (list (trees (node Kind.AssignmentExpression 22 (more (string (codes "=")) (more (child (node Kind.IdentifierReference 23 (more (string (codes "_t")) end))) (more (child (node Kind.CallExpression 8 (more (child (node Kind.IdentifierReference 9 (more (string (codes "o")) end))) (more (list end) (more (boolean false) end))))) end))) ∷ node Kind.SequenceExpression 24 (more (list (trees (node Kind.CallExpression 25 (more (child (node Kind.MemberExpression 26 (more (child (node Kind.IdentifierReference 27 (more (string (codes "babelHelpers")) end))) (more (child (node Kind.IdentifierName 28 (more (string (codes "toPropertyKey")) end))) (more (boolean false) (more (boolean false) end)))))) (more (list (trees (node Kind.IdentifierReference 13 (more (string (codes "_t")) end) ∷ []))) (more (boolean false) end))) ∷ node Kind.ClassExpression 10 (more absent (more absent (more (child (node Kind.ClassBody 11 (more (list (trees (node Kind.MethodDefinition 29 (more (child (node Kind.IdentifierName 30 (more (string (codes "constructor")) end))) (more (child (node Kind.FunctionExpression 31 (more absent (more (list end) (more (child (node Kind.BlockStatement 32 (more (list (trees (node Kind.ExpressionStatement 33 (more (child (node Kind.CallExpression 34 (more (child (node Kind.MemberExpression 35 (more (child (node Kind.IdentifierReference 36 (more (string (codes "babelHelpers")) end))) (more (child (node Kind.IdentifierName 37 (more (string (codes "defineProperty")) end))) (more (boolean false) (more (boolean false) end)))))) (more (list (trees (node Kind.ThisExpression 38 end ∷ node Kind.Literal 39 (more (literal (literal_value.String (codes "x") None)) end) ∷ node Kind.Literal 18 (more (literal (literal_value.Number (codes "1"))) end) ∷ []))) (more (boolean false) end))))) (more no_string end)) ∷ []))) end))) (more (boolean false) (more (boolean false) end))))))) (more (string (codes "constructor")) (more (boolean false) (more (boolean false) end))))) ∷ node Kind.MethodDefinition 12 (more (child (node Kind.IdentifierReference 40 (more (string (codes "a")) end))) (more (child (node Kind.FunctionExpression 14 (more absent (more (list end) (more (child (node Kind.BlockStatement 15 (more (list end) end))) (more (boolean false) (more (boolean false) end))))))) (more (string (codes "method")) (more (boolean true) (more (boolean false) end))))) ∷ []))) end))) end))) ∷ []))) end) ∷ []))) (more (boolean false) end))))) (more no_string end)) ∷ []))) end))

abbrev pub generated_conversion_of_a_name_with_the_number_of_a_key : List LedgerEntry
generated_conversion_of_a_name_with_the_number_of_a_key = record { name = codes "_t"; kind = GeneratedKind.Temp } ∷ []

abbrev pub options_conversion_of_a_name_with_the_number_of_a_key : Options
options_conversion_of_a_name_with_the_number_of_a_key = options_of false (Some (record { loose = false })) false

-- Printed by tools/rows/witnesses.js.
use Rattle.std.specs.Prelude.{ℕ, List, [], ◌∷◌, true, false, codes, Some, None}
use Rattle.es_base.specs.Tree.{Tree, end, more, child, absent, list, string, no_string, boolean, literal, trees}
use Rattle.es_base.specs.declared.kind.Kind.{Kind}
use Rattle.es_base.specs.declared.ledger.GeneratedKind.{GeneratedKind}
use Rattle.es_base.specs.declared.ledger.LedgerEntry.{LedgerEntry}
use Rattle.es_base.specs.declared.literal.LiteralValue.TheVariants as literal_value
use Rattle.es_steps.specs.Generated.{node}
use Rattle.es_steps.specs.Options.{options_of}
use Rattle.es_steps.specs.declared.options.Options.{Options}

-- `f(class D { static toString() { g(); return ""; } }, class { static { g(); } ["a"]() {} });`
abbrev pub source_conversion_of_a_class_that_a_key_names : Tree
source_conversion_of_a_class_that_a_key_names = node Kind.Program 0 (more (string (codes "script")) (more (list (trees (node Kind.ExpressionStatement 1 (more (child (node Kind.CallExpression 2 (more (child (node Kind.IdentifierReference 3 (more (string (codes "f")) end))) (more (list (trees (node Kind.ClassExpression 4 (more (child (node Kind.BindingIdentifier 5 (more (string (codes "D")) end))) (more absent (more (child (node Kind.ClassBody 6 (more (list (trees (node Kind.MethodDefinition 7 (more (child (node Kind.IdentifierName 8 (more (string (codes "toString")) end))) (more (child (node Kind.FunctionExpression 9 (more absent (more (list end) (more (child (node Kind.BlockStatement 10 (more (list (trees (node Kind.ExpressionStatement 11 (more (child (node Kind.CallExpression 12 (more (child (node Kind.IdentifierReference 13 (more (string (codes "g")) end))) (more (list end) (more (boolean false) end))))) (more no_string end)) ∷ node Kind.ReturnStatement 14 (more (child (node Kind.Literal 15 (more (literal (literal_value.String (codes "") (Some (codes "\"\"")))) end))) end) ∷ []))) end))) (more (boolean false) (more (boolean false) end))))))) (more (string (codes "method")) (more (boolean false) (more (boolean true) end))))) ∷ []))) end))) end))) ∷ node Kind.ClassExpression 16 (more absent (more absent (more (child (node Kind.ClassBody 17 (more (list (trees (node Kind.StaticBlock 18 (more (list (trees (node Kind.ExpressionStatement 19 (more (child (node Kind.CallExpression 20 (more (child (node Kind.IdentifierReference 21 (more (string (codes "g")) end))) (more (list end) (more (boolean false) end))))) (more no_string end)) ∷ []))) end) ∷ node Kind.MethodDefinition 22 (more (child (node Kind.Literal 23 (more (literal (literal_value.String (codes "a") (Some (codes "\"a\"")))) end))) (more (child (node Kind.FunctionExpression 24 (more absent (more (list end) (more (child (node Kind.BlockStatement 25 (more (list end) end))) (more (boolean false) (more (boolean false) end))))))) (more (string (codes "method")) (more (boolean true) (more (boolean false) end))))) ∷ []))) end))) end))) ∷ []))) (more (boolean false) end))))) (more no_string end)) ∷ []))) end))

-- a conversion of a class that is named by a copy of a key: `var _u; f((B.toPropertyKey(_u = B.setFunctionName(class D { static toString() { g(); return ""; } }, "a")), _u), class { static #_ = g(); ["a"]() {} });`
abbrev pub output_conversion_of_a_class_that_a_key_names : Tree
output_conversion_of_a_class_that_a_key_names = node Kind.Program 0 (more (string (codes "script")) (more (list (trees (node Kind.VariableDeclaration 26 (more (string (codes "var")) (more (list (trees (node Kind.VariableDeclarator 27 (more (child (node Kind.BindingIdentifier 28 (more (string (codes "_u")) end))) (more absent end)) ∷ []))) end)) ∷ node Kind.ExpressionStatement 29 (more (child (node Kind.CallExpression 2 (more (child (node Kind.IdentifierReference 3 (more (string (codes "f")) end))) (more (list (trees (node Kind.SequenceExpression 30 (more (list (trees (node Kind.CallExpression 31 (more (child (node Kind.MemberExpression 32 (more (child (node Kind.IdentifierReference 33 (more (string (codes "babelHelpers")) end))) (more (child (node Kind.IdentifierName 34 (more (string (codes "toPropertyKey")) end))) (more (boolean false) (more (boolean false) end)))))) (more (list (trees (node Kind.AssignmentExpression 35 (more (string (codes "=")) (more (child (node Kind.IdentifierReference 36 (more (string (codes "_u")) end))) (more (child (node Kind.CallExpression 37 (more (child (node Kind.MemberExpression 38 (more (child (node Kind.IdentifierReference 39 (more (string (codes "babelHelpers")) end))) (more (child (node Kind.IdentifierName 40 (more (string (codes "setFunctionName")) end))) (more (boolean false) (more (boolean false) end)))))) (more (list (trees (node Kind.ClassExpression 4 (more (child (node Kind.BindingIdentifier 5 (more (string (codes "D")) end))) (more absent (more (child (node Kind.ClassBody 6 (more (list (trees (node Kind.MethodDefinition 7 (more (child (node Kind.IdentifierName 8 (more (string (codes "toString")) end))) (more (child (node Kind.FunctionExpression 9 (more absent (more (list end) (more (child (node Kind.BlockStatement 10 (more (list (trees (node Kind.ExpressionStatement 11 (more (child (node Kind.CallExpression 12 (more (child (node Kind.IdentifierReference 13 (more (string (codes "g")) end))) (more (list end) (more (boolean false) end))))) (more no_string end)) ∷ node Kind.ReturnStatement 14 (more (child (node Kind.Literal 15 (more (literal (literal_value.String (codes "") (Some (codes "\"\"")))) end))) end) ∷ []))) end))) (more (boolean false) (more (boolean false) end))))))) (more (string (codes "method")) (more (boolean false) (more (boolean true) end))))) ∷ []))) end))) end))) ∷ node Kind.Literal 23 (more (literal (literal_value.String (codes "a") (Some (codes "\"a\"")))) end) ∷ []))) (more (boolean false) end))))) end))) ∷ []))) (more (boolean false) end))) ∷ node Kind.IdentifierReference 41 (more (string (codes "_u")) end) ∷ []))) end) ∷ node Kind.ClassExpression 16 (more absent (more absent (more (child (node Kind.ClassBody 17 (more (list (trees (node Kind.PropertyDefinition 42 (more (child (node Kind.PrivateIdentifier 43 (more (string (codes "_")) end))) (more (child (node Kind.CallExpression 20 (more (child (node Kind.IdentifierReference 21 (more (string (codes "g")) end))) (more (list end) (more (boolean false) end))))) (more (boolean false) (more (boolean true) end)))) ∷ node Kind.MethodDefinition 22 (more (child (node Kind.Literal 44 (more (literal (literal_value.String (codes "a") None)) end))) (more (child (node Kind.FunctionExpression 24 (more absent (more (list end) (more (child (node Kind.BlockStatement 25 (more (list end) end))) (more (boolean false) (more (boolean false) end))))))) (more (string (codes "method")) (more (boolean true) (more (boolean false) end))))) ∷ []))) end))) end))) ∷ []))) (more (boolean false) end))))) (more no_string end)) ∷ []))) end))

abbrev pub generated_conversion_of_a_class_that_a_key_names : List LedgerEntry
generated_conversion_of_a_class_that_a_key_names = record { name = codes "_u"; kind = GeneratedKind.Temp } ∷ record { name = codes "_"; kind = GeneratedKind.Private (record { 0 = 16 }) } ∷ []

abbrev pub options_conversion_of_a_class_that_a_key_names : Options
options_conversion_of_a_class_that_a_key_names = options_of true None false

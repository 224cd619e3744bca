-- Printed by tools/rows/witnesses.js.
use Rattle.std.specs.Prelude.{ℕ, List, [], ◌∷◌, true, false, codes, Some, None}
use Rattle.es_base.specs.Tree.{Tree, end, more, child, absent, list, string, no_string, boolean, literal, trees}
use Rattle.es_base.specs.declared.kind.Kind.{Kind}
use Rattle.es_base.specs.declared.ledger.GeneratedKind.{GeneratedKind}
use Rattle.es_base.specs.declared.ledger.LedgerEntry.{LedgerEntry}
use Rattle.es_base.specs.declared.literal.LiteralValue.TheVariants as literal_value
use Rattle.es_steps.specs.Generated.{node}
use Rattle.es_steps.specs.Options.{options_of}
use Rattle.es_steps.specs.declared.options.Options.{Options}

-- `class A { static [o.p = babelHelpers.toPropertyKey(k)]() { } static { o.q !== "name" && this; } }`
abbrev pub source_test_of_a_member_of_the_source : Tree
source_test_of_a_member_of_the_source = node Kind.Program 0 (more (string (codes "script")) (more (list (trees (node Kind.ClassDeclaration 1 (more (child (node Kind.BindingIdentifier 2 (more (string (codes "A")) end))) (more absent (more (child (node Kind.ClassBody 3 (more (list (trees (node Kind.MethodDefinition 4 (more (child (node Kind.AssignmentExpression 5 (more (string (codes "=")) (more (child (node Kind.MemberExpression 6 (more (child (node Kind.IdentifierReference 7 (more (string (codes "o")) end))) (more (child (node Kind.IdentifierName 8 (more (string (codes "p")) end))) (more (boolean false) (more (boolean false) end)))))) (more (child (node Kind.CallExpression 9 (more (child (node Kind.MemberExpression 10 (more (child (node Kind.IdentifierReference 11 (more (string (codes "babelHelpers")) end))) (more (child (node Kind.IdentifierName 12 (more (string (codes "toPropertyKey")) end))) (more (boolean false) (more (boolean false) end)))))) (more (list (trees (node Kind.IdentifierReference 13 (more (string (codes "k")) end) ∷ []))) (more (boolean false) end))))) end))))) (more (child (node Kind.FunctionExpression 14 (more absent (more (list end) (more (child (node Kind.BlockStatement 15 (more (list end) end))) (more (boolean false) (more (boolean false) end))))))) (more (string (codes "method")) (more (boolean true) (more (boolean true) end))))) ∷ node Kind.StaticBlock 16 (more (list (trees (node Kind.ExpressionStatement 17 (more (child (node Kind.LogicalExpression 18 (more (string (codes "&&")) (more (child (node Kind.BinaryExpression 19 (more (string (codes "!==")) (more (child (node Kind.MemberExpression 20 (more (child (node Kind.IdentifierReference 21 (more (string (codes "o")) end))) (more (child (node Kind.IdentifierName 22 (more (string (codes "q")) end))) (more (boolean false) (more (boolean false) end)))))) (more (child (node Kind.Literal 23 (more (literal (literal_value.String (codes "name") (Some (codes "\"name\"")))) end))) end))))) (more (child (node Kind.ThisExpression 24 end)) end))))) (more no_string end)) ∷ []))) end) ∷ []))) end))) end))) ∷ []))) end))

-- a name that is given to a class behind a test of a member of the source, which is no key: `class A { static [o.p = babelHelpers.toPropertyKey(k)]() { } static #_ = o.q !== "name" && B.setFunctionName(this, "k"); }`
abbrev pub output_test_of_a_member_of_the_source : Tree
output_test_of_a_member_of_the_source = node Kind.Program 0 (more (string (codes "script")) (more (list (trees (node Kind.ClassDeclaration 1 (more (child (node Kind.BindingIdentifier 2 (more (string (codes "A")) end))) (more absent (more (child (node Kind.ClassBody 3 (more (list (trees (node Kind.MethodDefinition 4 (more (child (node Kind.AssignmentExpression 5 (more (string (codes "=")) (more (child (node Kind.MemberExpression 6 (more (child (node Kind.IdentifierReference 7 (more (string (codes "o")) end))) (more (child (node Kind.IdentifierName 8 (more (string (codes "p")) end))) (more (boolean false) (more (boolean false) end)))))) (more (child (node Kind.CallExpression 9 (more (child (node Kind.MemberExpression 10 (more (child (node Kind.IdentifierReference 11 (more (string (codes "babelHelpers")) end))) (more (child (node Kind.IdentifierName 12 (more (string (codes "toPropertyKey")) end))) (more (boolean false) (more (boolean false) end)))))) (more (list (trees (node Kind.IdentifierReference 13 (more (string (codes "k")) end) ∷ []))) (more (boolean false) end))))) end))))) (more (child (node Kind.FunctionExpression 14 (more absent (more (list end) (more (child (node Kind.BlockStatement 15 (more (list end) end))) (more (boolean false) (more (boolean false) end))))))) (more (string (codes "method")) (more (boolean true) (more (boolean true) end))))) ∷ node Kind.PropertyDefinition 25 (more (child (node Kind.PrivateIdentifier 26 (more (string (codes "_")) end))) (more (child (node Kind.LogicalExpression 18 (more (string (codes "&&")) (more (child (node Kind.BinaryExpression 19 (more (string (codes "!==")) (more (child (node Kind.MemberExpression 20 (more (child (node Kind.IdentifierReference 21 (more (string (codes "o")) end))) (more (child (node Kind.IdentifierName 22 (more (string (codes "q")) end))) (more (boolean false) (more (boolean false) end)))))) (more (child (node Kind.Literal 23 (more (literal (literal_value.String (codes "name") (Some (codes "\"name\"")))) end))) end))))) (more (child (node Kind.CallExpression 27 (more (child (node Kind.MemberExpression 28 (more (child (node Kind.IdentifierReference 29 (more (string (codes "babelHelpers")) end))) (more (child (node Kind.IdentifierName 30 (more (string (codes "setFunctionName")) end))) (more (boolean false) (more (boolean false) end)))))) (more (list (trees (node Kind.ThisExpression 31 end ∷ node Kind.Literal 32 (more (literal (literal_value.String (codes "k") None)) end) ∷ []))) (more (boolean false) end))))) end))))) (more (boolean false) (more (boolean true) end)))) ∷ []))) end))) end))) ∷ []))) end))

abbrev pub generated_test_of_a_member_of_the_source : List LedgerEntry
generated_test_of_a_member_of_the_source = record { name = codes "_"; kind = GeneratedKind.Private (record { 0 = 1 }) } ∷ []

abbrev pub options_test_of_a_member_of_the_source : Options
options_test_of_a_member_of_the_source = options_of true None false

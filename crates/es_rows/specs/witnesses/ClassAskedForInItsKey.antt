-- Printed by tools/rows/witnesses.js.
use Rattle.std.specs.Prelude.{ℕ, List, [], ◌∷◌, true, false, codes, Some}
use Rattle.es_base.specs.Tree.{Tree, end, more, child, absent, list, string, no_string, boolean, literal, trees}
use Rattle.es_base.specs.declared.kind.Kind.{Kind}
use Rattle.es_base.specs.declared.ledger.GeneratedKind.{GeneratedKind}
use Rattle.es_base.specs.declared.ledger.LedgerEntry.{LedgerEntry}
use Rattle.es_base.specs.declared.literal.LiteralValue.TheVariants as literal_value
use Rattle.es_steps.specs.Generated.{node}
use Rattle.es_steps.specs.Options.{options_of}
use Rattle.es_steps.specs.declared.options.Options.{Options}

-- `class A { static #x = 1; [k((o) => #x in o)]() {} }`
abbrev pub source_class_asked_for_in_its_key : Tree
source_class_asked_for_in_its_key = node Kind.Program 0 (more (string (codes "script")) (more (list (trees (node Kind.ClassDeclaration 1 (more (child (node Kind.BindingIdentifier 2 (more (string (codes "A")) end))) (more absent (more (child (node Kind.ClassBody 3 (more (list (trees (node Kind.PropertyDefinition 4 (more (child (node Kind.PrivateIdentifier 5 (more (string (codes "x")) end))) (more (child (node Kind.Literal 6 (more (literal (literal_value.Number (codes "1"))) end))) (more (boolean false) (more (boolean true) end)))) ∷ node Kind.MethodDefinition 7 (more (child (node Kind.CallExpression 8 (more (child (node Kind.IdentifierReference 9 (more (string (codes "k")) end))) (more (list (trees (node Kind.ArrowFunctionExpression 10 (more (list (trees (node Kind.BindingIdentifier 11 (more (string (codes "o")) end) ∷ []))) (more (child (node Kind.PrivateIn 12 (more (string (codes "in")) (more (child (node Kind.PrivateIdentifier 13 (more (string (codes "x")) end))) (more (child (node Kind.IdentifierReference 14 (more (string (codes "o")) end))) end))))) (more (boolean false) end))) ∷ []))) (more (boolean false) end))))) (more (child (node Kind.FunctionExpression 15 (more absent (more (list end) (more (child (node Kind.BlockStatement 16 (more (list end) end))) (more (boolean false) (more (boolean false) end))))))) (more (string (codes "method")) (more (boolean true) (more (boolean false) end))))) ∷ []))) end))) end))) ∷ []))) end))

-- the class in whose key an arrow asks for a static private member: `var _k; _k = k((o) => B.checkInRHS(o) === A); class A { [_k]() {} } var _x = { _: 1 };`
abbrev pub output_class_asked_for_in_its_key : Tree
output_class_asked_for_in_its_key = node Kind.Program 0 (more (string (codes "script")) (more (list (trees (node Kind.VariableDeclaration 17 (more (string (codes "var")) (more (list (trees (node Kind.VariableDeclarator 18 (more (child (node Kind.BindingIdentifier 19 (more (string (codes "_k")) end))) (more absent end)) ∷ []))) end)) ∷ node Kind.ExpressionStatement 20 (more (child (node Kind.AssignmentExpression 21 (more (string (codes "=")) (more (child (node Kind.IdentifierReference 22 (more (string (codes "_k")) end))) (more (child (node Kind.CallExpression 8 (more (child (node Kind.IdentifierReference 9 (more (string (codes "k")) end))) (more (list (trees (node Kind.ArrowFunctionExpression 10 (more (list (trees (node Kind.BindingIdentifier 11 (more (string (codes "o")) end) ∷ []))) (more (child (node Kind.BinaryExpression 12 (more (string (codes "===")) (more (child (node Kind.CallExpression 23 (more (child (node Kind.MemberExpression 24 (more (child (node Kind.IdentifierReference 25 (more (string (codes "babelHelpers")) end))) (more (child (node Kind.IdentifierName 26 (more (string (codes "checkInRHS")) end))) (more (boolean false) (more (boolean false) end)))))) (more (list (trees (node Kind.IdentifierReference 14 (more (string (codes "o")) end) ∷ []))) (more (boolean false) end))))) (more (child (node Kind.IdentifierReference 27 (more (string (codes "A")) end))) end))))) (more (boolean false) end))) ∷ []))) (more (boolean false) end))))) end))))) (more no_string end)) ∷ node Kind.ClassDeclaration 1 (more (child (node Kind.BindingIdentifier 2 (more (string (codes "A")) end))) (more absent (more (child (node Kind.ClassBody 3 (more (list (trees (node Kind.MethodDefinition 7 (more (child (node Kind.IdentifierReference 28 (more (string (codes "_k")) end))) (more (child (node Kind.FunctionExpression 15 (more absent (more (list end) (more (child (node Kind.BlockStatement 16 (more (list end) end))) (more (boolean false) (more (boolean false) end))))))) (more (string (codes "method")) (more (boolean true) (more (boolean false) end))))) ∷ []))) end))) end))) ∷ node Kind.VariableDeclaration 29 (more (string (codes "var")) (more (list (trees (node Kind.VariableDeclarator 30 (more (child (node Kind.BindingIdentifier 31 (more (string (codes "_x")) end))) (more (child (node Kind.ObjectExpression 32 (more (list (trees (node Kind.Property 33 (more (child (node Kind.IdentifierName 34 (more (string (codes "_")) end))) (more (child (node Kind.Literal 6 (more (literal (literal_value.Number (codes "1"))) end))) (more (string (codes "init")) (more (boolean false) (more (boolean false) (more (boolean false) end)))))) ∷ []))) end))) end)) ∷ []))) end)) ∷ []))) end))

abbrev pub generated_class_asked_for_in_its_key : List LedgerEntry
generated_class_asked_for_in_its_key = record { name = codes "_k"; kind = GeneratedKind.Temp } ∷ record { name = codes "_x"; kind = GeneratedKind.StaticField (record { 0 = 5 }) } ∷ []

abbrev pub options_class_asked_for_in_its_key : Options
options_class_asked_for_in_its_key = options_of false (Some (record { loose = false })) false

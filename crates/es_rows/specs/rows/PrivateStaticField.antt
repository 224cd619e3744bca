-- Printed by tools/rows/number-rows.js from `private_static_field` of tools/rows/rows.json: a worked row with its numbers.
use Rattle.std.specs.Prelude.{ℕ, List, [], ◌∷◌, true, false, codes, Some}
use Rattle.es_base.specs.Tree.{Tree, end, more, child, absent, list, string, no_string, boolean, literal, trees}
use Rattle.es_base.specs.declared.kind.Kind.{Kind}
use Rattle.es_base.specs.declared.ledger.GeneratedKind.{GeneratedKind}
use Rattle.es_base.specs.declared.ledger.LedgerEntry.{LedgerEntry}
use Rattle.es_base.specs.declared.literal.LiteralValue.TheVariants as literal_value
use Rattle.es_steps.specs.Generated.{node}
use Rattle.es_steps.specs.Options.{options_of}
use Rattle.es_steps.specs.declared.options.Options.{Options}

-- `class A { static #p = 1; static g(o) { return o.#p; } static h() { A.#p = 2; } }`
abbrev pub source_private_static_field : Tree
source_private_static_field = node Kind.Program 0 (more (string (codes "script")) (more (list (trees (node Kind.ClassDeclaration 1 (more (child (node Kind.BindingIdentifier 2 (more (string (codes "A")) end))) (more absent (more (child (node Kind.ClassBody 3 (more (list (trees (node Kind.PropertyDefinition 4 (more (child (node Kind.PrivateIdentifier 5 (more (string (codes "p")) end))) (more (child (node Kind.Literal 6 (more (literal (literal_value.Number (codes "1"))) end))) (more (boolean false) (more (boolean true) end)))) ∷ node Kind.MethodDefinition 7 (more (child (node Kind.IdentifierName 8 (more (string (codes "g")) end))) (more (child (node Kind.FunctionExpression 9 (more absent (more (list (trees (node Kind.BindingIdentifier 10 (more (string (codes "o")) end) ∷ []))) (more (child (node Kind.BlockStatement 11 (more (list (trees (node Kind.ReturnStatement 12 (more (child (node Kind.PrivateField 13 (more (child (node Kind.IdentifierReference 14 (more (string (codes "o")) end))) (more (child (node Kind.PrivateIdentifier 15 (more (string (codes "p")) end))) (more (boolean false) (more (boolean false) end)))))) end) ∷ []))) end))) (more (boolean false) (more (boolean false) end))))))) (more (string (codes "method")) (more (boolean false) (more (boolean true) end))))) ∷ node Kind.MethodDefinition 16 (more (child (node Kind.IdentifierName 17 (more (string (codes "h")) end))) (more (child (node Kind.FunctionExpression 18 (more absent (more (list end) (more (child (node Kind.BlockStatement 19 (more (list (trees (node Kind.ExpressionStatement 20 (more (child (node Kind.AssignmentExpression 21 (more (string (codes "=")) (more (child (node Kind.PrivateField 22 (more (child (node Kind.IdentifierReference 23 (more (string (codes "A")) end))) (more (child (node Kind.PrivateIdentifier 24 (more (string (codes "p")) end))) (more (boolean false) (more (boolean false) end)))))) (more (child (node Kind.Literal 25 (more (literal (literal_value.Number (codes "2"))) end))) end))))) (more no_string end)) ∷ []))) end))) (more (boolean false) (more (boolean false) end))))))) (more (string (codes "method")) (more (boolean false) (more (boolean true) end))))) ∷ []))) end))) end))) ∷ []))) end))

-- the number of its nodes
abbrev pub nodes_private_static_field : ℕ
nodes_private_static_field = 26

-- `class A { static g(o) { return B.assertClassBrand(A, o, _p)._; } static h() { _p._ = 2; } } var _p = { _: 1 };`
abbrev pub output_private_static_field : Tree
output_private_static_field = node Kind.Program 0 (more (string (codes "script")) (more (list (trees (node Kind.ClassDeclaration 1 (more (child (node Kind.BindingIdentifier 2 (more (string (codes "A")) end))) (more absent (more (child (node Kind.ClassBody 3 (more (list (trees (node Kind.MethodDefinition 7 (more (child (node Kind.IdentifierName 8 (more (string (codes "g")) end))) (more (child (node Kind.FunctionExpression 9 (more absent (more (list (trees (node Kind.BindingIdentifier 10 (more (string (codes "o")) end) ∷ []))) (more (child (node Kind.BlockStatement 11 (more (list (trees (node Kind.ReturnStatement 12 (more (child (node Kind.MemberExpression 13 (more (child (node Kind.CallExpression 26 (more (child (node Kind.MemberExpression 27 (more (child (node Kind.IdentifierReference 28 (more (string (codes "babelHelpers")) end))) (more (child (node Kind.IdentifierName 29 (more (string (codes "assertClassBrand")) end))) (more (boolean false) (more (boolean false) end)))))) (more (list (trees (node Kind.IdentifierReference 30 (more (string (codes "A")) end) ∷ node Kind.IdentifierReference 14 (more (string (codes "o")) end) ∷ node Kind.IdentifierReference 31 (more (string (codes "_p")) end) ∷ []))) (more (boolean false) end))))) (more (child (node Kind.IdentifierName 32 (more (string (codes "_")) end))) (more (boolean false) (more (boolean false) end)))))) end) ∷ []))) end))) (more (boolean false) (more (boolean false) end))))))) (more (string (codes "method")) (more (boolean false) (more (boolean true) end))))) ∷ node Kind.MethodDefinition 16 (more (child (node Kind.IdentifierName 17 (more (string (codes "h")) end))) (more (child (node Kind.FunctionExpression 18 (more absent (more (list end) (more (child (node Kind.BlockStatement 19 (more (list (trees (node Kind.ExpressionStatement 20 (more (child (node Kind.AssignmentExpression 21 (more (string (codes "=")) (more (child (node Kind.MemberExpression 33 (more (child (node Kind.IdentifierReference 34 (more (string (codes "_p")) end))) (more (child (node Kind.IdentifierName 35 (more (string (codes "_")) end))) (more (boolean false) (more (boolean false) end)))))) (more (child (node Kind.Literal 25 (more (literal (literal_value.Number (codes "2"))) end))) end))))) (more no_string end)) ∷ []))) end))) (more (boolean false) (more (boolean false) end))))))) (more (string (codes "method")) (more (boolean false) (more (boolean true) end))))) ∷ []))) end))) end))) ∷ node Kind.VariableDeclaration 36 (more (string (codes "var")) (more (list (trees (node Kind.VariableDeclarator 37 (more (child (node Kind.BindingIdentifier 38 (more (string (codes "_p")) end))) (more (child (node Kind.ObjectExpression 39 (more (list (trees (node Kind.Property 40 (more (child (node Kind.IdentifierName 41 (more (string (codes "_")) end))) (more (child (node Kind.Literal 6 (more (literal (literal_value.Number (codes "1"))) end))) (more (string (codes "init")) (more (boolean false) (more (boolean false) (more (boolean false) end)))))) ∷ []))) end))) end)) ∷ []))) end)) ∷ []))) end))

abbrev pub generated_private_static_field : List LedgerEntry
generated_private_static_field = record { name = codes "_p"; kind = GeneratedKind.StaticField (record { 0 = 5 }) } ∷ []

-- the numbers of its shapes
abbrev pub outside_private_static_field : List ℕ
outside_private_static_field = []

abbrev pub options_private_static_field : Options
options_private_static_field = options_of false (Some (record { loose = false })) false

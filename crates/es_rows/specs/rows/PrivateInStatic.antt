-- Printed by tools/rows/number-rows.js from `private_in_static` of tools/rows/forms.json: a worked row with its numbers.
use Rattle.std.specs.Prelude.{ℕ, List, [], ◌∷◌, true, false, codes, Some}
use Rattle.es_base.specs.Tree.{Tree, end, more, child, absent, list, string, boolean, literal, trees}
use Rattle.es_base.specs.declared.kind.Kind.{Kind}
use Rattle.es_base.specs.declared.ledger.GeneratedKind.{GeneratedKind}
use Rattle.es_base.specs.declared.ledger.LedgerEntry.{LedgerEntry}
use Rattle.es_base.specs.declared.literal.LiteralValue.TheVariants as literal_value
use Rattle.es_steps.specs.Generated.{node}
use Rattle.es_steps.specs.Options.{options_of}
use Rattle.es_steps.specs.declared.options.Options.{Options}

-- `class A { static #x = 1; static h(o) { return #x in o; } }`
abbrev pub source_private_in_static : Tree
source_private_in_static = node Kind.Program 0 (more (string (codes "script")) (more (list (trees (node Kind.ClassDeclaration 1 (more (child (node Kind.BindingIdentifier 2 (more (string (codes "A")) end))) (more absent (more (child (node Kind.ClassBody 3 (more (list (trees (node Kind.PropertyDefinition 4 (more (child (node Kind.PrivateIdentifier 5 (more (string (codes "x")) end))) (more (child (node Kind.Literal 6 (more (literal (literal_value.Number (codes "1"))) end))) (more (boolean false) (more (boolean true) end)))) ∷ node Kind.MethodDefinition 7 (more (child (node Kind.IdentifierName 8 (more (string (codes "h")) end))) (more (child (node Kind.FunctionExpression 9 (more absent (more (list (trees (node Kind.BindingIdentifier 10 (more (string (codes "o")) end) ∷ []))) (more (child (node Kind.BlockStatement 11 (more (list (trees (node Kind.ReturnStatement 12 (more (child (node Kind.PrivateIn 13 (more (string (codes "in")) (more (child (node Kind.PrivateIdentifier 14 (more (string (codes "x")) end))) (more (child (node Kind.IdentifierReference 15 (more (string (codes "o")) end))) end))))) end) ∷ []))) end))) (more (boolean false) (more (boolean false) end))))))) (more (string (codes "method")) (more (boolean false) (more (boolean true) end))))) ∷ []))) end))) end))) ∷ []))) end))

-- the number of its nodes
abbrev pub nodes_private_in_static : ℕ
nodes_private_in_static = 16

-- `class A { static h(o) { return B.checkInRHS(o) === A; } } var _x = { _: 1 };`
abbrev pub output_private_in_static : Tree
output_private_in_static = node Kind.Program 0 (more (string (codes "script")) (more (list (trees (node Kind.ClassDeclaration 1 (more (child (node Kind.BindingIdentifier 2 (more (string (codes "A")) end))) (more absent (more (child (node Kind.ClassBody 3 (more (list (trees (node Kind.MethodDefinition 7 (more (child (node Kind.IdentifierName 8 (more (string (codes "h")) end))) (more (child (node Kind.FunctionExpression 9 (more absent (more (list (trees (node Kind.BindingIdentifier 10 (more (string (codes "o")) end) ∷ []))) (more (child (node Kind.BlockStatement 11 (more (list (trees (node Kind.ReturnStatement 12 (more (child (node Kind.BinaryExpression 13 (more (string (codes "===")) (more (child (node Kind.CallExpression 16 (more (child (node Kind.MemberExpression 17 (more (child (node Kind.IdentifierReference 18 (more (string (codes "babelHelpers")) end))) (more (child (node Kind.IdentifierName 19 (more (string (codes "checkInRHS")) end))) (more (boolean false) (more (boolean false) end)))))) (more (list (trees (node Kind.IdentifierReference 15 (more (string (codes "o")) end) ∷ []))) (more (boolean false) end))))) (more (child (node Kind.IdentifierReference 20 (more (string (codes "A")) end))) end))))) end) ∷ []))) end))) (more (boolean false) (more (boolean false) end))))))) (more (string (codes "method")) (more (boolean false) (more (boolean true) end))))) ∷ []))) end))) end))) ∷ node Kind.VariableDeclaration 21 (more (string (codes "var")) (more (list (trees (node Kind.VariableDeclarator 22 (more (child (node Kind.BindingIdentifier 23 (more (string (codes "_x")) end))) (more (child (node Kind.ObjectExpression 24 (more (list (trees (node Kind.Property 25 (more (child (node Kind.IdentifierName 26 (more (string (codes "_")) end))) (more (child (node Kind.Literal 6 (more (literal (literal_value.Number (codes "1"))) end))) (more (string (codes "init")) (more (boolean false) (more (boolean false) (more (boolean false) end)))))) ∷ []))) end))) end)) ∷ []))) end)) ∷ []))) end))

abbrev pub generated_private_in_static : List LedgerEntry
generated_private_in_static = record { name = codes "_x"; kind = GeneratedKind.StaticField (record { 0 = 5 }) } ∷ []

-- the numbers of its shapes
abbrev pub outside_private_in_static : List ℕ
outside_private_in_static = []

abbrev pub options_private_in_static : Options
options_private_in_static = options_of false (Some (record { loose = false })) false

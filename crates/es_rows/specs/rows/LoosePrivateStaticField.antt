-- Printed by tools/rows/number-rows.js from `loose_private_static_field` of tools/rows/forms.json: a worked row with its numbers.
use Rattle.std.specs.Prelude.{ℕ, List, [], ◌∷◌, true, false, codes, Some, None}
use Rattle.es_base.specs.Tree.{Tree, end, more, child, absent, list, string, no_string, boolean, literal, trees}
use Rattle.es_base.specs.declared.kind.Kind.{Kind}
use Rattle.es_base.specs.declared.ledger.GeneratedKind.{GeneratedKind}
use Rattle.es_base.specs.declared.ledger.LedgerEntry.{LedgerEntry}
use Rattle.es_base.specs.declared.literal.LiteralValue.TheVariants as literal_value
use Rattle.es_steps.specs.Generated.{node}
use Rattle.es_steps.specs.Options.{options_of}
use Rattle.es_steps.specs.declared.options.Options.{Options}

-- `class A { static #x = 1; static g() { return A.#x; } }`
abbrev pub source_loose_private_static_field : Tree
source_loose_private_static_field = node Kind.Program 0 (more (string (codes "script")) (more (list (trees (node Kind.ClassDeclaration 1 (more (child (node Kind.BindingIdentifier 2 (more (string (codes "A")) end))) (more absent (more (child (node Kind.ClassBody 3 (more (list (trees (node Kind.PropertyDefinition 4 (more (child (node Kind.PrivateIdentifier 5 (more (string (codes "x")) end))) (more (child (node Kind.Literal 6 (more (literal (literal_value.Number (codes "1"))) end))) (more (boolean false) (more (boolean true) end)))) ∷ node Kind.MethodDefinition 7 (more (child (node Kind.IdentifierName 8 (more (string (codes "g")) end))) (more (child (node Kind.FunctionExpression 9 (more absent (more (list end) (more (child (node Kind.BlockStatement 10 (more (list (trees (node Kind.ReturnStatement 11 (more (child (node Kind.PrivateField 12 (more (child (node Kind.IdentifierReference 13 (more (string (codes "A")) end))) (more (child (node Kind.PrivateIdentifier 14 (more (string (codes "x")) end))) (more (boolean false) (more (boolean false) end)))))) end) ∷ []))) end))) (more (boolean false) (more (boolean false) end))))))) (more (string (codes "method")) (more (boolean false) (more (boolean true) end))))) ∷ []))) end))) end))) ∷ []))) end))

-- the number of its nodes
abbrev pub nodes_loose_private_static_field : ℕ
nodes_loose_private_static_field = 15

-- `var _x = B.classPrivateFieldLooseKey("x"); class A { static g() { return B.classPrivateFieldLooseBase(A, _x)[_x]; } } Object.defineProperty(A, _x, { writable: true, value: 1 });`
abbrev pub output_loose_private_static_field : Tree
output_loose_private_static_field = node Kind.Program 0 (more (string (codes "script")) (more (list (trees (node Kind.VariableDeclaration 15 (more (string (codes "var")) (more (list (trees (node Kind.VariableDeclarator 16 (more (child (node Kind.BindingIdentifier 17 (more (string (codes "_x")) end))) (more (child (node Kind.CallExpression 18 (more (child (node Kind.MemberExpression 19 (more (child (node Kind.IdentifierReference 20 (more (string (codes "babelHelpers")) end))) (more (child (node Kind.IdentifierName 21 (more (string (codes "classPrivateFieldLooseKey")) end))) (more (boolean false) (more (boolean false) end)))))) (more (list (trees (node Kind.Literal 22 (more (literal (literal_value.String (codes "x") None)) end) ∷ []))) (more (boolean false) end))))) end)) ∷ []))) end)) ∷ node Kind.ClassDeclaration 1 (more (child (node Kind.BindingIdentifier 2 (more (string (codes "A")) end))) (more absent (more (child (node Kind.ClassBody 3 (more (list (trees (node Kind.MethodDefinition 7 (more (child (node Kind.IdentifierName 8 (more (string (codes "g")) end))) (more (child (node Kind.FunctionExpression 9 (more absent (more (list end) (more (child (node Kind.BlockStatement 10 (more (list (trees (node Kind.ReturnStatement 11 (more (child (node Kind.MemberExpression 12 (more (child (node Kind.CallExpression 23 (more (child (node Kind.MemberExpression 24 (more (child (node Kind.IdentifierReference 25 (more (string (codes "babelHelpers")) end))) (more (child (node Kind.IdentifierName 26 (more (string (codes "classPrivateFieldLooseBase")) end))) (more (boolean false) (more (boolean false) end)))))) (more (list (trees (node Kind.IdentifierReference 13 (more (string (codes "A")) end) ∷ node Kind.IdentifierReference 27 (more (string (codes "_x")) end) ∷ []))) (more (boolean false) end))))) (more (child (node Kind.IdentifierReference 28 (more (string (codes "_x")) end))) (more (boolean true) (more (boolean false) end)))))) end) ∷ []))) end))) (more (boolean false) (more (boolean false) end))))))) (more (string (codes "method")) (more (boolean false) (more (boolean true) end))))) ∷ []))) end))) end))) ∷ node Kind.ExpressionStatement 29 (more (child (node Kind.CallExpression 30 (more (child (node Kind.MemberExpression 31 (more (child (node Kind.IdentifierReference 32 (more (string (codes "Object")) end))) (more (child (node Kind.IdentifierName 33 (more (string (codes "defineProperty")) end))) (more (boolean false) (more (boolean false) end)))))) (more (list (trees (node Kind.IdentifierReference 34 (more (string (codes "A")) end) ∷ node Kind.IdentifierReference 35 (more (string (codes "_x")) end) ∷ node Kind.ObjectExpression 36 (more (list (trees (node Kind.Property 37 (more (child (node Kind.IdentifierName 38 (more (string (codes "writable")) end))) (more (child (node Kind.Literal 39 (more (literal (literal_value.Boolean true)) end))) (more (string (codes "init")) (more (boolean false) (more (boolean false) (more (boolean false) end)))))) ∷ node Kind.Property 40 (more (child (node Kind.IdentifierName 41 (more (string (codes "value")) end))) (more (child (node Kind.Literal 6 (more (literal (literal_value.Number (codes "1"))) end))) (more (string (codes "init")) (more (boolean false) (more (boolean false) (more (boolean false) end)))))) ∷ []))) end) ∷ []))) (more (boolean false) end))))) (more no_string end)) ∷ []))) end))

abbrev pub generated_loose_private_static_field : List LedgerEntry
generated_loose_private_static_field = record { name = codes "_x"; kind = GeneratedKind.LooseKey (record { 0 = 5 }) } ∷ []

-- the numbers of its shapes
abbrev pub outside_loose_private_static_field : List ℕ
outside_loose_private_static_field = []

abbrev pub options_loose_private_static_field : Options
options_loose_private_static_field = options_of false (Some (record { loose = true })) false

-- Printed by tools/rows/number-rows.js from `loose_private_field` of tools/rows/rows.json: a worked row with its numbers.
use Rattle.std.specs.Prelude.{ℕ, List, [], ◌∷◌, true, false, codes, Some, None}
use Rattle.es_base.specs.Tree.{Tree, end, more, child, absent, list, string, no_string, boolean, literal, trees}
use Rattle.es_base.specs.declared.kind.Kind.{Kind}
use Rattle.es_base.specs.declared.ledger.GeneratedKind.{GeneratedKind}
use Rattle.es_base.specs.declared.ledger.LedgerEntry.{LedgerEntry}
use Rattle.es_base.specs.declared.literal.LiteralValue.TheVariants as literal_value
use Rattle.es_steps.specs.Generated.{node}
use Rattle.es_steps.specs.Options.{options_of}
use Rattle.es_steps.specs.declared.options.Options.{Options}

-- `class A { #x = 1; m() { return this.#x; } }`
abbrev pub source_loose_private_field : Tree
source_loose_private_field = node Kind.Program 0 (more (string (codes "script")) (more (list (trees (node Kind.ClassDeclaration 1 (more (child (node Kind.BindingIdentifier 2 (more (string (codes "A")) end))) (more absent (more (child (node Kind.ClassBody 3 (more (list (trees (node Kind.PropertyDefinition 4 (more (child (node Kind.PrivateIdentifier 5 (more (string (codes "x")) end))) (more (child (node Kind.Literal 6 (more (literal (literal_value.Number (codes "1"))) end))) (more (boolean false) (more (boolean false) end)))) ∷ node Kind.MethodDefinition 7 (more (child (node Kind.IdentifierName 8 (more (string (codes "m")) end))) (more (child (node Kind.FunctionExpression 9 (more absent (more (list end) (more (child (node Kind.BlockStatement 10 (more (list (trees (node Kind.ReturnStatement 11 (more (child (node Kind.PrivateField 12 (more (child (node Kind.ThisExpression 13 end)) (more (child (node Kind.PrivateIdentifier 14 (more (string (codes "x")) end))) (more (boolean false) (more (boolean false) end)))))) end) ∷ []))) end))) (more (boolean false) (more (boolean false) end))))))) (more (string (codes "method")) (more (boolean false) (more (boolean false) end))))) ∷ []))) end))) end))) ∷ []))) end))

-- the number of its nodes
abbrev pub nodes_loose_private_field : ℕ
nodes_loose_private_field = 15

-- `var _x = B.classPrivateFieldLooseKey("x"); class A { constructor() { Object.defineProperty(this, _x, { writable: true, value: 1 }); } m() { return B.classPrivateFieldLooseBase(this, _x)[_x]; } }`
abbrev pub output_loose_private_field : Tree
output_loose_private_field = node Kind.Program 0 (more (string (codes "script")) (more (list (trees (node Kind.VariableDeclaration 15 (more (string (codes "var")) (more (list (trees (node Kind.VariableDeclarator 16 (more (child (node Kind.BindingIdentifier 17 (more (string (codes "_x")) end))) (more (child (node Kind.CallExpression 18 (more (child (node Kind.MemberExpression 19 (more (child (node Kind.IdentifierReference 20 (more (string (codes "babelHelpers")) end))) (more (child (node Kind.IdentifierName 21 (more (string (codes "classPrivateFieldLooseKey")) end))) (more (boolean false) (more (boolean false) end)))))) (more (list (trees (node Kind.Literal 22 (more (literal (literal_value.String (codes "x") None)) end) ∷ []))) (more (boolean false) end))))) end)) ∷ []))) end)) ∷ node Kind.ClassDeclaration 1 (more (child (node Kind.BindingIdentifier 2 (more (string (codes "A")) end))) (more absent (more (child (node Kind.ClassBody 3 (more (list (trees (node Kind.MethodDefinition 23 (more (child (node Kind.IdentifierName 24 (more (string (codes "constructor")) end))) (more (child (node Kind.FunctionExpression 25 (more absent (more (list end) (more (child (node Kind.BlockStatement 26 (more (list (trees (node Kind.ExpressionStatement 27 (more (child (node Kind.CallExpression 28 (more (child (node Kind.MemberExpression 29 (more (child (node Kind.IdentifierReference 30 (more (string (codes "Object")) end))) (more (child (node Kind.IdentifierName 31 (more (string (codes "defineProperty")) end))) (more (boolean false) (more (boolean false) end)))))) (more (list (trees (node Kind.ThisExpression 32 end ∷ node Kind.IdentifierReference 33 (more (string (codes "_x")) end) ∷ node Kind.ObjectExpression 34 (more (list (trees (node Kind.Property 35 (more (child (node Kind.IdentifierName 36 (more (string (codes "writable")) end))) (more (child (node Kind.Literal 37 (more (literal (literal_value.Boolean true)) end))) (more (string (codes "init")) (more (boolean false) (more (boolean false) (more (boolean false) end)))))) ∷ node Kind.Property 38 (more (child (node Kind.IdentifierName 39 (more (string (codes "value")) end))) (more (child (node Kind.Literal 6 (more (literal (literal_value.Number (codes "1"))) end))) (more (string (codes "init")) (more (boolean false) (more (boolean false) (more (boolean false) end)))))) ∷ []))) end) ∷ []))) (more (boolean false) end))))) (more no_string end)) ∷ []))) end))) (more (boolean false) (more (boolean false) end))))))) (more (string (codes "constructor")) (more (boolean false) (more (boolean false) end))))) ∷ node Kind.MethodDefinition 7 (more (child (node Kind.IdentifierName 8 (more (string (codes "m")) end))) (more (child (node Kind.FunctionExpression 9 (more absent (more (list end) (more (child (node Kind.BlockStatement 10 (more (list (trees (node Kind.ReturnStatement 11 (more (child (node Kind.MemberExpression 12 (more (child (node Kind.CallExpression 40 (more (child (node Kind.MemberExpression 41 (more (child (node Kind.IdentifierReference 42 (more (string (codes "babelHelpers")) end))) (more (child (node Kind.IdentifierName 43 (more (string (codes "classPrivateFieldLooseBase")) end))) (more (boolean false) (more (boolean false) end)))))) (more (list (trees (node Kind.ThisExpression 13 end ∷ node Kind.IdentifierReference 44 (more (string (codes "_x")) end) ∷ []))) (more (boolean false) end))))) (more (child (node Kind.IdentifierReference 45 (more (string (codes "_x")) end))) (more (boolean true) (more (boolean false) end)))))) end) ∷ []))) end))) (more (boolean false) (more (boolean false) end))))))) (more (string (codes "method")) (more (boolean false) (more (boolean false) end))))) ∷ []))) end))) end))) ∷ []))) end))

abbrev pub generated_loose_private_field : List LedgerEntry
generated_loose_private_field = record { name = codes "_x"; kind = GeneratedKind.LooseKey (record { 0 = 5 }) } ∷ []

-- the numbers of its shapes
abbrev pub outside_loose_private_field : List ℕ
outside_loose_private_field = []

abbrev pub options_loose_private_field : Options
options_loose_private_field = options_of false (Some (record { loose = true })) false

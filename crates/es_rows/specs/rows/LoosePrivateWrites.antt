-- Printed by tools/rows/number-rows.js from `loose_private_writes` of tools/rows/forms.json: a worked row with its numbers.
use Rattle.std.specs.Prelude.{ℕ, List, [], ◌∷◌, true, false, codes, Some, None}
use Rattle.es_base.specs.Tree.{Tree, end, more, child, absent, list, string, no_string, boolean, literal, trees}
use Rattle.es_base.specs.declared.kind.Kind.{Kind}
use Rattle.es_base.specs.declared.ledger.GeneratedKind.{GeneratedKind}
use Rattle.es_base.specs.declared.ledger.LedgerEntry.{LedgerEntry}
use Rattle.es_base.specs.declared.literal.LiteralValue.TheVariants as literal_value
use Rattle.es_steps.specs.Generated.{node}
use Rattle.es_steps.specs.Options.{options_of}
use Rattle.es_steps.specs.declared.options.Options.{Options}

-- `class A { #x = 1; m(o) { o.#x = 1; o.#x += 2; o.#x ??= 3; o.#x++; o.#x(4); [o.#x] = [5]; } }`
abbrev pub source_loose_private_writes : Tree
source_loose_private_writes = node Kind.Program 0 (more (string (codes "script")) (more (list (trees (node Kind.ClassDeclaration 1 (more (child (node Kind.BindingIdentifier 2 (more (string (codes "A")) end))) (more absent (more (child (node Kind.ClassBody 3 (more (list (trees (node Kind.PropertyDefinition 4 (more (child (node Kind.PrivateIdentifier 5 (more (string (codes "x")) end))) (more (child (node Kind.Literal 6 (more (literal (literal_value.Number (codes "1"))) end))) (more (boolean false) (more (boolean false) end)))) ∷ node Kind.MethodDefinition 7 (more (child (node Kind.IdentifierName 8 (more (string (codes "m")) end))) (more (child (node Kind.FunctionExpression 9 (more absent (more (list (trees (node Kind.BindingIdentifier 10 (more (string (codes "o")) end) ∷ []))) (more (child (node Kind.BlockStatement 11 (more (list (trees (node Kind.ExpressionStatement 12 (more (child (node Kind.AssignmentExpression 13 (more (string (codes "=")) (more (child (node Kind.PrivateField 14 (more (child (node Kind.IdentifierReference 15 (more (string (codes "o")) end))) (more (child (node Kind.PrivateIdentifier 16 (more (string (codes "x")) end))) (more (boolean false) (more (boolean false) end)))))) (more (child (node Kind.Literal 17 (more (literal (literal_value.Number (codes "1"))) end))) end))))) (more no_string end)) ∷ node Kind.ExpressionStatement 18 (more (child (node Kind.AssignmentExpression 19 (more (string (codes "+=")) (more (child (node Kind.PrivateField 20 (more (child (node Kind.IdentifierReference 21 (more (string (codes "o")) end))) (more (child (node Kind.PrivateIdentifier 22 (more (string (codes "x")) end))) (more (boolean false) (more (boolean false) end)))))) (more (child (node Kind.Literal 23 (more (literal (literal_value.Number (codes "2"))) end))) end))))) (more no_string end)) ∷ node Kind.ExpressionStatement 24 (more (child (node Kind.AssignmentExpression 25 (more (string (codes "??=")) (more (child (node Kind.PrivateField 26 (more (child (node Kind.IdentifierReference 27 (more (string (codes "o")) end))) (more (child (node Kind.PrivateIdentifier 28 (more (string (codes "x")) end))) (more (boolean false) (more (boolean false) end)))))) (more (child (node Kind.Literal 29 (more (literal (literal_value.Number (codes "3"))) end))) end))))) (more no_string end)) ∷ node Kind.ExpressionStatement 30 (more (child (node Kind.UpdateExpression 31 (more (string (codes "++")) (more (child (node Kind.PrivateField 32 (more (child (node Kind.IdentifierReference 33 (more (string (codes "o")) end))) (more (child (node Kind.PrivateIdentifier 34 (more (string (codes "x")) end))) (more (boolean false) (more (boolean false) end)))))) (more (boolean false) end))))) (more no_string end)) ∷ node Kind.ExpressionStatement 35 (more (child (node Kind.CallExpression 36 (more (child (node Kind.PrivateField 37 (more (child (node Kind.IdentifierReference 38 (more (string (codes "o")) end))) (more (child (node Kind.PrivateIdentifier 39 (more (string (codes "x")) end))) (more (boolean false) (more (boolean false) end)))))) (more (list (trees (node Kind.Literal 40 (more (literal (literal_value.Number (codes "4"))) end) ∷ []))) (more (boolean false) end))))) (more no_string end)) ∷ node Kind.ExpressionStatement 41 (more (child (node Kind.AssignmentExpression 42 (more (string (codes "=")) (more (child (node Kind.ArrayAssignmentTarget 43 (more (list (trees (node Kind.PrivateField 44 (more (child (node Kind.IdentifierReference 45 (more (string (codes "o")) end))) (more (child (node Kind.PrivateIdentifier 46 (more (string (codes "x")) end))) (more (boolean false) (more (boolean false) end)))) ∷ []))) end))) (more (child (node Kind.ArrayExpression 47 (more (list (trees (node Kind.Literal 48 (more (literal (literal_value.Number (codes "5"))) end) ∷ []))) end))) end))))) (more no_string end)) ∷ []))) end))) (more (boolean false) (more (boolean false) end))))))) (more (string (codes "method")) (more (boolean false) (more (boolean false) end))))) ∷ []))) end))) end))) ∷ []))) end))

-- the number of its nodes
abbrev pub nodes_loose_private_writes : ℕ
nodes_loose_private_writes = 49

-- `var _x = B.classPrivateFieldLooseKey("x"); class A { constructor() { Object.defineProperty(this, _x, { writable: true, value: 1 }); } m(o) { B.classPrivateFieldLooseBase(o, _x)[_x] = 1; B.classPrivateFieldLooseBase(o, _x)[_x] += 2; B.classPrivateFieldLooseBase(o, _x)[_x] ?? (B.classPrivateFieldLooseBase(o, _x)[_x] = 3); B.classPrivateFieldLooseBase(o, _x)[_x]++; B.classPrivateFieldLooseBase(o, _x)[_x](4); [B.classPrivateFieldLooseBase(o, _x)[_x]] = [5]; } }`
abbrev pub output_loose_private_writes : Tree
output_loose_private_writes = node Kind.Program 0 (more (string (codes "script")) (more (list (trees (node Kind.VariableDeclaration 49 (more (string (codes "var")) (more (list (trees (node Kind.VariableDeclarator 50 (more (child (node Kind.BindingIdentifier 51 (more (string (codes "_x")) end))) (more (child (node Kind.CallExpression 52 (more (child (node Kind.MemberExpression 53 (more (child (node Kind.IdentifierReference 54 (more (string (codes "babelHelpers")) end))) (more (child (node Kind.IdentifierName 55 (more (string (codes "classPrivateFieldLooseKey")) end))) (more (boolean false) (more (boolean false) end)))))) (more (list (trees (node Kind.Literal 56 (more (literal (literal_value.String (codes "x") None)) end) ∷ []))) (more (boolean false) end))))) end)) ∷ []))) end)) ∷ node Kind.ClassDeclaration 1 (more (child (node Kind.BindingIdentifier 2 (more (string (codes "A")) end))) (more absent (more (child (node Kind.ClassBody 3 (more (list (trees (node Kind.MethodDefinition 57 (more (child (node Kind.IdentifierName 58 (more (string (codes "constructor")) end))) (more (child (node Kind.FunctionExpression 59 (more absent (more (list end) (more (child (node Kind.BlockStatement 60 (more (list (trees (node Kind.ExpressionStatement 61 (more (child (node Kind.CallExpression 62 (more (child (node Kind.MemberExpression 63 (more (child (node Kind.IdentifierReference 64 (more (string (codes "Object")) end))) (more (child (node Kind.IdentifierName 65 (more (string (codes "defineProperty")) end))) (more (boolean false) (more (boolean false) end)))))) (more (list (trees (node Kind.ThisExpression 66 end ∷ node Kind.IdentifierReference 67 (more (string (codes "_x")) end) ∷ node Kind.ObjectExpression 68 (more (list (trees (node Kind.Property 69 (more (child (node Kind.IdentifierName 70 (more (string (codes "writable")) end))) (more (child (node Kind.Literal 71 (more (literal (literal_value.Boolean true)) end))) (more (string (codes "init")) (more (boolean false) (more (boolean false) (more (boolean false) end)))))) ∷ node Kind.Property 72 (more (child (node Kind.IdentifierName 73 (more (string (codes "value")) end))) (more (child (node Kind.Literal 6 (more (literal (literal_value.Number (codes "1"))) end))) (more (string (codes "init")) (more (boolean false) (more (boolean false) (more (boolean false) end)))))) ∷ []))) end) ∷ []))) (more (boolean false) end))))) (more no_string end)) ∷ []))) end))) (more (boolean false) (more (boolean false) end))))))) (more (string (codes "constructor")) (more (boolean false) (more (boolean false) end))))) ∷ node Kind.MethodDefinition 7 (more (child (node Kind.IdentifierName 8 (more (string (codes "m")) end))) (more (child (node Kind.FunctionExpression 9 (more absent (more (list (trees (node Kind.BindingIdentifier 10 (more (string (codes "o")) end) ∷ []))) (more (child (node Kind.BlockStatement 11 (more (list (trees (node Kind.ExpressionStatement 12 (more (child (node Kind.AssignmentExpression 13 (more (string (codes "=")) (more (child (node Kind.MemberExpression 74 (more (child (node Kind.CallExpression 75 (more (child (node Kind.MemberExpression 76 (more (child (node Kind.IdentifierReference 77 (more (string (codes "babelHelpers")) end))) (more (child (node Kind.IdentifierName 78 (more (string (codes "classPrivateFieldLooseBase")) end))) (more (boolean false) (more (boolean false) end)))))) (more (list (trees (node Kind.IdentifierReference 15 (more (string (codes "o")) end) ∷ node Kind.IdentifierReference 79 (more (string (codes "_x")) end) ∷ []))) (more (boolean false) end))))) (more (child (node Kind.IdentifierReference 80 (more (string (codes "_x")) end))) (more (boolean true) (more (boolean false) end)))))) (more (child (node Kind.Literal 17 (more (literal (literal_value.Number (codes "1"))) end))) end))))) (more no_string end)) ∷ node Kind.ExpressionStatement 18 (more (child (node Kind.AssignmentExpression 19 (more (string (codes "+=")) (more (child (node Kind.MemberExpression 20 (more (child (node Kind.CallExpression 81 (more (child (node Kind.MemberExpression 82 (more (child (node Kind.IdentifierReference 83 (more (string (codes "babelHelpers")) end))) (more (child (node Kind.IdentifierName 84 (more (string (codes "classPrivateFieldLooseBase")) end))) (more (boolean false) (more (boolean false) end)))))) (more (list (trees (node Kind.IdentifierReference 21 (more (string (codes "o")) end) ∷ node Kind.IdentifierReference 85 (more (string (codes "_x")) end) ∷ []))) (more (boolean false) end))))) (more (child (node Kind.IdentifierReference 86 (more (string (codes "_x")) end))) (more (boolean true) (more (boolean false) end)))))) (more (child (node Kind.Literal 23 (more (literal (literal_value.Number (codes "2"))) end))) end))))) (more no_string end)) ∷ node Kind.ExpressionStatement 24 (more (child (node Kind.LogicalExpression 25 (more (string (codes "??")) (more (child (node Kind.MemberExpression 26 (more (child (node Kind.CallExpression 87 (more (child (node Kind.MemberExpression 88 (more (child (node Kind.IdentifierReference 89 (more (string (codes "babelHelpers")) end))) (more (child (node Kind.IdentifierName 90 (more (string (codes "classPrivateFieldLooseBase")) end))) (more (boolean false) (more (boolean false) end)))))) (more (list (trees (node Kind.IdentifierReference 27 (more (string (codes "o")) end) ∷ node Kind.IdentifierReference 91 (more (string (codes "_x")) end) ∷ []))) (more (boolean false) end))))) (more (child (node Kind.IdentifierReference 92 (more (string (codes "_x")) end))) (more (boolean true) (more (boolean false) end)))))) (more (child (node Kind.AssignmentExpression 93 (more (string (codes "=")) (more (child (node Kind.MemberExpression 94 (more (child (node Kind.CallExpression 95 (more (child (node Kind.MemberExpression 96 (more (child (node Kind.IdentifierReference 97 (more (string (codes "babelHelpers")) end))) (more (child (node Kind.IdentifierName 98 (more (string (codes "classPrivateFieldLooseBase")) end))) (more (boolean false) (more (boolean false) end)))))) (more (list (trees (node Kind.IdentifierReference 99 (more (string (codes "o")) end) ∷ node Kind.IdentifierReference 100 (more (string (codes "_x")) end) ∷ []))) (more (boolean false) end))))) (more (child (node Kind.IdentifierReference 101 (more (string (codes "_x")) end))) (more (boolean true) (more (boolean false) end)))))) (more (child (node Kind.Literal 29 (more (literal (literal_value.Number (codes "3"))) end))) end))))) end))))) (more no_string end)) ∷ node Kind.ExpressionStatement 30 (more (child (node Kind.UpdateExpression 31 (more (string (codes "++")) (more (child (node Kind.MemberExpression 32 (more (child (node Kind.CallExpression 102 (more (child (node Kind.MemberExpression 103 (more (child (node Kind.IdentifierReference 104 (more (string (codes "babelHelpers")) end))) (more (child (node Kind.IdentifierName 105 (more (string (codes "classPrivateFieldLooseBase")) end))) (more (boolean false) (more (boolean false) end)))))) (more (list (trees (node Kind.IdentifierReference 33 (more (string (codes "o")) end) ∷ node Kind.IdentifierReference 106 (more (string (codes "_x")) end) ∷ []))) (more (boolean false) end))))) (more (child (node Kind.IdentifierReference 107 (more (string (codes "_x")) end))) (more (boolean true) (more (boolean false) end)))))) (more (boolean false) end))))) (more no_string end)) ∷ node Kind.ExpressionStatement 35 (more (child (node Kind.CallExpression 36 (more (child (node Kind.MemberExpression 37 (more (child (node Kind.CallExpression 108 (more (child (node Kind.MemberExpression 109 (more (child (node Kind.IdentifierReference 110 (more (string (codes "babelHelpers")) end))) (more (child (node Kind.IdentifierName 111 (more (string (codes "classPrivateFieldLooseBase")) end))) (more (boolean false) (more (boolean false) end)))))) (more (list (trees (node Kind.IdentifierReference 38 (more (string (codes "o")) end) ∷ node Kind.IdentifierReference 112 (more (string (codes "_x")) end) ∷ []))) (more (boolean false) end))))) (more (child (node Kind.IdentifierReference 113 (more (string (codes "_x")) end))) (more (boolean true) (more (boolean false) end)))))) (more (list (trees (node Kind.Literal 40 (more (literal (literal_value.Number (codes "4"))) end) ∷ []))) (more (boolean false) end))))) (more no_string end)) ∷ node Kind.ExpressionStatement 41 (more (child (node Kind.AssignmentExpression 42 (more (string (codes "=")) (more (child (node Kind.ArrayAssignmentTarget 43 (more (list (trees (node Kind.MemberExpression 44 (more (child (node Kind.CallExpression 114 (more (child (node Kind.MemberExpression 115 (more (child (node Kind.IdentifierReference 116 (more (string (codes "babelHelpers")) end))) (more (child (node Kind.IdentifierName 117 (more (string (codes "classPrivateFieldLooseBase")) end))) (more (boolean false) (more (boolean false) end)))))) (more (list (trees (node Kind.IdentifierReference 45 (more (string (codes "o")) end) ∷ node Kind.IdentifierReference 118 (more (string (codes "_x")) end) ∷ []))) (more (boolean false) end))))) (more (child (node Kind.IdentifierReference 119 (more (string (codes "_x")) end))) (more (boolean true) (more (boolean false) end)))) ∷ []))) end))) (more (child (node Kind.ArrayExpression 47 (more (list (trees (node Kind.Literal 48 (more (literal (literal_value.Number (codes "5"))) end) ∷ []))) end))) end))))) (more no_string end)) ∷ []))) end))) (more (boolean false) (more (boolean false) end))))))) (more (string (codes "method")) (more (boolean false) (more (boolean false) end))))) ∷ []))) end))) end))) ∷ []))) end))

abbrev pub generated_loose_private_writes : List LedgerEntry
generated_loose_private_writes = record { name = codes "_x"; kind = GeneratedKind.LooseKey (record { 0 = 5 }) } ∷ []

-- the numbers of its shapes
abbrev pub outside_loose_private_writes : List ℕ
outside_loose_private_writes = []

abbrev pub options_loose_private_writes : Options
options_loose_private_writes = options_of false (Some (record { loose = true })) false

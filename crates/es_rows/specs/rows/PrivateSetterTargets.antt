-- Printed by tools/rows/number-rows.js from `private_setter_targets` of tools/rows/forms.json: a worked row with its numbers.
use Rattle.std.specs.Prelude.{ℕ, List, [], ◌∷◌, true, false, codes, Some}
use Rattle.es_base.specs.Tree.{Tree, end, more, child, absent, list, string, no_string, boolean, literal, trees}
use Rattle.es_base.specs.declared.kind.Kind.{Kind}
use Rattle.es_base.specs.declared.ledger.GeneratedKind.{GeneratedKind}
use Rattle.es_base.specs.declared.ledger.LedgerEntry.{LedgerEntry}
use Rattle.es_base.specs.declared.literal.LiteralValue.TheVariants as literal_value
use Rattle.es_steps.specs.Generated.{node}
use Rattle.es_steps.specs.Options.{options_of}
use Rattle.es_steps.specs.declared.options.Options.{Options}

-- `class A { set #x(v) {} static #s; static f(o) { [o.#x, o.#s] = [1, 2]; } }`
abbrev pub source_private_setter_targets : Tree
source_private_setter_targets = node Kind.Program 0 (more (string (codes "script")) (more (list (trees (node Kind.ClassDeclaration 1 (more (child (node Kind.BindingIdentifier 2 (more (string (codes "A")) end))) (more absent (more (child (node Kind.ClassBody 3 (more (list (trees (node Kind.MethodDefinition 4 (more (child (node Kind.PrivateIdentifier 5 (more (string (codes "x")) end))) (more (child (node Kind.FunctionExpression 6 (more absent (more (list (trees (node Kind.BindingIdentifier 7 (more (string (codes "v")) end) ∷ []))) (more (child (node Kind.BlockStatement 8 (more (list end) end))) (more (boolean false) (more (boolean false) end))))))) (more (string (codes "set")) (more (boolean false) (more (boolean false) end))))) ∷ node Kind.PropertyDefinition 9 (more (child (node Kind.PrivateIdentifier 10 (more (string (codes "s")) end))) (more absent (more (boolean false) (more (boolean true) end)))) ∷ node Kind.MethodDefinition 11 (more (child (node Kind.IdentifierName 12 (more (string (codes "f")) end))) (more (child (node Kind.FunctionExpression 13 (more absent (more (list (trees (node Kind.BindingIdentifier 14 (more (string (codes "o")) end) ∷ []))) (more (child (node Kind.BlockStatement 15 (more (list (trees (node Kind.ExpressionStatement 16 (more (child (node Kind.AssignmentExpression 17 (more (string (codes "=")) (more (child (node Kind.ArrayAssignmentTarget 18 (more (list (trees (node Kind.PrivateField 19 (more (child (node Kind.IdentifierReference 20 (more (string (codes "o")) end))) (more (child (node Kind.PrivateIdentifier 21 (more (string (codes "x")) end))) (more (boolean false) (more (boolean false) end)))) ∷ node Kind.PrivateField 22 (more (child (node Kind.IdentifierReference 23 (more (string (codes "o")) end))) (more (child (node Kind.PrivateIdentifier 24 (more (string (codes "s")) end))) (more (boolean false) (more (boolean false) end)))) ∷ []))) end))) (more (child (node Kind.ArrayExpression 25 (more (list (trees (node Kind.Literal 26 (more (literal (literal_value.Number (codes "1"))) end) ∷ node Kind.Literal 27 (more (literal (literal_value.Number (codes "2"))) end) ∷ []))) end))) end))))) (more no_string end)) ∷ []))) end))) (more (boolean false) (more (boolean false) end))))))) (more (string (codes "method")) (more (boolean false) (more (boolean true) end))))) ∷ []))) end))) end))) ∷ []))) end))

-- the number of its nodes
abbrev pub nodes_private_setter_targets : ℕ
nodes_private_setter_targets = 28

-- `var _A_brand = new WeakSet(); class A { constructor() { B.classPrivateMethodInitSpec(this, _A_brand); } static f(o) { [B.toSetter(_set_x.bind(B.assertClassBrand(_A_brand, o)))._, B.assertClassBrand(A, o, _s)._] = [1, 2]; } } function _set_x(v) {} var _s = { _: void 0 };`
abbrev pub output_private_setter_targets : Tree
output_private_setter_targets = node Kind.Program 0 (more (string (codes "script")) (more (list (trees (node Kind.VariableDeclaration 28 (more (string (codes "var")) (more (list (trees (node Kind.VariableDeclarator 29 (more (child (node Kind.BindingIdentifier 30 (more (string (codes "_A_brand")) end))) (more (child (node Kind.NewExpression 31 (more (child (node Kind.IdentifierReference 32 (more (string (codes "WeakSet")) end))) (more (list end) end)))) end)) ∷ []))) end)) ∷ node Kind.ClassDeclaration 1 (more (child (node Kind.BindingIdentifier 2 (more (string (codes "A")) end))) (more absent (more (child (node Kind.ClassBody 3 (more (list (trees (node Kind.MethodDefinition 33 (more (child (node Kind.IdentifierName 34 (more (string (codes "constructor")) end))) (more (child (node Kind.FunctionExpression 35 (more absent (more (list end) (more (child (node Kind.BlockStatement 36 (more (list (trees (node Kind.ExpressionStatement 37 (more (child (node Kind.CallExpression 38 (more (child (node Kind.MemberExpression 39 (more (child (node Kind.IdentifierReference 40 (more (string (codes "babelHelpers")) end))) (more (child (node Kind.IdentifierName 41 (more (string (codes "classPrivateMethodInitSpec")) end))) (more (boolean false) (more (boolean false) end)))))) (more (list (trees (node Kind.ThisExpression 42 end ∷ node Kind.IdentifierReference 43 (more (string (codes "_A_brand")) end) ∷ []))) (more (boolean false) end))))) (more no_string end)) ∷ []))) end))) (more (boolean false) (more (boolean false) end))))))) (more (string (codes "constructor")) (more (boolean false) (more (boolean false) end))))) ∷ node Kind.MethodDefinition 11 (more (child (node Kind.IdentifierName 12 (more (string (codes "f")) end))) (more (child (node Kind.FunctionExpression 13 (more absent (more (list (trees (node Kind.BindingIdentifier 14 (more (string (codes "o")) end) ∷ []))) (more (child (node Kind.BlockStatement 15 (more (list (trees (node Kind.ExpressionStatement 16 (more (child (node Kind.AssignmentExpression 17 (more (string (codes "=")) (more (child (node Kind.ArrayAssignmentTarget 18 (more (list (trees (node Kind.MemberExpression 19 (more (child (node Kind.CallExpression 44 (more (child (node Kind.MemberExpression 45 (more (child (node Kind.IdentifierReference 46 (more (string (codes "babelHelpers")) end))) (more (child (node Kind.IdentifierName 47 (more (string (codes "toSetter")) end))) (more (boolean false) (more (boolean false) end)))))) (more (list (trees (node Kind.CallExpression 48 (more (child (node Kind.MemberExpression 49 (more (child (node Kind.IdentifierReference 50 (more (string (codes "_set_x")) end))) (more (child (node Kind.IdentifierName 51 (more (string (codes "bind")) end))) (more (boolean false) (more (boolean false) end)))))) (more (list (trees (node Kind.CallExpression 52 (more (child (node Kind.MemberExpression 53 (more (child (node Kind.IdentifierReference 54 (more (string (codes "babelHelpers")) end))) (more (child (node Kind.IdentifierName 55 (more (string (codes "assertClassBrand")) end))) (more (boolean false) (more (boolean false) end)))))) (more (list (trees (node Kind.IdentifierReference 56 (more (string (codes "_A_brand")) end) ∷ node Kind.IdentifierReference 20 (more (string (codes "o")) end) ∷ []))) (more (boolean false) end))) ∷ []))) (more (boolean false) end))) ∷ []))) (more (boolean false) end))))) (more (child (node Kind.IdentifierName 57 (more (string (codes "_")) end))) (more (boolean false) (more (boolean false) end)))) ∷ node Kind.MemberExpression 22 (more (child (node Kind.CallExpression 58 (more (child (node Kind.MemberExpression 59 (more (child (node Kind.IdentifierReference 60 (more (string (codes "babelHelpers")) end))) (more (child (node Kind.IdentifierName 61 (more (string (codes "assertClassBrand")) end))) (more (boolean false) (more (boolean false) end)))))) (more (list (trees (node Kind.IdentifierReference 62 (more (string (codes "A")) end) ∷ node Kind.IdentifierReference 23 (more (string (codes "o")) end) ∷ node Kind.IdentifierReference 63 (more (string (codes "_s")) end) ∷ []))) (more (boolean false) end))))) (more (child (node Kind.IdentifierName 64 (more (string (codes "_")) end))) (more (boolean false) (more (boolean false) end)))) ∷ []))) end))) (more (child (node Kind.ArrayExpression 25 (more (list (trees (node Kind.Literal 26 (more (literal (literal_value.Number (codes "1"))) end) ∷ node Kind.Literal 27 (more (literal (literal_value.Number (codes "2"))) end) ∷ []))) end))) end))))) (more no_string end)) ∷ []))) end))) (more (boolean false) (more (boolean false) end))))))) (more (string (codes "method")) (more (boolean false) (more (boolean true) end))))) ∷ []))) end))) end))) ∷ node Kind.FunctionDeclaration 6 (more (child (node Kind.BindingIdentifier 65 (more (string (codes "_set_x")) end))) (more (list (trees (node Kind.BindingIdentifier 7 (more (string (codes "v")) end) ∷ []))) (more (child (node Kind.BlockStatement 8 (more (list end) end))) (more (boolean false) (more (boolean false) end))))) ∷ node Kind.VariableDeclaration 66 (more (string (codes "var")) (more (list (trees (node Kind.VariableDeclarator 67 (more (child (node Kind.BindingIdentifier 68 (more (string (codes "_s")) end))) (more (child (node Kind.ObjectExpression 69 (more (list (trees (node Kind.Property 70 (more (child (node Kind.IdentifierName 71 (more (string (codes "_")) end))) (more (child (node Kind.UnaryExpression 72 (more (string (codes "void")) (more (child (node Kind.Literal 73 (more (literal (literal_value.Number (codes "0"))) end))) end)))) (more (string (codes "init")) (more (boolean false) (more (boolean false) (more (boolean false) end)))))) ∷ []))) end))) end)) ∷ []))) end)) ∷ []))) end))

abbrev pub generated_private_setter_targets : List LedgerEntry
generated_private_setter_targets = record { name = codes "_A_brand"; kind = GeneratedKind.Brand (record { 0 = 1 }) } ∷ record { name = codes "_s"; kind = GeneratedKind.StaticField (record { 0 = 10 }) } ∷ record { name = codes "_set_x"; kind = GeneratedKind.Method (record { 0 = 5 }) } ∷ []

-- the numbers of its shapes
abbrev pub outside_private_setter_targets : List ℕ
outside_private_setter_targets = []

abbrev pub options_private_setter_targets : Options
options_private_setter_targets = options_of false (Some (record { loose = false })) false

-- Printed by tools/rows/number-rows.js from `private_update_in_module` of tools/rows/rows.json: a worked row with its numbers.
use Rattle.std.specs.Prelude.{ℕ, List, [], ◌∷◌, true, false, codes, Some}
use Rattle.es_base.specs.Tree.{Tree, end, more, child, absent, list, string, no_string, boolean, literal, trees}
use Rattle.es_base.specs.declared.kind.Kind.{Kind}
use Rattle.es_base.specs.declared.ledger.GeneratedKind.{GeneratedKind}
use Rattle.es_base.specs.declared.ledger.LedgerEntry.{LedgerEntry}
use Rattle.es_base.specs.declared.literal.LiteralValue.TheVariants as literal_value
use Rattle.es_steps.specs.Generated.{node}
use Rattle.es_steps.specs.Options.{options_of}
use Rattle.es_steps.specs.declared.options.Options.{Options}

-- `export class Store extends EventTarget { #items = new Map(); static #count = 0; add(k, v) { this.#items.set(k, v); Store.#count++; } }`
abbrev pub source_private_update_in_module : Tree
source_private_update_in_module = node Kind.Program 0 (more (string (codes "module")) (more (list (trees (node Kind.ExportNamedDeclaration 1 (more (child (node Kind.ClassDeclaration 2 (more (child (node Kind.BindingIdentifier 3 (more (string (codes "Store")) end))) (more (child (node Kind.IdentifierReference 4 (more (string (codes "EventTarget")) end))) (more (child (node Kind.ClassBody 5 (more (list (trees (node Kind.PropertyDefinition 6 (more (child (node Kind.PrivateIdentifier 7 (more (string (codes "items")) end))) (more (child (node Kind.NewExpression 8 (more (child (node Kind.IdentifierReference 9 (more (string (codes "Map")) end))) (more (list end) end)))) (more (boolean false) (more (boolean false) end)))) ∷ node Kind.PropertyDefinition 10 (more (child (node Kind.PrivateIdentifier 11 (more (string (codes "count")) end))) (more (child (node Kind.Literal 12 (more (literal (literal_value.Number (codes "0"))) end))) (more (boolean false) (more (boolean true) end)))) ∷ node Kind.MethodDefinition 13 (more (child (node Kind.IdentifierName 14 (more (string (codes "add")) end))) (more (child (node Kind.FunctionExpression 15 (more absent (more (list (trees (node Kind.BindingIdentifier 16 (more (string (codes "k")) end) ∷ node Kind.BindingIdentifier 17 (more (string (codes "v")) end) ∷ []))) (more (child (node Kind.BlockStatement 18 (more (list (trees (node Kind.ExpressionStatement 19 (more (child (node Kind.CallExpression 20 (more (child (node Kind.MemberExpression 21 (more (child (node Kind.PrivateField 22 (more (child (node Kind.ThisExpression 23 end)) (more (child (node Kind.PrivateIdentifier 24 (more (string (codes "items")) end))) (more (boolean false) (more (boolean false) end)))))) (more (child (node Kind.IdentifierName 25 (more (string (codes "set")) end))) (more (boolean false) (more (boolean false) end)))))) (more (list (trees (node Kind.IdentifierReference 26 (more (string (codes "k")) end) ∷ node Kind.IdentifierReference 27 (more (string (codes "v")) end) ∷ []))) (more (boolean false) end))))) (more no_string end)) ∷ node Kind.ExpressionStatement 28 (more (child (node Kind.UpdateExpression 29 (more (string (codes "++")) (more (child (node Kind.PrivateField 30 (more (child (node Kind.IdentifierReference 31 (more (string (codes "Store")) end))) (more (child (node Kind.PrivateIdentifier 32 (more (string (codes "count")) end))) (more (boolean false) (more (boolean false) end)))))) (more (boolean false) end))))) (more no_string end)) ∷ []))) end))) (more (boolean false) (more (boolean false) end))))))) (more (string (codes "method")) (more (boolean false) (more (boolean false) end))))) ∷ []))) end))) end))))) (more (list end) (more absent end))) ∷ []))) end))

-- the number of its nodes
abbrev pub nodes_private_update_in_module : ℕ
nodes_private_update_in_module = 33

-- `var _items = new WeakMap(); export class Store extends EventTarget { constructor(..._args) { super(..._args); B.classPrivateFieldInitSpec(this, _items, new Map()); } add(k, v) { var _Store$count, _Store$count2; B.classPrivateFieldGet2(_items, this).set(k, v); _count._ = (_Store$count = _count._, _Store$count2 = _Store$count++, _Store$count), _Store$count2; } } var _count = { _: 0 };`
abbrev pub output_private_update_in_module : Tree
output_private_update_in_module = node Kind.Program 0 (more (string (codes "module")) (more (list (trees (node Kind.VariableDeclaration 33 (more (string (codes "var")) (more (list (trees (node Kind.VariableDeclarator 34 (more (child (node Kind.BindingIdentifier 35 (more (string (codes "_items")) end))) (more (child (node Kind.NewExpression 36 (more (child (node Kind.IdentifierReference 37 (more (string (codes "WeakMap")) end))) (more (list end) end)))) end)) ∷ []))) end)) ∷ node Kind.ExportNamedDeclaration 1 (more (child (node Kind.ClassDeclaration 2 (more (child (node Kind.BindingIdentifier 3 (more (string (codes "Store")) end))) (more (child (node Kind.IdentifierReference 4 (more (string (codes "EventTarget")) end))) (more (child (node Kind.ClassBody 5 (more (list (trees (node Kind.MethodDefinition 38 (more (child (node Kind.IdentifierName 39 (more (string (codes "constructor")) end))) (more (child (node Kind.FunctionExpression 40 (more absent (more (list (trees (node Kind.RestElement 41 (more (child (node Kind.BindingIdentifier 42 (more (string (codes "_args")) end))) end) ∷ []))) (more (child (node Kind.BlockStatement 43 (more (list (trees (node Kind.ExpressionStatement 44 (more (child (node Kind.CallExpression 45 (more (child (node Kind.Super 46 end)) (more (list (trees (node Kind.SpreadElement 47 (more (child (node Kind.IdentifierReference 48 (more (string (codes "_args")) end))) end) ∷ []))) (more (boolean false) end))))) (more no_string end)) ∷ node Kind.ExpressionStatement 49 (more (child (node Kind.CallExpression 50 (more (child (node Kind.MemberExpression 51 (more (child (node Kind.IdentifierReference 52 (more (string (codes "babelHelpers")) end))) (more (child (node Kind.IdentifierName 53 (more (string (codes "classPrivateFieldInitSpec")) end))) (more (boolean false) (more (boolean false) end)))))) (more (list (trees (node Kind.ThisExpression 54 end ∷ node Kind.IdentifierReference 55 (more (string (codes "_items")) end) ∷ node Kind.NewExpression 8 (more (child (node Kind.IdentifierReference 9 (more (string (codes "Map")) end))) (more (list end) end)) ∷ []))) (more (boolean false) end))))) (more no_string end)) ∷ []))) end))) (more (boolean false) (more (boolean false) end))))))) (more (string (codes "constructor")) (more (boolean false) (more (boolean false) end))))) ∷ node Kind.MethodDefinition 13 (more (child (node Kind.IdentifierName 14 (more (string (codes "add")) end))) (more (child (node Kind.FunctionExpression 15 (more absent (more (list (trees (node Kind.BindingIdentifier 16 (more (string (codes "k")) end) ∷ node Kind.BindingIdentifier 17 (more (string (codes "v")) end) ∷ []))) (more (child (node Kind.BlockStatement 18 (more (list (trees (node Kind.VariableDeclaration 56 (more (string (codes "var")) (more (list (trees (node Kind.VariableDeclarator 57 (more (child (node Kind.BindingIdentifier 58 (more (string (codes "_Store$count")) end))) (more absent end)) ∷ node Kind.VariableDeclarator 59 (more (child (node Kind.BindingIdentifier 60 (more (string (codes "_Store$count2")) end))) (more absent end)) ∷ []))) end)) ∷ node Kind.ExpressionStatement 19 (more (child (node Kind.CallExpression 20 (more (child (node Kind.MemberExpression 21 (more (child (node Kind.CallExpression 22 (more (child (node Kind.MemberExpression 61 (more (child (node Kind.IdentifierReference 62 (more (string (codes "babelHelpers")) end))) (more (child (node Kind.IdentifierName 63 (more (string (codes "classPrivateFieldGet2")) end))) (more (boolean false) (more (boolean false) end)))))) (more (list (trees (node Kind.IdentifierReference 64 (more (string (codes "_items")) end) ∷ node Kind.ThisExpression 23 end ∷ []))) (more (boolean false) end))))) (more (child (node Kind.IdentifierName 25 (more (string (codes "set")) end))) (more (boolean false) (more (boolean false) end)))))) (more (list (trees (node Kind.IdentifierReference 26 (more (string (codes "k")) end) ∷ node Kind.IdentifierReference 27 (more (string (codes "v")) end) ∷ []))) (more (boolean false) end))))) (more no_string end)) ∷ node Kind.ExpressionStatement 28 (more (child (node Kind.SequenceExpression 65 (more (list (trees (node Kind.AssignmentExpression 66 (more (string (codes "=")) (more (child (node Kind.MemberExpression 67 (more (child (node Kind.IdentifierReference 68 (more (string (codes "_count")) end))) (more (child (node Kind.IdentifierName 69 (more (string (codes "_")) end))) (more (boolean false) (more (boolean false) end)))))) (more (child (node Kind.SequenceExpression 70 (more (list (trees (node Kind.AssignmentExpression 71 (more (string (codes "=")) (more (child (node Kind.IdentifierReference 72 (more (string (codes "_Store$count")) end))) (more (child (node Kind.MemberExpression 30 (more (child (node Kind.IdentifierReference 73 (more (string (codes "_count")) end))) (more (child (node Kind.IdentifierName 74 (more (string (codes "_")) end))) (more (boolean false) (more (boolean false) end)))))) end))) ∷ node Kind.AssignmentExpression 75 (more (string (codes "=")) (more (child (node Kind.IdentifierReference 76 (more (string (codes "_Store$count2")) end))) (more (child (node Kind.UpdateExpression 29 (more (string (codes "++")) (more (child (node Kind.IdentifierReference 77 (more (string (codes "_Store$count")) end))) (more (boolean false) end))))) end))) ∷ node Kind.IdentifierReference 78 (more (string (codes "_Store$count")) end) ∷ []))) end))) end))) ∷ node Kind.IdentifierReference 79 (more (string (codes "_Store$count2")) end) ∷ []))) end))) (more no_string end)) ∷ []))) end))) (more (boolean false) (more (boolean false) end))))))) (more (string (codes "method")) (more (boolean false) (more (boolean false) end))))) ∷ []))) end))) end))))) (more (list end) (more absent end))) ∷ node Kind.VariableDeclaration 80 (more (string (codes "var")) (more (list (trees (node Kind.VariableDeclarator 81 (more (child (node Kind.BindingIdentifier 82 (more (string (codes "_count")) end))) (more (child (node Kind.ObjectExpression 83 (more (list (trees (node Kind.Property 84 (more (child (node Kind.IdentifierName 85 (more (string (codes "_")) end))) (more (child (node Kind.Literal 12 (more (literal (literal_value.Number (codes "0"))) end))) (more (string (codes "init")) (more (boolean false) (more (boolean false) (more (boolean false) end)))))) ∷ []))) end))) end)) ∷ []))) end)) ∷ []))) end))

abbrev pub generated_private_update_in_module : List LedgerEntry
generated_private_update_in_module = record { name = codes "_Store$count"; kind = GeneratedKind.Temp } ∷ record { name = codes "_Store$count2"; kind = GeneratedKind.Temp } ∷ record { name = codes "_args"; kind = GeneratedKind.Args } ∷ record { name = codes "_count"; kind = GeneratedKind.StaticField (record { 0 = 11 }) } ∷ record { name = codes "_items"; kind = GeneratedKind.WeakMap (record { 0 = 7 }) } ∷ []

-- the numbers of its shapes
abbrev pub outside_private_update_in_module : List ℕ
outside_private_update_in_module = []

abbrev pub options_private_update_in_module : Options
options_private_update_in_module = options_of false (Some (record { loose = false })) false

-- Printed by tools/rows/witnesses.js.
use Rattle.std.specs.Prelude.{ℕ, List, [], ◌∷◌, true, false, codes, Some}
use Rattle.es_base.specs.Tree.{Tree, end, more, child, absent, list, string, no_string, boolean, literal, trees}
use Rattle.es_base.specs.declared.kind.Kind.{Kind}
use Rattle.es_base.specs.declared.ledger.GeneratedKind.{GeneratedKind}
use Rattle.es_base.specs.declared.ledger.LedgerEntry.{LedgerEntry}
use Rattle.es_base.specs.declared.literal.LiteralValue.TheVariants as literal_value
use Rattle.es_steps.specs.Generated.{node}
use Rattle.es_steps.specs.Options.{options_of}
use Rattle.es_steps.specs.declared.options.Options.{Options}

-- `class A { #x; m(o, f) { o.#x ??= f(); [o.#x] = f(); o.#x(1); } }`
abbrev pub source_maps_in_loose_mode : Tree
source_maps_in_loose_mode = node Kind.Program 0 (more (string (codes "script")) (more (list (trees (node Kind.ClassDeclaration 1 (more (child (node Kind.BindingIdentifier 2 (more (string (codes "A")) end))) (more absent (more (child (node Kind.ClassBody 3 (more (list (trees (node Kind.PropertyDefinition 4 (more (child (node Kind.PrivateIdentifier 5 (more (string (codes "x")) end))) (more absent (more (boolean false) (more (boolean false) end)))) ∷ node Kind.MethodDefinition 6 (more (child (node Kind.IdentifierName 7 (more (string (codes "m")) end))) (more (child (node Kind.FunctionExpression 8 (more absent (more (list (trees (node Kind.BindingIdentifier 9 (more (string (codes "o")) end) ∷ node Kind.BindingIdentifier 10 (more (string (codes "f")) end) ∷ []))) (more (child (node Kind.BlockStatement 11 (more (list (trees (node Kind.ExpressionStatement 12 (more (child (node Kind.AssignmentExpression 13 (more (string (codes "??=")) (more (child (node Kind.PrivateField 14 (more (child (node Kind.IdentifierReference 15 (more (string (codes "o")) end))) (more (child (node Kind.PrivateIdentifier 16 (more (string (codes "x")) end))) (more (boolean false) (more (boolean false) end)))))) (more (child (node Kind.CallExpression 17 (more (child (node Kind.IdentifierReference 18 (more (string (codes "f")) end))) (more (list end) (more (boolean false) end))))) end))))) (more no_string end)) ∷ node Kind.ExpressionStatement 19 (more (child (node Kind.AssignmentExpression 20 (more (string (codes "=")) (more (child (node Kind.ArrayAssignmentTarget 21 (more (list (trees (node Kind.PrivateField 22 (more (child (node Kind.IdentifierReference 23 (more (string (codes "o")) end))) (more (child (node Kind.PrivateIdentifier 24 (more (string (codes "x")) end))) (more (boolean false) (more (boolean false) end)))) ∷ []))) end))) (more (child (node Kind.CallExpression 25 (more (child (node Kind.IdentifierReference 26 (more (string (codes "f")) end))) (more (list end) (more (boolean false) end))))) end))))) (more no_string end)) ∷ node Kind.ExpressionStatement 27 (more (child (node Kind.CallExpression 28 (more (child (node Kind.PrivateField 29 (more (child (node Kind.IdentifierReference 30 (more (string (codes "o")) end))) (more (child (node Kind.PrivateIdentifier 31 (more (string (codes "x")) end))) (more (boolean false) (more (boolean false) end)))))) (more (list (trees (node Kind.Literal 32 (more (literal (literal_value.Number (codes "1"))) end) ∷ []))) (more (boolean false) end))))) (more no_string end)) ∷ []))) end))) (more (boolean false) (more (boolean false) end))))))) (more (string (codes "method")) (more (boolean false) (more (boolean false) end))))) ∷ []))) end))) end))) ∷ []))) end))

-- a private field in a map, where the options keep it as a property, where `var _x = new WeakMap(); class A { constructor() { B.classPrivateFieldInitSpec(this, _x, void 0); } m(o, f) { B.classPrivateFieldGet2(_x, o) ?? B.classPrivateFieldSet2(_x, o, f()); [B.toSetter(B.classPrivateFieldSet2, [_x, o])._] = f(); B.classPrivateFieldGet2(_x, o).call(o, 1); } }` is right
abbrev pub output_maps_in_loose_mode : Tree
output_maps_in_loose_mode = node Kind.Program 0 (more (string (codes "script")) (more (list (trees (node Kind.VariableDeclaration 33 (more (string (codes "var")) (more (list (trees (node Kind.VariableDeclarator 34 (more (child (node Kind.BindingIdentifier 35 (more (string (codes "_x")) end))) (more (child (node Kind.NewExpression 36 (more (child (node Kind.IdentifierReference 37 (more (string (codes "WeakMap")) end))) (more (list end) end)))) end)) ∷ []))) end)) ∷ node Kind.ClassDeclaration 1 (more (child (node Kind.BindingIdentifier 2 (more (string (codes "A")) end))) (more absent (more (child (node Kind.ClassBody 3 (more (list (trees (node Kind.MethodDefinition 38 (more (child (node Kind.IdentifierName 39 (more (string (codes "constructor")) end))) (more (child (node Kind.FunctionExpression 40 (more absent (more (list end) (more (child (node Kind.BlockStatement 41 (more (list (trees (node Kind.ExpressionStatement 42 (more (child (node Kind.CallExpression 43 (more (child (node Kind.MemberExpression 44 (more (child (node Kind.IdentifierReference 45 (more (string (codes "babelHelpers")) end))) (more (child (node Kind.IdentifierName 46 (more (string (codes "classPrivateFieldInitSpec")) end))) (more (boolean false) (more (boolean false) end)))))) (more (list (trees (node Kind.ThisExpression 47 end ∷ node Kind.IdentifierReference 48 (more (string (codes "_x")) end) ∷ node Kind.UnaryExpression 49 (more (string (codes "void")) (more (child (node Kind.Literal 50 (more (literal (literal_value.Number (codes "0"))) end))) end)) ∷ []))) (more (boolean false) end))))) (more no_string end)) ∷ []))) end))) (more (boolean false) (more (boolean false) end))))))) (more (string (codes "constructor")) (more (boolean false) (more (boolean false) end))))) ∷ node Kind.MethodDefinition 6 (more (child (node Kind.IdentifierName 7 (more (string (codes "m")) end))) (more (child (node Kind.FunctionExpression 8 (more absent (more (list (trees (node Kind.BindingIdentifier 9 (more (string (codes "o")) end) ∷ node Kind.BindingIdentifier 10 (more (string (codes "f")) end) ∷ []))) (more (child (node Kind.BlockStatement 11 (more (list (trees (node Kind.ExpressionStatement 12 (more (child (node Kind.LogicalExpression 13 (more (string (codes "??")) (more (child (node Kind.CallExpression 14 (more (child (node Kind.MemberExpression 51 (more (child (node Kind.IdentifierReference 52 (more (string (codes "babelHelpers")) end))) (more (child (node Kind.IdentifierName 53 (more (string (codes "classPrivateFieldGet2")) end))) (more (boolean false) (more (boolean false) end)))))) (more (list (trees (node Kind.IdentifierReference 54 (more (string (codes "_x")) end) ∷ node Kind.IdentifierReference 15 (more (string (codes "o")) end) ∷ []))) (more (boolean false) end))))) (more (child (node Kind.CallExpression 55 (more (child (node Kind.MemberExpression 56 (more (child (node Kind.IdentifierReference 57 (more (string (codes "babelHelpers")) end))) (more (child (node Kind.IdentifierName 58 (more (string (codes "classPrivateFieldSet2")) end))) (more (boolean false) (more (boolean false) end)))))) (more (list (trees (node Kind.IdentifierReference 59 (more (string (codes "_x")) end) ∷ node Kind.IdentifierReference 60 (more (string (codes "o")) end) ∷ node Kind.CallExpression 17 (more (child (node Kind.IdentifierReference 18 (more (string (codes "f")) end))) (more (list end) (more (boolean false) end))) ∷ []))) (more (boolean false) end))))) end))))) (more no_string end)) ∷ node Kind.ExpressionStatement 19 (more (child (node Kind.AssignmentExpression 20 (more (string (codes "=")) (more (child (node Kind.ArrayAssignmentTarget 21 (more (list (trees (node Kind.MemberExpression 22 (more (child (node Kind.CallExpression 61 (more (child (node Kind.MemberExpression 62 (more (child (node Kind.IdentifierReference 63 (more (string (codes "babelHelpers")) end))) (more (child (node Kind.IdentifierName 64 (more (string (codes "toSetter")) end))) (more (boolean false) (more (boolean false) end)))))) (more (list (trees (node Kind.MemberExpression 65 (more (child (node Kind.IdentifierReference 66 (more (string (codes "babelHelpers")) end))) (more (child (node Kind.IdentifierName 67 (more (string (codes "classPrivateFieldSet2")) end))) (more (boolean false) (more (boolean false) end)))) ∷ node Kind.ArrayExpression 68 (more (list (trees (node Kind.IdentifierReference 69 (more (string (codes "_x")) end) ∷ node Kind.IdentifierReference 23 (more (string (codes "o")) end) ∷ []))) end) ∷ []))) (more (boolean false) end))))) (more (child (node Kind.IdentifierName 70 (more (string (codes "_")) end))) (more (boolean false) (more (boolean false) end)))) ∷ []))) end))) (more (child (node Kind.CallExpression 25 (more (child (node Kind.IdentifierReference 26 (more (string (codes "f")) end))) (more (list end) (more (boolean false) end))))) end))))) (more no_string end)) ∷ node Kind.ExpressionStatement 27 (more (child (node Kind.CallExpression 28 (more (child (node Kind.MemberExpression 71 (more (child (node Kind.CallExpression 29 (more (child (node Kind.MemberExpression 72 (more (child (node Kind.IdentifierReference 73 (more (string (codes "babelHelpers")) end))) (more (child (node Kind.IdentifierName 74 (more (string (codes "classPrivateFieldGet2")) end))) (more (boolean false) (more (boolean false) end)))))) (more (list (trees (node Kind.IdentifierReference 75 (more (string (codes "_x")) end) ∷ node Kind.IdentifierReference 30 (more (string (codes "o")) end) ∷ []))) (more (boolean false) end))))) (more (child (node Kind.IdentifierName 76 (more (string (codes "call")) end))) (more (boolean false) (more (boolean false) end)))))) (more (list (trees (node Kind.IdentifierReference 77 (more (string (codes "o")) end) ∷ node Kind.Literal 32 (more (literal (literal_value.Number (codes "1"))) end) ∷ []))) (more (boolean false) end))))) (more no_string end)) ∷ []))) end))) (more (boolean false) (more (boolean false) end))))))) (more (string (codes "method")) (more (boolean false) (more (boolean false) end))))) ∷ []))) end))) end))) ∷ []))) end))

abbrev pub generated_maps_in_loose_mode : List LedgerEntry
generated_maps_in_loose_mode = record { name = codes "_x"; kind = GeneratedKind.WeakMap (record { 0 = 5 }) } ∷ []

abbrev pub options_maps_in_loose_mode : Options
options_maps_in_loose_mode = options_of false (Some (record { loose = true })) false

-- Printed by tools/rows/witnesses.js.
use Rattle.std.specs.Prelude.{ℕ, List, [], ◌∷◌, true, false, codes, Some, None}
use Rattle.es_base.specs.Tree.{Tree, end, more, child, absent, list, string, no_string, boolean, literal, trees}
use Rattle.es_base.specs.declared.kind.Kind.{Kind}
use Rattle.es_base.specs.declared.ledger.GeneratedKind.{GeneratedKind}
use Rattle.es_base.specs.declared.ledger.LedgerEntry.{LedgerEntry}
use Rattle.es_base.specs.declared.literal.LiteralValue.TheVariants as literal_value
use Rattle.es_steps.specs.Generated.{node}
use Rattle.es_steps.specs.Options.{options_of}
use Rattle.es_steps.specs.declared.options.Options.{Options}

-- `class A { #x = 1; m() { delete (0, this.#x); return this.#x; } } f(new A().m());`
abbrev pub source_delete_of_a_private_property : Tree
source_delete_of_a_private_property = node Kind.Program 0 (more (string (codes "script")) (more (list (trees (node Kind.ClassDeclaration 1 (more (child (node Kind.BindingIdentifier 2 (more (string (codes "A")) end))) (more absent (more (child (node Kind.ClassBody 3 (more (list (trees (node Kind.PropertyDefinition 4 (more (child (node Kind.PrivateIdentifier 5 (more (string (codes "x")) end))) (more (child (node Kind.Literal 6 (more (literal (literal_value.Number (codes "1"))) end))) (more (boolean false) (more (boolean false) end)))) ∷ node Kind.MethodDefinition 7 (more (child (node Kind.IdentifierName 8 (more (string (codes "m")) end))) (more (child (node Kind.FunctionExpression 9 (more absent (more (list end) (more (child (node Kind.BlockStatement 10 (more (list (trees (node Kind.ExpressionStatement 11 (more (child (node Kind.UnaryExpression 12 (more (string (codes "delete")) (more (child (node Kind.SequenceExpression 13 (more (list (trees (node Kind.Literal 14 (more (literal (literal_value.Number (codes "0"))) end) ∷ node Kind.PrivateField 15 (more (child (node Kind.ThisExpression 16 end)) (more (child (node Kind.PrivateIdentifier 17 (more (string (codes "x")) end))) (more (boolean false) (more (boolean false) end)))) ∷ []))) end))) end)))) (more no_string end)) ∷ node Kind.ReturnStatement 18 (more (child (node Kind.PrivateField 19 (more (child (node Kind.ThisExpression 20 end)) (more (child (node Kind.PrivateIdentifier 21 (more (string (codes "x")) end))) (more (boolean false) (more (boolean false) end)))))) end) ∷ []))) end))) (more (boolean false) (more (boolean false) end))))))) (more (string (codes "method")) (more (boolean false) (more (boolean false) end))))) ∷ []))) end))) end))) ∷ node Kind.ExpressionStatement 22 (more (child (node Kind.CallExpression 23 (more (child (node Kind.IdentifierReference 24 (more (string (codes "f")) end))) (more (list (trees (node Kind.CallExpression 25 (more (child (node Kind.MemberExpression 26 (more (child (node Kind.NewExpression 27 (more (child (node Kind.IdentifierReference 28 (more (string (codes "A")) end))) (more (list end) end)))) (more (child (node Kind.IdentifierName 29 (more (string (codes "m")) end))) (more (boolean false) (more (boolean false) end)))))) (more (list end) (more (boolean false) end))) ∷ []))) (more (boolean false) end))))) (more no_string end)) ∷ []))) end))

-- `delete` of a private member that is kept as a property, in place of a sequence that gives its value: `var _x = B.classPrivateFieldLooseKey("x"); class A { constructor() { Object.defineProperty(this, _x, { writable: true, value: 1 }); } m() { delete B.classPrivateFieldLooseBase(this, _x)[_x]; return B.classPrivateFieldLooseBase(this, _x)[_x]; } } f(new A().m());`
abbrev pub output_delete_of_a_private_property : Tree
output_delete_of_a_private_property = node Kind.Program 0 (more (string (codes "script")) (more (list (trees (node Kind.VariableDeclaration 30 (more (string (codes "var")) (more (list (trees (node Kind.VariableDeclarator 31 (more (child (node Kind.BindingIdentifier 32 (more (string (codes "_x")) end))) (more (child (node Kind.CallExpression 33 (more (child (node Kind.MemberExpression 34 (more (child (node Kind.IdentifierReference 35 (more (string (codes "babelHelpers")) end))) (more (child (node Kind.IdentifierName 36 (more (string (codes "classPrivateFieldLooseKey")) end))) (more (boolean false) (more (boolean false) end)))))) (more (list (trees (node Kind.Literal 37 (more (literal (literal_value.String (codes "x") None)) end) ∷ []))) (more (boolean false) end))))) end)) ∷ []))) end)) ∷ node Kind.ClassDeclaration 1 (more (child (node Kind.BindingIdentifier 2 (more (string (codes "A")) end))) (more absent (more (child (node Kind.ClassBody 3 (more (list (trees (node Kind.MethodDefinition 38 (more (child (node Kind.IdentifierName 39 (more (string (codes "constructor")) end))) (more (child (node Kind.FunctionExpression 40 (more absent (more (list end) (more (child (node Kind.BlockStatement 41 (more (list (trees (node Kind.ExpressionStatement 42 (more (child (node Kind.CallExpression 43 (more (child (node Kind.MemberExpression 44 (more (child (node Kind.IdentifierReference 45 (more (string (codes "Object")) end))) (more (child (node Kind.IdentifierName 46 (more (string (codes "defineProperty")) end))) (more (boolean false) (more (boolean false) end)))))) (more (list (trees (node Kind.ThisExpression 47 end ∷ node Kind.IdentifierReference 48 (more (string (codes "_x")) end) ∷ node Kind.ObjectExpression 49 (more (list (trees (node Kind.Property 50 (more (child (node Kind.IdentifierName 51 (more (string (codes "writable")) end))) (more (child (node Kind.Literal 52 (more (literal (literal_value.Boolean true)) end))) (more (string (codes "init")) (more (boolean false) (more (boolean false) (more (boolean false) end)))))) ∷ node Kind.Property 53 (more (child (node Kind.IdentifierName 54 (more (string (codes "value")) end))) (more (child (node Kind.Literal 6 (more (literal (literal_value.Number (codes "1"))) end))) (more (string (codes "init")) (more (boolean false) (more (boolean false) (more (boolean false) end)))))) ∷ []))) end) ∷ []))) (more (boolean false) end))))) (more no_string end)) ∷ []))) end))) (more (boolean false) (more (boolean false) end))))))) (more (string (codes "constructor")) (more (boolean false) (more (boolean false) end))))) ∷ node Kind.MethodDefinition 7 (more (child (node Kind.IdentifierName 8 (more (string (codes "m")) end))) (more (child (node Kind.FunctionExpression 9 (more absent (more (list end) (more (child (node Kind.BlockStatement 10 (more (list (trees (node Kind.ExpressionStatement 55 (more (child (node Kind.UnaryExpression 56 (more (string (codes "delete")) (more (child (node Kind.MemberExpression 57 (more (child (node Kind.CallExpression 58 (more (child (node Kind.MemberExpression 59 (more (child (node Kind.IdentifierReference 60 (more (string (codes "babelHelpers")) end))) (more (child (node Kind.IdentifierName 61 (more (string (codes "classPrivateFieldLooseBase")) end))) (more (boolean false) (more (boolean false) end)))))) (more (list (trees (node Kind.ThisExpression 62 end ∷ node Kind.IdentifierReference 63 (more (string (codes "_x")) end) ∷ []))) (more (boolean false) end))))) (more (child (node Kind.IdentifierReference 64 (more (string (codes "_x")) end))) (more (boolean true) (more (boolean false) end)))))) end)))) (more no_string end)) ∷ node Kind.ReturnStatement 18 (more (child (node Kind.MemberExpression 65 (more (child (node Kind.CallExpression 66 (more (child (node Kind.MemberExpression 67 (more (child (node Kind.IdentifierReference 68 (more (string (codes "babelHelpers")) end))) (more (child (node Kind.IdentifierName 69 (more (string (codes "classPrivateFieldLooseBase")) end))) (more (boolean false) (more (boolean false) end)))))) (more (list (trees (node Kind.ThisExpression 70 end ∷ node Kind.IdentifierReference 71 (more (string (codes "_x")) end) ∷ []))) (more (boolean false) end))))) (more (child (node Kind.IdentifierReference 72 (more (string (codes "_x")) end))) (more (boolean true) (more (boolean false) end)))))) end) ∷ []))) end))) (more (boolean false) (more (boolean false) end))))))) (more (string (codes "method")) (more (boolean false) (more (boolean false) end))))) ∷ []))) end))) end))) ∷ node Kind.ExpressionStatement 22 (more (child (node Kind.CallExpression 23 (more (child (node Kind.IdentifierReference 24 (more (string (codes "f")) end))) (more (list (trees (node Kind.CallExpression 25 (more (child (node Kind.MemberExpression 26 (more (child (node Kind.NewExpression 27 (more (child (node Kind.IdentifierReference 28 (more (string (codes "A")) end))) (more (list end) end)))) (more (child (node Kind.IdentifierName 29 (more (string (codes "m")) end))) (more (boolean false) (more (boolean false) end)))))) (more (list end) (more (boolean false) end))) ∷ []))) (more (boolean false) end))))) (more no_string end)) ∷ []))) end))

abbrev pub generated_delete_of_a_private_property : List LedgerEntry
generated_delete_of_a_private_property = record { name = codes "_x"; kind = GeneratedKind.LooseKey (record { 0 = 5 }) } ∷ []

abbrev pub options_delete_of_a_private_property : Options
options_delete_of_a_private_property = options_of false (Some (record { loose = true })) false

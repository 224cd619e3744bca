-- Printed by tools/rows/number-rows.js from `private_update_in_an_arrow` of tools/rows/forms.json: a worked row with its numbers.
use Rattle.std.specs.Prelude.{ℕ, List, [], ◌∷◌, false, codes, Some}
use Rattle.es_base.specs.Tree.{Tree, end, more, child, absent, list, string, no_string, boolean, literal, trees}
use Rattle.es_base.specs.declared.kind.Kind.{Kind}
use Rattle.es_base.specs.declared.ledger.GeneratedKind.{GeneratedKind}
use Rattle.es_base.specs.declared.ledger.LedgerEntry.{LedgerEntry}
use Rattle.es_base.specs.declared.literal.LiteralValue.TheVariants as literal_value
use Rattle.es_steps.specs.Generated.{node}
use Rattle.es_steps.specs.Options.{options_of}
use Rattle.es_steps.specs.declared.options.Options.{Options}

-- `class A { #x; m(o) { return () => o().#x++; } }`
abbrev pub source_private_update_in_an_arrow : Tree
source_private_update_in_an_arrow = node Kind.Program 0 (more (string (codes "script")) (more (list (trees (node Kind.ClassDeclaration 1 (more (child (node Kind.BindingIdentifier 2 (more (string (codes "A")) end))) (more absent (more (child (node Kind.ClassBody 3 (more (list (trees (node Kind.PropertyDefinition 4 (more (child (node Kind.PrivateIdentifier 5 (more (string (codes "x")) end))) (more absent (more (boolean false) (more (boolean false) end)))) ∷ node Kind.MethodDefinition 6 (more (child (node Kind.IdentifierName 7 (more (string (codes "m")) end))) (more (child (node Kind.FunctionExpression 8 (more absent (more (list (trees (node Kind.BindingIdentifier 9 (more (string (codes "o")) end) ∷ []))) (more (child (node Kind.BlockStatement 10 (more (list (trees (node Kind.ReturnStatement 11 (more (child (node Kind.ArrowFunctionExpression 12 (more (list end) (more (child (node Kind.UpdateExpression 13 (more (string (codes "++")) (more (child (node Kind.PrivateField 14 (more (child (node Kind.CallExpression 15 (more (child (node Kind.IdentifierReference 16 (more (string (codes "o")) end))) (more (list end) (more (boolean false) end))))) (more (child (node Kind.PrivateIdentifier 17 (more (string (codes "x")) end))) (more (boolean false) (more (boolean false) end)))))) (more (boolean false) end))))) (more (boolean false) end))))) end) ∷ []))) end))) (more (boolean false) (more (boolean false) end))))))) (more (string (codes "method")) (more (boolean false) (more (boolean false) end))))) ∷ []))) end))) end))) ∷ []))) end))

-- the number of its nodes
abbrev pub nodes_private_update_in_an_arrow : ℕ
nodes_private_update_in_an_arrow = 18

-- `var _x = new WeakMap(); class A { constructor() { B.classPrivateFieldInitSpec(this, _x, void 0); } m(o) { var _o, _o$x, _o$x2; return () => (B.classPrivateFieldSet2(_x, _o = o(), (_o$x = B.classPrivateFieldGet2(_x, _o), _o$x2 = _o$x++, _o$x)), _o$x2); } }`
abbrev pub output_private_update_in_an_arrow : Tree
output_private_update_in_an_arrow = node Kind.Program 0 (more (string (codes "script")) (more (list (trees (node Kind.VariableDeclaration 18 (more (string (codes "var")) (more (list (trees (node Kind.VariableDeclarator 19 (more (child (node Kind.BindingIdentifier 20 (more (string (codes "_x")) end))) (more (child (node Kind.NewExpression 21 (more (child (node Kind.IdentifierReference 22 (more (string (codes "WeakMap")) end))) (more (list end) end)))) end)) ∷ []))) end)) ∷ node Kind.ClassDeclaration 1 (more (child (node Kind.BindingIdentifier 2 (more (string (codes "A")) end))) (more absent (more (child (node Kind.ClassBody 3 (more (list (trees (node Kind.MethodDefinition 23 (more (child (node Kind.IdentifierName 24 (more (string (codes "constructor")) end))) (more (child (node Kind.FunctionExpression 25 (more absent (more (list end) (more (child (node Kind.BlockStatement 26 (more (list (trees (node Kind.ExpressionStatement 27 (more (child (node Kind.CallExpression 28 (more (child (node Kind.MemberExpression 29 (more (child (node Kind.IdentifierReference 30 (more (string (codes "babelHelpers")) end))) (more (child (node Kind.IdentifierName 31 (more (string (codes "classPrivateFieldInitSpec")) end))) (more (boolean false) (more (boolean false) end)))))) (more (list (trees (node Kind.ThisExpression 32 end ∷ node Kind.IdentifierReference 33 (more (string (codes "_x")) end) ∷ node Kind.UnaryExpression 34 (more (string (codes "void")) (more (child (node Kind.Literal 35 (more (literal (literal_value.Number (codes "0"))) end))) end)) ∷ []))) (more (boolean false) end))))) (more no_string end)) ∷ []))) end))) (more (boolean false) (more (boolean false) end))))))) (more (string (codes "constructor")) (more (boolean false) (more (boolean false) end))))) ∷ node Kind.MethodDefinition 6 (more (child (node Kind.IdentifierName 7 (more (string (codes "m")) end))) (more (child (node Kind.FunctionExpression 8 (more absent (more (list (trees (node Kind.BindingIdentifier 9 (more (string (codes "o")) end) ∷ []))) (more (child (node Kind.BlockStatement 10 (more (list (trees (node Kind.VariableDeclaration 36 (more (string (codes "var")) (more (list (trees (node Kind.VariableDeclarator 37 (more (child (node Kind.BindingIdentifier 38 (more (string (codes "_o")) end))) (more absent end)) ∷ node Kind.VariableDeclarator 39 (more (child (node Kind.BindingIdentifier 40 (more (string (codes "_o$x")) end))) (more absent end)) ∷ node Kind.VariableDeclarator 41 (more (child (node Kind.BindingIdentifier 42 (more (string (codes "_o$x2")) end))) (more absent end)) ∷ []))) end)) ∷ node Kind.ReturnStatement 11 (more (child (node Kind.ArrowFunctionExpression 12 (more (list end) (more (child (node Kind.SequenceExpression 43 (more (list (trees (node Kind.CallExpression 44 (more (child (node Kind.MemberExpression 45 (more (child (node Kind.IdentifierReference 46 (more (string (codes "babelHelpers")) end))) (more (child (node Kind.IdentifierName 47 (more (string (codes "classPrivateFieldSet2")) end))) (more (boolean false) (more (boolean false) end)))))) (more (list (trees (node Kind.IdentifierReference 48 (more (string (codes "_x")) end) ∷ node Kind.AssignmentExpression 49 (more (string (codes "=")) (more (child (node Kind.IdentifierReference 50 (more (string (codes "_o")) end))) (more (child (node Kind.CallExpression 15 (more (child (node Kind.IdentifierReference 16 (more (string (codes "o")) end))) (more (list end) (more (boolean false) end))))) end))) ∷ node Kind.SequenceExpression 51 (more (list (trees (node Kind.AssignmentExpression 52 (more (string (codes "=")) (more (child (node Kind.IdentifierReference 53 (more (string (codes "_o$x")) end))) (more (child (node Kind.CallExpression 14 (more (child (node Kind.MemberExpression 54 (more (child (node Kind.IdentifierReference 55 (more (string (codes "babelHelpers")) end))) (more (child (node Kind.IdentifierName 56 (more (string (codes "classPrivateFieldGet2")) end))) (more (boolean false) (more (boolean false) end)))))) (more (list (trees (node Kind.IdentifierReference 57 (more (string (codes "_x")) end) ∷ node Kind.IdentifierReference 58 (more (string (codes "_o")) end) ∷ []))) (more (boolean false) end))))) end))) ∷ node Kind.AssignmentExpression 59 (more (string (codes "=")) (more (child (node Kind.IdentifierReference 60 (more (string (codes "_o$x2")) end))) (more (child (node Kind.UpdateExpression 13 (more (string (codes "++")) (more (child (node Kind.IdentifierReference 61 (more (string (codes "_o$x")) end))) (more (boolean false) end))))) end))) ∷ node Kind.IdentifierReference 62 (more (string (codes "_o$x")) end) ∷ []))) end) ∷ []))) (more (boolean false) end))) ∷ node Kind.IdentifierReference 63 (more (string (codes "_o$x2")) end) ∷ []))) end))) (more (boolean false) end))))) end) ∷ []))) end))) (more (boolean false) (more (boolean false) end))))))) (more (string (codes "method")) (more (boolean false) (more (boolean false) end))))) ∷ []))) end))) end))) ∷ []))) end))

abbrev pub generated_private_update_in_an_arrow : List LedgerEntry
generated_private_update_in_an_arrow = record { name = codes "_o"; kind = GeneratedKind.Temp } ∷ record { name = codes "_o$x"; kind = GeneratedKind.Temp } ∷ record { name = codes "_o$x2"; kind = GeneratedKind.Temp } ∷ record { name = codes "_x"; kind = GeneratedKind.WeakMap (record { 0 = 5 }) } ∷ []

-- the numbers of its shapes
abbrev pub outside_private_update_in_an_arrow : List ℕ
outside_private_update_in_an_arrow = []

abbrev pub options_private_update_in_an_arrow : Options
options_private_update_in_an_arrow = options_of false (Some (record { loose = false })) false

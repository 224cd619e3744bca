-- Printed by tools/rows/number-rows.js from `nested_private_names` of tools/rows/rows.json: a worked row with its numbers.
use Rattle.std.specs.Prelude.{ℕ, List, [], ◌∷◌, false, codes, Some}
use Rattle.es_base.specs.Tree.{Tree, end, more, child, absent, list, string, no_string, boolean, literal, trees}
use Rattle.es_base.specs.declared.kind.Kind.{Kind}
use Rattle.es_base.specs.declared.ledger.GeneratedKind.{GeneratedKind}
use Rattle.es_base.specs.declared.ledger.LedgerEntry.{LedgerEntry}
use Rattle.es_base.specs.declared.literal.LiteralValue.TheVariants as literal_value
use Rattle.es_steps.specs.Generated.{node}
use Rattle.es_steps.specs.Options.{options_of}
use Rattle.es_steps.specs.declared.options.Options.{Options}

-- `class A { #x = 1; m() { return class { #x = 2; n(o) { return o.#x; } }; } }`
abbrev pub source_nested_private_names : Tree
source_nested_private_names = node Kind.Program 0 (more (string (codes "script")) (more (list (trees (node Kind.ClassDeclaration 1 (more (child (node Kind.BindingIdentifier 2 (more (string (codes "A")) end))) (more absent (more (child (node Kind.ClassBody 3 (more (list (trees (node Kind.PropertyDefinition 4 (more (child (node Kind.PrivateIdentifier 5 (more (string (codes "x")) end))) (more (child (node Kind.Literal 6 (more (literal (literal_value.Number (codes "1"))) end))) (more (boolean false) (more (boolean false) end)))) ∷ node Kind.MethodDefinition 7 (more (child (node Kind.IdentifierName 8 (more (string (codes "m")) end))) (more (child (node Kind.FunctionExpression 9 (more absent (more (list end) (more (child (node Kind.BlockStatement 10 (more (list (trees (node Kind.ReturnStatement 11 (more (child (node Kind.ClassExpression 12 (more absent (more absent (more (child (node Kind.ClassBody 13 (more (list (trees (node Kind.PropertyDefinition 14 (more (child (node Kind.PrivateIdentifier 15 (more (string (codes "x")) end))) (more (child (node Kind.Literal 16 (more (literal (literal_value.Number (codes "2"))) end))) (more (boolean false) (more (boolean false) end)))) ∷ node Kind.MethodDefinition 17 (more (child (node Kind.IdentifierName 18 (more (string (codes "n")) end))) (more (child (node Kind.FunctionExpression 19 (more absent (more (list (trees (node Kind.BindingIdentifier 20 (more (string (codes "o")) end) ∷ []))) (more (child (node Kind.BlockStatement 21 (more (list (trees (node Kind.ReturnStatement 22 (more (child (node Kind.PrivateField 23 (more (child (node Kind.IdentifierReference 24 (more (string (codes "o")) end))) (more (child (node Kind.PrivateIdentifier 25 (more (string (codes "x")) end))) (more (boolean false) (more (boolean false) end)))))) end) ∷ []))) end))) (more (boolean false) (more (boolean false) end))))))) (more (string (codes "method")) (more (boolean false) (more (boolean false) end))))) ∷ []))) end))) end))))) end) ∷ []))) end))) (more (boolean false) (more (boolean false) end))))))) (more (string (codes "method")) (more (boolean false) (more (boolean false) end))))) ∷ []))) end))) end))) ∷ []))) end))

-- the number of its nodes
abbrev pub nodes_nested_private_names : ℕ
nodes_nested_private_names = 26

-- `var _x = new WeakMap(); class A { constructor() { B.classPrivateFieldInitSpec(this, _x, 1); } m() { var _x2; return (_x2 = new WeakMap(), class { constructor() { B.classPrivateFieldInitSpec(this, _x2, 2); } n(o) { return B.classPrivateFieldGet2(_x2, o); } }); } }`
abbrev pub output_nested_private_names : Tree
output_nested_private_names = node Kind.Program 0 (more (string (codes "script")) (more (list (trees (node Kind.VariableDeclaration 26 (more (string (codes "var")) (more (list (trees (node Kind.VariableDeclarator 27 (more (child (node Kind.BindingIdentifier 28 (more (string (codes "_x")) end))) (more (child (node Kind.NewExpression 29 (more (child (node Kind.IdentifierReference 30 (more (string (codes "WeakMap")) end))) (more (list end) end)))) end)) ∷ []))) end)) ∷ node Kind.ClassDeclaration 1 (more (child (node Kind.BindingIdentifier 2 (more (string (codes "A")) end))) (more absent (more (child (node Kind.ClassBody 3 (more (list (trees (node Kind.MethodDefinition 31 (more (child (node Kind.IdentifierName 32 (more (string (codes "constructor")) end))) (more (child (node Kind.FunctionExpression 33 (more absent (more (list end) (more (child (node Kind.BlockStatement 34 (more (list (trees (node Kind.ExpressionStatement 35 (more (child (node Kind.CallExpression 36 (more (child (node Kind.MemberExpression 37 (more (child (node Kind.IdentifierReference 38 (more (string (codes "babelHelpers")) end))) (more (child (node Kind.IdentifierName 39 (more (string (codes "classPrivateFieldInitSpec")) end))) (more (boolean false) (more (boolean false) end)))))) (more (list (trees (node Kind.ThisExpression 40 end ∷ node Kind.IdentifierReference 41 (more (string (codes "_x")) end) ∷ node Kind.Literal 6 (more (literal (literal_value.Number (codes "1"))) end) ∷ []))) (more (boolean false) end))))) (more no_string end)) ∷ []))) end))) (more (boolean false) (more (boolean false) end))))))) (more (string (codes "constructor")) (more (boolean false) (more (boolean false) end))))) ∷ node Kind.MethodDefinition 7 (more (child (node Kind.IdentifierName 8 (more (string (codes "m")) end))) (more (child (node Kind.FunctionExpression 9 (more absent (more (list end) (more (child (node Kind.BlockStatement 10 (more (list (trees (node Kind.VariableDeclaration 42 (more (string (codes "var")) (more (list (trees (node Kind.VariableDeclarator 43 (more (child (node Kind.BindingIdentifier 44 (more (string (codes "_x2")) end))) (more absent end)) ∷ []))) end)) ∷ node Kind.ReturnStatement 11 (more (child (node Kind.SequenceExpression 45 (more (list (trees (node Kind.AssignmentExpression 46 (more (string (codes "=")) (more (child (node Kind.IdentifierReference 47 (more (string (codes "_x2")) end))) (more (child (node Kind.NewExpression 48 (more (child (node Kind.IdentifierReference 49 (more (string (codes "WeakMap")) end))) (more (list end) end)))) end))) ∷ node Kind.ClassExpression 12 (more absent (more absent (more (child (node Kind.ClassBody 13 (more (list (trees (node Kind.MethodDefinition 50 (more (child (node Kind.IdentifierName 51 (more (string (codes "constructor")) end))) (more (child (node Kind.FunctionExpression 52 (more absent (more (list end) (more (child (node Kind.BlockStatement 53 (more (list (trees (node Kind.ExpressionStatement 54 (more (child (node Kind.CallExpression 55 (more (child (node Kind.MemberExpression 56 (more (child (node Kind.IdentifierReference 57 (more (string (codes "babelHelpers")) end))) (more (child (node Kind.IdentifierName 58 (more (string (codes "classPrivateFieldInitSpec")) end))) (more (boolean false) (more (boolean false) end)))))) (more (list (trees (node Kind.ThisExpression 59 end ∷ node Kind.IdentifierReference 60 (more (string (codes "_x2")) end) ∷ node Kind.Literal 16 (more (literal (literal_value.Number (codes "2"))) end) ∷ []))) (more (boolean false) end))))) (more no_string end)) ∷ []))) end))) (more (boolean false) (more (boolean false) end))))))) (more (string (codes "constructor")) (more (boolean false) (more (boolean false) end))))) ∷ node Kind.MethodDefinition 17 (more (child (node Kind.IdentifierName 18 (more (string (codes "n")) end))) (more (child (node Kind.FunctionExpression 19 (more absent (more (list (trees (node Kind.BindingIdentifier 20 (more (string (codes "o")) end) ∷ []))) (more (child (node Kind.BlockStatement 21 (more (list (trees (node Kind.ReturnStatement 22 (more (child (node Kind.CallExpression 23 (more (child (node Kind.MemberExpression 61 (more (child (node Kind.IdentifierReference 62 (more (string (codes "babelHelpers")) end))) (more (child (node Kind.IdentifierName 63 (more (string (codes "classPrivateFieldGet2")) end))) (more (boolean false) (more (boolean false) end)))))) (more (list (trees (node Kind.IdentifierReference 64 (more (string (codes "_x2")) end) ∷ node Kind.IdentifierReference 24 (more (string (codes "o")) end) ∷ []))) (more (boolean false) end))))) end) ∷ []))) end))) (more (boolean false) (more (boolean false) end))))))) (more (string (codes "method")) (more (boolean false) (more (boolean false) end))))) ∷ []))) end))) end))) ∷ []))) end))) end) ∷ []))) end))) (more (boolean false) (more (boolean false) end))))))) (more (string (codes "method")) (more (boolean false) (more (boolean false) end))))) ∷ []))) end))) end))) ∷ []))) end))

abbrev pub generated_nested_private_names : List LedgerEntry
generated_nested_private_names = record { name = codes "_x"; kind = GeneratedKind.WeakMap (record { 0 = 5 }) } ∷ record { name = codes "_x2"; kind = GeneratedKind.WeakMap (record { 0 = 15 }) } ∷ []

-- the numbers of its shapes
abbrev pub outside_nested_private_names : List ℕ
outside_nested_private_names = []

abbrev pub options_nested_private_names : Options
options_nested_private_names = options_of false (Some (record { loose = false })) false

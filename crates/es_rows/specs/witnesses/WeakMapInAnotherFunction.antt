-- Printed by tools/rows/witnesses.js.
use Rattle.std.specs.Prelude.{ℕ, List, [], ◌∷◌, false, codes, Some}
use Rattle.es_base.specs.Tree.{Tree, end, more, child, absent, list, string, no_string, boolean, literal, trees}
use Rattle.es_base.specs.declared.kind.Kind.{Kind}
use Rattle.es_base.specs.declared.ledger.GeneratedKind.{GeneratedKind}
use Rattle.es_base.specs.declared.ledger.LedgerEntry.{LedgerEntry}
use Rattle.es_base.specs.declared.literal.LiteralValue.TheVariants as literal_value
use Rattle.es_steps.specs.Generated.{node}
use Rattle.es_steps.specs.Options.{options_of}
use Rattle.es_steps.specs.declared.options.Options.{Options}

-- `class D { m() { f(); } } class C { #x = 2; t(o) { return o.#x; } }`
abbrev pub source_weak_map_in_another_function : Tree
source_weak_map_in_another_function = node Kind.Program 0 (more (string (codes "script")) (more (list (trees (node Kind.ClassDeclaration 1 (more (child (node Kind.BindingIdentifier 2 (more (string (codes "D")) end))) (more absent (more (child (node Kind.ClassBody 3 (more (list (trees (node Kind.MethodDefinition 4 (more (child (node Kind.IdentifierName 5 (more (string (codes "m")) end))) (more (child (node Kind.FunctionExpression 6 (more absent (more (list end) (more (child (node Kind.BlockStatement 7 (more (list (trees (node Kind.ExpressionStatement 8 (more (child (node Kind.CallExpression 9 (more (child (node Kind.IdentifierReference 10 (more (string (codes "f")) end))) (more (list end) (more (boolean false) end))))) (more no_string end)) ∷ []))) end))) (more (boolean false) (more (boolean false) end))))))) (more (string (codes "method")) (more (boolean false) (more (boolean false) end))))) ∷ []))) end))) end))) ∷ node Kind.ClassDeclaration 11 (more (child (node Kind.BindingIdentifier 12 (more (string (codes "C")) end))) (more absent (more (child (node Kind.ClassBody 13 (more (list (trees (node Kind.PropertyDefinition 14 (more (child (node Kind.PrivateIdentifier 15 (more (string (codes "x")) end))) (more (child (node Kind.Literal 16 (more (literal (literal_value.Number (codes "2"))) end))) (more (boolean false) (more (boolean false) end)))) ∷ node Kind.MethodDefinition 17 (more (child (node Kind.IdentifierName 18 (more (string (codes "t")) end))) (more (child (node Kind.FunctionExpression 19 (more absent (more (list (trees (node Kind.BindingIdentifier 20 (more (string (codes "o")) end) ∷ []))) (more (child (node Kind.BlockStatement 21 (more (list (trees (node Kind.ReturnStatement 22 (more (child (node Kind.PrivateField 23 (more (child (node Kind.IdentifierReference 24 (more (string (codes "o")) end))) (more (child (node Kind.PrivateIdentifier 25 (more (string (codes "x")) end))) (more (boolean false) (more (boolean false) end)))))) end) ∷ []))) end))) (more (boolean false) (more (boolean false) end))))))) (more (string (codes "method")) (more (boolean false) (more (boolean false) end))))) ∷ []))) end))) end))) ∷ []))) end))

-- the map of a private field made in a function that is not called, where `class D { m() { f(); } } var _x = new WeakMap(); class C { constructor() { B.classPrivateFieldInitSpec(this, _x, 2); } t(o) { return B.classPrivateFieldGet2(_x, o); } }` is right
abbrev pub output_weak_map_in_another_function : Tree
output_weak_map_in_another_function = node Kind.Program 0 (more (string (codes "script")) (more (list (trees (node Kind.ClassDeclaration 1 (more (child (node Kind.BindingIdentifier 2 (more (string (codes "D")) end))) (more absent (more (child (node Kind.ClassBody 3 (more (list (trees (node Kind.MethodDefinition 4 (more (child (node Kind.IdentifierName 5 (more (string (codes "m")) end))) (more (child (node Kind.FunctionExpression 6 (more absent (more (list end) (more (child (node Kind.BlockStatement 7 (more (list (trees (node Kind.ExpressionStatement 26 (more (child (node Kind.AssignmentExpression 27 (more (string (codes "=")) (more (child (node Kind.IdentifierReference 28 (more (string (codes "_x")) end))) (more (child (node Kind.NewExpression 29 (more (child (node Kind.IdentifierReference 30 (more (string (codes "WeakMap")) end))) (more (list end) end)))) end))))) (more no_string end)) ∷ node Kind.ExpressionStatement 8 (more (child (node Kind.CallExpression 9 (more (child (node Kind.IdentifierReference 10 (more (string (codes "f")) end))) (more (list end) (more (boolean false) end))))) (more no_string end)) ∷ []))) end))) (more (boolean false) (more (boolean false) end))))))) (more (string (codes "method")) (more (boolean false) (more (boolean false) end))))) ∷ []))) end))) end))) ∷ node Kind.VariableDeclaration 31 (more (string (codes "var")) (more (list (trees (node Kind.VariableDeclarator 32 (more (child (node Kind.BindingIdentifier 33 (more (string (codes "_x")) end))) (more absent end)) ∷ []))) end)) ∷ node Kind.ClassDeclaration 11 (more (child (node Kind.BindingIdentifier 12 (more (string (codes "C")) end))) (more absent (more (child (node Kind.ClassBody 13 (more (list (trees (node Kind.MethodDefinition 34 (more (child (node Kind.IdentifierName 35 (more (string (codes "constructor")) end))) (more (child (node Kind.FunctionExpression 36 (more absent (more (list end) (more (child (node Kind.BlockStatement 37 (more (list (trees (node Kind.ExpressionStatement 38 (more (child (node Kind.CallExpression 39 (more (child (node Kind.MemberExpression 40 (more (child (node Kind.IdentifierReference 41 (more (string (codes "babelHelpers")) end))) (more (child (node Kind.IdentifierName 42 (more (string (codes "classPrivateFieldInitSpec")) end))) (more (boolean false) (more (boolean false) end)))))) (more (list (trees (node Kind.ThisExpression 43 end ∷ node Kind.IdentifierReference 44 (more (string (codes "_x")) end) ∷ node Kind.Literal 16 (more (literal (literal_value.Number (codes "2"))) end) ∷ []))) (more (boolean false) end))))) (more no_string end)) ∷ []))) end))) (more (boolean false) (more (boolean false) end))))))) (more (string (codes "constructor")) (more (boolean false) (more (boolean false) end))))) ∷ node Kind.MethodDefinition 17 (more (child (node Kind.IdentifierName 18 (more (string (codes "t")) end))) (more (child (node Kind.FunctionExpression 19 (more absent (more (list (trees (node Kind.BindingIdentifier 20 (more (string (codes "o")) end) ∷ []))) (more (child (node Kind.BlockStatement 21 (more (list (trees (node Kind.ReturnStatement 22 (more (child (node Kind.CallExpression 23 (more (child (node Kind.MemberExpression 45 (more (child (node Kind.IdentifierReference 46 (more (string (codes "babelHelpers")) end))) (more (child (node Kind.IdentifierName 47 (more (string (codes "classPrivateFieldGet2")) end))) (more (boolean false) (more (boolean false) end)))))) (more (list (trees (node Kind.IdentifierReference 48 (more (string (codes "_x")) end) ∷ node Kind.IdentifierReference 24 (more (string (codes "o")) end) ∷ []))) (more (boolean false) end))))) end) ∷ []))) end))) (more (boolean false) (more (boolean false) end))))))) (more (string (codes "method")) (more (boolean false) (more (boolean false) end))))) ∷ []))) end))) end))) ∷ []))) end))

abbrev pub generated_weak_map_in_another_function : List LedgerEntry
generated_weak_map_in_another_function = record { name = codes "_x"; kind = GeneratedKind.WeakMap (record { 0 = 15 }) } ∷ []

abbrev pub options_weak_map_in_another_function : Options
options_weak_map_in_another_function = options_of false (Some (record { loose = false })) false

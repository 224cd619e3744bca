-- Printed by tools/rows/number-rows.js from `private_prefix_update` of tools/rows/forms.json: a worked row with its numbers.
use Rattle.std.specs.Prelude.{ℕ, List, [], ◌∷◌, true, false, codes, Some}
use Rattle.es_base.specs.Tree.{Tree, end, more, child, absent, list, string, no_string, boolean, literal, trees}
use Rattle.es_base.specs.declared.kind.Kind.{Kind}
use Rattle.es_base.specs.declared.ledger.GeneratedKind.{GeneratedKind}
use Rattle.es_base.specs.declared.ledger.LedgerEntry.{LedgerEntry}
use Rattle.es_base.specs.declared.literal.LiteralValue.TheVariants as literal_value
use Rattle.es_steps.specs.Generated.{node}
use Rattle.es_steps.specs.Options.{options_of}
use Rattle.es_steps.specs.declared.options.Options.{Options}

-- `class A { #x; m(o) { return ++o.#x; } }`
abbrev pub source_private_prefix_update : Tree
source_private_prefix_update = node Kind.Program 0 (more (string (codes "script")) (more (list (trees (node Kind.ClassDeclaration 1 (more (child (node Kind.BindingIdentifier 2 (more (string (codes "A")) end))) (more absent (more (child (node Kind.ClassBody 3 (more (list (trees (node Kind.PropertyDefinition 4 (more (child (node Kind.PrivateIdentifier 5 (more (string (codes "x")) end))) (more absent (more (boolean false) (more (boolean false) end)))) ∷ node Kind.MethodDefinition 6 (more (child (node Kind.IdentifierName 7 (more (string (codes "m")) end))) (more (child (node Kind.FunctionExpression 8 (more absent (more (list (trees (node Kind.BindingIdentifier 9 (more (string (codes "o")) end) ∷ []))) (more (child (node Kind.BlockStatement 10 (more (list (trees (node Kind.ReturnStatement 11 (more (child (node Kind.UpdateExpression 12 (more (string (codes "++")) (more (child (node Kind.PrivateField 13 (more (child (node Kind.IdentifierReference 14 (more (string (codes "o")) end))) (more (child (node Kind.PrivateIdentifier 15 (more (string (codes "x")) end))) (more (boolean false) (more (boolean false) end)))))) (more (boolean true) end))))) end) ∷ []))) end))) (more (boolean false) (more (boolean false) end))))))) (more (string (codes "method")) (more (boolean false) (more (boolean false) end))))) ∷ []))) end))) end))) ∷ []))) end))

-- the number of its nodes
abbrev pub nodes_private_prefix_update : ℕ
nodes_private_prefix_update = 16

-- `var _x = new WeakMap(); class A { constructor() { B.classPrivateFieldInitSpec(this, _x, void 0); } m(o) { var _o$x; return B.classPrivateFieldSet2(_x, o, (_o$x = B.classPrivateFieldGet2(_x, o), ++_o$x)); } }`
abbrev pub output_private_prefix_update : Tree
output_private_prefix_update = node Kind.Program 0 (more (string (codes "script")) (more (list (trees (node Kind.VariableDeclaration 16 (more (string (codes "var")) (more (list (trees (node Kind.VariableDeclarator 17 (more (child (node Kind.BindingIdentifier 18 (more (string (codes "_x")) end))) (more (child (node Kind.NewExpression 19 (more (child (node Kind.IdentifierReference 20 (more (string (codes "WeakMap")) end))) (more (list end) end)))) end)) ∷ []))) end)) ∷ node Kind.ClassDeclaration 1 (more (child (node Kind.BindingIdentifier 2 (more (string (codes "A")) end))) (more absent (more (child (node Kind.ClassBody 3 (more (list (trees (node Kind.MethodDefinition 21 (more (child (node Kind.IdentifierName 22 (more (string (codes "constructor")) end))) (more (child (node Kind.FunctionExpression 23 (more absent (more (list end) (more (child (node Kind.BlockStatement 24 (more (list (trees (node Kind.ExpressionStatement 25 (more (child (node Kind.CallExpression 26 (more (child (node Kind.MemberExpression 27 (more (child (node Kind.IdentifierReference 28 (more (string (codes "babelHelpers")) end))) (more (child (node Kind.IdentifierName 29 (more (string (codes "classPrivateFieldInitSpec")) end))) (more (boolean false) (more (boolean false) end)))))) (more (list (trees (node Kind.ThisExpression 30 end ∷ node Kind.IdentifierReference 31 (more (string (codes "_x")) end) ∷ node Kind.UnaryExpression 32 (more (string (codes "void")) (more (child (node Kind.Literal 33 (more (literal (literal_value.Number (codes "0"))) end))) end)) ∷ []))) (more (boolean false) end))))) (more no_string end)) ∷ []))) end))) (more (boolean false) (more (boolean false) end))))))) (more (string (codes "constructor")) (more (boolean false) (more (boolean false) end))))) ∷ node Kind.MethodDefinition 6 (more (child (node Kind.IdentifierName 7 (more (string (codes "m")) end))) (more (child (node Kind.FunctionExpression 8 (more absent (more (list (trees (node Kind.BindingIdentifier 9 (more (string (codes "o")) end) ∷ []))) (more (child (node Kind.BlockStatement 10 (more (list (trees (node Kind.VariableDeclaration 34 (more (string (codes "var")) (more (list (trees (node Kind.VariableDeclarator 35 (more (child (node Kind.BindingIdentifier 36 (more (string (codes "_o$x")) end))) (more absent end)) ∷ []))) end)) ∷ node Kind.ReturnStatement 11 (more (child (node Kind.CallExpression 37 (more (child (node Kind.MemberExpression 38 (more (child (node Kind.IdentifierReference 39 (more (string (codes "babelHelpers")) end))) (more (child (node Kind.IdentifierName 40 (more (string (codes "classPrivateFieldSet2")) end))) (more (boolean false) (more (boolean false) end)))))) (more (list (trees (node Kind.IdentifierReference 41 (more (string (codes "_x")) end) ∷ node Kind.IdentifierReference 14 (more (string (codes "o")) end) ∷ node Kind.SequenceExpression 42 (more (list (trees (node Kind.AssignmentExpression 43 (more (string (codes "=")) (more (child (node Kind.IdentifierReference 44 (more (string (codes "_o$x")) end))) (more (child (node Kind.CallExpression 13 (more (child (node Kind.MemberExpression 45 (more (child (node Kind.IdentifierReference 46 (more (string (codes "babelHelpers")) end))) (more (child (node Kind.IdentifierName 47 (more (string (codes "classPrivateFieldGet2")) end))) (more (boolean false) (more (boolean false) end)))))) (more (list (trees (node Kind.IdentifierReference 48 (more (string (codes "_x")) end) ∷ node Kind.IdentifierReference 49 (more (string (codes "o")) end) ∷ []))) (more (boolean false) end))))) end))) ∷ node Kind.UpdateExpression 12 (more (string (codes "++")) (more (child (node Kind.IdentifierReference 50 (more (string (codes "_o$x")) end))) (more (boolean true) end))) ∷ []))) end) ∷ []))) (more (boolean false) end))))) end) ∷ []))) end))) (more (boolean false) (more (boolean false) end))))))) (more (string (codes "method")) (more (boolean false) (more (boolean false) end))))) ∷ []))) end))) end))) ∷ []))) end))

abbrev pub generated_private_prefix_update : List LedgerEntry
generated_private_prefix_update = record { name = codes "_o$x"; kind = GeneratedKind.Temp } ∷ record { name = codes "_x"; kind = GeneratedKind.WeakMap (record { 0 = 5 }) } ∷ []

-- the numbers of its shapes
abbrev pub outside_private_prefix_update : List ℕ
outside_private_prefix_update = []

abbrev pub options_private_prefix_update : Options
options_private_prefix_update = options_of false (Some (record { loose = false })) false

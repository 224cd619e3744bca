-- Printed by tools/rows/number-rows.js from `private_in_field` of tools/rows/forms.json: a worked row with its numbers.
use Rattle.std.specs.Prelude.{ℕ, List, [], ◌∷◌, true, false, codes, Some}
use Rattle.es_base.specs.Tree.{Tree, end, more, child, absent, list, string, no_string, boolean, literal, trees}
use Rattle.es_base.specs.declared.kind.Kind.{Kind}
use Rattle.es_base.specs.declared.ledger.GeneratedKind.{GeneratedKind}
use Rattle.es_base.specs.declared.ledger.LedgerEntry.{LedgerEntry}
use Rattle.es_base.specs.declared.literal.LiteralValue.TheVariants as literal_value
use Rattle.es_steps.specs.Generated.{node}
use Rattle.es_steps.specs.Options.{options_of}
use Rattle.es_steps.specs.declared.options.Options.{Options}

-- `class A { #x; static h(o) { return #x in o; } }`
abbrev pub source_private_in_field : Tree
source_private_in_field = node Kind.Program 0 (more (string (codes "script")) (more (list (trees (node Kind.ClassDeclaration 1 (more (child (node Kind.BindingIdentifier 2 (more (string (codes "A")) end))) (more absent (more (child (node Kind.ClassBody 3 (more (list (trees (node Kind.PropertyDefinition 4 (more (child (node Kind.PrivateIdentifier 5 (more (string (codes "x")) end))) (more absent (more (boolean false) (more (boolean false) end)))) ∷ node Kind.MethodDefinition 6 (more (child (node Kind.IdentifierName 7 (more (string (codes "h")) end))) (more (child (node Kind.FunctionExpression 8 (more absent (more (list (trees (node Kind.BindingIdentifier 9 (more (string (codes "o")) end) ∷ []))) (more (child (node Kind.BlockStatement 10 (more (list (trees (node Kind.ReturnStatement 11 (more (child (node Kind.PrivateIn 12 (more (string (codes "in")) (more (child (node Kind.PrivateIdentifier 13 (more (string (codes "x")) end))) (more (child (node Kind.IdentifierReference 14 (more (string (codes "o")) end))) end))))) end) ∷ []))) end))) (more (boolean false) (more (boolean false) end))))))) (more (string (codes "method")) (more (boolean false) (more (boolean true) end))))) ∷ []))) end))) end))) ∷ []))) end))

-- the number of its nodes
abbrev pub nodes_private_in_field : ℕ
nodes_private_in_field = 15

-- `var _x = new WeakMap(); class A { constructor() { B.classPrivateFieldInitSpec(this, _x, void 0); } static h(o) { return _x.has(B.checkInRHS(o)); } }`
abbrev pub output_private_in_field : Tree
output_private_in_field = node Kind.Program 0 (more (string (codes "script")) (more (list (trees (node Kind.VariableDeclaration 15 (more (string (codes "var")) (more (list (trees (node Kind.VariableDeclarator 16 (more (child (node Kind.BindingIdentifier 17 (more (string (codes "_x")) end))) (more (child (node Kind.NewExpression 18 (more (child (node Kind.IdentifierReference 19 (more (string (codes "WeakMap")) end))) (more (list end) end)))) end)) ∷ []))) end)) ∷ node Kind.ClassDeclaration 1 (more (child (node Kind.BindingIdentifier 2 (more (string (codes "A")) end))) (more absent (more (child (node Kind.ClassBody 3 (more (list (trees (node Kind.MethodDefinition 20 (more (child (node Kind.IdentifierName 21 (more (string (codes "constructor")) end))) (more (child (node Kind.FunctionExpression 22 (more absent (more (list end) (more (child (node Kind.BlockStatement 23 (more (list (trees (node Kind.ExpressionStatement 24 (more (child (node Kind.CallExpression 25 (more (child (node Kind.MemberExpression 26 (more (child (node Kind.IdentifierReference 27 (more (string (codes "babelHelpers")) end))) (more (child (node Kind.IdentifierName 28 (more (string (codes "classPrivateFieldInitSpec")) end))) (more (boolean false) (more (boolean false) end)))))) (more (list (trees (node Kind.ThisExpression 29 end ∷ node Kind.IdentifierReference 30 (more (string (codes "_x")) end) ∷ node Kind.UnaryExpression 31 (more (string (codes "void")) (more (child (node Kind.Literal 32 (more (literal (literal_value.Number (codes "0"))) end))) end)) ∷ []))) (more (boolean false) end))))) (more no_string end)) ∷ []))) end))) (more (boolean false) (more (boolean false) end))))))) (more (string (codes "constructor")) (more (boolean false) (more (boolean false) end))))) ∷ node Kind.MethodDefinition 6 (more (child (node Kind.IdentifierName 7 (more (string (codes "h")) end))) (more (child (node Kind.FunctionExpression 8 (more absent (more (list (trees (node Kind.BindingIdentifier 9 (more (string (codes "o")) end) ∷ []))) (more (child (node Kind.BlockStatement 10 (more (list (trees (node Kind.ReturnStatement 11 (more (child (node Kind.CallExpression 12 (more (child (node Kind.MemberExpression 33 (more (child (node Kind.IdentifierReference 34 (more (string (codes "_x")) end))) (more (child (node Kind.IdentifierName 35 (more (string (codes "has")) end))) (more (boolean false) (more (boolean false) end)))))) (more (list (trees (node Kind.CallExpression 36 (more (child (node Kind.MemberExpression 37 (more (child (node Kind.IdentifierReference 38 (more (string (codes "babelHelpers")) end))) (more (child (node Kind.IdentifierName 39 (more (string (codes "checkInRHS")) end))) (more (boolean false) (more (boolean false) end)))))) (more (list (trees (node Kind.IdentifierReference 14 (more (string (codes "o")) end) ∷ []))) (more (boolean false) end))) ∷ []))) (more (boolean false) end))))) end) ∷ []))) end))) (more (boolean false) (more (boolean false) end))))))) (more (string (codes "method")) (more (boolean false) (more (boolean true) end))))) ∷ []))) end))) end))) ∷ []))) end))

abbrev pub generated_private_in_field : List LedgerEntry
generated_private_in_field = record { name = codes "_x"; kind = GeneratedKind.WeakMap (record { 0 = 5 }) } ∷ []

-- the numbers of its shapes
abbrev pub outside_private_in_field : List ℕ
outside_private_in_field = []

abbrev pub options_private_in_field : Options
options_private_in_field = options_of false (Some (record { loose = false })) false

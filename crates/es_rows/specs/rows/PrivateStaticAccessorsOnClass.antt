-- Printed by tools/rows/number-rows.js from `private_static_accessors_on_class` of tools/rows/forms.json: a worked row with its numbers.
use Rattle.std.specs.Prelude.{ℕ, List, [], ◌∷◌, true, false, codes, Some}
use Rattle.es_base.specs.Tree.{Tree, end, more, child, absent, list, string, no_string, boolean, literal, trees}
use Rattle.es_base.specs.declared.kind.Kind.{Kind}
use Rattle.es_base.specs.declared.ledger.GeneratedKind.{GeneratedKind}
use Rattle.es_base.specs.declared.ledger.LedgerEntry.{LedgerEntry}
use Rattle.es_base.specs.declared.literal.LiteralValue.TheVariants as literal_value
use Rattle.es_steps.specs.Generated.{node}
use Rattle.es_steps.specs.Options.{options_of}
use Rattle.es_steps.specs.declared.options.Options.{Options}

-- `class A { static get #x() { return 1; } static set #x(v) {} static g() { A.#x = A.#x; } }`
abbrev pub source_private_static_accessors_on_class : Tree
source_private_static_accessors_on_class = node Kind.Program 0 (more (string (codes "script")) (more (list (trees (node Kind.ClassDeclaration 1 (more (child (node Kind.BindingIdentifier 2 (more (string (codes "A")) end))) (more absent (more (child (node Kind.ClassBody 3 (more (list (trees (node Kind.MethodDefinition 4 (more (child (node Kind.PrivateIdentifier 5 (more (string (codes "x")) end))) (more (child (node Kind.FunctionExpression 6 (more absent (more (list end) (more (child (node Kind.BlockStatement 7 (more (list (trees (node Kind.ReturnStatement 8 (more (child (node Kind.Literal 9 (more (literal (literal_value.Number (codes "1"))) end))) end) ∷ []))) end))) (more (boolean false) (more (boolean false) end))))))) (more (string (codes "get")) (more (boolean false) (more (boolean true) end))))) ∷ node Kind.MethodDefinition 10 (more (child (node Kind.PrivateIdentifier 11 (more (string (codes "x")) end))) (more (child (node Kind.FunctionExpression 12 (more absent (more (list (trees (node Kind.BindingIdentifier 13 (more (string (codes "v")) end) ∷ []))) (more (child (node Kind.BlockStatement 14 (more (list end) end))) (more (boolean false) (more (boolean false) end))))))) (more (string (codes "set")) (more (boolean false) (more (boolean true) end))))) ∷ node Kind.MethodDefinition 15 (more (child (node Kind.IdentifierName 16 (more (string (codes "g")) end))) (more (child (node Kind.FunctionExpression 17 (more absent (more (list end) (more (child (node Kind.BlockStatement 18 (more (list (trees (node Kind.ExpressionStatement 19 (more (child (node Kind.AssignmentExpression 20 (more (string (codes "=")) (more (child (node Kind.PrivateField 21 (more (child (node Kind.IdentifierReference 22 (more (string (codes "A")) end))) (more (child (node Kind.PrivateIdentifier 23 (more (string (codes "x")) end))) (more (boolean false) (more (boolean false) end)))))) (more (child (node Kind.PrivateField 24 (more (child (node Kind.IdentifierReference 25 (more (string (codes "A")) end))) (more (child (node Kind.PrivateIdentifier 26 (more (string (codes "x")) end))) (more (boolean false) (more (boolean false) end)))))) end))))) (more no_string end)) ∷ []))) end))) (more (boolean false) (more (boolean false) end))))))) (more (string (codes "method")) (more (boolean false) (more (boolean true) end))))) ∷ []))) end))) end))) ∷ []))) end))

-- the number of its nodes
abbrev pub nodes_private_static_accessors_on_class : ℕ
nodes_private_static_accessors_on_class = 27

-- `class A { static g() { B.toSetter(_set_x.bind(A))._ = _get_x.call(A); } } function _get_x() { return 1; } function _set_x(v) {}`
abbrev pub output_private_static_accessors_on_class : Tree
output_private_static_accessors_on_class = node Kind.Program 0 (more (string (codes "script")) (more (list (trees (node Kind.ClassDeclaration 1 (more (child (node Kind.BindingIdentifier 2 (more (string (codes "A")) end))) (more absent (more (child (node Kind.ClassBody 3 (more (list (trees (node Kind.MethodDefinition 15 (more (child (node Kind.IdentifierName 16 (more (string (codes "g")) end))) (more (child (node Kind.FunctionExpression 17 (more absent (more (list end) (more (child (node Kind.BlockStatement 18 (more (list (trees (node Kind.ExpressionStatement 19 (more (child (node Kind.AssignmentExpression 20 (more (string (codes "=")) (more (child (node Kind.MemberExpression 27 (more (child (node Kind.CallExpression 28 (more (child (node Kind.MemberExpression 29 (more (child (node Kind.IdentifierReference 30 (more (string (codes "babelHelpers")) end))) (more (child (node Kind.IdentifierName 31 (more (string (codes "toSetter")) end))) (more (boolean false) (more (boolean false) end)))))) (more (list (trees (node Kind.CallExpression 32 (more (child (node Kind.MemberExpression 33 (more (child (node Kind.IdentifierReference 34 (more (string (codes "_set_x")) end))) (more (child (node Kind.IdentifierName 35 (more (string (codes "bind")) end))) (more (boolean false) (more (boolean false) end)))))) (more (list (trees (node Kind.IdentifierReference 22 (more (string (codes "A")) end) ∷ []))) (more (boolean false) end))) ∷ []))) (more (boolean false) end))))) (more (child (node Kind.IdentifierName 36 (more (string (codes "_")) end))) (more (boolean false) (more (boolean false) end)))))) (more (child (node Kind.CallExpression 24 (more (child (node Kind.MemberExpression 37 (more (child (node Kind.IdentifierReference 38 (more (string (codes "_get_x")) end))) (more (child (node Kind.IdentifierName 39 (more (string (codes "call")) end))) (more (boolean false) (more (boolean false) end)))))) (more (list (trees (node Kind.IdentifierReference 25 (more (string (codes "A")) end) ∷ []))) (more (boolean false) end))))) end))))) (more no_string end)) ∷ []))) end))) (more (boolean false) (more (boolean false) end))))))) (more (string (codes "method")) (more (boolean false) (more (boolean true) end))))) ∷ []))) end))) end))) ∷ node Kind.FunctionDeclaration 6 (more (child (node Kind.BindingIdentifier 40 (more (string (codes "_get_x")) end))) (more (list end) (more (child (node Kind.BlockStatement 7 (more (list (trees (node Kind.ReturnStatement 8 (more (child (node Kind.Literal 9 (more (literal (literal_value.Number (codes "1"))) end))) end) ∷ []))) end))) (more (boolean false) (more (boolean false) end))))) ∷ node Kind.FunctionDeclaration 12 (more (child (node Kind.BindingIdentifier 41 (more (string (codes "_set_x")) end))) (more (list (trees (node Kind.BindingIdentifier 13 (more (string (codes "v")) end) ∷ []))) (more (child (node Kind.BlockStatement 14 (more (list end) end))) (more (boolean false) (more (boolean false) end))))) ∷ []))) end))

abbrev pub generated_private_static_accessors_on_class : List LedgerEntry
generated_private_static_accessors_on_class = record { name = codes "_get_x"; kind = GeneratedKind.Method (record { 0 = 5 }) } ∷ record { name = codes "_set_x"; kind = GeneratedKind.Method (record { 0 = 11 }) } ∷ []

-- the numbers of its shapes
abbrev pub outside_private_static_accessors_on_class : List ℕ
outside_private_static_accessors_on_class = []

abbrev pub options_private_static_accessors_on_class : Options
options_private_static_accessors_on_class = options_of false (Some (record { loose = false })) false

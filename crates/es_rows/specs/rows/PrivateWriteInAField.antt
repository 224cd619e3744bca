-- Printed by tools/rows/number-rows.js from `private_write_in_a_field` of tools/rows/forms.json: a worked row with its numbers.
use Rattle.std.specs.Prelude.{ℕ, List, [], ◌∷◌, false, codes, Some, None}
use Rattle.es_base.specs.Tree.{Tree, end, more, child, absent, list, string, no_string, boolean, literal, trees}
use Rattle.es_base.specs.declared.kind.Kind.{Kind}
use Rattle.es_base.specs.declared.ledger.GeneratedKind.{GeneratedKind}
use Rattle.es_base.specs.declared.ledger.LedgerEntry.{LedgerEntry}
use Rattle.es_base.specs.declared.literal.LiteralValue.TheVariants as literal_value
use Rattle.es_steps.specs.Generated.{node}
use Rattle.es_steps.specs.Options.{options_of}
use Rattle.es_steps.specs.declared.options.Options.{Options}

-- `class A { #x; y = o().#x += 1; }`
abbrev pub source_private_write_in_a_field : Tree
source_private_write_in_a_field = node Kind.Program 0 (more (string (codes "script")) (more (list (trees (node Kind.ClassDeclaration 1 (more (child (node Kind.BindingIdentifier 2 (more (string (codes "A")) end))) (more absent (more (child (node Kind.ClassBody 3 (more (list (trees (node Kind.PropertyDefinition 4 (more (child (node Kind.PrivateIdentifier 5 (more (string (codes "x")) end))) (more absent (more (boolean false) (more (boolean false) end)))) ∷ node Kind.PropertyDefinition 6 (more (child (node Kind.IdentifierName 7 (more (string (codes "y")) end))) (more (child (node Kind.AssignmentExpression 8 (more (string (codes "+=")) (more (child (node Kind.PrivateField 9 (more (child (node Kind.CallExpression 10 (more (child (node Kind.IdentifierReference 11 (more (string (codes "o")) end))) (more (list end) (more (boolean false) end))))) (more (child (node Kind.PrivateIdentifier 12 (more (string (codes "x")) end))) (more (boolean false) (more (boolean false) end)))))) (more (child (node Kind.Literal 13 (more (literal (literal_value.Number (codes "1"))) end))) end))))) (more (boolean false) (more (boolean false) end)))) ∷ []))) end))) end))) ∷ []))) end))

-- the number of its nodes
abbrev pub nodes_private_write_in_a_field : ℕ
nodes_private_write_in_a_field = 14

-- `var _o; var _x = new WeakMap(); class A { constructor() { B.classPrivateFieldInitSpec(this, _x, void 0); B.defineProperty(this, "y", B.classPrivateFieldSet2(_x, _o = o(), B.classPrivateFieldGet2(_x, _o) + 1)); } }`
abbrev pub output_private_write_in_a_field : Tree
output_private_write_in_a_field = node Kind.Program 0 (more (string (codes "script")) (more (list (trees (node Kind.VariableDeclaration 14 (more (string (codes "var")) (more (list (trees (node Kind.VariableDeclarator 15 (more (child (node Kind.BindingIdentifier 16 (more (string (codes "_o")) end))) (more absent end)) ∷ []))) end)) ∷ node Kind.VariableDeclaration 17 (more (string (codes "var")) (more (list (trees (node Kind.VariableDeclarator 18 (more (child (node Kind.BindingIdentifier 19 (more (string (codes "_x")) end))) (more (child (node Kind.NewExpression 20 (more (child (node Kind.IdentifierReference 21 (more (string (codes "WeakMap")) end))) (more (list end) end)))) end)) ∷ []))) end)) ∷ node Kind.ClassDeclaration 1 (more (child (node Kind.BindingIdentifier 2 (more (string (codes "A")) end))) (more absent (more (child (node Kind.ClassBody 3 (more (list (trees (node Kind.MethodDefinition 22 (more (child (node Kind.IdentifierName 23 (more (string (codes "constructor")) end))) (more (child (node Kind.FunctionExpression 24 (more absent (more (list end) (more (child (node Kind.BlockStatement 25 (more (list (trees (node Kind.ExpressionStatement 26 (more (child (node Kind.CallExpression 27 (more (child (node Kind.MemberExpression 28 (more (child (node Kind.IdentifierReference 29 (more (string (codes "babelHelpers")) end))) (more (child (node Kind.IdentifierName 30 (more (string (codes "classPrivateFieldInitSpec")) end))) (more (boolean false) (more (boolean false) end)))))) (more (list (trees (node Kind.ThisExpression 31 end ∷ node Kind.IdentifierReference 32 (more (string (codes "_x")) end) ∷ node Kind.UnaryExpression 33 (more (string (codes "void")) (more (child (node Kind.Literal 34 (more (literal (literal_value.Number (codes "0"))) end))) end)) ∷ []))) (more (boolean false) end))))) (more no_string end)) ∷ node Kind.ExpressionStatement 35 (more (child (node Kind.CallExpression 36 (more (child (node Kind.MemberExpression 37 (more (child (node Kind.IdentifierReference 38 (more (string (codes "babelHelpers")) end))) (more (child (node Kind.IdentifierName 39 (more (string (codes "defineProperty")) end))) (more (boolean false) (more (boolean false) end)))))) (more (list (trees (node Kind.ThisExpression 40 end ∷ node Kind.Literal 41 (more (literal (literal_value.String (codes "y") None)) end) ∷ node Kind.CallExpression 42 (more (child (node Kind.MemberExpression 43 (more (child (node Kind.IdentifierReference 44 (more (string (codes "babelHelpers")) end))) (more (child (node Kind.IdentifierName 45 (more (string (codes "classPrivateFieldSet2")) end))) (more (boolean false) (more (boolean false) end)))))) (more (list (trees (node Kind.IdentifierReference 46 (more (string (codes "_x")) end) ∷ node Kind.AssignmentExpression 47 (more (string (codes "=")) (more (child (node Kind.IdentifierReference 48 (more (string (codes "_o")) end))) (more (child (node Kind.CallExpression 10 (more (child (node Kind.IdentifierReference 11 (more (string (codes "o")) end))) (more (list end) (more (boolean false) end))))) end))) ∷ node Kind.BinaryExpression 8 (more (string (codes "+")) (more (child (node Kind.CallExpression 9 (more (child (node Kind.MemberExpression 49 (more (child (node Kind.IdentifierReference 50 (more (string (codes "babelHelpers")) end))) (more (child (node Kind.IdentifierName 51 (more (string (codes "classPrivateFieldGet2")) end))) (more (boolean false) (more (boolean false) end)))))) (more (list (trees (node Kind.IdentifierReference 52 (more (string (codes "_x")) end) ∷ node Kind.IdentifierReference 53 (more (string (codes "_o")) end) ∷ []))) (more (boolean false) end))))) (more (child (node Kind.Literal 13 (more (literal (literal_value.Number (codes "1"))) end))) end))) ∷ []))) (more (boolean false) end))) ∷ []))) (more (boolean false) end))))) (more no_string end)) ∷ []))) end))) (more (boolean false) (more (boolean false) end))))))) (more (string (codes "constructor")) (more (boolean false) (more (boolean false) end))))) ∷ []))) end))) end))) ∷ []))) end))

abbrev pub generated_private_write_in_a_field : List LedgerEntry
generated_private_write_in_a_field = record { name = codes "_o"; kind = GeneratedKind.Temp } ∷ record { name = codes "_x"; kind = GeneratedKind.WeakMap (record { 0 = 5 }) } ∷ []

-- the numbers of its shapes
abbrev pub outside_private_write_in_a_field : List ℕ
outside_private_write_in_a_field = []

abbrev pub options_private_write_in_a_field : Options
options_private_write_in_a_field = options_of false (Some (record { loose = false })) false

-- Printed by tools/rows/witnesses.js.
use Rattle.std.specs.Prelude.{ℕ, List, [], ◌∷◌, false, codes, Some}
use Rattle.es_base.specs.Tree.{Tree, end, more, child, absent, list, string, no_string, boolean, literal, trees}
use Rattle.es_base.specs.declared.kind.Kind.{Kind}
use Rattle.es_base.specs.declared.ledger.GeneratedKind.{GeneratedKind}
use Rattle.es_base.specs.declared.ledger.LedgerEntry.{LedgerEntry}
use Rattle.es_base.specs.declared.literal.LiteralValue.TheVariants as literal_value
use Rattle.es_steps.specs.Generated.{node}
use Rattle.es_steps.specs.Options.{options_of}
use Rattle.es_steps.specs.declared.options.Options.{Options}

-- `class A { #x = 1; m() { o().#x += 1; } }`
abbrev pub source_private_field_dropped : Tree
source_private_field_dropped = node Kind.Program 0 (more (string (codes "script")) (more (list (trees (node Kind.ClassDeclaration 1 (more (child (node Kind.BindingIdentifier 2 (more (string (codes "A")) end))) (more absent (more (child (node Kind.ClassBody 3 (more (list (trees (node Kind.PropertyDefinition 4 (more (child (node Kind.PrivateIdentifier 5 (more (string (codes "x")) end))) (more (child (node Kind.Literal 6 (more (literal (literal_value.Number (codes "1"))) end))) (more (boolean false) (more (boolean false) end)))) ∷ node Kind.MethodDefinition 7 (more (child (node Kind.IdentifierName 8 (more (string (codes "m")) end))) (more (child (node Kind.FunctionExpression 9 (more absent (more (list end) (more (child (node Kind.BlockStatement 10 (more (list (trees (node Kind.ExpressionStatement 11 (more (child (node Kind.AssignmentExpression 12 (more (string (codes "+=")) (more (child (node Kind.PrivateField 13 (more (child (node Kind.CallExpression 14 (more (child (node Kind.IdentifierReference 15 (more (string (codes "o")) end))) (more (list end) (more (boolean false) end))))) (more (child (node Kind.PrivateIdentifier 16 (more (string (codes "x")) end))) (more (boolean false) (more (boolean false) end)))))) (more (child (node Kind.Literal 17 (more (literal (literal_value.Number (codes "1"))) end))) end))))) (more no_string end)) ∷ []))) end))) (more (boolean false) (more (boolean false) end))))))) (more (string (codes "method")) (more (boolean false) (more (boolean false) end))))) ∷ []))) end))) end))) ∷ []))) end))

-- a private field that no instance gets, where `var _x = new WeakMap(); class A { constructor() { B.classPrivateFieldInitSpec(this, _x, 1); } m() { var _o; B.classPrivateFieldSet2(_x, _o = o(), B.classPrivateFieldGet2(_x, _o) + 1); } }` is right
abbrev pub output_private_field_dropped : Tree
output_private_field_dropped = node Kind.Program 0 (more (string (codes "script")) (more (list (trees (node Kind.VariableDeclaration 18 (more (string (codes "var")) (more (list (trees (node Kind.VariableDeclarator 19 (more (child (node Kind.BindingIdentifier 20 (more (string (codes "_x")) end))) (more (child (node Kind.NewExpression 21 (more (child (node Kind.IdentifierReference 22 (more (string (codes "WeakMap")) end))) (more (list end) end)))) end)) ∷ []))) end)) ∷ node Kind.ClassDeclaration 1 (more (child (node Kind.BindingIdentifier 2 (more (string (codes "A")) end))) (more absent (more (child (node Kind.ClassBody 3 (more (list (trees (node Kind.MethodDefinition 23 (more (child (node Kind.IdentifierName 24 (more (string (codes "constructor")) end))) (more (child (node Kind.FunctionExpression 25 (more absent (more (list end) (more (child (node Kind.BlockStatement 26 (more (list end) end))) (more (boolean false) (more (boolean false) end))))))) (more (string (codes "constructor")) (more (boolean false) (more (boolean false) end))))) ∷ node Kind.MethodDefinition 7 (more (child (node Kind.IdentifierName 8 (more (string (codes "m")) end))) (more (child (node Kind.FunctionExpression 9 (more absent (more (list end) (more (child (node Kind.BlockStatement 10 (more (list (trees (node Kind.VariableDeclaration 27 (more (string (codes "var")) (more (list (trees (node Kind.VariableDeclarator 28 (more (child (node Kind.BindingIdentifier 29 (more (string (codes "_o")) end))) (more absent end)) ∷ []))) end)) ∷ node Kind.ExpressionStatement 11 (more (child (node Kind.CallExpression 30 (more (child (node Kind.MemberExpression 31 (more (child (node Kind.IdentifierReference 32 (more (string (codes "babelHelpers")) end))) (more (child (node Kind.IdentifierName 33 (more (string (codes "classPrivateFieldSet2")) end))) (more (boolean false) (more (boolean false) end)))))) (more (list (trees (node Kind.IdentifierReference 34 (more (string (codes "_x")) end) ∷ node Kind.AssignmentExpression 35 (more (string (codes "=")) (more (child (node Kind.IdentifierReference 36 (more (string (codes "_o")) end))) (more (child (node Kind.CallExpression 14 (more (child (node Kind.IdentifierReference 15 (more (string (codes "o")) end))) (more (list end) (more (boolean false) end))))) end))) ∷ node Kind.BinaryExpression 12 (more (string (codes "+")) (more (child (node Kind.CallExpression 13 (more (child (node Kind.MemberExpression 37 (more (child (node Kind.IdentifierReference 38 (more (string (codes "babelHelpers")) end))) (more (child (node Kind.IdentifierName 39 (more (string (codes "classPrivateFieldGet2")) end))) (more (boolean false) (more (boolean false) end)))))) (more (list (trees (node Kind.IdentifierReference 40 (more (string (codes "_x")) end) ∷ node Kind.IdentifierReference 41 (more (string (codes "_o")) end) ∷ []))) (more (boolean false) end))))) (more (child (node Kind.Literal 17 (more (literal (literal_value.Number (codes "1"))) end))) end))) ∷ []))) (more (boolean false) end))))) (more no_string end)) ∷ []))) end))) (more (boolean false) (more (boolean false) end))))))) (more (string (codes "method")) (more (boolean false) (more (boolean false) end))))) ∷ []))) end))) end))) ∷ []))) end))

abbrev pub generated_private_field_dropped : List LedgerEntry
generated_private_field_dropped = record { name = codes "_o"; kind = GeneratedKind.Temp } ∷ record { name = codes "_x"; kind = GeneratedKind.WeakMap (record { 0 = 5 }) } ∷ []

abbrev pub options_private_field_dropped : Options
options_private_field_dropped = options_of false (Some (record { loose = false })) false

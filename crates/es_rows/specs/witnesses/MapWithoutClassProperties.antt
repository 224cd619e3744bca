-- Printed by tools/rows/witnesses.js.
use Rattle.std.specs.Prelude.{ℕ, List, [], ◌∷◌, true, false, codes, None}
use Rattle.es_base.specs.Tree.{Tree, end, more, child, absent, list, string, no_string, boolean, literal, trees}
use Rattle.es_base.specs.declared.kind.Kind.{Kind}
use Rattle.es_base.specs.declared.ledger.GeneratedKind.{GeneratedKind}
use Rattle.es_base.specs.declared.ledger.LedgerEntry.{LedgerEntry}
use Rattle.es_base.specs.declared.literal.LiteralValue.TheVariants as literal_value
use Rattle.es_steps.specs.Generated.{node}
use Rattle.es_steps.specs.Options.{options_of}
use Rattle.es_steps.specs.declared.options.Options.{Options}

-- `class A { #x = 1; static { f(1); } static t(o) { return o.#x; } }`
abbrev pub source_map_without_class_properties : Tree
source_map_without_class_properties = node Kind.Program 0 (more (string (codes "script")) (more (list (trees (node Kind.ClassDeclaration 1 (more (child (node Kind.BindingIdentifier 2 (more (string (codes "A")) end))) (more absent (more (child (node Kind.ClassBody 3 (more (list (trees (node Kind.PropertyDefinition 4 (more (child (node Kind.PrivateIdentifier 5 (more (string (codes "x")) end))) (more (child (node Kind.Literal 6 (more (literal (literal_value.Number (codes "1"))) end))) (more (boolean false) (more (boolean false) end)))) ∷ node Kind.StaticBlock 7 (more (list (trees (node Kind.ExpressionStatement 8 (more (child (node Kind.CallExpression 9 (more (child (node Kind.IdentifierReference 10 (more (string (codes "f")) end))) (more (list (trees (node Kind.Literal 11 (more (literal (literal_value.Number (codes "1"))) end) ∷ []))) (more (boolean false) end))))) (more no_string end)) ∷ []))) end) ∷ node Kind.MethodDefinition 12 (more (child (node Kind.IdentifierName 13 (more (string (codes "t")) end))) (more (child (node Kind.FunctionExpression 14 (more absent (more (list (trees (node Kind.BindingIdentifier 15 (more (string (codes "o")) end) ∷ []))) (more (child (node Kind.BlockStatement 16 (more (list (trees (node Kind.ReturnStatement 17 (more (child (node Kind.PrivateField 18 (more (child (node Kind.IdentifierReference 19 (more (string (codes "o")) end))) (more (child (node Kind.PrivateIdentifier 20 (more (string (codes "x")) end))) (more (boolean false) (more (boolean false) end)))))) end) ∷ []))) end))) (more (boolean false) (more (boolean false) end))))))) (more (string (codes "method")) (more (boolean false) (more (boolean true) end))))) ∷ []))) end))) end))) ∷ []))) end))

-- a `WeakMap` in place of a private field, where private members are not lowered, where `class A { #x = 1; static #_ = f(1); static t(o) { return o.#x; } }` is right
abbrev pub output_map_without_class_properties : Tree
output_map_without_class_properties = node Kind.Program 0 (more (string (codes "script")) (more (list (trees (node Kind.VariableDeclaration 21 (more (string (codes "var")) (more (list (trees (node Kind.VariableDeclarator 22 (more (child (node Kind.BindingIdentifier 23 (more (string (codes "_x")) end))) (more (child (node Kind.NewExpression 24 (more (child (node Kind.IdentifierReference 25 (more (string (codes "WeakMap")) end))) (more (list end) end)))) end)) ∷ []))) end)) ∷ node Kind.ClassDeclaration 1 (more (child (node Kind.BindingIdentifier 2 (more (string (codes "A")) end))) (more absent (more (child (node Kind.ClassBody 3 (more (list (trees (node Kind.PropertyDefinition 4 (more (child (node Kind.PrivateIdentifier 5 (more (string (codes "x")) end))) (more (child (node Kind.Literal 6 (more (literal (literal_value.Number (codes "1"))) end))) (more (boolean false) (more (boolean false) end)))) ∷ node Kind.PropertyDefinition 26 (more (child (node Kind.PrivateIdentifier 27 (more (string (codes "_")) end))) (more (child (node Kind.CallExpression 9 (more (child (node Kind.IdentifierReference 10 (more (string (codes "f")) end))) (more (list (trees (node Kind.Literal 11 (more (literal (literal_value.Number (codes "1"))) end) ∷ []))) (more (boolean false) end))))) (more (boolean false) (more (boolean true) end)))) ∷ node Kind.MethodDefinition 12 (more (child (node Kind.IdentifierName 13 (more (string (codes "t")) end))) (more (child (node Kind.FunctionExpression 14 (more absent (more (list (trees (node Kind.BindingIdentifier 15 (more (string (codes "o")) end) ∷ []))) (more (child (node Kind.BlockStatement 16 (more (list (trees (node Kind.ReturnStatement 17 (more (child (node Kind.CallExpression 18 (more (child (node Kind.MemberExpression 28 (more (child (node Kind.IdentifierReference 29 (more (string (codes "babelHelpers")) end))) (more (child (node Kind.IdentifierName 30 (more (string (codes "classPrivateFieldGet2")) end))) (more (boolean false) (more (boolean false) end)))))) (more (list (trees (node Kind.IdentifierReference 31 (more (string (codes "_x")) end) ∷ node Kind.IdentifierReference 19 (more (string (codes "o")) end) ∷ []))) (more (boolean false) end))))) end) ∷ []))) end))) (more (boolean false) (more (boolean false) end))))))) (more (string (codes "method")) (more (boolean false) (more (boolean true) end))))) ∷ []))) end))) end))) ∷ []))) end))

abbrev pub generated_map_without_class_properties : List LedgerEntry
generated_map_without_class_properties = record { name = codes "_x"; kind = GeneratedKind.WeakMap (record { 0 = 5 }) } ∷ record { name = codes "_"; kind = GeneratedKind.Private (record { 0 = 1 }) } ∷ []

abbrev pub options_map_without_class_properties : Options
options_map_without_class_properties = options_of true None false

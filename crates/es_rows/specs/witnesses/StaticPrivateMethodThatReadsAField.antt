-- Printed by tools/rows/witnesses.js.
use Rattle.std.specs.Prelude.{ℕ, List, [], ◌∷◌, true, false, codes, Some}
use Rattle.es_base.specs.Tree.{Tree, end, more, child, absent, list, string, no_string, boolean, literal, trees}
use Rattle.es_base.specs.declared.kind.Kind.{Kind}
use Rattle.es_base.specs.declared.ledger.GeneratedKind.{GeneratedKind}
use Rattle.es_base.specs.declared.ledger.LedgerEntry.{LedgerEntry}
use Rattle.es_base.specs.declared.literal.LiteralValue.TheVariants as literal_value
use Rattle.es_steps.specs.Generated.{node}
use Rattle.es_steps.specs.Options.{options_of}
use Rattle.es_steps.specs.declared.options.Options.{Options}

-- `class A { #x = 1; static #m(o) { return o.#x; } }`
abbrev pub source_static_private_method_that_reads_a_field : Tree
source_static_private_method_that_reads_a_field = node Kind.Program 0 (more (string (codes "script")) (more (list (trees (node Kind.ClassDeclaration 1 (more (child (node Kind.BindingIdentifier 2 (more (string (codes "A")) end))) (more absent (more (child (node Kind.ClassBody 3 (more (list (trees (node Kind.PropertyDefinition 4 (more (child (node Kind.PrivateIdentifier 5 (more (string (codes "x")) end))) (more (child (node Kind.Literal 6 (more (literal (literal_value.Number (codes "1"))) end))) (more (boolean false) (more (boolean false) end)))) ∷ node Kind.MethodDefinition 7 (more (child (node Kind.PrivateIdentifier 8 (more (string (codes "m")) end))) (more (child (node Kind.FunctionExpression 9 (more absent (more (list (trees (node Kind.BindingIdentifier 10 (more (string (codes "o")) end) ∷ []))) (more (child (node Kind.BlockStatement 11 (more (list (trees (node Kind.ReturnStatement 12 (more (child (node Kind.PrivateField 13 (more (child (node Kind.IdentifierReference 14 (more (string (codes "o")) end))) (more (child (node Kind.PrivateIdentifier 15 (more (string (codes "x")) end))) (more (boolean false) (more (boolean false) end)))))) end) ∷ []))) end))) (more (boolean false) (more (boolean false) end))))))) (more (string (codes "method")) (more (boolean false) (more (boolean true) end))))) ∷ []))) end))) end))) ∷ []))) end))

-- a static private method that reads a private field of an instance, as `var _x = new WeakMap(); class A { constructor() { B.classPrivateFieldInitSpec(this, _x, 1); } } function _m(o) { return B.classPrivateFieldGet2(_x, o); }` means
abbrev pub output_static_private_method_that_reads_a_field : Tree
output_static_private_method_that_reads_a_field = node Kind.Program 0 (more (string (codes "script")) (more (list (trees (node Kind.VariableDeclaration 16 (more (string (codes "var")) (more (list (trees (node Kind.VariableDeclarator 17 (more (child (node Kind.BindingIdentifier 18 (more (string (codes "_x")) end))) (more (child (node Kind.NewExpression 19 (more (child (node Kind.IdentifierReference 20 (more (string (codes "WeakMap")) end))) (more (list end) end)))) end)) ∷ []))) end)) ∷ node Kind.ClassDeclaration 1 (more (child (node Kind.BindingIdentifier 2 (more (string (codes "A")) end))) (more absent (more (child (node Kind.ClassBody 3 (more (list (trees (node Kind.MethodDefinition 21 (more (child (node Kind.IdentifierName 22 (more (string (codes "constructor")) end))) (more (child (node Kind.FunctionExpression 23 (more absent (more (list end) (more (child (node Kind.BlockStatement 24 (more (list (trees (node Kind.ExpressionStatement 25 (more (child (node Kind.CallExpression 26 (more (child (node Kind.MemberExpression 27 (more (child (node Kind.IdentifierReference 28 (more (string (codes "babelHelpers")) end))) (more (child (node Kind.IdentifierName 29 (more (string (codes "classPrivateFieldInitSpec")) end))) (more (boolean false) (more (boolean false) end)))))) (more (list (trees (node Kind.ThisExpression 30 end ∷ node Kind.IdentifierReference 31 (more (string (codes "_x")) end) ∷ node Kind.Literal 6 (more (literal (literal_value.Number (codes "1"))) end) ∷ []))) (more (boolean false) end))))) (more no_string end)) ∷ []))) end))) (more (boolean false) (more (boolean false) end))))))) (more (string (codes "constructor")) (more (boolean false) (more (boolean false) end))))) ∷ []))) end))) end))) ∷ node Kind.FunctionDeclaration 9 (more (child (node Kind.BindingIdentifier 32 (more (string (codes "_m")) end))) (more (list (trees (node Kind.BindingIdentifier 10 (more (string (codes "o")) end) ∷ []))) (more (child (node Kind.BlockStatement 11 (more (list (trees (node Kind.ReturnStatement 12 (more (child (node Kind.CallExpression 13 (more (child (node Kind.MemberExpression 33 (more (child (node Kind.IdentifierReference 34 (more (string (codes "babelHelpers")) end))) (more (child (node Kind.IdentifierName 35 (more (string (codes "classPrivateFieldGet2")) end))) (more (boolean false) (more (boolean false) end)))))) (more (list (trees (node Kind.IdentifierReference 36 (more (string (codes "_x")) end) ∷ node Kind.IdentifierReference 14 (more (string (codes "o")) end) ∷ []))) (more (boolean false) end))))) end) ∷ []))) end))) (more (boolean false) (more (boolean false) end))))) ∷ []))) end))

abbrev pub generated_static_private_method_that_reads_a_field : List LedgerEntry
generated_static_private_method_that_reads_a_field = record { name = codes "_m"; kind = GeneratedKind.Method (record { 0 = 8 }) } ∷ record { name = codes "_x"; kind = GeneratedKind.WeakMap (record { 0 = 5 }) } ∷ []

abbrev pub options_static_private_method_that_reads_a_field : Options
options_static_private_method_that_reads_a_field = options_of false (Some (record { loose = false })) false

-- Printed by tools/rows/witnesses.js.
use Rattle.std.specs.Prelude.{ℕ, List, [], ◌∷◌, false, codes, Some}
use Rattle.es_base.specs.Tree.{Tree, end, more, child, absent, list, string, no_string, boolean, literal, trees}
use Rattle.es_base.specs.declared.kind.Kind.{Kind}
use Rattle.es_base.specs.declared.ledger.GeneratedKind.{GeneratedKind}
use Rattle.es_base.specs.declared.ledger.LedgerEntry.{LedgerEntry}
use Rattle.es_base.specs.declared.literal.LiteralValue.TheVariants as literal_value
use Rattle.es_steps.specs.Generated.{node}
use Rattle.es_steps.specs.Options.{options_of}
use Rattle.es_steps.specs.declared.options.Options.{Options}

-- `class A { #x = 1; #m() { return this.#x; } }`
abbrev pub source_private_method_that_reads_a_field : Tree
source_private_method_that_reads_a_field = node Kind.Program 0 (more (string (codes "script")) (more (list (trees (node Kind.ClassDeclaration 1 (more (child (node Kind.BindingIdentifier 2 (more (string (codes "A")) end))) (more absent (more (child (node Kind.ClassBody 3 (more (list (trees (node Kind.PropertyDefinition 4 (more (child (node Kind.PrivateIdentifier 5 (more (string (codes "x")) end))) (more (child (node Kind.Literal 6 (more (literal (literal_value.Number (codes "1"))) end))) (more (boolean false) (more (boolean false) end)))) ∷ node Kind.MethodDefinition 7 (more (child (node Kind.PrivateIdentifier 8 (more (string (codes "m")) end))) (more (child (node Kind.FunctionExpression 9 (more absent (more (list end) (more (child (node Kind.BlockStatement 10 (more (list (trees (node Kind.ReturnStatement 11 (more (child (node Kind.PrivateField 12 (more (child (node Kind.ThisExpression 13 end)) (more (child (node Kind.PrivateIdentifier 14 (more (string (codes "x")) end))) (more (boolean false) (more (boolean false) end)))))) end) ∷ []))) end))) (more (boolean false) (more (boolean false) end))))))) (more (string (codes "method")) (more (boolean false) (more (boolean false) end))))) ∷ []))) end))) end))) ∷ []))) end))

-- a private method that reads a private field, as `var _A_brand = new WeakSet(); var _x = new WeakMap(); class A { constructor() { B.classPrivateMethodInitSpec(this, _A_brand); B.classPrivateFieldInitSpec(this, _x, 1); } } function _m() { return B.classPrivateFieldGet2(_x, this); }` means
abbrev pub output_private_method_that_reads_a_field : Tree
output_private_method_that_reads_a_field = node Kind.Program 0 (more (string (codes "script")) (more (list (trees (node Kind.VariableDeclaration 15 (more (string (codes "var")) (more (list (trees (node Kind.VariableDeclarator 16 (more (child (node Kind.BindingIdentifier 17 (more (string (codes "_A_brand")) end))) (more (child (node Kind.NewExpression 18 (more (child (node Kind.IdentifierReference 19 (more (string (codes "WeakSet")) end))) (more (list end) end)))) end)) ∷ []))) end)) ∷ node Kind.VariableDeclaration 20 (more (string (codes "var")) (more (list (trees (node Kind.VariableDeclarator 21 (more (child (node Kind.BindingIdentifier 22 (more (string (codes "_x")) end))) (more (child (node Kind.NewExpression 23 (more (child (node Kind.IdentifierReference 24 (more (string (codes "WeakMap")) end))) (more (list end) end)))) end)) ∷ []))) end)) ∷ node Kind.ClassDeclaration 1 (more (child (node Kind.BindingIdentifier 2 (more (string (codes "A")) end))) (more absent (more (child (node Kind.ClassBody 3 (more (list (trees (node Kind.MethodDefinition 25 (more (child (node Kind.IdentifierName 26 (more (string (codes "constructor")) end))) (more (child (node Kind.FunctionExpression 27 (more absent (more (list end) (more (child (node Kind.BlockStatement 28 (more (list (trees (node Kind.ExpressionStatement 29 (more (child (node Kind.CallExpression 30 (more (child (node Kind.MemberExpression 31 (more (child (node Kind.IdentifierReference 32 (more (string (codes "babelHelpers")) end))) (more (child (node Kind.IdentifierName 33 (more (string (codes "classPrivateMethodInitSpec")) end))) (more (boolean false) (more (boolean false) end)))))) (more (list (trees (node Kind.ThisExpression 34 end ∷ node Kind.IdentifierReference 35 (more (string (codes "_A_brand")) end) ∷ []))) (more (boolean false) end))))) (more no_string end)) ∷ node Kind.ExpressionStatement 36 (more (child (node Kind.CallExpression 37 (more (child (node Kind.MemberExpression 38 (more (child (node Kind.IdentifierReference 39 (more (string (codes "babelHelpers")) end))) (more (child (node Kind.IdentifierName 40 (more (string (codes "classPrivateFieldInitSpec")) end))) (more (boolean false) (more (boolean false) end)))))) (more (list (trees (node Kind.ThisExpression 41 end ∷ node Kind.IdentifierReference 42 (more (string (codes "_x")) end) ∷ node Kind.Literal 6 (more (literal (literal_value.Number (codes "1"))) end) ∷ []))) (more (boolean false) end))))) (more no_string end)) ∷ []))) end))) (more (boolean false) (more (boolean false) end))))))) (more (string (codes "constructor")) (more (boolean false) (more (boolean false) end))))) ∷ []))) end))) end))) ∷ node Kind.FunctionDeclaration 9 (more (child (node Kind.BindingIdentifier 43 (more (string (codes "_m")) end))) (more (list end) (more (child (node Kind.BlockStatement 10 (more (list (trees (node Kind.ReturnStatement 11 (more (child (node Kind.CallExpression 12 (more (child (node Kind.MemberExpression 44 (more (child (node Kind.IdentifierReference 45 (more (string (codes "babelHelpers")) end))) (more (child (node Kind.IdentifierName 46 (more (string (codes "classPrivateFieldGet2")) end))) (more (boolean false) (more (boolean false) end)))))) (more (list (trees (node Kind.IdentifierReference 47 (more (string (codes "_x")) end) ∷ node Kind.ThisExpression 13 end ∷ []))) (more (boolean false) end))))) end) ∷ []))) end))) (more (boolean false) (more (boolean false) end))))) ∷ []))) end))

abbrev pub generated_private_method_that_reads_a_field : List LedgerEntry
generated_private_method_that_reads_a_field = record { name = codes "_A_brand"; kind = GeneratedKind.Brand (record { 0 = 1 }) } ∷ record { name = codes "_m"; kind = GeneratedKind.Method (record { 0 = 8 }) } ∷ record { name = codes "_x"; kind = GeneratedKind.WeakMap (record { 0 = 5 }) } ∷ []

abbrev pub options_private_method_that_reads_a_field : Options
options_private_method_that_reads_a_field = options_of false (Some (record { loose = false })) false

-- Printed by tools/rows/witnesses.js.
use Rattle.std.specs.Prelude.{ℕ, List, [], ◌∷◌, false, codes, Some, None}
use Rattle.es_base.specs.Tree.{Tree, end, more, child, absent, list, string, no_string, boolean, literal, trees}
use Rattle.es_base.specs.declared.kind.Kind.{Kind}
use Rattle.es_base.specs.declared.ledger.GeneratedKind.{GeneratedKind}
use Rattle.es_base.specs.declared.ledger.LedgerEntry.{LedgerEntry}
use Rattle.es_base.specs.declared.literal.LiteralValue.TheVariants as literal_value
use Rattle.es_steps.specs.Generated.{node}
use Rattle.es_steps.specs.Options.{options_of}
use Rattle.es_steps.specs.declared.options.Options.{Options}

-- `class A extends P { #m() { return super.f(1); } g() { return this.#m(); } }`
abbrev pub source_method_without_brand : Tree
source_method_without_brand = node Kind.Program 0 (more (string (codes "script")) (more (list (trees (node Kind.ClassDeclaration 1 (more (child (node Kind.BindingIdentifier 2 (more (string (codes "A")) end))) (more (child (node Kind.IdentifierReference 3 (more (string (codes "P")) end))) (more (child (node Kind.ClassBody 4 (more (list (trees (node Kind.MethodDefinition 5 (more (child (node Kind.PrivateIdentifier 6 (more (string (codes "m")) end))) (more (child (node Kind.FunctionExpression 7 (more absent (more (list end) (more (child (node Kind.BlockStatement 8 (more (list (trees (node Kind.ReturnStatement 9 (more (child (node Kind.CallExpression 10 (more (child (node Kind.MemberExpression 11 (more (child (node Kind.Super 12 end)) (more (child (node Kind.IdentifierName 13 (more (string (codes "f")) end))) (more (boolean false) (more (boolean false) end)))))) (more (list (trees (node Kind.Literal 14 (more (literal (literal_value.Number (codes "1"))) end) ∷ []))) (more (boolean false) end))))) end) ∷ []))) end))) (more (boolean false) (more (boolean false) end))))))) (more (string (codes "method")) (more (boolean false) (more (boolean false) end))))) ∷ node Kind.MethodDefinition 15 (more (child (node Kind.IdentifierName 16 (more (string (codes "g")) end))) (more (child (node Kind.FunctionExpression 17 (more absent (more (list end) (more (child (node Kind.BlockStatement 18 (more (list (trees (node Kind.ReturnStatement 19 (more (child (node Kind.CallExpression 20 (more (child (node Kind.PrivateField 21 (more (child (node Kind.ThisExpression 22 end)) (more (child (node Kind.PrivateIdentifier 23 (more (string (codes "m")) end))) (more (boolean false) (more (boolean false) end)))))) (more (list end) (more (boolean false) end))))) end) ∷ []))) end))) (more (boolean false) (more (boolean false) end))))))) (more (string (codes "method")) (more (boolean false) (more (boolean false) end))))) ∷ []))) end))) end))) ∷ []))) end))

-- a private method without the test of its brand, where `var _A; var _A_brand = new WeakSet(); class A extends P { constructor(..._args) { super(..._args); B.classPrivateMethodInitSpec(this, _A_brand); } g() { return B.assertClassBrand(_A_brand, this, _m).call(this); } } _A = A; function _m() { return B.superPropGet(_A.prototype, "f", this, 2)([1]); }` is right
abbrev pub output_method_without_brand : Tree
output_method_without_brand = node Kind.Program 0 (more (string (codes "script")) (more (list (trees (node Kind.VariableDeclaration 24 (more (string (codes "var")) (more (list (trees (node Kind.VariableDeclarator 25 (more (child (node Kind.BindingIdentifier 26 (more (string (codes "_A")) end))) (more absent end)) ∷ []))) end)) ∷ node Kind.VariableDeclaration 27 (more (string (codes "var")) (more (list (trees (node Kind.VariableDeclarator 28 (more (child (node Kind.BindingIdentifier 29 (more (string (codes "_A_brand")) end))) (more (child (node Kind.NewExpression 30 (more (child (node Kind.IdentifierReference 31 (more (string (codes "WeakSet")) end))) (more (list end) end)))) end)) ∷ []))) end)) ∷ node Kind.ClassDeclaration 1 (more (child (node Kind.BindingIdentifier 2 (more (string (codes "A")) end))) (more (child (node Kind.IdentifierReference 3 (more (string (codes "P")) end))) (more (child (node Kind.ClassBody 4 (more (list (trees (node Kind.MethodDefinition 32 (more (child (node Kind.IdentifierName 33 (more (string (codes "constructor")) end))) (more (child (node Kind.FunctionExpression 34 (more absent (more (list (trees (node Kind.RestElement 35 (more (child (node Kind.BindingIdentifier 36 (more (string (codes "_args")) end))) end) ∷ []))) (more (child (node Kind.BlockStatement 37 (more (list (trees (node Kind.ExpressionStatement 38 (more (child (node Kind.CallExpression 39 (more (child (node Kind.Super 40 end)) (more (list (trees (node Kind.SpreadElement 41 (more (child (node Kind.IdentifierReference 42 (more (string (codes "_args")) end))) end) ∷ []))) (more (boolean false) end))))) (more no_string end)) ∷ node Kind.ExpressionStatement 43 (more (child (node Kind.CallExpression 44 (more (child (node Kind.MemberExpression 45 (more (child (node Kind.IdentifierReference 46 (more (string (codes "babelHelpers")) end))) (more (child (node Kind.IdentifierName 47 (more (string (codes "classPrivateMethodInitSpec")) end))) (more (boolean false) (more (boolean false) end)))))) (more (list (trees (node Kind.ThisExpression 48 end ∷ node Kind.IdentifierReference 49 (more (string (codes "_A_brand")) end) ∷ []))) (more (boolean false) end))))) (more no_string end)) ∷ []))) end))) (more (boolean false) (more (boolean false) end))))))) (more (string (codes "constructor")) (more (boolean false) (more (boolean false) end))))) ∷ node Kind.MethodDefinition 15 (more (child (node Kind.IdentifierName 16 (more (string (codes "g")) end))) (more (child (node Kind.FunctionExpression 17 (more absent (more (list end) (more (child (node Kind.BlockStatement 18 (more (list (trees (node Kind.ReturnStatement 19 (more (child (node Kind.CallExpression 20 (more (child (node Kind.MemberExpression 50 (more (child (node Kind.IdentifierReference 51 (more (string (codes "_m")) end))) (more (child (node Kind.IdentifierName 52 (more (string (codes "call")) end))) (more (boolean false) (more (boolean false) end)))))) (more (list (trees (node Kind.ThisExpression 53 end ∷ []))) (more (boolean false) end))))) end) ∷ []))) end))) (more (boolean false) (more (boolean false) end))))))) (more (string (codes "method")) (more (boolean false) (more (boolean false) end))))) ∷ []))) end))) end))) ∷ node Kind.ExpressionStatement 54 (more (child (node Kind.AssignmentExpression 55 (more (string (codes "=")) (more (child (node Kind.IdentifierReference 56 (more (string (codes "_A")) end))) (more (child (node Kind.IdentifierReference 57 (more (string (codes "A")) end))) end))))) (more no_string end)) ∷ node Kind.FunctionDeclaration 7 (more (child (node Kind.BindingIdentifier 58 (more (string (codes "_m")) end))) (more (list end) (more (child (node Kind.BlockStatement 8 (more (list (trees (node Kind.ReturnStatement 9 (more (child (node Kind.CallExpression 10 (more (child (node Kind.CallExpression 11 (more (child (node Kind.MemberExpression 59 (more (child (node Kind.IdentifierReference 60 (more (string (codes "babelHelpers")) end))) (more (child (node Kind.IdentifierName 61 (more (string (codes "superPropGet")) end))) (more (boolean false) (more (boolean false) end)))))) (more (list (trees (node Kind.MemberExpression 62 (more (child (node Kind.IdentifierReference 63 (more (string (codes "_A")) end))) (more (child (node Kind.IdentifierName 64 (more (string (codes "prototype")) end))) (more (boolean false) (more (boolean false) end)))) ∷ node Kind.Literal 65 (more (literal (literal_value.String (codes "f") None)) end) ∷ node Kind.ThisExpression 66 end ∷ node Kind.Literal 67 (more (literal (literal_value.Number (codes "2"))) end) ∷ []))) (more (boolean false) end))))) (more (list (trees (node Kind.ArrayExpression 68 (more (list (trees (node Kind.Literal 14 (more (literal (literal_value.Number (codes "1"))) end) ∷ []))) end) ∷ []))) (more (boolean false) end))))) end) ∷ []))) end))) (more (boolean false) (more (boolean false) end))))) ∷ []))) end))

abbrev pub generated_method_without_brand : List LedgerEntry
generated_method_without_brand = record { name = codes "_A"; kind = GeneratedKind.ClassTemp (record { 0 = 1 }) } ∷ record { name = codes "_A_brand"; kind = GeneratedKind.Brand (record { 0 = 1 }) } ∷ record { name = codes "_args"; kind = GeneratedKind.Args } ∷ record { name = codes "_m"; kind = GeneratedKind.Method (record { 0 = 6 }) } ∷ []

abbrev pub options_method_without_brand : Options
options_method_without_brand = options_of false (Some (record { loose = false })) false

-- Printed by tools/rows/witnesses.js.
use Rattle.std.specs.Prelude.{ℕ, List, [], ◌∷◌, false, codes, Some}
use Rattle.es_base.specs.Tree.{Tree, end, more, child, absent, list, string, no_string, boolean, literal, trees}
use Rattle.es_base.specs.declared.kind.Kind.{Kind}
use Rattle.es_base.specs.declared.ledger.GeneratedKind.{GeneratedKind}
use Rattle.es_base.specs.declared.ledger.LedgerEntry.{LedgerEntry}
use Rattle.es_base.specs.declared.literal.LiteralValue.TheVariants as literal_value
use Rattle.es_steps.specs.Generated.{node}
use Rattle.es_steps.specs.Options.{options_of}
use Rattle.es_steps.specs.declared.options.Options.{Options}

-- `let h = () => class { #a() { return class { }; } #b() { return 1; } m() { return this.#a(this.#b()); } };`
abbrev pub source_private_method_behind_a_class : Tree
source_private_method_behind_a_class = node Kind.Program 0 (more (string (codes "script")) (more (list (trees (node Kind.VariableDeclaration 1 (more (string (codes "let")) (more (list (trees (node Kind.VariableDeclarator 2 (more (child (node Kind.BindingIdentifier 3 (more (string (codes "h")) end))) (more (child (node Kind.ArrowFunctionExpression 4 (more (list end) (more (child (node Kind.ClassExpression 5 (more absent (more absent (more (child (node Kind.ClassBody 6 (more (list (trees (node Kind.MethodDefinition 7 (more (child (node Kind.PrivateIdentifier 8 (more (string (codes "a")) end))) (more (child (node Kind.FunctionExpression 9 (more absent (more (list end) (more (child (node Kind.BlockStatement 10 (more (list (trees (node Kind.ReturnStatement 11 (more (child (node Kind.ClassExpression 12 (more absent (more absent (more (child (node Kind.ClassBody 13 (more (list end) end))) end))))) end) ∷ []))) end))) (more (boolean false) (more (boolean false) end))))))) (more (string (codes "method")) (more (boolean false) (more (boolean false) end))))) ∷ node Kind.MethodDefinition 14 (more (child (node Kind.PrivateIdentifier 15 (more (string (codes "b")) end))) (more (child (node Kind.FunctionExpression 16 (more absent (more (list end) (more (child (node Kind.BlockStatement 17 (more (list (trees (node Kind.ReturnStatement 18 (more (child (node Kind.Literal 19 (more (literal (literal_value.Number (codes "1"))) end))) end) ∷ []))) end))) (more (boolean false) (more (boolean false) end))))))) (more (string (codes "method")) (more (boolean false) (more (boolean false) end))))) ∷ node Kind.MethodDefinition 20 (more (child (node Kind.IdentifierName 21 (more (string (codes "m")) end))) (more (child (node Kind.FunctionExpression 22 (more absent (more (list end) (more (child (node Kind.BlockStatement 23 (more (list (trees (node Kind.ReturnStatement 24 (more (child (node Kind.CallExpression 25 (more (child (node Kind.PrivateField 26 (more (child (node Kind.ThisExpression 27 end)) (more (child (node Kind.PrivateIdentifier 28 (more (string (codes "a")) end))) (more (boolean false) (more (boolean false) end)))))) (more (list (trees (node Kind.CallExpression 29 (more (child (node Kind.PrivateField 30 (more (child (node Kind.ThisExpression 31 end)) (more (child (node Kind.PrivateIdentifier 32 (more (string (codes "b")) end))) (more (boolean false) (more (boolean false) end)))))) (more (list end) (more (boolean false) end))) ∷ []))) (more (boolean false) end))))) end) ∷ []))) end))) (more (boolean false) (more (boolean false) end))))))) (more (string (codes "method")) (more (boolean false) (more (boolean false) end))))) ∷ []))) end))) end))))) (more (boolean false) end))))) end)) ∷ []))) end)) ∷ []))) end))

-- a private method that is assigned behind one that holds a class, as `var _a, _b, _Class_brand; let h = () => (_Class_brand = new WeakSet(), _a = function () { return class { }; }, _b = function () { return 1; }, class { constructor() { B.classPrivateMethodInitSpec(this, _Class_brand); } m() { return B.assertClassBrand(_Class_brand, this, _a).call(this, B.assertClassBrand(_Class_brand, this, _b).call(this)); } });` means
abbrev pub output_private_method_behind_a_class : Tree
output_private_method_behind_a_class = node Kind.Program 0 (more (string (codes "script")) (more (list (trees (node Kind.VariableDeclaration 33 (more (string (codes "var")) (more (list (trees (node Kind.VariableDeclarator 34 (more (child (node Kind.BindingIdentifier 35 (more (string (codes "_a")) end))) (more absent end)) ∷ node Kind.VariableDeclarator 36 (more (child (node Kind.BindingIdentifier 37 (more (string (codes "_b")) end))) (more absent end)) ∷ node Kind.VariableDeclarator 38 (more (child (node Kind.BindingIdentifier 39 (more (string (codes "_Class_brand")) end))) (more absent end)) ∷ []))) end)) ∷ node Kind.VariableDeclaration 1 (more (string (codes "let")) (more (list (trees (node Kind.VariableDeclarator 2 (more (child (node Kind.BindingIdentifier 3 (more (string (codes "h")) end))) (more (child (node Kind.ArrowFunctionExpression 4 (more (list end) (more (child (node Kind.SequenceExpression 40 (more (list (trees (node Kind.AssignmentExpression 41 (more (string (codes "=")) (more (child (node Kind.IdentifierReference 42 (more (string (codes "_Class_brand")) end))) (more (child (node Kind.NewExpression 43 (more (child (node Kind.IdentifierReference 44 (more (string (codes "WeakSet")) end))) (more (list end) end)))) end))) ∷ node Kind.AssignmentExpression 45 (more (string (codes "=")) (more (child (node Kind.IdentifierReference 46 (more (string (codes "_a")) end))) (more (child (node Kind.FunctionExpression 9 (more absent (more (list end) (more (child (node Kind.BlockStatement 10 (more (list (trees (node Kind.ReturnStatement 11 (more (child (node Kind.ClassExpression 12 (more absent (more absent (more (child (node Kind.ClassBody 13 (more (list end) end))) end))))) end) ∷ []))) end))) (more (boolean false) (more (boolean false) end))))))) end))) ∷ node Kind.AssignmentExpression 47 (more (string (codes "=")) (more (child (node Kind.IdentifierReference 48 (more (string (codes "_b")) end))) (more (child (node Kind.FunctionExpression 16 (more absent (more (list end) (more (child (node Kind.BlockStatement 17 (more (list (trees (node Kind.ReturnStatement 18 (more (child (node Kind.Literal 19 (more (literal (literal_value.Number (codes "1"))) end))) end) ∷ []))) end))) (more (boolean false) (more (boolean false) end))))))) end))) ∷ node Kind.ClassExpression 5 (more absent (more absent (more (child (node Kind.ClassBody 6 (more (list (trees (node Kind.MethodDefinition 49 (more (child (node Kind.IdentifierName 50 (more (string (codes "constructor")) end))) (more (child (node Kind.FunctionExpression 51 (more absent (more (list end) (more (child (node Kind.BlockStatement 52 (more (list (trees (node Kind.ExpressionStatement 53 (more (child (node Kind.CallExpression 54 (more (child (node Kind.MemberExpression 55 (more (child (node Kind.IdentifierReference 56 (more (string (codes "babelHelpers")) end))) (more (child (node Kind.IdentifierName 57 (more (string (codes "classPrivateMethodInitSpec")) end))) (more (boolean false) (more (boolean false) end)))))) (more (list (trees (node Kind.ThisExpression 58 end ∷ node Kind.IdentifierReference 59 (more (string (codes "_Class_brand")) end) ∷ []))) (more (boolean false) end))))) (more no_string end)) ∷ []))) end))) (more (boolean false) (more (boolean false) end))))))) (more (string (codes "constructor")) (more (boolean false) (more (boolean false) end))))) ∷ node Kind.MethodDefinition 20 (more (child (node Kind.IdentifierName 21 (more (string (codes "m")) end))) (more (child (node Kind.FunctionExpression 22 (more absent (more (list end) (more (child (node Kind.BlockStatement 23 (more (list (trees (node Kind.ReturnStatement 24 (more (child (node Kind.CallExpression 25 (more (child (node Kind.MemberExpression 60 (more (child (node Kind.CallExpression 26 (more (child (node Kind.MemberExpression 61 (more (child (node Kind.IdentifierReference 62 (more (string (codes "babelHelpers")) end))) (more (child (node Kind.IdentifierName 63 (more (string (codes "assertClassBrand")) end))) (more (boolean false) (more (boolean false) end)))))) (more (list (trees (node Kind.IdentifierReference 64 (more (string (codes "_Class_brand")) end) ∷ node Kind.ThisExpression 27 end ∷ node Kind.IdentifierReference 65 (more (string (codes "_a")) end) ∷ []))) (more (boolean false) end))))) (more (child (node Kind.IdentifierName 66 (more (string (codes "call")) end))) (more (boolean false) (more (boolean false) end)))))) (more (list (trees (node Kind.ThisExpression 67 end ∷ node Kind.CallExpression 29 (more (child (node Kind.MemberExpression 68 (more (child (node Kind.CallExpression 30 (more (child (node Kind.MemberExpression 69 (more (child (node Kind.IdentifierReference 70 (more (string (codes "babelHelpers")) end))) (more (child (node Kind.IdentifierName 71 (more (string (codes "assertClassBrand")) end))) (more (boolean false) (more (boolean false) end)))))) (more (list (trees (node Kind.IdentifierReference 72 (more (string (codes "_Class_brand")) end) ∷ node Kind.ThisExpression 31 end ∷ node Kind.IdentifierReference 73 (more (string (codes "_b")) end) ∷ []))) (more (boolean false) end))))) (more (child (node Kind.IdentifierName 74 (more (string (codes "call")) end))) (more (boolean false) (more (boolean false) end)))))) (more (list (trees (node Kind.ThisExpression 75 end ∷ []))) (more (boolean false) end))) ∷ []))) (more (boolean false) end))))) end) ∷ []))) end))) (more (boolean false) (more (boolean false) end))))))) (more (string (codes "method")) (more (boolean false) (more (boolean false) end))))) ∷ []))) end))) end))) ∷ []))) end))) (more (boolean false) end))))) end)) ∷ []))) end)) ∷ []))) end))

abbrev pub generated_private_method_behind_a_class : List LedgerEntry
generated_private_method_behind_a_class = record { name = codes "_Class_brand"; kind = GeneratedKind.Brand (record { 0 = 5 }) } ∷ record { name = codes "_a"; kind = GeneratedKind.Method (record { 0 = 8 }) } ∷ record { name = codes "_b"; kind = GeneratedKind.Method (record { 0 = 15 }) } ∷ []

abbrev pub options_private_method_behind_a_class : Options
options_private_method_behind_a_class = options_of false (Some (record { loose = false })) false

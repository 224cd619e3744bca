-- Printed by tools/rows/witnesses.js.
use Rattle.std.specs.Prelude.{ℕ, List, [], ◌∷◌, false, codes, Some}
use Rattle.es_base.specs.Tree.{Tree, end, more, child, absent, list, string, no_string, boolean, literal, trees}
use Rattle.es_base.specs.declared.kind.Kind.{Kind}
use Rattle.es_base.specs.declared.ledger.GeneratedKind.{GeneratedKind}
use Rattle.es_base.specs.declared.ledger.LedgerEntry.{LedgerEntry}
use Rattle.es_base.specs.declared.literal.LiteralValue.TheVariants as literal_value
use Rattle.es_steps.specs.Generated.{node}
use Rattle.es_steps.specs.Options.{options_of}
use Rattle.es_steps.specs.declared.options.Options.{Options}

-- `class C { get #a() { return 1; } set #a(w) {} m() { let v; v = (this.#a += 1); } }`
abbrev pub source_result_of_the_setter : Tree
source_result_of_the_setter = node Kind.Program 0 (more (string (codes "script")) (more (list (trees (node Kind.ClassDeclaration 1 (more (child (node Kind.BindingIdentifier 2 (more (string (codes "C")) end))) (more absent (more (child (node Kind.ClassBody 3 (more (list (trees (node Kind.MethodDefinition 4 (more (child (node Kind.PrivateIdentifier 5 (more (string (codes "a")) end))) (more (child (node Kind.FunctionExpression 6 (more absent (more (list end) (more (child (node Kind.BlockStatement 7 (more (list (trees (node Kind.ReturnStatement 8 (more (child (node Kind.Literal 9 (more (literal (literal_value.Number (codes "1"))) end))) end) ∷ []))) end))) (more (boolean false) (more (boolean false) end))))))) (more (string (codes "get")) (more (boolean false) (more (boolean false) end))))) ∷ node Kind.MethodDefinition 10 (more (child (node Kind.PrivateIdentifier 11 (more (string (codes "a")) end))) (more (child (node Kind.FunctionExpression 12 (more absent (more (list (trees (node Kind.BindingIdentifier 13 (more (string (codes "w")) end) ∷ []))) (more (child (node Kind.BlockStatement 14 (more (list end) end))) (more (boolean false) (more (boolean false) end))))))) (more (string (codes "set")) (more (boolean false) (more (boolean false) end))))) ∷ node Kind.MethodDefinition 15 (more (child (node Kind.IdentifierName 16 (more (string (codes "m")) end))) (more (child (node Kind.FunctionExpression 17 (more absent (more (list end) (more (child (node Kind.BlockStatement 18 (more (list (trees (node Kind.VariableDeclaration 19 (more (string (codes "let")) (more (list (trees (node Kind.VariableDeclarator 20 (more (child (node Kind.BindingIdentifier 21 (more (string (codes "v")) end))) (more absent end)) ∷ []))) end)) ∷ node Kind.ExpressionStatement 22 (more (child (node Kind.AssignmentExpression 23 (more (string (codes "=")) (more (child (node Kind.IdentifierReference 24 (more (string (codes "v")) end))) (more (child (node Kind.AssignmentExpression 25 (more (string (codes "+=")) (more (child (node Kind.PrivateField 26 (more (child (node Kind.ThisExpression 27 end)) (more (child (node Kind.PrivateIdentifier 28 (more (string (codes "a")) end))) (more (boolean false) (more (boolean false) end)))))) (more (child (node Kind.Literal 29 (more (literal (literal_value.Number (codes "1"))) end))) end))))) end))))) (more no_string end)) ∷ []))) end))) (more (boolean false) (more (boolean false) end))))))) (more (string (codes "method")) (more (boolean false) (more (boolean false) end))))) ∷ []))) end))) end))) ∷ []))) end))

-- the value of a write that is the result of the setter, where `var _C_brand = new WeakSet(); class C { constructor() { B.classPrivateMethodInitSpec(this, _C_brand); } m() { let v; v = B.toSetter(_set_a.bind(B.assertClassBrand(_C_brand, this)))._ = _get_a.call(B.assertClassBrand(_C_brand, this)) + 1; } } function _get_a() { return 1; } function _set_a(w) {}` is right
abbrev pub output_result_of_the_setter : Tree
output_result_of_the_setter = node Kind.Program 0 (more (string (codes "script")) (more (list (trees (node Kind.VariableDeclaration 30 (more (string (codes "var")) (more (list (trees (node Kind.VariableDeclarator 31 (more (child (node Kind.BindingIdentifier 32 (more (string (codes "_C_brand")) end))) (more (child (node Kind.NewExpression 33 (more (child (node Kind.IdentifierReference 34 (more (string (codes "WeakSet")) end))) (more (list end) end)))) end)) ∷ []))) end)) ∷ node Kind.ClassDeclaration 1 (more (child (node Kind.BindingIdentifier 2 (more (string (codes "C")) end))) (more absent (more (child (node Kind.ClassBody 3 (more (list (trees (node Kind.MethodDefinition 35 (more (child (node Kind.IdentifierName 36 (more (string (codes "constructor")) end))) (more (child (node Kind.FunctionExpression 37 (more absent (more (list end) (more (child (node Kind.BlockStatement 38 (more (list (trees (node Kind.ExpressionStatement 39 (more (child (node Kind.CallExpression 40 (more (child (node Kind.MemberExpression 41 (more (child (node Kind.IdentifierReference 42 (more (string (codes "babelHelpers")) end))) (more (child (node Kind.IdentifierName 43 (more (string (codes "classPrivateMethodInitSpec")) end))) (more (boolean false) (more (boolean false) end)))))) (more (list (trees (node Kind.ThisExpression 44 end ∷ node Kind.IdentifierReference 45 (more (string (codes "_C_brand")) end) ∷ []))) (more (boolean false) end))))) (more no_string end)) ∷ []))) end))) (more (boolean false) (more (boolean false) end))))))) (more (string (codes "constructor")) (more (boolean false) (more (boolean false) end))))) ∷ node Kind.MethodDefinition 15 (more (child (node Kind.IdentifierName 16 (more (string (codes "m")) end))) (more (child (node Kind.FunctionExpression 17 (more absent (more (list end) (more (child (node Kind.BlockStatement 18 (more (list (trees (node Kind.VariableDeclaration 19 (more (string (codes "let")) (more (list (trees (node Kind.VariableDeclarator 20 (more (child (node Kind.BindingIdentifier 21 (more (string (codes "v")) end))) (more absent end)) ∷ []))) end)) ∷ node Kind.ExpressionStatement 22 (more (child (node Kind.AssignmentExpression 23 (more (string (codes "=")) (more (child (node Kind.IdentifierReference 24 (more (string (codes "v")) end))) (more (child (node Kind.CallExpression 46 (more (child (node Kind.MemberExpression 47 (more (child (node Kind.IdentifierReference 48 (more (string (codes "_set_a")) end))) (more (child (node Kind.IdentifierName 49 (more (string (codes "call")) end))) (more (boolean false) (more (boolean false) end)))))) (more (list (trees (node Kind.CallExpression 50 (more (child (node Kind.MemberExpression 51 (more (child (node Kind.IdentifierReference 52 (more (string (codes "babelHelpers")) end))) (more (child (node Kind.IdentifierName 53 (more (string (codes "assertClassBrand")) end))) (more (boolean false) (more (boolean false) end)))))) (more (list (trees (node Kind.IdentifierReference 54 (more (string (codes "_C_brand")) end) ∷ node Kind.ThisExpression 55 end ∷ []))) (more (boolean false) end))) ∷ node Kind.BinaryExpression 25 (more (string (codes "+")) (more (child (node Kind.CallExpression 26 (more (child (node Kind.MemberExpression 56 (more (child (node Kind.IdentifierReference 57 (more (string (codes "_get_a")) end))) (more (child (node Kind.IdentifierName 58 (more (string (codes "call")) end))) (more (boolean false) (more (boolean false) end)))))) (more (list (trees (node Kind.CallExpression 59 (more (child (node Kind.MemberExpression 60 (more (child (node Kind.IdentifierReference 61 (more (string (codes "babelHelpers")) end))) (more (child (node Kind.IdentifierName 62 (more (string (codes "assertClassBrand")) end))) (more (boolean false) (more (boolean false) end)))))) (more (list (trees (node Kind.IdentifierReference 63 (more (string (codes "_C_brand")) end) ∷ node Kind.ThisExpression 64 end ∷ []))) (more (boolean false) end))) ∷ []))) (more (boolean false) end))))) (more (child (node Kind.Literal 29 (more (literal (literal_value.Number (codes "1"))) end))) end))) ∷ []))) (more (boolean false) end))))) end))))) (more no_string end)) ∷ []))) end))) (more (boolean false) (more (boolean false) end))))))) (more (string (codes "method")) (more (boolean false) (more (boolean false) end))))) ∷ []))) end))) end))) ∷ node Kind.FunctionDeclaration 6 (more (child (node Kind.BindingIdentifier 65 (more (string (codes "_get_a")) end))) (more (list end) (more (child (node Kind.BlockStatement 7 (more (list (trees (node Kind.ReturnStatement 8 (more (child (node Kind.Literal 9 (more (literal (literal_value.Number (codes "1"))) end))) end) ∷ []))) end))) (more (boolean false) (more (boolean false) end))))) ∷ node Kind.FunctionDeclaration 12 (more (child (node Kind.BindingIdentifier 66 (more (string (codes "_set_a")) end))) (more (list (trees (node Kind.BindingIdentifier 13 (more (string (codes "w")) end) ∷ []))) (more (child (node Kind.BlockStatement 14 (more (list end) end))) (more (boolean false) (more (boolean false) end))))) ∷ []))) end))

abbrev pub generated_result_of_the_setter : List LedgerEntry
generated_result_of_the_setter = record { name = codes "_C_brand"; kind = GeneratedKind.Brand (record { 0 = 1 }) } ∷ record { name = codes "_get_a"; kind = GeneratedKind.Method (record { 0 = 5 }) } ∷ record { name = codes "_set_a"; kind = GeneratedKind.Method (record { 0 = 11 }) } ∷ []

abbrev pub options_result_of_the_setter : Options
options_result_of_the_setter = options_of false (Some (record { loose = false })) false

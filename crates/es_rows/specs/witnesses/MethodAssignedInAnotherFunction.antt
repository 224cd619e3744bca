-- Printed by tools/rows/witnesses.js.
use Rattle.std.specs.Prelude.{ℕ, List, [], ◌∷◌, false, codes, Some}
use Rattle.es_base.specs.Tree.{Tree, end, more, child, absent, list, string, no_string, boolean, literal, trees}
use Rattle.es_base.specs.declared.kind.Kind.{Kind}
use Rattle.es_base.specs.declared.ledger.GeneratedKind.{GeneratedKind}
use Rattle.es_base.specs.declared.ledger.LedgerEntry.{LedgerEntry}
use Rattle.es_base.specs.declared.literal.LiteralValue.TheVariants as literal_value
use Rattle.es_steps.specs.Generated.{node}
use Rattle.es_steps.specs.Options.{options_of}
use Rattle.es_steps.specs.declared.options.Options.{Options}

-- `class C { #m() { return 1; } t(o) { return o.#m; } u() { f(); } }`
abbrev pub source_method_assigned_in_another_function : Tree
source_method_assigned_in_another_function = node Kind.Program 0 (more (string (codes "script")) (more (list (trees (node Kind.ClassDeclaration 1 (more (child (node Kind.BindingIdentifier 2 (more (string (codes "C")) end))) (more absent (more (child (node Kind.ClassBody 3 (more (list (trees (node Kind.MethodDefinition 4 (more (child (node Kind.PrivateIdentifier 5 (more (string (codes "m")) end))) (more (child (node Kind.FunctionExpression 6 (more absent (more (list end) (more (child (node Kind.BlockStatement 7 (more (list (trees (node Kind.ReturnStatement 8 (more (child (node Kind.Literal 9 (more (literal (literal_value.Number (codes "1"))) end))) end) ∷ []))) end))) (more (boolean false) (more (boolean false) end))))))) (more (string (codes "method")) (more (boolean false) (more (boolean false) end))))) ∷ node Kind.MethodDefinition 10 (more (child (node Kind.IdentifierName 11 (more (string (codes "t")) end))) (more (child (node Kind.FunctionExpression 12 (more absent (more (list (trees (node Kind.BindingIdentifier 13 (more (string (codes "o")) end) ∷ []))) (more (child (node Kind.BlockStatement 14 (more (list (trees (node Kind.ReturnStatement 15 (more (child (node Kind.PrivateField 16 (more (child (node Kind.IdentifierReference 17 (more (string (codes "o")) end))) (more (child (node Kind.PrivateIdentifier 18 (more (string (codes "m")) end))) (more (boolean false) (more (boolean false) end)))))) end) ∷ []))) end))) (more (boolean false) (more (boolean false) end))))))) (more (string (codes "method")) (more (boolean false) (more (boolean false) end))))) ∷ node Kind.MethodDefinition 19 (more (child (node Kind.IdentifierName 20 (more (string (codes "u")) end))) (more (child (node Kind.FunctionExpression 21 (more absent (more (list end) (more (child (node Kind.BlockStatement 22 (more (list (trees (node Kind.ExpressionStatement 23 (more (child (node Kind.CallExpression 24 (more (child (node Kind.IdentifierReference 25 (more (string (codes "f")) end))) (more (list end) (more (boolean false) end))))) (more no_string end)) ∷ []))) end))) (more (boolean false) (more (boolean false) end))))))) (more (string (codes "method")) (more (boolean false) (more (boolean false) end))))) ∷ []))) end))) end))) ∷ []))) end))

-- the function of a private method assigned in another method, where `var _C_brand = new WeakSet(); class C { constructor() { B.classPrivateMethodInitSpec(this, _C_brand); } t(o) { return B.assertClassBrand(_C_brand, o, _m); } u() { f(); } } function _m() { return 1; }` is right
abbrev pub output_method_assigned_in_another_function : Tree
output_method_assigned_in_another_function = node Kind.Program 0 (more (string (codes "script")) (more (list (trees (node Kind.VariableDeclaration 26 (more (string (codes "var")) (more (list (trees (node Kind.VariableDeclarator 27 (more (child (node Kind.BindingIdentifier 28 (more (string (codes "_m")) end))) (more absent end)) ∷ []))) end)) ∷ node Kind.VariableDeclaration 29 (more (string (codes "var")) (more (list (trees (node Kind.VariableDeclarator 30 (more (child (node Kind.BindingIdentifier 31 (more (string (codes "_C_brand")) end))) (more (child (node Kind.NewExpression 32 (more (child (node Kind.IdentifierReference 33 (more (string (codes "WeakSet")) end))) (more (list end) end)))) end)) ∷ []))) end)) ∷ node Kind.ClassDeclaration 1 (more (child (node Kind.BindingIdentifier 2 (more (string (codes "C")) end))) (more absent (more (child (node Kind.ClassBody 3 (more (list (trees (node Kind.MethodDefinition 34 (more (child (node Kind.IdentifierName 35 (more (string (codes "constructor")) end))) (more (child (node Kind.FunctionExpression 36 (more absent (more (list end) (more (child (node Kind.BlockStatement 37 (more (list (trees (node Kind.ExpressionStatement 38 (more (child (node Kind.CallExpression 39 (more (child (node Kind.MemberExpression 40 (more (child (node Kind.IdentifierReference 41 (more (string (codes "babelHelpers")) end))) (more (child (node Kind.IdentifierName 42 (more (string (codes "classPrivateMethodInitSpec")) end))) (more (boolean false) (more (boolean false) end)))))) (more (list (trees (node Kind.ThisExpression 43 end ∷ node Kind.IdentifierReference 44 (more (string (codes "_C_brand")) end) ∷ []))) (more (boolean false) end))))) (more no_string end)) ∷ []))) end))) (more (boolean false) (more (boolean false) end))))))) (more (string (codes "constructor")) (more (boolean false) (more (boolean false) end))))) ∷ node Kind.MethodDefinition 10 (more (child (node Kind.IdentifierName 11 (more (string (codes "t")) end))) (more (child (node Kind.FunctionExpression 12 (more absent (more (list (trees (node Kind.BindingIdentifier 13 (more (string (codes "o")) end) ∷ []))) (more (child (node Kind.BlockStatement 14 (more (list (trees (node Kind.ReturnStatement 15 (more (child (node Kind.CallExpression 16 (more (child (node Kind.MemberExpression 45 (more (child (node Kind.IdentifierReference 46 (more (string (codes "babelHelpers")) end))) (more (child (node Kind.IdentifierName 47 (more (string (codes "assertClassBrand")) end))) (more (boolean false) (more (boolean false) end)))))) (more (list (trees (node Kind.IdentifierReference 48 (more (string (codes "_C_brand")) end) ∷ node Kind.IdentifierReference 17 (more (string (codes "o")) end) ∷ node Kind.IdentifierReference 49 (more (string (codes "_m")) end) ∷ []))) (more (boolean false) end))))) end) ∷ []))) end))) (more (boolean false) (more (boolean false) end))))))) (more (string (codes "method")) (more (boolean false) (more (boolean false) end))))) ∷ node Kind.MethodDefinition 19 (more (child (node Kind.IdentifierName 20 (more (string (codes "u")) end))) (more (child (node Kind.FunctionExpression 21 (more absent (more (list end) (more (child (node Kind.BlockStatement 22 (more (list (trees (node Kind.ExpressionStatement 50 (more (child (node Kind.AssignmentExpression 51 (more (string (codes "=")) (more (child (node Kind.IdentifierReference 52 (more (string (codes "_m")) end))) (more (child (node Kind.FunctionExpression 6 (more absent (more (list end) (more (child (node Kind.BlockStatement 7 (more (list (trees (node Kind.ReturnStatement 8 (more (child (node Kind.Literal 9 (more (literal (literal_value.Number (codes "1"))) end))) end) ∷ []))) end))) (more (boolean false) (more (boolean false) end))))))) end))))) (more no_string end)) ∷ node Kind.ExpressionStatement 23 (more (child (node Kind.CallExpression 24 (more (child (node Kind.IdentifierReference 25 (more (string (codes "f")) end))) (more (list end) (more (boolean false) end))))) (more no_string end)) ∷ []))) end))) (more (boolean false) (more (boolean false) end))))))) (more (string (codes "method")) (more (boolean false) (more (boolean false) end))))) ∷ []))) end))) end))) ∷ []))) end))

abbrev pub generated_method_assigned_in_another_function : List LedgerEntry
generated_method_assigned_in_another_function = record { name = codes "_C_brand"; kind = GeneratedKind.Brand (record { 0 = 1 }) } ∷ record { name = codes "_m"; kind = GeneratedKind.Method (record { 0 = 5 }) } ∷ []

abbrev pub options_method_assigned_in_another_function : Options
options_method_assigned_in_another_function = options_of false (Some (record { loose = false })) false

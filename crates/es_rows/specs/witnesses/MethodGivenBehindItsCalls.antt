-- Printed by tools/rows/witnesses.js.
use Rattle.std.specs.Prelude.{ℕ, List, [], ◌∷◌, false, codes, Some}
use Rattle.es_base.specs.Tree.{Tree, end, more, child, absent, list, string, no_string, boolean, trees}
use Rattle.es_base.specs.declared.kind.Kind.{Kind}
use Rattle.es_base.specs.declared.ledger.GeneratedKind.{GeneratedKind}
use Rattle.es_base.specs.declared.ledger.LedgerEntry.{LedgerEntry}
use Rattle.es_steps.specs.Generated.{node}
use Rattle.es_steps.specs.Options.{options_of}
use Rattle.es_steps.specs.declared.options.Options.{Options}

-- `f(class { #m() {} t() { return this.#m; } });`
abbrev pub source_method_given_behind_its_calls : Tree
source_method_given_behind_its_calls = node Kind.Program 0 (more (string (codes "script")) (more (list (trees (node Kind.ExpressionStatement 1 (more (child (node Kind.CallExpression 2 (more (child (node Kind.IdentifierReference 3 (more (string (codes "f")) end))) (more (list (trees (node Kind.ClassExpression 4 (more absent (more absent (more (child (node Kind.ClassBody 5 (more (list (trees (node Kind.MethodDefinition 6 (more (child (node Kind.PrivateIdentifier 7 (more (string (codes "m")) end))) (more (child (node Kind.FunctionExpression 8 (more absent (more (list end) (more (child (node Kind.BlockStatement 9 (more (list end) end))) (more (boolean false) (more (boolean false) end))))))) (more (string (codes "method")) (more (boolean false) (more (boolean false) end))))) ∷ node Kind.MethodDefinition 10 (more (child (node Kind.IdentifierName 11 (more (string (codes "t")) end))) (more (child (node Kind.FunctionExpression 12 (more absent (more (list end) (more (child (node Kind.BlockStatement 13 (more (list (trees (node Kind.ReturnStatement 14 (more (child (node Kind.PrivateField 15 (more (child (node Kind.ThisExpression 16 end)) (more (child (node Kind.PrivateIdentifier 17 (more (string (codes "m")) end))) (more (boolean false) (more (boolean false) end)))))) end) ∷ []))) end))) (more (boolean false) (more (boolean false) end))))))) (more (string (codes "method")) (more (boolean false) (more (boolean false) end))))) ∷ []))) end))) end))) ∷ []))) (more (boolean false) end))))) (more no_string end)) ∷ []))) end))

-- the function of a private method given behind a call that reaches it, where `var _Class_brand; f((_Class_brand = new WeakSet(), class { constructor() { B.classPrivateMethodInitSpec(this, _Class_brand); } t() { return B.assertClassBrand(_Class_brand, this, _m); } })); function _m() {}` is right
abbrev pub output_method_given_behind_its_calls : Tree
output_method_given_behind_its_calls = node Kind.Program 0 (more (string (codes "script")) (more (list (trees (node Kind.VariableDeclaration 18 (more (string (codes "var")) (more (list (trees (node Kind.VariableDeclarator 19 (more (child (node Kind.BindingIdentifier 20 (more (string (codes "_m")) end))) (more absent end)) ∷ []))) end)) ∷ node Kind.VariableDeclaration 21 (more (string (codes "var")) (more (list (trees (node Kind.VariableDeclarator 22 (more (child (node Kind.BindingIdentifier 23 (more (string (codes "_Class_brand")) end))) (more absent end)) ∷ []))) end)) ∷ node Kind.ExpressionStatement 1 (more (child (node Kind.CallExpression 2 (more (child (node Kind.IdentifierReference 3 (more (string (codes "f")) end))) (more (list (trees (node Kind.SequenceExpression 24 (more (list (trees (node Kind.AssignmentExpression 25 (more (string (codes "=")) (more (child (node Kind.IdentifierReference 26 (more (string (codes "_Class_brand")) end))) (more (child (node Kind.NewExpression 27 (more (child (node Kind.IdentifierReference 28 (more (string (codes "WeakSet")) end))) (more (list end) end)))) end))) ∷ node Kind.ClassExpression 4 (more absent (more absent (more (child (node Kind.ClassBody 5 (more (list (trees (node Kind.MethodDefinition 29 (more (child (node Kind.IdentifierName 30 (more (string (codes "constructor")) end))) (more (child (node Kind.FunctionExpression 31 (more absent (more (list end) (more (child (node Kind.BlockStatement 32 (more (list (trees (node Kind.ExpressionStatement 33 (more (child (node Kind.CallExpression 34 (more (child (node Kind.MemberExpression 35 (more (child (node Kind.IdentifierReference 36 (more (string (codes "babelHelpers")) end))) (more (child (node Kind.IdentifierName 37 (more (string (codes "classPrivateMethodInitSpec")) end))) (more (boolean false) (more (boolean false) end)))))) (more (list (trees (node Kind.ThisExpression 38 end ∷ node Kind.IdentifierReference 39 (more (string (codes "_Class_brand")) end) ∷ []))) (more (boolean false) end))))) (more no_string end)) ∷ []))) end))) (more (boolean false) (more (boolean false) end))))))) (more (string (codes "constructor")) (more (boolean false) (more (boolean false) end))))) ∷ node Kind.MethodDefinition 10 (more (child (node Kind.IdentifierName 11 (more (string (codes "t")) end))) (more (child (node Kind.FunctionExpression 12 (more absent (more (list end) (more (child (node Kind.BlockStatement 13 (more (list (trees (node Kind.ReturnStatement 14 (more (child (node Kind.CallExpression 15 (more (child (node Kind.MemberExpression 40 (more (child (node Kind.IdentifierReference 41 (more (string (codes "babelHelpers")) end))) (more (child (node Kind.IdentifierName 42 (more (string (codes "assertClassBrand")) end))) (more (boolean false) (more (boolean false) end)))))) (more (list (trees (node Kind.IdentifierReference 43 (more (string (codes "_Class_brand")) end) ∷ node Kind.ThisExpression 16 end ∷ node Kind.IdentifierReference 44 (more (string (codes "_m")) end) ∷ []))) (more (boolean false) end))))) end) ∷ []))) end))) (more (boolean false) (more (boolean false) end))))))) (more (string (codes "method")) (more (boolean false) (more (boolean false) end))))) ∷ []))) end))) end))) ∷ []))) end) ∷ []))) (more (boolean false) end))))) (more no_string end)) ∷ node Kind.ExpressionStatement 45 (more (child (node Kind.AssignmentExpression 46 (more (string (codes "=")) (more (child (node Kind.IdentifierReference 47 (more (string (codes "_m")) end))) (more (child (node Kind.FunctionExpression 8 (more absent (more (list end) (more (child (node Kind.BlockStatement 9 (more (list end) end))) (more (boolean false) (more (boolean false) end))))))) end))))) (more no_string end)) ∷ []))) end))

abbrev pub generated_method_given_behind_its_calls : List LedgerEntry
generated_method_given_behind_its_calls = record { name = codes "_Class_brand"; kind = GeneratedKind.Brand (record { 0 = 4 }) } ∷ record { name = codes "_m"; kind = GeneratedKind.Method (record { 0 = 7 }) } ∷ []

abbrev pub options_method_given_behind_its_calls : Options
options_method_given_behind_its_calls = options_of false (Some (record { loose = false })) false

-- Printed by tools/rows/witnesses.js.
use Rattle.std.specs.Prelude.{ℕ, List, [], ◌∷◌, true, false, codes, Some}
use Rattle.es_base.specs.Tree.{Tree, end, more, child, absent, list, string, no_string, boolean, literal, trees}
use Rattle.es_base.specs.declared.kind.Kind.{Kind}
use Rattle.es_base.specs.declared.ledger.GeneratedKind.{GeneratedKind}
use Rattle.es_base.specs.declared.ledger.LedgerEntry.{LedgerEntry}
use Rattle.es_base.specs.declared.literal.LiteralValue.TheVariants as literal_value
use Rattle.es_steps.specs.Generated.{node}
use Rattle.es_steps.specs.Options.{options_of}
use Rattle.es_steps.specs.declared.options.Options.{Options}

-- `x = class { [k(() => o().#g)]() {} get #g() { return 1; } };`
abbrev pub source_accessor_given_behind_a_key : Tree
source_accessor_given_behind_a_key = node Kind.Program 0 (more (string (codes "script")) (more (list (trees (node Kind.ExpressionStatement 1 (more (child (node Kind.AssignmentExpression 2 (more (string (codes "=")) (more (child (node Kind.IdentifierReference 3 (more (string (codes "x")) end))) (more (child (node Kind.ClassExpression 4 (more absent (more absent (more (child (node Kind.ClassBody 5 (more (list (trees (node Kind.MethodDefinition 6 (more (child (node Kind.CallExpression 7 (more (child (node Kind.IdentifierReference 8 (more (string (codes "k")) end))) (more (list (trees (node Kind.ArrowFunctionExpression 9 (more (list end) (more (child (node Kind.PrivateField 10 (more (child (node Kind.CallExpression 11 (more (child (node Kind.IdentifierReference 12 (more (string (codes "o")) end))) (more (list end) (more (boolean false) end))))) (more (child (node Kind.PrivateIdentifier 13 (more (string (codes "g")) end))) (more (boolean false) (more (boolean false) end)))))) (more (boolean false) end))) ∷ []))) (more (boolean false) end))))) (more (child (node Kind.FunctionExpression 14 (more absent (more (list end) (more (child (node Kind.BlockStatement 15 (more (list end) end))) (more (boolean false) (more (boolean false) end))))))) (more (string (codes "method")) (more (boolean true) (more (boolean false) end))))) ∷ node Kind.MethodDefinition 16 (more (child (node Kind.PrivateIdentifier 17 (more (string (codes "g")) end))) (more (child (node Kind.FunctionExpression 18 (more absent (more (list end) (more (child (node Kind.BlockStatement 19 (more (list (trees (node Kind.ReturnStatement 20 (more (child (node Kind.Literal 21 (more (literal (literal_value.Number (codes "1"))) end))) end) ∷ []))) end))) (more (boolean false) (more (boolean false) end))))))) (more (string (codes "get")) (more (boolean false) (more (boolean false) end))))) ∷ []))) end))) end))))) end))))) (more no_string end)) ∷ []))) end))

-- the function of a private getter, given behind a key that has given a function away which calls it: `var _k, _g, _brand = new WeakSet(); x = (_k = k(() => _g.call(B.assertClassBrand(_brand, o()))), _g = function () { return 1; }, class { [_k]() {} constructor() { B.classPrivateMethodInitSpec(this, _brand); } });`
abbrev pub output_accessor_given_behind_a_key : Tree
output_accessor_given_behind_a_key = node Kind.Program 0 (more (string (codes "script")) (more (list (trees (node Kind.VariableDeclaration 22 (more (string (codes "var")) (more (list (trees (node Kind.VariableDeclarator 23 (more (child (node Kind.BindingIdentifier 24 (more (string (codes "_k")) end))) (more absent end)) ∷ node Kind.VariableDeclarator 25 (more (child (node Kind.BindingIdentifier 26 (more (string (codes "_g")) end))) (more absent end)) ∷ node Kind.VariableDeclarator 27 (more (child (node Kind.BindingIdentifier 28 (more (string (codes "_brand")) end))) (more (child (node Kind.NewExpression 29 (more (child (node Kind.IdentifierReference 30 (more (string (codes "WeakSet")) end))) (more (list end) end)))) end)) ∷ []))) end)) ∷ node Kind.ExpressionStatement 1 (more (child (node Kind.AssignmentExpression 2 (more (string (codes "=")) (more (child (node Kind.IdentifierReference 3 (more (string (codes "x")) end))) (more (child (node Kind.SequenceExpression 31 (more (list (trees (node Kind.AssignmentExpression 32 (more (string (codes "=")) (more (child (node Kind.IdentifierReference 33 (more (string (codes "_k")) end))) (more (child (node Kind.CallExpression 7 (more (child (node Kind.IdentifierReference 8 (more (string (codes "k")) end))) (more (list (trees (node Kind.ArrowFunctionExpression 9 (more (list end) (more (child (node Kind.CallExpression 10 (more (child (node Kind.MemberExpression 34 (more (child (node Kind.IdentifierReference 35 (more (string (codes "_g")) end))) (more (child (node Kind.IdentifierName 36 (more (string (codes "call")) end))) (more (boolean false) (more (boolean false) end)))))) (more (list (trees (node Kind.CallExpression 37 (more (child (node Kind.MemberExpression 38 (more (child (node Kind.IdentifierReference 39 (more (string (codes "babelHelpers")) end))) (more (child (node Kind.IdentifierName 40 (more (string (codes "assertClassBrand")) end))) (more (boolean false) (more (boolean false) end)))))) (more (list (trees (node Kind.IdentifierReference 41 (more (string (codes "_brand")) end) ∷ node Kind.CallExpression 11 (more (child (node Kind.IdentifierReference 12 (more (string (codes "o")) end))) (more (list end) (more (boolean false) end))) ∷ []))) (more (boolean false) end))) ∷ []))) (more (boolean false) end))))) (more (boolean false) end))) ∷ []))) (more (boolean false) end))))) end))) ∷ node Kind.AssignmentExpression 42 (more (string (codes "=")) (more (child (node Kind.IdentifierReference 43 (more (string (codes "_g")) end))) (more (child (node Kind.FunctionExpression 18 (more absent (more (list end) (more (child (node Kind.BlockStatement 19 (more (list (trees (node Kind.ReturnStatement 20 (more (child (node Kind.Literal 21 (more (literal (literal_value.Number (codes "1"))) end))) end) ∷ []))) end))) (more (boolean false) (more (boolean false) end))))))) end))) ∷ node Kind.ClassExpression 4 (more absent (more absent (more (child (node Kind.ClassBody 5 (more (list (trees (node Kind.MethodDefinition 6 (more (child (node Kind.IdentifierReference 44 (more (string (codes "_k")) end))) (more (child (node Kind.FunctionExpression 14 (more absent (more (list end) (more (child (node Kind.BlockStatement 15 (more (list end) end))) (more (boolean false) (more (boolean false) end))))))) (more (string (codes "method")) (more (boolean true) (more (boolean false) end))))) ∷ node Kind.MethodDefinition 45 (more (child (node Kind.IdentifierName 46 (more (string (codes "constructor")) end))) (more (child (node Kind.FunctionExpression 47 (more absent (more (list end) (more (child (node Kind.BlockStatement 48 (more (list (trees (node Kind.ExpressionStatement 49 (more (child (node Kind.CallExpression 50 (more (child (node Kind.MemberExpression 51 (more (child (node Kind.IdentifierReference 52 (more (string (codes "babelHelpers")) end))) (more (child (node Kind.IdentifierName 53 (more (string (codes "classPrivateMethodInitSpec")) end))) (more (boolean false) (more (boolean false) end)))))) (more (list (trees (node Kind.ThisExpression 54 end ∷ node Kind.IdentifierReference 55 (more (string (codes "_brand")) end) ∷ []))) (more (boolean false) end))))) (more no_string end)) ∷ []))) end))) (more (boolean false) (more (boolean false) end))))))) (more (string (codes "constructor")) (more (boolean false) (more (boolean false) end))))) ∷ []))) end))) end))) ∷ []))) end))) end))))) (more no_string end)) ∷ []))) end))

abbrev pub generated_accessor_given_behind_a_key : List LedgerEntry
generated_accessor_given_behind_a_key = record { name = codes "_brand"; kind = GeneratedKind.Brand (record { 0 = 4 }) } ∷ record { name = codes "_k"; kind = GeneratedKind.Temp } ∷ record { name = codes "_g"; kind = GeneratedKind.Method (record { 0 = 17 }) } ∷ []

abbrev pub options_accessor_given_behind_a_key : Options
options_accessor_given_behind_a_key = options_of false (Some (record { loose = false })) false

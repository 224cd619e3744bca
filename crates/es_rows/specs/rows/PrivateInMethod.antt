-- Printed by tools/rows/number-rows.js from `private_in_method` of tools/rows/rows.json: a worked row with its numbers.
use Rattle.std.specs.Prelude.{ℕ, List, [], ◌∷◌, true, false, codes, Some}
use Rattle.es_base.specs.Tree.{Tree, end, more, child, absent, list, string, no_string, boolean, trees}
use Rattle.es_base.specs.declared.kind.Kind.{Kind}
use Rattle.es_base.specs.declared.ledger.GeneratedKind.{GeneratedKind}
use Rattle.es_base.specs.declared.ledger.LedgerEntry.{LedgerEntry}
use Rattle.es_steps.specs.Generated.{node}
use Rattle.es_steps.specs.Options.{options_of}
use Rattle.es_steps.specs.declared.options.Options.{Options}

-- `class A { #m() {} static h(o) { return #m in o; } }`
abbrev pub source_private_in_method : Tree
source_private_in_method = node Kind.Program 0 (more (string (codes "script")) (more (list (trees (node Kind.ClassDeclaration 1 (more (child (node Kind.BindingIdentifier 2 (more (string (codes "A")) end))) (more absent (more (child (node Kind.ClassBody 3 (more (list (trees (node Kind.MethodDefinition 4 (more (child (node Kind.PrivateIdentifier 5 (more (string (codes "m")) end))) (more (child (node Kind.FunctionExpression 6 (more absent (more (list end) (more (child (node Kind.BlockStatement 7 (more (list end) end))) (more (boolean false) (more (boolean false) end))))))) (more (string (codes "method")) (more (boolean false) (more (boolean false) end))))) ∷ node Kind.MethodDefinition 8 (more (child (node Kind.IdentifierName 9 (more (string (codes "h")) end))) (more (child (node Kind.FunctionExpression 10 (more absent (more (list (trees (node Kind.BindingIdentifier 11 (more (string (codes "o")) end) ∷ []))) (more (child (node Kind.BlockStatement 12 (more (list (trees (node Kind.ReturnStatement 13 (more (child (node Kind.PrivateIn 14 (more (string (codes "in")) (more (child (node Kind.PrivateIdentifier 15 (more (string (codes "m")) end))) (more (child (node Kind.IdentifierReference 16 (more (string (codes "o")) end))) end))))) end) ∷ []))) end))) (more (boolean false) (more (boolean false) end))))))) (more (string (codes "method")) (more (boolean false) (more (boolean true) end))))) ∷ []))) end))) end))) ∷ []))) end))

-- the number of its nodes
abbrev pub nodes_private_in_method : ℕ
nodes_private_in_method = 17

-- `var _A_brand = new WeakSet(); class A { constructor() { B.classPrivateMethodInitSpec(this, _A_brand); } static h(o) { return _A_brand.has(B.checkInRHS(o)); } } function _m() {}`
abbrev pub output_private_in_method : Tree
output_private_in_method = node Kind.Program 0 (more (string (codes "script")) (more (list (trees (node Kind.VariableDeclaration 17 (more (string (codes "var")) (more (list (trees (node Kind.VariableDeclarator 18 (more (child (node Kind.BindingIdentifier 19 (more (string (codes "_A_brand")) end))) (more (child (node Kind.NewExpression 20 (more (child (node Kind.IdentifierReference 21 (more (string (codes "WeakSet")) end))) (more (list end) end)))) end)) ∷ []))) end)) ∷ node Kind.ClassDeclaration 1 (more (child (node Kind.BindingIdentifier 2 (more (string (codes "A")) end))) (more absent (more (child (node Kind.ClassBody 3 (more (list (trees (node Kind.MethodDefinition 22 (more (child (node Kind.IdentifierName 23 (more (string (codes "constructor")) end))) (more (child (node Kind.FunctionExpression 24 (more absent (more (list end) (more (child (node Kind.BlockStatement 25 (more (list (trees (node Kind.ExpressionStatement 26 (more (child (node Kind.CallExpression 27 (more (child (node Kind.MemberExpression 28 (more (child (node Kind.IdentifierReference 29 (more (string (codes "babelHelpers")) end))) (more (child (node Kind.IdentifierName 30 (more (string (codes "classPrivateMethodInitSpec")) end))) (more (boolean false) (more (boolean false) end)))))) (more (list (trees (node Kind.ThisExpression 31 end ∷ node Kind.IdentifierReference 32 (more (string (codes "_A_brand")) end) ∷ []))) (more (boolean false) end))))) (more no_string end)) ∷ []))) end))) (more (boolean false) (more (boolean false) end))))))) (more (string (codes "constructor")) (more (boolean false) (more (boolean false) end))))) ∷ node Kind.MethodDefinition 8 (more (child (node Kind.IdentifierName 9 (more (string (codes "h")) end))) (more (child (node Kind.FunctionExpression 10 (more absent (more (list (trees (node Kind.BindingIdentifier 11 (more (string (codes "o")) end) ∷ []))) (more (child (node Kind.BlockStatement 12 (more (list (trees (node Kind.ReturnStatement 13 (more (child (node Kind.CallExpression 14 (more (child (node Kind.MemberExpression 33 (more (child (node Kind.IdentifierReference 34 (more (string (codes "_A_brand")) end))) (more (child (node Kind.IdentifierName 35 (more (string (codes "has")) end))) (more (boolean false) (more (boolean false) end)))))) (more (list (trees (node Kind.CallExpression 36 (more (child (node Kind.MemberExpression 37 (more (child (node Kind.IdentifierReference 38 (more (string (codes "babelHelpers")) end))) (more (child (node Kind.IdentifierName 39 (more (string (codes "checkInRHS")) end))) (more (boolean false) (more (boolean false) end)))))) (more (list (trees (node Kind.IdentifierReference 16 (more (string (codes "o")) end) ∷ []))) (more (boolean false) end))) ∷ []))) (more (boolean false) end))))) end) ∷ []))) end))) (more (boolean false) (more (boolean false) end))))))) (more (string (codes "method")) (more (boolean false) (more (boolean true) end))))) ∷ []))) end))) end))) ∷ node Kind.FunctionDeclaration 6 (more (child (node Kind.BindingIdentifier 40 (more (string (codes "_m")) end))) (more (list end) (more (child (node Kind.BlockStatement 7 (more (list end) end))) (more (boolean false) (more (boolean false) end))))) ∷ []))) end))

abbrev pub generated_private_in_method : List LedgerEntry
generated_private_in_method = record { name = codes "_A_brand"; kind = GeneratedKind.Brand (record { 0 = 1 }) } ∷ record { name = codes "_m"; kind = GeneratedKind.Method (record { 0 = 5 }) } ∷ []

-- the numbers of its shapes
abbrev pub outside_private_in_method : List ℕ
outside_private_in_method = []

abbrev pub options_private_in_method : Options
options_private_in_method = options_of false (Some (record { loose = false })) false

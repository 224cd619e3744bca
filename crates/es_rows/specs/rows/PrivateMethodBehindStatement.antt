-- Printed by tools/rows/number-rows.js from `private_method_behind_statement` of tools/rows/forms.json: a worked row with its numbers.
use Rattle.std.specs.Prelude.{ℕ, List, [], ◌∷◌, false, codes, Some}
use Rattle.es_base.specs.Tree.{Tree, end, more, child, absent, list, string, no_string, boolean, trees}
use Rattle.es_base.specs.declared.kind.Kind.{Kind}
use Rattle.es_base.specs.declared.ledger.GeneratedKind.{GeneratedKind}
use Rattle.es_base.specs.declared.ledger.LedgerEntry.{LedgerEntry}
use Rattle.es_steps.specs.Generated.{node}
use Rattle.es_steps.specs.Options.{options_of}
use Rattle.es_steps.specs.declared.options.Options.{Options}

-- `let D = class { #m() {} };`
abbrev pub source_private_method_behind_statement : Tree
source_private_method_behind_statement = node Kind.Program 0 (more (string (codes "script")) (more (list (trees (node Kind.VariableDeclaration 1 (more (string (codes "let")) (more (list (trees (node Kind.VariableDeclarator 2 (more (child (node Kind.BindingIdentifier 3 (more (string (codes "D")) end))) (more (child (node Kind.ClassExpression 4 (more absent (more absent (more (child (node Kind.ClassBody 5 (more (list (trees (node Kind.MethodDefinition 6 (more (child (node Kind.PrivateIdentifier 7 (more (string (codes "m")) end))) (more (child (node Kind.FunctionExpression 8 (more absent (more (list end) (more (child (node Kind.BlockStatement 9 (more (list end) end))) (more (boolean false) (more (boolean false) end))))))) (more (string (codes "method")) (more (boolean false) (more (boolean false) end))))) ∷ []))) end))) end))))) end)) ∷ []))) end)) ∷ []))) end))

-- the number of its nodes
abbrev pub nodes_private_method_behind_statement : ℕ
nodes_private_method_behind_statement = 10

-- `var _Class_brand; let D = (_Class_brand = new WeakSet(), class { constructor() { B.classPrivateMethodInitSpec(this, _Class_brand); } }); function _m() {}`
abbrev pub output_private_method_behind_statement : Tree
output_private_method_behind_statement = node Kind.Program 0 (more (string (codes "script")) (more (list (trees (node Kind.VariableDeclaration 10 (more (string (codes "var")) (more (list (trees (node Kind.VariableDeclarator 11 (more (child (node Kind.BindingIdentifier 12 (more (string (codes "_Class_brand")) end))) (more absent end)) ∷ []))) end)) ∷ node Kind.VariableDeclaration 1 (more (string (codes "let")) (more (list (trees (node Kind.VariableDeclarator 2 (more (child (node Kind.BindingIdentifier 3 (more (string (codes "D")) end))) (more (child (node Kind.SequenceExpression 13 (more (list (trees (node Kind.AssignmentExpression 14 (more (string (codes "=")) (more (child (node Kind.IdentifierReference 15 (more (string (codes "_Class_brand")) end))) (more (child (node Kind.NewExpression 16 (more (child (node Kind.IdentifierReference 17 (more (string (codes "WeakSet")) end))) (more (list end) end)))) end))) ∷ node Kind.ClassExpression 4 (more absent (more absent (more (child (node Kind.ClassBody 5 (more (list (trees (node Kind.MethodDefinition 18 (more (child (node Kind.IdentifierName 19 (more (string (codes "constructor")) end))) (more (child (node Kind.FunctionExpression 20 (more absent (more (list end) (more (child (node Kind.BlockStatement 21 (more (list (trees (node Kind.ExpressionStatement 22 (more (child (node Kind.CallExpression 23 (more (child (node Kind.MemberExpression 24 (more (child (node Kind.IdentifierReference 25 (more (string (codes "babelHelpers")) end))) (more (child (node Kind.IdentifierName 26 (more (string (codes "classPrivateMethodInitSpec")) end))) (more (boolean false) (more (boolean false) end)))))) (more (list (trees (node Kind.ThisExpression 27 end ∷ node Kind.IdentifierReference 28 (more (string (codes "_Class_brand")) end) ∷ []))) (more (boolean false) end))))) (more no_string end)) ∷ []))) end))) (more (boolean false) (more (boolean false) end))))))) (more (string (codes "constructor")) (more (boolean false) (more (boolean false) end))))) ∷ []))) end))) end))) ∷ []))) end))) end)) ∷ []))) end)) ∷ node Kind.FunctionDeclaration 8 (more (child (node Kind.BindingIdentifier 29 (more (string (codes "_m")) end))) (more (list end) (more (child (node Kind.BlockStatement 9 (more (list end) end))) (more (boolean false) (more (boolean false) end))))) ∷ []))) end))

abbrev pub generated_private_method_behind_statement : List LedgerEntry
generated_private_method_behind_statement = record { name = codes "_Class_brand"; kind = GeneratedKind.Brand (record { 0 = 4 }) } ∷ record { name = codes "_m"; kind = GeneratedKind.Method (record { 0 = 7 }) } ∷ []

-- the numbers of its shapes
abbrev pub outside_private_method_behind_statement : List ℕ
outside_private_method_behind_statement = []

abbrev pub options_private_method_behind_statement : Options
options_private_method_behind_statement = options_of false (Some (record { loose = false })) false

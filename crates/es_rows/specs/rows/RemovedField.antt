-- Printed by tools/rows/number-rows.js from `removed_field` of tools/rows/rows.json: a worked row with its numbers.
use Rattle.std.specs.Prelude.{ℕ, List, [], ◌∷◌, true, false, codes, Some}
use Rattle.es_base.specs.Tree.{Tree, end, more, child, absent, list, string, no_string, boolean, literal, trees}
use Rattle.es_base.specs.declared.kind.Kind.{Kind}
use Rattle.es_base.specs.declared.ledger.GeneratedKind.{GeneratedKind}
use Rattle.es_base.specs.declared.ledger.LedgerEntry.{LedgerEntry}
use Rattle.es_base.specs.declared.literal.LiteralValue.TheVariants as literal_value
use Rattle.es_steps.specs.Generated.{node}
use Rattle.es_steps.specs.Options.{options_of}
use Rattle.es_steps.specs.declared.options.Options.{Options}

-- `class C { [k()] = 1; [k()]; }`
abbrev pub source_removed_field : Tree
source_removed_field = node Kind.Program 0 (more (string (codes "script")) (more (list (trees (node Kind.ClassDeclaration 1 (more (child (node Kind.BindingIdentifier 2 (more (string (codes "C")) end))) (more absent (more (child (node Kind.ClassBody 3 (more (list (trees (node Kind.PropertyDefinition 4 (more (child (node Kind.CallExpression 5 (more (child (node Kind.IdentifierReference 6 (more (string (codes "k")) end))) (more (list end) (more (boolean false) end))))) (more (child (node Kind.Literal 7 (more (literal (literal_value.Number (codes "1"))) end))) (more (boolean true) (more (boolean false) end)))) ∷ node Kind.PropertyDefinition 8 (more (child (node Kind.CallExpression 9 (more (child (node Kind.IdentifierReference 10 (more (string (codes "k")) end))) (more (list end) (more (boolean false) end))))) (more absent (more (boolean true) (more (boolean false) end)))) ∷ []))) end))) end))) ∷ []))) end))

-- the number of its nodes
abbrev pub nodes_removed_field : ℕ
nodes_removed_field = 11

-- `let _k; _k = k(); k(); class C { constructor() { this[_k] = 1; } }`
abbrev pub output_removed_field : Tree
output_removed_field = node Kind.Program 0 (more (string (codes "script")) (more (list (trees (node Kind.VariableDeclaration 11 (more (string (codes "let")) (more (list (trees (node Kind.VariableDeclarator 12 (more (child (node Kind.BindingIdentifier 13 (more (string (codes "_k")) end))) (more absent end)) ∷ []))) end)) ∷ node Kind.ExpressionStatement 14 (more (child (node Kind.AssignmentExpression 15 (more (string (codes "=")) (more (child (node Kind.IdentifierReference 16 (more (string (codes "_k")) end))) (more (child (node Kind.CallExpression 5 (more (child (node Kind.IdentifierReference 6 (more (string (codes "k")) end))) (more (list end) (more (boolean false) end))))) end))))) (more no_string end)) ∷ node Kind.ExpressionStatement 17 (more (child (node Kind.CallExpression 9 (more (child (node Kind.IdentifierReference 10 (more (string (codes "k")) end))) (more (list end) (more (boolean false) end))))) (more no_string end)) ∷ node Kind.ClassDeclaration 1 (more (child (node Kind.BindingIdentifier 2 (more (string (codes "C")) end))) (more absent (more (child (node Kind.ClassBody 3 (more (list (trees (node Kind.MethodDefinition 18 (more (child (node Kind.IdentifierName 19 (more (string (codes "constructor")) end))) (more (child (node Kind.FunctionExpression 20 (more absent (more (list end) (more (child (node Kind.BlockStatement 21 (more (list (trees (node Kind.ExpressionStatement 22 (more (child (node Kind.AssignmentExpression 23 (more (string (codes "=")) (more (child (node Kind.MemberExpression 24 (more (child (node Kind.ThisExpression 25 end)) (more (child (node Kind.IdentifierReference 26 (more (string (codes "_k")) end))) (more (boolean true) (more (boolean false) end)))))) (more (child (node Kind.Literal 7 (more (literal (literal_value.Number (codes "1"))) end))) end))))) (more no_string end)) ∷ []))) end))) (more (boolean false) (more (boolean false) end))))))) (more (string (codes "constructor")) (more (boolean false) (more (boolean false) end))))) ∷ []))) end))) end))) ∷ []))) end))

abbrev pub generated_removed_field : List LedgerEntry
generated_removed_field = record { name = codes "_k"; kind = GeneratedKind.Temp } ∷ []

-- the numbers of its shapes
abbrev pub outside_removed_field : List ℕ
outside_removed_field = []

abbrev pub options_removed_field : Options
options_removed_field = options_of false (Some (record { loose = true })) true

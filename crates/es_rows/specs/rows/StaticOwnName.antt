-- Printed by tools/rows/number-rows.js from `static_own_name` of tools/rows/rows.json: a worked row with its numbers.
use Rattle.std.specs.Prelude.{ℕ, List, [], ◌∷◌, true, false, codes, Some, None}
use Rattle.es_base.specs.Tree.{Tree, end, more, child, absent, list, string, no_string, boolean, literal, trees}
use Rattle.es_base.specs.declared.kind.Kind.{Kind}
use Rattle.es_base.specs.declared.ledger.GeneratedKind.{GeneratedKind}
use Rattle.es_base.specs.declared.ledger.LedgerEntry.{LedgerEntry}
use Rattle.es_base.specs.declared.literal.LiteralValue.TheVariants as literal_value
use Rattle.es_steps.specs.Generated.{node}
use Rattle.es_steps.specs.Options.{options_of}
use Rattle.es_steps.specs.declared.options.Options.{Options}

-- `class C { static x = C; }`
abbrev pub source_static_own_name : Tree
source_static_own_name = node Kind.Program 0 (more (string (codes "script")) (more (list (trees (node Kind.ClassDeclaration 1 (more (child (node Kind.BindingIdentifier 2 (more (string (codes "C")) end))) (more absent (more (child (node Kind.ClassBody 3 (more (list (trees (node Kind.PropertyDefinition 4 (more (child (node Kind.IdentifierName 5 (more (string (codes "x")) end))) (more (child (node Kind.IdentifierReference 6 (more (string (codes "C")) end))) (more (boolean false) (more (boolean true) end)))) ∷ []))) end))) end))) ∷ []))) end))

-- the number of its nodes
abbrev pub nodes_static_own_name : ℕ
nodes_static_own_name = 7

-- `var _C; class C {} _C = C; B.defineProperty(C, "x", _C);`
abbrev pub output_static_own_name : Tree
output_static_own_name = node Kind.Program 0 (more (string (codes "script")) (more (list (trees (node Kind.VariableDeclaration 7 (more (string (codes "var")) (more (list (trees (node Kind.VariableDeclarator 8 (more (child (node Kind.BindingIdentifier 9 (more (string (codes "_C")) end))) (more absent end)) ∷ []))) end)) ∷ node Kind.ClassDeclaration 1 (more (child (node Kind.BindingIdentifier 2 (more (string (codes "C")) end))) (more absent (more (child (node Kind.ClassBody 3 (more (list end) end))) end))) ∷ node Kind.ExpressionStatement 10 (more (child (node Kind.AssignmentExpression 11 (more (string (codes "=")) (more (child (node Kind.IdentifierReference 12 (more (string (codes "_C")) end))) (more (child (node Kind.IdentifierReference 13 (more (string (codes "C")) end))) end))))) (more no_string end)) ∷ node Kind.ExpressionStatement 14 (more (child (node Kind.CallExpression 15 (more (child (node Kind.MemberExpression 16 (more (child (node Kind.IdentifierReference 17 (more (string (codes "babelHelpers")) end))) (more (child (node Kind.IdentifierName 18 (more (string (codes "defineProperty")) end))) (more (boolean false) (more (boolean false) end)))))) (more (list (trees (node Kind.IdentifierReference 19 (more (string (codes "C")) end) ∷ node Kind.Literal 20 (more (literal (literal_value.String (codes "x") None)) end) ∷ node Kind.IdentifierReference 6 (more (string (codes "_C")) end) ∷ []))) (more (boolean false) end))))) (more no_string end)) ∷ []))) end))

abbrev pub generated_static_own_name : List LedgerEntry
generated_static_own_name = record { name = codes "_C"; kind = GeneratedKind.ClassTemp (record { 0 = 1 }) } ∷ []

-- the numbers of its shapes
abbrev pub outside_static_own_name : List ℕ
outside_static_own_name = []

abbrev pub options_static_own_name : Options
options_static_own_name = options_of false (Some (record { loose = false })) false

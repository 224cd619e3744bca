-- Printed by tools/rows/number-rows.js from `static_super_member` of tools/rows/rows.json: a worked row with its numbers.
use Rattle.std.specs.Prelude.{ℕ, List, [], ◌∷◌, true, false, codes, Some, None}
use Rattle.es_base.specs.Tree.{Tree, end, more, child, absent, list, string, no_string, boolean, literal, trees}
use Rattle.es_base.specs.declared.kind.Kind.{Kind}
use Rattle.es_base.specs.declared.ledger.GeneratedKind.{GeneratedKind}
use Rattle.es_base.specs.declared.ledger.LedgerEntry.{LedgerEntry}
use Rattle.es_base.specs.declared.literal.LiteralValue.TheVariants as literal_value
use Rattle.es_steps.specs.Generated.{node}
use Rattle.es_steps.specs.Options.{options_of}
use Rattle.es_steps.specs.declared.options.Options.{Options}

-- `class A extends P { static x = super.p; }`
abbrev pub source_static_super_member : Tree
source_static_super_member = node Kind.Program 0 (more (string (codes "script")) (more (list (trees (node Kind.ClassDeclaration 1 (more (child (node Kind.BindingIdentifier 2 (more (string (codes "A")) end))) (more (child (node Kind.IdentifierReference 3 (more (string (codes "P")) end))) (more (child (node Kind.ClassBody 4 (more (list (trees (node Kind.PropertyDefinition 5 (more (child (node Kind.IdentifierName 6 (more (string (codes "x")) end))) (more (child (node Kind.MemberExpression 7 (more (child (node Kind.Super 8 end)) (more (child (node Kind.IdentifierName 9 (more (string (codes "p")) end))) (more (boolean false) (more (boolean false) end)))))) (more (boolean false) (more (boolean true) end)))) ∷ []))) end))) end))) ∷ []))) end))

-- the number of its nodes
abbrev pub nodes_static_super_member : ℕ
nodes_static_super_member = 10

-- `var _A; class A extends P {} _A = A; B.defineProperty(A, "x", B.superPropGet(_A, "p", _A));`
abbrev pub output_static_super_member : Tree
output_static_super_member = node Kind.Program 0 (more (string (codes "script")) (more (list (trees (node Kind.VariableDeclaration 10 (more (string (codes "var")) (more (list (trees (node Kind.VariableDeclarator 11 (more (child (node Kind.BindingIdentifier 12 (more (string (codes "_A")) end))) (more absent end)) ∷ []))) end)) ∷ node Kind.ClassDeclaration 1 (more (child (node Kind.BindingIdentifier 2 (more (string (codes "A")) end))) (more (child (node Kind.IdentifierReference 3 (more (string (codes "P")) end))) (more (child (node Kind.ClassBody 4 (more (list end) end))) end))) ∷ node Kind.ExpressionStatement 13 (more (child (node Kind.AssignmentExpression 14 (more (string (codes "=")) (more (child (node Kind.IdentifierReference 15 (more (string (codes "_A")) end))) (more (child (node Kind.IdentifierReference 16 (more (string (codes "A")) end))) end))))) (more no_string end)) ∷ node Kind.ExpressionStatement 17 (more (child (node Kind.CallExpression 18 (more (child (node Kind.MemberExpression 19 (more (child (node Kind.IdentifierReference 20 (more (string (codes "babelHelpers")) end))) (more (child (node Kind.IdentifierName 21 (more (string (codes "defineProperty")) end))) (more (boolean false) (more (boolean false) end)))))) (more (list (trees (node Kind.IdentifierReference 22 (more (string (codes "A")) end) ∷ node Kind.Literal 23 (more (literal (literal_value.String (codes "x") None)) end) ∷ node Kind.CallExpression 7 (more (child (node Kind.MemberExpression 24 (more (child (node Kind.IdentifierReference 25 (more (string (codes "babelHelpers")) end))) (more (child (node Kind.IdentifierName 26 (more (string (codes "superPropGet")) end))) (more (boolean false) (more (boolean false) end)))))) (more (list (trees (node Kind.IdentifierReference 27 (more (string (codes "_A")) end) ∷ node Kind.Literal 28 (more (literal (literal_value.String (codes "p") None)) end) ∷ node Kind.IdentifierReference 29 (more (string (codes "_A")) end) ∷ []))) (more (boolean false) end))) ∷ []))) (more (boolean false) end))))) (more no_string end)) ∷ []))) end))

abbrev pub generated_static_super_member : List LedgerEntry
generated_static_super_member = record { name = codes "_A"; kind = GeneratedKind.ClassTemp (record { 0 = 1 }) } ∷ []

-- the numbers of its shapes
abbrev pub outside_static_super_member : List ℕ
outside_static_super_member = []

abbrev pub options_static_super_member : Options
options_static_super_member = options_of false (Some (record { loose = false })) false

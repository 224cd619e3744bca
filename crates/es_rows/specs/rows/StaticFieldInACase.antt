-- Printed by tools/rows/number-rows.js from `static_field_in_a_case` of tools/rows/forms.json: a worked row with its numbers.
use Rattle.std.specs.Prelude.{ℕ, List, [], ◌∷◌, true, false, codes, Some, None}
use Rattle.es_base.specs.Tree.{Tree, end, more, child, absent, list, string, no_string, boolean, literal, trees}
use Rattle.es_base.specs.declared.kind.Kind.{Kind}
use Rattle.es_base.specs.declared.ledger.GeneratedKind.{GeneratedKind}
use Rattle.es_base.specs.declared.ledger.LedgerEntry.{LedgerEntry}
use Rattle.es_base.specs.declared.literal.LiteralValue.TheVariants as literal_value
use Rattle.es_steps.specs.Generated.{node}
use Rattle.es_steps.specs.Options.{options_of}
use Rattle.es_steps.specs.declared.options.Options.{Options}

-- `switch (f()) { case 1: class A { static x = this; } break; case 2: g(); }`
abbrev pub source_static_field_in_a_case : Tree
source_static_field_in_a_case = node Kind.Program 0 (more (string (codes "script")) (more (list (trees (node Kind.SwitchStatement 1 (more (child (node Kind.CallExpression 2 (more (child (node Kind.IdentifierReference 3 (more (string (codes "f")) end))) (more (list end) (more (boolean false) end))))) (more (list (trees (node Kind.SwitchCase 4 (more (child (node Kind.Literal 5 (more (literal (literal_value.Number (codes "1"))) end))) (more (list (trees (node Kind.ClassDeclaration 6 (more (child (node Kind.BindingIdentifier 7 (more (string (codes "A")) end))) (more absent (more (child (node Kind.ClassBody 8 (more (list (trees (node Kind.PropertyDefinition 9 (more (child (node Kind.IdentifierName 10 (more (string (codes "x")) end))) (more (child (node Kind.ThisExpression 11 end)) (more (boolean false) (more (boolean true) end)))) ∷ []))) end))) end))) ∷ node Kind.BreakStatement 12 (more absent end) ∷ []))) end)) ∷ node Kind.SwitchCase 13 (more (child (node Kind.Literal 14 (more (literal (literal_value.Number (codes "2"))) end))) (more (list (trees (node Kind.ExpressionStatement 15 (more (child (node Kind.CallExpression 16 (more (child (node Kind.IdentifierReference 17 (more (string (codes "g")) end))) (more (list end) (more (boolean false) end))))) (more no_string end)) ∷ []))) end)) ∷ []))) end)) ∷ []))) end))

-- the number of its nodes
abbrev pub nodes_static_field_in_a_case : ℕ
nodes_static_field_in_a_case = 18

-- `var _A; switch (f()) { case 1: class A {} _A = A; B.defineProperty(A, "x", _A); break; case 2: g(); }`
abbrev pub output_static_field_in_a_case : Tree
output_static_field_in_a_case = node Kind.Program 0 (more (string (codes "script")) (more (list (trees (node Kind.VariableDeclaration 18 (more (string (codes "var")) (more (list (trees (node Kind.VariableDeclarator 19 (more (child (node Kind.BindingIdentifier 20 (more (string (codes "_A")) end))) (more absent end)) ∷ []))) end)) ∷ node Kind.SwitchStatement 1 (more (child (node Kind.CallExpression 2 (more (child (node Kind.IdentifierReference 3 (more (string (codes "f")) end))) (more (list end) (more (boolean false) end))))) (more (list (trees (node Kind.SwitchCase 4 (more (child (node Kind.Literal 5 (more (literal (literal_value.Number (codes "1"))) end))) (more (list (trees (node Kind.ClassDeclaration 6 (more (child (node Kind.BindingIdentifier 7 (more (string (codes "A")) end))) (more absent (more (child (node Kind.ClassBody 8 (more (list end) end))) end))) ∷ node Kind.ExpressionStatement 21 (more (child (node Kind.AssignmentExpression 22 (more (string (codes "=")) (more (child (node Kind.IdentifierReference 23 (more (string (codes "_A")) end))) (more (child (node Kind.IdentifierReference 24 (more (string (codes "A")) end))) end))))) (more no_string end)) ∷ node Kind.ExpressionStatement 25 (more (child (node Kind.CallExpression 26 (more (child (node Kind.MemberExpression 27 (more (child (node Kind.IdentifierReference 28 (more (string (codes "babelHelpers")) end))) (more (child (node Kind.IdentifierName 29 (more (string (codes "defineProperty")) end))) (more (boolean false) (more (boolean false) end)))))) (more (list (trees (node Kind.IdentifierReference 30 (more (string (codes "A")) end) ∷ node Kind.Literal 31 (more (literal (literal_value.String (codes "x") None)) end) ∷ node Kind.IdentifierReference 11 (more (string (codes "_A")) end) ∷ []))) (more (boolean false) end))))) (more no_string end)) ∷ node Kind.BreakStatement 12 (more absent end) ∷ []))) end)) ∷ node Kind.SwitchCase 13 (more (child (node Kind.Literal 14 (more (literal (literal_value.Number (codes "2"))) end))) (more (list (trees (node Kind.ExpressionStatement 15 (more (child (node Kind.CallExpression 16 (more (child (node Kind.IdentifierReference 17 (more (string (codes "g")) end))) (more (list end) (more (boolean false) end))))) (more no_string end)) ∷ []))) end)) ∷ []))) end)) ∷ []))) end))

abbrev pub generated_static_field_in_a_case : List LedgerEntry
generated_static_field_in_a_case = record { name = codes "_A"; kind = GeneratedKind.ClassTemp (record { 0 = 6 }) } ∷ []

-- the numbers of its shapes
abbrev pub outside_static_field_in_a_case : List ℕ
outside_static_field_in_a_case = []

abbrev pub options_static_field_in_a_case : Options
options_static_field_in_a_case = options_of false (Some (record { loose = false })) false

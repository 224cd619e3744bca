-- Printed by tools/rows/witnesses.js.
use Rattle.std.specs.Prelude.{ℕ, List, [], ◌∷◌, true, false, codes, Some, None}
use Rattle.es_base.specs.Tree.{Tree, end, more, child, absent, list, string, no_string, boolean, literal, trees}
use Rattle.es_base.specs.declared.kind.Kind.{Kind}
use Rattle.es_base.specs.declared.ledger.GeneratedKind.{GeneratedKind}
use Rattle.es_base.specs.declared.ledger.LedgerEntry.{LedgerEntry}
use Rattle.es_base.specs.declared.literal.LiteralValue.TheVariants as literal_value
use Rattle.es_steps.specs.Generated.{node}
use Rattle.es_steps.specs.Options.{options_of}
use Rattle.es_steps.specs.declared.options.Options.{Options}

-- `g((x = 1, class { [h()]() {} static z = x = 2; }));`
abbrev pub source_assignments_of_a_name_exchanged : Tree
source_assignments_of_a_name_exchanged = node Kind.Program 0 (more (string (codes "script")) (more (list (trees (node Kind.ExpressionStatement 1 (more (child (node Kind.CallExpression 2 (more (child (node Kind.IdentifierReference 3 (more (string (codes "g")) end))) (more (list (trees (node Kind.SequenceExpression 4 (more (list (trees (node Kind.AssignmentExpression 5 (more (string (codes "=")) (more (child (node Kind.IdentifierReference 6 (more (string (codes "x")) end))) (more (child (node Kind.Literal 7 (more (literal (literal_value.Number (codes "1"))) end))) end))) ∷ node Kind.ClassExpression 8 (more absent (more absent (more (child (node Kind.ClassBody 9 (more (list (trees (node Kind.MethodDefinition 10 (more (child (node Kind.CallExpression 11 (more (child (node Kind.IdentifierReference 12 (more (string (codes "h")) end))) (more (list end) (more (boolean false) end))))) (more (child (node Kind.FunctionExpression 13 (more absent (more (list end) (more (child (node Kind.BlockStatement 14 (more (list end) end))) (more (boolean false) (more (boolean false) end))))))) (more (string (codes "method")) (more (boolean true) (more (boolean false) end))))) ∷ node Kind.PropertyDefinition 15 (more (child (node Kind.IdentifierName 16 (more (string (codes "z")) end))) (more (child (node Kind.AssignmentExpression 17 (more (string (codes "=")) (more (child (node Kind.IdentifierReference 18 (more (string (codes "x")) end))) (more (child (node Kind.Literal 19 (more (literal (literal_value.Number (codes "2"))) end))) end))))) (more (boolean false) (more (boolean true) end)))) ∷ []))) end))) end))) ∷ []))) end) ∷ []))) (more (boolean false) end))))) (more no_string end)) ∷ []))) end))

-- two assignments to a name, exchanged, one of which becomes strict: `var _C; g((_C = class { [(x = 1, h())]() {} }, B.defineProperty(_C, "z", x = 2), _C));`
abbrev pub output_assignments_of_a_name_exchanged : Tree
output_assignments_of_a_name_exchanged = node Kind.Program 0 (more (string (codes "script")) (more (list (trees (node Kind.VariableDeclaration 20 (more (string (codes "var")) (more (list (trees (node Kind.VariableDeclarator 21 (more (child (node Kind.BindingIdentifier 22 (more (string (codes "_C")) end))) (more absent end)) ∷ []))) end)) ∷ node Kind.ExpressionStatement 1 (more (child (node Kind.CallExpression 2 (more (child (node Kind.IdentifierReference 3 (more (string (codes "g")) end))) (more (list (trees (node Kind.SequenceExpression 23 (more (list (trees (node Kind.AssignmentExpression 24 (more (string (codes "=")) (more (child (node Kind.IdentifierReference 25 (more (string (codes "_C")) end))) (more (child (node Kind.ClassExpression 8 (more absent (more absent (more (child (node Kind.ClassBody 9 (more (list (trees (node Kind.MethodDefinition 10 (more (child (node Kind.SequenceExpression 26 (more (list (trees (node Kind.AssignmentExpression 17 (more (string (codes "=")) (more (child (node Kind.IdentifierReference 18 (more (string (codes "x")) end))) (more (child (node Kind.Literal 27 (more (literal (literal_value.Number (codes "1"))) end))) end))) ∷ node Kind.CallExpression 11 (more (child (node Kind.IdentifierReference 12 (more (string (codes "h")) end))) (more (list end) (more (boolean false) end))) ∷ []))) end))) (more (child (node Kind.FunctionExpression 13 (more absent (more (list end) (more (child (node Kind.BlockStatement 14 (more (list end) end))) (more (boolean false) (more (boolean false) end))))))) (more (string (codes "method")) (more (boolean true) (more (boolean false) end))))) ∷ []))) end))) end))))) end))) ∷ node Kind.CallExpression 28 (more (child (node Kind.MemberExpression 29 (more (child (node Kind.IdentifierReference 30 (more (string (codes "babelHelpers")) end))) (more (child (node Kind.IdentifierName 31 (more (string (codes "defineProperty")) end))) (more (boolean false) (more (boolean false) end)))))) (more (list (trees (node Kind.IdentifierReference 32 (more (string (codes "_C")) end) ∷ node Kind.Literal 33 (more (literal (literal_value.String (codes "z") None)) end) ∷ node Kind.AssignmentExpression 5 (more (string (codes "=")) (more (child (node Kind.IdentifierReference 6 (more (string (codes "x")) end))) (more (child (node Kind.Literal 34 (more (literal (literal_value.Number (codes "2"))) end))) end))) ∷ []))) (more (boolean false) end))) ∷ node Kind.IdentifierReference 35 (more (string (codes "_C")) end) ∷ []))) end) ∷ []))) (more (boolean false) end))))) (more no_string end)) ∷ []))) end))

abbrev pub generated_assignments_of_a_name_exchanged : List LedgerEntry
generated_assignments_of_a_name_exchanged = record { name = codes "_C"; kind = GeneratedKind.ClassTemp (record { 0 = 8 }) } ∷ []

abbrev pub options_assignments_of_a_name_exchanged : Options
options_assignments_of_a_name_exchanged = options_of false (Some (record { loose = false })) false

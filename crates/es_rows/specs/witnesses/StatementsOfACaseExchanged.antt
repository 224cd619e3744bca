-- Printed by tools/rows/witnesses.js.
use Rattle.std.specs.Prelude.{ℕ, List, [], ◌∷◌, true, false, codes, Some, None}
use Rattle.es_base.specs.Tree.{Tree, end, more, child, absent, list, string, no_string, boolean, literal, trees}
use Rattle.es_base.specs.declared.kind.Kind.{Kind}
use Rattle.es_base.specs.declared.ledger.LedgerEntry.{LedgerEntry}
use Rattle.es_base.specs.declared.literal.LiteralValue.TheVariants as literal_value
use Rattle.es_steps.specs.Generated.{node}
use Rattle.es_steps.specs.Options.{options_of}
use Rattle.es_steps.specs.declared.options.Options.{Options}

-- `switch (f()) { case 1: class A { static x = 1; } g(); break; case 2: h(); k(); }`
abbrev pub source_statements_of_a_case_exchanged : Tree
source_statements_of_a_case_exchanged = node Kind.Program 0 (more (string (codes "script")) (more (list (trees (node Kind.SwitchStatement 1 (more (child (node Kind.CallExpression 2 (more (child (node Kind.IdentifierReference 3 (more (string (codes "f")) end))) (more (list end) (more (boolean false) end))))) (more (list (trees (node Kind.SwitchCase 4 (more (child (node Kind.Literal 5 (more (literal (literal_value.Number (codes "1"))) end))) (more (list (trees (node Kind.ClassDeclaration 6 (more (child (node Kind.BindingIdentifier 7 (more (string (codes "A")) end))) (more absent (more (child (node Kind.ClassBody 8 (more (list (trees (node Kind.PropertyDefinition 9 (more (child (node Kind.IdentifierName 10 (more (string (codes "x")) end))) (more (child (node Kind.Literal 11 (more (literal (literal_value.Number (codes "1"))) end))) (more (boolean false) (more (boolean true) end)))) ∷ []))) end))) end))) ∷ node Kind.ExpressionStatement 12 (more (child (node Kind.CallExpression 13 (more (child (node Kind.IdentifierReference 14 (more (string (codes "g")) end))) (more (list end) (more (boolean false) end))))) (more no_string end)) ∷ node Kind.BreakStatement 15 (more absent end) ∷ []))) end)) ∷ node Kind.SwitchCase 16 (more (child (node Kind.Literal 17 (more (literal (literal_value.Number (codes "2"))) end))) (more (list (trees (node Kind.ExpressionStatement 18 (more (child (node Kind.CallExpression 19 (more (child (node Kind.IdentifierReference 20 (more (string (codes "h")) end))) (more (list end) (more (boolean false) end))))) (more no_string end)) ∷ node Kind.ExpressionStatement 21 (more (child (node Kind.CallExpression 22 (more (child (node Kind.IdentifierReference 23 (more (string (codes "k")) end))) (more (list end) (more (boolean false) end))))) (more no_string end)) ∷ []))) end)) ∷ []))) end)) ∷ []))) end))

-- two statements of a case exchanged, where `switch (f()) { case 1: class A {} B.defineProperty(A, "x", 1); g(); break; case 2: h(); k(); }` is right
abbrev pub output_statements_of_a_case_exchanged : Tree
output_statements_of_a_case_exchanged = node Kind.Program 0 (more (string (codes "script")) (more (list (trees (node Kind.SwitchStatement 1 (more (child (node Kind.CallExpression 2 (more (child (node Kind.IdentifierReference 3 (more (string (codes "f")) end))) (more (list end) (more (boolean false) end))))) (more (list (trees (node Kind.SwitchCase 4 (more (child (node Kind.Literal 5 (more (literal (literal_value.Number (codes "1"))) end))) (more (list (trees (node Kind.ClassDeclaration 6 (more (child (node Kind.BindingIdentifier 7 (more (string (codes "A")) end))) (more absent (more (child (node Kind.ClassBody 8 (more (list end) end))) end))) ∷ node Kind.ExpressionStatement 24 (more (child (node Kind.CallExpression 25 (more (child (node Kind.MemberExpression 26 (more (child (node Kind.IdentifierReference 27 (more (string (codes "babelHelpers")) end))) (more (child (node Kind.IdentifierName 28 (more (string (codes "defineProperty")) end))) (more (boolean false) (more (boolean false) end)))))) (more (list (trees (node Kind.IdentifierReference 29 (more (string (codes "A")) end) ∷ node Kind.Literal 30 (more (literal (literal_value.String (codes "x") None)) end) ∷ node Kind.Literal 11 (more (literal (literal_value.Number (codes "1"))) end) ∷ []))) (more (boolean false) end))))) (more no_string end)) ∷ node Kind.BreakStatement 15 (more absent end) ∷ node Kind.ExpressionStatement 12 (more (child (node Kind.CallExpression 13 (more (child (node Kind.IdentifierReference 14 (more (string (codes "g")) end))) (more (list end) (more (boolean false) end))))) (more no_string end)) ∷ []))) end)) ∷ node Kind.SwitchCase 16 (more (child (node Kind.Literal 17 (more (literal (literal_value.Number (codes "2"))) end))) (more (list (trees (node Kind.ExpressionStatement 18 (more (child (node Kind.CallExpression 19 (more (child (node Kind.IdentifierReference 20 (more (string (codes "h")) end))) (more (list end) (more (boolean false) end))))) (more no_string end)) ∷ node Kind.ExpressionStatement 21 (more (child (node Kind.CallExpression 22 (more (child (node Kind.IdentifierReference 23 (more (string (codes "k")) end))) (more (list end) (more (boolean false) end))))) (more no_string end)) ∷ []))) end)) ∷ []))) end)) ∷ []))) end))

abbrev pub generated_statements_of_a_case_exchanged : List LedgerEntry
generated_statements_of_a_case_exchanged = []

abbrev pub options_statements_of_a_case_exchanged : Options
options_statements_of_a_case_exchanged = options_of false (Some (record { loose = false })) false

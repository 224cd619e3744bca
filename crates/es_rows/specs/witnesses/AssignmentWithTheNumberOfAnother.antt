-- Printed by tools/rows/witnesses.js.
use Rattle.std.specs.Prelude.{ℕ, List, [], ◌∷◌, true, false, codes, None}
use Rattle.es_base.specs.Tree.{Tree, end, more, child, absent, list, string, no_string, boolean, literal, trees}
use Rattle.es_base.specs.declared.kind.Kind.{Kind}
use Rattle.es_base.specs.declared.ledger.GeneratedKind.{GeneratedKind}
use Rattle.es_base.specs.declared.ledger.LedgerEntry.{LedgerEntry}
use Rattle.es_base.specs.declared.literal.LiteralValue.TheVariants as literal_value
use Rattle.es_steps.specs.Generated.{node}
use Rattle.es_steps.specs.Options.{options_of}
use Rattle.es_steps.specs.declared.options.Options.{Options}

-- `let o = 5; g((o.x = 1, class { static { f(1); } n() { o.x = 2; } }));`
abbrev pub source_assignment_with_the_number_of_another : Tree
source_assignment_with_the_number_of_another = node Kind.Program 0 (more (string (codes "script")) (more (list (trees (node Kind.VariableDeclaration 1 (more (string (codes "let")) (more (list (trees (node Kind.VariableDeclarator 2 (more (child (node Kind.BindingIdentifier 3 (more (string (codes "o")) end))) (more (child (node Kind.Literal 4 (more (literal (literal_value.Number (codes "5"))) end))) end)) ∷ []))) end)) ∷ node Kind.ExpressionStatement 5 (more (child (node Kind.CallExpression 6 (more (child (node Kind.IdentifierReference 7 (more (string (codes "g")) end))) (more (list (trees (node Kind.SequenceExpression 8 (more (list (trees (node Kind.AssignmentExpression 9 (more (string (codes "=")) (more (child (node Kind.MemberExpression 10 (more (child (node Kind.IdentifierReference 11 (more (string (codes "o")) end))) (more (child (node Kind.IdentifierName 12 (more (string (codes "x")) end))) (more (boolean false) (more (boolean false) end)))))) (more (child (node Kind.Literal 13 (more (literal (literal_value.Number (codes "1"))) end))) end))) ∷ node Kind.ClassExpression 14 (more absent (more absent (more (child (node Kind.ClassBody 15 (more (list (trees (node Kind.StaticBlock 16 (more (list (trees (node Kind.ExpressionStatement 17 (more (child (node Kind.CallExpression 18 (more (child (node Kind.IdentifierReference 19 (more (string (codes "f")) end))) (more (list (trees (node Kind.Literal 20 (more (literal (literal_value.Number (codes "1"))) end) ∷ []))) (more (boolean false) end))))) (more no_string end)) ∷ []))) end) ∷ node Kind.MethodDefinition 21 (more (child (node Kind.IdentifierName 22 (more (string (codes "n")) end))) (more (child (node Kind.FunctionExpression 23 (more absent (more (list end) (more (child (node Kind.BlockStatement 24 (more (list (trees (node Kind.ExpressionStatement 25 (more (child (node Kind.AssignmentExpression 26 (more (string (codes "=")) (more (child (node Kind.MemberExpression 27 (more (child (node Kind.IdentifierReference 28 (more (string (codes "o")) end))) (more (child (node Kind.IdentifierName 29 (more (string (codes "x")) end))) (more (boolean false) (more (boolean false) end)))))) (more (child (node Kind.Literal 30 (more (literal (literal_value.Number (codes "2"))) end))) end))))) (more no_string end)) ∷ []))) end))) (more (boolean false) (more (boolean false) end))))))) (more (string (codes "method")) (more (boolean false) (more (boolean false) end))))) ∷ []))) end))) end))) ∷ []))) end) ∷ []))) (more (boolean false) end))))) (more no_string end)) ∷ []))) end))

-- an assignment to a member that becomes strict, with the number of one in a method: `let o = 5; g(class { static #_ = (o.x = 1, f(1)); n() { o.x = 2; } });`
abbrev pub output_assignment_with_the_number_of_another : Tree
output_assignment_with_the_number_of_another = node Kind.Program 0 (more (string (codes "script")) (more (list (trees (node Kind.VariableDeclaration 1 (more (string (codes "let")) (more (list (trees (node Kind.VariableDeclarator 2 (more (child (node Kind.BindingIdentifier 3 (more (string (codes "o")) end))) (more (child (node Kind.Literal 4 (more (literal (literal_value.Number (codes "5"))) end))) end)) ∷ []))) end)) ∷ node Kind.ExpressionStatement 5 (more (child (node Kind.CallExpression 6 (more (child (node Kind.IdentifierReference 7 (more (string (codes "g")) end))) (more (list (trees (node Kind.ClassExpression 14 (more absent (more absent (more (child (node Kind.ClassBody 15 (more (list (trees (node Kind.PropertyDefinition 31 (more (child (node Kind.PrivateIdentifier 32 (more (string (codes "_")) end))) (more (child (node Kind.SequenceExpression 33 (more (list (trees (node Kind.AssignmentExpression 26 (more (string (codes "=")) (more (child (node Kind.MemberExpression 34 (more (child (node Kind.IdentifierReference 35 (more (string (codes "o")) end))) (more (child (node Kind.IdentifierName 36 (more (string (codes "x")) end))) (more (boolean false) (more (boolean false) end)))))) (more (child (node Kind.Literal 37 (more (literal (literal_value.Number (codes "1"))) end))) end))) ∷ node Kind.CallExpression 18 (more (child (node Kind.IdentifierReference 19 (more (string (codes "f")) end))) (more (list (trees (node Kind.Literal 20 (more (literal (literal_value.Number (codes "1"))) end) ∷ []))) (more (boolean false) end))) ∷ []))) end))) (more (boolean false) (more (boolean true) end)))) ∷ node Kind.MethodDefinition 21 (more (child (node Kind.IdentifierName 22 (more (string (codes "n")) end))) (more (child (node Kind.FunctionExpression 23 (more absent (more (list end) (more (child (node Kind.BlockStatement 24 (more (list (trees (node Kind.ExpressionStatement 25 (more (child (node Kind.AssignmentExpression 38 (more (string (codes "=")) (more (child (node Kind.MemberExpression 27 (more (child (node Kind.IdentifierReference 28 (more (string (codes "o")) end))) (more (child (node Kind.IdentifierName 29 (more (string (codes "x")) end))) (more (boolean false) (more (boolean false) end)))))) (more (child (node Kind.Literal 30 (more (literal (literal_value.Number (codes "2"))) end))) end))))) (more no_string end)) ∷ []))) end))) (more (boolean false) (more (boolean false) end))))))) (more (string (codes "method")) (more (boolean false) (more (boolean false) end))))) ∷ []))) end))) end))) ∷ []))) (more (boolean false) end))))) (more no_string end)) ∷ []))) end))

abbrev pub generated_assignment_with_the_number_of_another : List LedgerEntry
generated_assignment_with_the_number_of_another = record { name = codes "_"; kind = GeneratedKind.Private (record { 0 = 14 }) } ∷ []

abbrev pub options_assignment_with_the_number_of_another : Options
options_assignment_with_the_number_of_another = options_of true None false

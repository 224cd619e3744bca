-- Printed by tools/rows/witnesses.js.
use Rattle.std.specs.Prelude.{ℕ, List, [], ◌∷◌, true, false, codes, None}
use Rattle.es_base.specs.Tree.{Tree, end, more, child, absent, list, string, no_string, boolean, literal, trees}
use Rattle.es_base.specs.declared.kind.Kind.{Kind}
use Rattle.es_base.specs.declared.ledger.GeneratedKind.{GeneratedKind}
use Rattle.es_base.specs.declared.ledger.LedgerEntry.{LedgerEntry}
use Rattle.es_base.specs.declared.literal.LiteralValue.TheVariants as literal_value
use Rattle.es_steps.specs.Generated.{node}
use Rattle.es_steps.specs.Options.{options_of}
use Rattle.es_steps.specs.declared.options.Options.{Options}

-- `class P {} let o = k(); g((o.x = 1, class A extends P { static { h(1); } y = (o.x = 1); constructor() { return {}; } }));`
abbrev pub source_assignment_of_a_field_without_a_construction : Tree
source_assignment_of_a_field_without_a_construction = node Kind.Program 0 (more (string (codes "script")) (more (list (trees (node Kind.ClassDeclaration 1 (more (child (node Kind.BindingIdentifier 2 (more (string (codes "P")) end))) (more absent (more (child (node Kind.ClassBody 3 (more (list end) end))) end))) ∷ node Kind.VariableDeclaration 4 (more (string (codes "let")) (more (list (trees (node Kind.VariableDeclarator 5 (more (child (node Kind.BindingIdentifier 6 (more (string (codes "o")) end))) (more (child (node Kind.CallExpression 7 (more (child (node Kind.IdentifierReference 8 (more (string (codes "k")) end))) (more (list end) (more (boolean false) end))))) end)) ∷ []))) end)) ∷ node Kind.ExpressionStatement 9 (more (child (node Kind.CallExpression 10 (more (child (node Kind.IdentifierReference 11 (more (string (codes "g")) end))) (more (list (trees (node Kind.SequenceExpression 12 (more (list (trees (node Kind.AssignmentExpression 13 (more (string (codes "=")) (more (child (node Kind.MemberExpression 14 (more (child (node Kind.IdentifierReference 15 (more (string (codes "o")) end))) (more (child (node Kind.IdentifierName 16 (more (string (codes "x")) end))) (more (boolean false) (more (boolean false) end)))))) (more (child (node Kind.Literal 17 (more (literal (literal_value.Number (codes "1"))) end))) end))) ∷ node Kind.ClassExpression 18 (more (child (node Kind.BindingIdentifier 19 (more (string (codes "A")) end))) (more (child (node Kind.IdentifierReference 20 (more (string (codes "P")) end))) (more (child (node Kind.ClassBody 21 (more (list (trees (node Kind.StaticBlock 22 (more (list (trees (node Kind.ExpressionStatement 23 (more (child (node Kind.CallExpression 24 (more (child (node Kind.IdentifierReference 25 (more (string (codes "h")) end))) (more (list (trees (node Kind.Literal 26 (more (literal (literal_value.Number (codes "1"))) end) ∷ []))) (more (boolean false) end))))) (more no_string end)) ∷ []))) end) ∷ node Kind.PropertyDefinition 27 (more (child (node Kind.IdentifierName 28 (more (string (codes "y")) end))) (more (child (node Kind.AssignmentExpression 29 (more (string (codes "=")) (more (child (node Kind.MemberExpression 30 (more (child (node Kind.IdentifierReference 31 (more (string (codes "o")) end))) (more (child (node Kind.IdentifierName 32 (more (string (codes "x")) end))) (more (boolean false) (more (boolean false) end)))))) (more (child (node Kind.Literal 33 (more (literal (literal_value.Number (codes "1"))) end))) end))))) (more (boolean false) (more (boolean false) end)))) ∷ node Kind.MethodDefinition 34 (more (child (node Kind.IdentifierName 35 (more (string (codes "constructor")) end))) (more (child (node Kind.FunctionExpression 36 (more absent (more (list end) (more (child (node Kind.BlockStatement 37 (more (list (trees (node Kind.ReturnStatement 38 (more (child (node Kind.ObjectExpression 39 (more (list end) end))) end) ∷ []))) end))) (more (boolean false) (more (boolean false) end))))))) (more (string (codes "constructor")) (more (boolean false) (more (boolean false) end))))) ∷ []))) end))) end))) ∷ []))) end) ∷ []))) (more (boolean false) end))))) (more no_string end)) ∷ []))) end))

-- an assignment that becomes strict, with the numbers of one in a field that no construction defines: `class P {} let o = k(); g(class A extends P { static #_ = (o.x = 1, h(1)); y = 0; constructor() { return {}; } });`
abbrev pub output_assignment_of_a_field_without_a_construction : Tree
output_assignment_of_a_field_without_a_construction = node Kind.Program 0 (more (string (codes "script")) (more (list (trees (node Kind.ClassDeclaration 1 (more (child (node Kind.BindingIdentifier 2 (more (string (codes "P")) end))) (more absent (more (child (node Kind.ClassBody 3 (more (list end) end))) end))) ∷ node Kind.VariableDeclaration 4 (more (string (codes "let")) (more (list (trees (node Kind.VariableDeclarator 5 (more (child (node Kind.BindingIdentifier 6 (more (string (codes "o")) end))) (more (child (node Kind.CallExpression 7 (more (child (node Kind.IdentifierReference 8 (more (string (codes "k")) end))) (more (list end) (more (boolean false) end))))) end)) ∷ []))) end)) ∷ node Kind.ExpressionStatement 9 (more (child (node Kind.CallExpression 10 (more (child (node Kind.IdentifierReference 11 (more (string (codes "g")) end))) (more (list (trees (node Kind.ClassExpression 18 (more (child (node Kind.BindingIdentifier 19 (more (string (codes "A")) end))) (more (child (node Kind.IdentifierReference 20 (more (string (codes "P")) end))) (more (child (node Kind.ClassBody 21 (more (list (trees (node Kind.PropertyDefinition 40 (more (child (node Kind.PrivateIdentifier 41 (more (string (codes "_")) end))) (more (child (node Kind.SequenceExpression 42 (more (list (trees (node Kind.AssignmentExpression 29 (more (string (codes "=")) (more (child (node Kind.MemberExpression 30 (more (child (node Kind.IdentifierReference 31 (more (string (codes "o")) end))) (more (child (node Kind.IdentifierName 32 (more (string (codes "x")) end))) (more (boolean false) (more (boolean false) end)))))) (more (child (node Kind.Literal 33 (more (literal (literal_value.Number (codes "1"))) end))) end))) ∷ node Kind.CallExpression 24 (more (child (node Kind.IdentifierReference 25 (more (string (codes "h")) end))) (more (list (trees (node Kind.Literal 26 (more (literal (literal_value.Number (codes "1"))) end) ∷ []))) (more (boolean false) end))) ∷ []))) end))) (more (boolean false) (more (boolean true) end)))) ∷ node Kind.PropertyDefinition 27 (more (child (node Kind.IdentifierName 28 (more (string (codes "y")) end))) (more (child (node Kind.Literal 43 (more (literal (literal_value.Number (codes "0"))) end))) (more (boolean false) (more (boolean false) end)))) ∷ node Kind.MethodDefinition 34 (more (child (node Kind.IdentifierName 35 (more (string (codes "constructor")) end))) (more (child (node Kind.FunctionExpression 36 (more absent (more (list end) (more (child (node Kind.BlockStatement 37 (more (list (trees (node Kind.ReturnStatement 38 (more (child (node Kind.ObjectExpression 39 (more (list end) end))) end) ∷ []))) end))) (more (boolean false) (more (boolean false) end))))))) (more (string (codes "constructor")) (more (boolean false) (more (boolean false) end))))) ∷ []))) end))) end))) ∷ []))) (more (boolean false) end))))) (more no_string end)) ∷ []))) end))

abbrev pub generated_assignment_of_a_field_without_a_construction : List LedgerEntry
generated_assignment_of_a_field_without_a_construction = record { name = codes "_"; kind = GeneratedKind.Private (record { 0 = 18 }) } ∷ []

abbrev pub options_assignment_of_a_field_without_a_construction : Options
options_assignment_of_a_field_without_a_construction = options_of true None false

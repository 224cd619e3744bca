-- Printed by tools/rows/witnesses.js.
use Rattle.std.specs.Prelude.{ℕ, List, [], ◌∷◌, true, false, codes, Some, None}
use Rattle.es_base.specs.Tree.{Tree, end, more, child, absent, list, string, no_string, boolean, literal, trees}
use Rattle.es_base.specs.declared.kind.Kind.{Kind}
use Rattle.es_base.specs.declared.ledger.GeneratedKind.{GeneratedKind}
use Rattle.es_base.specs.declared.ledger.LedgerEntry.{LedgerEntry}
use Rattle.es_base.specs.declared.literal.LiteralValue.TheVariants as literal_value
use Rattle.es_steps.specs.Generated.{node}
use Rattle.es_steps.specs.Options.{options_of}
use Rattle.es_steps.specs.declared.options.Options.{Options}

-- `function* G() { yield g; let x = 7; yield; function g() { class A extends P { static { super.s += 2, x; } } } }`
abbrev pub source_name_in_front_of_a_write_behind_a_sum : Tree
source_name_in_front_of_a_write_behind_a_sum = node Kind.Program 0 (more (string (codes "script")) (more (list (trees (node Kind.FunctionDeclaration 1 (more (child (node Kind.BindingIdentifier 2 (more (string (codes "G")) end))) (more (list end) (more (child (node Kind.BlockStatement 3 (more (list (trees (node Kind.ExpressionStatement 4 (more (child (node Kind.YieldExpression 5 (more (child (node Kind.IdentifierReference 6 (more (string (codes "g")) end))) (more (boolean false) end)))) (more no_string end)) ∷ node Kind.VariableDeclaration 7 (more (string (codes "let")) (more (list (trees (node Kind.VariableDeclarator 8 (more (child (node Kind.BindingIdentifier 9 (more (string (codes "x")) end))) (more (child (node Kind.Literal 10 (more (literal (literal_value.Number (codes "7"))) end))) end)) ∷ []))) end)) ∷ node Kind.ExpressionStatement 11 (more (child (node Kind.YieldExpression 12 (more absent (more (boolean false) end)))) (more no_string end)) ∷ node Kind.FunctionDeclaration 13 (more (child (node Kind.BindingIdentifier 14 (more (string (codes "g")) end))) (more (list end) (more (child (node Kind.BlockStatement 15 (more (list (trees (node Kind.ClassDeclaration 16 (more (child (node Kind.BindingIdentifier 17 (more (string (codes "A")) end))) (more (child (node Kind.IdentifierReference 18 (more (string (codes "P")) end))) (more (child (node Kind.ClassBody 19 (more (list (trees (node Kind.StaticBlock 20 (more (list (trees (node Kind.ExpressionStatement 21 (more (child (node Kind.SequenceExpression 22 (more (list (trees (node Kind.AssignmentExpression 23 (more (string (codes "+=")) (more (child (node Kind.MemberExpression 24 (more (child (node Kind.Super 25 end)) (more (child (node Kind.IdentifierName 26 (more (string (codes "s")) end))) (more (boolean false) (more (boolean false) end)))))) (more (child (node Kind.Literal 27 (more (literal (literal_value.Number (codes "2"))) end))) end))) ∷ node Kind.IdentifierReference 28 (more (string (codes "x")) end) ∷ []))) end))) (more no_string end)) ∷ []))) end) ∷ []))) end))) end))) ∷ []))) end))) (more (boolean false) (more (boolean false) end))))) ∷ []))) end))) (more (boolean false) (more (boolean true) end))))) ∷ []))) end))

-- a name in its dead zone is read behind the sum of a compound assignment to a member of super, in front of its write: `function* G() { yield g; let x = 7; yield; function g() { var _A, _t; class A extends P { } _A = A; B.superPropSet(_A, "s", (_t = B.superPropGet(_A, "s", _A) + 2, x, _t), _A, 1); } }`
abbrev pub output_name_in_front_of_a_write_behind_a_sum : Tree
output_name_in_front_of_a_write_behind_a_sum = node Kind.Program 0 (more (string (codes "script")) (more (list (trees (node Kind.FunctionDeclaration 1 (more (child (node Kind.BindingIdentifier 2 (more (string (codes "G")) end))) (more (list end) (more (child (node Kind.BlockStatement 3 (more (list (trees (node Kind.ExpressionStatement 4 (more (child (node Kind.YieldExpression 5 (more (child (node Kind.IdentifierReference 6 (more (string (codes "g")) end))) (more (boolean false) end)))) (more no_string end)) ∷ node Kind.VariableDeclaration 7 (more (string (codes "let")) (more (list (trees (node Kind.VariableDeclarator 8 (more (child (node Kind.BindingIdentifier 9 (more (string (codes "x")) end))) (more (child (node Kind.Literal 10 (more (literal (literal_value.Number (codes "7"))) end))) end)) ∷ []))) end)) ∷ node Kind.ExpressionStatement 11 (more (child (node Kind.YieldExpression 12 (more absent (more (boolean false) end)))) (more no_string end)) ∷ node Kind.FunctionDeclaration 13 (more (child (node Kind.BindingIdentifier 14 (more (string (codes "g")) end))) (more (list end) (more (child (node Kind.BlockStatement 15 (more (list (trees (node Kind.VariableDeclaration 29 (more (string (codes "var")) (more (list (trees (node Kind.VariableDeclarator 30 (more (child (node Kind.BindingIdentifier 31 (more (string (codes "_A")) end))) (more absent end)) ∷ node Kind.VariableDeclarator 32 (more (child (node Kind.BindingIdentifier 33 (more (string (codes "_t")) end))) (more absent end)) ∷ []))) end)) ∷ node Kind.ClassDeclaration 16 (more (child (node Kind.BindingIdentifier 17 (more (string (codes "A")) end))) (more (child (node Kind.IdentifierReference 18 (more (string (codes "P")) end))) (more (child (node Kind.ClassBody 19 (more (list end) end))) end))) ∷ node Kind.ExpressionStatement 34 (more (child (node Kind.AssignmentExpression 35 (more (string (codes "=")) (more (child (node Kind.IdentifierReference 36 (more (string (codes "_A")) end))) (more (child (node Kind.IdentifierReference 37 (more (string (codes "A")) end))) end))))) (more no_string end)) ∷ node Kind.ExpressionStatement 38 (more (child (node Kind.CallExpression 39 (more (child (node Kind.MemberExpression 40 (more (child (node Kind.IdentifierReference 41 (more (string (codes "babelHelpers")) end))) (more (child (node Kind.IdentifierName 42 (more (string (codes "superPropSet")) end))) (more (boolean false) (more (boolean false) end)))))) (more (list (trees (node Kind.IdentifierReference 43 (more (string (codes "_A")) end) ∷ node Kind.Literal 44 (more (literal (literal_value.String (codes "s") None)) end) ∷ node Kind.SequenceExpression 45 (more (list (trees (node Kind.AssignmentExpression 46 (more (string (codes "=")) (more (child (node Kind.IdentifierReference 47 (more (string (codes "_t")) end))) (more (child (node Kind.BinaryExpression 23 (more (string (codes "+")) (more (child (node Kind.CallExpression 24 (more (child (node Kind.MemberExpression 48 (more (child (node Kind.IdentifierReference 49 (more (string (codes "babelHelpers")) end))) (more (child (node Kind.IdentifierName 50 (more (string (codes "superPropGet")) end))) (more (boolean false) (more (boolean false) end)))))) (more (list (trees (node Kind.IdentifierReference 51 (more (string (codes "_A")) end) ∷ node Kind.Literal 52 (more (literal (literal_value.String (codes "s") None)) end) ∷ node Kind.IdentifierReference 53 (more (string (codes "_A")) end) ∷ []))) (more (boolean false) end))))) (more (child (node Kind.Literal 27 (more (literal (literal_value.Number (codes "2"))) end))) end))))) end))) ∷ node Kind.IdentifierReference 28 (more (string (codes "x")) end) ∷ node Kind.IdentifierReference 54 (more (string (codes "_t")) end) ∷ []))) end) ∷ node Kind.IdentifierReference 55 (more (string (codes "_A")) end) ∷ node Kind.Literal 56 (more (literal (literal_value.Number (codes "1"))) end) ∷ []))) (more (boolean false) end))))) (more no_string end)) ∷ []))) end))) (more (boolean false) (more (boolean false) end))))) ∷ []))) end))) (more (boolean false) (more (boolean true) end))))) ∷ []))) end))

abbrev pub generated_name_in_front_of_a_write_behind_a_sum : List LedgerEntry
generated_name_in_front_of_a_write_behind_a_sum = record { name = codes "_A"; kind = GeneratedKind.ClassTemp (record { 0 = 16 }) } ∷ record { name = codes "_t"; kind = GeneratedKind.Temp } ∷ []

abbrev pub options_name_in_front_of_a_write_behind_a_sum : Options
options_name_in_front_of_a_write_behind_a_sum = options_of true (Some (record { loose = false })) false

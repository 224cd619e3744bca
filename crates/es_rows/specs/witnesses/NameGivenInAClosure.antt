-- Printed by tools/rows/witnesses.js.
use Rattle.std.specs.Prelude.{ℕ, List, [], ◌∷◌, true, false, codes, None}
use Rattle.es_base.specs.Tree.{Tree, end, more, child, absent, list, string, no_string, boolean, literal, trees}
use Rattle.es_base.specs.declared.kind.Kind.{Kind}
use Rattle.es_base.specs.declared.ledger.GeneratedKind.{GeneratedKind}
use Rattle.es_base.specs.declared.ledger.LedgerEntry.{LedgerEntry}
use Rattle.es_base.specs.declared.literal.LiteralValue.TheVariants as literal_value
use Rattle.es_steps.specs.Generated.{node}
use Rattle.es_steps.specs.Options.{options_of}
use Rattle.es_steps.specs.declared.options.Options.{Options}

-- `let D = class { static x = 1; static name = 2; static { a; } };`
abbrev pub source_name_given_in_a_closure : Tree
source_name_given_in_a_closure = node Kind.Program 0 (more (string (codes "script")) (more (list (trees (node Kind.VariableDeclaration 1 (more (string (codes "let")) (more (list (trees (node Kind.VariableDeclarator 2 (more (child (node Kind.BindingIdentifier 3 (more (string (codes "D")) end))) (more (child (node Kind.ClassExpression 4 (more absent (more absent (more (child (node Kind.ClassBody 5 (more (list (trees (node Kind.PropertyDefinition 6 (more (child (node Kind.IdentifierName 7 (more (string (codes "x")) end))) (more (child (node Kind.Literal 8 (more (literal (literal_value.Number (codes "1"))) end))) (more (boolean false) (more (boolean true) end)))) ∷ node Kind.PropertyDefinition 9 (more (child (node Kind.IdentifierName 10 (more (string (codes "name")) end))) (more (child (node Kind.Literal 11 (more (literal (literal_value.Number (codes "2"))) end))) (more (boolean false) (more (boolean true) end)))) ∷ node Kind.StaticBlock 12 (more (list (trees (node Kind.ExpressionStatement 13 (more (child (node Kind.IdentifierReference 14 (more (string (codes "a")) end))) (more no_string end)) ∷ []))) end) ∷ []))) end))) end))))) end)) ∷ []))) end)) ∷ []))) end))

-- a class that is named by a closure, which runs behind its static field `name`, where `var _staticBlock; let D = (class { static x = 1; static name = ((_value) => (_staticBlock = () => (a, this), _value))(2); }, _staticBlock());` is right
abbrev pub output_name_given_in_a_closure : Tree
output_name_given_in_a_closure = node Kind.Program 0 (more (string (codes "script")) (more (list (trees (node Kind.VariableDeclaration 15 (more (string (codes "var")) (more (list (trees (node Kind.VariableDeclarator 16 (more (child (node Kind.BindingIdentifier 17 (more (string (codes "_staticBlock")) end))) (more absent end)) ∷ []))) end)) ∷ node Kind.VariableDeclaration 1 (more (string (codes "let")) (more (list (trees (node Kind.VariableDeclarator 2 (more (child (node Kind.BindingIdentifier 3 (more (string (codes "D")) end))) (more (child (node Kind.SequenceExpression 18 (more (list (trees (node Kind.ClassExpression 4 (more absent (more absent (more (child (node Kind.ClassBody 5 (more (list (trees (node Kind.PropertyDefinition 6 (more (child (node Kind.IdentifierName 7 (more (string (codes "x")) end))) (more (child (node Kind.CallExpression 19 (more (child (node Kind.ArrowFunctionExpression 20 (more (list (trees (node Kind.BindingIdentifier 21 (more (string (codes "_value")) end) ∷ []))) (more (child (node Kind.SequenceExpression 22 (more (list (trees (node Kind.AssignmentExpression 23 (more (string (codes "=")) (more (child (node Kind.IdentifierReference 24 (more (string (codes "_staticBlock")) end))) (more (child (node Kind.ArrowFunctionExpression 25 (more (list end) (more (child (node Kind.SequenceExpression 26 (more (list (trees (node Kind.CallExpression 27 (more (child (node Kind.MemberExpression 28 (more (child (node Kind.IdentifierReference 29 (more (string (codes "babelHelpers")) end))) (more (child (node Kind.IdentifierName 30 (more (string (codes "setFunctionName")) end))) (more (boolean false) (more (boolean false) end)))))) (more (list (trees (node Kind.ThisExpression 31 end ∷ node Kind.Literal 32 (more (literal (literal_value.String (codes "D") None)) end) ∷ []))) (more (boolean false) end))) ∷ node Kind.IdentifierReference 14 (more (string (codes "a")) end) ∷ node Kind.ThisExpression 33 end ∷ []))) end))) (more (boolean false) end))))) end))) ∷ node Kind.IdentifierReference 34 (more (string (codes "_value")) end) ∷ []))) end))) (more (boolean false) end))))) (more (list (trees (node Kind.Literal 8 (more (literal (literal_value.Number (codes "1"))) end) ∷ []))) (more (boolean false) end))))) (more (boolean false) (more (boolean true) end)))) ∷ node Kind.PropertyDefinition 9 (more (child (node Kind.IdentifierName 10 (more (string (codes "name")) end))) (more (child (node Kind.Literal 11 (more (literal (literal_value.Number (codes "2"))) end))) (more (boolean false) (more (boolean true) end)))) ∷ []))) end))) end))) ∷ node Kind.CallExpression 35 (more (child (node Kind.IdentifierReference 36 (more (string (codes "_staticBlock")) end))) (more (list end) (more (boolean false) end))) ∷ []))) end))) end)) ∷ []))) end)) ∷ []))) end))

abbrev pub generated_name_given_in_a_closure : List LedgerEntry
generated_name_given_in_a_closure = record { name = codes "_staticBlock"; kind = GeneratedKind.Closure } ∷ record { name = codes "_value"; kind = GeneratedKind.Param } ∷ []

abbrev pub options_name_given_in_a_closure : Options
options_name_given_in_a_closure = options_of true None false

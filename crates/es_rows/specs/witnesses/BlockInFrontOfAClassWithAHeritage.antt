-- Printed by tools/rows/witnesses.js.
use Rattle.std.specs.Prelude.{ℕ, List, [], ◌∷◌, true, false, codes, None}
use Rattle.es_base.specs.Tree.{Tree, end, more, child, absent, list, string, no_string, boolean, literal, trees}
use Rattle.es_base.specs.declared.kind.Kind.{Kind}
use Rattle.es_base.specs.declared.ledger.GeneratedKind.{GeneratedKind}
use Rattle.es_base.specs.declared.ledger.LedgerEntry.{LedgerEntry}
use Rattle.es_base.specs.declared.literal.LiteralValue.TheVariants as literal_value
use Rattle.es_steps.specs.Generated.{node}
use Rattle.es_steps.specs.Options.{options_of}
use Rattle.es_steps.specs.declared.options.Options.{Options}

-- `x = class C extends k(() => C) { static { f(1); } };`
abbrev pub source_block_in_front_of_a_class_with_a_heritage : Tree
source_block_in_front_of_a_class_with_a_heritage = node Kind.Program 0 (more (string (codes "script")) (more (list (trees (node Kind.ExpressionStatement 1 (more (child (node Kind.AssignmentExpression 2 (more (string (codes "=")) (more (child (node Kind.IdentifierReference 3 (more (string (codes "x")) end))) (more (child (node Kind.ClassExpression 4 (more (child (node Kind.BindingIdentifier 5 (more (string (codes "C")) end))) (more (child (node Kind.CallExpression 6 (more (child (node Kind.IdentifierReference 7 (more (string (codes "k")) end))) (more (list (trees (node Kind.ArrowFunctionExpression 8 (more (list end) (more (child (node Kind.IdentifierReference 9 (more (string (codes "C")) end))) (more (boolean false) end))) ∷ []))) (more (boolean false) end))))) (more (child (node Kind.ClassBody 10 (more (list (trees (node Kind.StaticBlock 11 (more (list (trees (node Kind.ExpressionStatement 12 (more (child (node Kind.CallExpression 13 (more (child (node Kind.IdentifierReference 14 (more (string (codes "f")) end))) (more (list (trees (node Kind.Literal 15 (more (literal (literal_value.Number (codes "1"))) end) ∷ []))) (more (boolean false) end))))) (more no_string end)) ∷ []))) end) ∷ []))) end))) end))))) end))))) (more no_string end)) ∷ []))) end))

-- a static block in front of its class expression, where its heritage has given a function away that reads its name: `var _C, _P; x = (_P = k(() => _C), f(1), _C = class C extends _P {}, _C);`
abbrev pub output_block_in_front_of_a_class_with_a_heritage : Tree
output_block_in_front_of_a_class_with_a_heritage = node Kind.Program 0 (more (string (codes "script")) (more (list (trees (node Kind.VariableDeclaration 16 (more (string (codes "var")) (more (list (trees (node Kind.VariableDeclarator 17 (more (child (node Kind.BindingIdentifier 18 (more (string (codes "_C")) end))) (more absent end)) ∷ node Kind.VariableDeclarator 19 (more (child (node Kind.BindingIdentifier 20 (more (string (codes "_P")) end))) (more absent end)) ∷ []))) end)) ∷ node Kind.ExpressionStatement 1 (more (child (node Kind.AssignmentExpression 2 (more (string (codes "=")) (more (child (node Kind.IdentifierReference 3 (more (string (codes "x")) end))) (more (child (node Kind.SequenceExpression 21 (more (list (trees (node Kind.AssignmentExpression 22 (more (string (codes "=")) (more (child (node Kind.IdentifierReference 23 (more (string (codes "_P")) end))) (more (child (node Kind.CallExpression 6 (more (child (node Kind.IdentifierReference 7 (more (string (codes "k")) end))) (more (list (trees (node Kind.ArrowFunctionExpression 8 (more (list end) (more (child (node Kind.IdentifierReference 9 (more (string (codes "_C")) end))) (more (boolean false) end))) ∷ []))) (more (boolean false) end))))) end))) ∷ node Kind.CallExpression 13 (more (child (node Kind.IdentifierReference 14 (more (string (codes "f")) end))) (more (list (trees (node Kind.Literal 15 (more (literal (literal_value.Number (codes "1"))) end) ∷ []))) (more (boolean false) end))) ∷ node Kind.AssignmentExpression 24 (more (string (codes "=")) (more (child (node Kind.IdentifierReference 25 (more (string (codes "_C")) end))) (more (child (node Kind.ClassExpression 4 (more (child (node Kind.BindingIdentifier 5 (more (string (codes "C")) end))) (more (child (node Kind.IdentifierReference 26 (more (string (codes "_P")) end))) (more (child (node Kind.ClassBody 10 (more (list end) end))) end))))) end))) ∷ node Kind.IdentifierReference 27 (more (string (codes "_C")) end) ∷ []))) end))) end))))) (more no_string end)) ∷ []))) end))

abbrev pub generated_block_in_front_of_a_class_with_a_heritage : List LedgerEntry
generated_block_in_front_of_a_class_with_a_heritage = record { name = codes "_C"; kind = GeneratedKind.ClassTemp (record { 0 = 4 }) } ∷ record { name = codes "_P"; kind = GeneratedKind.Temp } ∷ []

abbrev pub options_block_in_front_of_a_class_with_a_heritage : Options
options_block_in_front_of_a_class_with_a_heritage = options_of true None false

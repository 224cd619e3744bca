-- Printed by tools/rows/number-rows.js from `block_of_statements_alone` of tools/rows/forms.json: a worked row with its numbers.
use Rattle.std.specs.Prelude.{ℕ, List, [], ◌∷◌, true, false, codes, None}
use Rattle.es_base.specs.Tree.{Tree, end, more, child, absent, list, string, no_string, boolean, literal, trees}
use Rattle.es_base.specs.declared.kind.Kind.{Kind}
use Rattle.es_base.specs.declared.ledger.LedgerEntry.{LedgerEntry}
use Rattle.es_base.specs.declared.literal.LiteralValue.TheVariants as literal_value
use Rattle.es_steps.specs.Generated.{node}
use Rattle.es_steps.specs.Options.{options_of}
use Rattle.es_steps.specs.declared.options.Options.{Options}

-- `class C { static { let a = f(); g(a); } static x = 1; }`
abbrev pub source_block_of_statements_alone : Tree
source_block_of_statements_alone = node Kind.Program 0 (more (string (codes "script")) (more (list (trees (node Kind.ClassDeclaration 1 (more (child (node Kind.BindingIdentifier 2 (more (string (codes "C")) end))) (more absent (more (child (node Kind.ClassBody 3 (more (list (trees (node Kind.StaticBlock 4 (more (list (trees (node Kind.VariableDeclaration 5 (more (string (codes "let")) (more (list (trees (node Kind.VariableDeclarator 6 (more (child (node Kind.BindingIdentifier 7 (more (string (codes "a")) end))) (more (child (node Kind.CallExpression 8 (more (child (node Kind.IdentifierReference 9 (more (string (codes "f")) end))) (more (list end) (more (boolean false) end))))) end)) ∷ []))) end)) ∷ node Kind.ExpressionStatement 10 (more (child (node Kind.CallExpression 11 (more (child (node Kind.IdentifierReference 12 (more (string (codes "g")) end))) (more (list (trees (node Kind.IdentifierReference 13 (more (string (codes "a")) end) ∷ []))) (more (boolean false) end))))) (more no_string end)) ∷ []))) end) ∷ node Kind.PropertyDefinition 14 (more (child (node Kind.IdentifierName 15 (more (string (codes "x")) end))) (more (child (node Kind.Literal 16 (more (literal (literal_value.Number (codes "1"))) end))) (more (boolean false) (more (boolean true) end)))) ∷ []))) end))) end))) ∷ []))) end))

-- the number of its nodes
abbrev pub nodes_block_of_statements_alone : ℕ
nodes_block_of_statements_alone = 17

-- `class C { static x = ((() => { let a = f(); g(a); })(), 1); }`
abbrev pub output_block_of_statements_alone : Tree
output_block_of_statements_alone = node Kind.Program 0 (more (string (codes "script")) (more (list (trees (node Kind.ClassDeclaration 1 (more (child (node Kind.BindingIdentifier 2 (more (string (codes "C")) end))) (more absent (more (child (node Kind.ClassBody 3 (more (list (trees (node Kind.PropertyDefinition 14 (more (child (node Kind.IdentifierName 15 (more (string (codes "x")) end))) (more (child (node Kind.SequenceExpression 17 (more (list (trees (node Kind.CallExpression 18 (more (child (node Kind.ArrowFunctionExpression 19 (more (list end) (more (child (node Kind.BlockStatement 20 (more (list (trees (node Kind.VariableDeclaration 5 (more (string (codes "let")) (more (list (trees (node Kind.VariableDeclarator 6 (more (child (node Kind.BindingIdentifier 7 (more (string (codes "a")) end))) (more (child (node Kind.CallExpression 8 (more (child (node Kind.IdentifierReference 9 (more (string (codes "f")) end))) (more (list end) (more (boolean false) end))))) end)) ∷ []))) end)) ∷ node Kind.ExpressionStatement 10 (more (child (node Kind.CallExpression 11 (more (child (node Kind.IdentifierReference 12 (more (string (codes "g")) end))) (more (list (trees (node Kind.IdentifierReference 13 (more (string (codes "a")) end) ∷ []))) (more (boolean false) end))))) (more no_string end)) ∷ []))) end))) (more (boolean false) end))))) (more (list end) (more (boolean false) end))) ∷ node Kind.Literal 16 (more (literal (literal_value.Number (codes "1"))) end) ∷ []))) end))) (more (boolean false) (more (boolean true) end)))) ∷ []))) end))) end))) ∷ []))) end))

abbrev pub generated_block_of_statements_alone : List LedgerEntry
generated_block_of_statements_alone = []

-- the numbers of its shapes
abbrev pub outside_block_of_statements_alone : List ℕ
outside_block_of_statements_alone = []

abbrev pub options_block_of_statements_alone : Options
options_block_of_statements_alone = options_of true None false

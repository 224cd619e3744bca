-- Printed by tools/rows/number-rows.js from `closure_name_taken` of tools/rows/rows.json: a worked row with its numbers.
use Rattle.std.specs.Prelude.{ℕ, List, [], ◌∷◌, true, false, codes, None}
use Rattle.es_base.specs.Tree.{Tree, end, more, child, absent, list, string, no_string, boolean, trees}
use Rattle.es_base.specs.declared.kind.Kind.{Kind}
use Rattle.es_base.specs.declared.ledger.GeneratedKind.{GeneratedKind}
use Rattle.es_base.specs.declared.ledger.LedgerEntry.{LedgerEntry}
use Rattle.es_steps.specs.Generated.{node}
use Rattle.es_steps.specs.Options.{options_of}
use Rattle.es_steps.specs.declared.options.Options.{Options}

-- `class C { static { _staticBlock; } }`
abbrev pub source_closure_name_taken : Tree
source_closure_name_taken = node Kind.Program 0 (more (string (codes "script")) (more (list (trees (node Kind.ClassDeclaration 1 (more (child (node Kind.BindingIdentifier 2 (more (string (codes "C")) end))) (more absent (more (child (node Kind.ClassBody 3 (more (list (trees (node Kind.StaticBlock 4 (more (list (trees (node Kind.ExpressionStatement 5 (more (child (node Kind.IdentifierReference 6 (more (string (codes "_staticBlock")) end))) (more no_string end)) ∷ []))) end) ∷ []))) end))) end))) ∷ []))) end))

-- the number of its nodes
abbrev pub nodes_closure_name_taken : ℕ
nodes_closure_name_taken = 7

-- `var _staticBlock2; let C = (class C { static #_ = _staticBlock2 = () => (_staticBlock, this); }, _staticBlock2());`
abbrev pub output_closure_name_taken : Tree
output_closure_name_taken = node Kind.Program 0 (more (string (codes "script")) (more (list (trees (node Kind.VariableDeclaration 7 (more (string (codes "var")) (more (list (trees (node Kind.VariableDeclarator 8 (more (child (node Kind.BindingIdentifier 9 (more (string (codes "_staticBlock2")) end))) (more absent end)) ∷ []))) end)) ∷ node Kind.VariableDeclaration 10 (more (string (codes "let")) (more (list (trees (node Kind.VariableDeclarator 11 (more (child (node Kind.BindingIdentifier 2 (more (string (codes "C")) end))) (more (child (node Kind.SequenceExpression 12 (more (list (trees (node Kind.ClassExpression 1 (more (child (node Kind.BindingIdentifier 13 (more (string (codes "C")) end))) (more absent (more (child (node Kind.ClassBody 3 (more (list (trees (node Kind.PropertyDefinition 14 (more (child (node Kind.PrivateIdentifier 15 (more (string (codes "_")) end))) (more (child (node Kind.AssignmentExpression 16 (more (string (codes "=")) (more (child (node Kind.IdentifierReference 17 (more (string (codes "_staticBlock2")) end))) (more (child (node Kind.ArrowFunctionExpression 18 (more (list end) (more (child (node Kind.SequenceExpression 19 (more (list (trees (node Kind.IdentifierReference 6 (more (string (codes "_staticBlock")) end) ∷ node Kind.ThisExpression 20 end ∷ []))) end))) (more (boolean false) end))))) end))))) (more (boolean false) (more (boolean true) end)))) ∷ []))) end))) end))) ∷ node Kind.CallExpression 21 (more (child (node Kind.IdentifierReference 22 (more (string (codes "_staticBlock2")) end))) (more (list end) (more (boolean false) end))) ∷ []))) end))) end)) ∷ []))) end)) ∷ []))) end))

abbrev pub generated_closure_name_taken : List LedgerEntry
generated_closure_name_taken = record { name = codes "_"; kind = GeneratedKind.Private (record { 0 = 1 }) } ∷ record { name = codes "_staticBlock2"; kind = GeneratedKind.Closure } ∷ []

-- the numbers of its shapes
abbrev pub outside_closure_name_taken : List ℕ
outside_closure_name_taken = []

abbrev pub options_closure_name_taken : Options
options_closure_name_taken = options_of true None false

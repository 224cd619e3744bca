-- Printed by tools/rows/witnesses.js.
use Rattle.std.specs.Prelude.{ℕ, List, [], ◌∷◌, true, false, codes, None}
use Rattle.es_base.specs.Tree.{Tree, end, more, child, absent, list, string, no_string, boolean, literal, trees}
use Rattle.es_base.specs.declared.kind.Kind.{Kind}
use Rattle.es_base.specs.declared.ledger.GeneratedKind.{GeneratedKind}
use Rattle.es_base.specs.declared.ledger.LedgerEntry.{LedgerEntry}
use Rattle.es_base.specs.declared.literal.LiteralValue.TheVariants as literal_value
use Rattle.es_steps.specs.Generated.{node}
use Rattle.es_steps.specs.Options.{options_of}
use Rattle.es_steps.specs.declared.options.Options.{Options}

-- `class A { static { f(1); } } class B { static { f(A); } }`
abbrev pub source_block_that_names_another_class : Tree
source_block_that_names_another_class = node Kind.Program 0 (more (string (codes "script")) (more (list (trees (node Kind.ClassDeclaration 1 (more (child (node Kind.BindingIdentifier 2 (more (string (codes "A")) end))) (more absent (more (child (node Kind.ClassBody 3 (more (list (trees (node Kind.StaticBlock 4 (more (list (trees (node Kind.ExpressionStatement 5 (more (child (node Kind.CallExpression 6 (more (child (node Kind.IdentifierReference 7 (more (string (codes "f")) end))) (more (list (trees (node Kind.Literal 8 (more (literal (literal_value.Number (codes "1"))) end) ∷ []))) (more (boolean false) end))))) (more no_string end)) ∷ []))) end) ∷ []))) end))) end))) ∷ node Kind.ClassDeclaration 9 (more (child (node Kind.BindingIdentifier 10 (more (string (codes "B")) end))) (more absent (more (child (node Kind.ClassBody 11 (more (list (trees (node Kind.StaticBlock 12 (more (list (trees (node Kind.ExpressionStatement 13 (more (child (node Kind.CallExpression 14 (more (child (node Kind.IdentifierReference 15 (more (string (codes "f")) end))) (more (list (trees (node Kind.IdentifierReference 16 (more (string (codes "A")) end) ∷ []))) (more (boolean false) end))))) (more no_string end)) ∷ []))) end) ∷ []))) end))) end))) ∷ []))) end))

-- a static block that names another class that has one, as `var _staticBlock, _staticBlock2; let A = (class A { static #_ = _staticBlock = () => (f(1), this); }, _staticBlock()); let B = (class B { static #_ = _staticBlock2 = () => (f(A), this); }, _staticBlock2());` means
abbrev pub output_block_that_names_another_class : Tree
output_block_that_names_another_class = node Kind.Program 0 (more (string (codes "script")) (more (list (trees (node Kind.VariableDeclaration 17 (more (string (codes "var")) (more (list (trees (node Kind.VariableDeclarator 18 (more (child (node Kind.BindingIdentifier 19 (more (string (codes "_staticBlock")) end))) (more absent end)) ∷ node Kind.VariableDeclarator 20 (more (child (node Kind.BindingIdentifier 21 (more (string (codes "_staticBlock2")) end))) (more absent end)) ∷ []))) end)) ∷ node Kind.VariableDeclaration 22 (more (string (codes "let")) (more (list (trees (node Kind.VariableDeclarator 23 (more (child (node Kind.BindingIdentifier 2 (more (string (codes "A")) end))) (more (child (node Kind.SequenceExpression 24 (more (list (trees (node Kind.ClassExpression 1 (more (child (node Kind.BindingIdentifier 25 (more (string (codes "A")) end))) (more absent (more (child (node Kind.ClassBody 3 (more (list (trees (node Kind.PropertyDefinition 26 (more (child (node Kind.PrivateIdentifier 27 (more (string (codes "_")) end))) (more (child (node Kind.AssignmentExpression 28 (more (string (codes "=")) (more (child (node Kind.IdentifierReference 29 (more (string (codes "_staticBlock")) end))) (more (child (node Kind.ArrowFunctionExpression 30 (more (list end) (more (child (node Kind.SequenceExpression 31 (more (list (trees (node Kind.CallExpression 6 (more (child (node Kind.IdentifierReference 7 (more (string (codes "f")) end))) (more (list (trees (node Kind.Literal 8 (more (literal (literal_value.Number (codes "1"))) end) ∷ []))) (more (boolean false) end))) ∷ node Kind.ThisExpression 32 end ∷ []))) end))) (more (boolean false) end))))) end))))) (more (boolean false) (more (boolean true) end)))) ∷ []))) end))) end))) ∷ node Kind.CallExpression 33 (more (child (node Kind.IdentifierReference 34 (more (string (codes "_staticBlock")) end))) (more (list end) (more (boolean false) end))) ∷ []))) end))) end)) ∷ []))) end)) ∷ node Kind.VariableDeclaration 35 (more (string (codes "let")) (more (list (trees (node Kind.VariableDeclarator 36 (more (child (node Kind.BindingIdentifier 10 (more (string (codes "B")) end))) (more (child (node Kind.SequenceExpression 37 (more (list (trees (node Kind.ClassExpression 9 (more (child (node Kind.BindingIdentifier 38 (more (string (codes "B")) end))) (more absent (more (child (node Kind.ClassBody 11 (more (list (trees (node Kind.PropertyDefinition 39 (more (child (node Kind.PrivateIdentifier 40 (more (string (codes "_")) end))) (more (child (node Kind.AssignmentExpression 41 (more (string (codes "=")) (more (child (node Kind.IdentifierReference 42 (more (string (codes "_staticBlock2")) end))) (more (child (node Kind.ArrowFunctionExpression 43 (more (list end) (more (child (node Kind.SequenceExpression 44 (more (list (trees (node Kind.CallExpression 14 (more (child (node Kind.IdentifierReference 15 (more (string (codes "f")) end))) (more (list (trees (node Kind.IdentifierReference 16 (more (string (codes "A")) end) ∷ []))) (more (boolean false) end))) ∷ node Kind.ThisExpression 45 end ∷ []))) end))) (more (boolean false) end))))) end))))) (more (boolean false) (more (boolean true) end)))) ∷ []))) end))) end))) ∷ node Kind.CallExpression 46 (more (child (node Kind.IdentifierReference 47 (more (string (codes "_staticBlock2")) end))) (more (list end) (more (boolean false) end))) ∷ []))) end))) end)) ∷ []))) end)) ∷ []))) end))

abbrev pub generated_block_that_names_another_class : List LedgerEntry
generated_block_that_names_another_class = record { name = codes "_"; kind = GeneratedKind.Private (record { 0 = 1 }) } ∷ record { name = codes "_"; kind = GeneratedKind.Private (record { 0 = 9 }) } ∷ record { name = codes "_staticBlock"; kind = GeneratedKind.Closure } ∷ record { name = codes "_staticBlock2"; kind = GeneratedKind.Closure } ∷ []

abbrev pub options_block_that_names_another_class : Options
options_block_that_names_another_class = options_of true None false

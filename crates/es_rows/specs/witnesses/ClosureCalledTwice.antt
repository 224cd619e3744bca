-- Printed by tools/rows/witnesses.js.
use Rattle.std.specs.Prelude.{ℕ, List, [], ◌∷◌, true, false, codes, None}
use Rattle.es_base.specs.Tree.{Tree, end, more, child, absent, list, string, no_string, boolean, trees}
use Rattle.es_base.specs.declared.kind.Kind.{Kind}
use Rattle.es_base.specs.declared.ledger.GeneratedKind.{GeneratedKind}
use Rattle.es_base.specs.declared.ledger.LedgerEntry.{LedgerEntry}
use Rattle.es_steps.specs.Generated.{node}
use Rattle.es_steps.specs.Options.{options_of}
use Rattle.es_steps.specs.declared.options.Options.{Options}

-- `class C { static { foo } }`
abbrev pub source_closure_called_twice : Tree
source_closure_called_twice = node Kind.Program 0 (more (string (codes "script")) (more (list (trees (node Kind.ClassDeclaration 1 (more (child (node Kind.BindingIdentifier 2 (more (string (codes "C")) end))) (more absent (more (child (node Kind.ClassBody 3 (more (list (trees (node Kind.StaticBlock 4 (more (list (trees (node Kind.ExpressionStatement 5 (more (child (node Kind.IdentifierReference 6 (more (string (codes "foo")) end))) (more no_string end)) ∷ []))) end) ∷ []))) end))) end))) ∷ []))) end))

-- a closure that is called twice, which would make again what has no event, where `var _staticBlock; let C = (class C { static #_ = _staticBlock = () => (foo, this); }, _staticBlock());` is right
abbrev pub output_closure_called_twice : Tree
output_closure_called_twice = node Kind.Program 0 (more (string (codes "script")) (more (list (trees (node Kind.VariableDeclaration 7 (more (string (codes "var")) (more (list (trees (node Kind.VariableDeclarator 8 (more (child (node Kind.BindingIdentifier 9 (more (string (codes "_staticBlock")) end))) (more absent end)) ∷ []))) end)) ∷ node Kind.VariableDeclaration 10 (more (string (codes "let")) (more (list (trees (node Kind.VariableDeclarator 11 (more (child (node Kind.BindingIdentifier 2 (more (string (codes "C")) end))) (more (child (node Kind.SequenceExpression 12 (more (list (trees (node Kind.ClassExpression 1 (more (child (node Kind.BindingIdentifier 13 (more (string (codes "C")) end))) (more absent (more (child (node Kind.ClassBody 3 (more (list (trees (node Kind.PropertyDefinition 14 (more (child (node Kind.PrivateIdentifier 15 (more (string (codes "_")) end))) (more (child (node Kind.AssignmentExpression 16 (more (string (codes "=")) (more (child (node Kind.IdentifierReference 17 (more (string (codes "_staticBlock")) end))) (more (child (node Kind.ArrowFunctionExpression 18 (more (list end) (more (child (node Kind.SequenceExpression 19 (more (list (trees (node Kind.IdentifierReference 6 (more (string (codes "foo")) end) ∷ node Kind.ThisExpression 20 end ∷ []))) end))) (more (boolean false) end))))) end))))) (more (boolean false) (more (boolean true) end)))) ∷ []))) end))) end))) ∷ node Kind.CallExpression 21 (more (child (node Kind.IdentifierReference 22 (more (string (codes "_staticBlock")) end))) (more (list end) (more (boolean false) end))) ∷ node Kind.CallExpression 23 (more (child (node Kind.IdentifierReference 24 (more (string (codes "_staticBlock")) end))) (more (list end) (more (boolean false) end))) ∷ []))) end))) end)) ∷ []))) end)) ∷ []))) end))

abbrev pub generated_closure_called_twice : List LedgerEntry
generated_closure_called_twice = record { name = codes "_"; kind = GeneratedKind.Private (record { 0 = 1 }) } ∷ record { name = codes "_staticBlock"; kind = GeneratedKind.Closure } ∷ []

abbrev pub options_closure_called_twice : Options
options_closure_called_twice = options_of true None false

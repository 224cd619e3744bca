-- Printed by tools/rows/witnesses.js.
use Rattle.std.specs.Prelude.{ℕ, List, [], ◌∷◌, true, false, codes, None}
use Rattle.es_base.specs.Tree.{Tree, end, more, child, absent, list, string, no_string, boolean, literal, trees}
use Rattle.es_base.specs.declared.kind.Kind.{Kind}
use Rattle.es_base.specs.declared.ledger.GeneratedKind.{GeneratedKind}
use Rattle.es_base.specs.declared.ledger.LedgerEntry.{LedgerEntry}
use Rattle.es_base.specs.declared.literal.LiteralValue.TheVariants as literal_value
use Rattle.es_steps.specs.Generated.{node}
use Rattle.es_steps.specs.Options.{options_of}
use Rattle.es_steps.specs.declared.options.Options.{Options}

-- `class C { static { class I { static { f(1); } } new I(); } }`
abbrev pub source_class_in_a_closure : Tree
source_class_in_a_closure = node Kind.Program 0 (more (string (codes "script")) (more (list (trees (node Kind.ClassDeclaration 1 (more (child (node Kind.BindingIdentifier 2 (more (string (codes "C")) end))) (more absent (more (child (node Kind.ClassBody 3 (more (list (trees (node Kind.StaticBlock 4 (more (list (trees (node Kind.ClassDeclaration 5 (more (child (node Kind.BindingIdentifier 6 (more (string (codes "I")) end))) (more absent (more (child (node Kind.ClassBody 7 (more (list (trees (node Kind.StaticBlock 8 (more (list (trees (node Kind.ExpressionStatement 9 (more (child (node Kind.CallExpression 10 (more (child (node Kind.IdentifierReference 11 (more (string (codes "f")) end))) (more (list (trees (node Kind.Literal 12 (more (literal (literal_value.Number (codes "1"))) end) ∷ []))) (more (boolean false) end))))) (more no_string end)) ∷ []))) end) ∷ []))) end))) end))) ∷ node Kind.ExpressionStatement 13 (more (child (node Kind.NewExpression 14 (more (child (node Kind.IdentifierReference 15 (more (string (codes "I")) end))) (more (list end) end)))) (more no_string end)) ∷ []))) end) ∷ []))) end))) end))) ∷ []))) end))

-- a class declaration that becomes a `let` in a closure, and is read there, as `var _staticBlock; let C = (class C { static #_ = _staticBlock = () => ((() => { var _staticBlock2; let I = (class I { static #_ = _staticBlock2 = () => (f(1), this); }, _staticBlock2()); new I(); })(), this); }, _staticBlock());` means
abbrev pub output_class_in_a_closure : Tree
output_class_in_a_closure = node Kind.Program 0 (more (string (codes "script")) (more (list (trees (node Kind.VariableDeclaration 16 (more (string (codes "var")) (more (list (trees (node Kind.VariableDeclarator 17 (more (child (node Kind.BindingIdentifier 18 (more (string (codes "_staticBlock")) end))) (more absent end)) ∷ []))) end)) ∷ node Kind.VariableDeclaration 19 (more (string (codes "let")) (more (list (trees (node Kind.VariableDeclarator 20 (more (child (node Kind.BindingIdentifier 2 (more (string (codes "C")) end))) (more (child (node Kind.SequenceExpression 21 (more (list (trees (node Kind.ClassExpression 1 (more (child (node Kind.BindingIdentifier 22 (more (string (codes "C")) end))) (more absent (more (child (node Kind.ClassBody 3 (more (list (trees (node Kind.PropertyDefinition 23 (more (child (node Kind.PrivateIdentifier 24 (more (string (codes "_")) end))) (more (child (node Kind.AssignmentExpression 25 (more (string (codes "=")) (more (child (node Kind.IdentifierReference 26 (more (string (codes "_staticBlock")) end))) (more (child (node Kind.ArrowFunctionExpression 27 (more (list end) (more (child (node Kind.SequenceExpression 28 (more (list (trees (node Kind.CallExpression 29 (more (child (node Kind.ArrowFunctionExpression 30 (more (list end) (more (child (node Kind.BlockStatement 31 (more (list (trees (node Kind.VariableDeclaration 32 (more (string (codes "var")) (more (list (trees (node Kind.VariableDeclarator 33 (more (child (node Kind.BindingIdentifier 34 (more (string (codes "_staticBlock2")) end))) (more absent end)) ∷ []))) end)) ∷ node Kind.VariableDeclaration 35 (more (string (codes "let")) (more (list (trees (node Kind.VariableDeclarator 36 (more (child (node Kind.BindingIdentifier 6 (more (string (codes "I")) end))) (more (child (node Kind.SequenceExpression 37 (more (list (trees (node Kind.ClassExpression 5 (more (child (node Kind.BindingIdentifier 38 (more (string (codes "I")) end))) (more absent (more (child (node Kind.ClassBody 7 (more (list (trees (node Kind.PropertyDefinition 39 (more (child (node Kind.PrivateIdentifier 40 (more (string (codes "_")) end))) (more (child (node Kind.AssignmentExpression 41 (more (string (codes "=")) (more (child (node Kind.IdentifierReference 42 (more (string (codes "_staticBlock2")) end))) (more (child (node Kind.ArrowFunctionExpression 43 (more (list end) (more (child (node Kind.SequenceExpression 44 (more (list (trees (node Kind.CallExpression 10 (more (child (node Kind.IdentifierReference 11 (more (string (codes "f")) end))) (more (list (trees (node Kind.Literal 12 (more (literal (literal_value.Number (codes "1"))) end) ∷ []))) (more (boolean false) end))) ∷ node Kind.ThisExpression 45 end ∷ []))) end))) (more (boolean false) end))))) end))))) (more (boolean false) (more (boolean true) end)))) ∷ []))) end))) end))) ∷ node Kind.CallExpression 46 (more (child (node Kind.IdentifierReference 47 (more (string (codes "_staticBlock2")) end))) (more (list end) (more (boolean false) end))) ∷ []))) end))) end)) ∷ []))) end)) ∷ node Kind.ExpressionStatement 13 (more (child (node Kind.NewExpression 14 (more (child (node Kind.IdentifierReference 15 (more (string (codes "I")) end))) (more (list end) end)))) (more no_string end)) ∷ []))) end))) (more (boolean false) end))))) (more (list end) (more (boolean false) end))) ∷ node Kind.ThisExpression 48 end ∷ []))) end))) (more (boolean false) end))))) end))))) (more (boolean false) (more (boolean true) end)))) ∷ []))) end))) end))) ∷ node Kind.CallExpression 49 (more (child (node Kind.IdentifierReference 50 (more (string (codes "_staticBlock")) end))) (more (list end) (more (boolean false) end))) ∷ []))) end))) end)) ∷ []))) end)) ∷ []))) end))

abbrev pub generated_class_in_a_closure : List LedgerEntry
generated_class_in_a_closure = record { name = codes "_"; kind = GeneratedKind.Private (record { 0 = 1 }) } ∷ record { name = codes "_"; kind = GeneratedKind.Private (record { 0 = 5 }) } ∷ record { name = codes "_staticBlock"; kind = GeneratedKind.Closure } ∷ record { name = codes "_staticBlock2"; kind = GeneratedKind.Closure } ∷ []

abbrev pub options_class_in_a_closure : Options
options_class_in_a_closure = options_of true None false

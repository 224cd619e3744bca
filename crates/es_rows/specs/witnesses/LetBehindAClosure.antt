-- Printed by tools/rows/witnesses.js.
use Rattle.std.specs.Prelude.{ℕ, List, [], ◌∷◌, true, false, codes, None}
use Rattle.es_base.specs.Tree.{Tree, end, more, child, absent, list, string, no_string, boolean, trees}
use Rattle.es_base.specs.declared.kind.Kind.{Kind}
use Rattle.es_base.specs.declared.ledger.GeneratedKind.{GeneratedKind}
use Rattle.es_base.specs.declared.ledger.LedgerEntry.{LedgerEntry}
use Rattle.es_steps.specs.Generated.{node}
use Rattle.es_steps.specs.Options.{options_of}
use Rattle.es_steps.specs.declared.options.Options.{Options}

-- `class X { static { let y; f(() => y); } }`
abbrev pub source_let_behind_a_closure : Tree
source_let_behind_a_closure = node Kind.Program 0 (more (string (codes "script")) (more (list (trees (node Kind.ClassDeclaration 1 (more (child (node Kind.BindingIdentifier 2 (more (string (codes "X")) end))) (more absent (more (child (node Kind.ClassBody 3 (more (list (trees (node Kind.StaticBlock 4 (more (list (trees (node Kind.VariableDeclaration 5 (more (string (codes "let")) (more (list (trees (node Kind.VariableDeclarator 6 (more (child (node Kind.BindingIdentifier 7 (more (string (codes "y")) end))) (more absent end)) ∷ []))) end)) ∷ node Kind.ExpressionStatement 8 (more (child (node Kind.CallExpression 9 (more (child (node Kind.IdentifierReference 10 (more (string (codes "f")) end))) (more (list (trees (node Kind.ArrowFunctionExpression 11 (more (list end) (more (child (node Kind.IdentifierReference 12 (more (string (codes "y")) end))) (more (boolean false) end))) ∷ []))) (more (boolean false) end))))) (more no_string end)) ∷ []))) end) ∷ []))) end))) end))) ∷ []))) end))

-- a `let` without a value of a static block, behind what reads it: `class X { static #_ = (() => { f(() => y); let y; })(); }`
abbrev pub output_let_behind_a_closure : Tree
output_let_behind_a_closure = node Kind.Program 0 (more (string (codes "script")) (more (list (trees (node Kind.ClassDeclaration 1 (more (child (node Kind.BindingIdentifier 2 (more (string (codes "X")) end))) (more absent (more (child (node Kind.ClassBody 3 (more (list (trees (node Kind.PropertyDefinition 13 (more (child (node Kind.PrivateIdentifier 14 (more (string (codes "_")) end))) (more (child (node Kind.CallExpression 15 (more (child (node Kind.ArrowFunctionExpression 16 (more (list end) (more (child (node Kind.BlockStatement 17 (more (list (trees (node Kind.ExpressionStatement 8 (more (child (node Kind.CallExpression 9 (more (child (node Kind.IdentifierReference 10 (more (string (codes "f")) end))) (more (list (trees (node Kind.ArrowFunctionExpression 11 (more (list end) (more (child (node Kind.IdentifierReference 12 (more (string (codes "y")) end))) (more (boolean false) end))) ∷ []))) (more (boolean false) end))))) (more no_string end)) ∷ node Kind.VariableDeclaration 5 (more (string (codes "let")) (more (list (trees (node Kind.VariableDeclarator 6 (more (child (node Kind.BindingIdentifier 7 (more (string (codes "y")) end))) (more absent end)) ∷ []))) end)) ∷ []))) end))) (more (boolean false) end))))) (more (list end) (more (boolean false) end))))) (more (boolean false) (more (boolean true) end)))) ∷ []))) end))) end))) ∷ []))) end))

abbrev pub generated_let_behind_a_closure : List LedgerEntry
generated_let_behind_a_closure = record { name = codes "_"; kind = GeneratedKind.Private (record { 0 = 1 }) } ∷ []

abbrev pub options_let_behind_a_closure : Options
options_let_behind_a_closure = options_of true None false

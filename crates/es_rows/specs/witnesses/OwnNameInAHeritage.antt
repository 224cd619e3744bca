-- Printed by tools/rows/witnesses.js.
use Rattle.std.specs.Prelude.{ℕ, List, [], ◌∷◌, true, false, codes, None}
use Rattle.es_base.specs.Tree.{Tree, end, more, child, absent, list, string, no_string, boolean, trees}
use Rattle.es_base.specs.declared.kind.Kind.{Kind}
use Rattle.es_base.specs.declared.ledger.GeneratedKind.{GeneratedKind}
use Rattle.es_base.specs.declared.ledger.LedgerEntry.{LedgerEntry}
use Rattle.es_steps.specs.Generated.{node}
use Rattle.es_steps.specs.Options.{options_of}
use Rattle.es_steps.specs.declared.options.Options.{Options}

-- `f(class extends k() { static { g(); } });`
abbrev pub source_own_name_in_a_heritage : Tree
source_own_name_in_a_heritage = node Kind.Program 0 (more (string (codes "script")) (more (list (trees (node Kind.ExpressionStatement 1 (more (child (node Kind.CallExpression 2 (more (child (node Kind.IdentifierReference 3 (more (string (codes "f")) end))) (more (list (trees (node Kind.ClassExpression 4 (more absent (more (child (node Kind.CallExpression 5 (more (child (node Kind.IdentifierReference 6 (more (string (codes "k")) end))) (more (list end) (more (boolean false) end))))) (more (child (node Kind.ClassBody 7 (more (list (trees (node Kind.StaticBlock 8 (more (list (trees (node Kind.ExpressionStatement 9 (more (child (node Kind.CallExpression 10 (more (child (node Kind.IdentifierReference 11 (more (string (codes "g")) end))) (more (list end) (more (boolean false) end))))) (more no_string end)) ∷ []))) end) ∷ []))) end))) end))) ∷ []))) (more (boolean false) end))))) (more no_string end)) ∷ []))) end))

-- the generated own name of a class read in its heritage, where `var _s; f((class extends k() { static #_ = _s = () => (g(), this); }, _s()));` is right
abbrev pub output_own_name_in_a_heritage : Tree
output_own_name_in_a_heritage = node Kind.Program 0 (more (string (codes "script")) (more (list (trees (node Kind.VariableDeclaration 12 (more (string (codes "var")) (more (list (trees (node Kind.VariableDeclarator 13 (more (child (node Kind.BindingIdentifier 14 (more (string (codes "_s")) end))) (more absent end)) ∷ []))) end)) ∷ node Kind.ExpressionStatement 1 (more (child (node Kind.CallExpression 2 (more (child (node Kind.IdentifierReference 3 (more (string (codes "f")) end))) (more (list (trees (node Kind.SequenceExpression 15 (more (list (trees (node Kind.ClassExpression 4 (more (child (node Kind.BindingIdentifier 16 (more (string (codes "_Class")) end))) (more (child (node Kind.SequenceExpression 17 (more (list (trees (node Kind.IdentifierReference 18 (more (string (codes "_Class")) end) ∷ node Kind.CallExpression 5 (more (child (node Kind.IdentifierReference 6 (more (string (codes "k")) end))) (more (list end) (more (boolean false) end))) ∷ []))) end))) (more (child (node Kind.ClassBody 7 (more (list (trees (node Kind.PropertyDefinition 19 (more (child (node Kind.PrivateIdentifier 20 (more (string (codes "_")) end))) (more (child (node Kind.AssignmentExpression 21 (more (string (codes "=")) (more (child (node Kind.IdentifierReference 22 (more (string (codes "_s")) end))) (more (child (node Kind.ArrowFunctionExpression 23 (more (list end) (more (child (node Kind.SequenceExpression 24 (more (list (trees (node Kind.CallExpression 10 (more (child (node Kind.IdentifierReference 11 (more (string (codes "g")) end))) (more (list end) (more (boolean false) end))) ∷ node Kind.ThisExpression 25 end ∷ []))) end))) (more (boolean false) end))))) end))))) (more (boolean false) (more (boolean true) end)))) ∷ []))) end))) end))) ∷ node Kind.CallExpression 26 (more (child (node Kind.IdentifierReference 27 (more (string (codes "_s")) end))) (more (list end) (more (boolean false) end))) ∷ []))) end) ∷ []))) (more (boolean false) end))))) (more no_string end)) ∷ []))) end))

abbrev pub generated_own_name_in_a_heritage : List LedgerEntry
generated_own_name_in_a_heritage = record { name = codes "_Class"; kind = GeneratedKind.ClassTemp (record { 0 = 4 }) } ∷ record { name = codes "_"; kind = GeneratedKind.Private (record { 0 = 4 }) } ∷ record { name = codes "_s"; kind = GeneratedKind.Closure } ∷ []

abbrev pub options_own_name_in_a_heritage : Options
options_own_name_in_a_heritage = options_of true None false

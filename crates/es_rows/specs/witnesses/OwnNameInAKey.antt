-- Printed by tools/rows/witnesses.js.
use Rattle.std.specs.Prelude.{ℕ, List, [], ◌∷◌, true, false, codes, None}
use Rattle.es_base.specs.Tree.{Tree, end, more, child, absent, list, string, no_string, boolean, trees}
use Rattle.es_base.specs.declared.kind.Kind.{Kind}
use Rattle.es_base.specs.declared.ledger.GeneratedKind.{GeneratedKind}
use Rattle.es_base.specs.declared.ledger.LedgerEntry.{LedgerEntry}
use Rattle.es_steps.specs.Generated.{node}
use Rattle.es_steps.specs.Options.{options_of}
use Rattle.es_steps.specs.declared.options.Options.{Options}

-- `f(class { [k()]() {} static { g(); } });`
abbrev pub source_own_name_in_a_key : Tree
source_own_name_in_a_key = node Kind.Program 0 (more (string (codes "script")) (more (list (trees (node Kind.ExpressionStatement 1 (more (child (node Kind.CallExpression 2 (more (child (node Kind.IdentifierReference 3 (more (string (codes "f")) end))) (more (list (trees (node Kind.ClassExpression 4 (more absent (more absent (more (child (node Kind.ClassBody 5 (more (list (trees (node Kind.MethodDefinition 6 (more (child (node Kind.CallExpression 7 (more (child (node Kind.IdentifierReference 8 (more (string (codes "k")) end))) (more (list end) (more (boolean false) end))))) (more (child (node Kind.FunctionExpression 9 (more absent (more (list end) (more (child (node Kind.BlockStatement 10 (more (list end) end))) (more (boolean false) (more (boolean false) end))))))) (more (string (codes "method")) (more (boolean true) (more (boolean false) end))))) ∷ node Kind.StaticBlock 11 (more (list (trees (node Kind.ExpressionStatement 12 (more (child (node Kind.CallExpression 13 (more (child (node Kind.IdentifierReference 14 (more (string (codes "g")) end))) (more (list end) (more (boolean false) end))))) (more no_string end)) ∷ []))) end) ∷ []))) end))) end))) ∷ []))) (more (boolean false) end))))) (more no_string end)) ∷ []))) end))

-- the generated own name of a class read in the key of a method, where `var _s; f((class { [k()]() {} static #_ = _s = () => (g(), this); }, _s()));` is right
abbrev pub output_own_name_in_a_key : Tree
output_own_name_in_a_key = node Kind.Program 0 (more (string (codes "script")) (more (list (trees (node Kind.VariableDeclaration 15 (more (string (codes "var")) (more (list (trees (node Kind.VariableDeclarator 16 (more (child (node Kind.BindingIdentifier 17 (more (string (codes "_s")) end))) (more absent end)) ∷ []))) end)) ∷ node Kind.ExpressionStatement 1 (more (child (node Kind.CallExpression 2 (more (child (node Kind.IdentifierReference 3 (more (string (codes "f")) end))) (more (list (trees (node Kind.SequenceExpression 18 (more (list (trees (node Kind.ClassExpression 4 (more (child (node Kind.BindingIdentifier 19 (more (string (codes "_Class")) end))) (more absent (more (child (node Kind.ClassBody 5 (more (list (trees (node Kind.MethodDefinition 6 (more (child (node Kind.SequenceExpression 20 (more (list (trees (node Kind.IdentifierReference 21 (more (string (codes "_Class")) end) ∷ node Kind.CallExpression 7 (more (child (node Kind.IdentifierReference 8 (more (string (codes "k")) end))) (more (list end) (more (boolean false) end))) ∷ []))) end))) (more (child (node Kind.FunctionExpression 9 (more absent (more (list end) (more (child (node Kind.BlockStatement 10 (more (list end) end))) (more (boolean false) (more (boolean false) end))))))) (more (string (codes "method")) (more (boolean true) (more (boolean false) end))))) ∷ node Kind.PropertyDefinition 22 (more (child (node Kind.PrivateIdentifier 23 (more (string (codes "_")) end))) (more (child (node Kind.AssignmentExpression 24 (more (string (codes "=")) (more (child (node Kind.IdentifierReference 25 (more (string (codes "_s")) end))) (more (child (node Kind.ArrowFunctionExpression 26 (more (list end) (more (child (node Kind.SequenceExpression 27 (more (list (trees (node Kind.CallExpression 13 (more (child (node Kind.IdentifierReference 14 (more (string (codes "g")) end))) (more (list end) (more (boolean false) end))) ∷ node Kind.ThisExpression 28 end ∷ []))) end))) (more (boolean false) end))))) end))))) (more (boolean false) (more (boolean true) end)))) ∷ []))) end))) end))) ∷ node Kind.CallExpression 29 (more (child (node Kind.IdentifierReference 30 (more (string (codes "_s")) end))) (more (list end) (more (boolean false) end))) ∷ []))) end) ∷ []))) (more (boolean false) end))))) (more no_string end)) ∷ []))) end))

abbrev pub generated_own_name_in_a_key : List LedgerEntry
generated_own_name_in_a_key = record { name = codes "_Class"; kind = GeneratedKind.ClassTemp (record { 0 = 4 }) } ∷ record { name = codes "_"; kind = GeneratedKind.Private (record { 0 = 4 }) } ∷ record { name = codes "_s"; kind = GeneratedKind.Closure } ∷ []

abbrev pub options_own_name_in_a_key : Options
options_own_name_in_a_key = options_of true None false

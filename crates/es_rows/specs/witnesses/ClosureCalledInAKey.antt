-- Printed by tools/rows/witnesses.js.
use Rattle.std.specs.Prelude.{ℕ, List, [], ◌∷◌, true, false, codes, None}
use Rattle.es_base.specs.Tree.{Tree, end, more, child, absent, list, string, boolean, literal, trees}
use Rattle.es_base.specs.declared.kind.Kind.{Kind}
use Rattle.es_base.specs.declared.ledger.GeneratedKind.{GeneratedKind}
use Rattle.es_base.specs.declared.ledger.LedgerEntry.{LedgerEntry}
use Rattle.es_base.specs.declared.literal.LiteralValue.TheVariants as literal_value
use Rattle.es_steps.specs.Generated.{node}
use Rattle.es_steps.specs.Options.{options_of}
use Rattle.es_steps.specs.declared.options.Options.{Options}

-- `class C { static x = 1; static {} [k()]() {} }`
abbrev pub source_closure_called_in_a_key : Tree
source_closure_called_in_a_key = node Kind.Program 0 (more (string (codes "script")) (more (list (trees (node Kind.ClassDeclaration 1 (more (child (node Kind.BindingIdentifier 2 (more (string (codes "C")) end))) (more absent (more (child (node Kind.ClassBody 3 (more (list (trees (node Kind.PropertyDefinition 4 (more (child (node Kind.IdentifierName 5 (more (string (codes "x")) end))) (more (child (node Kind.Literal 6 (more (literal (literal_value.Number (codes "1"))) end))) (more (boolean false) (more (boolean true) end)))) ∷ node Kind.StaticBlock 7 (more (list end) end) ∷ node Kind.MethodDefinition 8 (more (child (node Kind.CallExpression 9 (more (child (node Kind.IdentifierReference 10 (more (string (codes "k")) end))) (more (list end) (more (boolean false) end))))) (more (child (node Kind.FunctionExpression 11 (more absent (more (list end) (more (child (node Kind.BlockStatement 12 (more (list end) end))) (more (boolean false) (more (boolean false) end))))))) (more (string (codes "method")) (more (boolean true) (more (boolean false) end))))) ∷ []))) end))) end))) ∷ []))) end))

-- a closure of a static element called in a key, which is evaluated in front of it, where `class C { static x = 1; [k()]() {} }` is right
abbrev pub output_closure_called_in_a_key : Tree
output_closure_called_in_a_key = node Kind.Program 0 (more (string (codes "script")) (more (list (trees (node Kind.VariableDeclaration 13 (more (string (codes "var")) (more (list (trees (node Kind.VariableDeclarator 14 (more (child (node Kind.BindingIdentifier 15 (more (string (codes "_staticBlock")) end))) (more absent end)) ∷ []))) end)) ∷ node Kind.ClassDeclaration 1 (more (child (node Kind.BindingIdentifier 2 (more (string (codes "C")) end))) (more absent (more (child (node Kind.ClassBody 3 (more (list (trees (node Kind.PropertyDefinition 4 (more (child (node Kind.IdentifierName 5 (more (string (codes "x")) end))) (more (child (node Kind.CallExpression 16 (more (child (node Kind.ArrowFunctionExpression 17 (more (list (trees (node Kind.BindingIdentifier 18 (more (string (codes "_v")) end) ∷ []))) (more (child (node Kind.SequenceExpression 19 (more (list (trees (node Kind.AssignmentExpression 20 (more (string (codes "=")) (more (child (node Kind.IdentifierReference 21 (more (string (codes "_staticBlock")) end))) (more (child (node Kind.ArrowFunctionExpression 22 (more (list end) (more (child (node Kind.ThisExpression 23 end)) (more (boolean false) end))))) end))) ∷ node Kind.IdentifierReference 24 (more (string (codes "_v")) end) ∷ []))) end))) (more (boolean false) end))))) (more (list (trees (node Kind.Literal 6 (more (literal (literal_value.Number (codes "1"))) end) ∷ []))) (more (boolean false) end))))) (more (boolean false) (more (boolean true) end)))) ∷ node Kind.MethodDefinition 8 (more (child (node Kind.SequenceExpression 25 (more (list (trees (node Kind.CallExpression 26 (more (child (node Kind.IdentifierReference 27 (more (string (codes "_staticBlock")) end))) (more (list end) (more (boolean false) end))) ∷ node Kind.CallExpression 9 (more (child (node Kind.IdentifierReference 10 (more (string (codes "k")) end))) (more (list end) (more (boolean false) end))) ∷ []))) end))) (more (child (node Kind.FunctionExpression 11 (more absent (more (list end) (more (child (node Kind.BlockStatement 12 (more (list end) end))) (more (boolean false) (more (boolean false) end))))))) (more (string (codes "method")) (more (boolean true) (more (boolean false) end))))) ∷ []))) end))) end))) ∷ []))) end))

abbrev pub generated_closure_called_in_a_key : List LedgerEntry
generated_closure_called_in_a_key = record { name = codes "_staticBlock"; kind = GeneratedKind.Closure } ∷ record { name = codes "_v"; kind = GeneratedKind.Param } ∷ []

abbrev pub options_closure_called_in_a_key : Options
options_closure_called_in_a_key = options_of true None false

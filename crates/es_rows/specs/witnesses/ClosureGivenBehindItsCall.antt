-- Printed by tools/rows/witnesses.js.
use Rattle.std.specs.Prelude.{ℕ, List, [], ◌∷◌, true, false, codes, None}
use Rattle.es_base.specs.Tree.{Tree, end, more, child, absent, list, string, no_string, boolean, literal, trees}
use Rattle.es_base.specs.declared.kind.Kind.{Kind}
use Rattle.es_base.specs.declared.ledger.GeneratedKind.{GeneratedKind}
use Rattle.es_base.specs.declared.ledger.LedgerEntry.{LedgerEntry}
use Rattle.es_base.specs.declared.literal.LiteralValue.TheVariants as literal_value
use Rattle.es_steps.specs.Generated.{node}
use Rattle.es_steps.specs.Options.{options_of}
use Rattle.es_steps.specs.declared.options.Options.{Options}

-- `class A { static a = new A(); static b = 1; x = class { static { g(); } }; }`
abbrev pub source_closure_given_behind_its_call : Tree
source_closure_given_behind_its_call = node Kind.Program 0 (more (string (codes "script")) (more (list (trees (node Kind.ClassDeclaration 1 (more (child (node Kind.BindingIdentifier 2 (more (string (codes "A")) end))) (more absent (more (child (node Kind.ClassBody 3 (more (list (trees (node Kind.PropertyDefinition 4 (more (child (node Kind.IdentifierName 5 (more (string (codes "a")) end))) (more (child (node Kind.NewExpression 6 (more (child (node Kind.IdentifierReference 7 (more (string (codes "A")) end))) (more (list end) end)))) (more (boolean false) (more (boolean true) end)))) ∷ node Kind.PropertyDefinition 8 (more (child (node Kind.IdentifierName 9 (more (string (codes "b")) end))) (more (child (node Kind.Literal 10 (more (literal (literal_value.Number (codes "1"))) end))) (more (boolean false) (more (boolean true) end)))) ∷ node Kind.PropertyDefinition 11 (more (child (node Kind.IdentifierName 12 (more (string (codes "x")) end))) (more (child (node Kind.ClassExpression 13 (more absent (more absent (more (child (node Kind.ClassBody 14 (more (list (trees (node Kind.StaticBlock 15 (more (list (trees (node Kind.ExpressionStatement 16 (more (child (node Kind.CallExpression 17 (more (child (node Kind.IdentifierReference 18 (more (string (codes "g")) end))) (more (list end) (more (boolean false) end))))) (more no_string end)) ∷ []))) end) ∷ []))) end))) end))))) (more (boolean false) (more (boolean false) end)))) ∷ []))) end))) end))) ∷ []))) end))

-- a closure that is given in a static element, called in a field of an instance that a static element in front constructs, where `class A { static a = new A(); static b = 1; x = class {}; }` is right
abbrev pub output_closure_given_behind_its_call : Tree
output_closure_given_behind_its_call = node Kind.Program 0 (more (string (codes "script")) (more (list (trees (node Kind.VariableDeclaration 19 (more (string (codes "var")) (more (list (trees (node Kind.VariableDeclarator 20 (more (child (node Kind.BindingIdentifier 21 (more (string (codes "_c")) end))) (more absent end)) ∷ []))) end)) ∷ node Kind.ClassDeclaration 1 (more (child (node Kind.BindingIdentifier 2 (more (string (codes "A")) end))) (more absent (more (child (node Kind.ClassBody 3 (more (list (trees (node Kind.PropertyDefinition 4 (more (child (node Kind.IdentifierName 5 (more (string (codes "a")) end))) (more (child (node Kind.NewExpression 6 (more (child (node Kind.IdentifierReference 7 (more (string (codes "A")) end))) (more (list end) end)))) (more (boolean false) (more (boolean true) end)))) ∷ node Kind.PropertyDefinition 8 (more (child (node Kind.IdentifierName 9 (more (string (codes "b")) end))) (more (child (node Kind.SequenceExpression 15 (more (list (trees (node Kind.AssignmentExpression 15 (more (string (codes "=")) (more (child (node Kind.IdentifierReference 16 (more (string (codes "_c")) end))) (more (child (node Kind.ArrowFunctionExpression 15 (more (list end) (more (child (node Kind.CallExpression 17 (more (child (node Kind.IdentifierReference 18 (more (string (codes "g")) end))) (more (list end) (more (boolean false) end))))) (more (boolean false) end))))) end))) ∷ node Kind.Literal 10 (more (literal (literal_value.Number (codes "1"))) end) ∷ []))) end))) (more (boolean false) (more (boolean true) end)))) ∷ node Kind.PropertyDefinition 11 (more (child (node Kind.IdentifierName 12 (more (string (codes "x")) end))) (more (child (node Kind.SequenceExpression 22 (more (list (trees (node Kind.CallExpression 23 (more (child (node Kind.IdentifierReference 24 (more (string (codes "_c")) end))) (more (list end) (more (boolean false) end))) ∷ node Kind.ClassExpression 13 (more absent (more absent (more (child (node Kind.ClassBody 14 (more (list end) end))) end))) ∷ []))) end))) (more (boolean false) (more (boolean false) end)))) ∷ []))) end))) end))) ∷ []))) end))

abbrev pub generated_closure_given_behind_its_call : List LedgerEntry
generated_closure_given_behind_its_call = record { name = codes "_c"; kind = GeneratedKind.Closure } ∷ []

abbrev pub options_closure_given_behind_its_call : Options
options_closure_given_behind_its_call = options_of true None false

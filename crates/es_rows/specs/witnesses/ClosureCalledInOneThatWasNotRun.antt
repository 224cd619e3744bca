-- Printed by tools/rows/witnesses.js.
use Rattle.std.specs.Prelude.{ℕ, List, [], ◌∷◌, true, false, codes, None}
use Rattle.es_base.specs.Tree.{Tree, end, more, child, absent, list, string, no_string, boolean, literal, trees}
use Rattle.es_base.specs.declared.kind.Kind.{Kind}
use Rattle.es_base.specs.declared.ledger.GeneratedKind.{GeneratedKind}
use Rattle.es_base.specs.declared.ledger.LedgerEntry.{LedgerEntry}
use Rattle.es_base.specs.declared.literal.LiteralValue.TheVariants as literal_value
use Rattle.es_steps.specs.Generated.{node}
use Rattle.es_steps.specs.Options.{options_of}
use Rattle.es_steps.specs.declared.options.Options.{Options}

-- `function h() { class A { static { f(), x; } } } let x = 1;`
abbrev pub source_closure_called_in_one_that_was_not_run : Tree
source_closure_called_in_one_that_was_not_run = node Kind.Program 0 (more (string (codes "script")) (more (list (trees (node Kind.FunctionDeclaration 1 (more (child (node Kind.BindingIdentifier 2 (more (string (codes "h")) end))) (more (list end) (more (child (node Kind.BlockStatement 3 (more (list (trees (node Kind.ClassDeclaration 4 (more (child (node Kind.BindingIdentifier 5 (more (string (codes "A")) end))) (more absent (more (child (node Kind.ClassBody 6 (more (list (trees (node Kind.StaticBlock 7 (more (list (trees (node Kind.ExpressionStatement 8 (more (child (node Kind.SequenceExpression 9 (more (list (trees (node Kind.CallExpression 10 (more (child (node Kind.IdentifierReference 11 (more (string (codes "f")) end))) (more (list end) (more (boolean false) end))) ∷ node Kind.IdentifierReference 12 (more (string (codes "x")) end) ∷ []))) end))) (more no_string end)) ∷ []))) end) ∷ []))) end))) end))) ∷ []))) end))) (more (boolean false) (more (boolean false) end))))) ∷ node Kind.VariableDeclaration 13 (more (string (codes "let")) (more (list (trees (node Kind.VariableDeclarator 14 (more (child (node Kind.BindingIdentifier 15 (more (string (codes "x")) end))) (more (child (node Kind.Literal 16 (more (literal (literal_value.Number (codes "1"))) end))) end)) ∷ []))) end)) ∷ []))) end))

-- a name in its dead zone is read in front of an event of a closure, which another closure calls that was not run yet: `function h() { var _c, _d, _e; class A { } _d = () => f(), _c = () => _d(), _e = () => x, _e(), _c(); } let x = 1;`
abbrev pub output_closure_called_in_one_that_was_not_run : Tree
output_closure_called_in_one_that_was_not_run = node Kind.Program 0 (more (string (codes "script")) (more (list (trees (node Kind.FunctionDeclaration 1 (more (child (node Kind.BindingIdentifier 2 (more (string (codes "h")) end))) (more (list end) (more (child (node Kind.BlockStatement 3 (more (list (trees (node Kind.VariableDeclaration 17 (more (string (codes "var")) (more (list (trees (node Kind.VariableDeclarator 18 (more (child (node Kind.BindingIdentifier 19 (more (string (codes "_c")) end))) (more absent end)) ∷ node Kind.VariableDeclarator 20 (more (child (node Kind.BindingIdentifier 21 (more (string (codes "_d")) end))) (more absent end)) ∷ node Kind.VariableDeclarator 22 (more (child (node Kind.BindingIdentifier 23 (more (string (codes "_e")) end))) (more absent end)) ∷ []))) end)) ∷ node Kind.ClassDeclaration 4 (more (child (node Kind.BindingIdentifier 5 (more (string (codes "A")) end))) (more absent (more (child (node Kind.ClassBody 6 (more (list end) end))) end))) ∷ node Kind.ExpressionStatement 8 (more (child (node Kind.SequenceExpression 9 (more (list (trees (node Kind.AssignmentExpression 24 (more (string (codes "=")) (more (child (node Kind.IdentifierReference 25 (more (string (codes "_d")) end))) (more (child (node Kind.ArrowFunctionExpression 26 (more (list end) (more (child (node Kind.CallExpression 10 (more (child (node Kind.IdentifierReference 11 (more (string (codes "f")) end))) (more (list end) (more (boolean false) end))))) (more (boolean false) end))))) end))) ∷ node Kind.AssignmentExpression 27 (more (string (codes "=")) (more (child (node Kind.IdentifierReference 28 (more (string (codes "_c")) end))) (more (child (node Kind.ArrowFunctionExpression 29 (more (list end) (more (child (node Kind.CallExpression 30 (more (child (node Kind.IdentifierReference 31 (more (string (codes "_d")) end))) (more (list end) (more (boolean false) end))))) (more (boolean false) end))))) end))) ∷ node Kind.AssignmentExpression 32 (more (string (codes "=")) (more (child (node Kind.IdentifierReference 33 (more (string (codes "_e")) end))) (more (child (node Kind.ArrowFunctionExpression 34 (more (list end) (more (child (node Kind.IdentifierReference 12 (more (string (codes "x")) end))) (more (boolean false) end))))) end))) ∷ node Kind.CallExpression 35 (more (child (node Kind.IdentifierReference 36 (more (string (codes "_e")) end))) (more (list end) (more (boolean false) end))) ∷ node Kind.CallExpression 37 (more (child (node Kind.IdentifierReference 38 (more (string (codes "_c")) end))) (more (list end) (more (boolean false) end))) ∷ []))) end))) (more no_string end)) ∷ []))) end))) (more (boolean false) (more (boolean false) end))))) ∷ node Kind.VariableDeclaration 13 (more (string (codes "let")) (more (list (trees (node Kind.VariableDeclarator 14 (more (child (node Kind.BindingIdentifier 15 (more (string (codes "x")) end))) (more (child (node Kind.Literal 16 (more (literal (literal_value.Number (codes "1"))) end))) end)) ∷ []))) end)) ∷ []))) end))

abbrev pub generated_closure_called_in_one_that_was_not_run : List LedgerEntry
generated_closure_called_in_one_that_was_not_run = record { name = codes "_c"; kind = GeneratedKind.Closure } ∷ record { name = codes "_d"; kind = GeneratedKind.Closure } ∷ record { name = codes "_e"; kind = GeneratedKind.Closure } ∷ []

abbrev pub options_closure_called_in_one_that_was_not_run : Options
options_closure_called_in_one_that_was_not_run = options_of true None false

-- Printed by tools/rows/witnesses.js.
use Rattle.std.specs.Prelude.{ℕ, List, [], ◌∷◌, false, codes, None}
use Rattle.es_base.specs.Tree.{Tree, end, more, child, absent, list, string, no_string, boolean, trees}
use Rattle.es_base.specs.declared.kind.Kind.{Kind}
use Rattle.es_base.specs.declared.ledger.LedgerEntry.{LedgerEntry}
use Rattle.es_steps.specs.Generated.{node}
use Rattle.es_steps.specs.Options.{options_of}
use Rattle.es_steps.specs.declared.options.Options.{Options}

-- a `let` of a loop and one in front of it: `for (; c();) { let y; y = f(); p(() => y); }`
abbrev pub first_let_out_of_a_loop : Tree
first_let_out_of_a_loop = node Kind.Program 0 (more (string (codes "script")) (more (list (trees (node Kind.ForStatement 1 (more absent (more (child (node Kind.CallExpression 2 (more (child (node Kind.IdentifierReference 3 (more (string (codes "c")) end))) (more (list end) (more (boolean false) end))))) (more absent (more (child (node Kind.BlockStatement 4 (more (list (trees (node Kind.VariableDeclaration 5 (more (string (codes "let")) (more (list (trees (node Kind.VariableDeclarator 6 (more (child (node Kind.BindingIdentifier 7 (more (string (codes "y")) end))) (more absent end)) ∷ []))) end)) ∷ node Kind.ExpressionStatement 8 (more (child (node Kind.AssignmentExpression 9 (more (string (codes "=")) (more (child (node Kind.IdentifierReference 10 (more (string (codes "y")) end))) (more (child (node Kind.CallExpression 11 (more (child (node Kind.IdentifierReference 12 (more (string (codes "f")) end))) (more (list end) (more (boolean false) end))))) end))))) (more no_string end)) ∷ node Kind.ExpressionStatement 13 (more (child (node Kind.CallExpression 14 (more (child (node Kind.IdentifierReference 15 (more (string (codes "p")) end))) (more (list (trees (node Kind.ArrowFunctionExpression 16 (more (list end) (more (child (node Kind.IdentifierReference 17 (more (string (codes "y")) end))) (more (boolean false) end))) ∷ []))) (more (boolean false) end))))) (more no_string end)) ∷ []))) end))) end)))) ∷ []))) end))

-- `let y; for (; c();) { y = f(); p(() => y); }`, with numbers of the first
abbrev pub second_let_out_of_a_loop : Tree
second_let_out_of_a_loop = node Kind.Program 0 (more (string (codes "script")) (more (list (trees (node Kind.VariableDeclaration 5 (more (string (codes "let")) (more (list (trees (node Kind.VariableDeclarator 6 (more (child (node Kind.BindingIdentifier 7 (more (string (codes "y")) end))) (more absent end)) ∷ []))) end)) ∷ node Kind.ForStatement 1 (more absent (more (child (node Kind.CallExpression 2 (more (child (node Kind.IdentifierReference 3 (more (string (codes "c")) end))) (more (list end) (more (boolean false) end))))) (more absent (more (child (node Kind.BlockStatement 4 (more (list (trees (node Kind.ExpressionStatement 8 (more (child (node Kind.AssignmentExpression 9 (more (string (codes "=")) (more (child (node Kind.IdentifierReference 10 (more (string (codes "y")) end))) (more (child (node Kind.CallExpression 11 (more (child (node Kind.IdentifierReference 12 (more (string (codes "f")) end))) (more (list end) (more (boolean false) end))))) end))))) (more no_string end)) ∷ node Kind.ExpressionStatement 13 (more (child (node Kind.CallExpression 14 (more (child (node Kind.IdentifierReference 15 (more (string (codes "p")) end))) (more (list (trees (node Kind.ArrowFunctionExpression 16 (more (list end) (more (child (node Kind.IdentifierReference 17 (more (string (codes "y")) end))) (more (boolean false) end))) ∷ []))) (more (boolean false) end))))) (more no_string end)) ∷ []))) end))) end)))) ∷ []))) end))

abbrev pub options_let_out_of_a_loop : Options
options_let_out_of_a_loop = options_of false None false

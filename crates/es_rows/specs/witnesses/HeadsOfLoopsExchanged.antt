-- Printed by tools/rows/witnesses.js.
use Rattle.std.specs.Prelude.{ℕ, List, [], ◌∷◌, false, codes, None}
use Rattle.es_base.specs.Tree.{Tree, end, more, child, absent, list, string, no_string, boolean, literal, trees}
use Rattle.es_base.specs.declared.kind.Kind.{Kind}
use Rattle.es_base.specs.declared.ledger.LedgerEntry.{LedgerEntry}
use Rattle.es_base.specs.declared.literal.LiteralValue.TheVariants as literal_value
use Rattle.es_steps.specs.Generated.{node}
use Rattle.es_steps.specs.Options.{options_of}
use Rattle.es_steps.specs.declared.options.Options.{Options}

-- a `let` without a value at the head of a loop, and at that of a loop in it: `for (let x; c(1);) { for (void 0; c(2);) { h(x); x = 1; } }`
abbrev pub first_heads_of_loops_exchanged : Tree
first_heads_of_loops_exchanged = node Kind.Program 0 (more (string (codes "script")) (more (list (trees (node Kind.ForStatement 1 (more (child (node Kind.VariableDeclaration 2 (more (string (codes "let")) (more (list (trees (node Kind.VariableDeclarator 3 (more (child (node Kind.BindingIdentifier 4 (more (string (codes "x")) end))) (more absent end)) ∷ []))) end)))) (more (child (node Kind.CallExpression 5 (more (child (node Kind.IdentifierReference 6 (more (string (codes "c")) end))) (more (list (trees (node Kind.Literal 7 (more (literal (literal_value.Number (codes "1"))) end) ∷ []))) (more (boolean false) end))))) (more absent (more (child (node Kind.BlockStatement 8 (more (list (trees (node Kind.ForStatement 9 (more (child (node Kind.UnaryExpression 10 (more (string (codes "void")) (more (child (node Kind.Literal 11 (more (literal (literal_value.Number (codes "0"))) end))) end)))) (more (child (node Kind.CallExpression 12 (more (child (node Kind.IdentifierReference 13 (more (string (codes "c")) end))) (more (list (trees (node Kind.Literal 14 (more (literal (literal_value.Number (codes "2"))) end) ∷ []))) (more (boolean false) end))))) (more absent (more (child (node Kind.BlockStatement 15 (more (list (trees (node Kind.ExpressionStatement 16 (more (child (node Kind.CallExpression 17 (more (child (node Kind.IdentifierReference 18 (more (string (codes "h")) end))) (more (list (trees (node Kind.IdentifierReference 19 (more (string (codes "x")) end) ∷ []))) (more (boolean false) end))))) (more no_string end)) ∷ node Kind.ExpressionStatement 20 (more (child (node Kind.AssignmentExpression 21 (more (string (codes "=")) (more (child (node Kind.IdentifierReference 22 (more (string (codes "x")) end))) (more (child (node Kind.Literal 23 (more (literal (literal_value.Number (codes "1"))) end))) end))))) (more no_string end)) ∷ []))) end))) end)))) ∷ []))) end))) end)))) ∷ []))) end))

-- `for (void 0; c(1);) { for (let x; c(2);) { h(x); x = 1; } }`, with numbers of the first
abbrev pub second_heads_of_loops_exchanged : Tree
second_heads_of_loops_exchanged = node Kind.Program 0 (more (string (codes "script")) (more (list (trees (node Kind.ForStatement 1 (more (child (node Kind.UnaryExpression 10 (more (string (codes "void")) (more (child (node Kind.Literal 11 (more (literal (literal_value.Number (codes "0"))) end))) end)))) (more (child (node Kind.CallExpression 5 (more (child (node Kind.IdentifierReference 6 (more (string (codes "c")) end))) (more (list (trees (node Kind.Literal 7 (more (literal (literal_value.Number (codes "1"))) end) ∷ []))) (more (boolean false) end))))) (more absent (more (child (node Kind.BlockStatement 8 (more (list (trees (node Kind.ForStatement 9 (more (child (node Kind.VariableDeclaration 2 (more (string (codes "let")) (more (list (trees (node Kind.VariableDeclarator 3 (more (child (node Kind.BindingIdentifier 4 (more (string (codes "x")) end))) (more absent end)) ∷ []))) end)))) (more (child (node Kind.CallExpression 12 (more (child (node Kind.IdentifierReference 13 (more (string (codes "c")) end))) (more (list (trees (node Kind.Literal 14 (more (literal (literal_value.Number (codes "2"))) end) ∷ []))) (more (boolean false) end))))) (more absent (more (child (node Kind.BlockStatement 15 (more (list (trees (node Kind.ExpressionStatement 16 (more (child (node Kind.CallExpression 17 (more (child (node Kind.IdentifierReference 18 (more (string (codes "h")) end))) (more (list (trees (node Kind.IdentifierReference 19 (more (string (codes "x")) end) ∷ []))) (more (boolean false) end))))) (more no_string end)) ∷ node Kind.ExpressionStatement 20 (more (child (node Kind.AssignmentExpression 21 (more (string (codes "=")) (more (child (node Kind.IdentifierReference 22 (more (string (codes "x")) end))) (more (child (node Kind.Literal 23 (more (literal (literal_value.Number (codes "1"))) end))) end))))) (more no_string end)) ∷ []))) end))) end)))) ∷ []))) end))) end)))) ∷ []))) end))

abbrev pub options_heads_of_loops_exchanged : Options
options_heads_of_loops_exchanged = options_of false None false

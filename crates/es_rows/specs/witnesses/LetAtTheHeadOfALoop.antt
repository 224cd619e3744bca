-- Printed by tools/rows/witnesses.js.
use Rattle.std.specs.Prelude.{ℕ, List, [], ◌∷◌, false, codes, None}
use Rattle.es_base.specs.Tree.{Tree, end, more, child, absent, list, string, no_string, boolean, literal, trees}
use Rattle.es_base.specs.declared.kind.Kind.{Kind}
use Rattle.es_base.specs.declared.ledger.LedgerEntry.{LedgerEntry}
use Rattle.es_base.specs.declared.literal.LiteralValue.TheVariants as literal_value
use Rattle.es_steps.specs.Generated.{node}
use Rattle.es_steps.specs.Options.{options_of}
use Rattle.es_steps.specs.declared.options.Options.{Options}

-- a `let` in front of a loop, and at its head: `{ let x; for (void 0; c();) { k(() => h(x)); x = v(); } }`
abbrev pub first_let_at_the_head_of_a_loop : Tree
first_let_at_the_head_of_a_loop = node Kind.Program 0 (more (string (codes "script")) (more (list (trees (node Kind.BlockStatement 1 (more (list (trees (node Kind.VariableDeclaration 2 (more (string (codes "let")) (more (list (trees (node Kind.VariableDeclarator 3 (more (child (node Kind.BindingIdentifier 4 (more (string (codes "x")) end))) (more absent end)) ∷ []))) end)) ∷ node Kind.ForStatement 5 (more (child (node Kind.UnaryExpression 6 (more (string (codes "void")) (more (child (node Kind.Literal 7 (more (literal (literal_value.Number (codes "0"))) end))) end)))) (more (child (node Kind.CallExpression 8 (more (child (node Kind.IdentifierReference 9 (more (string (codes "c")) end))) (more (list end) (more (boolean false) end))))) (more absent (more (child (node Kind.BlockStatement 10 (more (list (trees (node Kind.ExpressionStatement 11 (more (child (node Kind.CallExpression 12 (more (child (node Kind.IdentifierReference 13 (more (string (codes "k")) end))) (more (list (trees (node Kind.ArrowFunctionExpression 14 (more (list end) (more (child (node Kind.CallExpression 15 (more (child (node Kind.IdentifierReference 16 (more (string (codes "h")) end))) (more (list (trees (node Kind.IdentifierReference 17 (more (string (codes "x")) end) ∷ []))) (more (boolean false) end))))) (more (boolean false) end))) ∷ []))) (more (boolean false) end))))) (more no_string end)) ∷ node Kind.ExpressionStatement 18 (more (child (node Kind.AssignmentExpression 19 (more (string (codes "=")) (more (child (node Kind.IdentifierReference 20 (more (string (codes "x")) end))) (more (child (node Kind.CallExpression 21 (more (child (node Kind.IdentifierReference 22 (more (string (codes "v")) end))) (more (list end) (more (boolean false) end))))) end))))) (more no_string end)) ∷ []))) end))) end)))) ∷ []))) end) ∷ []))) end))

-- `{ for (let x; c();) { k(() => h(x)); x = v(); } } ; ;`, with numbers of the first
abbrev pub second_let_at_the_head_of_a_loop : Tree
second_let_at_the_head_of_a_loop = node Kind.Program 2 (more (string (codes "script")) (more (list (trees (node Kind.BlockStatement 1 (more (list (trees (node Kind.ForStatement 5 (more (child (node Kind.VariableDeclaration 0 (more (string (codes "let")) (more (list (trees (node Kind.VariableDeclarator 3 (more (child (node Kind.BindingIdentifier 4 (more (string (codes "x")) end))) (more absent end)) ∷ []))) end)))) (more (child (node Kind.CallExpression 8 (more (child (node Kind.IdentifierReference 9 (more (string (codes "c")) end))) (more (list end) (more (boolean false) end))))) (more absent (more (child (node Kind.BlockStatement 10 (more (list (trees (node Kind.ExpressionStatement 11 (more (child (node Kind.CallExpression 12 (more (child (node Kind.IdentifierReference 13 (more (string (codes "k")) end))) (more (list (trees (node Kind.ArrowFunctionExpression 14 (more (list end) (more (child (node Kind.CallExpression 15 (more (child (node Kind.IdentifierReference 16 (more (string (codes "h")) end))) (more (list (trees (node Kind.IdentifierReference 17 (more (string (codes "x")) end) ∷ []))) (more (boolean false) end))))) (more (boolean false) end))) ∷ []))) (more (boolean false) end))))) (more no_string end)) ∷ node Kind.ExpressionStatement 18 (more (child (node Kind.AssignmentExpression 19 (more (string (codes "=")) (more (child (node Kind.IdentifierReference 20 (more (string (codes "x")) end))) (more (child (node Kind.CallExpression 21 (more (child (node Kind.IdentifierReference 22 (more (string (codes "v")) end))) (more (list end) (more (boolean false) end))))) end))))) (more no_string end)) ∷ []))) end))) end)))) ∷ []))) end) ∷ node Kind.EmptyStatement 6 end ∷ node Kind.EmptyStatement 7 end ∷ []))) end))

abbrev pub options_let_at_the_head_of_a_loop : Options
options_let_at_the_head_of_a_loop = options_of false None false

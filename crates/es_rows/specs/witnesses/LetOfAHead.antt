-- Printed by tools/rows/witnesses.js.
use Rattle.std.specs.Prelude.{ℕ, List, [], ◌∷◌, false, codes, None}
use Rattle.es_base.specs.Tree.{Tree, end, more, child, absent, list, string, no_string, boolean, literal, trees}
use Rattle.es_base.specs.declared.kind.Kind.{Kind}
use Rattle.es_base.specs.declared.ledger.LedgerEntry.{LedgerEntry}
use Rattle.es_base.specs.declared.literal.LiteralValue.TheVariants as literal_value
use Rattle.es_steps.specs.Generated.{node}
use Rattle.es_steps.specs.Options.{options_of}
use Rattle.es_steps.specs.declared.options.Options.{Options}

-- a `let` of the head of a `for` and one of its body: `for (let i; t(); ) { g(i); i = f(); } ;;`
abbrev pub first_let_of_a_head : Tree
first_let_of_a_head = node Kind.Program 0 (more (string (codes "script")) (more (list (trees (node Kind.ForStatement 1 (more (child (node Kind.VariableDeclaration 2 (more (string (codes "let")) (more (list (trees (node Kind.VariableDeclarator 3 (more (child (node Kind.BindingIdentifier 4 (more (string (codes "i")) end))) (more absent end)) ∷ []))) end)))) (more (child (node Kind.CallExpression 5 (more (child (node Kind.IdentifierReference 6 (more (string (codes "t")) end))) (more (list end) (more (boolean false) end))))) (more absent (more (child (node Kind.BlockStatement 7 (more (list (trees (node Kind.ExpressionStatement 8 (more (child (node Kind.CallExpression 9 (more (child (node Kind.IdentifierReference 10 (more (string (codes "g")) end))) (more (list (trees (node Kind.IdentifierReference 11 (more (string (codes "i")) end) ∷ []))) (more (boolean false) end))))) (more no_string end)) ∷ node Kind.ExpressionStatement 12 (more (child (node Kind.AssignmentExpression 13 (more (string (codes "=")) (more (child (node Kind.IdentifierReference 14 (more (string (codes "i")) end))) (more (child (node Kind.CallExpression 15 (more (child (node Kind.IdentifierReference 16 (more (string (codes "f")) end))) (more (list end) (more (boolean false) end))))) end))))) (more no_string end)) ∷ []))) end))) end)))) ∷ node Kind.EmptyStatement 17 end ∷ node Kind.EmptyStatement 18 end ∷ []))) end))

-- `for (void 0; t(); ) { let i; g(i); i = f(); }`, with numbers of the first
abbrev pub second_let_of_a_head : Tree
second_let_of_a_head = node Kind.Program 0 (more (string (codes "script")) (more (list (trees (node Kind.ForStatement 1 (more (child (node Kind.UnaryExpression 17 (more (string (codes "void")) (more (child (node Kind.Literal 18 (more (literal (literal_value.Number (codes "0"))) end))) end)))) (more (child (node Kind.CallExpression 5 (more (child (node Kind.IdentifierReference 6 (more (string (codes "t")) end))) (more (list end) (more (boolean false) end))))) (more absent (more (child (node Kind.BlockStatement 7 (more (list (trees (node Kind.VariableDeclaration 2 (more (string (codes "let")) (more (list (trees (node Kind.VariableDeclarator 3 (more (child (node Kind.BindingIdentifier 4 (more (string (codes "i")) end))) (more absent end)) ∷ []))) end)) ∷ node Kind.ExpressionStatement 8 (more (child (node Kind.CallExpression 9 (more (child (node Kind.IdentifierReference 10 (more (string (codes "g")) end))) (more (list (trees (node Kind.IdentifierReference 11 (more (string (codes "i")) end) ∷ []))) (more (boolean false) end))))) (more no_string end)) ∷ node Kind.ExpressionStatement 12 (more (child (node Kind.AssignmentExpression 13 (more (string (codes "=")) (more (child (node Kind.IdentifierReference 14 (more (string (codes "i")) end))) (more (child (node Kind.CallExpression 15 (more (child (node Kind.IdentifierReference 16 (more (string (codes "f")) end))) (more (list end) (more (boolean false) end))))) end))))) (more no_string end)) ∷ []))) end))) end)))) ∷ []))) end))

abbrev pub options_let_of_a_head : Options
options_let_of_a_head = options_of false None false

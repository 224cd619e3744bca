-- Printed by tools/rows/witnesses.js.
use Rattle.std.specs.Prelude.{ℕ, List, [], ◌∷◌, false, codes, None}
use Rattle.es_base.specs.Tree.{Tree, end, more, child, absent, list, string, no_string, boolean, trees}
use Rattle.es_base.specs.declared.kind.Kind.{Kind}
use Rattle.es_base.specs.declared.ledger.LedgerEntry.{LedgerEntry}
use Rattle.es_steps.specs.Generated.{node}
use Rattle.es_steps.specs.Options.{options_of}
use Rattle.es_steps.specs.declared.options.Options.{Options}

-- the parameters of nested catches: `try { g(); } catch (x) { try { h(); } catch (y) { f(x, y); } }`
abbrev pub first_caught_names_exchanged : Tree
first_caught_names_exchanged = node Kind.Program 0 (more (string (codes "script")) (more (list (trees (node Kind.TryStatement 1 (more (child (node Kind.BlockStatement 2 (more (list (trees (node Kind.ExpressionStatement 3 (more (child (node Kind.CallExpression 4 (more (child (node Kind.IdentifierReference 5 (more (string (codes "g")) end))) (more (list end) (more (boolean false) end))))) (more no_string end)) ∷ []))) end))) (more (child (node Kind.CatchClause 6 (more (child (node Kind.BindingIdentifier 7 (more (string (codes "x")) end))) (more (child (node Kind.BlockStatement 8 (more (list (trees (node Kind.TryStatement 9 (more (child (node Kind.BlockStatement 10 (more (list (trees (node Kind.ExpressionStatement 11 (more (child (node Kind.CallExpression 12 (more (child (node Kind.IdentifierReference 13 (more (string (codes "h")) end))) (more (list end) (more (boolean false) end))))) (more no_string end)) ∷ []))) end))) (more (child (node Kind.CatchClause 14 (more (child (node Kind.BindingIdentifier 15 (more (string (codes "y")) end))) (more (child (node Kind.BlockStatement 16 (more (list (trees (node Kind.ExpressionStatement 17 (more (child (node Kind.CallExpression 18 (more (child (node Kind.IdentifierReference 19 (more (string (codes "f")) end))) (more (list (trees (node Kind.IdentifierReference 20 (more (string (codes "x")) end) ∷ node Kind.IdentifierReference 21 (more (string (codes "y")) end) ∷ []))) (more (boolean false) end))))) (more no_string end)) ∷ []))) end))) end)))) (more absent end))) ∷ []))) end))) end)))) (more absent end))) ∷ []))) end))

-- `try { g(); } catch (y) { try { h(); } catch (x) { f(x, y); } }`, with numbers of the first
abbrev pub second_caught_names_exchanged : Tree
second_caught_names_exchanged = node Kind.Program 0 (more (string (codes "script")) (more (list (trees (node Kind.TryStatement 1 (more (child (node Kind.BlockStatement 2 (more (list (trees (node Kind.ExpressionStatement 3 (more (child (node Kind.CallExpression 4 (more (child (node Kind.IdentifierReference 5 (more (string (codes "g")) end))) (more (list end) (more (boolean false) end))))) (more no_string end)) ∷ []))) end))) (more (child (node Kind.CatchClause 6 (more (child (node Kind.BindingIdentifier 15 (more (string (codes "y")) end))) (more (child (node Kind.BlockStatement 8 (more (list (trees (node Kind.TryStatement 9 (more (child (node Kind.BlockStatement 10 (more (list (trees (node Kind.ExpressionStatement 11 (more (child (node Kind.CallExpression 12 (more (child (node Kind.IdentifierReference 13 (more (string (codes "h")) end))) (more (list end) (more (boolean false) end))))) (more no_string end)) ∷ []))) end))) (more (child (node Kind.CatchClause 14 (more (child (node Kind.BindingIdentifier 7 (more (string (codes "x")) end))) (more (child (node Kind.BlockStatement 16 (more (list (trees (node Kind.ExpressionStatement 17 (more (child (node Kind.CallExpression 18 (more (child (node Kind.IdentifierReference 19 (more (string (codes "f")) end))) (more (list (trees (node Kind.IdentifierReference 20 (more (string (codes "x")) end) ∷ node Kind.IdentifierReference 21 (more (string (codes "y")) end) ∷ []))) (more (boolean false) end))))) (more no_string end)) ∷ []))) end))) end)))) (more absent end))) ∷ []))) end))) end)))) (more absent end))) ∷ []))) end))

abbrev pub options_caught_names_exchanged : Options
options_caught_names_exchanged = options_of false None false

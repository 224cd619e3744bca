-- Printed by tools/rows/witnesses.js.
use Rattle.std.specs.Prelude.{ℕ, List, [], ◌∷◌, false, codes, None}
use Rattle.es_base.specs.Tree.{Tree, end, more, child, absent, list, string, no_string, boolean, trees}
use Rattle.es_base.specs.declared.kind.Kind.{Kind}
use Rattle.es_base.specs.declared.ledger.LedgerEntry.{LedgerEntry}
use Rattle.es_steps.specs.Generated.{node}
use Rattle.es_steps.specs.Options.{options_of}
use Rattle.es_steps.specs.declared.options.Options.{Options}

-- the names in the heads of nested loops over keys: `for (const x in p) for (const y in q) f(x, y);`
abbrev pub first_key_heads_exchanged : Tree
first_key_heads_exchanged = node Kind.Program 0 (more (string (codes "script")) (more (list (trees (node Kind.ForInStatement 1 (more (child (node Kind.VariableDeclaration 2 (more (string (codes "const")) (more (list (trees (node Kind.VariableDeclarator 3 (more (child (node Kind.BindingIdentifier 4 (more (string (codes "x")) end))) (more absent end)) ∷ []))) end)))) (more (child (node Kind.IdentifierReference 5 (more (string (codes "p")) end))) (more (child (node Kind.ForInStatement 6 (more (child (node Kind.VariableDeclaration 7 (more (string (codes "const")) (more (list (trees (node Kind.VariableDeclarator 8 (more (child (node Kind.BindingIdentifier 9 (more (string (codes "y")) end))) (more absent end)) ∷ []))) end)))) (more (child (node Kind.IdentifierReference 10 (more (string (codes "q")) end))) (more (child (node Kind.ExpressionStatement 11 (more (child (node Kind.CallExpression 12 (more (child (node Kind.IdentifierReference 13 (more (string (codes "f")) end))) (more (list (trees (node Kind.IdentifierReference 14 (more (string (codes "x")) end) ∷ node Kind.IdentifierReference 15 (more (string (codes "y")) end) ∷ []))) (more (boolean false) end))))) (more no_string end)))) end))))) end))) ∷ []))) end))

-- `for (const y in p) for (const x in q) f(x, y);`, with numbers of the first
abbrev pub second_key_heads_exchanged : Tree
second_key_heads_exchanged = node Kind.Program 0 (more (string (codes "script")) (more (list (trees (node Kind.ForInStatement 1 (more (child (node Kind.VariableDeclaration 2 (more (string (codes "const")) (more (list (trees (node Kind.VariableDeclarator 3 (more (child (node Kind.BindingIdentifier 9 (more (string (codes "y")) end))) (more absent end)) ∷ []))) end)))) (more (child (node Kind.IdentifierReference 5 (more (string (codes "p")) end))) (more (child (node Kind.ForInStatement 6 (more (child (node Kind.VariableDeclaration 7 (more (string (codes "const")) (more (list (trees (node Kind.VariableDeclarator 8 (more (child (node Kind.BindingIdentifier 4 (more (string (codes "x")) end))) (more absent end)) ∷ []))) end)))) (more (child (node Kind.IdentifierReference 10 (more (string (codes "q")) end))) (more (child (node Kind.ExpressionStatement 11 (more (child (node Kind.CallExpression 12 (more (child (node Kind.IdentifierReference 13 (more (string (codes "f")) end))) (more (list (trees (node Kind.IdentifierReference 14 (more (string (codes "x")) end) ∷ node Kind.IdentifierReference 15 (more (string (codes "y")) end) ∷ []))) (more (boolean false) end))))) (more no_string end)))) end))))) end))) ∷ []))) end))

abbrev pub options_key_heads_exchanged : Options
options_key_heads_exchanged = options_of false None false

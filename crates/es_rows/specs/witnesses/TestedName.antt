-- Printed by tools/rows/witnesses.js.
use Rattle.std.specs.Prelude.{ℕ, List, [], ◌∷◌, false, codes, None}
use Rattle.es_base.specs.Tree.{Tree, end, more, child, list, string, no_string, boolean, trees}
use Rattle.es_base.specs.declared.kind.Kind.{Kind}
use Rattle.es_base.specs.declared.ledger.LedgerEntry.{LedgerEntry}
use Rattle.es_steps.specs.Generated.{node}
use Rattle.es_steps.specs.Options.{options_of}
use Rattle.es_steps.specs.declared.options.Options.{Options}

-- what a logical operator tests: `function f(a, b) { a || g(); }`
abbrev pub first_tested_name : Tree
first_tested_name = node Kind.Program 0 (more (string (codes "script")) (more (list (trees (node Kind.FunctionDeclaration 1 (more (child (node Kind.BindingIdentifier 2 (more (string (codes "f")) end))) (more (list (trees (node Kind.BindingIdentifier 3 (more (string (codes "a")) end) ∷ node Kind.BindingIdentifier 4 (more (string (codes "b")) end) ∷ []))) (more (child (node Kind.BlockStatement 5 (more (list (trees (node Kind.ExpressionStatement 6 (more (child (node Kind.LogicalExpression 7 (more (string (codes "||")) (more (child (node Kind.IdentifierReference 8 (more (string (codes "a")) end))) (more (child (node Kind.CallExpression 9 (more (child (node Kind.IdentifierReference 10 (more (string (codes "g")) end))) (more (list end) (more (boolean false) end))))) end))))) (more no_string end)) ∷ []))) end))) (more (boolean false) (more (boolean false) end))))) ∷ []))) end))

-- `function f(a, b) { b || g(); }`, with numbers of the first
abbrev pub second_tested_name : Tree
second_tested_name = node Kind.Program 0 (more (string (codes "script")) (more (list (trees (node Kind.FunctionDeclaration 1 (more (child (node Kind.BindingIdentifier 2 (more (string (codes "f")) end))) (more (list (trees (node Kind.BindingIdentifier 3 (more (string (codes "a")) end) ∷ node Kind.BindingIdentifier 4 (more (string (codes "b")) end) ∷ []))) (more (child (node Kind.BlockStatement 5 (more (list (trees (node Kind.ExpressionStatement 6 (more (child (node Kind.LogicalExpression 7 (more (string (codes "||")) (more (child (node Kind.IdentifierReference 8 (more (string (codes "b")) end))) (more (child (node Kind.CallExpression 9 (more (child (node Kind.IdentifierReference 10 (more (string (codes "g")) end))) (more (list end) (more (boolean false) end))))) end))))) (more no_string end)) ∷ []))) end))) (more (boolean false) (more (boolean false) end))))) ∷ []))) end))

abbrev pub options_tested_name : Options
options_tested_name = options_of false None false

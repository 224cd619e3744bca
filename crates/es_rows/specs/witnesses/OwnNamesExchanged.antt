-- Printed by tools/rows/witnesses.js.
use Rattle.std.specs.Prelude.{ℕ, List, [], ◌∷◌, false, codes, None}
use Rattle.es_base.specs.Tree.{Tree, end, more, child, list, string, no_string, boolean, trees}
use Rattle.es_base.specs.declared.kind.Kind.{Kind}
use Rattle.es_base.specs.declared.ledger.LedgerEntry.{LedgerEntry}
use Rattle.es_steps.specs.Generated.{node}
use Rattle.es_steps.specs.Options.{options_of}
use Rattle.es_steps.specs.declared.options.Options.{Options}

-- the own names of function expressions: `(function f() { return function g() { f(); }; });`
abbrev pub first_own_names_exchanged : Tree
first_own_names_exchanged = node Kind.Program 0 (more (string (codes "script")) (more (list (trees (node Kind.ExpressionStatement 1 (more (child (node Kind.FunctionExpression 2 (more (child (node Kind.BindingIdentifier 3 (more (string (codes "f")) end))) (more (list end) (more (child (node Kind.BlockStatement 4 (more (list (trees (node Kind.ReturnStatement 5 (more (child (node Kind.FunctionExpression 6 (more (child (node Kind.BindingIdentifier 7 (more (string (codes "g")) end))) (more (list end) (more (child (node Kind.BlockStatement 8 (more (list (trees (node Kind.ExpressionStatement 9 (more (child (node Kind.CallExpression 10 (more (child (node Kind.IdentifierReference 11 (more (string (codes "f")) end))) (more (list end) (more (boolean false) end))))) (more no_string end)) ∷ []))) end))) (more (boolean false) (more (boolean false) end))))))) end) ∷ []))) end))) (more (boolean false) (more (boolean false) end))))))) (more no_string end)) ∷ []))) end))

-- `(function g() { return function f() { f(); }; });`, with numbers of the first
abbrev pub second_own_names_exchanged : Tree
second_own_names_exchanged = node Kind.Program 0 (more (string (codes "script")) (more (list (trees (node Kind.ExpressionStatement 1 (more (child (node Kind.FunctionExpression 2 (more (child (node Kind.BindingIdentifier 7 (more (string (codes "g")) end))) (more (list end) (more (child (node Kind.BlockStatement 4 (more (list (trees (node Kind.ReturnStatement 5 (more (child (node Kind.FunctionExpression 6 (more (child (node Kind.BindingIdentifier 3 (more (string (codes "f")) end))) (more (list end) (more (child (node Kind.BlockStatement 8 (more (list (trees (node Kind.ExpressionStatement 9 (more (child (node Kind.CallExpression 10 (more (child (node Kind.IdentifierReference 11 (more (string (codes "f")) end))) (more (list end) (more (boolean false) end))))) (more no_string end)) ∷ []))) end))) (more (boolean false) (more (boolean false) end))))))) end) ∷ []))) end))) (more (boolean false) (more (boolean false) end))))))) (more no_string end)) ∷ []))) end))

abbrev pub options_own_names_exchanged : Options
options_own_names_exchanged = options_of false None false

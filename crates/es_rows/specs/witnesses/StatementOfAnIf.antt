-- Printed by tools/rows/witnesses.js.
use Rattle.std.specs.Prelude.{ℕ, List, [], ◌∷◌, false, codes, None}
use Rattle.es_base.specs.Tree.{Tree, end, more, child, absent, list, string, no_string, boolean, trees}
use Rattle.es_base.specs.declared.kind.Kind.{Kind}
use Rattle.es_base.specs.declared.ledger.LedgerEntry.{LedgerEntry}
use Rattle.es_steps.specs.Generated.{node}
use Rattle.es_steps.specs.Options.{options_of}
use Rattle.es_steps.specs.declared.options.Options.{Options}

-- a function that is the body of an `if` is bound: `if (c) function f() {} f();`
abbrev pub first_statement_of_an_if : Tree
first_statement_of_an_if = node Kind.Program 0 (more (string (codes "script")) (more (list (trees (node Kind.IfStatement 1 (more (child (node Kind.IdentifierReference 2 (more (string (codes "c")) end))) (more (child (node Kind.FunctionDeclaration 3 (more (child (node Kind.BindingIdentifier 4 (more (string (codes "f")) end))) (more (list end) (more (child (node Kind.BlockStatement 5 (more (list end) end))) (more (boolean false) (more (boolean false) end))))))) (more absent end))) ∷ node Kind.ExpressionStatement 6 (more (child (node Kind.CallExpression 7 (more (child (node Kind.IdentifierReference 8 (more (string (codes "f")) end))) (more (list end) (more (boolean false) end))))) (more no_string end)) ∷ []))) end))

-- `if (c) function g() {} f();`, with numbers of the first
abbrev pub second_statement_of_an_if : Tree
second_statement_of_an_if = node Kind.Program 0 (more (string (codes "script")) (more (list (trees (node Kind.IfStatement 1 (more (child (node Kind.IdentifierReference 2 (more (string (codes "c")) end))) (more (child (node Kind.FunctionDeclaration 3 (more (child (node Kind.BindingIdentifier 4 (more (string (codes "g")) end))) (more (list end) (more (child (node Kind.BlockStatement 5 (more (list end) end))) (more (boolean false) (more (boolean false) end))))))) (more absent end))) ∷ node Kind.ExpressionStatement 6 (more (child (node Kind.CallExpression 7 (more (child (node Kind.IdentifierReference 8 (more (string (codes "f")) end))) (more (list end) (more (boolean false) end))))) (more no_string end)) ∷ []))) end))

abbrev pub options_statement_of_an_if : Options
options_statement_of_an_if = options_of false None false

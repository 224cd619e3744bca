-- Printed by tools/rows/witnesses.js.
use Rattle.std.specs.Prelude.{ℕ, List, [], ◌∷◌, false, codes, None}
use Rattle.es_base.specs.Tree.{Tree, end, more, child, list, string, no_string, boolean, trees}
use Rattle.es_base.specs.declared.kind.Kind.{Kind}
use Rattle.es_base.specs.declared.ledger.LedgerEntry.{LedgerEntry}
use Rattle.es_steps.specs.Generated.{node}
use Rattle.es_steps.specs.Options.{options_of}
use Rattle.es_steps.specs.declared.options.Options.{Options}

-- a function in a block is also held by the `var` of its name: `{ function g() {} } g();`
abbrev pub first_function_of_a_block : Tree
first_function_of_a_block = node Kind.Program 0 (more (string (codes "script")) (more (list (trees (node Kind.BlockStatement 1 (more (list (trees (node Kind.FunctionDeclaration 2 (more (child (node Kind.BindingIdentifier 3 (more (string (codes "g")) end))) (more (list end) (more (child (node Kind.BlockStatement 4 (more (list end) end))) (more (boolean false) (more (boolean false) end))))) ∷ []))) end) ∷ node Kind.ExpressionStatement 5 (more (child (node Kind.CallExpression 6 (more (child (node Kind.IdentifierReference 7 (more (string (codes "g")) end))) (more (list end) (more (boolean false) end))))) (more no_string end)) ∷ []))) end))

-- `{ function h() {} } g();`, with numbers of the first
abbrev pub second_function_of_a_block : Tree
second_function_of_a_block = node Kind.Program 0 (more (string (codes "script")) (more (list (trees (node Kind.BlockStatement 1 (more (list (trees (node Kind.FunctionDeclaration 2 (more (child (node Kind.BindingIdentifier 3 (more (string (codes "h")) end))) (more (list end) (more (child (node Kind.BlockStatement 4 (more (list end) end))) (more (boolean false) (more (boolean false) end))))) ∷ []))) end) ∷ node Kind.ExpressionStatement 5 (more (child (node Kind.CallExpression 6 (more (child (node Kind.IdentifierReference 7 (more (string (codes "g")) end))) (more (list end) (more (boolean false) end))))) (more no_string end)) ∷ []))) end))

abbrev pub options_function_of_a_block : Options
options_function_of_a_block = options_of false None false

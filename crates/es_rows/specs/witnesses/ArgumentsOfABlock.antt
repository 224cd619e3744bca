-- Printed by tools/rows/witnesses.js.
use Rattle.std.specs.Prelude.{ℕ, List, [], ◌∷◌, false, codes, None}
use Rattle.es_base.specs.Tree.{Tree, end, more, child, list, string, no_string, boolean, trees}
use Rattle.es_base.specs.declared.kind.Kind.{Kind}
use Rattle.es_base.specs.declared.ledger.LedgerEntry.{LedgerEntry}
use Rattle.es_steps.specs.Generated.{node}
use Rattle.es_steps.specs.Options.{options_of}
use Rattle.es_steps.specs.declared.options.Options.{Options}

-- `arguments` behind a function of that name in a block: `function f() { g(arguments); { function arguments() {} } }`
abbrev pub first_arguments_of_a_block : Tree
first_arguments_of_a_block = node Kind.Program 0 (more (string (codes "script")) (more (list (trees (node Kind.FunctionDeclaration 1 (more (child (node Kind.BindingIdentifier 2 (more (string (codes "f")) end))) (more (list end) (more (child (node Kind.BlockStatement 3 (more (list (trees (node Kind.ExpressionStatement 4 (more (child (node Kind.CallExpression 5 (more (child (node Kind.IdentifierReference 6 (more (string (codes "g")) end))) (more (list (trees (node Kind.IdentifierReference 7 (more (string (codes "arguments")) end) ∷ []))) (more (boolean false) end))))) (more no_string end)) ∷ node Kind.BlockStatement 8 (more (list (trees (node Kind.FunctionDeclaration 9 (more (child (node Kind.BindingIdentifier 10 (more (string (codes "arguments")) end))) (more (list end) (more (child (node Kind.BlockStatement 11 (more (list end) end))) (more (boolean false) (more (boolean false) end))))) ∷ []))) end) ∷ []))) end))) (more (boolean false) (more (boolean false) end))))) ∷ []))) end))

-- `function f() { { function arguments() {} } g(arguments); }`, with numbers of the first
abbrev pub second_arguments_of_a_block : Tree
second_arguments_of_a_block = node Kind.Program 0 (more (string (codes "script")) (more (list (trees (node Kind.FunctionDeclaration 1 (more (child (node Kind.BindingIdentifier 2 (more (string (codes "f")) end))) (more (list end) (more (child (node Kind.BlockStatement 3 (more (list (trees (node Kind.BlockStatement 8 (more (list (trees (node Kind.FunctionDeclaration 9 (more (child (node Kind.BindingIdentifier 10 (more (string (codes "arguments")) end))) (more (list end) (more (child (node Kind.BlockStatement 11 (more (list end) end))) (more (boolean false) (more (boolean false) end))))) ∷ []))) end) ∷ node Kind.ExpressionStatement 4 (more (child (node Kind.CallExpression 5 (more (child (node Kind.IdentifierReference 6 (more (string (codes "g")) end))) (more (list (trees (node Kind.IdentifierReference 7 (more (string (codes "arguments")) end) ∷ []))) (more (boolean false) end))))) (more no_string end)) ∷ []))) end))) (more (boolean false) (more (boolean false) end))))) ∷ []))) end))

abbrev pub options_arguments_of_a_block : Options
options_arguments_of_a_block = options_of false None false

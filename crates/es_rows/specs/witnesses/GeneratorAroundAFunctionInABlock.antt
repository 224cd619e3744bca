-- Printed by tools/rows/witnesses.js.
use Rattle.std.specs.Prelude.{ℕ, List, [], ◌∷◌, true, false, codes, None}
use Rattle.es_base.specs.Tree.{Tree, end, more, child, list, string, no_string, boolean, trees}
use Rattle.es_base.specs.declared.kind.Kind.{Kind}
use Rattle.es_base.specs.declared.ledger.LedgerEntry.{LedgerEntry}
use Rattle.es_steps.specs.Generated.{node}
use Rattle.es_steps.specs.Options.{options_of}
use Rattle.es_steps.specs.declared.options.Options.{Options}

-- a generator at the head of a function, and one in a block, around a function in a block of its name: `function g() { {} function* f() {} { function f() {} } h(f); } k(g);`
abbrev pub first_generator_around_a_function_in_a_block : Tree
first_generator_around_a_function_in_a_block = node Kind.Program 0 (more (string (codes "script")) (more (list (trees (node Kind.FunctionDeclaration 1 (more (child (node Kind.BindingIdentifier 2 (more (string (codes "g")) end))) (more (list end) (more (child (node Kind.BlockStatement 3 (more (list (trees (node Kind.BlockStatement 4 (more (list end) end) ∷ node Kind.FunctionDeclaration 5 (more (child (node Kind.BindingIdentifier 6 (more (string (codes "f")) end))) (more (list end) (more (child (node Kind.BlockStatement 7 (more (list end) end))) (more (boolean false) (more (boolean true) end))))) ∷ node Kind.BlockStatement 8 (more (list (trees (node Kind.FunctionDeclaration 9 (more (child (node Kind.BindingIdentifier 10 (more (string (codes "f")) end))) (more (list end) (more (child (node Kind.BlockStatement 11 (more (list end) end))) (more (boolean false) (more (boolean false) end))))) ∷ []))) end) ∷ node Kind.ExpressionStatement 12 (more (child (node Kind.CallExpression 13 (more (child (node Kind.IdentifierReference 14 (more (string (codes "h")) end))) (more (list (trees (node Kind.IdentifierReference 15 (more (string (codes "f")) end) ∷ []))) (more (boolean false) end))))) (more no_string end)) ∷ []))) end))) (more (boolean false) (more (boolean false) end))))) ∷ node Kind.ExpressionStatement 16 (more (child (node Kind.CallExpression 17 (more (child (node Kind.IdentifierReference 18 (more (string (codes "k")) end))) (more (list (trees (node Kind.IdentifierReference 19 (more (string (codes "g")) end) ∷ []))) (more (boolean false) end))))) (more no_string end)) ∷ []))) end))

-- `function g() { { function* f() {} { function f() {} } h(f); } } k(g);`, with numbers of the first
abbrev pub second_generator_around_a_function_in_a_block : Tree
second_generator_around_a_function_in_a_block = node Kind.Program 0 (more (string (codes "script")) (more (list (trees (node Kind.FunctionDeclaration 1 (more (child (node Kind.BindingIdentifier 2 (more (string (codes "g")) end))) (more (list end) (more (child (node Kind.BlockStatement 3 (more (list (trees (node Kind.BlockStatement 4 (more (list (trees (node Kind.FunctionDeclaration 5 (more (child (node Kind.BindingIdentifier 6 (more (string (codes "f")) end))) (more (list end) (more (child (node Kind.BlockStatement 7 (more (list end) end))) (more (boolean false) (more (boolean true) end))))) ∷ node Kind.BlockStatement 8 (more (list (trees (node Kind.FunctionDeclaration 9 (more (child (node Kind.BindingIdentifier 10 (more (string (codes "f")) end))) (more (list end) (more (child (node Kind.BlockStatement 11 (more (list end) end))) (more (boolean false) (more (boolean false) end))))) ∷ []))) end) ∷ node Kind.ExpressionStatement 12 (more (child (node Kind.CallExpression 13 (more (child (node Kind.IdentifierReference 14 (more (string (codes "h")) end))) (more (list (trees (node Kind.IdentifierReference 15 (more (string (codes "f")) end) ∷ []))) (more (boolean false) end))))) (more no_string end)) ∷ []))) end) ∷ []))) end))) (more (boolean false) (more (boolean false) end))))) ∷ node Kind.ExpressionStatement 16 (more (child (node Kind.CallExpression 17 (more (child (node Kind.IdentifierReference 18 (more (string (codes "k")) end))) (more (list (trees (node Kind.IdentifierReference 19 (more (string (codes "g")) end) ∷ []))) (more (boolean false) end))))) (more no_string end)) ∷ []))) end))

abbrev pub options_generator_around_a_function_in_a_block : Options
options_generator_around_a_function_in_a_block = options_of false None false

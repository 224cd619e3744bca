-- Printed by tools/rows/witnesses.js.
use Rattle.std.specs.Prelude.{ℕ, List, [], ◌∷◌, true, false, codes, None}
use Rattle.es_base.specs.Tree.{Tree, end, more, child, absent, list, string, no_string, boolean, trees}
use Rattle.es_base.specs.declared.kind.Kind.{Kind}
use Rattle.es_base.specs.declared.ledger.LedgerEntry.{LedgerEntry}
use Rattle.es_steps.specs.Generated.{node}
use Rattle.es_steps.specs.Options.{options_of}
use Rattle.es_steps.specs.declared.options.Options.{Options}

-- an async function at the head of a function, and one in a block, around a function in a case of its name: `function g() { {} async function f() {} switch (c()) { default: function f() {} } h(f); } k(g);`
abbrev pub first_async_function_around_a_function_in_a_case : Tree
first_async_function_around_a_function_in_a_case = node Kind.Program 0 (more (string (codes "script")) (more (list (trees (node Kind.FunctionDeclaration 1 (more (child (node Kind.BindingIdentifier 2 (more (string (codes "g")) end))) (more (list end) (more (child (node Kind.BlockStatement 3 (more (list (trees (node Kind.BlockStatement 4 (more (list end) end) ∷ node Kind.FunctionDeclaration 5 (more (child (node Kind.BindingIdentifier 6 (more (string (codes "f")) end))) (more (list end) (more (child (node Kind.BlockStatement 7 (more (list end) end))) (more (boolean true) (more (boolean false) end))))) ∷ node Kind.SwitchStatement 8 (more (child (node Kind.CallExpression 9 (more (child (node Kind.IdentifierReference 10 (more (string (codes "c")) end))) (more (list end) (more (boolean false) end))))) (more (list (trees (node Kind.SwitchCase 11 (more absent (more (list (trees (node Kind.FunctionDeclaration 12 (more (child (node Kind.BindingIdentifier 13 (more (string (codes "f")) end))) (more (list end) (more (child (node Kind.BlockStatement 14 (more (list end) end))) (more (boolean false) (more (boolean false) end))))) ∷ []))) end)) ∷ []))) end)) ∷ node Kind.ExpressionStatement 15 (more (child (node Kind.CallExpression 16 (more (child (node Kind.IdentifierReference 17 (more (string (codes "h")) end))) (more (list (trees (node Kind.IdentifierReference 18 (more (string (codes "f")) end) ∷ []))) (more (boolean false) end))))) (more no_string end)) ∷ []))) end))) (more (boolean false) (more (boolean false) end))))) ∷ node Kind.ExpressionStatement 19 (more (child (node Kind.CallExpression 20 (more (child (node Kind.IdentifierReference 21 (more (string (codes "k")) end))) (more (list (trees (node Kind.IdentifierReference 22 (more (string (codes "g")) end) ∷ []))) (more (boolean false) end))))) (more no_string end)) ∷ []))) end))

-- `function g() { { async function f() {} switch (c()) { default: function f() {} } h(f); } } k(g);`, with numbers of the first
abbrev pub second_async_function_around_a_function_in_a_case : Tree
second_async_function_around_a_function_in_a_case = node Kind.Program 0 (more (string (codes "script")) (more (list (trees (node Kind.FunctionDeclaration 1 (more (child (node Kind.BindingIdentifier 2 (more (string (codes "g")) end))) (more (list end) (more (child (node Kind.BlockStatement 3 (more (list (trees (node Kind.BlockStatement 4 (more (list (trees (node Kind.FunctionDeclaration 5 (more (child (node Kind.BindingIdentifier 6 (more (string (codes "f")) end))) (more (list end) (more (child (node Kind.BlockStatement 7 (more (list end) end))) (more (boolean true) (more (boolean false) end))))) ∷ node Kind.SwitchStatement 8 (more (child (node Kind.CallExpression 9 (more (child (node Kind.IdentifierReference 10 (more (string (codes "c")) end))) (more (list end) (more (boolean false) end))))) (more (list (trees (node Kind.SwitchCase 11 (more absent (more (list (trees (node Kind.FunctionDeclaration 12 (more (child (node Kind.BindingIdentifier 13 (more (string (codes "f")) end))) (more (list end) (more (child (node Kind.BlockStatement 14 (more (list end) end))) (more (boolean false) (more (boolean false) end))))) ∷ []))) end)) ∷ []))) end)) ∷ node Kind.ExpressionStatement 15 (more (child (node Kind.CallExpression 16 (more (child (node Kind.IdentifierReference 17 (more (string (codes "h")) end))) (more (list (trees (node Kind.IdentifierReference 18 (more (string (codes "f")) end) ∷ []))) (more (boolean false) end))))) (more no_string end)) ∷ []))) end) ∷ []))) end))) (more (boolean false) (more (boolean false) end))))) ∷ node Kind.ExpressionStatement 19 (more (child (node Kind.CallExpression 20 (more (child (node Kind.IdentifierReference 21 (more (string (codes "k")) end))) (more (list (trees (node Kind.IdentifierReference 22 (more (string (codes "g")) end) ∷ []))) (more (boolean false) end))))) (more no_string end)) ∷ []))) end))

abbrev pub options_async_function_around_a_function_in_a_case : Options
options_async_function_around_a_function_in_a_case = options_of false None false

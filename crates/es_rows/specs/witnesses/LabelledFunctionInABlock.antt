-- Printed by tools/rows/witnesses.js.
use Rattle.std.specs.Prelude.{ℕ, List, [], ◌∷◌, false, codes, None}
use Rattle.es_base.specs.Tree.{Tree, end, more, child, list, string, no_string, boolean, trees}
use Rattle.es_base.specs.declared.kind.Kind.{Kind}
use Rattle.es_base.specs.declared.ledger.LedgerEntry.{LedgerEntry}
use Rattle.es_steps.specs.Generated.{node}
use Rattle.es_steps.specs.Options.{options_of}
use Rattle.es_steps.specs.declared.options.Options.{Options}

-- a function behind a label in a block, in front of a call with its name and behind it: `{ l: function g() {} } h(g);`
abbrev pub first_labelled_function_in_a_block : Tree
first_labelled_function_in_a_block = node Kind.Program 0 (more (string (codes "script")) (more (list (trees (node Kind.BlockStatement 1 (more (list (trees (node Kind.LabeledStatement 2 (more (child (node Kind.IdentifierName 3 (more (string (codes "l")) end))) (more (child (node Kind.FunctionDeclaration 4 (more (child (node Kind.BindingIdentifier 5 (more (string (codes "g")) end))) (more (list end) (more (child (node Kind.BlockStatement 6 (more (list end) end))) (more (boolean false) (more (boolean false) end))))))) end)) ∷ []))) end) ∷ node Kind.ExpressionStatement 7 (more (child (node Kind.CallExpression 8 (more (child (node Kind.IdentifierReference 9 (more (string (codes "h")) end))) (more (list (trees (node Kind.IdentifierReference 10 (more (string (codes "g")) end) ∷ []))) (more (boolean false) end))))) (more no_string end)) ∷ []))) end))

-- `h(g); { l: function g() {} }`, with numbers of the first
abbrev pub second_labelled_function_in_a_block : Tree
second_labelled_function_in_a_block = node Kind.Program 0 (more (string (codes "script")) (more (list (trees (node Kind.ExpressionStatement 7 (more (child (node Kind.CallExpression 8 (more (child (node Kind.IdentifierReference 9 (more (string (codes "h")) end))) (more (list (trees (node Kind.IdentifierReference 1 (more (string (codes "g")) end) ∷ []))) (more (boolean false) end))))) (more no_string end)) ∷ node Kind.BlockStatement 2 (more (list (trees (node Kind.LabeledStatement 3 (more (child (node Kind.IdentifierName 4 (more (string (codes "l")) end))) (more (child (node Kind.FunctionDeclaration 5 (more (child (node Kind.BindingIdentifier 6 (more (string (codes "g")) end))) (more (list end) (more (child (node Kind.BlockStatement 10 (more (list end) end))) (more (boolean false) (more (boolean false) end))))))) end)) ∷ []))) end) ∷ []))) end))

abbrev pub options_labelled_function_in_a_block : Options
options_labelled_function_in_a_block = options_of false None false

-- Printed by tools/rows/witnesses.js.
use Rattle.std.specs.Prelude.{ℕ, List, [], ◌∷◌, false, codes, None}
use Rattle.es_base.specs.Tree.{Tree, end, more, child, list, string, boolean, literal, trees}
use Rattle.es_base.specs.declared.kind.Kind.{Kind}
use Rattle.es_base.specs.declared.ledger.LedgerEntry.{LedgerEntry}
use Rattle.es_base.specs.declared.literal.LiteralValue.TheVariants as literal_value
use Rattle.es_steps.specs.Generated.{node}
use Rattle.es_steps.specs.Options.{options_of}
use Rattle.es_steps.specs.declared.options.Options.{Options}

-- a `var` around a function in a block, of its name or of another one: `function f() { var g = 1; { function g() {} } }`
abbrev pub first_function_in_a_block_of_another_name : Tree
first_function_in_a_block_of_another_name = node Kind.Program 0 (more (string (codes "script")) (more (list (trees (node Kind.FunctionDeclaration 1 (more (child (node Kind.BindingIdentifier 2 (more (string (codes "f")) end))) (more (list end) (more (child (node Kind.BlockStatement 3 (more (list (trees (node Kind.VariableDeclaration 4 (more (string (codes "var")) (more (list (trees (node Kind.VariableDeclarator 5 (more (child (node Kind.BindingIdentifier 6 (more (string (codes "g")) end))) (more (child (node Kind.Literal 7 (more (literal (literal_value.Number (codes "1"))) end))) end)) ∷ []))) end)) ∷ node Kind.BlockStatement 8 (more (list (trees (node Kind.FunctionDeclaration 9 (more (child (node Kind.BindingIdentifier 10 (more (string (codes "g")) end))) (more (list end) (more (child (node Kind.BlockStatement 11 (more (list end) end))) (more (boolean false) (more (boolean false) end))))) ∷ []))) end) ∷ []))) end))) (more (boolean false) (more (boolean false) end))))) ∷ []))) end))

-- `function f() { var h = 1; { function g() {} } }`, with numbers of the first
abbrev pub second_function_in_a_block_of_another_name : Tree
second_function_in_a_block_of_another_name = node Kind.Program 0 (more (string (codes "script")) (more (list (trees (node Kind.FunctionDeclaration 1 (more (child (node Kind.BindingIdentifier 2 (more (string (codes "f")) end))) (more (list end) (more (child (node Kind.BlockStatement 3 (more (list (trees (node Kind.VariableDeclaration 4 (more (string (codes "var")) (more (list (trees (node Kind.VariableDeclarator 5 (more (child (node Kind.BindingIdentifier 6 (more (string (codes "h")) end))) (more (child (node Kind.Literal 7 (more (literal (literal_value.Number (codes "1"))) end))) end)) ∷ []))) end)) ∷ node Kind.BlockStatement 8 (more (list (trees (node Kind.FunctionDeclaration 9 (more (child (node Kind.BindingIdentifier 10 (more (string (codes "g")) end))) (more (list end) (more (child (node Kind.BlockStatement 11 (more (list end) end))) (more (boolean false) (more (boolean false) end))))) ∷ []))) end) ∷ []))) end))) (more (boolean false) (more (boolean false) end))))) ∷ []))) end))

abbrev pub options_function_in_a_block_of_another_name : Options
options_function_in_a_block_of_another_name = options_of false None false

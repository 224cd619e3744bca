-- Printed by tools/rows/witnesses.js.
use Rattle.std.specs.Prelude.{ℕ, List, [], ◌∷◌, false, codes, None}
use Rattle.es_base.specs.Tree.{Tree, end, more, child, absent, list, string, no_string, boolean, literal, trees}
use Rattle.es_base.specs.declared.kind.Kind.{Kind}
use Rattle.es_base.specs.declared.ledger.LedgerEntry.{LedgerEntry}
use Rattle.es_base.specs.declared.literal.LiteralValue.TheVariants as literal_value
use Rattle.es_steps.specs.Generated.{node}
use Rattle.es_steps.specs.Options.{options_of}
use Rattle.es_steps.specs.declared.options.Options.{Options}

-- a function in a branch in a block, of the name of a `var` around or of another one: `var g = 1; { if (a) function g() {} } f(g);`
abbrev pub first_function_in_a_branch_of_a_block : Tree
first_function_in_a_branch_of_a_block = node Kind.Program 0 (more (string (codes "script")) (more (list (trees (node Kind.VariableDeclaration 1 (more (string (codes "var")) (more (list (trees (node Kind.VariableDeclarator 2 (more (child (node Kind.BindingIdentifier 3 (more (string (codes "g")) end))) (more (child (node Kind.Literal 4 (more (literal (literal_value.Number (codes "1"))) end))) end)) ∷ []))) end)) ∷ node Kind.BlockStatement 5 (more (list (trees (node Kind.IfStatement 6 (more (child (node Kind.IdentifierReference 7 (more (string (codes "a")) end))) (more (child (node Kind.FunctionDeclaration 8 (more (child (node Kind.BindingIdentifier 9 (more (string (codes "g")) end))) (more (list end) (more (child (node Kind.BlockStatement 10 (more (list end) end))) (more (boolean false) (more (boolean false) end))))))) (more absent end))) ∷ []))) end) ∷ node Kind.ExpressionStatement 11 (more (child (node Kind.CallExpression 12 (more (child (node Kind.IdentifierReference 13 (more (string (codes "f")) end))) (more (list (trees (node Kind.IdentifierReference 14 (more (string (codes "g")) end) ∷ []))) (more (boolean false) end))))) (more no_string end)) ∷ []))) end))

-- `var g = 1; { if (a) function h() {} } f(g);`, with numbers of the first
abbrev pub second_function_in_a_branch_of_a_block : Tree
second_function_in_a_branch_of_a_block = node Kind.Program 0 (more (string (codes "script")) (more (list (trees (node Kind.VariableDeclaration 1 (more (string (codes "var")) (more (list (trees (node Kind.VariableDeclarator 2 (more (child (node Kind.BindingIdentifier 3 (more (string (codes "g")) end))) (more (child (node Kind.Literal 4 (more (literal (literal_value.Number (codes "1"))) end))) end)) ∷ []))) end)) ∷ node Kind.BlockStatement 5 (more (list (trees (node Kind.IfStatement 6 (more (child (node Kind.IdentifierReference 7 (more (string (codes "a")) end))) (more (child (node Kind.FunctionDeclaration 8 (more (child (node Kind.BindingIdentifier 9 (more (string (codes "h")) end))) (more (list end) (more (child (node Kind.BlockStatement 10 (more (list end) end))) (more (boolean false) (more (boolean false) end))))))) (more absent end))) ∷ []))) end) ∷ node Kind.ExpressionStatement 11 (more (child (node Kind.CallExpression 12 (more (child (node Kind.IdentifierReference 13 (more (string (codes "f")) end))) (more (list (trees (node Kind.IdentifierReference 14 (more (string (codes "g")) end) ∷ []))) (more (boolean false) end))))) (more no_string end)) ∷ []))) end))

abbrev pub options_function_in_a_branch_of_a_block : Options
options_function_in_a_branch_of_a_block = options_of false None false

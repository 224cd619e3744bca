-- Printed by tools/rows/witnesses.js.
use Rattle.std.specs.Prelude.{ℕ, List, [], ◌∷◌, false, codes, None}
use Rattle.es_base.specs.Tree.{Tree, end, more, child, absent, list, string, no_string, boolean, literal, trees}
use Rattle.es_base.specs.declared.kind.Kind.{Kind}
use Rattle.es_base.specs.declared.ledger.LedgerEntry.{LedgerEntry}
use Rattle.es_base.specs.declared.literal.LiteralValue.TheVariants as literal_value
use Rattle.es_steps.specs.Generated.{node}
use Rattle.es_steps.specs.Options.{options_of}
use Rattle.es_steps.specs.declared.options.Options.{Options}

-- a function in a block in a catch of its name, which gives a `var` around a value: `var g = 1; try { t(); } catch (g) { { function g() {} } } f(g);`
abbrev pub first_function_in_a_catch : Tree
first_function_in_a_catch = node Kind.Program 0 (more (string (codes "script")) (more (list (trees (node Kind.VariableDeclaration 1 (more (string (codes "var")) (more (list (trees (node Kind.VariableDeclarator 2 (more (child (node Kind.BindingIdentifier 3 (more (string (codes "g")) end))) (more (child (node Kind.Literal 4 (more (literal (literal_value.Number (codes "1"))) end))) end)) ∷ []))) end)) ∷ node Kind.TryStatement 5 (more (child (node Kind.BlockStatement 6 (more (list (trees (node Kind.ExpressionStatement 7 (more (child (node Kind.CallExpression 8 (more (child (node Kind.IdentifierReference 9 (more (string (codes "t")) end))) (more (list end) (more (boolean false) end))))) (more no_string end)) ∷ []))) end))) (more (child (node Kind.CatchClause 10 (more (child (node Kind.BindingIdentifier 11 (more (string (codes "g")) end))) (more (child (node Kind.BlockStatement 12 (more (list (trees (node Kind.BlockStatement 13 (more (list (trees (node Kind.FunctionDeclaration 14 (more (child (node Kind.BindingIdentifier 15 (more (string (codes "g")) end))) (more (list end) (more (child (node Kind.BlockStatement 16 (more (list end) end))) (more (boolean false) (more (boolean false) end))))) ∷ []))) end) ∷ []))) end))) end)))) (more absent end))) ∷ node Kind.ExpressionStatement 17 (more (child (node Kind.CallExpression 18 (more (child (node Kind.IdentifierReference 19 (more (string (codes "f")) end))) (more (list (trees (node Kind.IdentifierReference 20 (more (string (codes "g")) end) ∷ []))) (more (boolean false) end))))) (more no_string end)) ∷ []))) end))

-- `var g = 1; try { t(); } catch (h) { { function h() {} } } f(g);`, with numbers of the first
abbrev pub second_function_in_a_catch : Tree
second_function_in_a_catch = node Kind.Program 0 (more (string (codes "script")) (more (list (trees (node Kind.VariableDeclaration 1 (more (string (codes "var")) (more (list (trees (node Kind.VariableDeclarator 2 (more (child (node Kind.BindingIdentifier 3 (more (string (codes "g")) end))) (more (child (node Kind.Literal 4 (more (literal (literal_value.Number (codes "1"))) end))) end)) ∷ []))) end)) ∷ node Kind.TryStatement 5 (more (child (node Kind.BlockStatement 6 (more (list (trees (node Kind.ExpressionStatement 7 (more (child (node Kind.CallExpression 8 (more (child (node Kind.IdentifierReference 9 (more (string (codes "t")) end))) (more (list end) (more (boolean false) end))))) (more no_string end)) ∷ []))) end))) (more (child (node Kind.CatchClause 10 (more (child (node Kind.BindingIdentifier 11 (more (string (codes "h")) end))) (more (child (node Kind.BlockStatement 12 (more (list (trees (node Kind.BlockStatement 13 (more (list (trees (node Kind.FunctionDeclaration 14 (more (child (node Kind.BindingIdentifier 15 (more (string (codes "h")) end))) (more (list end) (more (child (node Kind.BlockStatement 16 (more (list end) end))) (more (boolean false) (more (boolean false) end))))) ∷ []))) end) ∷ []))) end))) end)))) (more absent end))) ∷ node Kind.ExpressionStatement 17 (more (child (node Kind.CallExpression 18 (more (child (node Kind.IdentifierReference 19 (more (string (codes "f")) end))) (more (list (trees (node Kind.IdentifierReference 20 (more (string (codes "g")) end) ∷ []))) (more (boolean false) end))))) (more no_string end)) ∷ []))) end))

abbrev pub options_function_in_a_catch : Options
options_function_in_a_catch = options_of false None false

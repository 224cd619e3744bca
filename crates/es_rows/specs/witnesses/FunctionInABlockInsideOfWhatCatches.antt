-- Printed by tools/rows/witnesses.js.
use Rattle.std.specs.Prelude.{ℕ, List, [], ◌∷◌, false, codes, None}
use Rattle.es_base.specs.Tree.{Tree, end, more, child, absent, list, string, no_string, boolean, literal, trees}
use Rattle.es_base.specs.declared.kind.Kind.{Kind}
use Rattle.es_base.specs.declared.ledger.LedgerEntry.{LedgerEntry}
use Rattle.es_base.specs.declared.literal.LiteralValue.TheVariants as literal_value
use Rattle.es_steps.specs.Generated.{node}
use Rattle.es_steps.specs.Options.{options_of}
use Rattle.es_steps.specs.declared.options.Options.{Options}

-- a function in a block of a function, with a name that is caught outside of that function, or with another one: `function g() { var f; try { throw 0; } catch (f) { (function () { { function f() {} } h(f); })(); } } g();`
abbrev pub first_function_in_a_block_inside_of_what_catches : Tree
first_function_in_a_block_inside_of_what_catches = node Kind.Program 0 (more (string (codes "script")) (more (list (trees (node Kind.FunctionDeclaration 1 (more (child (node Kind.BindingIdentifier 2 (more (string (codes "g")) end))) (more (list end) (more (child (node Kind.BlockStatement 3 (more (list (trees (node Kind.VariableDeclaration 4 (more (string (codes "var")) (more (list (trees (node Kind.VariableDeclarator 5 (more (child (node Kind.BindingIdentifier 6 (more (string (codes "f")) end))) (more absent end)) ∷ []))) end)) ∷ node Kind.TryStatement 7 (more (child (node Kind.BlockStatement 8 (more (list (trees (node Kind.ThrowStatement 9 (more (child (node Kind.Literal 10 (more (literal (literal_value.Number (codes "0"))) end))) end) ∷ []))) end))) (more (child (node Kind.CatchClause 11 (more (child (node Kind.BindingIdentifier 12 (more (string (codes "f")) end))) (more (child (node Kind.BlockStatement 13 (more (list (trees (node Kind.ExpressionStatement 14 (more (child (node Kind.CallExpression 15 (more (child (node Kind.FunctionExpression 16 (more absent (more (list end) (more (child (node Kind.BlockStatement 17 (more (list (trees (node Kind.BlockStatement 18 (more (list (trees (node Kind.FunctionDeclaration 19 (more (child (node Kind.BindingIdentifier 20 (more (string (codes "f")) end))) (more (list end) (more (child (node Kind.BlockStatement 21 (more (list end) end))) (more (boolean false) (more (boolean false) end))))) ∷ []))) end) ∷ node Kind.ExpressionStatement 22 (more (child (node Kind.CallExpression 23 (more (child (node Kind.IdentifierReference 24 (more (string (codes "h")) end))) (more (list (trees (node Kind.IdentifierReference 25 (more (string (codes "f")) end) ∷ []))) (more (boolean false) end))))) (more no_string end)) ∷ []))) end))) (more (boolean false) (more (boolean false) end))))))) (more (list end) (more (boolean false) end))))) (more no_string end)) ∷ []))) end))) end)))) (more absent end))) ∷ []))) end))) (more (boolean false) (more (boolean false) end))))) ∷ node Kind.ExpressionStatement 26 (more (child (node Kind.CallExpression 27 (more (child (node Kind.IdentifierReference 28 (more (string (codes "g")) end))) (more (list end) (more (boolean false) end))))) (more no_string end)) ∷ []))) end))

-- `function g() { var e; try { throw 0; } catch (f) { (function () { { function e() {} } h(f); })(); } } g();`, with numbers of the first
abbrev pub second_function_in_a_block_inside_of_what_catches : Tree
second_function_in_a_block_inside_of_what_catches = node Kind.Program 0 (more (string (codes "script")) (more (list (trees (node Kind.FunctionDeclaration 1 (more (child (node Kind.BindingIdentifier 2 (more (string (codes "g")) end))) (more (list end) (more (child (node Kind.BlockStatement 3 (more (list (trees (node Kind.VariableDeclaration 4 (more (string (codes "var")) (more (list (trees (node Kind.VariableDeclarator 5 (more (child (node Kind.BindingIdentifier 6 (more (string (codes "e")) end))) (more absent end)) ∷ []))) end)) ∷ node Kind.TryStatement 7 (more (child (node Kind.BlockStatement 8 (more (list (trees (node Kind.ThrowStatement 9 (more (child (node Kind.Literal 10 (more (literal (literal_value.Number (codes "0"))) end))) end) ∷ []))) end))) (more (child (node Kind.CatchClause 11 (more (child (node Kind.BindingIdentifier 12 (more (string (codes "f")) end))) (more (child (node Kind.BlockStatement 13 (more (list (trees (node Kind.ExpressionStatement 14 (more (child (node Kind.CallExpression 15 (more (child (node Kind.FunctionExpression 16 (more absent (more (list end) (more (child (node Kind.BlockStatement 17 (more (list (trees (node Kind.BlockStatement 18 (more (list (trees (node Kind.FunctionDeclaration 19 (more (child (node Kind.BindingIdentifier 20 (more (string (codes "e")) end))) (more (list end) (more (child (node Kind.BlockStatement 21 (more (list end) end))) (more (boolean false) (more (boolean false) end))))) ∷ []))) end) ∷ node Kind.ExpressionStatement 22 (more (child (node Kind.CallExpression 23 (more (child (node Kind.IdentifierReference 24 (more (string (codes "h")) end))) (more (list (trees (node Kind.IdentifierReference 25 (more (string (codes "f")) end) ∷ []))) (more (boolean false) end))))) (more no_string end)) ∷ []))) end))) (more (boolean false) (more (boolean false) end))))))) (more (list end) (more (boolean false) end))))) (more no_string end)) ∷ []))) end))) end)))) (more absent end))) ∷ []))) end))) (more (boolean false) (more (boolean false) end))))) ∷ node Kind.ExpressionStatement 26 (more (child (node Kind.CallExpression 27 (more (child (node Kind.IdentifierReference 28 (more (string (codes "g")) end))) (more (list end) (more (boolean false) end))))) (more no_string end)) ∷ []))) end))

abbrev pub options_function_in_a_block_inside_of_what_catches : Options
options_function_in_a_block_inside_of_what_catches = options_of false None false

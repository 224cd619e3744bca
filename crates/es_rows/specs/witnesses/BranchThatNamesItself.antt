-- Printed by tools/rows/witnesses.js.
use Rattle.std.specs.Prelude.{ℕ, List, [], ◌∷◌, false, codes, None}
use Rattle.es_base.specs.Tree.{Tree, end, more, child, absent, list, string, no_string, boolean, literal, trees}
use Rattle.es_base.specs.declared.kind.Kind.{Kind}
use Rattle.es_base.specs.declared.ledger.LedgerEntry.{LedgerEntry}
use Rattle.es_base.specs.declared.literal.LiteralValue.TheVariants as literal_value
use Rattle.es_steps.specs.Generated.{node}
use Rattle.es_steps.specs.Options.{options_of}
use Rattle.es_steps.specs.declared.options.Options.{Options}

-- a function that is a branch in a loop, and reads its name, or that of what is caught: `function g() { var f; try { throw 0; } catch (f) { while (c()) if (d()) function f() { h(f); } } f(); } g();`
abbrev pub first_branch_that_names_itself : Tree
first_branch_that_names_itself = node Kind.Program 0 (more (string (codes "script")) (more (list (trees (node Kind.FunctionDeclaration 1 (more (child (node Kind.BindingIdentifier 2 (more (string (codes "g")) end))) (more (list end) (more (child (node Kind.BlockStatement 3 (more (list (trees (node Kind.VariableDeclaration 4 (more (string (codes "var")) (more (list (trees (node Kind.VariableDeclarator 5 (more (child (node Kind.BindingIdentifier 6 (more (string (codes "f")) end))) (more absent end)) ∷ []))) end)) ∷ node Kind.TryStatement 7 (more (child (node Kind.BlockStatement 8 (more (list (trees (node Kind.ThrowStatement 9 (more (child (node Kind.Literal 10 (more (literal (literal_value.Number (codes "0"))) end))) end) ∷ []))) end))) (more (child (node Kind.CatchClause 11 (more (child (node Kind.BindingIdentifier 12 (more (string (codes "f")) end))) (more (child (node Kind.BlockStatement 13 (more (list (trees (node Kind.WhileStatement 14 (more (child (node Kind.CallExpression 15 (more (child (node Kind.IdentifierReference 16 (more (string (codes "c")) end))) (more (list end) (more (boolean false) end))))) (more (child (node Kind.IfStatement 17 (more (child (node Kind.CallExpression 18 (more (child (node Kind.IdentifierReference 19 (more (string (codes "d")) end))) (more (list end) (more (boolean false) end))))) (more (child (node Kind.FunctionDeclaration 20 (more (child (node Kind.BindingIdentifier 21 (more (string (codes "f")) end))) (more (list end) (more (child (node Kind.BlockStatement 22 (more (list (trees (node Kind.ExpressionStatement 23 (more (child (node Kind.CallExpression 24 (more (child (node Kind.IdentifierReference 25 (more (string (codes "h")) end))) (more (list (trees (node Kind.IdentifierReference 26 (more (string (codes "f")) end) ∷ []))) (more (boolean false) end))))) (more no_string end)) ∷ []))) end))) (more (boolean false) (more (boolean false) end))))))) (more absent end))))) end)) ∷ []))) end))) end)))) (more absent end))) ∷ node Kind.ExpressionStatement 27 (more (child (node Kind.CallExpression 28 (more (child (node Kind.IdentifierReference 29 (more (string (codes "f")) end))) (more (list end) (more (boolean false) end))))) (more no_string end)) ∷ []))) end))) (more (boolean false) (more (boolean false) end))))) ∷ node Kind.ExpressionStatement 30 (more (child (node Kind.CallExpression 31 (more (child (node Kind.IdentifierReference 32 (more (string (codes "g")) end))) (more (list end) (more (boolean false) end))))) (more no_string end)) ∷ []))) end))

-- `function g() { var e; try { throw 0; } catch (f) { while (c()) if (d()) function e() { h(f); } } e(); } g();`, with numbers of the first
abbrev pub second_branch_that_names_itself : Tree
second_branch_that_names_itself = node Kind.Program 0 (more (string (codes "script")) (more (list (trees (node Kind.FunctionDeclaration 1 (more (child (node Kind.BindingIdentifier 2 (more (string (codes "g")) end))) (more (list end) (more (child (node Kind.BlockStatement 3 (more (list (trees (node Kind.VariableDeclaration 4 (more (string (codes "var")) (more (list (trees (node Kind.VariableDeclarator 5 (more (child (node Kind.BindingIdentifier 6 (more (string (codes "e")) end))) (more absent end)) ∷ []))) end)) ∷ node Kind.TryStatement 7 (more (child (node Kind.BlockStatement 8 (more (list (trees (node Kind.ThrowStatement 9 (more (child (node Kind.Literal 10 (more (literal (literal_value.Number (codes "0"))) end))) end) ∷ []))) end))) (more (child (node Kind.CatchClause 11 (more (child (node Kind.BindingIdentifier 12 (more (string (codes "f")) end))) (more (child (node Kind.BlockStatement 13 (more (list (trees (node Kind.WhileStatement 14 (more (child (node Kind.CallExpression 15 (more (child (node Kind.IdentifierReference 16 (more (string (codes "c")) end))) (more (list end) (more (boolean false) end))))) (more (child (node Kind.IfStatement 17 (more (child (node Kind.CallExpression 18 (more (child (node Kind.IdentifierReference 19 (more (string (codes "d")) end))) (more (list end) (more (boolean false) end))))) (more (child (node Kind.FunctionDeclaration 20 (more (child (node Kind.BindingIdentifier 21 (more (string (codes "e")) end))) (more (list end) (more (child (node Kind.BlockStatement 22 (more (list (trees (node Kind.ExpressionStatement 23 (more (child (node Kind.CallExpression 24 (more (child (node Kind.IdentifierReference 25 (more (string (codes "h")) end))) (more (list (trees (node Kind.IdentifierReference 26 (more (string (codes "f")) end) ∷ []))) (more (boolean false) end))))) (more no_string end)) ∷ []))) end))) (more (boolean false) (more (boolean false) end))))))) (more absent end))))) end)) ∷ []))) end))) end)))) (more absent end))) ∷ node Kind.ExpressionStatement 27 (more (child (node Kind.CallExpression 28 (more (child (node Kind.IdentifierReference 29 (more (string (codes "e")) end))) (more (list end) (more (boolean false) end))))) (more no_string end)) ∷ []))) end))) (more (boolean false) (more (boolean false) end))))) ∷ node Kind.ExpressionStatement 30 (more (child (node Kind.CallExpression 31 (more (child (node Kind.IdentifierReference 32 (more (string (codes "g")) end))) (more (list end) (more (boolean false) end))))) (more no_string end)) ∷ []))) end))

abbrev pub options_branch_that_names_itself : Options
options_branch_that_names_itself = options_of false None false

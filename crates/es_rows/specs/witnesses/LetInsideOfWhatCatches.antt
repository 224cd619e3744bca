-- Printed by tools/rows/witnesses.js.
use Rattle.std.specs.Prelude.{ℕ, List, [], ◌∷◌, false, codes, None}
use Rattle.es_base.specs.Tree.{Tree, end, more, child, absent, list, string, no_string, boolean, literal, trees}
use Rattle.es_base.specs.declared.kind.Kind.{Kind}
use Rattle.es_base.specs.declared.ledger.LedgerEntry.{LedgerEntry}
use Rattle.es_base.specs.declared.literal.LiteralValue.TheVariants as literal_value
use Rattle.es_steps.specs.Generated.{node}
use Rattle.es_steps.specs.Options.{options_of}
use Rattle.es_steps.specs.declared.options.Options.{Options}

-- a function that is a branch, with a `let` outside of what catches its name, or inside: `function g() { { let f; try { throw 0; } catch (f) { { if (c()) function f() {} h(f); } } } } g();`
abbrev pub first_let_inside_of_what_catches : Tree
first_let_inside_of_what_catches = node Kind.Program 0 (more (string (codes "script")) (more (list (trees (node Kind.FunctionDeclaration 1 (more (child (node Kind.BindingIdentifier 2 (more (string (codes "g")) end))) (more (list end) (more (child (node Kind.BlockStatement 3 (more (list (trees (node Kind.BlockStatement 4 (more (list (trees (node Kind.VariableDeclaration 5 (more (string (codes "let")) (more (list (trees (node Kind.VariableDeclarator 6 (more (child (node Kind.BindingIdentifier 7 (more (string (codes "f")) end))) (more absent end)) ∷ []))) end)) ∷ node Kind.TryStatement 8 (more (child (node Kind.BlockStatement 9 (more (list (trees (node Kind.ThrowStatement 10 (more (child (node Kind.Literal 11 (more (literal (literal_value.Number (codes "0"))) end))) end) ∷ []))) end))) (more (child (node Kind.CatchClause 12 (more (child (node Kind.BindingIdentifier 13 (more (string (codes "f")) end))) (more (child (node Kind.BlockStatement 14 (more (list (trees (node Kind.BlockStatement 15 (more (list (trees (node Kind.IfStatement 16 (more (child (node Kind.CallExpression 17 (more (child (node Kind.IdentifierReference 18 (more (string (codes "c")) end))) (more (list end) (more (boolean false) end))))) (more (child (node Kind.FunctionDeclaration 19 (more (child (node Kind.BindingIdentifier 20 (more (string (codes "f")) end))) (more (list end) (more (child (node Kind.BlockStatement 21 (more (list end) end))) (more (boolean false) (more (boolean false) end))))))) (more absent end))) ∷ node Kind.ExpressionStatement 22 (more (child (node Kind.CallExpression 23 (more (child (node Kind.IdentifierReference 24 (more (string (codes "h")) end))) (more (list (trees (node Kind.IdentifierReference 25 (more (string (codes "f")) end) ∷ []))) (more (boolean false) end))))) (more no_string end)) ∷ []))) end) ∷ []))) end))) end)))) (more absent end))) ∷ []))) end) ∷ []))) end))) (more (boolean false) (more (boolean false) end))))) ∷ node Kind.ExpressionStatement 26 (more (child (node Kind.CallExpression 27 (more (child (node Kind.IdentifierReference 28 (more (string (codes "g")) end))) (more (list end) (more (boolean false) end))))) (more no_string end)) ∷ []))) end))

-- `function g() { { try { throw 0; } catch (f) { { let f; { if (c()) function f() {} h(f); } } } } } g();`, with numbers of the first
abbrev pub second_let_inside_of_what_catches : Tree
second_let_inside_of_what_catches = node Kind.Program 0 (more (string (codes "script")) (more (list (trees (node Kind.FunctionDeclaration 1 (more (child (node Kind.BindingIdentifier 2 (more (string (codes "g")) end))) (more (list end) (more (child (node Kind.BlockStatement 3 (more (list (trees (node Kind.BlockStatement 4 (more (list (trees (node Kind.TryStatement 8 (more (child (node Kind.BlockStatement 9 (more (list (trees (node Kind.ThrowStatement 10 (more (child (node Kind.Literal 11 (more (literal (literal_value.Number (codes "0"))) end))) end) ∷ []))) end))) (more (child (node Kind.CatchClause 12 (more (child (node Kind.BindingIdentifier 13 (more (string (codes "f")) end))) (more (child (node Kind.BlockStatement 14 (more (list (trees (node Kind.BlockStatement 15 (more (list (trees (node Kind.VariableDeclaration 5 (more (string (codes "let")) (more (list (trees (node Kind.VariableDeclarator 6 (more (child (node Kind.BindingIdentifier 7 (more (string (codes "f")) end))) (more absent end)) ∷ []))) end)) ∷ node Kind.BlockStatement 29 (more (list (trees (node Kind.IfStatement 16 (more (child (node Kind.CallExpression 17 (more (child (node Kind.IdentifierReference 18 (more (string (codes "c")) end))) (more (list end) (more (boolean false) end))))) (more (child (node Kind.FunctionDeclaration 19 (more (child (node Kind.BindingIdentifier 20 (more (string (codes "f")) end))) (more (list end) (more (child (node Kind.BlockStatement 21 (more (list end) end))) (more (boolean false) (more (boolean false) end))))))) (more absent end))) ∷ node Kind.ExpressionStatement 22 (more (child (node Kind.CallExpression 23 (more (child (node Kind.IdentifierReference 24 (more (string (codes "h")) end))) (more (list (trees (node Kind.IdentifierReference 25 (more (string (codes "f")) end) ∷ []))) (more (boolean false) end))))) (more no_string end)) ∷ []))) end) ∷ []))) end) ∷ []))) end))) end)))) (more absent end))) ∷ []))) end) ∷ []))) end))) (more (boolean false) (more (boolean false) end))))) ∷ node Kind.ExpressionStatement 26 (more (child (node Kind.CallExpression 27 (more (child (node Kind.IdentifierReference 28 (more (string (codes "g")) end))) (more (list end) (more (boolean false) end))))) (more no_string end)) ∷ []))) end))

abbrev pub options_let_inside_of_what_catches : Options
options_let_inside_of_what_catches = options_of false None false

-- Printed by tools/rows/witnesses.js.
use Rattle.std.specs.Prelude.{ℕ, List, [], ◌∷◌, false, codes, None}
use Rattle.es_base.specs.Tree.{Tree, end, more, child, absent, list, string, no_string, boolean, literal, trees}
use Rattle.es_base.specs.declared.kind.Kind.{Kind}
use Rattle.es_base.specs.declared.ledger.LedgerEntry.{LedgerEntry}
use Rattle.es_base.specs.declared.literal.LiteralValue.TheVariants as literal_value
use Rattle.es_steps.specs.Generated.{node}
use Rattle.es_steps.specs.Options.{options_of}
use Rattle.es_steps.specs.declared.options.Options.{Options}

-- a name that is caught, and one of another spelling, around a function behind `else`: `function g() { try { throw 0; } catch (e) { { if (c()) ; else function f() {} h(f); } } } g();`
abbrev pub first_caught_name_around_a_second_branch : Tree
first_caught_name_around_a_second_branch = node Kind.Program 0 (more (string (codes "script")) (more (list (trees (node Kind.FunctionDeclaration 1 (more (child (node Kind.BindingIdentifier 2 (more (string (codes "g")) end))) (more (list end) (more (child (node Kind.BlockStatement 3 (more (list (trees (node Kind.TryStatement 4 (more (child (node Kind.BlockStatement 5 (more (list (trees (node Kind.ThrowStatement 6 (more (child (node Kind.Literal 7 (more (literal (literal_value.Number (codes "0"))) end))) end) ∷ []))) end))) (more (child (node Kind.CatchClause 8 (more (child (node Kind.BindingIdentifier 9 (more (string (codes "e")) end))) (more (child (node Kind.BlockStatement 10 (more (list (trees (node Kind.BlockStatement 11 (more (list (trees (node Kind.IfStatement 12 (more (child (node Kind.CallExpression 13 (more (child (node Kind.IdentifierReference 14 (more (string (codes "c")) end))) (more (list end) (more (boolean false) end))))) (more (child (node Kind.EmptyStatement 15 end)) (more (child (node Kind.FunctionDeclaration 16 (more (child (node Kind.BindingIdentifier 17 (more (string (codes "f")) end))) (more (list end) (more (child (node Kind.BlockStatement 18 (more (list end) end))) (more (boolean false) (more (boolean false) end))))))) end))) ∷ node Kind.ExpressionStatement 19 (more (child (node Kind.CallExpression 20 (more (child (node Kind.IdentifierReference 21 (more (string (codes "h")) end))) (more (list (trees (node Kind.IdentifierReference 22 (more (string (codes "f")) end) ∷ []))) (more (boolean false) end))))) (more no_string end)) ∷ []))) end) ∷ []))) end))) end)))) (more absent end))) ∷ []))) end))) (more (boolean false) (more (boolean false) end))))) ∷ node Kind.ExpressionStatement 23 (more (child (node Kind.CallExpression 24 (more (child (node Kind.IdentifierReference 25 (more (string (codes "g")) end))) (more (list end) (more (boolean false) end))))) (more no_string end)) ∷ []))) end))

-- `function g() { try { throw 0; } catch (f) { { if (c()) ; else function f() {} h(f); } } } g();`, with numbers of the first
abbrev pub second_caught_name_around_a_second_branch : Tree
second_caught_name_around_a_second_branch = node Kind.Program 0 (more (string (codes "script")) (more (list (trees (node Kind.FunctionDeclaration 1 (more (child (node Kind.BindingIdentifier 2 (more (string (codes "g")) end))) (more (list end) (more (child (node Kind.BlockStatement 3 (more (list (trees (node Kind.TryStatement 4 (more (child (node Kind.BlockStatement 5 (more (list (trees (node Kind.ThrowStatement 6 (more (child (node Kind.Literal 7 (more (literal (literal_value.Number (codes "0"))) end))) end) ∷ []))) end))) (more (child (node Kind.CatchClause 8 (more (child (node Kind.BindingIdentifier 9 (more (string (codes "f")) end))) (more (child (node Kind.BlockStatement 10 (more (list (trees (node Kind.BlockStatement 11 (more (list (trees (node Kind.IfStatement 12 (more (child (node Kind.CallExpression 13 (more (child (node Kind.IdentifierReference 14 (more (string (codes "c")) end))) (more (list end) (more (boolean false) end))))) (more (child (node Kind.EmptyStatement 15 end)) (more (child (node Kind.FunctionDeclaration 16 (more (child (node Kind.BindingIdentifier 17 (more (string (codes "f")) end))) (more (list end) (more (child (node Kind.BlockStatement 18 (more (list end) end))) (more (boolean false) (more (boolean false) end))))))) end))) ∷ node Kind.ExpressionStatement 19 (more (child (node Kind.CallExpression 20 (more (child (node Kind.IdentifierReference 21 (more (string (codes "h")) end))) (more (list (trees (node Kind.IdentifierReference 22 (more (string (codes "f")) end) ∷ []))) (more (boolean false) end))))) (more no_string end)) ∷ []))) end) ∷ []))) end))) end)))) (more absent end))) ∷ []))) end))) (more (boolean false) (more (boolean false) end))))) ∷ node Kind.ExpressionStatement 23 (more (child (node Kind.CallExpression 24 (more (child (node Kind.IdentifierReference 25 (more (string (codes "g")) end))) (more (list end) (more (boolean false) end))))) (more no_string end)) ∷ []))) end))

abbrev pub options_caught_name_around_a_second_branch : Options
options_caught_name_around_a_second_branch = options_of false None false

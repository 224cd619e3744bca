-- Printed by tools/rows/witnesses.js.
use Rattle.std.specs.Prelude.{ℕ, List, [], ◌∷◌, true, false, codes, None}
use Rattle.es_base.specs.Tree.{Tree, end, more, child, absent, list, string, no_string, boolean, literal, trees}
use Rattle.es_base.specs.declared.kind.Kind.{Kind}
use Rattle.es_base.specs.declared.ledger.GeneratedKind.{GeneratedKind}
use Rattle.es_base.specs.declared.ledger.LedgerEntry.{LedgerEntry}
use Rattle.es_base.specs.declared.literal.LiteralValue.TheVariants as literal_value
use Rattle.es_steps.specs.Generated.{node}
use Rattle.es_steps.specs.Options.{options_of}
use Rattle.es_steps.specs.declared.options.Options.{Options}

-- `var a = []; for (const i of [1, 2]) { a.push(() => class { static { f(i); } }); } a[0]();`
abbrev pub source_closure_given_in_each_round : Tree
source_closure_given_in_each_round = node Kind.Program 0 (more (string (codes "script")) (more (list (trees (node Kind.VariableDeclaration 1 (more (string (codes "var")) (more (list (trees (node Kind.VariableDeclarator 2 (more (child (node Kind.BindingIdentifier 3 (more (string (codes "a")) end))) (more (child (node Kind.ArrayExpression 4 (more (list end) end))) end)) ∷ []))) end)) ∷ node Kind.ForOfStatement 5 (more (child (node Kind.VariableDeclaration 6 (more (string (codes "const")) (more (list (trees (node Kind.VariableDeclarator 7 (more (child (node Kind.BindingIdentifier 8 (more (string (codes "i")) end))) (more absent end)) ∷ []))) end)))) (more (child (node Kind.ArrayExpression 9 (more (list (trees (node Kind.Literal 10 (more (literal (literal_value.Number (codes "1"))) end) ∷ node Kind.Literal 11 (more (literal (literal_value.Number (codes "2"))) end) ∷ []))) end))) (more (child (node Kind.BlockStatement 12 (more (list (trees (node Kind.ExpressionStatement 13 (more (child (node Kind.CallExpression 14 (more (child (node Kind.MemberExpression 15 (more (child (node Kind.IdentifierReference 16 (more (string (codes "a")) end))) (more (child (node Kind.IdentifierName 17 (more (string (codes "push")) end))) (more (boolean false) (more (boolean false) end)))))) (more (list (trees (node Kind.ArrowFunctionExpression 18 (more (list end) (more (child (node Kind.ClassExpression 19 (more absent (more absent (more (child (node Kind.ClassBody 20 (more (list (trees (node Kind.StaticBlock 21 (more (list (trees (node Kind.ExpressionStatement 22 (more (child (node Kind.CallExpression 23 (more (child (node Kind.IdentifierReference 24 (more (string (codes "f")) end))) (more (list (trees (node Kind.IdentifierReference 25 (more (string (codes "i")) end) ∷ []))) (more (boolean false) end))))) (more no_string end)) ∷ []))) end) ∷ []))) end))) end))))) (more (boolean false) end))) ∷ []))) (more (boolean false) end))))) (more no_string end)) ∷ []))) end))) (more (boolean false) end)))) ∷ node Kind.ExpressionStatement 26 (more (child (node Kind.CallExpression 27 (more (child (node Kind.MemberExpression 28 (more (child (node Kind.IdentifierReference 29 (more (string (codes "a")) end))) (more (child (node Kind.Literal 30 (more (literal (literal_value.Number (codes "0"))) end))) (more (boolean true) (more (boolean false) end)))))) (more (list end) (more (boolean false) end))))) (more no_string end)) ∷ []))) end))

-- a closure given in each round of a loop, around an arrow that calls it: `var _c; var a = []; for (const i of [1, 2]) { _c = () => f(i); a.push(() => (_c(), class {})); } a[0]();`
abbrev pub output_closure_given_in_each_round : Tree
output_closure_given_in_each_round = node Kind.Program 0 (more (string (codes "script")) (more (list (trees (node Kind.VariableDeclaration 31 (more (string (codes "var")) (more (list (trees (node Kind.VariableDeclarator 32 (more (child (node Kind.BindingIdentifier 33 (more (string (codes "_c")) end))) (more absent end)) ∷ []))) end)) ∷ node Kind.VariableDeclaration 1 (more (string (codes "var")) (more (list (trees (node Kind.VariableDeclarator 2 (more (child (node Kind.BindingIdentifier 3 (more (string (codes "a")) end))) (more (child (node Kind.ArrayExpression 4 (more (list end) end))) end)) ∷ []))) end)) ∷ node Kind.ForOfStatement 5 (more (child (node Kind.VariableDeclaration 6 (more (string (codes "const")) (more (list (trees (node Kind.VariableDeclarator 7 (more (child (node Kind.BindingIdentifier 8 (more (string (codes "i")) end))) (more absent end)) ∷ []))) end)))) (more (child (node Kind.ArrayExpression 9 (more (list (trees (node Kind.Literal 10 (more (literal (literal_value.Number (codes "1"))) end) ∷ node Kind.Literal 11 (more (literal (literal_value.Number (codes "2"))) end) ∷ []))) end))) (more (child (node Kind.BlockStatement 12 (more (list (trees (node Kind.ExpressionStatement 34 (more (child (node Kind.AssignmentExpression 35 (more (string (codes "=")) (more (child (node Kind.IdentifierReference 36 (more (string (codes "_c")) end))) (more (child (node Kind.ArrowFunctionExpression 37 (more (list end) (more (child (node Kind.CallExpression 23 (more (child (node Kind.IdentifierReference 24 (more (string (codes "f")) end))) (more (list (trees (node Kind.IdentifierReference 25 (more (string (codes "i")) end) ∷ []))) (more (boolean false) end))))) (more (boolean false) end))))) end))))) (more no_string end)) ∷ node Kind.ExpressionStatement 13 (more (child (node Kind.CallExpression 14 (more (child (node Kind.MemberExpression 15 (more (child (node Kind.IdentifierReference 16 (more (string (codes "a")) end))) (more (child (node Kind.IdentifierName 17 (more (string (codes "push")) end))) (more (boolean false) (more (boolean false) end)))))) (more (list (trees (node Kind.ArrowFunctionExpression 18 (more (list end) (more (child (node Kind.SequenceExpression 38 (more (list (trees (node Kind.CallExpression 39 (more (child (node Kind.IdentifierReference 40 (more (string (codes "_c")) end))) (more (list end) (more (boolean false) end))) ∷ node Kind.ClassExpression 19 (more absent (more absent (more (child (node Kind.ClassBody 20 (more (list end) end))) end))) ∷ []))) end))) (more (boolean false) end))) ∷ []))) (more (boolean false) end))))) (more no_string end)) ∷ []))) end))) (more (boolean false) end)))) ∷ node Kind.ExpressionStatement 26 (more (child (node Kind.CallExpression 27 (more (child (node Kind.MemberExpression 28 (more (child (node Kind.IdentifierReference 29 (more (string (codes "a")) end))) (more (child (node Kind.Literal 30 (more (literal (literal_value.Number (codes "0"))) end))) (more (boolean true) (more (boolean false) end)))))) (more (list end) (more (boolean false) end))))) (more no_string end)) ∷ []))) end))

abbrev pub generated_closure_given_in_each_round : List LedgerEntry
generated_closure_given_in_each_round = record { name = codes "_c"; kind = GeneratedKind.Closure } ∷ []

abbrev pub options_closure_given_in_each_round : Options
options_closure_given_in_each_round = options_of true None false

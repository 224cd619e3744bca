-- Printed by tools/rows/witnesses.js.
use Rattle.std.specs.Prelude.{ℕ, List, [], ◌∷◌, true, false, codes, Some}
use Rattle.es_base.specs.Tree.{Tree, end, more, child, absent, list, string, no_string, boolean, literal, trees}
use Rattle.es_base.specs.declared.kind.Kind.{Kind}
use Rattle.es_base.specs.declared.ledger.GeneratedKind.{GeneratedKind}
use Rattle.es_base.specs.declared.ledger.LedgerEntry.{LedgerEntry}
use Rattle.es_base.specs.declared.literal.LiteralValue.TheVariants as literal_value
use Rattle.es_steps.specs.Generated.{node}
use Rattle.es_steps.specs.Options.{options_of}
use Rattle.es_steps.specs.declared.options.Options.{Options}

-- `async function m() { class A { static [await h()] = 1; static [g] = () => 1; } } m(); let g = f();`
abbrev pub source_name_of_a_key_in_front_of_an_await : Tree
source_name_of_a_key_in_front_of_an_await = node Kind.Program 0 (more (string (codes "script")) (more (list (trees (node Kind.FunctionDeclaration 1 (more (child (node Kind.BindingIdentifier 2 (more (string (codes "m")) end))) (more (list end) (more (child (node Kind.BlockStatement 3 (more (list (trees (node Kind.ClassDeclaration 4 (more (child (node Kind.BindingIdentifier 5 (more (string (codes "A")) end))) (more absent (more (child (node Kind.ClassBody 6 (more (list (trees (node Kind.PropertyDefinition 7 (more (child (node Kind.AwaitExpression 8 (more (child (node Kind.CallExpression 9 (more (child (node Kind.IdentifierReference 10 (more (string (codes "h")) end))) (more (list end) (more (boolean false) end))))) end))) (more (child (node Kind.Literal 11 (more (literal (literal_value.Number (codes "1"))) end))) (more (boolean true) (more (boolean true) end)))) ∷ node Kind.PropertyDefinition 12 (more (child (node Kind.IdentifierReference 13 (more (string (codes "g")) end))) (more (child (node Kind.ArrowFunctionExpression 14 (more (list end) (more (child (node Kind.Literal 15 (more (literal (literal_value.Number (codes "1"))) end))) (more (boolean false) end))))) (more (boolean true) (more (boolean true) end)))) ∷ []))) end))) end))) ∷ []))) end))) (more (boolean true) (more (boolean false) end))))) ∷ node Kind.ExpressionStatement 16 (more (child (node Kind.CallExpression 17 (more (child (node Kind.IdentifierReference 18 (more (string (codes "m")) end))) (more (list end) (more (boolean false) end))))) (more no_string end)) ∷ node Kind.VariableDeclaration 19 (more (string (codes "let")) (more (list (trees (node Kind.VariableDeclarator 20 (more (child (node Kind.BindingIdentifier 21 (more (string (codes "g")) end))) (more (child (node Kind.CallExpression 22 (more (child (node Kind.IdentifierReference 23 (more (string (codes "f")) end))) (more (list end) (more (boolean false) end))))) end)) ∷ []))) end)) ∷ []))) end))

-- the name of a function is made in front of a key that waits: `async function m() { var _k, _k2; _k2 = B.toPropertyKey(g); _k = B.toPropertyKey(await h()); class A { } B.defineProperty(A, _k, 1); B.defineProperty(A, g, B.setFunctionName(() => 1, _k2)); } m(); let g = f();`
abbrev pub output_name_of_a_key_in_front_of_an_await : Tree
output_name_of_a_key_in_front_of_an_await = node Kind.Program 0 (more (string (codes "script")) (more (list (trees (node Kind.FunctionDeclaration 1 (more (child (node Kind.BindingIdentifier 2 (more (string (codes "m")) end))) (more (list end) (more (child (node Kind.BlockStatement 3 (more (list (trees (node Kind.VariableDeclaration 24 (more (string (codes "var")) (more (list (trees (node Kind.VariableDeclarator 25 (more (child (node Kind.BindingIdentifier 26 (more (string (codes "_k")) end))) (more absent end)) ∷ node Kind.VariableDeclarator 27 (more (child (node Kind.BindingIdentifier 28 (more (string (codes "_k2")) end))) (more absent end)) ∷ []))) end)) ∷ node Kind.ExpressionStatement 29 (more (child (node Kind.AssignmentExpression 30 (more (string (codes "=")) (more (child (node Kind.IdentifierReference 31 (more (string (codes "_k2")) end))) (more (child (node Kind.CallExpression 32 (more (child (node Kind.MemberExpression 33 (more (child (node Kind.IdentifierReference 34 (more (string (codes "babelHelpers")) end))) (more (child (node Kind.IdentifierName 35 (more (string (codes "toPropertyKey")) end))) (more (boolean false) (more (boolean false) end)))))) (more (list (trees (node Kind.IdentifierReference 13 (more (string (codes "g")) end) ∷ []))) (more (boolean false) end))))) end))))) (more no_string end)) ∷ node Kind.ExpressionStatement 36 (more (child (node Kind.AssignmentExpression 37 (more (string (codes "=")) (more (child (node Kind.IdentifierReference 38 (more (string (codes "_k")) end))) (more (child (node Kind.CallExpression 39 (more (child (node Kind.MemberExpression 40 (more (child (node Kind.IdentifierReference 41 (more (string (codes "babelHelpers")) end))) (more (child (node Kind.IdentifierName 42 (more (string (codes "toPropertyKey")) end))) (more (boolean false) (more (boolean false) end)))))) (more (list (trees (node Kind.AwaitExpression 8 (more (child (node Kind.CallExpression 9 (more (child (node Kind.IdentifierReference 10 (more (string (codes "h")) end))) (more (list end) (more (boolean false) end))))) end) ∷ []))) (more (boolean false) end))))) end))))) (more no_string end)) ∷ node Kind.ClassDeclaration 4 (more (child (node Kind.BindingIdentifier 5 (more (string (codes "A")) end))) (more absent (more (child (node Kind.ClassBody 6 (more (list end) end))) end))) ∷ node Kind.ExpressionStatement 43 (more (child (node Kind.CallExpression 44 (more (child (node Kind.MemberExpression 45 (more (child (node Kind.IdentifierReference 46 (more (string (codes "babelHelpers")) end))) (more (child (node Kind.IdentifierName 47 (more (string (codes "defineProperty")) end))) (more (boolean false) (more (boolean false) end)))))) (more (list (trees (node Kind.IdentifierReference 48 (more (string (codes "A")) end) ∷ node Kind.IdentifierReference 49 (more (string (codes "_k")) end) ∷ node Kind.Literal 11 (more (literal (literal_value.Number (codes "1"))) end) ∷ []))) (more (boolean false) end))))) (more no_string end)) ∷ node Kind.ExpressionStatement 50 (more (child (node Kind.CallExpression 51 (more (child (node Kind.MemberExpression 52 (more (child (node Kind.IdentifierReference 53 (more (string (codes "babelHelpers")) end))) (more (child (node Kind.IdentifierName 54 (more (string (codes "defineProperty")) end))) (more (boolean false) (more (boolean false) end)))))) (more (list (trees (node Kind.IdentifierReference 55 (more (string (codes "A")) end) ∷ node Kind.IdentifierReference 56 (more (string (codes "g")) end) ∷ node Kind.CallExpression 57 (more (child (node Kind.MemberExpression 58 (more (child (node Kind.IdentifierReference 59 (more (string (codes "babelHelpers")) end))) (more (child (node Kind.IdentifierName 60 (more (string (codes "setFunctionName")) end))) (more (boolean false) (more (boolean false) end)))))) (more (list (trees (node Kind.ArrowFunctionExpression 14 (more (list end) (more (child (node Kind.Literal 15 (more (literal (literal_value.Number (codes "1"))) end))) (more (boolean false) end))) ∷ node Kind.IdentifierReference 61 (more (string (codes "_k2")) end) ∷ []))) (more (boolean false) end))) ∷ []))) (more (boolean false) end))))) (more no_string end)) ∷ []))) end))) (more (boolean true) (more (boolean false) end))))) ∷ node Kind.ExpressionStatement 16 (more (child (node Kind.CallExpression 17 (more (child (node Kind.IdentifierReference 18 (more (string (codes "m")) end))) (more (list end) (more (boolean false) end))))) (more no_string end)) ∷ node Kind.VariableDeclaration 19 (more (string (codes "let")) (more (list (trees (node Kind.VariableDeclarator 20 (more (child (node Kind.BindingIdentifier 21 (more (string (codes "g")) end))) (more (child (node Kind.CallExpression 22 (more (child (node Kind.IdentifierReference 23 (more (string (codes "f")) end))) (more (list end) (more (boolean false) end))))) end)) ∷ []))) end)) ∷ []))) end))

abbrev pub generated_name_of_a_key_in_front_of_an_await : List LedgerEntry
generated_name_of_a_key_in_front_of_an_await = record { name = codes "_k"; kind = GeneratedKind.Temp } ∷ record { name = codes "_k2"; kind = GeneratedKind.Temp } ∷ []

abbrev pub options_name_of_a_key_in_front_of_an_await : Options
options_name_of_a_key_in_front_of_an_await = options_of false (Some (record { loose = false })) false

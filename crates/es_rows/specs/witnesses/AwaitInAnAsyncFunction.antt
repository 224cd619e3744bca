-- Printed by tools/rows/witnesses.js.
use Rattle.std.specs.Prelude.{ℕ, List, [], ◌∷◌, true, false, codes, Some, None}
use Rattle.es_base.specs.Tree.{Tree, end, more, child, absent, list, string, no_string, boolean, literal, trees}
use Rattle.es_base.specs.declared.kind.Kind.{Kind}
use Rattle.es_base.specs.declared.ledger.LedgerEntry.{LedgerEntry}
use Rattle.es_base.specs.declared.literal.LiteralValue.TheVariants as literal_value
use Rattle.es_steps.specs.Generated.{node}
use Rattle.es_steps.specs.Options.{options_of}
use Rattle.es_steps.specs.declared.options.Options.{Options}

-- `var await = 1; async function F() { f(class { x = 1; }); }`
abbrev pub source_await_in_an_async_function : Tree
source_await_in_an_async_function = node Kind.Program 0 (more (string (codes "script")) (more (list (trees (node Kind.VariableDeclaration 1 (more (string (codes "var")) (more (list (trees (node Kind.VariableDeclarator 2 (more (child (node Kind.BindingIdentifier 3 (more (string (codes "await")) end))) (more (child (node Kind.Literal 4 (more (literal (literal_value.Number (codes "1"))) end))) end)) ∷ []))) end)) ∷ node Kind.FunctionDeclaration 5 (more (child (node Kind.BindingIdentifier 6 (more (string (codes "F")) end))) (more (list end) (more (child (node Kind.BlockStatement 7 (more (list (trees (node Kind.ExpressionStatement 8 (more (child (node Kind.CallExpression 9 (more (child (node Kind.IdentifierReference 10 (more (string (codes "f")) end))) (more (list (trees (node Kind.ClassExpression 11 (more absent (more absent (more (child (node Kind.ClassBody 12 (more (list (trees (node Kind.PropertyDefinition 13 (more (child (node Kind.IdentifierName 14 (more (string (codes "x")) end))) (more (child (node Kind.Literal 15 (more (literal (literal_value.Number (codes "1"))) end))) (more (boolean false) (more (boolean false) end)))) ∷ []))) end))) end))) ∷ []))) (more (boolean false) end))))) (more no_string end)) ∷ []))) end))) (more (boolean true) (more (boolean false) end))))) ∷ []))) end))

-- a new name `await` in an async function, where `var await = 1; async function F() { f(class { constructor() { B.defineProperty(this, "x", 1); } }); }` is right
abbrev pub output_await_in_an_async_function : Tree
output_await_in_an_async_function = node Kind.Program 0 (more (string (codes "script")) (more (list (trees (node Kind.VariableDeclaration 1 (more (string (codes "var")) (more (list (trees (node Kind.VariableDeclarator 2 (more (child (node Kind.BindingIdentifier 3 (more (string (codes "await")) end))) (more (child (node Kind.Literal 4 (more (literal (literal_value.Number (codes "1"))) end))) end)) ∷ []))) end)) ∷ node Kind.FunctionDeclaration 5 (more (child (node Kind.BindingIdentifier 6 (more (string (codes "F")) end))) (more (list end) (more (child (node Kind.BlockStatement 7 (more (list (trees (node Kind.ExpressionStatement 16 (more (child (node Kind.IdentifierReference 17 (more (string (codes "await")) end))) (more no_string end)) ∷ node Kind.ExpressionStatement 8 (more (child (node Kind.CallExpression 9 (more (child (node Kind.IdentifierReference 10 (more (string (codes "f")) end))) (more (list (trees (node Kind.ClassExpression 11 (more absent (more absent (more (child (node Kind.ClassBody 12 (more (list (trees (node Kind.MethodDefinition 18 (more (child (node Kind.IdentifierName 19 (more (string (codes "constructor")) end))) (more (child (node Kind.FunctionExpression 20 (more absent (more (list end) (more (child (node Kind.BlockStatement 21 (more (list (trees (node Kind.ExpressionStatement 22 (more (child (node Kind.CallExpression 23 (more (child (node Kind.MemberExpression 24 (more (child (node Kind.IdentifierReference 25 (more (string (codes "babelHelpers")) end))) (more (child (node Kind.IdentifierName 26 (more (string (codes "defineProperty")) end))) (more (boolean false) (more (boolean false) end)))))) (more (list (trees (node Kind.ThisExpression 27 end ∷ node Kind.Literal 28 (more (literal (literal_value.String (codes "x") None)) end) ∷ node Kind.Literal 15 (more (literal (literal_value.Number (codes "1"))) end) ∷ []))) (more (boolean false) end))))) (more no_string end)) ∷ []))) end))) (more (boolean false) (more (boolean false) end))))))) (more (string (codes "constructor")) (more (boolean false) (more (boolean false) end))))) ∷ []))) end))) end))) ∷ []))) (more (boolean false) end))))) (more no_string end)) ∷ []))) end))) (more (boolean true) (more (boolean false) end))))) ∷ []))) end))

abbrev pub generated_await_in_an_async_function : List LedgerEntry
generated_await_in_an_async_function = []

abbrev pub options_await_in_an_async_function : Options
options_await_in_an_async_function = options_of false (Some (record { loose = false })) false

-- Printed by tools/rows/witnesses.js.
use Rattle.std.specs.Prelude.{ℕ, List, [], ◌∷◌, false, codes, Some, None}
use Rattle.es_base.specs.Tree.{Tree, end, more, child, absent, list, string, no_string, boolean, literal, trees}
use Rattle.es_base.specs.declared.kind.Kind.{Kind}
use Rattle.es_base.specs.declared.ledger.GeneratedKind.{GeneratedKind}
use Rattle.es_base.specs.declared.ledger.LedgerEntry.{LedgerEntry}
use Rattle.es_base.specs.declared.literal.LiteralValue.TheVariants as literal_value
use Rattle.es_steps.specs.Generated.{node}
use Rattle.es_steps.specs.Options.{options_of}
use Rattle.es_steps.specs.declared.options.Options.{Options}

-- ` class A { x = 1; }`
abbrev pub source_await_in_a_function_that_nothing_calls : Tree
source_await_in_a_function_that_nothing_calls = node Kind.Program 0 (more (string (codes "script")) (more (list (trees (node Kind.ClassDeclaration 1 (more (child (node Kind.BindingIdentifier 2 (more (string (codes "A")) end))) (more absent (more (child (node Kind.ClassBody 3 (more (list (trees (node Kind.PropertyDefinition 4 (more (child (node Kind.IdentifierName 5 (more (string (codes "x")) end))) (more (child (node Kind.Literal 6 (more (literal (literal_value.Number (codes "1"))) end))) (more (boolean false) (more (boolean false) end)))) ∷ []))) end))) end))) ∷ []))) end))

-- `await` in a function for a static block that nothing calls, where ` class A { constructor() { B.defineProperty(this, "x", 1); } }` is right
abbrev pub output_await_in_a_function_that_nothing_calls : Tree
output_await_in_a_function_that_nothing_calls = node Kind.Program 0 (more (string (codes "script")) (more (list (trees (node Kind.VariableDeclaration 7 (more (string (codes "var")) (more (list (trees (node Kind.VariableDeclarator 8 (more (child (node Kind.BindingIdentifier 9 (more (string (codes "_c")) end))) (more (child (node Kind.ArrowFunctionExpression 10 (more (list end) (more (child (node Kind.BlockStatement 11 (more (list (trees (node Kind.ExpressionStatement 12 (more (child (node Kind.AwaitExpression 13 (more (child (node Kind.Literal 14 (more (literal (literal_value.Number (codes "1"))) end))) end))) (more no_string end)) ∷ []))) end))) (more (boolean false) end))))) end)) ∷ []))) end)) ∷ node Kind.ClassDeclaration 1 (more (child (node Kind.BindingIdentifier 2 (more (string (codes "A")) end))) (more absent (more (child (node Kind.ClassBody 3 (more (list (trees (node Kind.MethodDefinition 15 (more (child (node Kind.IdentifierName 16 (more (string (codes "constructor")) end))) (more (child (node Kind.FunctionExpression 17 (more absent (more (list end) (more (child (node Kind.BlockStatement 18 (more (list (trees (node Kind.ExpressionStatement 19 (more (child (node Kind.CallExpression 20 (more (child (node Kind.MemberExpression 21 (more (child (node Kind.IdentifierReference 22 (more (string (codes "babelHelpers")) end))) (more (child (node Kind.IdentifierName 23 (more (string (codes "defineProperty")) end))) (more (boolean false) (more (boolean false) end)))))) (more (list (trees (node Kind.ThisExpression 24 end ∷ node Kind.Literal 25 (more (literal (literal_value.String (codes "x") None)) end) ∷ node Kind.Literal 6 (more (literal (literal_value.Number (codes "1"))) end) ∷ []))) (more (boolean false) end))))) (more no_string end)) ∷ []))) end))) (more (boolean false) (more (boolean false) end))))))) (more (string (codes "constructor")) (more (boolean false) (more (boolean false) end))))) ∷ []))) end))) end))) ∷ []))) end))

abbrev pub generated_await_in_a_function_that_nothing_calls : List LedgerEntry
generated_await_in_a_function_that_nothing_calls = record { name = codes "_c"; kind = GeneratedKind.Closure } ∷ []

abbrev pub options_await_in_a_function_that_nothing_calls : Options
options_await_in_a_function_that_nothing_calls = options_of false (Some (record { loose = false })) false

-- Printed by tools/rows/witnesses.js.
use Rattle.std.specs.Prelude.{ℕ, List, [], ◌∷◌, true, false, codes, Some, None}
use Rattle.es_base.specs.Tree.{Tree, end, more, child, absent, list, string, no_string, boolean, literal, trees}
use Rattle.es_base.specs.declared.kind.Kind.{Kind}
use Rattle.es_base.specs.declared.ledger.LedgerEntry.{LedgerEntry}
use Rattle.es_base.specs.declared.literal.LiteralValue.TheVariants as literal_value
use Rattle.es_steps.specs.Generated.{node}
use Rattle.es_steps.specs.Options.{options_of}
use Rattle.es_steps.specs.declared.options.Options.{Options}

-- `async function F() { f(class { x = 1; }); }`
abbrev pub source_class_named_await_in_an_async_function : Tree
source_class_named_await_in_an_async_function = node Kind.Program 0 (more (string (codes "script")) (more (list (trees (node Kind.FunctionDeclaration 1 (more (child (node Kind.BindingIdentifier 2 (more (string (codes "F")) end))) (more (list end) (more (child (node Kind.BlockStatement 3 (more (list (trees (node Kind.ExpressionStatement 4 (more (child (node Kind.CallExpression 5 (more (child (node Kind.IdentifierReference 6 (more (string (codes "f")) end))) (more (list (trees (node Kind.ClassExpression 7 (more absent (more absent (more (child (node Kind.ClassBody 8 (more (list (trees (node Kind.PropertyDefinition 9 (more (child (node Kind.IdentifierName 10 (more (string (codes "x")) end))) (more (child (node Kind.Literal 11 (more (literal (literal_value.Number (codes "1"))) end))) (more (boolean false) (more (boolean false) end)))) ∷ []))) end))) end))) ∷ []))) (more (boolean false) end))))) (more no_string end)) ∷ []))) end))) (more (boolean true) (more (boolean false) end))))) ∷ []))) end))

-- a new own name `await` in an async function, where `async function F() { f(class { constructor() { B.defineProperty(this, "x", 1); } }); }` is right
abbrev pub output_class_named_await_in_an_async_function : Tree
output_class_named_await_in_an_async_function = node Kind.Program 0 (more (string (codes "script")) (more (list (trees (node Kind.FunctionDeclaration 1 (more (child (node Kind.BindingIdentifier 2 (more (string (codes "F")) end))) (more (list end) (more (child (node Kind.BlockStatement 3 (more (list (trees (node Kind.ExpressionStatement 4 (more (child (node Kind.CallExpression 5 (more (child (node Kind.IdentifierReference 6 (more (string (codes "f")) end))) (more (list (trees (node Kind.ClassExpression 7 (more (child (node Kind.BindingIdentifier 12 (more (string (codes "await")) end))) (more absent (more (child (node Kind.ClassBody 8 (more (list (trees (node Kind.MethodDefinition 13 (more (child (node Kind.IdentifierName 14 (more (string (codes "constructor")) end))) (more (child (node Kind.FunctionExpression 15 (more absent (more (list end) (more (child (node Kind.BlockStatement 16 (more (list (trees (node Kind.ExpressionStatement 17 (more (child (node Kind.CallExpression 18 (more (child (node Kind.MemberExpression 19 (more (child (node Kind.IdentifierReference 20 (more (string (codes "babelHelpers")) end))) (more (child (node Kind.IdentifierName 21 (more (string (codes "defineProperty")) end))) (more (boolean false) (more (boolean false) end)))))) (more (list (trees (node Kind.ThisExpression 22 end ∷ node Kind.Literal 23 (more (literal (literal_value.String (codes "x") None)) end) ∷ node Kind.Literal 11 (more (literal (literal_value.Number (codes "1"))) end) ∷ []))) (more (boolean false) end))))) (more no_string end)) ∷ []))) end))) (more (boolean false) (more (boolean false) end))))))) (more (string (codes "constructor")) (more (boolean false) (more (boolean false) end))))) ∷ []))) end))) end))) ∷ []))) (more (boolean false) end))))) (more no_string end)) ∷ []))) end))) (more (boolean true) (more (boolean false) end))))) ∷ []))) end))

abbrev pub generated_class_named_await_in_an_async_function : List LedgerEntry
generated_class_named_await_in_an_async_function = []

abbrev pub options_class_named_await_in_an_async_function : Options
options_class_named_await_in_an_async_function = options_of false (Some (record { loose = false })) false

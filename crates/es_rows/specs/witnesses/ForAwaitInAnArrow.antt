-- Printed by tools/rows/witnesses.js.
use Rattle.std.specs.Prelude.{ℕ, List, [], ◌∷◌, true, false, codes, Some, None}
use Rattle.es_base.specs.Tree.{Tree, end, more, child, absent, list, string, no_string, boolean, literal, trees}
use Rattle.es_base.specs.declared.kind.Kind.{Kind}
use Rattle.es_base.specs.declared.ledger.LedgerEntry.{LedgerEntry}
use Rattle.es_base.specs.declared.literal.LiteralValue.TheVariants as literal_value
use Rattle.es_steps.specs.Generated.{node}
use Rattle.es_steps.specs.Options.{options_of}
use Rattle.es_steps.specs.declared.options.Options.{Options}

-- `async function F() { for await (x of y) f(class { x = 1; }); }`
abbrev pub source_for_await_in_an_arrow : Tree
source_for_await_in_an_arrow = node Kind.Program 0 (more (string (codes "script")) (more (list (trees (node Kind.FunctionDeclaration 1 (more (child (node Kind.BindingIdentifier 2 (more (string (codes "F")) end))) (more (list end) (more (child (node Kind.BlockStatement 3 (more (list (trees (node Kind.ForOfStatement 4 (more (child (node Kind.IdentifierReference 5 (more (string (codes "x")) end))) (more (child (node Kind.IdentifierReference 6 (more (string (codes "y")) end))) (more (child (node Kind.ExpressionStatement 7 (more (child (node Kind.CallExpression 8 (more (child (node Kind.IdentifierReference 9 (more (string (codes "f")) end))) (more (list (trees (node Kind.ClassExpression 10 (more absent (more absent (more (child (node Kind.ClassBody 11 (more (list (trees (node Kind.PropertyDefinition 12 (more (child (node Kind.IdentifierName 13 (more (string (codes "x")) end))) (more (child (node Kind.Literal 14 (more (literal (literal_value.Number (codes "1"))) end))) (more (boolean false) (more (boolean false) end)))) ∷ []))) end))) end))) ∷ []))) (more (boolean false) end))))) (more no_string end)))) (more (boolean true) end)))) ∷ []))) end))) (more (boolean true) (more (boolean false) end))))) ∷ []))) end))

-- a `for await` in a new arrow, where `async function F() { for await (x of y) f(class { constructor() { B.defineProperty(this, "x", 1); } }); }` is right
abbrev pub output_for_await_in_an_arrow : Tree
output_for_await_in_an_arrow = node Kind.Program 0 (more (string (codes "script")) (more (list (trees (node Kind.FunctionDeclaration 1 (more (child (node Kind.BindingIdentifier 2 (more (string (codes "F")) end))) (more (list end) (more (child (node Kind.BlockStatement 3 (more (list (trees (node Kind.ExpressionStatement 15 (more (child (node Kind.CallExpression 16 (more (child (node Kind.ArrowFunctionExpression 17 (more (list end) (more (child (node Kind.BlockStatement 18 (more (list (trees (node Kind.ForOfStatement 4 (more (child (node Kind.IdentifierReference 5 (more (string (codes "x")) end))) (more (child (node Kind.IdentifierReference 6 (more (string (codes "y")) end))) (more (child (node Kind.ExpressionStatement 7 (more (child (node Kind.CallExpression 8 (more (child (node Kind.IdentifierReference 9 (more (string (codes "f")) end))) (more (list (trees (node Kind.ClassExpression 10 (more absent (more absent (more (child (node Kind.ClassBody 11 (more (list (trees (node Kind.MethodDefinition 19 (more (child (node Kind.IdentifierName 20 (more (string (codes "constructor")) end))) (more (child (node Kind.FunctionExpression 21 (more absent (more (list end) (more (child (node Kind.BlockStatement 22 (more (list (trees (node Kind.ExpressionStatement 23 (more (child (node Kind.CallExpression 24 (more (child (node Kind.MemberExpression 25 (more (child (node Kind.IdentifierReference 26 (more (string (codes "babelHelpers")) end))) (more (child (node Kind.IdentifierName 27 (more (string (codes "defineProperty")) end))) (more (boolean false) (more (boolean false) end)))))) (more (list (trees (node Kind.ThisExpression 28 end ∷ node Kind.Literal 29 (more (literal (literal_value.String (codes "x") None)) end) ∷ node Kind.Literal 14 (more (literal (literal_value.Number (codes "1"))) end) ∷ []))) (more (boolean false) end))))) (more no_string end)) ∷ []))) end))) (more (boolean false) (more (boolean false) end))))))) (more (string (codes "constructor")) (more (boolean false) (more (boolean false) end))))) ∷ []))) end))) end))) ∷ []))) (more (boolean false) end))))) (more no_string end)))) (more (boolean true) end)))) ∷ []))) end))) (more (boolean false) end))))) (more (list end) (more (boolean false) end))))) (more no_string end)) ∷ []))) end))) (more (boolean true) (more (boolean false) end))))) ∷ []))) end))

abbrev pub generated_for_await_in_an_arrow : List LedgerEntry
generated_for_await_in_an_arrow = []

abbrev pub options_for_await_in_an_arrow : Options
options_for_await_in_an_arrow = options_of false (Some (record { loose = false })) false

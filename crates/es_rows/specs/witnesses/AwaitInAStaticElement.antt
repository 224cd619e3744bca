-- Printed by tools/rows/witnesses.js.
use Rattle.std.specs.Prelude.{ℕ, List, [], ◌∷◌, true, false, codes, None}
use Rattle.es_base.specs.Tree.{Tree, end, more, child, absent, list, string, no_string, boolean, literal, trees}
use Rattle.es_base.specs.declared.kind.Kind.{Kind}
use Rattle.es_base.specs.declared.ledger.GeneratedKind.{GeneratedKind}
use Rattle.es_base.specs.declared.ledger.LedgerEntry.{LedgerEntry}
use Rattle.es_base.specs.declared.literal.LiteralValue.TheVariants as literal_value
use Rattle.es_steps.specs.Generated.{node}
use Rattle.es_steps.specs.Options.{options_of}
use Rattle.es_steps.specs.declared.options.Options.{Options}

-- `async function f(h) { h(class { static { a; } static x = 1; }, await g()); }`
abbrev pub source_await_in_a_static_element : Tree
source_await_in_a_static_element = node Kind.Program 0 (more (string (codes "script")) (more (list (trees (node Kind.FunctionDeclaration 1 (more (child (node Kind.BindingIdentifier 2 (more (string (codes "f")) end))) (more (list (trees (node Kind.BindingIdentifier 3 (more (string (codes "h")) end) ∷ []))) (more (child (node Kind.BlockStatement 4 (more (list (trees (node Kind.ExpressionStatement 5 (more (child (node Kind.CallExpression 6 (more (child (node Kind.IdentifierReference 7 (more (string (codes "h")) end))) (more (list (trees (node Kind.ClassExpression 8 (more absent (more absent (more (child (node Kind.ClassBody 9 (more (list (trees (node Kind.StaticBlock 10 (more (list (trees (node Kind.ExpressionStatement 11 (more (child (node Kind.IdentifierReference 12 (more (string (codes "a")) end))) (more no_string end)) ∷ []))) end) ∷ node Kind.PropertyDefinition 13 (more (child (node Kind.IdentifierName 14 (more (string (codes "x")) end))) (more (child (node Kind.Literal 15 (more (literal (literal_value.Number (codes "1"))) end))) (more (boolean false) (more (boolean true) end)))) ∷ []))) end))) end))) ∷ node Kind.AwaitExpression 16 (more (child (node Kind.CallExpression 17 (more (child (node Kind.IdentifierReference 18 (more (string (codes "g")) end))) (more (list end) (more (boolean false) end))))) end) ∷ []))) (more (boolean false) end))))) (more no_string end)) ∷ []))) end))) (more (boolean true) (more (boolean false) end))))) ∷ []))) end))

-- an `await` of the function around in a static element, where `async function f(h) { h(class { static x = (a, 1); }, await g()); }` is right
abbrev pub output_await_in_a_static_element : Tree
output_await_in_a_static_element = node Kind.Program 0 (more (string (codes "script")) (more (list (trees (node Kind.FunctionDeclaration 1 (more (child (node Kind.BindingIdentifier 2 (more (string (codes "f")) end))) (more (list (trees (node Kind.BindingIdentifier 3 (more (string (codes "h")) end) ∷ []))) (more (child (node Kind.BlockStatement 4 (more (list (trees (node Kind.VariableDeclaration 19 (more (string (codes "var")) (more (list (trees (node Kind.VariableDeclarator 20 (more (child (node Kind.BindingIdentifier 21 (more (string (codes "_t")) end))) (more absent end)) ∷ []))) end)) ∷ node Kind.ExpressionStatement 5 (more (child (node Kind.CallExpression 6 (more (child (node Kind.IdentifierReference 7 (more (string (codes "h")) end))) (more (list (trees (node Kind.ClassExpression 8 (more absent (more absent (more (child (node Kind.ClassBody 9 (more (list (trees (node Kind.PropertyDefinition 13 (more (child (node Kind.IdentifierName 14 (more (string (codes "x")) end))) (more (child (node Kind.SequenceExpression 22 (more (list (trees (node Kind.IdentifierReference 12 (more (string (codes "a")) end) ∷ node Kind.AssignmentExpression 23 (more (string (codes "=")) (more (child (node Kind.IdentifierReference 24 (more (string (codes "_t")) end))) (more (child (node Kind.AwaitExpression 16 (more (child (node Kind.CallExpression 17 (more (child (node Kind.IdentifierReference 18 (more (string (codes "g")) end))) (more (list end) (more (boolean false) end))))) end))) end))) ∷ node Kind.Literal 15 (more (literal (literal_value.Number (codes "1"))) end) ∷ []))) end))) (more (boolean false) (more (boolean true) end)))) ∷ []))) end))) end))) ∷ node Kind.IdentifierReference 25 (more (string (codes "_t")) end) ∷ []))) (more (boolean false) end))))) (more no_string end)) ∷ []))) end))) (more (boolean true) (more (boolean false) end))))) ∷ []))) end))

abbrev pub generated_await_in_a_static_element : List LedgerEntry
generated_await_in_a_static_element = record { name = codes "_t"; kind = GeneratedKind.Temp } ∷ []

abbrev pub options_await_in_a_static_element : Options
options_await_in_a_static_element = options_of true None false

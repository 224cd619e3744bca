-- Printed by tools/rows/witnesses.js.
use Rattle.std.specs.Prelude.{ℕ, List, [], ◌∷◌, false, codes, Some, None}
use Rattle.es_base.specs.Tree.{Tree, end, more, child, absent, list, string, no_string, boolean, literal, trees}
use Rattle.es_base.specs.declared.kind.Kind.{Kind}
use Rattle.es_base.specs.declared.ledger.LedgerEntry.{LedgerEntry}
use Rattle.es_base.specs.declared.literal.LiteralValue.TheVariants as literal_value
use Rattle.es_steps.specs.Generated.{node}
use Rattle.es_steps.specs.Options.{options_of}
use Rattle.es_steps.specs.declared.options.Options.{Options}

-- `var await; while (c()) { if (d(class { x = 1; })) break; }`
abbrev pub source_break_in_an_arrow_beside_await : Tree
source_break_in_an_arrow_beside_await = node Kind.Program 0 (more (string (codes "script")) (more (list (trees (node Kind.VariableDeclaration 1 (more (string (codes "var")) (more (list (trees (node Kind.VariableDeclarator 2 (more (child (node Kind.BindingIdentifier 3 (more (string (codes "await")) end))) (more absent end)) ∷ []))) end)) ∷ node Kind.WhileStatement 4 (more (child (node Kind.CallExpression 5 (more (child (node Kind.IdentifierReference 6 (more (string (codes "c")) end))) (more (list end) (more (boolean false) end))))) (more (child (node Kind.BlockStatement 7 (more (list (trees (node Kind.IfStatement 8 (more (child (node Kind.CallExpression 9 (more (child (node Kind.IdentifierReference 10 (more (string (codes "d")) end))) (more (list (trees (node Kind.ClassExpression 11 (more absent (more absent (more (child (node Kind.ClassBody 12 (more (list (trees (node Kind.PropertyDefinition 13 (more (child (node Kind.IdentifierName 14 (more (string (codes "x")) end))) (more (child (node Kind.Literal 15 (more (literal (literal_value.Number (codes "1"))) end))) (more (boolean false) (more (boolean false) end)))) ∷ []))) end))) end))) ∷ []))) (more (boolean false) end))))) (more (child (node Kind.BreakStatement 16 (more absent end))) (more absent end))) ∷ []))) end))) end)) ∷ []))) end))

-- a `break` in a new arrow, in a script with a name `await`, where `var await; while (c()) { if (d(class { constructor() { B.defineProperty(this, "x", 1); } })) break; }` is right
abbrev pub output_break_in_an_arrow_beside_await : Tree
output_break_in_an_arrow_beside_await = node Kind.Program 0 (more (string (codes "script")) (more (list (trees (node Kind.VariableDeclaration 1 (more (string (codes "var")) (more (list (trees (node Kind.VariableDeclarator 2 (more (child (node Kind.BindingIdentifier 3 (more (string (codes "await")) end))) (more absent end)) ∷ []))) end)) ∷ node Kind.WhileStatement 4 (more (child (node Kind.CallExpression 5 (more (child (node Kind.IdentifierReference 6 (more (string (codes "c")) end))) (more (list end) (more (boolean false) end))))) (more (child (node Kind.BlockStatement 7 (more (list (trees (node Kind.ExpressionStatement 17 (more (child (node Kind.CallExpression 18 (more (child (node Kind.ArrowFunctionExpression 19 (more (list end) (more (child (node Kind.BlockStatement 20 (more (list (trees (node Kind.IfStatement 8 (more (child (node Kind.CallExpression 9 (more (child (node Kind.IdentifierReference 10 (more (string (codes "d")) end))) (more (list (trees (node Kind.ClassExpression 11 (more absent (more absent (more (child (node Kind.ClassBody 12 (more (list (trees (node Kind.MethodDefinition 21 (more (child (node Kind.IdentifierName 22 (more (string (codes "constructor")) end))) (more (child (node Kind.FunctionExpression 23 (more absent (more (list end) (more (child (node Kind.BlockStatement 24 (more (list (trees (node Kind.ExpressionStatement 25 (more (child (node Kind.CallExpression 26 (more (child (node Kind.MemberExpression 27 (more (child (node Kind.IdentifierReference 28 (more (string (codes "babelHelpers")) end))) (more (child (node Kind.IdentifierName 29 (more (string (codes "defineProperty")) end))) (more (boolean false) (more (boolean false) end)))))) (more (list (trees (node Kind.ThisExpression 30 end ∷ node Kind.Literal 31 (more (literal (literal_value.String (codes "x") None)) end) ∷ node Kind.Literal 15 (more (literal (literal_value.Number (codes "1"))) end) ∷ []))) (more (boolean false) end))))) (more no_string end)) ∷ []))) end))) (more (boolean false) (more (boolean false) end))))))) (more (string (codes "constructor")) (more (boolean false) (more (boolean false) end))))) ∷ []))) end))) end))) ∷ []))) (more (boolean false) end))))) (more (child (node Kind.BreakStatement 16 (more absent end))) (more absent end))) ∷ []))) end))) (more (boolean false) end))))) (more (list end) (more (boolean false) end))))) (more no_string end)) ∷ []))) end))) end)) ∷ []))) end))

abbrev pub generated_break_in_an_arrow_beside_await : List LedgerEntry
generated_break_in_an_arrow_beside_await = []

abbrev pub options_break_in_an_arrow_beside_await : Options
options_break_in_an_arrow_beside_await = options_of false (Some (record { loose = false })) false
